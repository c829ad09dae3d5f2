use Rattle.std.proofs.Common.{◌≡◌, take}
use Rattle.std.specs.Prelude.{count_by}
use Rattle.run_text.specs.Words.{has_name}
use Rattle.run_text.proofs.words.is_once.Given as goal

abbrev pub invariant-loop-word : goal.invariant-loop-word
invariant-loop-word l = l.count ≡ count_by (λ word. has_name l.name word.items) (take l.word-index l.words)
