use Rattle.std.proofs.Common.{◌≡◌, map, drop}
use Rattle.run_text.specs.Words.{value_under}
use Rattle.run_text.proofs.words.value_under.Given as goal

-- no word so far has the name
abbrev pub invariant-loop-word : goal.invariant-loop-word
invariant-loop-word l = value_under l.name (map (λ word. word.items) l.words) ≡ value_under l.name (map (λ word. word.items) (drop l.word-index l.words))
