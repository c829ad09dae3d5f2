use Rattle.std.proofs.Common.{◌≡◌, map, drop}
use Rattle.std.specs.List.{list_all}
use Rattle.run_text.specs.Words.{is_known}
use Rattle.run_text.proofs.words.are_known.Given as goal

-- the words so far have names that there are
abbrev pub invariant-loop-word : goal.invariant-loop-word
invariant-loop-word l = list_all is_known (map (λ word. word.items) l.words) ≡ list_all is_known (map (λ word. word.items) (drop l.word-index l.words))
