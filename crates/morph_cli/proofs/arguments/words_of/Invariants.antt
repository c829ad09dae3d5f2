use Rattle.std.proofs.Common.{◌≡◌, map, take}
use Rattle.std.specs.Prelude.{string_bytes}
use Rattle.morph_cli.proofs.arguments.words_of.Given as goal

abbrev pub invariant-loop-arg : goal.invariant-loop-arg
invariant-loop-arg l = map (λ word. word.items) l.words.items ≡ map string_bytes (take l.arg-index l.rest)
