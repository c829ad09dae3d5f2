-- The words of the program, from its arguments
use Rattle.std.specs.Prelude.{ℕ, List, map, drop, String, string_bytes}

-- The arguments behind the program's name, as bytes
abbrev pub words_behind : {A : Type 0} → List (String A) → List (List ℕ)
words_behind args = map string_bytes (drop 1 args)
