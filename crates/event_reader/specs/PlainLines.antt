-- Lines of one letter and numbers
use Rattle.std.specs.Prelude.{ℕ, List, [], ◌∷◌, ◌++◌, decimal}

-- The decimal digits of each number, with one space in front of each number
unfoldable pub spaced : List ℕ → List ℕ
spaced [] = []
spaced (n ∷ ns) = 32 ∷ (decimal n ++ spaced ns)

-- The letter, followed by the numbers
abbrev pub plain_line : (letter : ℕ) → List ℕ → List ℕ
plain_line letter ns = letter ∷ spaced ns
