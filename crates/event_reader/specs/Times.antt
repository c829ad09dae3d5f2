-- Inside the crate: timestamps as a list in some order
use Rattle.std.specs.Prelude.{ℕ, Bool, ◌==◌, List}
use Rattle.std.specs.List.{list_any}

-- The test whether a timestamp is in a list
abbrev pub is_among : List ℕ → ℕ → Bool
is_among times ts = list_any (λ t. t == ts) times
