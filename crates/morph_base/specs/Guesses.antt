-- The guess of an operation: what it answers on the guesses of its sources, or, if it fails, the guess of its target's
-- source. A guess names no order of execution
use Rattle.std.specs.Prelude.{◌≡◌, ℕ, zero, suc, ◌<◌, Bool, ◌==◌, not, List, [], ◌∷◌, ◌++◌, count_by, slice_index, unwrap_or}
use Rattle.std.specs.List.{list_any}
use Rattle.morph_base.specs.declared.plan.Plan.{Plan}
use Rattle.morph_base.specs.Plans.{op_count, origins_of, final}
use Rattle.morph_base.specs.Clean.{from, source, outcome}
use Rattle.morph_base.specs.Graphs.{below}

-- Each operation's guess in g is its answer on the guesses of its sources, or, if it fails, the guess of its target's
-- source
pub record IsGuess (p : Plan) (g : ℕ → ℕ) : Type 0 where
  pub at : (o : ℕ) → o < op_count p → g o ≡ unwrap_or (outcome p g o) (source p g o 0)

-- The guesses of the first n operations. A source has a smaller number than what reads from it
unfoldable pub guesses : Plan → ℕ → List ℕ
guesses p zero = []
guesses p (suc n) =
    let known = guesses p n in let g : ℕ → ℕ = slice_index known in known ++ unwrap_or (outcome p g n) (source p g n 0) ∷ []

-- The guess of operation o
unfoldable pub guess : Plan → ℕ → ℕ
guess p o = slice_index (guesses p (op_count p)) o

-- The test whether operation o has a source whose guess differs from the fold's value
abbrev pub is_stale : Plan → ℕ → Bool
is_stale p o = list_any (λ origin. not (from (guess p) origin == from (final p) origin)) (origins_of p o)

-- The number of operations with a source whose guess differs from the fold's value
abbrev pub stale_count : Plan → ℕ
stale_count p = count_by (is_stale p) (below (op_count p))
