-- Stages that a worker goes through, one after the other
use Rattle.std.specs.Prelude.{◌≡◌, ℕ, zero, suc}

-- The worker went from a to b by this many stages, of which stage s did what `does s` says
unfoldable pub InStages : {W : Type 0} → (ℕ → W → W → Type 0) → ℕ → W → W → Type 0
InStages does zero a b = b ≡ a
InStages {W} does (suc s) a b = (m : W) × InStages does s a m × does s m b
