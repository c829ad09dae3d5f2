-- What every step leaves behind
use Rattle.std.specs.Prelude.{◌≡◌, ℕ, ◌≤◌, ◌<◌, Bool, Contains, Some}
use Rattle.morph_base.specs.declared.plan.Plan.{Plan}
use Rattle.morph_base.specs.Plans.{op_count}
use Rattle.interleaving_core.specs.declared.entry.Entry.{Entry}
use Rattle.interleaving_core.specs.declared.entry.Settling.{Settling}
use Rattle.interleaving_core.specs.Core.{Core, IsSettledIn}

-- What a worker saw in state c still says something in state d: attempts do not fall, and settled words, decisions and
-- all that was shown or settled stay
pub record Grows (p : Plan) (c d : Core) : Type 0 where
  pub attempts : (o : ℕ) → (c.word o).attempt ≤ (d.word o).attempt
  pub settled : (o : ℕ) → IsSettledIn c o → d.word o ≡ c.word o
  pub entries : (e : Entry) → Contains c.published e → Contains d.published e
  -- As long as the word of an operation is at an attempt that was shown before, the operation has the records that it
  -- had
  pub records :
      (o j : ℕ) (e : Entry) → o < op_count p → Contains c.published e → e.op ≡ o → e.attempt ≡ (d.word o).attempt
      → d.recorded o j ≡ c.recorded o j
  pub decisions : (i : ℕ) (committed : Bool) → c.decision i ≡ Some committed → d.decision i ≡ Some committed
  pub settlings : (x : Settling) → Contains c.settlings x → Contains d.settlings x
