-- The state of a run stays within the greatest value of what its reader gives.
use Rattle.std.proofs.Common.{◌≡◌, ℕ, ◌<◌, length, All, zero-le, subst, sym}
use Rattle.morph_base.specs.declared.batch.Batch.{Batch}
use Rattle.morph_base.specs.States.{State, IsUpTo, opening_state}
use Rattle.morph_base.specs.Transactions.{HasHigh, IsBatch, high_of_all, transactions_of}
use Rattle.morph_base.proofs.BoundLaws.{high_of_all-alike}

-- a run opens within each bound
pub opens_small : (bound : ℕ) (s : State) → s ≡ opening_state → IsUpTo bound s
opens_small bound s opening = subst (IsUpTo bound) (sym opening) (λ key. zero-le)

-- a batch that is given has that greatest value
pub batch_small : (high : ℕ) (b : Batch) (s : State) → 0 < length (transactions_of b) → IsBatch b → All (HasHigh high) (transactions_of b) → IsUpTo high s
    → IsUpTo (high_of_all (transactions_of b)) s
batch_small high b s some valid all small =
    subst (λ n. IsUpTo n s)
    (sym (high_of_all-alike high (transactions_of b) some valid.valid all)) small
