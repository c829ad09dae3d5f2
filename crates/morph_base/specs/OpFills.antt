-- Inside the crate: the words of bases, filled in from a state
use Rattle.std.specs.Prelude.{◌≡◌, ℕ, ◌+◌, ◌≤◌, ◌<◌, List, length, slice_index_or}
use Rattle.morph_base.specs.declared.key.Key.{Key}
use Rattle.morph_base.specs.declared.key.Layout.{Layout}
use Rattle.morph_base.specs.declared.operation.Op.{Op}
use Rattle.morph_base.specs.declared.plan.Origin.{Origin}
use Rattle.morph_base.specs.declared.plan.Origin.TheVariants.{Base, Op as Written}
use Rattle.morph_base.specs.Operations.{no_key, no_op, InLayout}
use Rattle.morph_base.specs.OpRows.{all_keys, keys_kept, keys_before}
use Rattle.morph_base.specs.OpParts.{origin_of}
use Rattle.morph_base.specs.States.{State}

-- The key at place j of operation o
abbrev pub kept_key : List Op → ℕ → ℕ → Key
kept_key ops o j = slice_index_or (all_keys (slice_index_or ops o no_op)) j no_key

-- The source with a base replaced by this value
abbrev pub with_base : ℕ → Origin → Origin
with_base x (Base v) = Base x
with_base x (Written t) = Written t

-- The new word names the source that the old one named, with a base replaced by the value of the key
abbrev pub IsFilled : State → Key → (old new : ℕ) → Type 0
IsFilled s key old new = origin_of new ≡ with_base (s key) (origin_of old)

-- The keys of the first `end` places are in the layout
abbrev pub AreKeysIn : Layout → List Op → ℕ → Type 0
AreKeysIn layout ops end =
    (o j : ℕ) → o < length ops → j < keys_kept (slice_index_or ops o no_op) → keys_before ops o + j < end → InLayout layout (kept_key ops o j)

-- The words of the first `end` places are filled in, and the others stay
pub record AreFilled (s : State) (ops : List Op) (end : ℕ) (old new : List ℕ) : Type 0 where
  pub long : length new ≡ length old
  pub rest : (k : ℕ) → end ≤ k → slice_index_or new k 0 ≡ slice_index_or old k 0
  pub filled : (o j : ℕ) → o < length ops → j < keys_kept (slice_index_or ops o no_op) → keys_before ops o + j < end
      → IsFilled s (kept_key ops o j) (slice_index_or old (keys_before ops o + j) 0) (slice_index_or new (keys_before ops o + j) 0)
