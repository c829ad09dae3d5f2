-- The source of a read: the last operation of an earlier event whose target is the key read, or the value before the
-- batch if there is none. The definitions are over functions of a number: n operations, their targets and their events
use Rattle.std.specs.Prelude.{◌≡◌, ℕ, ◌≤◌, ◌<◌}
use Rattle.morph_base.specs.declared.key.Key.{Key}
use Rattle.morph_base.specs.declared.plan.Origin.{Origin}
use Rattle.morph_base.specs.declared.plan.Origin.TheVariants.{Base, Op as Written}

module _ (n : ℕ) (target : ℕ → Key) (event_of : ℕ → ℕ) where
  -- Operation t belongs to an event before event i, and changes the key
  pub record WritesKey (i : ℕ) (key : Key) (t : ℕ) : Type 0 where
    pub in_range : t < n
    pub earlier : event_of t < i
    pub target_is : target t ≡ key

  -- Operation s is the last one before event i that changes the key
  pub record IsLastWriter (i : ℕ) (key : Key) (s : ℕ) : Type 0 where
    pub itself : WritesKey i key s
    pub last : (t : ℕ) → WritesKey i key t → t ≤ s

  -- No operation before event i changes the key
  abbrev pub IsUnwritten : ℕ → Key → Type 0
  IsUnwritten i key = (t : ℕ) → WritesKey i key t → ⊥

  -- An operation of event i that reads the key has its value from this origin: from the last operation before event i
  -- that changes the key, or from before the batch if there is none
  abbrev pub IsSource : ℕ → Key → Origin → Type 0
  IsSource i key (Base v) = IsUnwritten i key
  IsSource i key (Written s) = IsLastWriter i key s
