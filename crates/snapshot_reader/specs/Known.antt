-- What contracts see of a viewer
use Rattle.std.specs.Prelude.{ℕ, ◌≡◌, Bool, List, []}
use Rattle.morph_base.specs.declared.key.Layout.{Layout}
use Rattle.morph_base.specs.declared.plan.Plan.{Plan}
use Rattle.snapshot_reader.specs.Batches.{StartsWith}

-- 4, the most viewers of one publisher
abbrev pub most_viewers : ℕ
most_viewers = 4

-- 1,000,000, the most ids of a table whose sum a viewer returns
abbrev pub most_ids : ℕ
most_ids = 1000000

-- What contracts see of a viewer: the layout, whether it has a reader, the greatest number of batches that it ever saw
-- or was told of, and the batches that it has seen and was told of since the publisher last told it
pub record Known : Type 0 where
  pub layout : Layout
  pub sees : Bool
  pub least : ℕ
  pub seen : List Plan
  pub told : List Plan

-- The viewer has seen nothing and was told of nothing
pub record IsNew (layout : Layout) (v : Known) : Type 0 where
  pub layout_is : v.layout ≡ layout
  pub least : v.least ≡ 0
  pub unseen : v.seen ≡ []
  pub untold : v.told ≡ []

-- From v to w the viewer looked again: what it has seen begins with all that it had seen and was told of
pub record LooksOn (v w : Known) : Type 0 where
  pub saw : StartsWith w.seen v.seen
  pub told : StartsWith w.seen v.told
  pub same : w.told ≡ v.told
