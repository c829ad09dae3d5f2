-- Inside the crate: the lists of `PlanOps` as what contracts see, and what is true of them
use Rattle.std.specs.Prelude.{◌≡◌, ℕ, ◌+◌, ◌<◌, ◌≤◌, List, length, map, take, drop, All, slice_index_or}
use Rattle.std.specs.List.{range_with_len}
use Rattle.morph_base.specs.declared.operation.Op.{Op}
use Rattle.morph_base.specs.declared.plan.PlanOp.{PlanOp}
use Rattle.morph_base.specs.declared.plan_ops.OpMark.{OpMark}
use Rattle.morph_base.specs.declared.plan_ops.PlanOps.TheInside.{Inside}
use Rattle.morph_base.specs.Operations.{no_op, IsShaped}
use Rattle.morph_base.specs.OpRows.{keys_kept, keys_before}
use Rattle.morph_base.specs.OpParts.{origins_in, no_mark}
use Rattle.morph_base.specs.OpLists.{OpList}

-- The words of operation o, which has as many places as keys
abbrev pub words_of : List Op → List ℕ → ℕ → List ℕ
words_of ops places o = take (keys_kept (slice_index_or ops o no_op)) (drop (keys_before ops o) places)

-- Operation o, of these parts
unfoldable pub marked_op : List Op → List OpMark → List ℕ → ℕ → PlanOp
marked_op ops marks places o = record {
  op = slice_index_or ops o no_op;
  event = (slice_index_or marks o no_mark).event;
  origins = origins_in (words_of ops places o);
  level = (slice_index_or marks o no_mark).level;
}

-- All operations that have a mark
unfoldable pub marked_ops : List Op → List OpMark → List ℕ → List PlanOp
marked_ops ops marks places = map (marked_op ops marks places) (range_with_len 0 (length marks))

-- The operations that the lists hold
abbrev pub plan_ops_of : Inside → OpList
plan_ops_of s = record {
  items = marked_ops s.rows s.marks.items s.places.items;
  coming = drop (length s.marks.items) s.rows;
}

-- The operations have valid shapes, and a place for each key that they read. Those that are to come have no source yet,
-- and there is room for their marks
pub record ArePlanOps (s : Inside) : Type 0 where
  pub shaped : All IsShaped s.rows
  pub marked : length s.marks.items ≤ length s.rows
  pub room : length s.rows ≤ length s.marks.items + s.marks.room
  pub whole : length s.places.items ≡ keys_before s.rows (length s.rows)
  pub fits : length s.places.items < 4294967296
  pub blank : (i : ℕ) → keys_before s.rows (length s.marks.items) ≤ i → slice_index_or s.places.items i 0 ≡ 0
