-- Inside the crate: operations in rows, as the lists of `OpRows` have them, and what is true of these lists
use Rattle.std.specs.Prelude.{◌≡◌, ℕ, ◌+◌, ◌<◌, ◌≤◌, List, length, map, take, drop, slice_index_or}
use Rattle.std.specs.List.{range_with_len, sum_by}
use Rattle.morph_base.specs.declared.limits.TheConstants.{FIRST_MAX, READS}
use Rattle.morph_base.specs.declared.key.Key.{Key}
use Rattle.morph_base.specs.declared.operation.Func.TheVariants.{Keep}
use Rattle.morph_base.specs.declared.operation.Op.{Op}
use Rattle.morph_base.specs.declared.op_rows.OpHead.{OpHead}
use Rattle.morph_base.specs.declared.op_rows.OpLimits.{OpLimits}
use Rattle.morph_base.specs.declared.op_rows.OpRows.TheInside.{Inside}
use Rattle.morph_base.specs.Operations.{no_key, op_of, limited_to}
use Rattle.morph_base.specs.OpRows.{keys_kept}

-- The limits past the end of a list: those of version 1, and no floor
abbrev pub first_limits : OpLimits
first_limits = record { low = 0; high = FIRST_MAX }

-- The head past the end of a list
abbrev pub no_row_head : OpHead
no_row_head = record { c = 0; place = 0; func = Keep; n_params = 0; width = 0 }

-- The head of operation o
abbrev pub row_head_at : List OpHead → ℕ → OpHead
row_head_at heads o = slice_index_or heads o no_row_head

-- The limits of operation o
abbrev pub row_limits_at : List OpLimits → ℕ → OpLimits
row_limits_at limits o = slice_index_or limits o first_limits

-- The row of an operation in the list that has the rows of all
abbrev pub key_row : OpHead → List Key → List Key
key_row h keys = take h.width (drop h.place keys)

-- The operation of version 1 with this head and this row: its target and then its parameters. It may say that it has
-- another number of parameters than stand in its row
abbrev pub op_headed : OpHead → (ks : List Key) → Op
op_headed h ks = record (op_of h.func (slice_index_or ks 0 no_key) (drop 1 ks) h.c) { n_params = h.n_params }

-- The same with these limits
abbrev pub op_made : OpLimits → OpHead → (ks : List Key) → Op
op_made l h ks = limited_to l.low l.high (op_headed h ks)

-- Operation o
unfoldable pub row_op : List OpHead → List Key → List OpLimits → ℕ → Op
row_op heads keys limits o =
    op_made (row_limits_at limits o) (row_head_at heads o) (key_row (row_head_at heads o) keys)

-- All operations
unfoldable pub row_ops : List OpHead → List Key → List OpLimits → List Op
row_ops heads keys limits = map (row_op heads keys limits) (range_with_len 0 (length heads))

-- The operations that the lists hold
abbrev pub ops_in_rows : Inside → List Op
ops_in_rows s = row_ops s.heads.items s.keys.items s.limits.items

-- How long the row of a head is
abbrev pub width_in : OpHead → ℕ
width_in h = h.width

-- The head of an operation whose keys stand so many places further back
abbrev pub shifted : ℕ → OpHead → OpHead
shifted base h = record h { place = base + h.place }

-- Each operation has a row of 1 to READS keys, as many as are kept of it. The rows stand one behind another
pub record AreKeyRows (heads : List OpHead) (keys : List Key) (limits : List OpLimits) : Type 0 where
  pub limited : length limits ≤ length heads
  pub some : (o : ℕ) → o < length heads → 0 < (row_head_at heads o).width
  pub few : (o : ℕ) → o < length heads → (row_head_at heads o).width ≤ READS
  pub inside : (o : ℕ) → o < length heads → (row_head_at heads o).place + (row_head_at heads o).width ≤ length keys
  pub begins : (o : ℕ) → o < length heads → (row_head_at heads o).place ≡ sum_by width_in (take o heads)
  pub whole : length keys ≡ sum_by width_in heads
  pub tight : (o : ℕ) → o < length heads → (row_head_at heads o).width ≡ keys_kept (row_op heads keys limits o)

-- So are the lists of `OpRows`, and each key has a place below 2^32
pub record AreOpRows (s : Inside) : Type 0 where
  pub rows : AreKeyRows s.heads.items s.keys.items s.limits.items
  pub fits : length s.keys.items < 4294967296
