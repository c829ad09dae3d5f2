-- What contracts see of operations in rows: how many they are, what one of them is, and how many keys stand before it.
use Rattle.std.proofs.Common.{◌≡◌, ℕ, zero, suc, ◌+◌, ◌-◌, ◌<◌, ◌≤◌, List, [], ◌++◌, length, get_or, take, drop, replicate, refl, sym, ap, ◌∙◌, arith, le_refl}
use Rattle.std.specs.List.{sum_by}
use Rattle.std.proofs.lemmas.List.Sums.{sum_by_more}
use Rattle.std.proofs.lemmas.List.{drop_more, take_all, get_or_append_left, nil_from_length}
use Rattle.std.proofs.lemmas.List.FromFn.{length-map-range_with_len, get_or-map-range_with_len}
use Rattle.morph_base.specs.declared.limits.TheConstants.{PARAMS}
use Rattle.morph_base.specs.declared.key.Key.{Key}
use Rattle.morph_base.specs.declared.operation.Op.{Op}
use Rattle.morph_base.specs.declared.op_rows.OpHead.{OpHead}
use Rattle.morph_base.specs.declared.op_rows.OpLimits.{OpLimits}
use Rattle.morph_base.specs.Functions.{value_of, result_of}
use Rattle.morph_base.specs.Operations.{no_key, no_op}
use Rattle.morph_base.specs.OpRows.{keys_kept, keys_before, all_keys}
use Rattle.morph_base.specs.RowViews.{row_head_at, row_limits_at, key_row, op_made, row_op, row_ops, width_in, AreKeyRows}
use Rattle.morph_base.proofs.OpRowLaws.{length_row, get_or_row}

module _ (heads : List OpHead) (keys : List Key) (limits : List OpLimits) where
  pub count_rows : length (row_ops heads keys limits) ≡ length heads
  unfolding row_ops
  count_rows = length-map-range_with_len (row_op heads keys limits) 0 (length heads)

  pub row_is : (o : ℕ) (d : Op) → o < length heads → get_or (row_ops heads keys limits) o d ≡ row_op heads keys limits o
  unfolding row_ops
  row_is o d inside = get_or-map-range_with_len (row_op heads keys limits) 0 (length heads) o o d inside (omega arith)

-- the keys of an operation that is made of a row begin with that row
keys_made : (l : OpLimits) (h : OpHead) (ks : List Key) → 0 < length ks
    → all_keys (op_made l h ks) ≡ ks ++ replicate (PARAMS - length (drop 1 ks)) no_key
keys_made l h ks some =
    ap (λ (xs : List Key). xs ++ replicate (PARAMS - length (drop 1 ks)) no_key) (sym (drop_more ks 0 no_key some))

-- operations in rows, as a list
module _ (heads : List OpHead) (keys : List Key) (limits : List OpLimits) (ops : List Op)
    (is : row_ops heads keys limits ≡ ops) (are : AreKeyRows heads keys limits) where
  pub count_is : length ops ≡ length heads
  count_is = ap length (sym is) ∙ count_rows heads keys limits

  module _ (o : ℕ) (lt : o < length ops) where
    pub inner : o < length heads
    inner = omega (arith, count_is)

    pub op_is : get_or ops o no_op ≡ row_op heads keys limits o
    op_is = ap (λ (l : List Op). get_or l o no_op) (sym is) ∙ row_is heads keys limits o no_op inner

    pub made_is : get_or ops o no_op
        ≡ op_made (row_limits_at limits o) (row_head_at heads o) (key_row (row_head_at heads o) keys)
    unfolding row_op
    made_is = op_is

    pub width_is : keys_kept (get_or ops o no_op) ≡ (row_head_at heads o).width
    width_is = ap keys_kept op_is ∙ sym (are.tight o inner)

    pub row_long : length (key_row (row_head_at heads o) keys) ≡ (row_head_at heads o).width
    row_long = length_row (row_head_at heads o).width (row_head_at heads o).place keys (are.inside o inner)

    -- the place of a key in the list, and that it is in it
    pub inside_is : (j : ℕ) → j < keys_kept (get_or ops o no_op) → (row_head_at heads o).place + j < length keys
    inside_is j place = omega (arith, width_is, are.inside o inner)

    pub key_is : (j : ℕ) → j < keys_kept (get_or ops o no_op)
        → get_or (all_keys (get_or ops o no_op)) j no_key ≡ get_or keys ((row_head_at heads o).place + j) no_key
    key_is j place =
        let h = row_head_at heads o in
        let ks : List Key = key_row h keys in
        let rest : List Key = replicate (PARAMS - length (drop 1 ks)) no_key in
        let some : 0 < length ks = omega (arith, row_long, are.some o inner) in
        let in_row : j < h.width = omega (arith, width_is) in
        ap (λ (op : Op). get_or (all_keys op) j no_key) made_is
        ∙ ap (λ (l : List Key). get_or l j no_key) (keys_made (row_limits_at limits o) h ks some)
        ∙ get_or_append_left ks rest no_key j (omega (arith, row_long))
        ∙ get_or_row h.width h.place j keys no_key in_row

    pub func_is : (get_or ops o no_op).func ≡ (row_head_at heads o).func
    func_is = ap (λ (op : Op). op.func) made_is

    pub constant_is : (get_or ops o no_op).c ≡ (row_head_at heads o).c
    constant_is = ap (λ (op : Op). op.c) made_is

    pub floor_is : (get_or ops o no_op).low ≡ (row_limits_at limits o).low
    floor_is = ap (λ (op : Op). op.low) made_is

    pub limit_is : (get_or ops o no_op).high ≡ (row_limits_at limits o).high
    limit_is = ap (λ (op : Op). op.high) made_is

    pub value_is : (xs : List ℕ) → value_of (get_or ops o no_op) xs
        ≡ result_of (row_limits_at limits o).low (row_limits_at limits o).high (row_head_at heads o).func
        (row_head_at heads o).c (get_or xs 0 0) (drop 1 xs)
    unfolding value_of
    value_is xs = rw (func_is, constant_is, floor_is, limit_is) refl

  -- how many keys stand before an operation
  pub before_is : (o : ℕ) → o ≤ length ops → keys_before ops o ≡ sum_by width_in (take o heads)
  before_is zero le = refl
  before_is (suc o) le =
      let lt : o < length ops = omega arith in
      let one : suc o ≡ o + 1 = omega arith in
      let front : keys_before ops (o + 1) ≡ keys_before ops o + keys_kept (get_or ops o no_op)
      = sum_by_more keys_kept ops o no_op lt in
      let widths : sum_by width_in (take (o + 1) heads) ≡ sum_by width_in (take o heads) + (row_head_at heads o).width
      = sum_by_more width_in heads o _ (inner o lt) in
      let both : keys_before ops (o + 1) ≡ sum_by width_in (take (o + 1) heads)
      = omega (arith, front, widths, width_is o lt, before_is o (omega arith)) in
      ap (keys_before ops) one ∙ both ∙ ap (λ (k : ℕ). sum_by width_in (take k heads)) (sym one)

  pub place_is : (o : ℕ) → o < length ops → keys_before ops o ≡ (row_head_at heads o).place
  place_is o lt = before_is o (omega arith) ∙ sym (are.begins o (inner o lt))

  -- all keys are those before the end
  pub keys_are : keys_before ops (length ops) ≡ length keys
  keys_are =
      before_is (length ops) (le_refl (length ops))
      ∙ ap (λ (hs : List OpHead). sum_by width_in hs) (take_all (length ops) heads (omega (arith, count_is)))
      ∙ sym are.whole

-- no operation
pub no_rows : (heads : List OpHead) (keys : List Key) (limits : List OpLimits) → heads ≡ []
    → row_ops heads keys limits ≡ []
no_rows heads keys limits none =
    nil_from_length (row_ops heads keys limits) (count_rows heads keys limits ∙ ap length none)

-- there are at least as many keys as operations
module _ (heads : List OpHead) (keys : List Key) (limits : List OpLimits) (are : AreKeyRows heads keys limits) where
  rise : (o : ℕ) → o ≤ length heads → o ≤ sum_by width_in (take o heads)
  rise zero le = omega arith
  rise (suc o) le =
      let lt : o < length heads = omega arith in
      let one : suc o ≡ o + 1 = omega arith in
      let more : sum_by width_in (take (o + 1) heads) ≡ sum_by width_in (take o heads) + (row_head_at heads o).width
      = sum_by_more width_in heads o _ lt in
      let same : sum_by width_in (take (suc o) heads) ≡ sum_by width_in (take (o + 1) heads)
      = ap (λ (n : ℕ). sum_by width_in (take n heads)) one in
      omega (arith, same, more, are.some o lt, rise o (omega arith))

  pub rows_few : length heads ≤ length keys
  rows_few =
      let all : sum_by width_in (take (length heads) heads) ≡ sum_by width_in heads
      = ap (sum_by width_in) (take_all (length heads) heads (le_refl (length heads))) in
      omega (arith, all, rise (length heads) (le_refl (length heads)), are.whole)
