-- Operations in rows behind other ones: what they are, and that the rows are right.
use Rattle.std.proofs.Common.{◌≡◌, ℕ, ◌+◌, ◌-◌, ◌<◌, ◌≤◌, List, [], ◌∷◌, ◌++◌, length, get_or, take, drop, map, inl, inr, refl, sym, ap, subst, ◌∙◌, arith, length-append}
use Rattle.std.specs.List.{sum_by}
use Rattle.std.proofs.lemmas.Bool.{cases_lt}
use Rattle.std.proofs.lemmas.List.{length-map, get_or-map, get_or_append_left, get_or-append-add, take-append-le, take-map, drop-drop, drop_at}
use Rattle.std.proofs.lemmas.List.Sums.{sum_by-append, sum_by-cons}
use Rattle.std.proofs.lemmas.List.FromFn.{fill_by_all}
use Rattle.std.proofs.Math.Seq.{take-append-add}
use Rattle.morph_base.specs.declared.key.Key.{Key}
use Rattle.morph_base.specs.declared.operation.Op.{Op}
use Rattle.morph_base.specs.declared.op_rows.OpHead.{OpHead}
use Rattle.morph_base.specs.declared.op_rows.OpLimits.{OpLimits}
use Rattle.morph_base.specs.Operations.{no_op}
use Rattle.morph_base.specs.OpRows.{keys_kept}
use Rattle.morph_base.specs.RowViews.{no_row_head, row_head_at, row_limits_at, key_row, op_made, row_op, row_ops, width_in, shifted, AreKeyRows}
use Rattle.morph_base.proofs.OpRowLaws.{row-append}
use Rattle.morph_base.proofs.RowViewLaws.{count_rows, row_is}

-- the operations are the list that has each of them at its place
rows_by : (heads : List OpHead) (keys : List Key) (limits : List OpLimits) (ops : List Op) → length ops ≡ length heads
    → ((k : ℕ) → k < length heads → get_or ops k no_op ≡ row_op heads keys limits k) → ops ≡ row_ops heads keys limits
unfolding row_ops
rows_by heads keys limits ops count each = fill_by_all (row_op heads keys limits) ops (length heads) no_op count each

-- parts that are equal one by one make the same operation, wherever its row stands
made_same : {l l' : OpLimits} {h h' : OpHead} {ks ks' : List Key} → l ≡ l' → h ≡ h' → ks ≡ ks'
    → op_made l h ks ≡ op_made l' h' ks'
made_same a b c = cc

widths-shifted : (base : ℕ) (heads : List OpHead) → sum_by width_in (map (shifted base) heads) ≡ sum_by width_in heads
widths-shifted base [] = refl
widths-shifted base (h ∷ hs) =
    sum_by-cons width_in (shifted base h) (map (shifted base) hs)
    ∙ ap (λ (n : ℕ). h.width + n) (widths-shifted base hs) ∙ sym (sum_by-cons width_in h hs)

-- rows behind other ones, and a list of limits that agrees with those of both
module _ (heads more_heads : List OpHead) (keys more_keys : List Key) (limits more_limits all_limits : List OpLimits)
    (are : AreKeyRows heads keys limits) (more_are : AreKeyRows more_heads more_keys more_limits)
    (short : length all_limits ≤ length heads + length more_heads)
    (before : (k : ℕ) → k < length heads → row_limits_at all_limits k ≡ row_limits_at limits k)
    (behind : (k : ℕ) → row_limits_at all_limits (length heads + k) ≡ row_limits_at more_limits k) where
  abbrev pub all_heads : List OpHead
  all_heads = heads ++ map (shifted (length keys)) more_heads

  count : length all_heads ≡ length heads + length more_heads
  count =
      length-append heads (map (shifted (length keys)) more_heads)
      ∙ ap (λ (n : ℕ). length heads + n) (length-map more_heads (shifted (length keys)))

  head_before : (k : ℕ) → k < length heads → row_head_at all_heads k ≡ row_head_at heads k
  head_before k lt = get_or_append_left heads (map (shifted (length keys)) more_heads) no_row_head k lt

  head_behind : (k : ℕ) → k < length more_heads
      → row_head_at all_heads (length heads + k) ≡ shifted (length keys) (row_head_at more_heads k)
  head_behind k lt =
      get_or-append-add heads (map (shifted (length keys)) more_heads) k no_row_head
      ∙ get_or-map (shifted (length keys)) more_heads k no_row_head no_row_head lt

  op_before : (k : ℕ) → k < length heads
      → row_op all_heads (keys ++ more_keys) all_limits k ≡ row_op heads keys limits k
  unfolding row_op
  op_before k lt =
      let h = row_head_at heads k in
      let row : key_row (row_head_at all_heads k) (keys ++ more_keys) ≡ key_row h keys
      = ap (λ (x : OpHead). key_row x (keys ++ more_keys)) (head_before k lt)
      ∙ row-append h.width h.place keys more_keys (are.inside k lt) in
      made_same (before k lt) (head_before k lt) row

  op_behind : (k : ℕ) → k < length more_heads
      → row_op all_heads (keys ++ more_keys) all_limits (length heads + k) ≡ row_op more_heads more_keys more_limits k
  unfolding row_op
  op_behind k lt =
      let h = row_head_at more_heads k in
      let row : key_row (row_head_at all_heads (length heads + k)) (keys ++ more_keys) ≡ key_row h more_keys
      = ap (λ (x : OpHead). key_row x (keys ++ more_keys)) (head_behind k lt)
      ∙ ap (take h.width) (sym (drop-drop h.place (length keys) (keys ++ more_keys)))
      ∙ ap (λ (l : List Key). take h.width (drop h.place l)) (drop_at keys more_keys (length keys) refl) in
      made_same (behind k) (head_behind k lt) row

  -- what holds of the ones and of the others holds of all
  in_both : (P : ℕ → Type 0) → ((k : ℕ) → k < length heads → P k)
      → ((k : ℕ) → k < length more_heads → P (length heads + k)) → (o : ℕ) → o < length all_heads → P o
  in_both P first second o lt =
      elim (cases_lt o (length heads)) [
        | inl front ↦ first o front
        | inr back ↦ (
            let place : length heads + (o - length heads) ≡ o = omega arith in
            subst P place (second (o - length heads) (omega (arith, count))))
      ]

  pub rows_appended : row_ops all_heads (keys ++ more_keys) all_limits
      ≡ row_ops heads keys limits ++ row_ops more_heads more_keys more_limits
  rows_appended =
      let ones = row_ops heads keys limits in
      let others = row_ops more_heads more_keys more_limits in
      let now = row_op all_heads (keys ++ more_keys) all_limits in
      let ones_count : length ones ≡ length heads = count_rows heads keys limits in
      let others_count : length others ≡ length more_heads = count_rows more_heads more_keys more_limits in
      let long : length (ones ++ others) ≡ length all_heads
      = omega (arith, length-append ones others, ones_count, others_count, count) in
      let P : ℕ → Type 0 = λ k. get_or (ones ++ others) k no_op ≡ now k in
      sym (rows_by all_heads (keys ++ more_keys) all_limits (ones ++ others) long
      (in_both P
      (λ k lt.
      get_or_append_left ones others no_op k (omega (arith, ones_count))
      ∙ row_is heads keys limits k no_op lt ∙ sym (op_before k lt))
      (λ k lt.
      ap (λ (n : ℕ). get_or (ones ++ others) (n + k) no_op) (sym ones_count)
      ∙ get_or-append-add ones others k no_op
      ∙ row_is more_heads more_keys more_limits k no_op lt ∙ sym (op_behind k lt))))

  pub rows_appended_are : AreKeyRows all_heads (keys ++ more_keys) all_limits
  rows_appended_are = record {
    limited = omega (arith, count);
    some = in_both (λ o. 0 < (row_head_at all_heads o).width)
        (λ k lt. omega (arith, ap width_in (head_before k lt), are.some k lt))
        (λ k lt. omega (arith, ap width_in (head_behind k lt), more_are.some k lt));
    few = in_both (λ o. (row_head_at all_heads o).width ≤ 8)
        (λ k lt. omega (arith, ap width_in (head_before k lt), are.few k lt))
        (λ k lt. omega (arith, ap width_in (head_behind k lt), more_are.few k lt));
    inside = in_both (λ o. (row_head_at all_heads o).place + (row_head_at all_heads o).width ≤ length
        (keys ++ more_keys))
        (λ k lt. omega (
          arith,
          ap width_in (head_before k lt),
          ap (λ (h : OpHead). h.place) (head_before k lt),
          are.inside k lt,
          length-append keys more_keys,
        ))
        (λ k lt. omega (
          arith,
          ap width_in (head_behind k lt),
          ap (λ (h : OpHead). h.place) (head_behind k lt),
          more_are.inside k lt,
          length-append keys more_keys,
        ));
    begins = in_both (λ o. (row_head_at all_heads o).place ≡ sum_by width_in (take o all_heads))
        (λ k lt.
        ap (λ (h : OpHead). h.place) (head_before k lt) ∙ are.begins k lt
        ∙ ap (sum_by width_in) (sym (take-append-le k heads (map (shifted (length keys)) more_heads) (omega arith))))
        (λ k lt.
        let rest : List OpHead = take k more_heads in
        let front : take (length heads + k) all_heads ≡ heads ++ map (shifted (length keys)) rest
        = take-append-add heads (map (shifted (length keys)) more_heads) k
        ∙ ap (λ (l : List OpHead). heads ++ l) (take-map (shifted (length keys)) k more_heads) in
        let widths : sum_by width_in (heads ++ map (shifted (length keys)) rest)
        ≡ sum_by width_in heads + sum_by width_in rest
        = sum_by-append width_in heads (map (shifted (length keys)) rest)
        ∙ ap (λ (n : ℕ). sum_by width_in heads + n) (widths-shifted (length keys) rest) in
        let both : length keys + (row_head_at more_heads k).place ≡ sum_by width_in heads + sum_by width_in rest
        = omega (arith, are.whole, more_are.begins k lt) in
        ap (λ (h : OpHead). h.place) (head_behind k lt) ∙ both ∙ sym widths ∙ ap (sum_by width_in) (sym front));
    whole =
        let widths : sum_by width_in all_heads ≡ sum_by width_in heads + sum_by width_in more_heads
        = sum_by-append width_in heads (map (shifted (length keys)) more_heads)
        ∙ ap (λ (n : ℕ). sum_by width_in heads + n) (widths-shifted (length keys) more_heads) in
        omega (arith, widths, are.whole, more_are.whole, length-append keys more_keys);
    tight = in_both (λ o. (row_head_at all_heads o).width ≡ keys_kept
        (row_op all_heads (keys ++ more_keys) all_limits o))
        (λ k lt. ap width_in (head_before k lt) ∙ are.tight k lt ∙ ap keys_kept (sym (op_before k lt)))
        (λ k lt. ap width_in (head_behind k lt) ∙ more_are.tight k lt ∙ ap keys_kept (sym (op_behind k lt)));
  }

  -- so with lists that are equal to these
  module _ (now_heads : List OpHead) (now_keys : List Key) (base : ℕ) (at : base ≡ length keys)
      (heads_are : now_heads ≡ heads ++ map (shifted base) more_heads) (keys_are : now_keys ≡ keys ++ more_keys) where
    all_heads_are : all_heads ≡ now_heads
    all_heads_are = ap (λ (n : ℕ). heads ++ map (shifted n) more_heads) (sym at) ∙ sym heads_are

    pub appended_view : row_ops now_heads now_keys all_limits
        ≡ row_ops heads keys limits ++ row_ops more_heads more_keys more_limits
    appended_view =
        ap (λ (l : List OpHead). row_ops l now_keys all_limits) (sym all_heads_are)
        ∙ ap (λ (l : List Key). row_ops all_heads l all_limits) keys_are ∙ rows_appended

    pub appended_are : AreKeyRows now_heads now_keys all_limits
    appended_are =
        let with_heads : List OpHead → Type 0 = λ l. AreKeyRows l now_keys all_limits in
        let with_keys : List Key → Type 0 = λ l. AreKeyRows all_heads l all_limits in
        subst with_heads all_heads_are (subst with_keys (sym keys_are) rows_appended_are)
