-- Operations with their marks and the words of their sources: how many they are, what one of them is, one more, and one
-- with another word or mark.
use Rattle.std.proofs.Common.{◌≡◌, ℕ, ◌+◌, ◌<◌, ◌≤◌, ◌≢◌, inl, inr, List, [], ◌∷◌, ◌++◌, length, get_or, set, take, drop, map, replicate, refl, sym, ap, ◌∙◌, arith}
use Rattle.std.specs.List.{range_with_len}
use Rattle.std.proofs.lemmas.List.{length-set, length-replicate, get_or-replicate, get_or_append_left, get_or_push, length_push, get_or_default, same_lists, get_or-set_same, get_or-set_other}
use Rattle.std.proofs.lemmas.List.FromFn.{length-map-range_with_len, get_or-map-range_with_len, map-range_with_len_more, fill_by_all}
use Rattle.std.proofs.lemmas.Bool.{cases_eq, cases_lt}
use Rattle.morph_base.specs.declared.limits.TheConstants.{READS}
use Rattle.morph_base.specs.declared.operation.Op.{Op}
use Rattle.morph_base.specs.declared.plan.Origin.{Origin}
use Rattle.morph_base.specs.declared.plan.Origin.TheVariants.{Base}
use Rattle.morph_base.specs.declared.plan.PlanOp.{PlanOp}
use Rattle.morph_base.specs.declared.plan_ops.OpMark.{OpMark}
use Rattle.morph_base.specs.Operations.{no_op, IsShaped}
use Rattle.morph_base.specs.OpRows.{keys_kept, keys_before}
use Rattle.morph_base.specs.OpParts.{origin_of, origins_in, no_mark}
use Rattle.morph_base.specs.OpViews.{words_of, marked_op, marked_ops}
use Rattle.morph_base.proofs.OpRowLaws.{row-set_before, row-set_in, row-set_after, length_row, get_or_row, origins-set, blank_origins}
use Rattle.morph_base.proofs.OpKeptLaws.{kept_few, before_apart}

-- the operation of these parts
abbrev pub plan_op : Op → OpMark → List ℕ → PlanOp
plan_op op mark words = record { op = op; event = mark.event; origins = origins_in words; level = mark.level }

module _ (ops : List Op) (marks : List OpMark) (places : List ℕ) where
  pub count_marked : length (marked_ops ops marks places) ≡ length marks
  unfolding marked_ops
  count_marked = length-map-range_with_len (marked_op ops marks places) 0 (length marks)

  pub marked_is : (o : ℕ) (d : PlanOp) → o < length marks → get_or (marked_ops ops marks places) o d ≡ marked_op ops marks places o
  unfolding marked_ops
  marked_is o d inside = get_or-map-range_with_len (marked_op ops marks places) 0 (length marks) o o d inside (omega arith)

-- one operation more, whose sources are still to be set
module _ (ops : List Op) (marks : List OpMark) (places : List ℕ) (m : OpMark) where
  earlier : (o : ℕ) → o < length marks → marked_op ops (marks ++ m ∷ []) places o ≡ marked_op ops marks places o
  unfolding marked_op
  earlier o lt = ap (λ (x : OpMark). plan_op (get_or ops o no_op) x (words_of ops places o)) (get_or_append_left marks (m ∷ []) no_mark o lt)

  blank_words : keys_before ops (length marks) + keys_kept (get_or ops (length marks) no_op) ≤ length places
      → ((i : ℕ) → keys_before ops (length marks) ≤ i → get_or places i 0 ≡ 0)
      → words_of ops places (length marks) ≡ replicate (keys_kept (get_or ops (length marks) no_op)) 0
  blank_words inside blank =
      let k : ℕ = keys_before ops (length marks) in
      let n : ℕ = keys_kept (get_or ops (length marks) no_op) in
      let long : length (take n (drop k places)) ≡ n = length_row n k places inside in
      same_lists (take n (drop k places)) (replicate n 0) (long ∙ sym (length-replicate n 0)) (λ j d lt.
      let below : j < n = omega (arith, long) in
      let here : get_or (take n (drop k places)) j d ≡ get_or places (k + j) d = get_or_row n k j places d below in
      let known : get_or places (k + j) d ≡ get_or places (k + j) 0 = get_or_default places (k + j) d 0 (omega arith) in
      here ∙ known ∙ blank (k + j) (omega arith) ∙ sym (get_or-replicate n j 0 d below))

  newest : IsShaped (get_or ops (length marks) no_op)
      → keys_before ops (length marks) + keys_kept (get_or ops (length marks) no_op) ≤ length places
      → ((i : ℕ) → keys_before ops (length marks) ≤ i → get_or places i 0 ≡ 0)
      → marked_op ops (marks ++ m ∷ []) places (length marks)
      ≡ record { op = get_or ops (length marks) no_op; event = m.event; origins = replicate READS (Base 0); level = m.level }
  unfolding marked_op
  newest shaped inside blank =
      let op : Op = get_or ops (length marks) no_op in
      let mark : get_or (marks ++ m ∷ []) (length marks) no_mark ≡ m = get_or_push marks m no_mark (length marks) refl in
      let origins : origins_in (words_of ops places (length marks)) ≡ replicate READS (Base 0)
      = ap origins_in (blank_words inside blank) ∙ blank_origins (keys_kept op) (kept_few op shaped) in
      ap (λ (x : OpMark). plan_op op x (words_of ops places (length marks))) mark
      ∙ ap (λ (os : List Origin). record { op = op; event = m.event; origins = os; level = m.level }) origins

  pub marked_more : IsShaped (get_or ops (length marks) no_op)
      → keys_before ops (length marks) + keys_kept (get_or ops (length marks) no_op) ≤ length places
      → ((i : ℕ) → keys_before ops (length marks) ≤ i → get_or places i 0 ≡ 0)
      → marked_ops ops (marks ++ m ∷ []) places
      ≡ marked_ops ops marks places ++ record { op = get_or ops (length marks) no_op; event = m.event; origins = replicate READS (Base 0); level = m.level } ∷ []
  unfolding marked_ops
  marked_more shaped inside blank =
      let f = marked_op ops (marks ++ m ∷ []) places in
      let g = marked_op ops marks places in
      let n : ℕ = length marks in
      let count : length (marks ++ m ∷ []) ≡ n + 1 = length_push marks m in
      let front : map f (range_with_len 0 n) ≡ map g (range_with_len 0 n)
      = fill_by_all g (map f (range_with_len 0 n)) n (g 0) (length-map-range_with_len f 0 n) (λ k lt. get_or-map-range_with_len f 0 n k k (g 0) lt (omega arith) ∙ earlier k lt) in
      ap (λ (k : ℕ). map f (range_with_len 0 k)) count ∙ map-range_with_len_more f 0 n n (omega arith) ∙ ap (λ qs. qs ++ f n ∷ []) front
      ∙ ap (λ q. map g (range_with_len 0 n) ++ q ∷ []) (newest shaped inside blank)

-- all operations but one are the same
module _ (ops : List Op) (marks marks' : List OpMark) (places places' : List ℕ) (same : length marks' ≡ length marks) where
  marked-but : (o : ℕ) → o < length marks
      → ((k : ℕ) → k < length marks → k ≢ o → marked_op ops marks' places' k ≡ marked_op ops marks places k)
      → marked_ops ops marks' places' ≡ set (marked_ops ops marks places) o (marked_op ops marks' places' o)
  marked-but o lt others =
      let f = marked_op ops marks' places' in
      let now = marked_ops ops marks' places' in
      let was = marked_ops ops marks places in
      let count_now = count_marked ops marks' places' in
      let count_was = count_marked ops marks places in
      same_lists now (set was o (f o)) (count_now ∙ same ∙ sym count_was ∙ sym (length-set was o (f o))) (λ k d below.
      let inside : k < length marks = omega (arith, below, count_now, same) in
      marked_is ops marks' places' k d (omega (arith, same)) ∙ (elim (cases_eq k o) [
        | inl is ↦ (
            ap f is
            ∙ sym (get_or-set_same was o (f o) d (omega (arith, count_was)))
            ∙ ap (λ (i : ℕ). get_or (set was o (f o)) i d) (sym is))
        | inr not ↦ (
            others k inside not
            ∙ sym (marked_is ops marks places k d inside)
            ∙ sym (get_or-set_other was o k (f o) d not))
      ]))

-- another word at place j of operation o
module _ (ops : List Op) (marks : List OpMark) (places : List ℕ) (o j w : ℕ) (marked : length marks ≤ length ops)
    (whole : length places ≡ keys_before ops (length ops)) (lt : o < length marks) (place : j < keys_kept (get_or ops o no_op)) where
  abbrev pub changed : List ℕ
  changed = set places (keys_before ops o + j) w

  other : (k : ℕ) → k < length marks → k ≢ o → marked_op ops marks changed k ≡ marked_op ops marks places k
  unfolding marked_op
  other k inside apart =
      let row : words_of ops changed k ≡ words_of ops places k
      = elim (cases_lt k o) [
        | inl before ↦ row-set_after (keys_kept (get_or ops k no_op)) (keys_before ops k) (keys_before ops o + j) places w (omega (arith, before_apart ops k o before (omega arith)))
        | inr behind ↦ (
            let after : o < k = omega (arith, apart) in
            row-set_before (keys_kept (get_or ops k no_op)) (keys_before ops k) (keys_before ops o + j) places w (omega (arith, before_apart ops o k after (omega arith))))
      ] in
      ap (λ (ws : List ℕ). plan_op (get_or ops k no_op) (get_or marks k no_mark) ws) row

  itself : marked_op ops marks changed o ≡ record (marked_op ops marks places o) { origins = set (marked_op ops marks places o).origins j (origin_of w) }
  unfolding marked_op
  itself =
      let op : Op = get_or ops o no_op in
      let mark : OpMark = get_or marks o no_mark in
      let row : words_of ops changed o ≡ set (words_of ops places o) j w = row-set_in (keys_kept op) (keys_before ops o) j places w place in
      let long : length (words_of ops places o) ≡ keys_kept op
      = length_row (keys_kept op) (keys_before ops o) places (omega (arith, before_apart ops o (length ops) (omega arith) (omega arith), whole)) in
      ap (λ (ws : List ℕ). plan_op op mark ws) row
      ∙ ap (λ (os : List Origin). record { op = op; event = mark.event; origins = os; level = mark.level }) (origins-set (words_of ops places o) j w (omega arith))

  pub marked-set : marked_ops ops marks changed ≡ set (marked_ops ops marks places) o (record (marked_op ops marks places o) { origins = set (marked_op ops marks places o).origins j (origin_of w) })
  marked-set =
      marked-but ops marks marks places changed refl o lt other
      ∙ ap (λ (q : PlanOp). set (marked_ops ops marks places) o q) itself

-- another mark for operation o
module _ (ops : List Op) (marks : List OpMark) (places : List ℕ) (o : ℕ) (m : OpMark) (lt : o < length marks) where
  unmarked : (k : ℕ) → k < length marks → k ≢ o → marked_op ops (set marks o m) places k ≡ marked_op ops marks places k
  unfolding marked_op
  unmarked k inside apart = ap (λ (x : OpMark). plan_op (get_or ops k no_op) x (words_of ops places k)) (get_or-set_other marks o k m no_mark apart)

  remarked : marked_op ops (set marks o m) places o ≡ record (marked_op ops marks places o) { event = m.event; level = m.level }
  unfolding marked_op
  remarked = ap (λ (x : OpMark). plan_op (get_or ops o no_op) x (words_of ops places o)) (get_or-set_same marks o m no_mark lt)

  pub marked-mark : marked_ops ops (set marks o m) places
      ≡ set (marked_ops ops marks places) o (record (marked_op ops marks places o) { event = m.event; level = m.level })
  marked-mark =
      marked-but ops marks (set marks o m) places places (length-set marks o m) o lt unmarked
      ∙ ap (λ (q : PlanOp). set (marked_ops ops marks places) o q) remarked
