-- The bases of a plan's operations filled in, place by place.
use Rattle.std.proofs.Common.{◌≡◌, ℕ, zero, suc, ◌+◌, ◌-◌, ◌<◌, ◌≤◌, true, List, length, length-append, replicate, get_or, map, refl, sym, ap, ◌∙◌, arith, inl, inr, All}
use Rattle.std.specs.Prelude.{nat_lt}
use Rattle.std.proofs.lemmas.Bool.{cases_lt, lt-ltb}
use Rattle.std.proofs.lemmas.List.{same_lists, length-map, length-replicate, get_or-map, get_or-replicate, get_or-append_right, get_or-take, get_or_default}
use Rattle.morph_base.specs.declared.limits.TheConstants.{MAX, READS}
use Rattle.morph_base.specs.declared.key.Key.{Key}
use Rattle.morph_base.specs.declared.operation.Op.{Op}
use Rattle.morph_base.specs.declared.plan.Origin.{Origin}
use Rattle.morph_base.specs.declared.plan.Origin.TheVariants.{Base, Op as Written}
use Rattle.morph_base.specs.declared.plan.PlanOp.{PlanOp}
use Rattle.morph_base.specs.declared.plan_ops.OpMark.{OpMark}
use Rattle.morph_base.specs.Operations.{reads, no_key, no_op, IsShaped}
use Rattle.morph_base.specs.States.{State}
use Rattle.morph_base.specs.Plans.{filled, filled_in, no_plan_op}
use Rattle.morph_base.specs.OpRows.{all_keys, keys_kept, keys_before}
use Rattle.morph_base.specs.OpParts.{origin_of, origins_in, no_mark}
use Rattle.morph_base.specs.OpViews.{words_of, marked_op, marked_ops}
use Rattle.morph_base.specs.OpFills.{kept_key, with_base, IsFilled, AreFilled}
use Rattle.morph_base.proofs.FillLaws.{length-filled_in, filled_in-at, filled_in-past}
use Rattle.morph_base.proofs.OpRowLaws.{length_row, get_or_row, origin_at_word}
use Rattle.morph_base.proofs.OpKeptLaws.{kept_shaped, kept_reads, kept_few, before_more, before_apart}
use Rattle.morph_base.proofs.OpPartLaws.{count_marked, marked_is}

-- each place is one of an operation's
pub record RowPlace (ops : List Op) (place : ℕ) : Type 0 where
  pub row : ℕ
  pub column : ℕ
  pub inside : row < length ops
  pub kept : column < keys_kept (get_or ops row no_op)
  pub is : place ≡ keys_before ops row + column

pub row_place : (ops : List Op) (n place : ℕ) → n ≤ length ops → place < keys_before ops n → RowPlace ops place
row_place ops zero place le lt = absurd (omega arith)
row_place ops (suc n) place le lt =
    let one : suc n ≡ n + 1 = omega arith in
    let more : keys_before ops (suc n) ≡ keys_before ops n + keys_kept (get_or ops n no_op) = ap (keys_before ops) one ∙ before_more ops n (omega arith) in
    elim (cases_lt place (keys_before ops n)) [
      | inl before ↦ row_place ops n place (omega arith) before
      | inr behind ↦ record { row = n; column = place - keys_before ops n; inside = omega arith; kept = omega (arith, more); is = omega arith }
    ]

-- a word that was filled in
pub is_filled : (s : State) (key : Key) (old x v : ℕ) → origin_of old ≡ Base v → x ≡ s key → x ≤ MAX → IsFilled s key old x
is_filled s key old x v was value small =
    let low : nat_lt x 9223372036854775808 ≡ true = lt-ltb x 9223372036854775808 (omega arith) in
    rw (low, was, value) refl

-- a word of another operation stays
pub stays_filled : (s : State) (key : Key) (old t : ℕ) → origin_of old ≡ Written t → IsFilled s key old old
stays_filled s key old t was = was ∙ sym (ap (with_base (s key)) was)

-- how many sources words name, with those of unused places
length_origins : (ws : List ℕ) → length ws ≤ READS → length (origins_in ws) ≡ READS
length_origins ws few =
    length-append (map origin_of ws) (replicate (READS - length ws) (Base 0))
    ∙ omega (arith, few, length-map ws origin_of, length-replicate {A = Origin} (READS - length ws) (Base 0))

-- behind the words the sources are bases of 0
origin_past : (ws : List ℕ) (i : ℕ) → length ws ≤ i → i < READS → get_or (origins_in ws) i (Base 0) ≡ Base 0
origin_past ws i past lt =
    get_or-append_right (map origin_of ws) (replicate (READS - length ws) (Base 0)) (length ws) i (Base 0) (length-map ws origin_of) past
    ∙ get_or-replicate (READS - length ws) (i - length ws) (Base 0) (Base 0) (omega arith)

-- words that are filled in name the sources that are filled in
filled_words : (s : State) (ks : List Key) (old new : List ℕ) → length ks ≡ length old → length new ≡ length old → length old ≤ READS
    → ((j : ℕ) → j < length old → IsFilled s (get_or ks j no_key) (get_or old j 0) (get_or new j 0))
    → origins_in new ≡ filled_in s ks (origins_in old)
filled_words s ks old new keyed long few each =
    let all : length (origins_in old) ≡ READS = length_origins old few in
    let now : length (origins_in new) ≡ READS = length_origins new (omega (arith, long)) in
    same_lists (origins_in new) (filled_in s ks (origins_in old)) (now ∙ sym all ∙ sym (length-filled_in s ks (origins_in old)))
    (λ i d lt.
    let inside : i < READS = omega (arith, now) in
    let left : get_or (origins_in new) i d ≡ get_or (origins_in new) i (Base 0) = get_or_default (origins_in new) i d (Base 0) lt in
    let right : get_or (filled_in s ks (origins_in old)) i (Base 0) ≡ get_or (filled_in s ks (origins_in old)) i d
    = get_or_default (filled_in s ks (origins_in old)) i (Base 0) d (omega (arith, all, length-filled_in s ks (origins_in old))) in
    left ∙ (elim (cases_lt i (length old)) [
      | inl used ↦ (
          origin_at_word new i (Base 0) (omega (arith, long)) ∙ each i used
          ∙ ap (with_base (s (get_or ks i no_key))) (sym (origin_at_word old i (Base 0) used))
          ∙ sym (filled_in-at s ks (origins_in old) i (omega (arith, keyed)) (omega (arith, all))))
      | inr unused ↦ (
          origin_past new i (omega (arith, long)) inside ∙ sym (origin_past old i unused inside)
          ∙ sym (filled_in-past s ks (origins_in old) i (Base 0) (omega (arith, keyed))))
    ]) ∙ right)

-- a key that is kept of an operation of a valid shape is one that it reads
pub kept_key_is : (op : Op) (j : ℕ) → IsShaped op → j < keys_kept op → get_or (all_keys op) j no_key ≡ get_or (reads op) j no_key
kept_key_is op zero shaped lt = refl
kept_key_is op (suc j) shaped lt = sym (get_or-take op.n_params op.params j no_key (omega (arith, kept_shaped op shaped)))

module _ (s : State) (ops : List Op) (marks : List OpMark) (old new : List ℕ) (shaped : All IsShaped ops) (marked : length marks ≤ length ops)
    (whole : length old ≡ keys_before ops (length ops)) (are : AreFilled s ops (keys_before ops (length marks)) old new) where
  one_filled : (o : ℕ) → o < length marks → marked_op ops marks new o ≡ filled s (marked_op ops marks old o)
  unfolding marked_op
  one_filled o lt =
      let op : Op = get_or ops o no_op in
      let valid : IsShaped op = shaped o no_op (omega arith) in
      let n : ℕ = keys_kept op in
      let inside : keys_before ops o + n ≤ length old = omega (arith, before_apart ops o (length ops) (omega arith) (omega arith), whole) in
      let within : keys_before ops o + n ≤ keys_before ops (length marks) = before_apart ops o (length marks) lt marked in
      let was : length (words_of ops old o) ≡ n = length_row n (keys_before ops o) old inside in
      let now : length (words_of ops new o) ≡ n = length_row n (keys_before ops o) new (omega (arith, are.long)) in
      let origins : origins_in (words_of ops new o) ≡ filled_in s (reads op) (origins_in (words_of ops old o))
      = filled_words s (reads op) (words_of ops old o) (words_of ops new o) (kept_reads op valid ∙ sym was) (now ∙ sym was) (omega (arith, kept_few op valid))
      (λ j below.
      let here : j < n = omega (arith, was) in
      let key : kept_key ops o j ≡ get_or (reads op) j no_key = kept_key_is op j valid here in
      let before : get_or old (keys_before ops o + j) 0 ≡ get_or (words_of ops old o) j 0 = sym (get_or_row n (keys_before ops o) j old 0 here) in
      let after : get_or new (keys_before ops o + j) 0 ≡ get_or (words_of ops new o) j 0 = sym (get_or_row n (keys_before ops o) j new 0 here) in
      rw (← key, ← before, ← after) (are.filled o j (omega arith) here (omega (arith, within)))) in
      ap (λ (os : List Origin). record { op = op; event = (get_or marks o no_mark).event; origins = os; level = (get_or marks o no_mark).level }) origins

  pub marked-filled : marked_ops ops marks new ≡ map (filled s) (marked_ops ops marks old)
  marked-filled =
      let items : List PlanOp = marked_ops ops marks old in
      let count : length items ≡ length marks = count_marked ops marks old in
      same_lists (marked_ops ops marks new) (map (filled s) items) (count_marked ops marks new ∙ sym count ∙ sym (length-map items (filled s)))
      (λ k d lt.
      let inside : k < length marks = omega (arith, count_marked ops marks new) in
      marked_is ops marks new k d inside ∙ one_filled k inside ∙ ap (filled s) (sym (marked_is ops marks old k no_plan_op inside))
      ∙ sym (get_or-map (filled s) items k no_plan_op d (omega (arith, count))))
