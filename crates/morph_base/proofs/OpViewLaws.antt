-- What contracts see of `PlanOps`, by its fields.
use Rattle.std.proofs.Common.{◌≡◌, ℕ, zero, suc, ◌+◌, ◌<◌, ◌≤◌, List, [], ◌∷◌, ◌++◌, length, get_or, set, take, drop, map, replicate, refl, sym, ap, ◌∙◌, subst, arith, inl, inr}
use Rattle.std.specs.List.{range_with_len, sum_by}
use Rattle.std.proofs.lemmas.Bool.{cases_lt}
use Rattle.std.proofs.lemmas.List.Sums.{sum_by_push}
use Rattle.std.proofs.lemmas.List.{drop-drop, take_more, length-set, length_push, length-drop, get_or-drop, get_or-set_other}
use Rattle.morph_base.specs.declared.limits.TheConstants.{READS}
use Rattle.morph_base.specs.declared.operation.Op.{Op}
use Rattle.morph_base.specs.declared.plan.Origin.{Origin}
use Rattle.morph_base.specs.declared.plan.Origin.TheVariants.{Base}
use Rattle.morph_base.specs.declared.plan.PlanOp.{PlanOp}
use Rattle.morph_base.specs.declared.plan_ops.OpMark.{OpMark}
use Rattle.morph_base.specs.declared.plan_ops.PlanOps.TheInside.{Inside}
use Rattle.morph_base.specs.Contents.{Contents}
use Rattle.morph_base.specs.declared.key.Layout.{Layout}
use Rattle.morph_base.specs.Operations.{reads, no_key, no_op, InLayout, IsShaped}
use Rattle.morph_base.specs.States.{State}
use Rattle.std.specs.Prelude.{All}
use Rattle.morph_base.specs.OpRows.{all_keys, keys_kept, keys_before}
use Rattle.morph_base.specs.Plans.{no_plan_op}
use Rattle.morph_base.specs.OpParts.{origin_of, origins_in, no_mark}
use Rattle.morph_base.specs.OpLists.{OpList, op_list, with_origin, places_before}
use Rattle.morph_base.specs.OpViews.{words_of, marked_op, marked_ops, plan_ops_of, ArePlanOps}
use Rattle.morph_base.proofs.OpRowLaws.{length_row, get_or_row, origin_at_word}
use Rattle.morph_base.proofs.OpKeptLaws.{kept_reads, before_more, before_apart, before_up}
use Rattle.morph_base.specs.OpFills.{AreKeysIn, AreFilled}
use Rattle.morph_base.specs.Plans.{filled}
use Rattle.morph_base.proofs.OpFillLaws.{kept_key_is, marked-filled}
use Rattle.morph_base.proofs.OpPartLaws.{count_marked, marked_is, marked_more, marked-set, marked-mark}

-- lists that are equal part by part are one
pub same_view : {items items' : List PlanOp} {coming coming' : List Op} → items ≡ items' → coming ≡ coming' →
    op_list items coming ≡ op_list items' coming'
same_view a b = cc

-- an operation that is equal part by part
pub put_together : {op : Op} {event level : ℕ} {origins : List Origin} (q : PlanOp) → op ≡ q.op → event ≡ q.event → origins ≡ q.origins → level ≡ q.level →
    record { op = op; event = event; origins = origins; level = level } ≡ q
put_together q a b c d = rw (a, b, c, d) refl

-- no operation has a mark yet
pub unmarked_view : (s : Inside) (rows : List Op) → s.rows ≡ rows → s.marks.items ≡ [] → plan_ops_of s ≡ op_list [] rows
unfolding marked_ops
unmarked_view s rows same none =
    let f = marked_op s.rows s.marks.items s.places.items in
    same_view (ap (λ (ms : List OpMark). map f (range_with_len 0 (length ms))) none)
    (ap (λ (ms : List OpMark). drop (length ms) s.rows) none ∙ same)

module _ (s : Inside) (v : OpList) (is : plan_ops_of s ≡ v) (are : ArePlanOps s) where
  pub count_is : length v.items ≡ length s.marks.items
  count_is = ap (λ (x : OpList). length x.items) (sym is) ∙ count_marked s.rows s.marks.items s.places.items

  pub coming_is : v.coming ≡ drop (length s.marks.items) s.rows
  coming_is = ap (λ (x : OpList). x.coming) (sym is)

  module _ (o : ℕ) (lt : o < length v.items) where
    pub inner : o < length s.marks.items
    inner = omega (arith, count_is)

    pub in_rows : o < length s.rows
    in_rows = omega (arith, inner, are.marked)

    pub op_is : get_or v.items o no_plan_op ≡ marked_op s.rows s.marks.items s.places.items o
    op_is = ap (λ (x : OpList). get_or x.items o no_plan_op) (sym is) ∙ marked_is s.rows s.marks.items s.places.items o no_plan_op inner

    pub row_is : (get_or v.items o no_plan_op).op ≡ get_or s.rows o no_op
    unfolding marked_op
    row_is = ap (λ (q : PlanOp). q.op) op_is

    pub event_is : (get_or v.items o no_plan_op).event ≡ (get_or s.marks.items o no_mark).event
    unfolding marked_op
    event_is = ap (λ (q : PlanOp). q.event) op_is

    pub level_is : (get_or v.items o no_plan_op).level ≡ (get_or s.marks.items o no_mark).level
    unfolding marked_op
    level_is = ap (λ (q : PlanOp). q.level) op_is

    pub origins_are : (get_or v.items o no_plan_op).origins ≡ origins_in (words_of s.rows s.places.items o)
    unfolding marked_op
    origins_are = ap (λ (q : PlanOp). q.origins) op_is

    -- the operation, made of its parts
    pub made_is : get_or v.items o no_plan_op ≡ record { op = get_or s.rows o no_op; event = (get_or s.marks.items o no_mark).event; origins = origins_in (words_of s.rows s.places.items o); level = (get_or s.marks.items o no_mark).level }
    unfolding marked_op
    made_is = op_is

    pub shaped_is : IsShaped (get_or s.rows o no_op)
    shaped_is = are.shaped o no_op in_rows

    pub kept_is : length (reads (get_or v.items o no_plan_op).op) ≡ keys_kept (get_or s.rows o no_op)
    kept_is = ap (λ (op : Op). length (reads op)) row_is ∙ kept_reads (get_or s.rows o no_op) shaped_is

    -- the words of its places are in the list
    pub inside_is : keys_before s.rows o + keys_kept (get_or s.rows o no_op) ≤ length s.places.items
    inside_is = omega (arith, before_apart s.rows o (length s.rows) in_rows (omega arith), are.whole)

    pub place_inside : (j : ℕ) → j < length (reads (get_or v.items o no_plan_op).op) → keys_before s.rows o + j < length s.places.items
    place_inside j place = omega (arith, kept_is, inside_is)

    pub read_key_is : (j : ℕ) → j < length (reads (get_or v.items o no_plan_op).op)
        → get_or (all_keys (get_or s.rows o no_op)) j no_key ≡ get_or (reads (get_or v.items o no_plan_op).op) j no_key
    read_key_is j place =
        kept_key_is (get_or s.rows o no_op) j shaped_is (omega (arith, kept_is)) ∙ ap (λ (op : Op). get_or (reads op) j no_key) (sym row_is)

    pub origin_is : (j : ℕ) → j < length (reads (get_or v.items o no_plan_op).op) → get_or (get_or v.items o no_plan_op).origins j (Base 0) ≡ origin_of (get_or s.places.items (keys_before s.rows o + j) 0)
    origin_is j place =
        let k : ℕ = keys_kept (get_or s.rows o no_op) in
        let long : length (words_of s.rows s.places.items o) ≡ k = length_row k (keys_before s.rows o) s.places.items inside_is in
        ap (λ os. get_or os j (Base 0)) origins_are ∙ origin_at_word (words_of s.rows s.places.items o) j (Base 0) (omega (arith, kept_is))
        ∙ ap origin_of (get_or_row k (keys_before s.rows o) j s.places.items 0 (omega (arith, kept_is)))

    -- with another source at a place, so with the list of words that has it
    module _ (j w : ℕ) (place : j < length (reads (get_or v.items o no_plan_op).op))
        (now : Contents ℕ) (items : now.items ≡ set s.places.items (keys_before s.rows o + j) w) where
      sourced : marked_ops s.rows s.marks.items (set s.places.items (keys_before s.rows o + j) w)
          ≡ set v.items o (with_origin (get_or v.items o no_plan_op) j (origin_of w))
      sourced =
          marked-set s.rows s.marks.items s.places.items o j w are.marked are.whole inner (omega (arith, kept_is))
          ∙ rw (← op_is, ← is) refl

      pub sourced_view : plan_ops_of (record s { places = now })
          ≡ record v { items = set v.items o (with_origin (get_or v.items o no_plan_op) j (origin_of w)) }
      sourced_view = same_view (ap (marked_ops s.rows s.marks.items) items ∙ sourced) (ap (λ (x : OpList). x.coming) is)

      pub sourced_are : ArePlanOps (record s { places = now })
      sourced_are =
          let long : length now.items ≡ length s.places.items = ap length items ∙ length-set s.places.items (keys_before s.rows o + j) w in
          let before : keys_before s.rows o + keys_kept (get_or s.rows o no_op) ≤ keys_before s.rows (length s.marks.items)
          = before_apart s.rows o (length s.marks.items) inner are.marked in
          record {
            shaped = are.shaped;
            marked = are.marked;
            room = are.room;
            whole = long ∙ are.whole;
            fits = omega (arith, long, are.fits);
            blank = λ i from.
                ap (λ ws. get_or ws i 0) items
                ∙ get_or-set_other s.places.items (keys_before s.rows o + j) i w 0 (λ same. omega (arith, same, kept_is, before))
                ∙ are.blank i from;
          }

    -- at another level, with the list of marks that has it
    module _ (event level : ℕ) (same : event ≡ (get_or v.items o no_plan_op).event) (now : Contents OpMark)
        (items : now.items ≡ set s.marks.items o (record { event = event; level = level }))
        (room : now.room ≡ s.marks.room) where
      abbrev mark : OpMark
      mark = record { event = event; level = level }

      long : length now.items ≡ length s.marks.items
      long = ap length items ∙ length-set s.marks.items o mark

      leveled : marked_ops s.rows (set s.marks.items o mark) s.places.items
          ≡ set v.items o (record (get_or v.items o no_plan_op) { level = level })
      leveled =
          marked-mark s.rows s.marks.items s.places.items o mark inner ∙ rw (same, ← op_is, ← is) refl

      pub leveled_view : plan_ops_of (record s { marks = now })
          ≡ record v { items = set v.items o (record (get_or v.items o no_plan_op) { level = level }) }
      leveled_view =
          same_view (ap (λ (ms : List OpMark). marked_ops s.rows ms s.places.items) items ∙ leveled)
          (ap (λ (n : ℕ). drop n s.rows) long ∙ ap (λ (x : OpList). x.coming) is)

      pub leveled_are : ArePlanOps (record s { marks = now })
      leveled_are = record {
        shaped = are.shaped;
        marked = omega (arith, long, are.marked);
        room = omega (arith, long, room, are.room);
        whole = are.whole;
        fits = are.fits;
        blank = λ i from. are.blank i (subst (λ n. keys_before s.rows n ≤ i) long from);
      }

  -- how many places stand before an operation
  pub before_is : (o : ℕ) → o ≤ length v.items → places_before v.items o ≡ keys_before s.rows o
  before_is zero le = refl
  before_is (suc o) le =
      let lt : o < length v.items = omega arith in
      let size = λ (q : PlanOp). length (reads q.op) in
      let one : suc o ≡ o + 1 = omega arith in
      let items : places_before v.items (o + 1) ≡ places_before v.items o + size (get_or v.items o no_plan_op)
      = ap (sum_by size) (take_more v.items o no_plan_op lt) ∙ sum_by_push size (take o v.items) (get_or v.items o no_plan_op) in
      let both : places_before v.items (o + 1) ≡ keys_before s.rows (o + 1)
      = omega (arith, items, before_more s.rows o (in_rows o lt), kept_is o lt, before_is o (omega arith)) in
      ap (places_before v.items) one ∙ both ∙ ap (keys_before s.rows) (sym one)

  pub places_are : places_before v.items (length v.items) ≡ keys_before s.rows (length s.marks.items)
  places_are = before_is (length v.items) (omega arith) ∙ ap (keys_before s.rows) count_is

  -- there is a next operation, and room for its mark
  pub next_is_in : 0 < length v.coming → length s.marks.items < length s.rows
  next_is_in some = omega (arith, some, ap (λ (l : List Op). length l) coming_is, length-drop (length s.marks.items) s.rows)

  pub next_has_room : 0 < length v.coming → 0 < s.marks.room
  next_has_room some = omega (arith, next_is_in some, are.room)

  -- one operation more, whose sources are still to be set
  module _ (event : ℕ) (some : 0 < length v.coming) (now : Contents OpMark)
      (items : now.items ≡ s.marks.items ++ record { event = event; level = 1 } ∷ [])
      (room : s.marks.room ≡ now.room + 1) where
    abbrev new_mark : OpMark
    new_mark = record { event = event; level = 1 }

    next_in : length s.marks.items < length s.rows
    next_in = next_is_in some

    count : length now.items ≡ length s.marks.items + 1
    count = ap length items ∙ length_push s.marks.items new_mark

    added : marked_ops s.rows (s.marks.items ++ new_mark ∷ []) s.places.items
        ≡ v.items ++ record { op = get_or v.coming 0 no_op; event = event; origins = replicate READS (Base 0); level = 1 } ∷ []
    added =
        marked_more s.rows s.marks.items s.places.items new_mark (are.shaped (length s.marks.items) no_op next_in)
        (omega (arith, before_apart s.rows (length s.marks.items) (length s.rows) next_in (omega arith), are.whole)) are.blank
        ∙ rw (← is) (ap (λ (op : Op). marked_ops s.rows s.marks.items s.places.items ++ record { op = op; event = event; origins = replicate READS (Base 0); level = 1 } ∷ []) (get_or_next))
      where
        get_or_next : get_or s.rows (length s.marks.items) no_op ≡ get_or (drop (length s.marks.items) s.rows) 0 no_op
        get_or_next = ap (λ (n : ℕ). get_or s.rows n no_op) (omega arith) ∙ sym (get_or-drop (length s.marks.items) s.rows 0 no_op)

    pub added_items : (plan_ops_of (record s { marks = now })).items
        ≡ v.items ++ record { op = get_or v.coming 0 no_op; event = event; origins = replicate READS (Base 0); level = 1 } ∷ []
    added_items = ap (λ (ms : List OpMark). marked_ops s.rows ms s.places.items) items ∙ added

    pub added_coming : (plan_ops_of (record s { marks = now })).coming ≡ drop 1 v.coming
    added_coming =
        ap (λ (n : ℕ). drop n s.rows) count ∙ sym (drop-drop 1 (length s.marks.items) s.rows) ∙ ap (λ (l : List Op). drop 1 l) (sym coming_is)

    pub added_are : ArePlanOps (record s { marks = now })
    added_are = record {
      shaped = are.shaped;
      marked = omega (arith, count, next_in);
      room = omega (arith, count, room, are.room);
      whole = are.whole;
      fits = are.fits;
      blank = λ i from. are.blank i (omega (arith, subst (λ n. keys_before s.rows n ≤ i) count from, before_more s.rows (length s.marks.items) next_in));
    }

  -- the places of the operations that have a mark are the first ones
  pub first_places : keys_before s.rows (length s.marks.items) ≤ keys_before s.rows (length s.rows)
  first_places = before_up s.rows (length s.marks.items) (length s.rows) are.marked (omega arith)

  -- the keys at these places are those that the operations read
  pub keys_are_in : (layout : Layout) → All (λ (q : PlanOp). All (InLayout layout) (reads q.op)) v.items
      → AreKeysIn layout s.rows (keys_before s.rows (length s.marks.items))
  keys_are_in layout keys o j lt kept before =
      let marked : o < length s.marks.items = elim (cases_lt o (length s.marks.items)) [
        | inl less ↦ less
        | inr behind ↦ absurd (omega (arith, before, before_up s.rows (length s.marks.items) o behind (omega arith)))
      ] in
      let item : o < length v.items = omega (arith, count_is) in
      let read : j < length (reads (get_or v.items o no_plan_op).op) = omega (arith, kept_is o item) in
      subst (InLayout layout) (sym (read_key_is o item j read)) (keys o no_plan_op item j no_key read)

  -- with the bases filled in, with the list of words that has them
  module _ (state : State) (now : Contents ℕ)
      (filled_are : AreFilled state s.rows (keys_before s.rows (length s.marks.items)) s.places.items now.items) where
    pub filled_view : plan_ops_of (record s { places = now }) ≡ record v { items = map (filled state) v.items }
    filled_view =
        same_view
        (marked-filled state s.rows s.marks.items s.places.items now.items are.shaped are.marked are.whole filled_are
        ∙ ap (λ (x : OpList). map (filled state) x.items) is)
        (ap (λ (x : OpList). x.coming) is)

    pub filled_inside : ArePlanOps (record s { places = now })
    filled_inside = record {
      shaped = are.shaped;
      marked = are.marked;
      room = are.room;
      whole = filled_are.long ∙ are.whole;
      fits = omega (arith, filled_are.long, are.fits);
      blank = λ i from. filled_are.rest i from ∙ are.blank i from;
    }
