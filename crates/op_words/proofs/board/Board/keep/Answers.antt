use Rattle.std.proofs.Common.{◌≡◌, ◌<◌, ℕ, ap, arith, sym, subst, refl, Some, ◌∙◌, length}
use mathlib.Core.Option.{none}
use Rattle.atomic_table.specs.Table.{Allows, step}
use Rattle.morph_base.specs.declared.plan.Plan.{Plan}
use Rattle.morph_base.specs.Plans.{IsPlan, op_count, origin_at}
use Rattle.morph_base.proofs.NumberLaws.{op_count-small}
use Rattle.interleaving_core.specs.Core.{places}
use Rattle.op_words.specs.Layout.{packed_record}
use Rattle.op_words.specs.Plays.{Sat, keeps}
use Rattle.op_words.specs.Rule.{Lawful}
use Rattle.op_words.specs.Kinds.{IsUsable}
use Rattle.op_words.specs.Hands.{plan_of, cap_of, counters_of, view_of}
use Rattle.op_words.proofs.Keeping.{allows_keep}
use Rattle.op_words.proofs.Handing.{kept, held_parts}
use Rattle.op_words.proofs.Storing.{places_few, count_kept, index_is, kept_hand}
use Rattle.op_words.proofs.RecordPlaces.{record_before}
use Rattle.op_words.proofs.board.Board.keep.Goals as goal

pub places_before-requires : goal.places_before-requires
places_before-requires c =
    let q = c.requires.held in
    let op = (held_parts c.args.hand.now c.in-Some.holding.now q.0 q.1 q.2 (kept c.requires.hand) c.in-Some.ensures q.3).0 in
    omega (arith, op, q.4)

pub overflow_add-len : goal.overflow_add-len
overflow_add-len c =
    let h = c.requires.hand in let q = c.requires.held in let n = c.args.self.now.sized in
    let index = index_is c.args.self.now c.args.hand.now h c.in-Some.holding.now c.in-Some.ensures q.0 q.1 q.2 q.3 c.args.plan.now c.len.result c.places_before.result c.requires.plan c.len.ensures c.places_before.ensures.count in
    let few = places_few c.args.plan.now q.0 (subst IsPlan (sym c.requires.plan) h.valid) q.4 in let below = q.5 in
    let small = op_count-small (plan_of c.args.self.now) h.valid in let same = ap op_count c.requires.plan in
    let count = count_kept c.args.self.now c.args.hand.now h c.in-Some.holding.now c.in-Some.ensures q.0 q.1 q.2 q.3 in
    omega (arith, few, below, small, same, count, c.places_before.ensures.few, c.len.ensures)

pub store-requires : goal.store-requires
store-requires c =
    let h = c.requires.hand in let q = c.requires.held in let n = c.args.self.now.sized in
    let b = c.args.self.now in let seat = c.args.hand.now.seat in let p : Plan = plan_of b in
    let index = index_is b c.args.hand.now h c.in-Some.holding.now c.in-Some.ensures q.0 q.1 q.2 q.3 c.args.plan.now c.len.result c.places_before.result c.requires.plan c.len.ensures c.places_before.ensures.count in
    let attempt = (held_parts c.args.hand.now c.in-Some.holding.now q.0 q.1 q.2 (kept h) c.in-Some.ensures q.3).1 in
    let number : packed_record (Some (record { value = c.args.value; attempt = q.1 })) ≡ c.pack_record-record.result =
    sym (c.pack_record-record.ensures ∙ ap (λ (a : ℕ). packed_record (Some (record { value = c.args.value; attempt = a }))) attempt) in
    let lt : q.0 < op_count p = subst (λ (r : Plan). q.0 < op_count r) c.requires.plan q.4 in
    let below : length q.2 < places p q.0 = subst (λ (r : Plan). length q.2 < places r q.0) c.requires.plan q.5 in
    let usable : IsUsable (view_of c.args.hand.now) (cap_of b) q.1 (origin_at p q.0 (length q.2)) c.args.value = subst (λ (r : Plan). IsUsable (view_of c.args.hand.now) (cap_of b) q.1 (origin_at r q.0 (length q.2)) c.args.value) c.requires.plan q.6 in
    let few = record_before p q.0 (length q.2) lt below in (
      h.table,
      omega (arith, index, few, lt, n),
      subst (λ (z : ℕ × ℕ). Allows (Lawful (plan_of b) (cap_of b) (counters_of b)) b.table.shared.table_id.slots seat.id seat.me z.0 (λ (m : ℕ). z.1) (λ (m : ℕ). keeps (step b.table.shared.table_id.slots z.0 z.1 0 none) seat.me z.1))
          (λ i. (sym index i, number i))
          (allows_keep _ _ _ (view_of c.args.hand.now) (ap (λ (m : Sat). m.0) h.seat) (record { op = q.0; attempt = q.1; values = q.2 }) q.3 below c.args.value usable),
    )

pub returns : goal.returns
returns c = λ o a xs holds.
    let h = c.requires.hand in
    let attempt = (held_parts c.args.hand.now c.in-Some.holding.now o a xs (kept h) c.in-Some.ensures holds).1 in
    let done = c.store.ensures.2 (view_of c.args.hand.now) (ap (λ (m : Sat). m.0) h.seat) (record { op = o; attempt = a; values = xs }) holds c.args.value
    (c.pack_record-record.ensures ∙ ap (λ (n : ℕ). packed_record (Some (record { value = c.args.value; attempt = n }))) attempt) in
    let more = c.put.ensures c.in-Some.holding.now c.in-Some.ensures in
    kept_hand c.args.self.now c.args.hand.now h c.in-Some.holding.now c.in-Some.ensures o a xs holds _ more.0 c.args.value c.store.ensures.0 done.0 done.1 refl refl refl (record { room = c.note.ensures.room; steps = c.note.ensures.steps }) more.1
    more.2.op more.2.attempt more.2.values more.2.fits
