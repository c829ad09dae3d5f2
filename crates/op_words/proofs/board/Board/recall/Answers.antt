use Rattle.std.proofs.Common.{ℕ, ◌<◌, ◌≤◌, Some, ap, arith, sym, subst, refl, ◌∙◌}
use mathlib.Core.Option.{none}
use Rattle.atomic_table.specs.Table.{Allows, step}
use Rattle.morph_base.specs.declared.limits.TheConstants.{MAX}
use Rattle.morph_base.specs.declared.plan.Plan.{Plan}
use Rattle.morph_base.specs.Plans.{op_count}
use Rattle.morph_base.proofs.NumberLaws.{op_count-small}
use Rattle.interleaving_core.specs.Core.{places}
use Rattle.op_words.specs.Plays.{Sat, recalls}
use Rattle.op_words.specs.Rule.{Lawful}
use Rattle.op_words.specs.Views.{recalling}
use Rattle.op_words.specs.Hands.{plan_of, cap_of, counters_of, view_of}
use Rattle.op_words.proofs.RecordPlaces.{record_before}
use Rattle.op_words.proofs.Recalling.{record_place, allows_recall, recall_told, recalled_hand}
use Rattle.op_words.proofs.board.Board.recall.Goals as goal

pub overflow_add-place-2 : goal.overflow_add-place-2
overflow_add-place-2 c =
    let small = op_count-small (plan_of c.args.self.now) c.requires.may.0.valid in let same = ap op_count c.requires.may.1 in
    omega (arith, small, same, c.places_before.ensures.few, c.len.ensures, c.ranges.j.fits)

pub load-n-requires : goal.load-n-requires
load-n-requires c =
    let h = c.requires.may.0 in let n = c.args.self.now.sized in let b = c.args.self.now in let seat = c.args.hand.now.seat in let p = plan_of c.args.self.now in
    let lt = subst (λ (q : Plan). c.args.op < op_count q) c.requires.may.1 c.requires.may.2 in
    let below = subst (λ (q : Plan). c.args.j < places q c.args.op) c.requires.may.1 c.requires.in_places in
    let few = record_before p c.args.op c.args.j lt below in
    let at = record_place p c.args.plan.now c.args.op c.args.j c.len.result c.places_before.result c.requires.may.1 c.len.ensures c.places_before.ensures.count in (
      h.table,
      omega (arith, n, lt, below, few, at),
      subst (λ (i : ℕ). Allows (Lawful p (cap_of b) (counters_of b)) b.table.shared.table_id.slots seat.id seat.me i (λ n. n) (recalls (step b.table.shared.table_id.slots i 0 0 none) seat.me)) at
          (allows_recall _ _ _ _ (ap (λ (m : Sat). m.0) h.seat) h.plan c.args.op c.args.j lt below h.valid),
    )

pub value_of_record-requires : goal.value_of_record-requires
value_of_record-requires c =
    let place = record_place c.args.plan.now c.args.plan.now c.args.op c.args.j c.len.result c.places_before.result refl c.len.ensures c.places_before.ensures.count in
    let t = recall_told c.args.self.now c.args.hand.now c.requires.may.0 c.args.plan.now c.requires.may.1 c.load-n.result c.load-n.new.seat.me c.args.op c.args.j _ c.requires.may.2 c.requires.in_places (sym place) c.load-n.ensures.2 in
    record { «record» = (t.0, t.1, t.2) }

pub returns : goal.returns
returns c =
    let place = record_place c.args.plan.now c.args.plan.now c.args.op c.args.j c.len.result c.places_before.result refl c.len.ensures c.places_before.ensures.count in
    let t = recall_told c.args.self.now c.args.hand.now c.requires.may.0 c.args.plan.now c.requires.may.1 c.load-n.result c.load-n.new.seat.me c.args.op c.args.j _ c.requires.may.2 c.requires.in_places (sym place) c.load-n.ensures.2 in
    recalled_hand c.args.self.now c.args.hand.now _ c.requires.may.0 c.load-n.ensures.0 refl refl refl refl refl c.args.op c.args.j c.value_of_record.result (subst (λ (x : ℕ). x ≤ MAX) (sym (c.value_of_record.ensures t.0 t.1 t.2)) t.1)
    (t.3 ∙ ap (λ (x : ℕ). (Some (recalling c.args.op c.args.j x (view_of c.args.hand.now)), c.args.hand.now.seat.me.1)) (sym (c.value_of_record.ensures t.0 t.1 t.2)))
