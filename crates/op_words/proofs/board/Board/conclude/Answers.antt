use Rattle.std.proofs.Common.{◌≡◌, ℕ, ◌+◌, ◌-◌, ◌<◌, ap, arith, sym, subst, refl, ◌∙◌, Some}
use mathlib.Core.Option.{none}
use prog.Atomic.{either}
use Rattle.std.specs.Prelude.{◌==◌}
use Rattle.atomic_table.specs.Table.{Allows, step}
use Rattle.morph_base.specs.declared.plan.Plan.{Plan}
use Rattle.morph_base.specs.Plans.{event_count}
use Rattle.op_words.specs.Layout.{packed_decision, level_index}
use Rattle.op_words.specs.Plays.{Sat, decides}
use Rattle.op_words.specs.Rule.{Lawful}
use Rattle.op_words.specs.Judging.{MaySayOf}
use Rattle.op_words.specs.Hands.{plan_of, cap_of, counters_of, view_of}
use Rattle.op_words.proofs.Recalling.{decision_place}
use Rattle.op_words.proofs.Deciding.{allows_decide, conclude_told, concluded_as}
use Rattle.op_words.proofs.board.Board.conclude.Goals as goal

pub compare_exchange-found-requires : goal.compare_exchange-found-requires
compare_exchange-found-requires c =
    let h = c.requires.hand in let n = c.args.self.now.sized in let b = c.args.self.now in let seat = c.args.hand.now.seat in let p = plan_of c.args.self.now in
    let lt = subst (λ (q : Plan). c.args.event < event_count q) c.requires.plan c.requires.in_range in
    let at = decision_place p c.args.plan.now c.args.event c.args.self.now.level c.len.result c.requires.plan b.leveled c.len.ensures in
    let new : packed_decision (Some c.args.committed) ≡ c.pack_decision-new.result = sym c.pack_decision-new.ensures in (
      h.table,
      omega (arith, n, lt, at),
      subst (λ (z : ℕ × ℕ). Allows (Lawful p (cap_of b) (counters_of b)) b.table.shared.table_id.slots seat.id seat.me z.0 (λ (m : ℕ). either (m == 0) z.1 m) (decides (step b.table.shared.table_id.slots z.0 0 z.1 none) seat.me)) (λ i. (at i, new i))
          (allows_decide _ _ _ _ (ap (λ (m : Sat). m.0) h.seat) h.plan c.args.event lt c.args.committed (subst (λ (q : Plan). MaySayOf q (view_of c.args.hand.now) c.args.event c.args.committed) c.requires.plan c.requires.grounds)),
    )

pub returns-then-found-ne0 : goal.returns-then-found-ne0
returns-then-found-ne0 c =
    let b = c.args.self.now in let h = c.args.hand.now in let p = c.args.plan.now in
    let at = decision_place p p c.args.event (level_index p) c.len.result refl refl c.len.ensures in
    let level : b.level ≡ level_index p = b.leveled ∙ ap level_index (sym c.requires.plan) in
    let t = conclude_told b h c.requires.hand p c.requires.plan c.args.event _ c.compare_exchange-found.result c.pack_decision-new.result c.args.committed c.compare_exchange-found.new.seat.me c.requires.in_range
    (ap (λ (n : ℕ). n - c.len.result + c.args.event) level ∙ sym at) c.pack_decision-new.ensures c.compare_exchange-found.ensures.2 in
    let stood = concluded_as b h (record h { seat = c.compare_exchange-found.new.seat }) c.requires.hand c.compare_exchange-found.ensures.0 refl refl refl refl c.requires.free p c.args.event c.args.committed t.0 c.compare_exchange-found.result
    (λ zero. absurd (c.if-found-ne0.true zero)) (λ still. refl) t.1 in
    record { hand = stood.0; answer = stood.1 }

pub returns : goal.returns
returns c =
    let b = c.args.self.now in let h = c.args.hand.now in let p = c.args.plan.now in
    let zero = c.if-found-ne0.false in
    let at = decision_place p p c.args.event (level_index p) c.len.result refl refl c.len.ensures in
    let level : b.level ≡ level_index p = b.leveled ∙ ap level_index (sym c.requires.plan) in
    let t = conclude_told b h c.requires.hand p c.requires.plan c.args.event _ c.compare_exchange-found.result c.pack_decision-new.result c.args.committed c.compare_exchange-found.new.seat.me c.requires.in_range
    (ap (λ (n : ℕ). n - c.len.result + c.args.event) level ∙ sym at) c.pack_decision-new.ensures c.compare_exchange-found.ensures.2 in
    let made = concluded_as b h _ c.requires.hand c.compare_exchange-found.ensures.0 refl refl refl refl c.requires.free p c.args.event c.args.committed t.0 c.compare_exchange-found.result
    (λ zero. record { room = c.note.ensures.room; steps = c.note.ensures.steps }) (λ other. absurd (other zero)) t.1 in
    record { hand = made.0; answer = made.1 }
