use Rattle.std.proofs.Common.{ℕ, ◌<◌, Bool, Option, ap, arith, sym, subst, refl, ◌∙◌, Some}
use mathlib.Core.Option.{none}
use Rattle.atomic_table.specs.Table.{Allows, step}
use Rattle.morph_base.specs.declared.plan.Plan.{Plan}
use Rattle.morph_base.specs.Plans.{event_count}
use Rattle.op_words.specs.Plays.{Sat, IsDecision, learns}
use Rattle.op_words.specs.Rule.{Lawful}
use Rattle.op_words.specs.Views.{learning}
use Rattle.op_words.specs.Hands.{plan_of, cap_of, counters_of, view_of}
use Rattle.op_words.proofs.Recalling.{decision_place, allows_learn, learn_told, learned_hand}
use Rattle.op_words.proofs.board.Board.learn.Goals as goal

pub load-n-requires : goal.load-n-requires
load-n-requires c =
    let h = c.requires.hand in let n = c.args.self.now.sized in let b = c.args.self.now in let seat = c.args.hand.now.seat in let p = plan_of c.args.self.now in
    let lt = subst (λ (q : Plan). c.args.event < event_count q) c.requires.plan c.requires.in_range in
    let at = decision_place p c.args.plan.now c.args.event c.args.self.now.level c.len.result c.requires.plan b.leveled c.len.ensures in (
      h.table,
      omega (arith, n, lt, at),
      subst (λ (i : ℕ). Allows (Lawful p (cap_of b) (counters_of b)) b.table.shared.table_id.slots seat.id seat.me i (λ n. n) (learns (step b.table.shared.table_id.slots i 0 0 none) seat.me)) at
          (allows_learn _ _ _ _ (ap (λ (m : Sat). m.0) h.seat) h.plan c.args.event lt),
    )

pub returns : goal.returns
returns c =
    let b = c.args.self.now in
    let at = decision_place (plan_of b) c.args.plan.now c.args.event b.level c.len.result c.requires.plan b.leveled c.len.ensures in
    let t = learn_told b c.args.hand.now c.requires.hand (plan_of b) refl c.load-n.result c.load-n.new.seat.me c.args.event _ (subst (λ (q : Plan). c.args.event < event_count q) c.requires.plan c.requires.in_range) (sym at) c.load-n.ensures.2 in
    learned_hand b c.args.hand.now _ c.requires.hand c.load-n.ensures.0 refl refl refl refl refl c.args.event c.decision_of.result (subst (IsDecision (view_of c.args.hand.now).plan.value (view_of c.args.hand.now) c.args.event) (sym (c.decision_of.ensures t.0 t.1)) t.2)
    (t.3 ∙ ap (λ (d : Option Bool). (Some (learning c.args.event d (view_of c.args.hand.now)), c.args.hand.now.seat.me.1)) (sym (c.decision_of.ensures t.0 t.1)))
