use Rattle.std.proofs.Common.{◌≡◌, ℕ, ◌+◌, ◌<◌, List, get_or, sym, ap, subst, ◌∙◌, if◌then◌else◌, arith}
use Rattle.std.proofs.lemmas.List.{get_or_default}
use Rattle.morph_base.specs.declared.key.Key.{Key}
use Rattle.morph_base.specs.declared.operation.Op.{Op}
use Rattle.morph_base.specs.declared.plan.Origin.TheVariants.{Op as Written}
use Rattle.morph_base.specs.declared.plan.PlanOp.{PlanOp}
use Rattle.morph_base.specs.declared.plan.PlanEvent.{PlanEvent}
use Rattle.morph_base.specs.Numbering.{IsWithin}
use Rattle.morph_base.specs.Operations.{same_key}
use Rattle.morph_base.specs.Plans.{no_event}
use Rattle.txn_splitter.specs.declared.txn_events.TxnEvent.{TxnEvent}
use Rattle.txn_splitter.specs.Txns.{txn_at, txn_target}
use Rattle.precedence_graph.specs.Writers.{entered_count, source_in, entered_level, entered_event_level}
use Rattle.precedence_graph.specs.Planned.{planned, op_level_in, event_level_in}
use Rattle.precedence_graph.proofs.EnterLemmas.{entered}
use Rattle.precedence_graph.proofs.EnteredLemmas.{entered_next}
use Rattle.precedence_graph.proofs.planned.enter_event.Goals as goal

pub loop-o-preserved : goal.loop-o-preserved
loop-o-preserved c =
    let x = c.args.txns.now in
    let i : ℕ = c.args.i in
    let o : ℕ = c.loop-o.o in
    let ops : List PlanOp = c.args.ops.now.items in
    let events : List PlanEvent = c.args.events.now in
    let old = c.loop-o.writers in
    let new = c.enter.new.self in
    let before = c.loop-o.invariant in
    let within : IsWithin (txn_at x i).first (txn_at x i).count o = subst (λ (e : TxnEvent). IsWithin e.first e.count o) c.event_at-event.ensures.event (record { from = c.loop-o.auto.o; below = c.loop-o-test.true }) in
    let below : o < (txn_at x i).first + (txn_at x i).count = within.below in
    let q = c.requires.planned.each o below in
    let event_is : (planned ops o).event ≡ i = q.event_is ∙ (c.requires.txns.numbering.owned i o c.requires.event within).1 in
    let level : (get_or events i _).level ≡ event_level_in ops events o = ap (λ e. e.level) (get_or_default events i _ no_event c.requires.there) ∙ ap (λ j. (get_or events j no_event).level) (sym event_is) in
    record {
      writers = record {
        count = c.enter.ensures.count ∙ ap (λ n. n + 1) before.writers.count;
        room = omega (arith, c.enter.ensures.room, before.writers.room);
        source = entered o (txn_target x) (source_in old) (source_in new) before.writers.source
            (λ key. c.enter.ensures.source key
            ∙ ap (λ (k : Key). if same_key k key then Written (entered_count old) else source_in old key) (c.key.ensures ∙ ap (λ (p : Op). p.key) q.op_is)
            ∙ ap (λ n. if same_key (txn_target x o) key then Written n else source_in old key) before.writers.count);
      };
      levels = entered_next o (entered_count old) _ (entered_level old) (entered_level new) (op_level_in ops) before.writers.count c.level.ensures c.enter.ensures.levels before.levels;
      event_levels = entered_next o (entered_count old) _ (entered_event_level old) (entered_event_level new) (event_level_in ops events) before.writers.count level c.enter.ensures.event_levels before.event_levels;
    }
