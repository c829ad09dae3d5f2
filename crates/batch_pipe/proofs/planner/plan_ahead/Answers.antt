use Rattle.std.proofs.Common.{refl, ap, sym, subst, ◌∙◌, ◌+◌, [], ◌∷◌, ◌++◌, length, arith}
use Rattle.std.proofs.lemmas.List.{length-append}
use Rattle.morph_base.specs.declared.key.Layout.{Layout}
use Rattle.event_reader.specs.Versions.{greatest_of}
use Rattle.event_reader.proofs.InputVersion.{keeps_same, same_both}
use Rattle.rtrb.specs.Ring.{sent}
use Rattle.batch_pipe.specs.declared.items.Sent.{Sent}
use Rattle.batch_pipe.specs.PlannedBatches.{IsReadyPlan, bench, layout_by}
use Rattle.batch_pipe.proofs.Ahead.{ahead_nothing, ahead_more, ahead_stop, same_producer, same_layout}
use Rattle.batch_pipe.proofs.planner.plan_ahead.Goals as goal

pub planning-init : goal.planning-init
planning-init g c =
    let p = c.args.planner.now in
    record {
      plans = ahead_nothing g.A.EventApp.event_of (layout_by g.A.EventApp.table_count p.reader) (greatest_of p.reader.past.version) (bench p (g.S.Source.left c.args.source.now));
      ring = ((refl, refl, refl, refl), refl);
      enough = omega arith;
      able = c.requires.able;
      same = (refl, refl, refl, keeps_same p.reader);
      never_falls = omega arith;
    }

pub planning-preserved : goal.planning-preserved
planning-preserved g c =
    let p = c.args.planner.now in
    let i = c.planning.invariant in
    let layout : Layout = layout_by g.A.EventApp.table_count p.reader in
    let x : Sent = record {
      number = c.planning.planner.sent + 1;
      layout = c.planning.planner.layout;
      greatest = c.greatest.result;
      plan = c.in-Ok.plan;
    } in
    let looked = c.await_place.ensures.looked in
    let pushed = c.push_reserved.ensures in
    let now_same = c.in-Ok.ensures.same in
    record {
      plans = ahead_more g.A.EventApp.event_of layout _ (greatest_of c.read_plan.new.reader.past.version) x i.plans c.in-Ok.ensures.plan
          (λ some. ap greatest_of (now_same.3.stays (omega (arith, some, i.plans.number_is, i.able.counted))))
          (subst (λ (l : Layout). IsReadyPlan l (greatest_of c.read_plan.new.reader.past.version) c.in-Ok.plan) (same_layout g.A.EventApp.table_count p.reader c.planning.planner.reader i.same) c.in-Ok.ensures.ready)
          (pushed.sent.0 ∙ ap (λ l. l ++ x ∷ []) looked.1) refl refl;
      ring = same_producer p.ring c.await_place.new.ring c.push_reserved.new.self
          (same_producer p.ring c.planning.planner.ring c.await_place.new.ring i.ring looked.0) pushed.ring;
      enough =
          let before = ap length looked.1 in
          let after = ap length pushed.sent.0 in
          let both = length-append (sent c.await_place.new.ring) (x ∷ []) in
          omega (arith, i.enough, looked.2, pushed.sent.1, before, after, both);
      able = record { live = c.in-Ok.ensures.live; layout = i.able.layout ∙ sym (same_layout g.A.EventApp.table_count c.planning.planner.reader c.read_plan.new.reader now_same); counted = omega (arith, i.able.counted, c.in-Ok.ensures.counted) };
      same = same_both p.reader c.planning.planner.reader c.read_plan.new.reader i.same now_same;
      never_falls = omega (arith, i.never_falls, c.in-Ok.ensures.never_falls);
    }

pub returns-in-Err-clause-plans : goal.returns-in-Err-clause-plans
returns-in-Err-clause-plans g c =
    let p = c.args.planner.now in
    let layout : Layout = layout_by g.A.EventApp.table_count p.reader in
    let looked = c.await_place.ensures.looked in
    let i = c.planning.invariant in
    ahead_stop g.A.EventApp.event_of layout _ (greatest_of c.read_plan.new.reader.past.version) c.in-Err.tail i.plans c.in-Err.ensures.tail
    (λ some. ap greatest_of (c.in-Err.ensures.same.3.stays (omega (arith, some, i.plans.number_is, i.able.counted)))) looked.1 refl
