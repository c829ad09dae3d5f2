use Rattle.std.proofs.Common.{List, refl, subst, ◌∙◌}
use Rattle.rtrb.specs.Ring.{known_items}
use Rattle.batch_pipe.specs.declared.items.Sent.{Sent}
use Rattle.batch_pipe.specs.declared.runner.RunEnd.TheVariants.{Whole}
use Rattle.batch_pipe.specs.PlanRuns.{Manner, HasRunPlans, RunsWaiting, manner, one_or_none, post}
use Rattle.batch_pipe.proofs.Ahead.{same_consumer}
use Rattle.batch_pipe.proofs.Desks.{waiting_both}
use Rattle.batch_pipe.proofs.halves.run_half.Goals as goal

pub returns : goal.returns
returns g c =
    let m : Manner = manner c.args.host.now.pick c.args.host.now.workers in
    let takes = g.T.Teller.takes in
    let first : List Sent = one_or_none c.take-first.result in
    let a = c.args.runner.now in
    let b = c.run_waiting-waited.new.runner in
    let d = c.run_coming-end.new.runner in
    let known : List Sent = known_items a.ring in
    let waited = c.run_waiting-waited.ensures.runs in
    let came = c.run_coming-end.ensures in
    let all : RunsWaiting takes m (post a c.args.teller.now) first known Whole (post b c.run_waiting-waited.new.teller) =
    subst (λ e. RunsWaiting takes m (post a c.args.teller.now) first known e (post b c.run_waiting-waited.new.teller)) (c.if-not-is_whole.ensures.0 refl) waited.runs in
    subst (λ f. HasRunPlans takes m (one_or_none f) known a c.args.teller.now c.run_coming-end.result d c.run_coming-end.new.teller) c.take-first.ensures.value (record {
      runs = waiting_both takes m first known c.run_coming-end.result all came.runs;
      ring = same_consumer a.ring b.ring d.ring waited.ring came.ring;
      layout = came.layout ∙ waited.layout;
    })
