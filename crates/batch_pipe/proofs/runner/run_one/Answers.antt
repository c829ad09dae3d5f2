use Rattle.std.proofs.Common.{ap, sym, subst, refl, ◌∙◌, arith}
use Rattle.morph_base.specs.declared.plan.Plan.{Plan}
use Rattle.morph_base.specs.declared.strategy.Strategy.{Strategy}
use Rattle.morph_base.specs.Flat.{contents}
use Rattle.morph_base.specs.States.{after_all}
use Rattle.morph_base.specs.Outcomes.{fates}
use Rattle.morph_base.specs.Plans.{HasBases, IsSettledOf, event_count, transactions}
use Rattle.morph_base.specs.Graphs.{IsValidPlan}
use Rattle.morph_base.proofs.PlanLaws.{state_at-past}
use Rattle.morph_engine.specs.Accounts.{IsAccount, account_of}
use Rattle.morph_engine.specs.Ends.{IsEnd}
use Rattle.morph_engine.specs.Fates.{settled_fates}
use Rattle.batch_pipe.specs.PlanRuns.{picked}
use Rattle.batch_pipe.proofs.runner.run_one.Goals as goal

pub returns-clause-run : goal.returns-clause-run
returns-clause-run g c =
    let e = c.in_ok-end.ensures.ended.plan in
    let s = contents c.args.engine.now in
    let end = c.in_ok-end.end in
    let r = end.settled in
    let host = c.args.host.now in
    record {
      number = refl;
      events = ap transactions e ∙ c.rebase.ensures.transactions;
      valid = subst IsValidPlan (sym e) c.rebase.ensures.valid;
      bases = subst (λ (p : Plan). HasBases p s) (sym e) c.rebase.ensures.bases;
      settled = subst (λ (p : Plan). IsSettledOf p r) (sym e) c.in_ok-end.ensures.ended.settled;
      fates_are = ap (λ (p : Plan). settled_fates p r) e ∙ c.in_ok-end.ensures.ended.fates_are ∙ ap (fates s) c.rebase.ensures.transactions;
      strategy = c.pick-strategy.ensures ∙ ap (picked host.pick c.args.last.now) (sym e);
      run_by = c.in_ok-end.ensures.ended.strategy_is;
      ended =
          subst (λ (p : Plan). IsEnd p end.strategy host.workers s end) (sym e)
          (subst (λ (t : Strategy). IsEnd c.rebase.new.plan t host.workers s end) (sym c.in_ok-end.ensures.ended.strategy_is)
          c.in_ok-end.ensures.ended);
      account = subst (λ (t : Strategy). IsAccount t.explore t.abort host.workers (account_of c.in_ok-end.end)) (sym c.in_ok-end.ensures.ended.strategy_is) c.in_ok-end.ensures.ended.account;
    }

pub returns-clause-state : goal.returns-clause-state
returns-clause-state g c =
    let s = contents c.args.engine.now in
    c.in_ok-end.ensures.state ∙ state_at-past c.rebase.new.plan s (event_count c.rebase.new.plan) (omega arith) ∙ ap (after_all s) c.rebase.ensures.transactions
