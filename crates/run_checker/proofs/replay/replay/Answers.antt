use Rattle.std.proofs.Common.{◌≡◌, [], get_or, refl, sym, ◌∙◌, subst}
use Rattle.interleaving_core.specs.declared.event.CoreEvent.TheVariants.{Ready}
use Rattle.interleaving_core.specs.declared.event.Step.TheVariants.{Taken, Refused}
use Rattle.interleaving_core.specs.Core.{start}
use Rattle.interleaving_core.specs.Stored.{core_of, cap_of}
use Rattle.interleaving_core.specs.Steps.{May}
use Rattle.interleaving_core.specs.Orders.{Leads}
use Rattle.run_checker.proofs.JournalFronts.{leads_none, taken_more, refused_at}
use Rattle.run_checker.proofs.replay.replay.Goals as goal

pub loop-n-init : goal.loop-n-init
loop-n-init c = record {
  leads = subst (Leads c.args.plan.now (cap_of c.args.state.now) start []) (sym c.requires.start) (leads_none c.args.plan.now (cap_of c.args.state.now) start);
  state = c.requires.state;
  cap = refl;
}

pub loop-n-preserved : goal.loop-n-preserved
loop-n-preserved c =
    let may = c.step.ensures.taken.0 c.in-Taken.is in
    record {
      leads = taken_more c.args.plan.now (cap_of c.args.state.now) c.args.journal.now c.loop-n.n (Ready 0) (core_of c.loop-n.state) (core_of c.step.new.self)
          c.loop-n-test.true c.loop-n.invariant.leads
          (subst (λ cap. May c.args.plan.now cap (core_of c.loop-n.state) (get_or c.args.journal.now c.loop-n.n (Ready 0))) c.loop-n.invariant.cap may) (c.step.ensures.next c.in-Taken.is);
      state = c.step.ensures.state;
      cap = c.step.ensures.cap ∙ c.loop-n.invariant.cap;
    }

pub returns-in-Refused-clause-broken : goal.returns-in-Refused-clause-broken
returns-in-Refused-clause-broken c =
    refused_at c.args.plan.now (cap_of c.args.state.now) c.args.journal.now c.loop-n.n (Ready 0) (core_of c.loop-n.state) c.loop-n-test.true c.loop-n.invariant.leads
    (λ may. absurd (apart (sym c.in-Refused.is ∙ c.step.ensures.taken.1 (subst (λ cap. May c.args.plan.now cap (core_of c.loop-n.state) (get_or c.args.journal.now c.loop-n.n (Ready 0))) (sym c.loop-n.invariant.cap) may))))
  where
    apart : Refused ≡ Taken → ⊥
    apart is = cc
