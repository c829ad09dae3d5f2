use Rattle.interleaving_core.proofs.Ordering.{run_same, run_leads, leads_run}
use Rattle.interleaving_core.proofs.laws.steps_in_order.Goals as goal

pub returns : goal.returns
returns c = record {
  same = run_same;
  reversed = run_leads;
  appended = leads_run;
}
