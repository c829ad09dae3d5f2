use Rattle.interleaving_core.proofs.Bounds.{run_attempts, spreads-rolled, evaluated-spreads, no_spread, evaluated-rolled}
use Rattle.interleaving_core.proofs.Stale.{one_small}
use Rattle.interleaving_core.proofs.Committed.{settled-evaluated}
use Rattle.std.proofs.Common.{refl}
use Rattle.interleaving_core.proofs.laws.counts.Goals as goal

pub returns : goal.returns
returns c = record {
  attempts = λ p cap o es s run. run_attempts p cap es s run o;
  few_raised = λ p cap es s valid small run. spreads-rolled p cap valid small es s run;
  few_shown = λ p cap es s valid small run. evaluated-spreads p cap valid small es s run;
  none_spread = λ p es s valid run. no_spread p 1 valid one_small es s run refl;
  shown = λ p cap es s valid small run. evaluated-rolled p cap valid small es s run;
  committed = λ p cap es s valid small run. settled-evaluated p cap valid small es s run;
}
