use Rattle.std.proofs.Common.{◌≤◌, subst}
use Rattle.interleaving_core.proofs.Machine.{run_sound, run_tells, rests_on_none, is_fold, settled_once, few_attempts}
use Rattle.interleaving_core.proofs.laws.every_schedule.Goals as goal

pub returns : goal.returns
returns c = record {
  sound = λ p cap es d valid small run. run_sound p cap valid small es d run;
  none_rests = λ p cap es d o valid small run. rests_on_none p cap valid d (run_sound p cap valid small es d run) o;
  fold = λ p cap es d valid small run. is_fold p cap valid d (run_sound p cap valid small es d run);
  once = λ p cap es d o valid small run.
      let once = settled_once p cap valid d (run_sound p cap valid small es d run) in
      (subst (λ n. n ≤ 1) ((run_tells p cap es d run).settlings o) (once.once o), once);
  attempts = λ p cap es d valid small run. few_attempts p cap valid d (run_sound p cap valid small es d run);
  steps = run_tells;
}
