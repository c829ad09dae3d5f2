use Rattle.std.proofs.Common.{sym, ◌∙◌}
use Rattle.interleaving_core.proofs.Machine.{run_sound, is_fold}
use Rattle.interleaving_core.proofs.laws.schedules_agree.Goals as goal

pub returns : goal.returns
returns c = record {
  values = λ p cap m es fs a b o valid small few run other lt a_is b_is.
      (is_fold p cap valid a (run_sound p cap valid small es a run)).values o lt a_is
      ∙ sym ((is_fold p m valid b (run_sound p m valid few fs b other)).values o lt b_is);
  verdicts = λ p cap m es fs a b i u v valid small few run other a_is b_is.
      ((is_fold p cap valid a (run_sound p cap valid small es a run)).verdicts i u a_is).1
      ∙ sym ((is_fold p m valid b (run_sound p m valid few fs b other)).verdicts i v b_is).1;
}
