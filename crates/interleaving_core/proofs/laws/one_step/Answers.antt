use Rattle.interleaving_core.proofs.Machine.{start_sound, step_keeps, step_grows}
use Rattle.interleaving_core.proofs.laws.one_step.Goals as goal

pub returns : goal.returns
returns c = record {
  start = start_sound;
  sound = λ p cap s e valid small sound may. step_keeps p cap valid small s sound e may;
  grows = λ p cap s e valid small sound may. step_grows p cap valid small s sound e may;
}
