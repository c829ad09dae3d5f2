use Rattle.interleaving_core.proofs.Stale.{rolled-stale}
use Rattle.interleaving_core.proofs.laws.stale_guesses_are_rolled_back.Goals as goal

pub returns : goal.returns
returns c = λ p es fs s valid run explored agreed. rolled-stale p valid es fs s run explored agreed
