use Rattle.abort_eager.proofs.Popping.{popped_here}
use Rattle.abort_eager.proofs.cascade.Cascade.pop_place.Goals as goal

pub returns-in-Some : goal.returns-in-Some
returns-in-Some c = record { pops = popped_here _ _ c.requires.plan c.requires.cascade _ c.in-Some.ensures }
