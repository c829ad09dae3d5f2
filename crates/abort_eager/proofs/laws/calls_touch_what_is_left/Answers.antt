use Rattle.abort_eager.proofs.Touching.{touched_more, touched_fewer, touched_end}
use Rattle.abort_eager.proofs.laws.calls_touch_what_is_left.Goals as goal

pub returns : goal.returns
returns c = record { more = touched_more; fewer = touched_fewer; end = touched_end }
