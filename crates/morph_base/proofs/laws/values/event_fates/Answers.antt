use Rattle.morph_base.proofs.FateLaws.{fate_at, final_fates}
use Rattle.morph_base.proofs.laws.values.event_fates.Goals as goal

pub returns : goal.returns
returns c = record { each = fate_at; all = final_fates }
