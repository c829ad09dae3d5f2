use Rattle.morph_base.proofs.OutcomeLaws.{source_precedes}
use Rattle.morph_base.proofs.laws.plans.sources_come_first.Goals as goal

pub returns : goal.returns
returns c = λ p o j t valid lt below is. (let before = source_precedes p o j t valid lt below is in (before.number_before, before.event_before))
