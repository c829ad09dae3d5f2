use Rattle.morph_base.proofs.LevelLaws.{op_level-rises, event_level-rises, op_level-range, event_level-range}
use Rattle.morph_base.proofs.laws.plans.levels_rise.Goals as goal

pub returns : goal.returns
returns c = record {
  op = λ p o j t valid. op_level-rises p valid.plan valid.graph o j t;
  event = λ p o j t valid. event_level-rises p valid.plan valid.graph o j t;
  op_range = λ p o valid. op_level-range p valid.plan valid.graph o;
  event_range = λ p i valid. event_level-range p valid.plan valid.graph i;
}
