use Rattle.morph_base.proofs.FillLaws.{filled_is_plan, has_bases-filled, transactions-filled, keys_in-filled}
use Rattle.morph_base.proofs.GraphFillLaws.{graph-filled}
use Rattle.morph_base.proofs.laws.plans.filling.Goals as goal

pub returns : goal.returns
returns c = record {
  plan = λ p s. filled_is_plan s p;
  bases = λ p s. has_bases-filled s p;
  graph = λ p s. graph-filled s p;
  events = λ p s. transactions-filled s p;
  keys = λ p s. keys_in-filled s p;
}
