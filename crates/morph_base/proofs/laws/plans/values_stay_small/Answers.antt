use Rattle.std.proofs.Common.{le_refl}
use Rattle.morph_base.specs.Plans.{high_of}
use Rattle.morph_base.proofs.BoundLaws.{high_of-small, value_of-small, value_of-within, fold-small, fold_batch-small, state_at-within, opening-within, final-within}
use Rattle.morph_base.proofs.laws.plans.values_stay_small.Goals as goal

pub returns : goal.returns
returns c = record {
  answers = value_of-small;
  within = λ op xs v is shape. value_of-within op.high op xs v is shape (le_refl op.high);
  folds = fold-small;
  batches = fold_batch-small;
  states = λ p s i key valid. state_at-within p valid (high_of p) (le_refl (high_of p)) s i key;
  opening = λ p key valid. opening-within p valid (high_of p) (le_refl (high_of p)) key;
  values = λ p o valid. final-within p valid (high_of p) (le_refl (high_of p)) o;
  high = high_of-small;
}
