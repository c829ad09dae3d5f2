use Rattle.morph_base.specs.Guesses.{guess}
use Rattle.morph_base.proofs.GuessLaws.{guess_is_guess, guess_alone, guess-small}
use Rattle.morph_base.proofs.laws.values.guesses_alone.Goals as goal

pub returns : goal.returns
returns c = record { one = guess_is_guess; alone = guess_alone; small = λ p o valid. guess-small p (guess p) o valid (guess_is_guess p valid) }
