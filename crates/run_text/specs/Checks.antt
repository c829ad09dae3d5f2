-- What is done with journals
use Rattle.std.specs.Prelude.{Bool, true, false}
use Rattle.run_text.specs.declared.choices.Check.{Check}
use Rattle.run_text.specs.declared.choices.Check.TheVariants.{Off, On, Text}

-- The test whether a journal of each batch is kept and checked
abbrev pub is_checked : Check → Bool
is_checked Off = false
is_checked On = true
is_checked Text = true
