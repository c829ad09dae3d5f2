-- What becomes of runners after one or all of them were lent
use Rattle.std.specs.Prelude.{ℕ, ◌-◌}
use Rattle.std.specs.Borrow.{Lends, MutBor, Fml, Array}
use Rattle.std.specs.Prelude.{List}
use Rattle.morph_base.specs.Contents.{with_item, with_items}
use Rattle.op_eval.specs.declared.runner.Runner.{Runner}
use Rattle.op_eval.specs.declared.runners.Runners.{Runners}
use Rattle.op_eval.specs.contracts.runner.Runner.{the_row as of_runner}
use Rattle.op_eval.specs.contracts.runners.Runners.{the_row}

-- The runners with this list in the place of all of them
abbrev pub with_runners : Runners → List Runner → Runners
with_runners rs items = record rs { runners = with_items rs.runners items }

-- All runners are lent, and afterwards they are what the borrower left
abbrev pub LendsRunners : MutBor Runners → MutBor (List Runner) → Fml
LendsRunners rs lent = Lends the_row (Array of_runner 0) rs lent (with_runners rs.now)

-- The runners with this runner in the place of the one of a number
abbrev pub with_runner : Runners → ℕ → Runner → Runners
with_runner rs number runner = record rs { runners = with_item rs.runners (number - 1) runner }

-- The runner of a number is lent, and afterwards it is what the borrower left
abbrev pub LendsRunner : MutBor Runners → ℕ → MutBor Runner → Fml
LendsRunner rs number lent = Lends the_row of_runner rs lent (with_runner rs.now number)
