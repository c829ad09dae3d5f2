use Rattle.std.proofs.Common.{refl}
use Rattle.steal_explorer.proofs.Going.{goes_none}
use Rattle.steal_explorer.proofs.cascade.ask_rolled.Goals as goal

pub returns-in-RolledBack : goal.returns-in-RolledBack
returns-in-RolledBack g c = let is = c.ask_one.ensures in record { can = is.can; goes = is.goes; asked = λ _. is.asks; other = λ other. absurd (other c.in-RolledBack.is) }

pub returns-in_default : goal.returns-in_default
returns-in_default g c = record { can = c.requires.may.2; goes = goes_none _ _; asked = λ rolled. absurd (c.in_default.not-RolledBack rolled); other = λ _. refl }
