-- How much work is shared
use Rattle.std.specs.Prelude.{ℕ}

-- From 8 pieces of work on, all workers share them. The first worker does fewer alone
abbrev pub shared_from : ℕ
shared_from = 8
