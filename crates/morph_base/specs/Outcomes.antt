-- What becomes of transactions: the verdict on each, and the values of its targets after it
use Rattle.std.specs.Prelude.{ℕ, Bool, List, [], ◌∷◌, map}
use Rattle.morph_base.specs.declared.outcome.Outcome.{Outcome}
use Rattle.morph_base.specs.Transactions.{Transaction, targets}
use Rattle.morph_base.specs.States.{State, commits, after}

-- The fate of an event: its time, whether it committed, and the values of its targets after it
pub record Fate : Type 0 where
  pub ts : ℕ
  pub committed : Bool
  pub values : List ℕ

-- The outcome that the code holds, as a fate
abbrev pub fate_of : Outcome → Fate
fate_of o = record { ts = o.ts; committed = o.committed; values = o.values.items }

-- The fate of a transaction: the verdict on it in the state before, and its targets' values in the state after
abbrev pub fate : State → Transaction → Fate
fate s e = record { ts = e.ts; committed = commits s e; values = map (after s e) (targets e) }

-- The fates of the transactions of a list, one after another
unfoldable pub fates : State → List Transaction → List Fate
fates s [] = []
fates s (e ∷ es) = fate s e ∷ fates (after s e) es
