-- The results of batches, and how a teller takes them
use Rattle.std.specs.Prelude.{◌≡◌, ℕ, Bool, true, false, List, [], ◌∷◌, ◌++◌}
use Rattle.morph_base.specs.Plans.{IsSettledOf}
use Rattle.morph_base.specs.Graphs.{IsValidPlan}
use Rattle.morph_engine.specs.Accounts.{IsAccount, account_of}
use Rattle.batch_pipe.specs.declared.items.Ran.{Ran}

-- What a result is by itself, whatever the state was: its plan is valid, it is settled so, and its numbers fit together
-- by the strategy that it was run with, for this many workers
pub record IsResult (r : Ran) : Type 0 where
  pub workers : ℕ
  pub valid : IsValidPlan r.end.plan
  pub settled : IsSettledOf r.end.plan r.end.settled
  pub account : IsAccount r.end.strategy.explore r.end.strategy.abort workers (account_of r.end)

module _ {Teller : Type 0} (takes : Teller → Ran → Bool → Teller → Type 0) where
  -- The teller took these results, one after another
  unfoldable pub AreTaken : Teller → List Ran → Teller → Type 0
  AreTaken a [] b = b ≡ a
  AreTaken a (r ∷ rs) b = (between : Teller) × takes a r true between × AreTaken between rs b

  -- The teller refused the last of these results, and took those before it, one after another
  pub record AreRefused (a : Teller) (rans : List Ran) (b : Teller) : Type 0 where
    pub taken : List Ran
    pub last : Ran
    pub between : Teller
    pub parts : rans ≡ taken ++ last ∷ []
    pub before : AreTaken a taken between
    pub refused : takes between last false b

  -- The teller took `all` of these results, or refused the last one
  abbrev pub AreTold : Teller → List Ran → (all : Bool) → Teller → Type 0
  AreTold a rans true b = AreTaken a rans b
  AreTold a rans false b = AreRefused a rans b
