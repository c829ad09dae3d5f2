-- Turns one after the other.
use Rattle.std.proofs.Common.{◌≡◌, ℕ, ◌+◌, ◌<◌, ◌≤◌, List, [], ◌∷◌, length, refl, sym, ap, ◌∙◌, subst, inl, inr, arith}
use Rattle.std.proofs.lemmas.Bool.{cases_lt}
use Rattle.morph_base.specs.Plans.{op_count}
use Rattle.op_eval.specs.declared.explored.RunEnd.TheVariants.{Drained, Spent}
use Rattle.steal_explorer.specs.declared.find.Found.{Found}
use Rattle.steal_explorer.specs.declared.find.Found.TheVariants.{Item, Nothing, Retry}
use Rattle.steal_explorer.specs.declared.member.Member.{Member}
use Rattle.steal_explorer.specs.Members.{Thief, HasTickets}
use Rattle.steal_explorer.specs.Turns.{After, Turn, Turns, row_then, row_of, WentOn, most_turns, RanTurns}
use Rattle.steal_explorer.proofs.Going.{tickets_kept}
use Rattle.op_eval.specs.Exploring.{RunRules}

pub after_tickets : (rules : RunRules) (ts : List Thief) (f : Found) (a b : Member) → HasTickets ts a → After rules f a b → HasTickets ts b
after_tickets rules ts (Item x) a b is after =
    elim (cases_lt x (op_count rules.plan)) [
      | inl lt ↦ tickets_kept rules ts a b is (after.0 lt).goes
      | inr past ↦ subst (HasTickets ts) (sym (after.1 past)) is
    ]
after_tickets rules ts Nothing a b is after = subst (HasTickets ts) (sym after) is
after_tickets rules ts Retry a b is after = subst (HasTickets ts) (sym after) is

-- after so many turns, of which the last `row` found all deques empty
pub record IsTurning (rules : RunRules) (ts : List Thief) (a : Member) (turn row : ℕ) (b : Member) : Type 0 where
  pub turns : List Found
  pub made : Turns rules ts a turns b
  pub went_on : WentOn turns
  pub count : length turns ≡ turn
  pub row_is : row_of turns ≡ row

row_rises : (row : ℕ) (f : Found) → row_then row f ≤ row + 1
row_rises row (Item x) = omega arith
row_rises row Nothing = omega arith
row_rises row Retry = omega arith

module _ (rules : RunRules) (ts : List Thief) (a : Member) where
  pub turning_none : IsTurning rules ts a 0 0 a
  turning_none = record { turns = []; made = refl; went_on = tt; count = refl; row_is = refl }

  module _ (turn row : ℕ) (m b : Member) (f : Found) (is : IsTurning rules ts a turn row m) (does : Turn rules ts f m b) (few : row < 64) (next : ℕ) (next_is : next ≡ row_then row f) where
    pub turned : IsTurning rules ts a (turn + 1) next b
    turned = record {
      turns = f ∷ is.turns;
      made = (m, is.made, does);
      went_on = (let e = is.row_is in omega arith, is.went_on);
      count = let e = is.count in omega arith;
      row_is = ap (λ k. row_then k f) is.row_is ∙ sym next_is;
    }

    pub row_most : next ≤ 64
    row_most = let e : row_then row f ≤ row + 1 = row_rises row f in omega arith

    -- 64 in a row
    pub drained : turn < most_turns rules.plan → 64 ≤ next → RanTurns rules ts a Drained b
    unfolding turned
    drained lt full = record {
      turns = f ∷ is.turns;
      made = turned.made;
      went_on = turned.went_on;
      ends = (let e = turned.row_is in let most = row_most in omega arith, let e = turned.count in omega arith);
    }

  pub spent : (turn row : ℕ) (b : Member) → IsTurning rules ts a turn row b → row < 64 → turn ≡ most_turns rules.plan → RanTurns rules ts a Spent b
  spent turn row b is few all = record {
    turns = is.turns;
    made = is.made;
    went_on = is.went_on;
    ends = (let e = is.row_is in omega arith, let e = is.count in omega arith);
  }
