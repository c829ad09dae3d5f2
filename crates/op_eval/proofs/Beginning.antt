-- Runners that were asked nothing yet can be explored with.
use Rattle.std.proofs.Common.{◌≡◌, ℕ, zero, suc, ◌<◌, ◌≤◌, [], get_or, ap, ◌∙◌, arith, None}
use Rattle.std.specs.Prelude.{All}
use Rattle.morph_base.specs.declared.plan.Plan.{Plan}
use Rattle.morph_base.specs.Plans.{event_count}
use Rattle.op_words.specs.declared.board.Board.{Board}
use Rattle.op_words.specs.declared.trail.View.{View}
use Rattle.op_words.specs.Counting.{times}
use Rattle.op_words.specs.Hands.{plan_of}
use Rattle.op_eval.specs.declared.answers.Answers.{Answers}
use Rattle.op_eval.specs.declared.runner.Runner.{Runner}
use Rattle.op_eval.specs.declared.runners.Runners.{Runners}
use Rattle.op_eval.specs.Exploring.{stopped, IsExploring, Unused, MayExplore}
use Rattle.op_eval.specs.Gathering.{runners_of, HasBegun, HasPlaces, AreNew}
use Rattle.op_eval.proofs.Seating.{new_at_rest}

begun_explores : (p : Plan) (events : ℕ) (r : Runner) → event_count p ≤ events → HasBegun events r → IsExploring p r
begun_explores p events r fits begun = record {
  finishes = let none : r.answers.evaluated ≡ 0 = ap (λ (n : Answers). n.evaluated) begun.answers in omega arith;
  stops = let none : stopped r.answers ≡ 0 = ap stopped begun.answers in omega arith;
  kept = begun.kept;
  room = let room = begun.room in omega arith;
}

pub new_explored : (b : Board) (v : View) (n events : ℕ) (rs : Runners) → 0 < n → v.tag ≡ 1 → HasPlaces rs → AreNew b v n events (runners_of rs) → v.claim ≡ None → v.places ≡ []
    → event_count (plan_of b) ≤ events → MayExplore b 0 rs
new_explored b v n events rs some first has are free none fits = record {
  places = has;
  rest = new_at_rest b v n events (runners_of rs) some first free are;
  exploring = λ k d lt. begun_explores (plan_of b) events (get_or (runners_of rs) k d) fits (are.begun k d lt);
  unused = λ c above. unused c;
}
  where
    unused : (c : ℕ) → All (Unused c) (runners_of rs)
    unused c zero d lt = ap (λ (u : View). times c u.places) (are.root d) ∙ ap (times c) none
    unused c (suc k) d lt = ap (λ (u : View). times c u.places) (are.others (suc k) d (omega arith) (let many = are.len in omega (arith, many, lt)))
