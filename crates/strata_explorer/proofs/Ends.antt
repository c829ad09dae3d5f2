-- How exploring begins, and what is handed on.
use Rattle.std.proofs.Common.{◌≡◌, ℕ, List, [], ◌∷◌, length, refl, sym, ap, ◌∙◌, subst, inl, arith}
use Rattle.std.specs.Prelude.{All, slice_index_or}
use Rattle.morph_base.specs.declared.plan.Plan.{Plan}
use Rattle.morph_base.specs.Contents.{with_items}
use Rattle.op_words.specs.declared.board.Board.{Board}
use Rattle.op_words.specs.declared.trail.Place.{Place}
use Rattle.op_words.specs.Counting.{times}
use Rattle.op_words.specs.Hands.{plan_of}
use Rattle.op_eval.specs.declared.explored.Explored.{Explored}
use Rattle.op_eval.specs.declared.explored.RunEnd.{RunEnd}
use Rattle.op_eval.specs.declared.runner.Runner.{Runner}
use Rattle.op_eval.specs.declared.runners.Runners.{Runners}
use Rattle.op_eval.specs.Exploring.{IsExploring, Unused, MayExplore, parts_of}
use Rattle.op_eval.specs.Gathering.{runners_of, AreAtRest}
use Rattle.op_eval.specs.Running.{hand_view, IsFreeRunner}
use Rattle.op_eval.proofs.Seating.{come_back}
use Rattle.op_eval.proofs.Elements.{contains_first}
use Rattle.strata_explorer.specs.Levels.{named, passed_ops, AreStrata, HasReached, HaveReached, IsStrata}
use Rattle.strata_explorer.proofs.Turning.{times_some}

-- where no counter was used, no number was taken
no_places : (xs : List Place) → ((c : ℕ) → times c xs ≡ 0) → xs ≡ []
no_places [] none = refl
no_places (x ∷ xs) none =
    let some = times_some x.counter x.number (x ∷ xs) (contains_first x xs) in
    let zero_times = none x.counter in
    absurd (omega arith)

-- where no number was taken, nothing is to be reached, whatever the counters are for
pub reached_none : (p : Plan) (list : ℕ → List ℕ) (counters : ℕ) (r : Runner) → IsStrata p [] r → HasReached p counters list r
reached_none p list counters r old = record {
  exploring = old.exploring;
  walked = λ c n found less.
      let some = times_some c n (hand_view r).places found in
      let none = old.unused c (omega arith) in
      absurd (omega arith);
  unused = λ c above. old.unused c (omega arith);
  counted =
      let none : named list (hand_view r).places ≡ 0 = ap (named list) (no_places (hand_view r).places (λ c. old.unused c (omega arith))) in
      inl (omega arith);
}

pub strata_none : (p : Plan) (b : Board) (rs : Runners) → p ≡ plan_of b → MayExplore b 0 rs → (lent : List Runner) → lent ≡ runners_of rs → AreStrata p [] lent
strata_none p b rs same old lent is = subst (AreStrata p []) (sym is) (record {
  each = λ k d lt.
      let r = slice_index_or (runners_of rs) k d in
      record {
        exploring = subst (λ q. IsExploring q r) (sym same) (old.exploring k d lt);
        walked = λ c n found less.
            let some = times_some c n (hand_view r).places found in
            let none = old.unused c (omega arith) k d lt in
            absurd (omega arith);
        unused = λ c above. old.unused c above k d lt;
        counted =
            let none : named (passed_ops p []) (hand_view r).places ≡ 0 = ap (named (passed_ops p [])) (no_places (hand_view r).places (λ c. old.unused c (omega arith) k d lt)) in
            inl (omega arith);
      };
  enough = λ l lt. absurd (omega arith);
})

-- passes may have changed the board, but not its plan
pub handed_on : (p : Plan) (b now : Board) (rs : Runners) (list : ℕ → List ℕ) (m : ℕ) (lent qs : List Runner) → p ≡ plan_of b → plan_of now ≡ plan_of b → MayExplore b 0 rs → lent ≡ runners_of rs → length qs ≡ length lent → All (IsFreeRunner now) qs
    → ((d : Runner) → (hand_view (slice_index_or qs 0 d)).tag ≡ (hand_view (slice_index_or lent 0 d)).tag) → HaveReached p m list qs
    → MayExplore now m (record { runners = with_items rs.runners qs; left = rs.left })
handed_on p b now rs list m lent qs same plan old is len seated root reached = record {
  places = record {
    none = old.places.none;
    room = let e : length (with_items rs.runners qs).items ≡ length rs.runners.items = ap length back ∙ many in let room = old.places.room in omega arith;
    all = old.places.all;
  };
  rest = subst (AreAtRest now) (sym back) (record {
    some = let some = old.rest.some in omega (arith, many);
    hands = λ k d lt. (seated k d lt).hand;
    free = λ k d lt. (seated k d lt).free;
    root = λ d. root d ∙ ap (λ (rs : List Runner). (hand_view (slice_index_or rs 0 d)).tag) is ∙ old.rest.root d;
  });
  exploring = subst (All (IsExploring (plan_of now))) (sym back) (λ k d lt. subst (λ q. IsExploring q (slice_index_or qs k d)) (same ∙ sym plan) (reached.each k d lt).exploring);
  unused = λ c above. subst (All (Unused c)) (sym back) (λ k d lt. (reached.each k d lt).unused c above);
}
  where
    many : length qs ≡ length rs.runners.items
    many = len ∙ ap length is

    back : (with_items rs.runners qs).items ≡ qs
    back = come_back rs.runners.items qs many

-- the runners that were handed on
pub handed_back : (e : Explored) (b : Board) (rs : Runners) (end : RunEnd) (m : ℕ) (lent qs : List Runner) → parts_of e ≡ (b, record { runners = with_items rs.runners qs; left = rs.left }, end, m)
    → lent ≡ runners_of rs → length qs ≡ length lent → runners_of (parts_of e).1 ≡ qs
handed_back e b rs end m lent qs parts is len =
    ap (λ (t : Board × Runners × RunEnd × ℕ). runners_of t.1) parts ∙ come_back rs.runners.items qs (len ∙ ap length is)
