-- Runners that are set aside while the others explore, and brought back.
use Rattle.std.proofs.Common.{◌≡◌, ℕ, ◌+◌, ◌-◌, ◌<◌, ◌≤◌, List, [], ◌∷◌, ◌++◌, length, get_or, reverse, sym, ap, ◌∙◌, subst, append_assoc, arith, length-append, inl, inr}
use Rattle.std.specs.Prelude.{All, None, slice_index_or}
use Rattle.std.proofs.Math.Seq.{get_or-append_right}
use Rattle.std.proofs.lemmas.Bool.{cases_lt}
use Rattle.std.proofs.lemmas.List.{get_or_append_left, get_or-append-add, reverse-append, length-reverse}
use Rattle.std.proofs.lemmas.List.Elements.{All-append}
use Rattle.morph_base.specs.declared.plan.Plan.{Plan}
use Rattle.morph_base.specs.declared.strategy.Abort.{Abort}
use Rattle.op_words.specs.Hands.{plan_of, IsHandOf}
use Rattle.op_words.specs.Trails.{IsReached}
use Rattle.op_words.specs.Views.{IsLone}
use Rattle.op_words.specs.declared.board.Board.{Board}
use Rattle.op_eval.specs.declared.explored.Explored.{Explored}
use Rattle.op_eval.specs.declared.runner.Runner.{Runner}
use Rattle.op_eval.specs.declared.runners.Runners.{Runners}
use Rattle.op_eval.specs.Alone.{IsNewRoot, HasRunAll, Ran}
use Rattle.op_eval.specs.Exploring.{MayExplore, IsExploring, Unused}
use Rattle.op_eval.specs.Further.{HaveGoneOn, IsFurther}
use Rattle.op_eval.specs.Gathering.{runners_of, HasPlaces}
use Rattle.op_eval.specs.Running.{hand_view}
use Rattle.op_eval.proofs.Further.{same_further}
use Rattle.steal_explorer.specs.Handed.{AreReached}
use Rattle.morph_engine.specs.Crews.{IsCrew, AreWaiting}
use Rattle.morph_engine.specs.declared.crew.Crew.{Crew}
use Rattle.morph_engine.specs.Exploring.{HaveHanded}

-- ---- one after the other

turned : {X : Type 0} (xs : List X) (x : X) → reverse (xs ++ x ∷ []) ≡ x ∷ reverse xs
turned xs x = reverse-append xs (x ∷ [])

pub one_aside : {X : Type 0} (all rs rest waiting : List X) (x : X) (more : List X) → all ≡ rs ++ reverse waiting → rs ≡ rest ++ x ∷ [] → more ≡ waiting ++ x ∷ [] → all ≡ rest ++ reverse more
one_aside all rs rest waiting x more is last added =
    is ∙ ap (λ l. l ++ reverse waiting) last ∙ append_assoc rest (x ∷ []) (reverse waiting) ∙ ap (λ l. rest ++ l) (sym (ap reverse added ∙ turned waiting x))

pub one_back : {X : Type 0} (all rs more waiting rest : List X) (x : X) → all ≡ rs ++ reverse waiting → waiting ≡ rest ++ x ∷ [] → more ≡ rs ++ x ∷ [] → all ≡ more ++ reverse rest
one_back all rs more waiting rest x is last added =
    is ∙ ap (λ l. rs ++ l) (ap reverse last ∙ turned rest x) ∙ sym (append_assoc rs (x ∷ []) (reverse rest)) ∙ ap (λ l. l ++ reverse rest) (sym added)

-- ---- those in front, and those behind

pub all_front : {X : Type 0} (P : X → Type 0) (xs ys : List X) → All P (xs ++ ys) → All P xs
all_front P xs ys all k d lt =
    let inside : k < length (xs ++ ys) = omega (arith, lt, length-append xs ys) in
    subst P (get_or_append_left xs ys d k lt) (all k d inside)

all_behind : {X : Type 0} (P : X → Type 0) (xs ys : List X) → All P (xs ++ ys) → All P ys
all_behind P xs ys all k d lt =
    let inside : length xs + k < length (xs ++ ys) = omega (arith, lt, length-append xs ys) in
    subst P (get_or-append-add xs ys k d) (all (length xs + k) d inside)

abbrev IsOf : Board → Runner → Type 0
IsOf b r = IsHandOf b r.hand

abbrev IsFree : Runner → Type 0
IsFree r = (hand_view r).claim ≡ None

module _ (b : Board) (whole : List Runner) (front behind : List Runner) (is : whole ≡ front ++ behind) where
  first_is : 0 < length front → (d : Runner) → slice_index_or whole 0 d ≡ slice_index_or front 0 d
  first_is some d = ap (λ (l : List Runner). get_or l 0 d) is ∙ get_or_append_left front behind d 0 some

  front_all : (P : Runner → Type 0) → All P whole → All P front
  front_all P all = all_front P front behind (subst (All P) is all)

  behind_all : (P : Runner → Type 0) → All P whole → All P behind
  behind_all P all = all_behind P front behind (subst (All P) is all)

  both_all : (P : Runner → Type 0) → All P front → All P behind → All P whole
  both_all P one other = subst (All P) (sym is) (All-append P front behind one other)

-- the runners that go on can explore, where all can
pub front_explored : (b : Board) (old new : Runners) (behind : List Runner) → runners_of old ≡ runners_of new ++ behind → 0 < length (runners_of new) → HasPlaces new → MayExplore b 0 old → MayExplore b 0 new
front_explored b old new behind is some places explored = record {
  places = places;
  rest = record {
    some = some;
    hands = front_all b (runners_of old) (runners_of new) behind is (IsOf b) explored.rest.hands;
    free = front_all b (runners_of old) (runners_of new) behind is IsFree explored.rest.free;
    root = λ d. ap (λ (r : Runner). (hand_view r).tag) (sym (first_is b (runners_of old) (runners_of new) behind is some d)) ∙ explored.rest.root d;
  };
  exploring = front_all b (runners_of old) (runners_of new) behind is (IsExploring (plan_of b)) explored.exploring;
  unused = λ c high. front_all b (runners_of old) (runners_of new) behind is (Unused c) (explored.unused c high);
}

pub behind_waits : (b : Board) (old : Runners) (front behind : List Runner) → runners_of old ≡ front ++ behind → MayExplore b 0 old → AreWaiting b behind
behind_waits b old front behind is explored = record {
  hands = behind_all b (runners_of old) front behind is (IsOf b) explored.rest.hands;
  free = behind_all b (runners_of old) front behind is IsFree explored.rest.free;
  exploring = behind_all b (runners_of old) front behind is (IsExploring (plan_of b)) explored.exploring;
  unused = λ c. behind_all b (runners_of old) front behind is (Unused c) (explored.unused c (omega arith));
}

pub waits_by : (a b : Board) (rs : List Runner) → a ≡ b → AreWaiting b rs → AreWaiting a rs
waits_by a b rs same waiting = subst (λ board. AreWaiting board rs) (sym same) waiting

-- somebody goes on
pub some_work : (p : Plan) (crew : Crew) (all front : List Runner) (aside : List Runner) → all ≡ front ++ reverse aside → length aside ≡ crew.idle → IsCrew p (length all) crew → 0 < length front
some_work p crew all front aside is many made =
    let e : length all ≡ length (front ++ reverse aside) = ap (λ (l : List Runner). length l) is in
    let a = length-append front (reverse aside) in
    let b : length (reverse aside) ≡ length aside = length-reverse aside in
    let some : 0 < length crew.deques.seats.items = made.some in
    let whole : length crew.deques.seats.items + crew.idle ≡ length all = made.all in
    omega arith

-- all can go on to settling, where those that explored and those that waited can
pub both_explored : (b : Board) (next : ℕ) (old new : Runners) (behind : List Runner) → runners_of new ≡ runners_of old ++ behind → HasPlaces new → MayExplore b next old → AreWaiting b behind → MayExplore b next new
both_explored b next old new behind is places explored waiting = record {
  places = places;
  rest = record {
    some =
        let e : length (runners_of new) ≡ length (runners_of old ++ behind) = ap (λ (l : List Runner). length l) is in
        let some : 0 < length (runners_of old) = explored.rest.some in
        omega (arith, e, some, length-append (runners_of old) behind);
    hands = both_all b (runners_of new) (runners_of old) behind is (IsOf b) explored.rest.hands waiting.hands;
    free = both_all b (runners_of new) (runners_of old) behind is IsFree explored.rest.free waiting.free;
    root = λ d. ap (λ (r : Runner). (hand_view r).tag) (first_is b (runners_of new) (runners_of old) behind is explored.rest.some d) ∙ explored.rest.root d;
  };
  exploring = both_all b (runners_of new) (runners_of old) behind is (IsExploring (plan_of b)) explored.exploring waiting.exploring;
  unused = λ c high. both_all b (runners_of new) (runners_of old) behind is (Unused c) (explored.unused c high) (waiting.unused c);
}

-- ---- what is said of those that explored is said of all

pub further_all : (old new front after behind : List Runner) → old ≡ front ++ behind → new ≡ after ++ behind → HaveGoneOn front after → HaveGoneOn old new
further_all old new front after behind old_is new_is further =
    subst (λ l. HaveGoneOn l new) (sym old_is) (subst (HaveGoneOn (front ++ behind)) (sym new_is) (record {
      len =
          let a = length-append front behind in
          let b = length-append after behind in
          let same : length after ≡ length front = further.len in
          omega arith;
      each = λ k d lt.
          elim (cases_lt k (length front)) [
            | inl inside ↦
                subst (λ r. IsFurther r (slice_index_or (after ++ behind) k d)) (sym (get_or_append_left front behind d k inside))
                (subst (IsFurther (slice_index_or front k d)) (sym (get_or_append_left after behind d k (subst (λ n. k < n) (sym further.len) inside))) (further.each k d inside))
            | inr past ↦
                same_further _ _
                (get_or-append_right after behind k d (subst (λ n. n ≤ k) (sym further.len) past)
                ∙ ap (λ n. get_or behind (k - n) d) further.len
                ∙ sym (get_or-append_right front behind k d past))
          ];
    }))

pub reached_all : (p : Plan) (xs : List ℕ) (all front behind : List Runner) → all ≡ front ++ behind → AreReached p xs front → AreReached p xs all
reached_all p xs all front behind is reached x inside =
    let at = reached x inside in (
      at.0,
      (let e : length all ≡ length (front ++ behind) = ap (λ (l : List Runner). length l) is in omega (arith, at.1, e, length-append front behind)),
      λ d. subst (λ (r : Runner). IsReachedIn p x r) (sym (ap (λ (l : List Runner). get_or l at.0 d) is ∙ get_or_append_left front behind d at.0 at.1)) (at.2 d),
    )
  where
    IsReachedIn : Plan → ℕ → Runner → Type 0
    IsReachedIn p x r = IsReached p x (hand_view r).trail

-- a lone root has nobody behind it
pub new_front : (all front behind : List Runner) → all ≡ front ++ behind → 0 < length front → IsNewRoot all → IsNewRoot front
new_front all front behind is some new = record {
  one =
      let one : length all ≡ 1 = new.one in
      let e : length all ≡ length (front ++ behind) = ap (λ (l : List Runner). length l) is in
      let many = length-append front behind in
      omega arith;
  lone = λ d. subst (λ (r : Runner). IsLoneRunner r) (first d) (new.lone d);
  fresh = λ d. ap (λ (r : Runner). (hand_view r).trail) (sym (first d)) ∙ new.fresh d;
}
  where
    IsLoneRunner : Runner → Type 0
    IsLoneRunner r = IsLone (hand_view r)

    first : (d : Runner) → slice_index_or all 0 d ≡ slice_index_or front 0 d
    first d = ap (λ (l : List Runner). get_or l 0 d) is ∙ get_or_append_left front behind d 0 some

pub ran_all : (p : Plan) (all front behind : List Runner) → all ≡ front ++ behind → 0 < length front → HasRunAll p front → HasRunAll p all
ran_all p all front behind is some ran d o lt =
    subst (λ (r : Runner). Ran (hand_view r).trail o) (sym (ap (λ (l : List Runner). get_or l 0 d) is ∙ get_or_append_left front behind d 0 some)) (ran d o lt)

pub handed_all : (p : Plan) (abort : Abort) (start front behind : List Runner) (e f : Explored) (handed stolen : ℕ) → start ≡ front ++ behind → 0 < length front → runners_of f.runners ≡ runners_of e.runners ++ behind
    → f.next_counter ≡ e.next_counter → HaveHanded p abort front e handed stolen → HaveHanded p abort start f handed stolen
handed_all p abort start front behind e f handed stolen start_is some runners_is next told = record {
  unused = next ∙ told.unused;
  items = told.items;
  balanced = told.balanced;
  inside = told.inside;
  reached = reached_all p told.items.taken (runners_of f.runners) (runners_of e.runners) behind runners_is told.reached;
  alone = λ new. told.alone (new_front start front behind start_is some new);
}
