-- From what exploring left to what is closed.
use Rattle.std.proofs.Common.{◌≡◌, ℕ, zero, suc, ◌+◌, ◌*◌, ◌<◌, ◌≤◌, List, [], ◌∷◌, ◌++◌, length, map, refl, sym, ap, ◌∙◌, subst, inl, inr, arith}
use Rattle.std.specs.Prelude.{All, Contains, drop, take, slice_index_or}
use Rattle.std.proofs.lemmas.Bool.{cases_lt}
use Rattle.std.proofs.lemmas.List.{length-map, get_or-map}
use Rattle.morph_base.specs.declared.plan.Plan.{Plan}
use Rattle.morph_base.specs.Graphs.{IsValidPlan}
use Rattle.morph_base.specs.Limits.{most_workers}
use Rattle.morph_base.specs.Plans.{event_count}
use Rattle.op_words.specs.declared.board.Board.{Board}
use Rattle.op_words.specs.declared.trail.View.{View}
use Rattle.op_words.specs.Closing.{IsJoined}
use Rattle.op_words.specs.Hands.{plan_of}
use Rattle.op_words.specs.Views.{joined_of}
use Rattle.op_eval.specs.declared.runner.Runner.{Runner}
use Rattle.op_eval.specs.declared.runners.Runners.{Runners}
use Rattle.op_eval.specs.Exploring.{MayExplore}
use Rattle.op_eval.specs.Gathering.{runners_of, gathered, HasPlaces, AreAtRest}
use Rattle.op_eval.specs.Lending.{with_runners}
use Rattle.op_eval.specs.Running.{hand_view}
use Rattle.abort_lazy.specs.Runs.{IsSettledByRoot, IsSettling, AreSettling, AreAllHands, idled, root_view}
use Rattle.abort_lazy.proofs.Alone.{alone_ends}
use Rattle.abort_lazy.proofs.Levelling.{first_room}
use Rattle.abort_lazy.proofs.Advancing.{tried_none}
use Rattle.abort_lazy.proofs.Gathered.{gathered_made, gathered_tag, gathered_joined, gathered_has}
use Rattle.abort_lazy.proofs.Idle.{idled_all, idled_made, idled_none, idled_root, idled_tag}

pub settling_begins : (b : Board) (p : Plan) (from : ℕ) (rs : Runners) → p ≡ plan_of b → MayExplore b from rs → (parts : ℕ) → All (λ r. IsSettling b p from parts 0 r r) (runners_of rs)
settling_begins b p from rs plan explored parts k d lt =
    let r : Runner = slice_index_or (runners_of rs) k d in
    let exploring = explored.exploring k d lt in
    record {
      tried = tried_none p from parts 0 (λ c. c < 0 * parts) r;
      hand = explored.rest.hands k d lt;
      free = explored.rest.free k d lt;
      unused = λ c none. explored.unused (from + c) (omega arith) k d lt;
      room = let room = exploring.room in let first = first_room p in let same = ap event_count plan in omega (arith, room, first, same);
      tag = refl;
      made = refl;
      journal_room = refl;
      joined = refl;
    }

module _ (b : Board) (p : Plan) (from : ℕ) (start rs : List Runner) (settling : AreSettling b p from start rs) where
  pub settling_rests : AreAtRest b start → AreAtRest b rs
  settling_rests rest = record {
    some = subst (λ n. 0 < n) (sym settling.len) rest.some;
    hands = λ k d lt. let here = settling.each k d lt in here.hand;
    free = λ k d lt. let here = settling.each k d lt in here.free;
    root = λ d. let here = settling.each 0 d (subst (λ n. 0 < n) (sym settling.len) rest.some) in here.tag ∙ rest.root d;
  }

  pub settling_all : 0 < length start → AreAllHands start → AreAllHands rs
  settling_all some all = λ t d above most.
      let root = settling.each 0 d (subst (λ n. 0 < n) (sym settling.len) some) in
      elim (all t d above (subst (λ n. t ≤ n) root.made most)) [
        | inl is ↦ inl (is.0, subst (λ xs. Contains xs is.0) (sym root.joined) is.1, is.2)
        | inr is ↦
            let less : is.0 < length rs = subst (λ n. is.0 < n) (sym settling.len) is.2 in
            let here = settling.each is.0 d less in
            inr (is.0, is.1, less, here.tag ∙ is.3)
      ]

-- the runners as they were given back
pub items_back : {X : Type 0} (xs ys : List X) → length ys ≡ length xs → take (length xs) (ys ++ drop (length ys) xs) ≡ ys
items_back [] [] len = refl
items_back [] (y ∷ ys) len = absurd (omega (arith, len))
items_back (x ∷ xs) [] len = absurd (omega (arith, len))
items_back (x ∷ xs) (y ∷ ys) len = ap (λ zs. y ∷ zs) (items_back xs ys (suc_same len))
  where
    suc_same : suc (length ys) ≡ suc (length xs) → length ys ≡ length xs
    suc_same e = omega (arith, e)

pub places_back : (rs : Runners) (items : List Runner) → length items ≡ length (runners_of rs) → HasPlaces rs → HasPlaces (with_runners rs items)
places_back rs items len places = record {
  none = places.none;
  room = let same = ap length (items_back (runners_of rs) items len) in let room = places.room in omega (arith, same, room, len);
  all = places.all;
}

-- what stands in the place of the runners that were lent
module _ (b : Board) (p : Plan) (from : ℕ) (rs : Runners) (start items : List Runner) (same : start ≡ runners_of rs) (settling : AreSettling b p from start items) where
  back_len : length items ≡ length (runners_of rs)
  back_len = settling.len ∙ ap length same

  pub back_is : runners_of (with_runners rs items) ≡ items
  back_is = items_back (runners_of rs) items back_len

  settling_now : AreSettling b p from (runners_of rs) items
  settling_now = subst (λ xs. AreSettling b p from xs items) same settling

  pub settled_back : AreSettling b p from (runners_of rs) (runners_of (with_runners rs items))
  settled_back = subst (AreSettling b p from (runners_of rs)) (sym back_is) settling_now

  pub all_back : MayExplore b from rs → AreAllHands (runners_of rs) → AreAllHands (runners_of (with_runners rs items))
  all_back explored all = subst AreAllHands (sym back_is) (settling_all b p from (runners_of rs) items settling_now explored.rest.some all)

  pub given_back : MayExplore b from rs → HasPlaces (with_runners rs items) × AreAtRest b (runners_of (with_runners rs items))
  given_back explored = (
    places_back rs items back_len explored.places,
    subst (AreAtRest b) (sym back_is) (settling_rests b p from (runners_of rs) items settling_now explored.rest),
  )

-- a lone root has settled all
pub alone_back : (b : Board) (p : Plan) (from : ℕ) (rs : Runners) (start items : List Runner) → start ≡ runners_of rs → IsValidPlan p → MayExplore b from rs
    → AreSettling b p from start items → IsSettledByRoot p (runners_of rs) (runners_of (with_runners rs items))
alone_back b p from rs start items same valid explored settling =
    alone_ends p valid.plan valid.graph b from (runners_of rs) (runners_of (with_runners rs items)) (λ d. let first = explored.exploring 0 d explored.rest.some in first.kept)
    (settled_back b p from rs start items same settling)

-- ---- joins

gathered_root : (v : View) (ws : List View) (t : ℕ) → IsJoined v t → IsJoined (gathered v ws) t
gathered_root v ws t is = (is.0, gathered_joined v ws is.0 is.1, is.2)

gathered_other : (v : View) (ws : List View) (k : ℕ) (d : View) (t : ℕ) → k < length ws → (slice_index_or ws k d).tag ≡ t → IsJoined (gathered v ws) t
gathered_other v ws k d t lt is = (joined_of (slice_index_or ws k d), gathered_has v ws k d lt, is)

-- the root has joined all
all_gathered : (d : Runner) (rs : List Runner) → AreAllHands rs → 0 < length rs → (t : ℕ) → 1 < t → t ≤ (root_view 0 d rs).made → IsJoined (root_view 0 d rs) t
unfolding idled
all_gathered d [] all some t above most = absurd (omega (arith, some))
all_gathered d (r ∷ rs) all some t above most =
    elim (all t d above (subst (λ n. t ≤ n) (gathered_made (hand_view r) (map hand_view rs)) most)) [
      | inl is ↦ gathered_root (hand_view r) (map hand_view rs) t is
      | inr is ↦ other is.0 is.1 is.2 is.3
    ]
  where
    other : (k : ℕ) → 0 < k → k < length (r ∷ rs) → (hand_view (slice_index_or (r ∷ rs) k d)).tag ≡ t → IsJoined (gathered (hand_view r) (map hand_view rs)) t
    other zero above lt is = absurd (omega (arith, above))
    other (suc k) above lt is =
        gathered_other (hand_view r) (map hand_view rs) k (hand_view d) t (subst (λ n. k < n) (sym (length-map rs hand_view)) (less lt))
        (ap (λ (v : View). v.tag) (get_or-map hand_view rs k d (hand_view d) (less lt)) ∙ is)
      where
        less : suc k < suc (length rs) → k < length rs
        less l = omega (arith, l)

-- the root that they were gathered in
module _ (rs : List Runner) (some : 0 < length rs) (v : View) (is : (d : Runner) → v ≡ gathered (hand_view (slice_index_or rs 0 d)) (map hand_view (drop 1 rs))) where
  pub root_tag : ((d : Runner) → (hand_view (slice_index_or rs 0 d)).tag ≡ 1) → v.tag ≡ 1
  root_tag root = at rs some is root
    where
      at : (qs : List Runner) → 0 < length qs → ((d : Runner) → v ≡ gathered (hand_view (slice_index_or qs 0 d)) (map hand_view (drop 1 qs))) → ((d : Runner) → (hand_view (slice_index_or qs 0 d)).tag ≡ 1) → v.tag ≡ 1
      at [] more same tags = absurd (omega (arith, more))
      at (q ∷ qs) more same tags = ap (λ (w : View). w.tag) (same q) ∙ gathered_tag (hand_view q) (map hand_view qs) ∙ tags q

  pub root_few : (n : ℕ) → ((d : Runner) → (root_view 0 d rs).made + n ≤ most_workers) → v.made + n ≤ most_workers
  root_few n few = at rs some is few
    where
      at : (qs : List Runner) → 0 < length qs → ((d : Runner) → v ≡ gathered (hand_view (slice_index_or qs 0 d)) (map hand_view (drop 1 qs))) → ((d : Runner) → (root_view 0 d qs).made + n ≤ most_workers)
          → v.made + n ≤ most_workers
      at [] more same fits = absurd (omega (arith, more))
      at (q ∷ qs) more same fits =
          let mine = ap (λ (w : View). w.made) (same q) in
          let none = ap (λ (w : View). w.made) (idled_none (gathered (hand_view q) (map hand_view qs))) in
          let fit = fits q in
          omega (arith, mine, none, fit)

-- idle workers' hands too
all_joined : (n : ℕ) (v : View) → ((t : ℕ) → 1 < t → t ≤ v.made → IsJoined v t) → (t : ℕ) → 1 < t → t ≤ (idled n v).made → IsJoined (idled n v) t
all_joined n v all t above most =
    let made = idled_made n v in
    elim (cases_lt v.made t) [
      | inl idle ↦ idled_all n v t idle (omega (arith, most, made))
      | inr before ↦ idled_root n v t (all t above before)
    ]

-- the root can close the board
pub closes : (rs : List Runner) → 0 < length rs → (n : ℕ) (v u : View) → ((d : Runner) → v ≡ gathered (hand_view (slice_index_or rs 0 d)) (map hand_view (drop 1 rs))) → u ≡ idled n v
    → ((d : Runner) → (hand_view (slice_index_or rs 0 d)).tag ≡ 1) → AreAllHands rs → (u.tag ≡ 1) × ((t : ℕ) → 1 < t → t ≤ u.made → IsJoined u t)
unfolding idled
closes [] some n v u is with root all = absurd (omega (arith, some))
closes (r ∷ rs) some n v u is with root all = (
  ap (λ (w : View). w.tag) with ∙ idled_tag n v ∙ ap (λ (w : View). w.tag) (is r) ∙ gathered_tag (hand_view r) (map hand_view rs) ∙ root r,
  λ t above most.
      subst (λ (w : View). IsJoined w t) (sym with)
      (all_joined n v (λ k low few. subst (λ (w : View). IsJoined w k) (sym (is r)) (all_gathered r (r ∷ rs) all some k low (subst (λ (w : View). k ≤ w.made) (is r) few))) t above
      (subst (λ (w : View). t ≤ w.made) with most)),
)
