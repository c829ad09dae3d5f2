-- From workers to what is handed on.
use Rattle.std.proofs.Common.{◌≡◌, ◌≢◌, ℕ, suc, ◌+◌, ◌-◌, ◌<◌, ◌≤◌, cond, List, [], ◌∷◌, ◌++◌, length, map, min, take, ◌^◌, get_or, refl, sym, ap, ◌∙◌, subst, inl, inr, arith, zero-lt-suc, suc-le-suc}
use Rattle.std.specs.Prelude.{All, Contains, flat_map, sum_by, slice_index_or}
use Rattle.std.proofs.lemmas.Bool.{cases_eq, eq-eqb}
use Rattle.std.proofs.lemmas.List.{get_or-map, length-map, get_or_default, take_all}
use Rattle.std.proofs.lemmas.List.Elements.{All-append}
use Rattle.std.proofs.lemmas.List.Concat.{flat_map-cons}
use Rattle.std.proofs.lemmas.List.Sums.{sum_by-cons, sum_by-append, sum_by_more, get_or-le-sum_by}
use Rattle.morph_base.specs.declared.plan.Plan.{Plan}
use Rattle.morph_base.specs.Graphs.{IsValidPlan}
use Rattle.morph_base.specs.Plans.{op_count}
use Rattle.op_words.specs.declared.board.Board.{Board}
use Rattle.op_words.specs.Counting.{times}
use Rattle.op_words.specs.Hands.{plan_of, up_to}
use Rattle.op_words.specs.Trails.{IsReached}
use Rattle.op_words.specs.Views.{IsLone}
use Rattle.op_eval.specs.declared.explored.RunEnd.{RunEnd}
use Rattle.op_eval.specs.declared.explored.RunEnd.TheVariants.{Drained}
use Rattle.op_eval.specs.declared.runner.Runner.{Runner}
use Rattle.op_eval.specs.declared.runners.Runners.{Runners}
use Rattle.op_eval.specs.Exploring.{total, IsExploring, Unused, MayExplore, RunRules}
use Rattle.op_eval.specs.Gathering.{runners_of, HasPlaces, AreAtRest}
use Rattle.op_eval.specs.Alone.{Ran, IsNewRoot}
use Rattle.op_eval.specs.Running.{hand_view, IsFreeRunner}
use Rattle.steal_explorer.specs.declared.deques.Deques.{Deques}
use Rattle.steal_explorer.specs.declared.deques.Seat.{Seat}
use Rattle.steal_explorer.specs.declared.exploration.Handed.{Handed}
use Rattle.abort_eager.specs.declared.ground.Ground.{Ground}
use Rattle.steal_explorer.specs.declared.member.Member.{Member}
use Rattle.op_eval.specs.Further.{HaveGoneOn}
use Rattle.op_eval.proofs.Elements.{contains_first, contains_later}
use Rattle.steal_explorer.specs.Calls.{ServeCall, MakesServeCalls}
use Rattle.steal_explorer.specs.Draining.{in_plan}
use Rattle.steal_explorer.specs.Handed.{workers_of, pushed_by, stolen_from, taken_from, left_in, AreReached, AreAnswered}
use Rattle.steal_explorer.specs.HandingOut.{is_one, taken_in, IsBeginning, HasHandedOut}
use Rattle.crossbeam_deque.specs.Handles.{view, stealer_deque, worker_view, worker_capacity, worker_index}
use Rattle.steal_explorer.specs.Alone.{BeginsAlone, LeavesAlone, IsHandedAlone}
use Rattle.steal_explorer.specs.Dealing.{level_one}
use Rattle.steal_explorer.specs.Handing.{log, one}
use Rattle.steal_explorer.specs.Members.{Thief, own, tickets_of, AreSeated}
use Rattle.steal_explorer.specs.Seating.{runner_of, seat_of, IsSeat, AreReady, AreSeatedBy}
use Rattle.steal_explorer.proofs.Further.{calls_further}
use Rattle.steal_explorer.proofs.Telling.{is_op}
use Rattle.steal_explorer.proofs.Counting.{each_once}
use Rattle.steal_explorer.proofs.Starting.{starts, single_sum}
use Rattle.steal_explorer.proofs.Outcome.{listed}
use Rattle.steal_explorer.proofs.Keeping.{calls_running, calls_places}
use Rattle.steal_explorer.proofs.Places.{first_of}

-- ---- workers begin

module _ (p : Plan) (d : Deques) (rs : List Runner) (ms : List Member) (ready : AreReady p d) (seated : AreSeatedBy rs d.seats.items ms) where
  many : length ms ≡ length d.seats.items
  many = sym (length-map ms seat_of) ∙ ap length seated.seats

  pub as_many : length ms ≡ length d.thieves.items
  as_many = many ∙ ready.len

  many_runners : length ms ≡ length rs
  many_runners = sym (length-map ms runner_of) ∙ ap length seated.runners

  seat_at : (k : ℕ) (m : Member) → k < length ms → seat_of (slice_index_or ms k m) ≡ slice_index_or d.seats.items k (seat_of m)
  seat_at k m lt = sym (get_or-map seat_of ms k m (seat_of m) lt) ∙ ap (λ l. get_or l k (seat_of m)) seated.seats

  runner_at : (k : ℕ) (m : Member) → k < length ms → (slice_index_or ms k m).runner ≡ slice_index_or rs k m.runner
  runner_at k m lt = sym (get_or-map runner_of ms k m m.runner lt) ∙ ap (λ l. get_or l k m.runner) seated.runners

  -- a lone root begins with all that was dealt in its deque
  pub begins_alone : IsValidPlan p → IsNewRoot rs → (m : Member) → BeginsAlone p (slice_index_or ms 0 m)
  begins_alone valid root m = begun_alone (slice_index_or ms 0 m) (slice_index_or d.seats.items 0 (seat_of m)) (slice_index_or rs 0 m.runner) (seat_at 0 m first) (runner_at 0 m first) (root.lone m.runner) (root.fresh m.runner) (ready.each 0 (seat_of m) first_seat)
      (λ h. sym (single_sum (λ (s : Seat). sum_by h (worker_view s.owner).pushed) d.seats.items (seat_of m) (sym many ∙ many_runners ∙ root.one)) ∙ ready.dealt h)
    where
      first : 0 < length ms
      first = let e = root.one in let f = many_runners in omega arith

      first_seat : 0 < length d.seats.items
      first_seat = let e = many in let f = first in omega arith

      begun_alone : (m : Member) (s : Seat) (r : Runner) → seat_of m ≡ s → m.runner ≡ r → IsLone (hand_view r) → (hand_view r).trail ≡ [] → IsSeat p d.thieves.items 0 s → ((h : ℕ → ℕ) → sum_by h (worker_view s.owner).pushed ≡ sum_by h (level_one p)) → BeginsAlone p m
      begun_alone m s r seat runner lone fresh is dealt =
          let pushed : (own m).pushed ≡ (worker_view s.owner).pushed = ap (λ (t : Seat). (worker_view t.owner).pushed) seat in
          let none : (own m).popped ≡ [] = ap (λ (t : Seat). (worker_view t.owner).popped) seat ∙ is.popped in
          let empty : length (own m).popped ≡ 0 = ap length none in
          record {
            turning = record {
              handing = record {
                lone = subst (λ (q : Runner). IsLone (hand_view q)) (sym runner) lone;
                slots = subst (λ (t : Seat). op_count p ≤ worker_capacity t.owner) (sym seat) is.capacity;
                index = subst (λ (t : Seat). worker_index t.owner ≤ length (worker_view t.owner).pushed) (sym seat) is.index;
                each = λ o lt.
                    starts p valid o lt (hand_view m.runner).trail (ap (λ (q : Runner). (hand_view q).trail) runner ∙ fresh) (own m).pushed
                    (ap (sum_by (is_one o)) pushed ∙ dealt (is_one o));
              };
              ran = λ o lt some. absurd (let e : sum_by (is_one o) (own m).popped ≡ 0 = ap (sum_by (is_one o)) none in omega arith);
              few = omega arith;
            };
            none = none;
          }

module _ (g : Ground) (d : Deques) (rs : List Runner) (ms : List Member) (ready : AreReady g.plan.now d) (seated : AreSeatedBy rs d.seats.items ms) (idle : All (IsFreeRunner g.board.now) rs) where
  begun : (k : ℕ) (m : Member) → m.number ≡ k → m.stolen ≡ 0 → IsFreeRunner g.board.now m.runner → k < length d.thieves.items → IsSeat g.plan.now d.thieves.items k (seat_of m) → IsBeginning g d.thieves.items k m
  begun k m number none free lt is = record {
    worker =
        record {
          idle = free;
          deque = record { fifo = is.fifo; part = let e = is.parts in let few = ready.few in omega arith; below = is.below; handed = is.handed };
          tickets =
              record {
                inside = subst (λ n. n < length d.thieves.items) (sym number) lt;
                few = ready.few;
                deque = λ t. is.deque t ∙ ap (λ n. stealer_deque (slice_index_or d.thieves.items n t)) (sym number);
                parts = is.parts;
                bare_stolen = is.stolen;
                bare_left = is.left;
                len = is.len;
                under = subst (λ n. AreSeated d.thieves.items 0 n (tickets_of m)) (sym number) is.under;
                above = subst (λ n. AreSeated d.thieves.items (n + 1) (length d.thieves.items) (tickets_of m)) (sym number) is.above;
                guest = λ x. subst (λ n. view (slice_index_or (tickets_of m) n x) ≡ log 0 [] [] [] []) (sym number) (is.guest x);
                stolen = let e = is.unstolen one in omega arith;
              };
        };
    number = number;
    fresh = λ h. let e : sum_by h (own m).popped ≡ 0 = ap (sum_by h) is.popped in let f = is.unstolen h in omega arith;
  }

  pub all_begin : (k : ℕ) (m : Member) → k < length ms → IsBeginning g d.thieves.items k (slice_index_or ms k m)
  all_begin k m lt =
      begun k (slice_index_or ms k m) (seated.numbers k m lt) (seated.unstolen k m lt)
      (subst (IsFreeRunner g.board.now) (sym (runner_at g.plan.now d rs ms ready seated k m lt)) (idle k m.runner (subst (λ n. k < n) (many_runners g.plan.now d rs ms ready seated) lt)))
      (subst (λ n. k < n) (as_many g.plan.now d rs ms ready seated) lt)
      (subst (IsSeat g.plan.now d.thieves.items k) (sym (seat_at g.plan.now d rs ms ready seated k m lt)) (ready.each k (seat_of m) (subst (λ n. k < n) (many g.plan.now d rs ms ready seated) lt)))

pub begin_lent : (g : Ground) (d : Deques) (rs : List Runner) (ms lent : List Member) (ts : List Thief) → lent ≡ ms → ts ≡ d.thieves.items → AreReady g.plan.now d → AreSeatedBy rs d.seats.items ms → All (IsFreeRunner g.board.now) rs
    → (k : ℕ) (m : Member) → k < length lent → IsBeginning g ts k (slice_index_or lent k m)
begin_lent g d rs ms lent ts lent_is ts_is ready seated idle =
    subst (λ l. (k : ℕ) (m : Member) → k < length l → IsBeginning g ts k (slice_index_or l k m)) (sym lent_is)
    (subst (λ us. (k : ℕ) (m : Member) → k < length ms → IsBeginning g us k (slice_index_or ms k m)) (sym ts_is) (all_begin g d rs ms ready seated idle))

-- ---- the law

pub sum_flat : (h : ℕ → ℕ) (f : Member → List ℕ) (ms : List Member) → sum_by h (flat_map f ms) ≡ sum_by (λ m. sum_by h (f m)) ms
sum_flat h f [] = refl
sum_flat h f (m ∷ ms) =
    ap (sum_by h) (flat_map-cons f m ms)
    ∙ sum_by-append h (f m) (flat_map f ms)
    ∙ ap (λ n. sum_by h (f m) + n) (sum_flat h f ms)
    ∙ sym (sum_by-cons (λ (m : Member). sum_by h (f m)) m ms)

balanced : (h : ℕ → ℕ) (ms : List Member) → ((k : ℕ) (m : Member) → k < length ms → sum_by h (pushed_by (slice_index_or ms k m)) ≡ sum_by h (taken_from (slice_index_or ms k m)) + sum_by h (left_in (slice_index_or ms k m)))
    → sum_by (λ m. sum_by h (pushed_by m)) ms ≡ sum_by (λ m. sum_by h (taken_from m)) ms + sum_by (λ m. sum_by h (left_in m)) ms
balanced h [] each = refl
balanced h (m ∷ ms) each =
    let a : sum_by (λ n. sum_by h (pushed_by n)) (m ∷ ms) ≡ sum_by h (pushed_by m) + sum_by (λ n. sum_by h (pushed_by n)) ms = sum_by-cons (λ n. sum_by h (pushed_by n)) m ms in
    let b : sum_by (λ n. sum_by h (taken_from n)) (m ∷ ms) ≡ sum_by h (taken_from m) + sum_by (λ n. sum_by h (taken_from n)) ms = sum_by-cons (λ n. sum_by h (taken_from n)) m ms in
    let c : sum_by (λ n. sum_by h (left_in n)) (m ∷ ms) ≡ sum_by h (left_in m) + sum_by (λ n. sum_by h (left_in n)) ms = sum_by-cons (λ n. sum_by h (left_in n)) m ms in
    let here : sum_by h (pushed_by m) ≡ sum_by h (taken_from m) + sum_by h (left_in m) = each 0 m (zero-lt-suc (length ms)) in
    let rest = balanced h ms (λ k d lt. each (suc k) d (suc-le-suc lt)) in
    omega arith

none_of : (f : Member → List ℕ) (ms : List Member) → ((k : ℕ) (m : Member) → k < length ms → f (slice_index_or ms k m) ≡ []) → flat_map f ms ≡ []
none_of f [] none = refl
none_of f (m ∷ ms) none = flat_map-cons f m ms ∙ ap (λ l. l ++ flat_map f ms) (none 0 m (zero-lt-suc (length ms))) ∙ none_of f ms (λ k d lt. none (suc k) d (suc-le-suc lt))

all_below : (n : ℕ) (ms : List Member) → ((k : ℕ) (m : Member) → k < length ms → All (λ x. x < n) (pushed_by (slice_index_or ms k m))) → All (λ x. x < n) (flat_map pushed_by ms)
all_below n [] each = λ k d lt. absurd (omega (arith, lt))
all_below n (m ∷ ms) each =
    subst (All (λ x. x < n)) (sym (flat_map-cons pushed_by m ms))
    (All-append (λ x. x < n) (pushed_by m) (flat_map pushed_by ms) (each 0 m (zero-lt-suc (length ms))) (all_below n ms (λ k d lt. each (suc k) d (suc-le-suc lt))))

weighs : (x : ℕ) (xs : List ℕ) → Contains xs x → 0 < sum_by (is_one x) xs
weighs x xs found =
    let least : is_one x (get_or xs found.0 x) ≤ sum_by (is_one x) xs = get_or-le-sum_by (is_one x) xs found.0 x found.1 in
    let is : is_one x (get_or xs found.0 x) ≡ 1 = ap (is_one x) found.2 ∙ ap (λ t. cond t 1 0) (eq-eqb x x refl) in
    omega arith

module _ (rules : RunRules) (ts : List Thief) (ms ns : List Member) (law : HasHandedOut rules ts ms ns) where
  in_ms : (k : ℕ) → k < length ns → k < length ms
  in_ms k lt = subst (λ n. k < n) law.len lt

  pub balance_is : (h : ℕ → ℕ) → sum_by h (flat_map pushed_by ns) ≡ sum_by h (flat_map taken_from ns) + sum_by h (flat_map left_in ns)
  balance_is h =
      let a = sum_flat h pushed_by ns in
      let b = sum_flat h taken_from ns in
      let c = sum_flat h left_in ns in
      let d =
      balanced h ns
      (λ k m lt.
      let even = law.even k m (in_ms k lt) h in
      let both : sum_by h (taken_from (slice_index_or ns k m)) ≡ sum_by h (own (slice_index_or ns k m)).popped + sum_by h (own (slice_index_or ns k m)).stolen = sum_by-append h (own (slice_index_or ns k m)).popped (own (slice_index_or ns k m)).stolen in
      omega arith) in
      omega arith

  pub drained_is : All (λ m. m.end ≡ Drained) ns → flat_map left_in ns ≡ []
  drained_is all = none_of left_in ns (λ k m lt. law.left k m (in_ms k lt) (all k m lt))

  -- one worker stole nothing
  pub unstolen_is : length ts ≡ 1 → flat_map stolen_from ns ≡ []
  unstolen_is single = none_of stolen_from ns (λ k m lt. law.unstolen single k m (in_ms k lt))

  -- what was taken had been pushed, and so it is one of the plan's operations
  pub inside_is : (x : ℕ) → Contains (flat_map taken_from ns) x → x < op_count rules.plan
  inside_is x found =
      let a : 0 < sum_by (is_one x) (flat_map taken_from ns) = weighs x (flat_map taken_from ns) found in
      let b = balance_is (is_one x) in
      below_all (flat_map pushed_by ns) (all_below (op_count rules.plan) ns (λ k m lt. law.below k m (in_ms k lt))) x (listed x (flat_map pushed_by ns) (omega arith))
    where
      below_all : (xs : List ℕ) → All (λ y. y < op_count rules.plan) xs → (x : ℕ) → Contains xs x → x < op_count rules.plan
      below_all xs all x there = subst (λ y. y < op_count rules.plan) there.2 (all there.0 x there.1)

  pub reached_is : AreReached rules.plan (flat_map taken_from ns) (map runner_of ns)
  reached_is x found =
      let lt = inside_is x found in
      let a = sum_flat (is_one x) taken_from ns in
      let b : 0 < sum_by (is_one x) (flat_map taken_from ns) = weighs x (flat_map taken_from ns) found in
      let c : sum_by (λ m. sum_by (is_one x) (taken_from m)) ns ≡ sum_by (taken_in (is_one x)) ns = ap (λ f. sum_by f ns) (λ i m. sum_by-append (is_one x) (own m).popped (own m).stolen i) in
      let at = law.reached x lt (omega arith) in
      let inside : at.0 < length ns = subst (λ n. at.0 < n) (sym law.len) at.1 in (
        at.0,
        subst (λ n. at.0 < n) (sym (length-map ns runner_of)) inside,
        λ d. subst (λ (r : Runner). IsReached rules.plan x (hand_view r).trail) (get_or_map_any at.0 d inside) (at.2 (first_of ns inside)),
      )
    where
      get_or_map_any : (k : ℕ) (d : Runner) → (inside : k < length ns) → (slice_index_or ns k (first_of ns inside)).runner ≡ slice_index_or (map runner_of ns) k d
      get_or_map_any k d inside = sym (get_or-map runner_of ns k (first_of ns inside) d inside)

  -- all items that were taken are among the plan's operations, and so each was tried
  pub answered_is : AreAnswered (flat_map taken_from ns) (map runner_of ns)
  answered_is =
      elim law.answered [
        | inl more ↦ inl (
            let a : sum_by (in_plan rules.plan) (flat_map taken_from ns) ≡ length (flat_map taken_from ns) = all_in (flat_map taken_from ns) inside_is in
            let b = sum_flat (in_plan rules.plan) taken_from ns in
            let c : sum_by (λ m. sum_by (in_plan rules.plan) (taken_from m)) ns ≡ sum_by (taken_in (in_plan rules.plan)) ns = ap (λ f. sum_by f ns) (λ i m. sum_by-append (in_plan rules.plan) (own m).popped (own m).stolen i) in
            let d : sum_by (λ r. total r.answers) (map runner_of ns) ≡ sum_by (λ m. total m.runner.answers) ns = sum_mapped ns in
            omega arith)
        | inr full ↦ inr (
          full.0,
          subst (λ n. full.0 < n) (sym (length-map ns runner_of)) full.1,
          λ d. subst (λ (r : Runner). 2 ^ 64 ≤ total r.answers + 1) (at full.0 d ns full.1) (full.2 (first_of ns full.1)),
        )
      ]
    where
      all_in : (xs : List ℕ) → ((x : ℕ) → Contains xs x → x < op_count rules.plan) → sum_by (in_plan rules.plan) xs ≡ length xs
      all_in [] inside = refl
      all_in (x ∷ xs) inside =
          let e : sum_by (in_plan rules.plan) (x ∷ xs) ≡ in_plan rules.plan x + sum_by (in_plan rules.plan) xs = sum_by-cons (in_plan rules.plan) x xs in
          let f : in_plan rules.plan x ≡ 1 = is_op rules.plan x (inside x (contains_first x xs)) in
          let g : sum_by (in_plan rules.plan) xs ≡ length xs = all_in xs (λ y there. inside y (contains_later x xs y there)) in
          omega arith

      sum_mapped : (ns : List Member) → sum_by (λ (r : Runner). total r.answers) (map runner_of ns) ≡ sum_by (λ (m : Member). total m.runner.answers) ns
      sum_mapped [] = refl
      sum_mapped (n ∷ ns) =
          let a : sum_by (λ (r : Runner). total r.answers) (map runner_of (n ∷ ns)) ≡ total n.runner.answers + sum_by (λ (r : Runner). total r.answers) (map runner_of ns) = sum_by-cons (λ (r : Runner). total r.answers) n.runner (map runner_of ns) in
          let b : sum_by (λ (m : Member). total m.runner.answers) (n ∷ ns) ≡ total n.runner.answers + sum_by (λ (m : Member). total m.runner.answers) ns = sum_by-cons (λ (m : Member). total m.runner.answers) n ns in
          let c = sum_mapped ns in
          omega arith

      first_of : (ns : List Member) → {k : ℕ} → k < length ns → Member
      first_of [] lt = absurd (omega arith)
      first_of (n ∷ _) lt = n

      at : (k : ℕ) (d : Runner) (ns : List Member) → (inside : k < length ns) → (slice_index_or ns k (first_of ns inside)).runner ≡ slice_index_or (map runner_of ns) k d
      at k d ns inside = sym (get_or-map runner_of ns k (first_of ns inside) d inside)

  -- ---- the runners

  module _ (rs : List Runner) (rs_is : map runner_of ms ≡ rs) where
    runner_calls : (k : ℕ) (d : Runner) → k < length rs → (cs : List ServeCall) × MakesServeCalls rules.plan rules.cap cs (slice_index_or rs k d) (slice_index_or (map runner_of ns) k d)
    runner_calls k d lt =
        let in_k : k < length ms = subst (λ n. k < n) (sym (ap length rs_is) ∙ length-map ms runner_of) lt in
        let m : Member = first_of ms in_k in
        let calls = law.calls k m in_k in (
          calls.0,
          subst (λ r. MakesServeCalls rules.plan rules.cap calls.0 r (slice_index_or (map runner_of ns) k d)) (sym (get_or-map runner_of ms k m d in_k) ∙ ap (λ l. get_or l k d) rs_is)
              (subst (MakesServeCalls rules.plan rules.cap calls.0 (slice_index_or ms k m).runner) (sym (get_or-map runner_of ns k m d (subst (λ n. k < n) (sym law.len) in_k))) calls.1),
        )

    same_many : length (map runner_of ns) ≡ length rs
    same_many = length-map ns runner_of ∙ law.len ∙ sym (length-map ms runner_of) ∙ ap length rs_is

    pub further_is : HaveGoneOn rs (map runner_of ns)
    further_is = record { len = same_many; each = λ k d lt. let calls = runner_calls k d lt in calls_further rules.plan rules.cap calls.0 (slice_index_or rs k d) (slice_index_or (map runner_of ns) k d) calls.1 }

    -- what is handed on to settling
    pub explored_is : (b : Board) (old new : Runners) → rules.plan ≡ plan_of b → runners_of old ≡ rs → MayExplore b 0 old → HasPlaces new → runners_of new ≡ map runner_of ns → All (λ m. IsFreeRunner b m.runner) ns → MayExplore b 0 new
    explored_is b old new plan old_is explored places new_is idle = record {
      places = places;
      rest = subst (AreAtRest b) (sym new_is) (record {
        some = let e : 0 < length (runners_of old) = explored.rest.some in subst (λ n. 0 < n) (ap length old_is ∙ sym same_many) e;
        hands = λ k d lt. (idle_at k d lt).hand;
        free = λ k d lt. (idle_at k d lt).free;
        root = λ d.
            let inside : 0 < length rs = subst (λ n. 0 < n) (ap length old_is) explored.rest.some in
            (further_is.each 0 d inside).tag ∙ ap (λ (l : List Runner). (hand_view (slice_index_or l 0 d)).tag) (sym old_is) ∙ explored.rest.root d;
      });
      exploring = subst (All (IsExploring (plan_of b))) (sym new_is) (λ k d lt.
          let inside = subst (λ n. k < n) same_many lt in
          let calls = runner_calls k d inside in
          subst (λ q. IsExploring q (slice_index_or (map runner_of ns) k d)) plan
          (calls_running rules.plan rules.cap calls.0 (slice_index_or rs k d) (slice_index_or (map runner_of ns) k d)
          (subst (λ q. IsExploring q (slice_index_or rs k d)) (sym plan) (subst (All (IsExploring (plan_of b))) old_is explored.exploring k d inside)) calls.1));
      unused = λ c high. subst (All (Unused c)) (sym new_is) (λ k d lt.
          let inside = subst (λ n. k < n) same_many lt in
          let calls = runner_calls k d inside in
          ap (times c) (calls_places rules.plan rules.cap calls.0 (slice_index_or rs k d) (slice_index_or (map runner_of ns) k d) calls.1)
          ∙ subst (All (Unused c)) old_is (explored.unused c high) k d inside);
    }
      where
        idle_at : (k : ℕ) (d : Runner) → k < length (map runner_of ns) → IsFreeRunner b (slice_index_or (map runner_of ns) k d)
        idle_at k d lt =
            let inside : k < length ns = subst (λ n. k < n) (length-map ns runner_of) lt in
            let m : Member = first_of ns inside in
            subst (IsFreeRunner b) (sym (get_or-map runner_of ns k m d inside)) (idle k m inside)

-- ---- the end

abbrev pub AreDrainedBelow : ℕ → List Member → Type 0
AreDrainedBelow k ms = (j : ℕ) (m : Member) → j < k → j < length ms → (slice_index_or ms j m).end ≡ Drained

pub drained_more : (ms : List Member) (k : ℕ) (x : Member) → x.end ≡ (slice_index_or ms k x).end → x.end ≡ Drained → AreDrainedBelow k ms → AreDrainedBelow (k + 1) ms
drained_more ms k x is drained before j m low lt =
    elim (cases_eq j k) [
      | inl same ↦
          ap (λ i. (slice_index_or ms i m).end) same
          ∙ ap (λ (n : Member). n.end) (get_or_default ms k m x (subst (λ i. i < length ms) same lt))
          ∙ sym is
          ∙ drained
      | inr other ↦ before j m (lower j low other) lt
    ]
  where
    lower : (j : ℕ) → j < k + 1 → j ≢ k → j < k
    lower j low other = grind arith

-- ---- a lone root

pub handed_alone : (p : Plan) (end : RunEnd) (handed : Handed) (rs : List Runner) (ns : List Member) → workers_of handed ≡ ns → rs ≡ map runner_of ns → (All (λ m. m.end ≡ Drained) ns → end ≡ Drained) → length ns ≡ 1 → ((m : Member) → LeavesAlone p (slice_index_or ns 0 m))
    → IsHandedAlone p end handed rs
handed_alone p end handed rs [] workers runners drained single leaves = absurd (omega arith)
handed_alone p end handed rs (n ∷ m ∷ ns) workers runners drained single leaves = absurd (omega arith)
handed_alone p end handed rs (n ∷ []) workers runners drained single leaves =
    let is : LeavesAlone p n = leaves n in
    record {
      drained = drained (λ k d lt. subst (λ j. (slice_index_or (n ∷ []) j d).end ≡ Drained) (first k lt) is.drained);
      pushed = λ h.
          ap (λ l. sum_by h (flat_map pushed_by l)) workers
          ∙ sum_flat h pushed_by (n ∷ [])
          ∙ single_sum (λ (m : Member). sum_by h (pushed_by m)) (n ∷ []) n refl
          ∙ each_once h (op_count p) (own n).pushed is.inside is.once;
      unstolen = λ h.
          ap (sum_by (λ (m : Member). sum_by h (own m).stolen)) workers
          ∙ single_sum (λ (m : Member). sum_by h (own m).stolen) (n ∷ []) n refl
          ∙ is.unstolen h;
      ran = λ d o lt. subst (λ (l : List Runner). Ran (hand_view (slice_index_or l 0 d)).trail o) (sym runners) (is.ran o lt);
    }
  where
    first : (k : ℕ) → k < 1 → 0 ≡ k
    first k lt = omega arith

-- ---- the counts

abbrev pub many_pushed : Member → ℕ
many_pushed m = length (pushed_by m)

abbrev pub many_stolen : Member → ℕ
many_stolen m = m.stolen

-- one more worker's number, of which its count is that up to the greatest
pub counted_more : (f : Member → ℕ) (ms : List Member) (k total next count : ℕ) (d : Member) → total ≡ up_to (sum_by f (take k ms)) → k < length ms → up_to count ≡ up_to (f (slice_index_or ms k d)) → next ≡ min (total + count) (2 ^ 64 - 1)
    → next ≡ up_to (sum_by f (take (k + 1) ms))
counted_more f ms k total next count d is lt counts next_is =
    let a : sum_by f (take (k + 1) ms) ≡ sum_by f (take k ms) + f (slice_index_or ms k d) = sum_by_more f ms k d lt in
    omega arith

pub counted_all : (f : Member → ℕ) (ms : List Member) (k total : ℕ) → total ≡ up_to (sum_by f (take k ms)) → length ms ≤ k → total ≡ up_to (sum_by f ms)
counted_all f ms k total is past = is ∙ ap (λ l. up_to (sum_by f l)) (take_all k ms past)
