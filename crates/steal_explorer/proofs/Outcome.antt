-- What is handed out: from the turns of all workers to deques that are empty.
use Rattle.std.proofs.Common.{◌≡◌, ◌≢◌, ◌⊎◌, ℕ, suc, ◌+◌, ◌<◌, ◌≤◌, ◌^◌, List, [], ◌∷◌, ◌++◌, length, get_or, refl, sym, ap, ◌∙◌, subst, inl, inr, arith, zero-lt-suc, suc-le-suc}
use Rattle.std.specs.Prelude.{All, Contains, count_by, sum_by, slice_index_or}
use Rattle.std.proofs.lemmas.Bool.{cases_eq, cases_lt}
use Rattle.std.proofs.lemmas.List.{get_or-map}
use Rattle.std.proofs.lemmas.List.Sums.{sum_by-cons, sum_by-append, get_or-le-sum_by}
use Rattle.morph_base.specs.declared.plan.Plan.{Plan}
use Rattle.morph_base.specs.Plans.{op_count}
use Rattle.op_words.proofs.Sizes.{sum_ones}
use Rattle.op_words.specs.Hands.{cap_of, up_to}
use Rattle.op_words.specs.Trails.{IsReached}
use Rattle.op_eval.specs.declared.explored.RunEnd.{RunEnd}
use Rattle.op_eval.specs.declared.explored.RunEnd.TheVariants.{Whole, Drained, Spent}
use Rattle.op_eval.specs.declared.runner.Runner.{Runner}
use Rattle.op_eval.specs.Exploring.{total, RunRules}
use Rattle.op_eval.specs.Running.{hand_view, IsFreeRunner}
use Rattle.op_eval.proofs.Elements.{contains_first, contains_later}
use Rattle.op_eval.proofs.Turns.{in_turn_append}
use Rattle.crossbeam_deque.specs.Handles.{view, stealer_deque}
use Rattle.steal_explorer.specs.declared.find.Found.{Found}
use Rattle.steal_explorer.specs.declared.find.Found.TheVariants.{Item, Nothing, Retry}
use Rattle.steal_explorer.specs.declared.deque_rule.Log.{Log}
use Rattle.abort_eager.specs.Grounds.{ground_rules}
use Rattle.abort_eager.specs.declared.ground.Ground.{Ground}
use Rattle.steal_explorer.specs.declared.member.Member.{Member}
use Rattle.steal_explorer.specs.Calls.{ServeCall, is_tried, MakesServeCalls, MakesServeCall}
use Rattle.steal_explorer.specs.Draining.{in_plan, IsEven, IsLeftWithNobody, IsCleared, HasAll, IsEmptiedBy, AreEmptied}
use Rattle.steal_explorer.specs.Finding.{weight_of}
use Rattle.steal_explorer.specs.Gathering.{HasStill, AreHolding, out, KeptByWorker, kept_of, AreTotals}
use Rattle.steal_explorer.specs.Handing.{whole, log, one}
use Rattle.steal_explorer.specs.HandingOut.{is_one, taken_in, IsBeginning, HasHandedOut}
use Rattle.steal_explorer.specs.Members.{Thief, Ticket, own, tickets_of, stolen_by, taken_by, HasTickets, IsWorkerOf}
use Rattle.steal_explorer.specs.Turns.{After, Turns, HasTakenTurns}
use Rattle.steal_explorer.proofs.Telling.{turns_taken, turns_tell, count_both, calls_keep, calls_reach, calls_total}

-- ---- sums

-- a sum above 0 has a term above 0
positive : (f : Member → ℕ) (ms : List Member) → 0 < sum_by f ms → (k : ℕ) × (k < length ms) × ((m : Member) → 0 < f (slice_index_or ms k m))
positive f [] more = absurd (omega arith)
positive f (m ∷ ms) more =
    elim (cases_lt 0 (f m)) [
      | inl here ↦ (0, zero-lt-suc (length ms), λ _. here)
      | inr none ↦
          let e : sum_by f (m ∷ ms) ≡ f m + sum_by f ms = sum_by-cons f m ms in
          let rest = positive f ms (omega arith) in
          (suc rest.0, suc-le-suc rest.1, rest.2)
    ]

-- where one sum is above another, so is one of its terms
above : (f : Member → ℕ) (ms ns : List Member) → length ns ≡ length ms → sum_by f ms < sum_by f ns → (k : ℕ) × (k < length ms) × ((m : Member) → f (slice_index_or ms k m) < f (slice_index_or ns k m))
above f [] [] len more = absurd (omega arith)
above f [] (n ∷ ns) len more = absurd (omega arith)
above f (m ∷ ms) [] len more = absurd (omega arith)
above f (m ∷ ms) (n ∷ ns) len more =
    elim (cases_lt (f m) (f n)) [
      | inl here ↦ (0, zero-lt-suc (length ms), λ _. here)
      | inr none ↦
          let e : sum_by f (m ∷ ms) ≡ f m + sum_by f ms = sum_by-cons f m ms in
          let g : sum_by f (n ∷ ns) ≡ f n + sum_by f ns = sum_by-cons f n ns in
          let rest = above f ms ns (omega arith) (omega arith) in
          (suc rest.0, suc-le-suc rest.1, rest.2)
    ]

-- a sum of numbers each up to the greatest, up to the greatest
sums_up_to : (f g : Member → ℕ) (ms ns : List Member) → length ns ≡ length ms → ((k : ℕ) (m : Member) → k < length ms → g (slice_index_or ns k m) ≡ up_to (f (slice_index_or ms k m))) → up_to (sum_by g ns) ≡ up_to (sum_by f ms)
sums_up_to f g [] [] len each = refl
sums_up_to f g [] (n ∷ ns) len each = absurd (omega arith)
sums_up_to f g (m ∷ ms) [] len each = absurd (omega arith)
sums_up_to f g (m ∷ ms) (n ∷ ns) len each =
    let e : sum_by f (m ∷ ms) ≡ f m + sum_by f ms = sum_by-cons f m ms in
    let h : sum_by g (n ∷ ns) ≡ g n + sum_by g ns = sum_by-cons g n ns in
    let here : g n ≡ up_to (f m) = each 0 m (zero-lt-suc (length ms)) in
    let rest : up_to (sum_by g ns) ≡ up_to (sum_by f ms) = sums_up_to f g ms ns (omega arith) (λ k d lt. each (suc k) d (suc-le-suc lt)) in
    omega arith

-- two sums differ as two others do where their terms do
sums_apart : (f s g t : Member → ℕ) (ms ns : List Member) → length ns ≡ length ms → ((k : ℕ) (m : Member) → k < length ms → f (slice_index_or ms k m) + t (slice_index_or ns k m) ≡ g (slice_index_or ns k m) + s (slice_index_or ms k m))
    → sum_by f ms + sum_by t ns ≡ sum_by g ns + sum_by s ms
sums_apart f s g t [] [] len each = refl
sums_apart f s g t [] (n ∷ ns) len each = absurd (omega arith)
sums_apart f s g t (m ∷ ms) [] len each = absurd (omega arith)
sums_apart f s g t (m ∷ ms) (n ∷ ns) len each =
    let a : sum_by f (m ∷ ms) ≡ f m + sum_by f ms = sum_by-cons f m ms in
    let b : sum_by s (m ∷ ms) ≡ s m + sum_by s ms = sum_by-cons s m ms in
    let c : sum_by g (n ∷ ns) ≡ g n + sum_by g ns = sum_by-cons g n ns in
    let d : sum_by t (n ∷ ns) ≡ t n + sum_by t ns = sum_by-cons t n ns in
    let here : f m + t n ≡ g n + s m = each 0 m (zero-lt-suc (length ms)) in
    let rest : sum_by f ms + sum_by t ns ≡ sum_by g ns + sum_by s ms = sums_apart f s g t ms ns (omega arith) (λ k e lt. each (suc k) e (suc-le-suc lt)) in
    omega arith

same_sums : (f g : Member → ℕ) (ms ns : List Member) → length ns ≡ length ms → ((k : ℕ) (m : Member) → k < length ms → g (slice_index_or ns k m) ≡ f (slice_index_or ms k m)) → sum_by g ns ≡ sum_by f ms
same_sums f g [] [] len each = refl
same_sums f g [] (n ∷ ns) len each = absurd (omega arith)
same_sums f g (m ∷ ms) [] len each = absurd (omega arith)
same_sums f g (m ∷ ms) (n ∷ ns) len each =
    let e : sum_by f (m ∷ ms) ≡ f m + sum_by f ms = sum_by-cons f m ms in
    let h : sum_by g (n ∷ ns) ≡ g n + sum_by g ns = sum_by-cons g n ns in
    let here : g n ≡ f m = each 0 m (zero-lt-suc (length ms)) in
    let rest : sum_by g ns ≡ sum_by f ms = same_sums f g ms ns (omega arith) (λ k d lt. each (suc k) d (suc-le-suc lt)) in
    omega arith

-- where each term is covered by others or a fact holds of the last one, so is the sum
sum_or : (f g t : Member → ℕ) (F : Member → Type 0) (ws gs ns : List Member) → length gs ≡ length ws → length ns ≡ length ws
    → ((k : ℕ) (m : Member) → k < length ws → (f (slice_index_or ws k m) + g (slice_index_or ns k m) ≤ g (slice_index_or gs k m) + t (slice_index_or ns k m)) ⊎ F (slice_index_or ns k m))
    → (sum_by f ws + sum_by g ns ≤ sum_by g gs + sum_by t ns) ⊎ ((k : ℕ) × (k < length ns) × ((m : Member) → F (slice_index_or ns k m)))
sum_or f g t F [] [] [] len_gs len_ns each = inl (omega arith)
sum_or f g t F [] [] (n ∷ ns) len_gs len_ns each = absurd (omega arith)
sum_or f g t F [] (e ∷ gs) ns len_gs len_ns each = absurd (omega arith)
sum_or f g t F (w ∷ ws) [] ns len_gs len_ns each = absurd (omega arith)
sum_or f g t F (w ∷ ws) (e ∷ gs) [] len_gs len_ns each = absurd (omega arith)
sum_or f g t F (w ∷ ws) (e ∷ gs) (n ∷ ns) len_gs len_ns each =
    elim (each 0 w (zero-lt-suc (length ws))) [
      | inr here ↦ inr (0, zero-lt-suc (length ns), λ _. here)
      | inl here ↦
          elim (sum_or f g t F ws gs ns (omega arith) (omega arith) (λ k m lt. each (suc k) m (suc-le-suc lt))) [
            | inr later ↦ inr (suc later.0, suc-le-suc later.1, later.2)
            | inl rest ↦
                let a : sum_by f (w ∷ ws) ≡ f w + sum_by f ws = sum_by-cons f w ws in
                let b : sum_by g (n ∷ ns) ≡ g n + sum_by g ns = sum_by-cons g n ns in
                let c : sum_by g (e ∷ gs) ≡ g e + sum_by g gs = sum_by-cons g e gs in
                let d : sum_by t (n ∷ ns) ≡ t n + sum_by t ns = sum_by-cons t n ns in
                inl (omega arith)
          ]
    ]

is_one_eq : (x y : ℕ) → 0 < is_one x y → y ≡ x
is_one_eq x y some' = elim (cases_eq y x) [ inl same ↦ same | inr other ↦ absurd (none other some') ]
  where
    none : y ≢ x → 0 < is_one x y → ⊥
    none other some' = grind arith

-- what weighs as operation x in a list is x
pub listed : (x : ℕ) (xs : List ℕ) → 0 < sum_by (is_one x) xs → Contains xs x
listed x [] more = absurd (omega arith)
listed x (y ∷ ys) more =
    elim (cases_lt 0 (is_one x y)) [
      | inl here ↦ subst (λ z. Contains (y ∷ ys) z) (is_one_eq x y here) (contains_first y ys)
      | inr none ↦ (let e : sum_by (is_one x) (y ∷ ys) ≡ is_one x y + sum_by (is_one x) ys = sum_by-cons (is_one x) y ys in contains_later y ys x (listed x ys (omega arith)))
    ]

-- and in what was found
found_in : (x : ℕ) (fs : List Found) → 0 < sum_by (weight_of (is_one x)) fs → Contains fs (Item x)
found_in x [] more = absurd (omega arith)
found_in x (Nothing ∷ fs) more = let e : sum_by (weight_of (is_one x)) (Nothing ∷ fs) ≡ 0 + sum_by (weight_of (is_one x)) fs = sum_by-cons (weight_of (is_one x)) Nothing fs in contains_later Nothing fs (Item x) (found_in x fs (omega arith))
found_in x (Retry ∷ fs) more = let e : sum_by (weight_of (is_one x)) (Retry ∷ fs) ≡ 0 + sum_by (weight_of (is_one x)) fs = sum_by-cons (weight_of (is_one x)) Retry fs in contains_later Retry fs (Item x) (found_in x fs (omega arith))
found_in x (Item y ∷ fs) more =
    elim (cases_lt 0 (is_one x y)) [
      | inl here ↦ subst (λ z. Contains (Item y ∷ fs) (Item z)) (is_one_eq x y here) (contains_first (Item y) fs)
      | inr none ↦ (let e : sum_by (weight_of (is_one x)) (Item y ∷ fs) ≡ is_one x y + sum_by (weight_of (is_one x)) fs = sum_by-cons (weight_of (is_one x)) (Item y) fs in contains_later (Item y) fs (Item x) (found_in x fs (omega arith)))
    ]

-- ---- turns

turns_number : (rules : RunRules) (ts : List Thief) (a : Member) (fs : List Found) (b : Member) → Turns rules ts a fs b → b.number ≡ a.number
turns_number rules ts a [] b made = ap (λ (m : Member). m.number) made
turns_number rules ts a (f ∷ fs) b made = after_number f made.2.found b made.2.after ∙ made.2.finds.number ∙ turns_number rules ts a fs made.0 made.1
  where
    after_number : (f : Found) (a b : Member) → After rules f a b → b.number ≡ a.number
    after_number (Item x) a b after = elim (cases_lt x (op_count rules.plan)) [ inl lt ↦ (after.0 lt).goes.number | inr past ↦ ap (λ (m : Member). m.number) (after.1 past) ]
    after_number Nothing a b after = ap (λ (m : Member). m.number) after
    after_number Retry a b after = ap (λ (m : Member). m.number) after

module _ (rules : RunRules) (ts : List Thief) (a b : Member) (run : HasTakenTurns rules ts a b) where
  pub run_number : b.number ≡ a.number
  run_number = ap (λ (m : Member). m.number) run.noted ∙ turns_number rules ts a run.ran.turns run.stopped run.ran.made

  run_calls : (cs : List ServeCall) × MakesServeCalls rules.plan rules.cap cs a.runner b.runner
  run_calls = let tell = turns_tell rules ts a run.ran.turns run.stopped run.ran.made in (tell.calls, subst (MakesServeCalls rules.plan rules.cap tell.calls a.runner) (ap (λ (m : Member). m.runner) (sym run.noted)) tell.made)

  -- each operation that it took was tried in a call of its own
  run_tries : ((h : ℕ → ℕ) → taken_by h a ≡ 0) → taken_by (in_plan rules.plan) b ≤ count_by is_tried run_calls.0
  unfolding run_calls
  run_tries fresh =
      let tell = turns_tell rules ts a run.ran.turns run.stopped run.ran.made in
      let e : taken_by (in_plan rules.plan) b ≡ taken_by (in_plan rules.plan) run.stopped = ap (taken_by (in_plan rules.plan)) run.noted in
      let f : taken_by (in_plan rules.plan) run.stopped ≡ taken_by (in_plan rules.plan) a + sum_by (weight_of (in_plan rules.plan)) run.ran.turns = turns_taken rules ts a run.ran.turns run.stopped run.ran.made (in_plan rules.plan) in
      let g = fresh (in_plan rules.plan) in
      let h = tell.many in
      omega arith

  -- what it took it reached
  run_reached : (x : ℕ) → x < op_count rules.plan → ((h : ℕ → ℕ) → taken_by h a ≡ 0) → 0 < taken_by (is_one x) b → IsReached rules.plan x (hand_view b.runner).trail
  run_reached x lt fresh more =
      let tell = turns_tell rules ts a run.ran.turns run.stopped run.ran.made in
      let e : taken_by (is_one x) b ≡ taken_by (is_one x) run.stopped = ap (taken_by (is_one x)) run.noted in
      let f : taken_by (is_one x) run.stopped ≡ taken_by (is_one x) a + sum_by (weight_of (is_one x)) run.ran.turns = turns_taken rules ts a run.ran.turns run.stopped run.ran.made (is_one x) in
      let g = fresh (is_one x) in
      subst (λ (r : Runner). IsReached rules.plan x (hand_view r).trail) (ap (λ (m : Member). m.runner) (sym run.noted))
      (calls_reach rules.plan rules.cap x tell.calls a.runner run.stopped.runner tell.made (tell.tried x (found_in x run.ran.turns (omega arith)) lt))

-- ---- all have returned

module _ (g : Ground) (ts : List Thief) (ms : List Member) (len : length ms ≡ length ts) (few : length ts ≤ whole) (workers : (k : ℕ) (m : Member) → k < length ms → IsWorkerOf g ts (slice_index_or ms k m)) (numbers : (k : ℕ) (m : Member) → k < length ms → (slice_index_or ms k m).number ≡ k) where
  pub holding_all : AreHolding ts (length ms) ms
  holding_all = record {
    len = len;
    few = few;
    still = λ i m lt. still_at i (slice_index_or ms i m) (workers i m lt) (numbers i m lt);
    all = λ i m high lt. absurd (omega arith);
    lent = λ i m _ lt. (workers i m lt).tickets.parts;
  }
    where
      still_at : (i : ℕ) (w : Member) → IsWorkerOf g ts w → w.number ≡ i → HasStill ts (length ms) i w
      still_at i w worker number =
          let is = worker.tickets in
          record {
            number = number;
            fifo = worker.deque.fifo;
            deque = λ t. is.deque t ∙ ap (λ k. stealer_deque (slice_index_or ts k t)) number;
            len = is.len ∙ sym len;
            seated = λ j t x lt other.
                elim (cases_lt j w.number) [
                  | inl low ↦ is.under j t x (omega arith) low
                  | inr high ↦ is.above j t x (apart j high other) (subst (λ n. j < n) len lt)
                ];
            guest = λ x lt. subst (λ k. view (slice_index_or (tickets_of w) k x) ≡ log 0 [] [] [] []) number (is.guest x);
          }
        where
          apart : (j : ℕ) → w.number ≤ j → j ≢ i → w.number + 1 ≤ j
          apart j high other = grind arith

-- ---- a deque was emptied

pub record EmptyingTells (p : Plan) (cap : ℕ) (a b : Member) : Type 0 where
  pub end : b.end ≡ a.end
  pub handed : b.handed ≡ a.handed
  pub stolen : b.stolen ≡ a.stolen
  pub pushed : (own b).pushed ≡ (own a).pushed
  pub thefts : (own b).stolen ≡ (own a).stolen
  pub even : IsEven b
  pub left : a.end ≡ Drained → (own b).left ≡ (own a).left
  pub calls : (cs : List ServeCall) × MakesServeCalls p cap cs a.runner b.runner
  pub tries : taken_in (in_plan p) b ≤ taken_in (in_plan p) a + count_by is_tried calls.0
  pub more : (x : ℕ) → x < op_count p → taken_in (is_one x) a < taken_in (is_one x) b → IsReached p x (hand_view b.runner).trail

module _ (p : Plan) (cap : ℕ) where
  left_tells : (a b : Member) → (a.end ≡ Drained → ⊥) → IsLeftWithNobody a b → EmptyingTells p cap a b
  left_tells a b other is = record {
    end = ap (λ (m : Member). m.end) is.is;
    handed = ap (λ (m : Member). m.handed) is.is;
    stolen = ap (λ (m : Member). m.stolen) is.is;
    pushed = ap (λ (v : Log). v.pushed) is.left;
    thefts = ap (λ (v : Log). v.stolen) is.left;
    even = is.even;
    left = λ drained. absurd (other drained);
    calls = ([], ap (λ (m : Member). m.runner) is.is);
    tries = let e : taken_in (in_plan p) b ≡ taken_in (in_plan p) a = ap (λ (v : Log). sum_by (in_plan p) v.popped + sum_by (in_plan p) v.stolen) is.left in omega arith;
    more = λ x lt more.
        let e : taken_in (is_one x) b ≡ taken_in (is_one x) a = ap (λ (v : Log). sum_by (is_one x) v.popped + sum_by (is_one x) v.stolen) is.left in
        absurd (omega arith);
  }

  cleared_tells : (a b : Member) → IsCleared p cap a b → EmptyingTells p cap a b
  cleared_tells a b is = record {
    end = ap (λ (m : Member). m.end) is.is;
    handed = ap (λ (m : Member). m.handed) is.is;
    stolen = ap (λ (m : Member). m.stolen) is.is;
    pushed = ap (λ (v : Log). v.pushed) is.popped;
    thefts = ap (λ (v : Log). v.stolen) is.popped;
    even = is.even;
    left = λ _. ap (λ (v : Log). v.left) is.popped;
    calls = (is.calls, is.made);
    tries =
        let e : taken_in (in_plan p) b ≡ sum_by (in_plan p) ((own a).popped ++ is.items) + sum_by (in_plan p) (own a).stolen = ap (λ (v : Log). sum_by (in_plan p) v.popped + sum_by (in_plan p) v.stolen) is.popped in
        let f : sum_by (in_plan p) ((own a).popped ++ is.items) ≡ sum_by (in_plan p) (own a).popped + sum_by (in_plan p) is.items = sum_by-append (in_plan p) (own a).popped is.items in
        let many = is.many in
        omega arith;
    more = λ x lt more.
        let e : taken_in (is_one x) b ≡ sum_by (is_one x) ((own a).popped ++ is.items) + sum_by (is_one x) (own a).stolen = ap (λ (v : Log). sum_by (is_one x) v.popped + sum_by (is_one x) v.stolen) is.popped in
        let f : sum_by (is_one x) ((own a).popped ++ is.items) ≡ sum_by (is_one x) (own a).popped + sum_by (is_one x) is.items = sum_by-append (is_one x) (own a).popped is.items in
        calls_reach p cap x is.calls a.runner b.runner is.made (is.tried x (listed x is.items (omega arith)) lt);
  }

  emptied_tells : (e : RunEnd) (a b : Member) → a.end ≡ e → IsEmptiedBy p cap e a b → EmptyingTells p cap a b
  emptied_tells Drained a b same is = cleared_tells a b is
  emptied_tells Spent a b same is = left_tells a b (λ d. apart (sym same ∙ d)) is
    where
      apart : Spent ≡ Drained → ⊥
      apart e = cc
  emptied_tells Whole a b same is = left_tells a b (λ d. apart (sym same ∙ d)) is
    where
      apart : Whole ≡ Drained → ⊥
      apart e = cc

-- ---- all together

pub no_items : (xs : List ℕ) → length xs ≡ 0 → xs ≡ []
no_items [] none = refl
no_items (x ∷ xs) none = absurd (omega arith)

sums_none : (f : Member → ℕ) (ms : List Member) → ((k : ℕ) (m : Member) → k < length ms → f (slice_index_or ms k m) ≡ 0) → sum_by f ms ≡ 0
sums_none f [] none = refl
sums_none f (m ∷ ms) none =
    let e : sum_by f (m ∷ ms) ≡ f m + sum_by f ms = sum_by-cons f m ms in
    let here : f m ≡ 0 = none 0 m (zero-lt-suc (length ms)) in
    let rest = sums_none f ms (λ k d lt. none (suc k) d (suc-le-suc lt)) in
    omega arith

-- the only ticket of one worker is that of its own deque, by which it steals nothing
alone_bare : (h : ℕ → ℕ) (ts : List Thief) (m : Member) → length ts ≡ 1 → HasTickets ts m → stolen_by h (tickets_of m) ≡ 0
alone_bare h ts m single is = bare (tickets_of m) (is.len ∙ single) (λ x. subst (λ k. view (slice_index_or (tickets_of m) k x) ≡ log 0 [] [] [] []) (let lt = is.inside in omega arith) (is.guest x))
  where
    bare : (xs : List Ticket) → length xs ≡ 1 → ((x : Ticket) → view (slice_index_or xs 0 x) ≡ log 0 [] [] [] []) → stolen_by h xs ≡ 0
    bare [] one_there guest = absurd (omega arith)
    bare (x ∷ y ∷ ys) one_there guest = absurd (omega arith)
    bare (x ∷ []) one_there guest =
        let e : stolen_by h (x ∷ []) ≡ sum_by h (view x).stolen + 0 = sum_by-cons (λ (z : Ticket). sum_by h (view z).stolen) x [] in
        let f : sum_by h (view x).stolen ≡ 0 = ap (λ (v : Log). sum_by h v.stolen) (guest x) in
        omega arith

no_tickets : (h : ℕ → ℕ) (xs : List Ticket) → length xs ≡ 0 → stolen_by h xs ≡ 0
no_tickets h [] none = refl
no_tickets h (x ∷ xs) none = absurd (omega arith)

module _ (g : Ground) (ts : List Thief) (ms ws gs : List Member) (begins : (k : ℕ) (m : Member) → k < length ms → IsBeginning g ts k (slice_index_or ms k m)) (len : length ms ≡ length ts) (len_ws : length ws ≡ length ms)
    (work : (k : ℕ) (m : Member) → k < length ms → IsWorkerOf g ts (slice_index_or ws k m) × HasTakenTurns (ground_rules g) ts (slice_index_or ms k m) (slice_index_or ws k m)) where
  -- before they give back their tickets
  pub all_hold : length ts ≤ whole → AreHolding ts (length ws) ws
  all_hold few =
      holding_all g ts ws (len_ws ∙ len) few (λ k m lt. (work k m (subst (λ n. k < n) len_ws lt)).0)
      (λ k m lt.
      let less : k < length ms = subst (λ n. k < n) len_ws lt in
      run_number (ground_rules g) ts (slice_index_or ms k m) (slice_index_or ws k m) (work k m less).1 ∙ (begins k m less).number)

  module _ (held : AreHolding ts 0 gs) (totals : AreTotals ws gs) where
    len_gs : length gs ≡ length ms
    len_gs = held.len ∙ sym len

    pub kept_at : (k : ℕ) (m : Member) → k < length ms → kept_of (slice_index_or gs k m) ≡ kept_of (slice_index_or ws k m)
    kept_at k m lt =
        sym (get_or-map kept_of gs k m (kept_of m) (subst (λ n. k < n) (sym len_gs) lt))
        ∙ ap (λ l. get_or l k (kept_of m)) totals.kept
        ∙ get_or-map kept_of ws k m (kept_of m) (subst (λ n. k < n) (sym len_ws) lt)

    -- then each has all parts of its deque
    pub all_have : All (HasAll g.board.now) gs
    all_have k m lt =
        let less : k < length ms = subst (λ n. k < n) len_gs lt in
        record {
          idle = subst (IsFreeRunner g.board.now) (ap (λ (q : KeptByWorker). q.runner) (sym (kept_at k m less))) (work k m less).0.idle;
          fifo = (held.still k m lt).fifo;
          all = held.all k m (omega arith) lt;
        }

    no_left : (k : ℕ) (m : Member) → k < length ms → (own (slice_index_or gs k m)).left ≡ []
    no_left k m lt = ap (λ (q : KeptByWorker). q.left) (kept_at k m lt) ∙ (work k m lt).0.tickets.bare_left

    -- what was taken is what the workers popped and stole
    taken_sum : (h : ℕ → ℕ) → sum_by (taken_in h) gs ≡ sum_by (taken_by h) ws
    taken_sum h = same_sums (out h) (taken_in h) gs gs refl after ∙ totals.out_is h ∙ same_sums (taken_by h) (out h) ws ws refl before
      where
        after : (k : ℕ) (m : Member) → k < length gs → taken_in h (slice_index_or gs k m) ≡ out h (slice_index_or gs k m)
        after k m lt =
            let a : sum_by h (own (slice_index_or gs k m)).left ≡ 0 = ap (sum_by h) (no_left k m (subst (λ n. k < n) len_gs lt)) in
            let b : stolen_by h (tickets_of (slice_index_or gs k m)) ≡ 0 = no_tickets h (tickets_of (slice_index_or gs k m)) (held.still k m lt).len in
            omega arith

        before : (k : ℕ) (m : Member) → k < length ws → out h (slice_index_or ws k m) ≡ taken_by h (slice_index_or ws k m)
        before k m lt =
            let is = (work k m (subst (λ n. k < n) len_ws lt)).0.tickets in
            let a : sum_by h (own (slice_index_or ws k m)).stolen ≡ 0 = ap (sum_by h) is.bare_stolen in
            let b : sum_by h (own (slice_index_or ws k m)).left ≡ 0 = ap (sum_by h) is.bare_left in
            omega arith

    -- what tickets stole stands with the deques from which it was stolen
    stolen_sum : (h : ℕ → ℕ) → sum_by (λ (m : Member). sum_by h (own m).stolen) gs ≡ sum_by (λ (m : Member). stolen_by h (tickets_of m)) ws
    stolen_sum h =
        let total = totals.out_is h in
        let both = sums_apart (out h) (λ (m : Member). stolen_by h (tickets_of m)) (out h) (λ (m : Member). sum_by h (own m).stolen) ws gs (len_gs ∙ sym len_ws) each in
        omega arith
      where
        each : (k : ℕ) (m : Member) → k < length ws → out h (slice_index_or ws k m) + sum_by h (own (slice_index_or gs k m)).stolen ≡ out h (slice_index_or gs k m) + stolen_by h (tickets_of (slice_index_or ws k m))
        each k m lt =
            let less : k < length ms = subst (λ n. k < n) len_ws lt in
            let is = (work k m less).0.tickets in
            let a : sum_by h (own (slice_index_or ws k m)).stolen ≡ 0 = ap (sum_by h) is.bare_stolen in
            let b : sum_by h (own (slice_index_or gs k m)).popped ≡ sum_by h (own (slice_index_or ws k m)).popped = ap (λ (q : KeptByWorker). sum_by h q.popped) (kept_at k m less) in
            let c : sum_by h (own (slice_index_or gs k m)).left ≡ sum_by h (own (slice_index_or ws k m)).left = ap (λ (q : KeptByWorker). sum_by h q.left) (kept_at k m less) in
            let d : stolen_by h (tickets_of (slice_index_or gs k m)) ≡ 0 = no_tickets h (tickets_of (slice_index_or gs k m)) (held.still k m (subst (λ n. k < n) (sym len_gs) less)).len in
            omega arith

    module _ (ns : List Member) (emptied : AreEmptied g.plan.now (cap_of g.board.now) gs ns) where
      abbrev p : Plan
      p = g.plan.now

      abbrev cap : ℕ
      cap = cap_of g.board.now

      in_gs : (k : ℕ) → k < length ms → k < length gs
      in_gs k lt = subst (λ n. k < n) (sym len_gs) lt

      tells : (k : ℕ) (m : Member) → k < length ms → EmptyingTells p cap (slice_index_or gs k m) (slice_index_or ns k m)
      tells k m lt = emptied_tells p cap (slice_index_or gs k m).end (slice_index_or gs k m) (slice_index_or ns k m) refl (emptied.each k m (in_gs k lt))

      -- what a worker reached in its turns stays reached
      still_reached : (x k : ℕ) (m : Member) → k < length ms → IsReached p x (hand_view (slice_index_or ws k m).runner).trail → IsReached p x (hand_view (slice_index_or ns k m).runner).trail
      still_reached x k m lt is =
          let more = (tells k m lt).calls in
          calls_keep p cap x more.0 (slice_index_or gs k m).runner (slice_index_or ns k m).runner more.1
          (subst (λ (r : Runner). IsReached p x (hand_view r).trail) (ap (λ (q : KeptByWorker). q.runner) (sym (kept_at k m lt))) is)

      by_somebody : (x : ℕ) → x < op_count p → 0 < sum_by (taken_in (is_one x)) ns → (k : ℕ) × (k < length ms) × ((m : Member) → IsReached p x (hand_view (slice_index_or ns k m).runner).trail)
      by_somebody x lt more =
          elim (cases_lt 0 (sum_by (taken_in (is_one x)) gs)) [
            | inl turns ↦
                let at = positive (taken_by (is_one x)) ws (subst (λ n. 0 < n) (taken_sum (is_one x)) turns) in
                let less : at.0 < length ms = subst (λ n. at.0 < n) len_ws at.1 in (
                  at.0,
                  less,
                  λ m.
                      still_reached x at.0 m less
                      (run_reached (ground_rules g) ts (slice_index_or ms at.0 m) (slice_index_or ws at.0 m) (work at.0 m less).1 x lt (begins at.0 m less).fresh (at.2 m)),
                )
            | inr none ↦
                let at = above (taken_in (is_one x)) gs ns emptied.len (omega arith) in
                let less : at.0 < length ms = subst (λ n. at.0 < n) len_gs at.1 in
                (at.0, less, λ m. (tells at.0 m less).more x lt (at.2 m))
          ]

      stolen_counted : up_to (sum_by (λ (m : Member). m.stolen) ns) ≡ up_to (sum_by (λ m. length (own m).stolen) ns)
      stolen_counted =
          sums_up_to (λ (m : Member). stolen_by one (tickets_of m)) (λ (m : Member). m.stolen) ws ns (emptied.len ∙ len_gs ∙ sym len_ws)
          (λ k m lt.
          let less : k < length ms = subst (λ n. k < n) len_ws lt in
          (tells k m less).stolen ∙ ap (λ (q : KeptByWorker). q.stolen) (kept_at k m less) ∙ (work k m less).0.tickets.stolen)
          ∙ ap up_to (sym (stolen_sum one) ∙ same_sums (λ (m : Member). length (own m).stolen) (λ (m : Member). sum_by one (own m).stolen) ns gs (sym emptied.len) each)
        where
          each : (k : ℕ) (m : Member) → k < length ns → sum_by one (own (slice_index_or gs k m)).stolen ≡ length (own (slice_index_or ns k m)).stolen
          each k m lt =
              let less : k < length ms = subst (λ n. k < n) (emptied.len ∙ len_gs) lt in
              sum_ones one (own (slice_index_or gs k m)).stolen (λ _. refl) ∙ ap length (sym (tells k m less).thefts)

      -- one worker has no deque to steal from
      none_stolen : length ts ≡ 1 → (h : ℕ → ℕ) → sum_by (λ (m : Member). sum_by h (own m).stolen) gs ≡ 0
      none_stolen single h =
          stolen_sum h
          ∙ sums_none (λ (m : Member). stolen_by h (tickets_of m)) ws
          (λ k m lt. alone_bare h ts (slice_index_or ws k m) single (work k m (subst (λ n. k < n) len_ws lt)).0.tickets)

      unstolen_by : length ts ≡ 1 → (k : ℕ) (m : Member) → k < length ms → (own (slice_index_or ns k m)).stolen ≡ []
      unstolen_by single k m lt =
          let least : sum_by one (own (slice_index_or gs k m)).stolen ≤ sum_by (λ (m : Member). sum_by one (own m).stolen) gs = get_or-le-sum_by (λ (m : Member). sum_by one (own m).stolen) gs k m (in_gs k lt) in
          let none : sum_by (λ (m : Member). sum_by one (own m).stolen) gs ≡ 0 = none_stolen single one in
          let long : sum_by one (own (slice_index_or gs k m)).stolen ≡ length (own (slice_index_or gs k m)).stolen = sum_ones one (own (slice_index_or gs k m)).stolen (λ _. refl) in
          (tells k m lt).thefts ∙ no_items (own (slice_index_or gs k m)).stolen (omega arith)

      -- all calls of a worker, and how many of them tried something
      calls_of : (k : ℕ) (m : Member) → k < length ms → (cs : List ServeCall) × MakesServeCalls p cap cs (slice_index_or ms k m).runner (slice_index_or ns k m).runner
          × (taken_by (in_plan p) (slice_index_or ws k m) + taken_in (in_plan p) (slice_index_or ns k m) ≤ taken_in (in_plan p) (slice_index_or gs k m) + count_by is_tried cs)
      calls_of k m lt =
          let run = (work k m lt).1 in
          let first = run_calls (ground_rules g) ts (slice_index_or ms k m) (slice_index_or ws k m) run in
          let second = (tells k m lt).calls in (
            second.0 ++ first.0,
            in_turn_append (MakesServeCall p cap) second.0 first.0 (slice_index_or ms k m).runner (slice_index_or ws k m).runner (slice_index_or ns k m).runner first.1
                (subst (λ r. MakesServeCalls p cap second.0 r (slice_index_or ns k m).runner) (ap (λ (q : KeptByWorker). q.runner) (kept_at k m lt)) second.1),
            (let a = run_tries (ground_rules g) ts (slice_index_or ms k m) (slice_index_or ws k m) run (begins k m lt).fresh in
                let b = (tells k m lt).tries in
                let c = count_both second.0 first.0 in
                omega arith),
          )

      all_answered : (sum_by (taken_in (in_plan p)) ns ≤ sum_by (λ m. total m.runner.answers) ns) ⊎ ((k : ℕ) × (k < length ns) × ((m : Member) → 2 ^ 64 ≤ total (slice_index_or ns k m).runner.answers + 1))
      all_answered =
          elim (sum_or (taken_by (in_plan p)) (taken_in (in_plan p)) (λ m. total m.runner.answers) (λ m. 2 ^ 64 ≤ total m.runner.answers + 1) ws gs ns (len_gs ∙ sym len_ws) (emptied.len ∙ len_gs ∙ sym len_ws) each) [
            | inr full ↦ inr full
            | inl fits ↦ (let e = taken_sum (in_plan p) in inl (omega arith))
          ]
        where
          each : (k : ℕ) (m : Member) → k < length ws
              → (taken_by (in_plan p) (slice_index_or ws k m) + taken_in (in_plan p) (slice_index_or ns k m) ≤ taken_in (in_plan p) (slice_index_or gs k m) + total (slice_index_or ns k m).runner.answers)
              ⊎ (2 ^ 64 ≤ total (slice_index_or ns k m).runner.answers + 1)
          each k m lt =
              let calls = calls_of k m (subst (λ n. k < n) len_ws lt) in
              elim (calls_total p cap calls.0 (slice_index_or ms k m).runner (slice_index_or ns k m).runner calls.1) [
                | inr full ↦ inr full
                | inl more ↦ (let few = calls.2 in inl (omega arith))
              ]

      pub handed_out : HasHandedOut (ground_rules g) ts ms ns
      handed_out = record {
        len = emptied.len ∙ len_gs;
        returned = ws;
        ran = λ k m lt. (work k m lt).1;
        end = λ k m lt. (tells k m lt).end ∙ ap (λ (q : KeptByWorker). q.end) (kept_at k m lt);
        pushed = λ k m lt. (tells k m lt).pushed ∙ ap (λ (q : KeptByWorker). q.pushed) (kept_at k m lt);
        even = λ k m lt. (tells k m lt).even;
        left = λ k m lt drained. (tells k m lt).left (sym (tells k m lt).end ∙ drained) ∙ no_left k m lt;
        reached = by_somebody;
        calls = λ k m lt. let calls = calls_of k m lt in (calls.0, calls.1);
        below = λ k m lt.
            subst (All (λ x. x < op_count p)) (sym ((tells k m lt).pushed ∙ ap (λ (q : KeptByWorker). q.pushed) (kept_at k m lt))) (work k m lt).0.deque.below;
        handed = λ k m lt.
            (tells k m lt).handed
            ∙ ap (λ (q : KeptByWorker). q.handed) (kept_at k m lt)
            ∙ (work k m lt).0.deque.handed
            ∙ ap (λ l. up_to (length l)) (sym ((tells k m lt).pushed ∙ ap (λ (q : KeptByWorker). q.pushed) (kept_at k m lt)));
        stolen = stolen_counted;
        unstolen = unstolen_by;
        answered = all_answered;
      }
