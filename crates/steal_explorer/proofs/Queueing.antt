-- A lone root's deque, call by call.
use Rattle.std.proofs.Common.{◌≡◌, ℕ, zero, suc, ◌+◌, ◌<◌, ◌≤◌, List, [], ◌∷◌, ◌++◌, length, get_or, drop, refl, sym, ap, ◌∙◌, subst, inl, inr, arith, length-append, add-one, drop-cons}
use Rattle.std.specs.Prelude.{sum_by}
use Rattle.std.proofs.lemmas.List.Elements.{All-contains}
use Rattle.std.proofs.lemmas.List.Sums.{sum_by_push}
use Rattle.crossbeam_deque.specs.Handles.{worker_capacity, worker_index}
use Rattle.morph_base.specs.declared.plan.Plan.{Plan}
use Rattle.morph_base.specs.declared.strategy.Abort.TheVariants.{Lazy}
use Rattle.morph_base.specs.Graphs.{IsValidPlan}
use Rattle.morph_base.specs.Plans.{op_count}
use Rattle.op_words.specs.declared.answers.Outcome.{Outcome}
use Rattle.op_words.specs.declared.answers.Readied.TheVariants.{Made, Not as Unmade}
use Rattle.op_words.specs.declared.trail.Item.{Item}
use Rattle.op_words.specs.Trails.{IsSourceOf}
use Rattle.op_words.specs.Views.{IsLone}
use Rattle.op_words.proofs.Adding.{lone_more}
use Rattle.op_eval.specs.declared.answers.Evaluation.{Evaluation}
use Rattle.op_eval.specs.declared.answers.Evaluation.TheVariants.{Evaluated}
use Rattle.op_eval.specs.declared.runner.Runner.{Runner}
use Rattle.op_eval.specs.Evaluations.{Tries}
use Rattle.op_eval.specs.Running.{hand_view}
use Rattle.op_eval.proofs.Alone.{come_first}
use Rattle.steal_explorer.specs.declared.deque_rule.Log.{Log}
use Rattle.steal_explorer.specs.declared.member.Member.{Member}
use Rattle.steal_explorer.specs.Alone.{Stands, HasRunOp, IsHandingAlone, Pushes, ServesAlone}
use Rattle.steal_explorer.specs.Serving.{readers}
use Rattle.steal_explorer.specs.Calls.{AsksWhetherReady}
use Rattle.steal_explorer.specs.HandingOut.{is_one}
use Rattle.steal_explorer.specs.Members.{own, HasDeque}
use Rattle.steal_explorer.specs.Serving.{ServesOn}
use Rattle.steal_explorer.proofs.Counting.{fewer_items}
use Rattle.steal_explorer.proofs.Depending.{reader_source, reads_or}
use Rattle.steal_explorer.proofs.Outcome.{listed}
use Rattle.steal_explorer.proofs.Standing.{made_alone, unmade_alone, evaluated_alone, first_attempt, unmade_stands, was_waiting, made_stands, evaluated_stands, stopped_stands, calls_ran}
use Rattle.op_eval.specs.Exploring.{RunRules}

pub seldom : (p : Plan) (pending : List ℕ) (t : List Item) (pushed : List ℕ) (o : ℕ) → Stands p pending t pushed o → sum_by (is_one o) pushed ≤ 1
seldom p pending t pushed o stands =
    elim stands [
      | inl waits ↦ let e = waits.unpushed in omega arith
      | inr more ↦ elim more [ inl queued ↦ (let e = queued.once in omega arith) | inr gone ↦ (let e = gone.once in omega arith) ]
    ]

module _ (p : Plan) (valid : IsValidPlan p) (cap : ℕ) (a : Member) where
  -- ---- asking

  module _ (d : ℕ) (rest : List ℕ) (r : Runner) (is : IsHandingAlone p (d ∷ rest) a) where
    pub asked_in_vain : (at : ℕ) (w : _) → AsksWhetherReady p cap d a.runner r (Unmade at w) → IsHandingAlone p rest (record a { runner = r })
    asked_in_vain at w asks = record {
      lone = lone_more asks.does.goes.adds is.lone;
      slots = is.slots;
      index = is.index;
      each =
          unmade_stands p valid.plan d rest (hand_view a.runner).trail (hand_view r).trail (own a).pushed
          (unmade_alone is.lone (come_first p d valid.plan asks.in_range) at w asks.does) is.each;
    }

    -- an operation that was made ready has room in the deque, and is pushed
    pub asked_and_pushed : (b : Member) → AsksWhetherReady p cap d a.runner r Made → (s : ℕ) → IsSourceOf p d s → HasDeque p a → (worker_index a.owner < worker_capacity a.owner → Pushes d (record a { runner = r }) b) → IsHandingAlone p rest b
    asked_and_pushed b asks s source deque push =
        let made = made_alone is.lone (come_first p d valid.plan asks.in_range) asks.does in
        let waits = was_waiting p valid.plan d asks.in_range rest (hand_view a.runner).trail (hand_view r).trail (own a).pushed [] made is.each (s, source) in
        let less : length (own a).pushed < op_count p =
        fewer_items (op_count p) d (own a).pushed deque.below asks.in_range (λ o lt. seldom p (d ∷ rest) (hand_view a.runner).trail (own a).pushed o (is.each o lt)) waits.unpushed in
        let slots = is.slots in
        let index = is.index in
        let pushes = push (omega arith) in
        let items : (own b).pushed ≡ (own a).pushed ++ d ∷ [] = ap (λ (v : Log). v.pushed) pushes.puts in
        record {
          lone = subst (λ (q : Runner). IsLone (hand_view q)) (sym pushes.runner) (lone_more asks.does.goes.adds is.lone);
          slots = let more = pushes.slots in omega arith;
          index =
              let long : length (own b).pushed ≡ length ((own a).pushed ++ d ∷ []) = ap length items in
              let one_more : length ((own a).pushed ++ d ∷ []) ≡ length (own a).pushed + 1 = length-append (own a).pushed (d ∷ []) in
              let next = pushes.index in
              omega arith;
          each =
              subst (λ (q : Runner). (o : ℕ) → o < op_count p → Stands p rest (hand_view q).trail (own b).pushed o) (sym pushes.runner)
              (made_stands p valid.plan d asks.in_range rest (hand_view a.runner).trail (hand_view r).trail (own a).pushed (own b).pushed made is.each (s, source)
              (λ o. ap (sum_by (is_one o)) items ∙ sum_by_push (is_one o) (own a).pushed d));
        }

  -- ---- evaluating

  module _ (some : 1 ≤ cap) (o : ℕ) (r : Runner) (is : IsHandingAlone p [] a) where
    pub tried_and_evaluated : (attempt : ℕ) (x : Outcome) → Tries p cap o a.runner r (Evaluated attempt x) → IsHandingAlone p (readers p o) (record a { runner = r }) × HasRunOp o (record a { runner = r })
    tried_and_evaluated attempt x tries =
        let made =
        evaluated_alone is.lone (come_first p o valid.plan tries.in_range) attempt x tries.does
        (first_attempt p valid.plan [] (hand_view a.runner).trail (own a).pushed o (is.each o tries.in_range)) in (
          record {
            lone = lone_more tries.does.goes.adds is.lone;
            slots = is.slots;
            index = is.index;
            each =
                evaluated_stands p valid.plan o tries.in_range (readers p o) (hand_view a.runner).trail (hand_view r).trail (own a).pushed made is.each
                (λ k lt. reads_or p valid.plan o k lt);
          },
          made.ran,
        )

    pub tried_in_vain : (answer : Evaluation) → Tries p cap o a.runner r answer → ((attempt : ℕ) (x : Outcome) → answer ≡ Evaluated attempt x → ⊥) → ServesAlone p o a (record a { runner = r })
    tried_in_vain answer tries other =
        let stops = stopped_stands p valid.plan cap some o tries.in_range (hand_view a.runner) (hand_view r) (own a).pushed is.lone is.each answer tries.does other in
        record {
          handing = record { lone = lone_more tries.does.goes.adds is.lone; slots = is.slots; index = is.index; each = stops.0 };
          ran = stops.1;
        }

-- what ran stays so, under lazy abort
module _ (rules : RunRules) (valid : IsValidPlan rules.plan) (lazy : rules.abort ≡ Lazy) where
  pub goes_ran : (a b : Member) → ServesOn rules a b → IsLone (hand_view a.runner) → (o : ℕ) → HasRunOp o a → HasRunOp o b
  goes_ran a b goes lone o ran = calls_ran rules.plan valid.plan rules.cap goes.calls a.runner b.runner goes.made (goes.lazy lazy) lone o ran

  pub serves_more : (o : ℕ) (a m b : Member) → ServesAlone rules.plan o a m → ServesOn rules m b → IsHandingAlone rules.plan [] b → ServesAlone rules.plan o a b
  serves_more o a m b serves goes handing = record {
    handing = handing;
    ran = λ there. calls_ran rules.plan valid.plan rules.cap goes.calls m.runner b.runner goes.made (goes.lazy lazy) serves.handing.lone o (serves.ran there);
  }

-- ---- asking all that read from an operation

pub next_source : (p : Plan) → IsValidPlan p → (o : ℕ) (ops : List ℕ) → ops ≡ readers p o → (i : ℕ) → i < length ops → IsSourceOf p (get_or ops i 0) o
next_source p valid o ops same i lt =
    subst (λ l. i < length l → IsSourceOf p (get_or l i 0) o) (sym same) (reader_source p valid.plan o i) lt

pub rest_of : (ops : List ℕ) (i : ℕ) → i < length ops → drop i ops ≡ get_or ops i 0 ∷ drop (i + 1) ops
rest_of ops i lt = rw (add-one, drop-cons ops i 0)

pub none_left : (ops : List ℕ) (i : ℕ) → length ops ≤ i → drop i ops ≡ []
none_left [] zero past = refl
none_left [] (suc i) past = refl
none_left (x ∷ xs) zero past = absurd (omega arith)
none_left (x ∷ xs) (suc i) past = none_left xs i (omega arith)

-- what is not one of the plan's operations was not pushed
pub not_pushed : (p : Plan) (o : ℕ) (a : Member) → HasDeque p a → op_count p ≤ o → 0 < sum_by (is_one o) (own a).pushed → ⊥
not_pushed p o a deque past there = let lt : o < op_count p = All-contains (λ x. x < op_count p) (own a).pushed o deque.below (listed o (own a).pushed there) in omega arith
