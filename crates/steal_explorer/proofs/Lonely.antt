-- The turns of a lone root.
use Rattle.std.proofs.Common.{◌≡◌, ℕ, ◌+◌, ◌<◌, ◌≤◌, List, [], ◌∷◌, ◌++◌, length, refl, sym, ap, ◌∙◌, subst, inl, inr, arith, length-append}
use Rattle.std.specs.Prelude.{sum_by}
use Rattle.std.proofs.lemmas.Bool.{cases_eq, cases_lt}
use Rattle.std.proofs.lemmas.List.Sums.{sum_by_push}
use Rattle.crossbeam_deque.specs.Handles.{worker_capacity, worker_index}
use Rattle.morph_base.specs.declared.plan.Plan.{Plan}
use Rattle.morph_base.specs.declared.strategy.Abort.TheVariants.{Lazy}
use Rattle.morph_base.specs.Graphs.{IsValidPlan}
use Rattle.morph_base.specs.Plans.{op_count}
use Rattle.op_words.specs.Views.{IsLone}
use Rattle.op_eval.specs.declared.explored.RunEnd.{RunEnd}
use Rattle.op_eval.specs.declared.explored.RunEnd.TheVariants.{Drained, Spent}
use Rattle.op_eval.specs.declared.runner.Runner.{Runner}
use Rattle.op_eval.specs.Alone.{Ran}
use Rattle.op_eval.specs.Running.{hand_view}
use Rattle.steal_explorer.specs.declared.find.Found.{Found}
use Rattle.steal_explorer.specs.declared.find.Found.TheVariants.{Item, Nothing, Retry}
use Rattle.steal_explorer.specs.declared.deque_rule.Log.{Log}
use Rattle.steal_explorer.specs.declared.member.Member.{Member}
use Rattle.steal_explorer.specs.Alone.{Stands, HasRunOp, IsHandingAlone, ServesAlone, FindsAlone, IsTurningAlone, TurnsAlone, BeginsAlone, EndsAlone}
use Rattle.steal_explorer.specs.Draining.{IsEven}
use Rattle.steal_explorer.specs.Finding.{Finds}
use Rattle.steal_explorer.specs.Handing.{whole, came, gone, one}
use Rattle.steal_explorer.specs.HandingOut.{is_one}
use Rattle.steal_explorer.specs.Members.{Thief, own, HasDeque, HasTickets}
use Rattle.steal_explorer.specs.Turns.{After, row_then, most_turns}
use Rattle.steal_explorer.proofs.Counting.{same_is, other_is, many_ones, few_items}
use Rattle.steal_explorer.proofs.Holds.{evens}
use Rattle.steal_explorer.proofs.Queueing.{seldom, goes_ran}
use Rattle.op_eval.specs.Exploring.{RunRules}

-- with one deque its owner has all parts
whole_own : (ts : List Thief) (a : Member) → length ts ≡ 1 → HasTickets ts a → (own a).parts ≡ whole
whole_own ts a single is = let e = is.parts in omega arith

-- the same words and the same pushes, and room as before
pub handing_as : (p : Plan) (a b : Member) → IsHandingAlone p [] a → b.runner ≡ a.runner → (own b).pushed ≡ (own a).pushed → worker_capacity a.owner ≤ worker_capacity b.owner → worker_index b.owner ≤ worker_index a.owner → IsHandingAlone p [] b
handing_as p a b is runner pushed slots index = record {
  lone = subst (λ (r : Runner). IsLone (hand_view r)) (sym runner) is.lone;
  slots = let e = is.slots in omega arith;
  index = let e = is.index in let f : length (own b).pushed ≡ length (own a).pushed = ap length pushed in omega arith;
  each = λ o lt.
      subst (λ l. Stands p [] (hand_view b.runner).trail l o) (sym pushed)
      (subst (λ (r : Runner). Stands p [] (hand_view r).trail (own a).pushed o) (sym runner) (is.each o lt));
}

-- what serving leaves as it was
record AfterKeeps (m b : Member) : Type 0 where
  popped : (own b).popped ≡ (own m).popped
  more : length (own m).pushed ≤ length (own b).pushed
  ran : (o : ℕ) → HasRunOp o m → HasRunOp o b

keeps_still : (m b : Member) → b ≡ m → AfterKeeps m b
keeps_still m b same = record {
  popped = ap (λ (n : Member). (own n).popped) same;
  more = let e : length (own b).pushed ≡ length (own m).pushed = ap (λ (n : Member). length (own n).pushed) same in omega arith;
  ran = λ o ran. subst (λ (n : Member). HasRunOp o n) (sym same) ran;
}

served_keeps : (rules : RunRules) → IsValidPlan rules.plan → rules.abort ≡ Lazy → (x : ℕ) (m b : Member) → IsLone (hand_view m.runner) → After rules (Item x) m b → AfterKeeps m b
served_keeps rules valid lazy x m b lone after =
    elim (cases_lt x (op_count rules.plan)) [
      | inr past ↦ keeps_still m b (after.1 past)
      | inl lt ↦
          let goes = (after.0 lt).goes in
          record {
            popped = ap (λ (v : Log). v.popped) goes.puts;
            more =
                let e : length (own b).pushed ≡ length ((own m).pushed ++ goes.pushed) = ap (λ (v : Log). length v.pushed) goes.puts in
                let f : length ((own m).pushed ++ goes.pushed) ≡ length (own m).pushed + length goes.pushed = length-append (own m).pushed goes.pushed in
                omega arith;
            ran = goes_ran rules valid lazy m b goes lone;
          }
    ]

module _ (rules : RunRules) (valid : IsValidPlan rules.plan) (ts : List Thief) (a m : Member) (single : length ts ≡ 1) (tickets : HasTickets ts a) (is : IsTurningAlone rules.plan a) where
  -- an item was there, and is served
  pub took_item : rules.abort ≡ Lazy → (x : ℕ) (b : Member) → FindsAlone (Item x) a m → Finds ts (Item x) a m → (IsHandingAlone rules.plan [] m → ServesAlone rules.plan x m b) → After rules (Item x) m b → TurnsAlone rules.plan (Item x) a b
  took_item lazy x b alone finds serve after =
      let at_m : IsHandingAlone rules.plan [] m = handing_as rules.plan a m is.handing finds.runner finds.pushed alone.slots alone.index in
      let serves = serve at_m in
      let keeps = served_keeps rules valid lazy x m b at_m.lone after in
      let popped : (own b).popped ≡ (own a).popped ++ x ∷ [] = keeps.popped ∙ ap (λ (v : Log). v.popped) alone.found.0 in
      let longer : length (own b).popped ≡ length (own a).popped + 1 = ap length popped ∙ length-append (own a).popped (x ∷ []) in
      let there : gone one (own a) + 1 ≤ came one (own a) = alone.found.1 (whole_own ts a single tickets) one in
      record {
        turning = record {
          handing = serves.handing;
          ran = λ o lt some.
              elim (cases_eq o x) [
                | inl same ↦
                    subst (λ n. HasRunOp n b) (sym same)
                    (serves.ran
                    (let came_in : gone (is_one x) (own a) + (0 + is_one x x) ≤ came (is_one x) (own a) = alone.found.1 (whole_own ts a single tickets) (is_one x) in
                    let once : is_one x x ≡ 1 = same_is x in
                    let same_pushed : sum_by (is_one x) (own m).pushed ≡ came (is_one x) (own a) = ap (sum_by (is_one x)) finds.pushed in
                    omega arith))
                | inr other ↦
                    keeps.ran o
                    (subst (λ (r : Runner). Ran (hand_view r).trail o) (sym finds.runner)
                    (is.ran o lt
                    (let e : sum_by (is_one o) (own b).popped ≡ sum_by (is_one o) (own a).popped + is_one o x = ap (sum_by (is_one o)) popped ∙ sum_by_push (is_one o) (own a).popped x in
                    let f : is_one o x ≡ 0 = other_is o x (λ e. other (sym e)) in
                    omega arith)))
              ];
          few =
              let c = many_ones (own a).popped in
              let d = many_ones (own a).pushed in
              let e : length (own m).pushed ≡ length (own a).pushed = ap length finds.pushed in
              let f = keeps.more in
              omega arith;
        };
        took = (longer, omega arith);
      }

  -- nothing was there
  pub took_nothing : FindsAlone Nothing a m → Finds ts Nothing a m → TurnsAlone rules.plan Nothing a m
  took_nothing alone finds =
      let still : own m ≡ own a = alone.found.0 in
      let popped : (own m).popped ≡ (own a).popped = ap (λ (v : Log). v.popped) still in
      record {
        turning = record {
          handing = handing_as rules.plan a m is.handing finds.runner finds.pushed alone.slots alone.index;
          ran = λ o lt some. subst (λ (r : Runner). Ran (hand_view r).trail o) (sym finds.runner) (is.ran o lt (subst (λ l. 0 < sum_by (is_one o) l) popped some));
          few = let e : length (own m).popped ≡ length (own a).popped = ap length popped in let f : length (own m).pushed ≡ length (own a).pushed = ap length finds.pushed in let g = is.few in omega arith;
        };
        took = (ap length popped, λ h. ap (came h) still ∙ evens (own a) (whole_own ts a single tickets) alone.found.1 h ∙ ap (gone h) (sym still));
      }

-- ---- all turns

-- after so many turns, of which the last `row` found nothing
pub record IsTakingAlone (p : Plan) (turn row : ℕ) (m : Member) : Type 0 where
  pub turning : IsTurningAlone p m
  pub count : turn ≡ row + length (own m).popped
  pub even : 0 < row → IsEven m

pub taking_none : (p : Plan) (m : Member) → BeginsAlone p m → IsTakingAlone p 0 0 m
taking_none p m begins = record { turning = begins.turning; count = let e : length (own m).popped ≡ 0 = ap length begins.none in omega arith; even = λ some. absurd (omega arith) }

module _ (p : Plan) (a b : Member) (turn row next : ℕ) (is : IsTakingAlone p turn row a) where
  pub taking_more : (f : Found) → TurnsAlone p f a b → next ≡ row_then row f → IsTakingAlone p (turn + 1) next b
  taking_more (Item x) turns same = record {
    turning = turns.turning;
    count = let none = no_row in let e = is.count in let f = turns.took.0 in omega arith;
    even = λ some. absurd (omega arith);
  }
    where
      -- what had all gone is not there to take
      no_row : row ≡ 0
      no_row =
          elim (cases_lt 0 row) [
            | inr none ↦ omega arith
            | inl some ↦ (let all_gone : came one (own a) ≡ gone one (own a) = is.even some one in let there = turns.took.1 in absurd (omega arith))
          ]
  taking_more Nothing turns same = record {
    turning = turns.turning;
    count = let e = is.count in let f = turns.took.0 in omega arith;
    even = λ some. turns.took.1;
  }
  taking_more Retry turns same = absurd turns.took

-- 64 turns in a row found nothing
pub ends_drained : (p : Plan) (turn row : ℕ) (m : Member) → IsTakingAlone p turn row m → 64 ≤ row → EndsAlone p Drained m
ends_drained p turn row m is full = record { drained = refl; turning = is.turning; even = is.even (omega arith) }

-- and all turns are not made, as each other one took an item
pub never_spent : (p : Plan) (turn row : ℕ) (m : Member) → HasDeque p m → IsTakingAlone p turn row m → row < 64 → turn ≡ most_turns p → EndsAlone p Spent m
never_spent p turn row m deque is low all =
    let few : length (own m).pushed ≤ op_count p =
    few_items (op_count p) (own m).pushed deque.below (λ o lt. seldom p [] (hand_view m.runner).trail (own m).pushed o (is.turning.handing.each o lt)) in
    let taken = is.turning.few in
    let count = is.count in
    absurd (omega arith)

-- it noted why it ended
pub ends_noted : (p : Plan) (e : RunEnd) (m : Member) → EndsAlone p e m → EndsAlone p e (record m { end = e })
ends_noted p e m is =
    let old = is.turning.handing in
    record {
      drained = is.drained;
      turning = record { handing = record { lone = old.lone; slots = old.slots; index = old.index; each = old.each }; ran = is.turning.ran; few = is.turning.few };
      even = is.even;
    }
