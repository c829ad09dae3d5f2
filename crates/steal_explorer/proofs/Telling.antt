-- What turns tell: the calls that the runner made, what was taken, that each item was reached and counted, and what was pushed.
use Rattle.std.proofs.Common.{◌≡◌, ◌⊎◌, ℕ, ◌+◌, ◌^◌, ◌<◌, ◌≤◌, Bool, true, false, cond, List, [], ◌∷◌, ◌++◌, sym, ap, subst, inl, inr, arith}
use Rattle.std.specs.Prelude.{Contains, sum_by, count_by, nat_lt}
use Rattle.std.proofs.lemmas.Bool.{cases_lt}
use Rattle.std.proofs.lemmas.List.Elements.{Contains-append_left, Contains-append_right}
use Rattle.std.proofs.lemmas.List.Sums.{sum_by-cons, sum_by-append}
use Rattle.morph_base.specs.declared.plan.Plan.{Plan}
use Rattle.morph_base.specs.Contents.{Contents}
use Rattle.morph_base.specs.Plans.{op_count}
use Rattle.op_words.specs.Trails.{IsReached}
use Rattle.op_words.proofs.Trailing.{reached_more, reached_later}
use Rattle.op_eval.specs.declared.answers.Evaluation.{Evaluation}
use Rattle.op_eval.specs.declared.runner.Runner.{Runner}
use Rattle.op_eval.specs.Evaluations.{Tries}
use Rattle.op_eval.specs.Exploring.{total, RunRules}
use Rattle.op_eval.specs.Running.{hand_view}
use Rattle.op_eval.proofs.Totals.{tries_total, full_stays}
use Rattle.op_eval.proofs.Elements.{contains_cases}
use Rattle.op_eval.proofs.Turns.{in_turn_append}
use Rattle.abort_eager.proofs.Exploring.{further_reached}
use Rattle.steal_explorer.proofs.Further.{call_adds, calls_further}
use Rattle.steal_explorer.specs.declared.find.Found.{Found}
use Rattle.steal_explorer.specs.declared.find.Found.TheVariants.{Item, Nothing, Retry}
use Rattle.steal_explorer.specs.declared.deque_rule.Log.{Log}
use Rattle.steal_explorer.specs.declared.member.Member.{Member}
use Rattle.steal_explorer.specs.Calls.{ServeCall, Asked, Tried, Swept, is_tried, MakesServeCalls, MakesServeCall}
use Rattle.steal_explorer.specs.Draining.{in_plan}
use Rattle.steal_explorer.specs.Finding.{weight_of}
use Rattle.steal_explorer.specs.Members.{Thief, Ticket, own, tickets_of, stolen_by, taken_by}
use Rattle.steal_explorer.specs.Serving.{ServesOn}
use Rattle.steal_explorer.specs.Turns.{After, Turns}

-- ---- calls

pub calls_keep : (p : Plan) (cap o : ℕ) (cs : List ServeCall) (a b : Runner) → MakesServeCalls p cap cs a b → IsReached p o (hand_view a).trail → IsReached p o (hand_view b).trail
calls_keep p cap o cs a b calls is = further_reached p o (calls_further p cap cs a b calls) is

-- what was tried was reached
pub calls_reach : (p : Plan) (cap o : ℕ) (cs : List ServeCall) (a b : Runner) → MakesServeCalls p cap cs a b → Contains cs (Tried o) → IsReached p o (hand_view b).trail
calls_reach p cap o [] a b calls found = absurd (omega (arith, found.1))
calls_reach p cap o (c ∷ cs) a b calls found =
    elim (contains_cases c cs (Tried o) found) [
      | inl same ↦ tried_reached (subst (λ d. MakesServeCall p cap d calls.0 b) (sym same) calls.2)
      | inr later ↦ (let new = call_adds p cap c calls.0 b calls.2 in subst (IsReached p o) (sym new.goes.adds.trail) (reached_more new.words (calls_reach p cap o cs a calls.0 calls.1 later)))
    ]
  where
    tried_reached : {m : Runner} → (r : Evaluation) × Tries p cap o m b r → IsReached p o (hand_view b).trail
    tried_reached {m} tried = let does = tried.1.does in subst (IsReached p o) (sym does.goes.adds.trail) (reached_later (hand_view m).trail does.reached)

-- ---- serving takes nothing

goes_taken : (rules : RunRules) (a b : Member) → ServesOn rules a b → (h : ℕ → ℕ) → taken_by h b ≡ taken_by h a
goes_taken rules a b goes h =
    let e : sum_by h (own b).popped ≡ sum_by h (own a).popped = ap (λ (v : Log). sum_by h v.popped) goes.puts in
    let f : stolen_by h (tickets_of b) ≡ stolen_by h (tickets_of a) = ap (λ (l : Contents Ticket). stolen_by h l.items) goes.tickets in
    omega arith

pub after_taken : (rules : RunRules) (f : Found) (a b : Member) → After rules f a b → (h : ℕ → ℕ) → taken_by h b ≡ taken_by h a
after_taken rules (Item x) a b after h =
    elim (cases_lt x (op_count rules.plan)) [
      | inl lt ↦ goes_taken rules a b (after.0 lt).goes h
      | inr past ↦ ap (taken_by h) (after.1 past)
    ]
after_taken rules Nothing a b after h = ap (taken_by h) after
after_taken rules Retry a b after h = ap (taken_by h) after

-- all that was found was taken
pub turns_taken : (rules : RunRules) (ts : List Thief) (a : Member) (fs : List Found) (b : Member) → Turns rules ts a fs b → (h : ℕ → ℕ) → taken_by h b ≡ taken_by h a + sum_by (weight_of h) fs
turns_taken rules ts a [] b made h = let e : taken_by h b ≡ taken_by h a = ap (taken_by h) made in omega arith
turns_taken rules ts a (f ∷ fs) b made h =
    let rest = turns_taken rules ts a fs made.0 made.1 h in
    let found = made.2.finds.takes h in
    let after : taken_by h b ≡ taken_by h made.2.found = after_taken rules f made.2.found b made.2.after h in
    let first : sum_by (weight_of h) (f ∷ fs) ≡ weight_of h f + sum_by (weight_of h) fs = sum_by-cons (weight_of h) f fs in
    omega arith

-- ---- the calls of turns

-- calls of the runner in which each item that is one of the plan's operations was tried, each at a turn of its own
pub record TurnsTell (p : Plan) (cap : ℕ) (fs : List Found) (a b : Member) : Type 0 where
  pub calls : List ServeCall
  pub made : MakesServeCalls p cap calls a.runner b.runner
  pub tried : (x : ℕ) → Contains fs (Item x) → x < op_count p → Contains calls (Tried x)
  pub many : sum_by (weight_of (in_plan p)) fs ≤ count_by is_tried calls

pub count_both : (xs ys : List ServeCall) → count_by is_tried (xs ++ ys) ≡ count_by is_tried xs + count_by is_tried ys
count_both xs ys = sum_by-append (λ x. cond (is_tried x) 1 0) xs ys

pub one_tried : (cs : List ServeCall) (o : ℕ) → Contains cs (Tried o) → 1 ≤ count_by is_tried cs
one_tried [] o found = absurd (omega (arith, found.1))
one_tried (Tried q ∷ cs) o found = let e : count_by is_tried (Tried q ∷ cs) ≡ 1 + count_by is_tried cs = sum_by-cons (λ x. cond (is_tried x) 1 0) (Tried q) cs in omega arith
one_tried (Asked q ∷ cs) o found =
    elim (contains_cases (Asked q) cs (Tried o) found) [
      | inl same ↦ absurd (apart same)
      | inr later ↦ (let e : count_by is_tried (Asked q ∷ cs) ≡ 0 + count_by is_tried cs = sum_by-cons (λ x. cond (is_tried x) 1 0) (Asked q) cs in let rest = one_tried cs o later in omega arith)
    ]
  where
    apart : Tried o ≡ Asked q → ⊥
    apart e = cc
one_tried (Swept g ∷ cs) o found =
    elim (contains_cases (Swept g) cs (Tried o) found) [
      | inl same ↦ absurd (apart same)
      | inr later ↦ (let e : count_by is_tried (Swept g ∷ cs) ≡ 0 + count_by is_tried cs = sum_by-cons (λ x. cond (is_tried x) 1 0) (Swept g) cs in let rest = one_tried cs o later in omega arith)
    ]
  where
    apart : Tried o ≡ Swept g → ⊥
    apart e = cc

module _ (p : Plan) where
  pub few : (x : ℕ) → in_plan p x ≤ 1
  few x = of (nat_lt x (op_count p))
    where
      of : (t : Bool) → cond t 1 0 ≤ 1
      of true = omega arith
      of false = omega arith

  pub no_op : (x : ℕ) → op_count p ≤ x → in_plan p x ≡ 0
  no_op x past = ap (λ t. cond t 1 0) (not_lt x (op_count p) past)
    where
      not_lt : (x y : ℕ) → y ≤ x → nat_lt x y ≡ false
      not_lt x y le = grind arith

  pub is_op : (x : ℕ) → x < op_count p → in_plan p x ≡ 1
  is_op x less = ap (λ t. cond t 1 0) (is_lt x (op_count p) less)
    where
      is_lt : (x y : ℕ) → x < y → nat_lt x y ≡ true
      is_lt x y lt = grind arith

module _ (rules : RunRules) where
  pub record AfterTells (f : Found) (a b : Member) : Type 0 where
    pub calls : List ServeCall
    pub made : MakesServeCalls rules.plan rules.cap calls a.runner b.runner
    pub tried : (x : ℕ) → f ≡ Item x → x < op_count rules.plan → Contains calls (Tried x)
    pub many : weight_of (in_plan rules.plan) f ≤ count_by is_tried calls

  pub after_tells : (f : Found) (a b : Member) → After rules f a b → AfterTells f a b
  after_tells (Item y) a b after =
      elim (cases_lt y (op_count rules.plan)) [
        | inl lt ↦
            let serves = after.0 lt in
            record {
              calls = serves.goes.calls;
              made = serves.goes.made;
              tried = λ x same _. subst (λ k. Contains serves.goes.calls (Tried k)) (item_is y x same) serves.tried;
              many = let some : 1 ≤ count_by is_tried serves.goes.calls = one_tried serves.goes.calls y serves.tried in let most = few rules.plan y in omega arith;
            }
        | inr past ↦
            record {
              calls = [];
              made = ap (λ (m : Member). m.runner) (after.1 past);
              tried = λ x same lt. absurd (let e = item_is y x same in omega arith);
              many = let none : in_plan rules.plan y ≡ 0 = no_op rules.plan y past in omega arith;
            }
      ]
    where
      item_is : (y x : ℕ) → Item y ≡ Item x → y ≡ x
      item_is y x e = cc
  after_tells Nothing a b after = record {
    calls = [];
    made = ap (λ (m : Member). m.runner) after;
    tried = λ x same lt. absurd (apart x same);
    many = omega arith;
  }
    where
      apart : (x : ℕ) → Nothing ≡ Item x → ⊥
      apart x e = cc
  after_tells Retry a b after = record {
    calls = [];
    made = ap (λ (m : Member). m.runner) after;
    tried = λ x same lt. absurd (apart x same);
    many = omega arith;
  }
    where
      apart : (x : ℕ) → Retry ≡ Item x → ⊥
      apart x e = cc

  pub turns_tell : (ts : List Thief) (a : Member) (fs : List Found) (b : Member) → Turns rules ts a fs b → TurnsTell rules.plan rules.cap fs a b
  turns_tell ts a [] b made = record {
    calls = [];
    made = ap (λ (m : Member). m.runner) made;
    tried = λ x found. absurd (omega (arith, found.1));
    many = omega arith;
  }
  turns_tell ts a (f ∷ fs) b made =
      let rest = turns_tell ts a fs made.0 made.1 in
      let last = after_tells f made.2.found b made.2.after in
      record {
        calls = last.calls ++ rest.calls;
        made = in_turn_append (MakesServeCall rules.plan rules.cap) last.calls rest.calls a.runner made.0.runner b.runner rest.made (subst (λ r. MakesServeCalls rules.plan rules.cap last.calls r b.runner) made.2.finds.runner last.made);
        tried = λ x found lt.
            elim (contains_cases f fs (Item x) found) [
              | inl same ↦ Contains-append_left last.calls rest.calls (Tried x) (last.tried x (sym same) lt)
              | inr later ↦ Contains-append_right last.calls rest.calls (Tried x) (rest.tried x later lt)
            ];
        many =
            let both = count_both last.calls rest.calls in
            let first : sum_by (weight_of (in_plan rules.plan)) (f ∷ fs) ≡ weight_of (in_plan rules.plan) f + sum_by (weight_of (in_plan rules.plan)) fs = sum_by-cons (weight_of (in_plan rules.plan)) f fs in
            let a = last.many in
            let b = rest.many in
            omega arith;
      }

-- ---- answers

module _ (p : Plan) (cap : ℕ) where
  -- the answers are at least as many as the operations that were tried, or one of them is at the greatest number
  pub calls_total : (cs : List ServeCall) (a b : Runner) → MakesServeCalls p cap cs a b → (total a.answers + count_by is_tried cs ≤ total b.answers) ⊎ (2 ^ 64 ≤ total b.answers + 1)
  calls_total [] a b calls = inl (let e : total b.answers ≡ total a.answers = ap (λ (r : Runner). total r.answers) calls in omega arith)
  calls_total (Asked o ∷ cs) a b calls =
      let e : total b.answers ≡ total calls.0.answers = ap total calls.2.1.answers in
      let f : count_by is_tried (Asked o ∷ cs) ≡ 0 + count_by is_tried cs = sum_by-cons (λ x. cond (is_tried x) 1 0) (Asked o) cs in
      elim (calls_total cs a calls.0 calls.1) [ inl more ↦ inl (omega arith) | inr full ↦ inr (omega arith) ]
  calls_total (Swept g ∷ cs) a b calls =
      let e : total b.answers ≡ total calls.0.answers = ap total calls.2.1.answers in
      let f : count_by is_tried (Swept g ∷ cs) ≡ 0 + count_by is_tried cs = sum_by-cons (λ x. cond (is_tried x) 1 0) (Swept g) cs in
      elim (calls_total cs a calls.0 calls.1) [ inl more ↦ inl (omega arith) | inr full ↦ inr (omega arith) ]
  calls_total (Tried o ∷ cs) a b calls =
      let f : count_by is_tried (Tried o ∷ cs) ≡ 1 + count_by is_tried cs = sum_by-cons (λ x. cond (is_tried x) 1 0) (Tried o) cs in
      elim (calls_total cs a calls.0 calls.1) [
        | inr full ↦ inr (full_stays (total calls.0.answers) (total b.answers) (tries_total p cap o calls.0 b calls.2.0 calls.2.1) full)
        | inl more ↦ elim (tries_total p cap o calls.0 b calls.2.0 calls.2.1) [ inl one ↦ inl (omega arith) | inr full ↦ inr full ]
      ]
