-- Calls in turn are those of one hand, and settle nothing.
use Rattle.std.proofs.Common.{ℕ, ◌<◌, List, [], ◌∷◌, length, sym, ap, ◌∙◌, subst, inl, inr, arith}
use Rattle.std.specs.Prelude.{Contains, slice_index_or}
use Rattle.op_words.specs.declared.trail.View.{View}
use Rattle.op_words.specs.Trails.{IsCalmAt, IsReached}
use Rattle.op_words.proofs.Rows.{no_more}
use Rattle.op_words.proofs.Trailing.{along_none, reached_later}
use Rattle.op_eval.specs.declared.runner.Runner.{Runner}
use Rattle.op_eval.specs.Running.{hand_view}
use Rattle.op_eval.specs.Further.{IsFurther, HaveGoneOn}
use Rattle.op_eval.proofs.Elements.{contains_cases}
use Rattle.op_eval.proofs.Further.{same_further, goes_further, further_then}
use Rattle.op_eval.specs.Turns.{TakingCall, Took, Tried}
use Rattle.strata_explorer.specs.Calls.{MakesPassCall, MakesPassCalls}
use Rattle.strata_explorer.specs.Passes.{IsPassed}
use Rattle.op_eval.specs.Exploring.{RunRules}
use Rattle.abort_eager.proofs.Exploring.{further_reached}
use Rattle.abort_eager.proofs.Sweeping.{attempted}

call_further : (rules : RunRules) (c : TakingCall) (a b : Runner) → MakesPassCall rules c a b → IsFurther a b
call_further rules (Took c n) a b call = record {
  tag = ap (λ (v : View). v.tag) call.view;
  made = ap (λ (v : View). v.made) call.view;
  room = ap (λ (v : View). v.room) call.view;
  joined = ap (λ (v : View). v.joined) call.view;
  words = [];
  trail = ap (λ (v : View). v.trail) call.view ∙ no_more (hand_view a).trail;
  notes = ap (λ (v : View). v.notes) call.view ∙ no_more (hand_view a).notes;
  open_own = λ t inside. absurd (omega (arith, inside.1));
  calm = λ lone. along_none IsCalmAt (hand_view a).trail;
}
call_further rules (Tried o) a b call = let does = attempted rules o a b call in goes_further a b does.words does.goes does.open_own

pub calls_further : (rules : RunRules) (cs : List TakingCall) (a b : Runner) → MakesPassCalls rules cs a b → IsFurther a b
calls_further rules [] a b calls = same_further a b calls
calls_further rules (c ∷ cs) a b calls = further_then a calls.0 b (calls_further rules cs a calls.0 calls.1) (call_further rules c calls.0 b calls.2)

-- what is reached stays so
pub calls_keep : (rules : RunRules) (o : ℕ) (cs : List TakingCall) (a b : Runner) → MakesPassCalls rules cs a b → IsReached rules.plan o (hand_view a).trail → IsReached rules.plan o (hand_view b).trail
calls_keep rules o cs a b calls is = further_reached rules.plan o (calls_further rules cs a b calls) is

pub calls_reach : (rules : RunRules) (o : ℕ) (cs : List TakingCall) (a b : Runner) → MakesPassCalls rules cs a b → Contains cs (Tried o) → IsReached rules.plan o (hand_view b).trail
calls_reach rules o [] a b calls found = absurd (omega (arith, found.1))
calls_reach rules o (c ∷ cs) a b calls found =
    elim (contains_cases c cs (Tried o) found) [
      | inl same ↦ (let does = attempted rules o calls.0 b (subst (λ d. MakesPassCall rules d calls.0 b) (sym same) calls.2) in subst (IsReached rules.plan o) (sym does.goes.adds.trail) (reached_later (hand_view calls.0).trail does.reached))
      | inr later ↦ further_reached rules.plan o (call_further rules c calls.0 b calls.2) (calls_reach rules o cs a calls.0 calls.1 later)
    ]

pub passed_further : (rules : RunRules) (c : ℕ) (ops : List ℕ) (start rs qs : List Runner) → HaveGoneOn start rs → IsPassed rules c ops rs qs → HaveGoneOn start qs
passed_further rules c ops start rs qs old passed = record {
  len = passed.len ∙ old.len;
  each = λ k d lt.
      let there : k < length rs = subst (λ n. k < n) (sym old.len) lt in
      let worked = passed.each k d there in
      further_then (slice_index_or start k d) (slice_index_or rs k d) (slice_index_or qs k d) (old.each k d lt)
      (calls_further rules worked.calls (slice_index_or rs k d) (slice_index_or qs k d) worked.made);
}
