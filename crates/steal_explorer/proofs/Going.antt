-- Calls in turn, and what they and pushes make of a worker.
use Rattle.std.proofs.Common.{◌≡◌, ℕ, zero, suc, ◌+◌, ◌<◌, false, List, [], ◌∷◌, ◌++◌, length, get_or, refl, sym, ap, ◌∙◌, subst, arith, append_assoc}
use Rattle.std.specs.Prelude.{slice_index_or}
use Rattle.std.proofs.lemmas.List.Elements.{All-append, Contains-append_right}
use Rattle.crossbeam_deque.specs.Handles.{view, stealer_deque, worker_view, SameWorker}
use Rattle.morph_base.specs.Contents.{Contents}
use Rattle.op_words.specs.Hands.{up_to}
use Rattle.morph_base.specs.declared.strategy.Abort.{Abort}
use Rattle.op_words.specs.declared.answers.Outcome.{Outcome}
use Rattle.op_words.proofs.Rows.{no_more}
use Rattle.op_words.specs.declared.answers.Readied.{Readied}
use Rattle.op_eval.specs.declared.answers.Evaluation.{Evaluation}
use Rattle.op_eval.specs.declared.answers.Evaluation.TheVariants.{Evaluated, Blocked, Busy, Already}
use Rattle.op_eval.specs.declared.runner.Runner.{Runner}
use Rattle.op_eval.specs.Evaluations.{Tries}
use Rattle.op_eval.proofs.Elements.{contains_first, contains_later}
use Rattle.op_eval.proofs.Turns.{in_turn_append}
use Rattle.steal_explorer.specs.declared.deque_rule.Log.{Log}
use Rattle.steal_explorer.specs.declared.member.Member.{Member}
use Rattle.op_eval.specs.Exploring.{RunRules}
use Rattle.abort_eager.specs.Sweeps.{cascade_for}
use Rattle.steal_explorer.specs.Calls.{ServeCall, Asked, Tried, is_swept, NoneSwept, AsksWhetherReady, MakesServeCalls, MakesServeCall, WalkedUnit}
use Rattle.steal_explorer.specs.Handing.{log, one, parts_of, put}
use Rattle.steal_explorer.specs.Members.{Owner, Thief, Ticket, own, stolen_by, AreSeated, HasTickets}
use Rattle.steal_explorer.specs.Serving.{ServesOn, TouchesFor, AsksAll, AsksReaders, Visits, Serves, readers}

-- ---- calls

-- nothing was called, and one call more
pub lazy_none : (abort : Abort) → NoneSwept abort []
lazy_none abort lazy = λ k d lt. absurd (omega arith)

pub lazy_one : (abort : Abort) (c : ServeCall) → is_swept c ≡ false → NoneSwept abort (c ∷ [])
lazy_one abort c other lazy = λ k d lt. subst (λ e. is_swept e ≡ false) (first k d (omega arith)) other
  where
    first : (k : ℕ) (d : ServeCall) → k < 1 → c ≡ get_or (c ∷ []) k d
    first zero d lt = refl
    first (suc k) d lt = absurd (omega arith)

pub lazy_both : (abort : Abort) (ds cs : List ServeCall) → NoneSwept abort ds → NoneSwept abort cs → NoneSwept abort (ds ++ cs)
lazy_both abort ds cs second first lazy = All-append (λ c. is_swept c ≡ false) ds cs (second lazy) (first lazy)

-- ---- what a worker becomes

put_none : (v w : Log) → w ≡ v → w ≡ put v []
put_none v w same = same ∙ ap (λ l. log v.parts l v.popped v.stolen v.left) (no_more v.pushed)

module _ (rules : RunRules) where
  pub goes_none : (a : Member) → ServesOn rules a a
  goes_none a = record { number = refl; tickets = refl; stolen = refl; end = refl; deque = refl; calls = []; made = refl; lazy = lazy_none rules.abort; pushed = []; puts = put_none (own a) (own a) refl }

  -- calls of its runner
  pub goes_calls : (a : Member) (r : Runner) (cs : List ServeCall) → MakesServeCalls rules.plan rules.cap cs a.runner r → NoneSwept rules.abort cs → ServesOn rules a (record a { runner = r })
  goes_calls a r cs made lazy = record { number = refl; tickets = refl; stolen = refl; end = refl; deque = refl; calls = cs; made = made; lazy = lazy; pushed = []; puts = put_none (own a) (own a) refl }

  pub goes_pushed : (a : Member) (o : Owner) (h op : ℕ) → SameWorker a.owner o → worker_view o ≡ put (own a) (op ∷ []) → ServesOn rules a (record a { owner = o; handed = h })
  goes_pushed a o h op same puts = record { number = refl; tickets = refl; stolen = refl; end = refl; deque = same.0; calls = []; made = refl; lazy = lazy_none rules.abort; pushed = op ∷ []; puts = puts }

  pub goes_refused : (a : Member) (o : Owner) (r : Runner) (op : ℕ) → SameWorker a.owner o → worker_view o ≡ own a → WalkedUnit rules op a.runner r → ServesOn rules a (record a { runner = r; owner = o })
  goes_refused a o r op same still walked = record { number = refl; tickets = refl; stolen = refl; end = refl; deque = same.0; calls = walked.calls; made = walked.made; lazy = walked.lazy; pushed = []; puts = put_none (own a) (worker_view o) still }

  pub goes_then : (a m b : Member) → ServesOn rules a m → ServesOn rules m b → ServesOn rules a b
  goes_then a m b first second = record {
    number = second.number ∙ first.number;
    tickets = second.tickets ∙ first.tickets;
    stolen = second.stolen ∙ first.stolen;
    end = second.end ∙ first.end;
    deque = second.deque ∙ first.deque;
    calls = second.calls ++ first.calls;
    made = in_turn_append (MakesServeCall rules.plan rules.cap) second.calls first.calls a.runner m.runner b.runner first.made second.made;
    lazy = lazy_both rules.abort second.calls first.calls second.lazy first.lazy;
    pushed = first.pushed ++ second.pushed;
    puts =
        second.puts
        ∙ ap (λ v. put v second.pushed) first.puts
        ∙ ap (λ l. log (own a).parts l (own a).popped (own a).stolen (own a).left) (append_assoc (own a).pushed first.pushed second.pushed);
  }

  pub goes_tried : (o : ℕ) (a : Member) (r : Runner) (x : Evaluation) → Tries rules.plan rules.cap o a.runner r x → ServesOn rules a (record a { runner = r })
  goes_tried o a r x tries = goes_calls a r (Tried o ∷ []) (a.runner, refl, (x, tries)) (lazy_one rules.abort (Tried o) refl)

  -- what reads from an operation was asked, since that was evaluated; or it was not, and nothing was
  pub asked_where : (o attempt : ℕ) (x : Outcome) (answer : Evaluation) (a b : Member) → answer ≡ Evaluated attempt x → AsksAll rules (readers rules.plan o) a b → AsksReaders rules o answer a b
  asked_where o attempt x answer a b is asks = subst (λ e. AsksReaders rules o e a b) (sym is) asks

  pub none_asked : (o : ℕ) (answer : Evaluation) (a : Member) → ((attempt : ℕ) (x : Outcome) → answer ≡ Evaluated attempt x → ⊥) → AsksReaders rules o answer a a
  none_asked o (Evaluated attempt x) a other = absurd (other attempt x refl)
  none_asked o (Blocked source word) a other = refl
  none_asked o (Busy word) a other = refl
  none_asked o (Already word) a other = refl

  -- it tried an operation, ran the cascade behind that to its end, and went on
  module _ (o : ℕ) (a : Member) (r : Runner) (x : Evaluation) (tries : Tries rules.plan rules.cap o a.runner r x) (m b : Member) (touches : TouchesFor rules o (cascade_for rules.abort x) (record a { runner = r }) m) (swept : ServesOn rules (record a { runner = r }) m) (goes : ServesOn rules m b) (asks : AsksReaders rules o x m b) where
    pub visited : Visits rules o a b
    visited = record { evaluated = r; answer = x; tries = tries; swept = m; touches = touches; asks = asks; goes = goes }

    pub serves_first : Serves rules o a b
    unfolding goes_then goes_tried goes_calls
    serves_first = record {
      goes = goes_then a m b (goes_then a (record a { runner = r }) m (goes_tried o a r x tries) swept) goes;
      tried = Contains-append_right goes.calls (swept.calls ++ Tried o ∷ []) (Tried o) (Contains-append_right swept.calls (Tried o ∷ []) (Tried o) (contains_first (Tried o) []));
      ops = o ∷ [];
      visits = (a, refl, visited);
      first = contains_first o [];
    }

  pub serves_then : (o q : ℕ) (a m b : Member) → Serves rules o a m → ServesOn rules m b → Visits rules q m b → Serves rules o a b
  unfolding goes_then
  serves_then o q a m b first second visits = record {
    goes = goes_then a m b first.goes second;
    tried = Contains-append_right second.calls first.goes.calls (Tried o) first.tried;
    ops = q ∷ first.ops;
    visits = (m, first.visits, visits);
    first = contains_later q first.ops o first.first;
  }

  pub asked_one : (o : ℕ) (a : Member) (r : Runner) (x : Readied) → AsksWhetherReady rules.plan rules.cap o a.runner r x → ServesOn rules a (record a { runner = r })
  asked_one o a r x asks = goes_calls a r (Asked o ∷ []) (a.runner, refl, (x, asks)) (lazy_one rules.abort (Asked o) refl)

  -- its tickets and the parts of its deque stay
  pub tickets_kept : (ts : List Thief) (a b : Member) → HasTickets ts a → ServesOn rules a b → HasTickets ts b
  tickets_kept ts a b is goes = record {
    inside = subst (λ k. k < length ts) (sym goes.number) is.inside;
    few = is.few;
    deque = λ t. goes.deque ∙ is.deque t ∙ ap (λ k. stealer_deque (slice_index_or ts k t)) (sym goes.number);
    parts = let e : (own b).parts ≡ (own a).parts = ap parts_of goes.puts in let old = is.parts in omega arith;
    bare_stolen = ap (λ (v : Log). v.stolen) goes.puts ∙ is.bare_stolen;
    bare_left = ap (λ (v : Log). v.left) goes.puts ∙ is.bare_left;
    len = ap (λ (l : Contents Ticket). length l.items) goes.tickets ∙ is.len;
    under = moved (λ k l. AreSeated ts 0 k l.items) is.under;
    above = moved (λ k l. AreSeated ts (k + 1) (length ts) l.items) is.above;
    guest = λ x. moved (λ k l. view (slice_index_or l.items k x) ≡ log 0 [] [] [] []) (is.guest x);
    stolen = goes.stolen ∙ is.stolen ∙ ap (λ (l : Contents Ticket). up_to (stolen_by one l.items)) (sym goes.tickets);
  }
    where
      moved : (P : ℕ → Contents Ticket → Type 0) → P a.number a.tickets → P b.number b.tickets
      moved P is = subst (λ k. P k b.tickets) (sym goes.number) (subst (P a.number) (sym goes.tickets) is)
