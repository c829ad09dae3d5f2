-- The levels that operations were entered with as writers, and those that a plan has of them.
use Rattle.std.proofs.Common.{◌≡◌, ℕ, ◌+◌, ◌<◌, ◌≤◌, Bool, true, false, cond, eqb, List, [], ◌∷◌, ◌++◌, length, get_or, take, map, refl, sym, ap, ◌∙◌, arith}
use Rattle.std.specs.Prelude.{All}
use Rattle.std.proofs.lemmas.Bool.{eqb-true, eqb-false}
use Rattle.std.proofs.lemmas.List.{get_or-take, get_or_append_left}
use Rattle.morph_base.specs.declared.plan.PlanOp.{PlanOp}
use Rattle.morph_base.specs.declared.plan.PlanEvent.{PlanEvent}
use Rattle.morph_base.specs.Plans.{no_plan_op, no_event}
use Rattle.morph_base.specs.Graphs.{greatest, level_of}
use Rattle.txn_splitter.specs.declared.txns.Txns.{Txns}
use Rattle.txn_splitter.specs.Txns.{IsTxns, txn_count, txn_at, txn_of}
use Rattle.txn_splitter.proofs.TxnLemmas.{txn_end}
use Rattle.precedence_graph.specs.declared.writers.Writers.{Writers}
use Rattle.precedence_graph.specs.Writers.{entered_event_level}
use Rattle.precedence_graph.specs.Planned.{HasLevels, HasEventLevels, planned, event_level_in, event_sources_of, members_of, ArePlanned}
use Rattle.precedence_graph.proofs.WriterLemmas.{event_from_before}
use Rattle.precedence_graph.proofs.EventLemmas.{event_low, most_agree}

-- one operation more is entered
pub entered_next : (n m its : ℕ) (old new level : ℕ → ℕ) → m ≡ n → its ≡ level n → ((o : ℕ) → new o ≡ cond (eqb o m) its (old o)) → ((o : ℕ) → o < n → old o ≡ level o) → (o : ℕ) → o < n + 1 → new o ≡ level o
entered_next n m its old new level count its_is is before o lt = is o ∙ by_test (eqb o m) refl
  where
    by_test : (b : Bool) → eqb o m ≡ b → cond b its (old o) ≡ level o
    by_test true same = its_is ∙ ap level (sym (eqb-true o m same ∙ count))
    by_test false other = (let differs : o ≡ m → ⊥ = eqb-false o m other in before o (omega arith))

-- operations that are planned later change no level of those that were entered
pub levels_kept : (n : ℕ) (ops before : List PlanOp) (writers : Writers) → take n ops ≡ before → HasLevels before n writers → HasLevels ops n writers
levels_kept n ops before writers kept has o lt =
    has o lt ∙ ap (λ ps. (planned ps o).level) (sym kept) ∙ ap (λ q. q.level) (get_or-take n ops o no_plan_op lt)

pub event_levels_kept : (n : ℕ) (ops before : List PlanOp) (events : List PlanEvent) (writers : Writers) → take n ops ≡ before → length before ≡ n → HasEventLevels before events (length before) writers → HasEventLevels ops events n writers
event_levels_kept n ops before events writers kept many has o lt =
    has o (omega arith) ∙ ap (λ ps. event_level_in ps events o) (sym kept) ∙ ap (λ (q : PlanOp). (get_or events q.event no_event).level) (get_or-take n ops o no_plan_op lt)

-- the operations of event i are planned behind those of the events before it
module _ (x : Txns) (is : IsTxns x) (i : ℕ) (lt : i < txn_count x) (ops : List PlanOp) (done : ArePlanned x ((txn_at x i).first + (txn_at x i).count) ops) (events : List PlanEvent) (many : length events ≡ i) (writers : Writers) (has : HasEventLevels ops events (txn_at x i).first writers) where
  abbrev pub last : ℕ
  last = (txn_at x i).first + (txn_at x i).count

  -- nor does the event that is planned next
  pub event_levels_next : (e : PlanEvent) → HasEventLevels ops (events ++ e ∷ []) (txn_at x i).first writers
  event_levels_next e o less =
      let event_is = (done.each o (omega arith)).event_is in
      let earlier : txn_of x o < i = (event_from_before x is i lt o less).1 in
      has o less ∙ ap (λ f. f.level) (sym (get_or_append_left events (e ∷ []) no_event (planned ops o).event (omega arith)))

  -- the greatest of the levels that the events of its sources were entered with
  pub most_is : greatest (map (level_of (entered_event_level writers)) (event_sources_of (members_of x ops i))) ≡ greatest (map (level_of (event_level_in ops events)) (event_sources_of (members_of x ops i)))
  most_is = most_agree x is ops last done i lt (omega arith) (txn_end x is i lt) (entered_event_level writers) (event_level_in ops events) has

  pub most_low : All (λ e. e.level ≤ i) events → greatest (map (level_of (entered_event_level writers)) (event_sources_of (members_of x ops i))) ≤ i
  most_low low = omega (arith, most_is, event_low x is ops last done i events lt (omega arith) many low)
