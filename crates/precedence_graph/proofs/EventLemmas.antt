-- The first events are planned: one event more.
use Rattle.std.proofs.Common.{◌≡◌, ℕ, ◌+◌, ◌-◌, ◌<◌, ◌≤◌, List, [], ◌∷◌, ◌++◌, length, get_or, take, drop, map, sym, ap, subst, ◌∙◌, inl, inr, arith}
use Rattle.std.specs.Prelude.{All}
use Rattle.std.specs.List.{flat_map}
use Rattle.std.proofs.lemmas.Bool.{cases_lt}
use Rattle.std.proofs.lemmas.List.{take_more, take-append-le, drop-append-le, length-drop, length-map, length-take, map_push, get_or_append_left, get_or_push, get_or-map, get_or_default, take_all}
use Rattle.std.proofs.lemmas.List.Elements.{All-nil, All-head, All-tail, All-append, All-push, All-weaker}
use Rattle.morph_base.specs.declared.limits.TheConstants.{EVENT_OPS, EVENTS}
use Rattle.morph_base.specs.declared.plan.PlanOp.{PlanOp}
use Rattle.morph_base.specs.declared.plan.PlanEvent.{PlanEvent}
use Rattle.morph_base.specs.Numbering.{IsWithin}
use Rattle.morph_base.specs.Plans.{no_plan_op, no_event}
use Rattle.morph_base.specs.Graphs.{greatest, level_of}
use Rattle.txn_splitter.specs.declared.txn_events.TxnEvent.{TxnEvent}
use Rattle.txn_splitter.specs.declared.txns.Txns.{Txns}
use Rattle.txn_splitter.specs.Txns.{IsTxns, no_txn, txn_count, txn_op_count, txn_at, txn_of}
use Rattle.precedence_graph.specs.Planned.{sources_of, planned, event_level_in, event_sources_of, members_of, txn_event, ArePlanned, AreEventsPlanned}
use Rattle.precedence_graph.proofs.PlannedLemmas.{levels_low, levels_agree}
use Rattle.precedence_graph.proofs.ReadyLemmas.{IsOfEarlier, planned_earlier, All-part}
use Rattle.precedence_graph.proofs.WriterLemmas.{before_from_event}

All-flat_map : {X Y : Type 0} (P : Y → Type 0) (h : X → List Y) (xs : List X) → All (λ x. All P (h x)) xs → All P (flat_map h xs)
All-flat_map P h [] all = All-nil P
All-flat_map P h (x ∷ xs) all =
    All-append P (h x) (flat_map h xs) (All-head (λ y. All P (h y)) x xs all) (All-flat_map P h xs (All-tail (λ y. All P (h y)) x xs all))

-- the first m events end by operation n
abbrev pub EndBy : Txns → ℕ → ℕ → Type 0
EndBy x m n = (i : ℕ) → i < m → (txn_at x i).first + (txn_at x i).count ≤ n

module _ (x : Txns) (is : IsTxns x) where
  -- the events before event i end by its first operation
  pub end_by_first : (i : ℕ) → i < txn_count x → EndBy x i (txn_at x i).first
  end_by_first i lt j less =
      let many : 0 < (txn_at x j).count = (is.numbering.counts j (omega arith)).0 in
      let last : ℕ = (txn_at x j).first + (txn_at x j).count - 1 in
      let within : IsWithin (txn_at x j).first (txn_at x j).count last = record { from = omega arith; below = omega arith } in
      let owned = is.numbering.owned j last (omega arith) within in
      let its : txn_of x last ≡ j = owned.1 in
      let before : last < (txn_at x i).first = before_from_event x is i lt last owned.0 (omega arith) in
      omega arith

  -- and with event i by its own end
  pub end_by_next : (i : ℕ) → i < txn_count x → EndBy x (i + 1) ((txn_at x i).first + (txn_at x i).count)
  end_by_next i lt j less =
      elim (cases_lt j i) [
        | inl before ↦ (let end = end_by_first i lt j before in omega arith)
        | inr more ↦ (let same : i ≡ j = omega arith in
            subst (λ k. (txn_at x k).first + (txn_at x k).count ≤ (txn_at x i).first + (txn_at x i).count) same (omega arith))
      ]

module _ (x : Txns) (is : IsTxns x) (ops : List PlanOp) (n : ℕ) (done : ArePlanned x n ops) where
  -- the operations of event i read from events before it
  pub event_earlier : (i : ℕ) → i < txn_count x → (txn_at x i).first + (txn_at x i).count ≤ n → All (IsOfEarlier ops i) (event_sources_of (members_of x ops i))
  event_earlier i lt end =
      let many : length ops ≡ n = done.many in
      All-flat_map (IsOfEarlier ops i) sources_of (members_of x ops i)
      (All-part (λ q. All (IsOfEarlier ops i) (sources_of q)) ops _ _ (omega arith)
      (λ o from below. let within : IsWithin (txn_at x i).first (txn_at x i).count o = record { from = from; below = below } in
      let owned = is.numbering.owned i o lt within in
      subst (λ e. All (IsOfEarlier ops e) (sources_of (planned ops o))) owned.1 (planned_earlier x ops n done o (omega arith))))

  pub event_low : (i : ℕ) (events : List PlanEvent) → i < txn_count x → (txn_at x i).first + (txn_at x i).count ≤ n → length events ≡ i → All (λ e. e.level ≤ i) events → greatest (map (level_of (event_level_in ops events)) (event_sources_of (members_of x ops i))) ≤ i
  event_low i events lt end many low =
      levels_low i (event_level_in ops events) (λ s. (s < length ops) × ((planned ops s).event < i)) (event_sources_of (members_of x ops i)) (λ s h. let earlier : (planned ops s).event < i = h.1 in low (planned ops s).event no_event (omega arith)) (event_earlier i lt end)

  -- where levels agree before its first operation, their greatest among its sources is the same
  pub most_agree : (i : ℕ) → i < txn_count x → (txn_at x i).first + (txn_at x i).count ≤ n → n ≤ txn_op_count x → (f g : ℕ → ℕ) → ((s : ℕ) → s < (txn_at x i).first → f s ≡ g s)
      → greatest (map (level_of f) (event_sources_of (members_of x ops i))) ≡ greatest (map (level_of g) (event_sources_of (members_of x ops i)))
  most_agree i lt end few f g same =
      let many : length ops ≡ n = done.many in
      ap greatest (levels_agree f g (λ s. (s < length ops) × ((planned ops s).event < i)) (event_sources_of (members_of x ops i))
      (λ s h. let inside : s < length ops = h.0 in
      let earlier : (planned ops s).event < i = h.1 in
      let event_is = (done.each s (omega arith)).event_is in
      same s (before_from_event x is i lt s (omega arith) (omega arith))) (event_earlier i lt end))

  levels_stay : (i m : ℕ) (events more : List PlanEvent) → i ≤ m → i < txn_count x → (txn_at x i).first + (txn_at x i).count ≤ n → length events ≡ m → map (level_of (event_level_in ops (events ++ more))) (event_sources_of (members_of x ops i)) ≡ map (level_of (event_level_in ops events)) (event_sources_of (members_of x ops i))
  levels_stay i m events more le lt end many =
      levels_agree (event_level_in ops (events ++ more)) (event_level_in ops events) (λ s. (s < length ops) × ((planned ops s).event < i)) (event_sources_of (members_of x ops i))
      (λ s h. let earlier : (planned ops s).event < i = h.1 in ap (λ e. e.level) (get_or_append_left events more no_event (planned ops s).event (omega arith))) (event_earlier i lt end)

  -- operations that are planned later change nothing
  levels_grow : (more : List PlanOp) (i : ℕ) (events : List PlanEvent) → i < txn_count x → (txn_at x i).first + (txn_at x i).count ≤ n
      → map (level_of (event_level_in (ops ++ more) events)) (event_sources_of (members_of x (ops ++ more) i)) ≡ map (level_of (event_level_in ops events)) (event_sources_of (members_of x ops i))
  levels_grow more i events lt end =
      let many : length ops ≡ n = done.many in
      let first : ℕ = (txn_at x i).first in
      let count : ℕ = (txn_at x i).count in
      let fits : count ≤ length (drop first ops) = omega (arith, length-drop first ops) in
      let same : members_of x (ops ++ more) i ≡ members_of x ops i = ap (take count) (drop-append-le first ops more (omega arith)) ∙ take-append-le count (drop first ops) more fits in
      ap (λ members. map (level_of (event_level_in (ops ++ more) events)) (event_sources_of members)) same
      ∙ levels_agree (event_level_in (ops ++ more) events) (event_level_in ops events) (λ s. (s < length ops) × ((planned ops s).event < i)) (event_sources_of (members_of x ops i))
      (λ s h. let inside : s < length ops = h.0 in ap (λ (q : PlanOp). (get_or events q.event no_event).level) (get_or_append_left ops more no_plan_op s inside)) (event_earlier i lt end)

  pub events_grow : (more : List PlanOp) (m : ℕ) (events : List PlanEvent) → m ≤ txn_count x → EndBy x m n → AreEventsPlanned x ops m events → AreEventsPlanned x (ops ++ more) m events
  events_grow more m events le end so_far =
      record {
        events_are = so_far.events_are;
        level_is = λ i below. so_far.level_is i below ∙ ap (λ ls. 1 + greatest ls) (sym (levels_grow more i events (omega arith) (end i below)));
        low = so_far.low;
      }

  pub events_many : (m : ℕ) (events : List PlanEvent) → m ≤ txn_count x → AreEventsPlanned x ops m events → length events ≡ m
  events_many m events le so_far =
      omega (arith, length-map events txn_event, ap length so_far.events_are, length-take m x.events)

  pub events_more : (m : ℕ) (events : List PlanEvent) (e : PlanEvent) → m < txn_count x → EndBy x (m + 1) n → AreEventsPlanned x ops m events → txn_event e ≡ txn_at x m → e.level ≡ 1 + greatest (map (level_of (event_level_in ops events)) (event_sources_of (members_of x ops m))) → e.level ≤ m + 1 → AreEventsPlanned x ops (m + 1) (events ++ e ∷ [])
  events_more m events e lt end so_far event_is level_is low =
      let many : length events ≡ m = events_many m events (omega arith) so_far in
      record {
        events_are = map_push txn_event events e ∙ ap (λ xs. xs ++ txn_event e ∷ []) so_far.events_are ∙ ap (λ t. take m x.events ++ t ∷ []) event_is ∙ sym (take_more x.events m no_txn lt);
        level_is = λ i below. elim (cases_lt i m) [
          | inl less ↦ ap (λ q. q.level) (get_or_append_left events (e ∷ []) no_event i (omega arith)) ∙ so_far.level_is i less ∙ ap (λ ls. 1 + greatest ls) (sym (levels_stay i m events (e ∷ []) (omega arith) (omega arith) (end i below) many))
          | inr more ↦ let last : m ≡ i = omega arith in
              subst (λ k. (get_or (events ++ e ∷ []) k no_event).level ≡ 1 + greatest (map (level_of (event_level_in ops (events ++ e ∷ []))) (event_sources_of (members_of x ops k)))) last
              (ap (λ q. q.level) (get_or_push events e no_event m many) ∙ level_is ∙ ap (λ ls. 1 + greatest ls) (sym (levels_stay m m events (e ∷ []) (omega arith) lt (end m (omega arith)) many)))
        ];
        low = All-push (λ q. q.level ≤ m + 1) events e (All-weaker (λ q. q.level ≤ m) (λ q. q.level ≤ m + 1) (λ q h. omega arith) events so_far.low) low;
      }

-- ---- all events

module _ (x : Txns) (is : IsTxns x) (ops : List PlanOp) (events : List PlanEvent) (done : AreEventsPlanned x ops (txn_count x) events) where
  all_events_many : length events ≡ txn_count x
  all_events_many = omega (arith, length-map events txn_event, ap length done.events_are, length-take (txn_count x) x.events)

  pub event_levels_positive : All (λ e. 0 < e.level) events
  event_levels_positive k d lt =
      let positive : 0 < (get_or events k no_event).level = omega (arith, done.level_is k (omega (arith, all_events_many))) in
      subst (λ e. 0 < e.level) (get_or_default events k no_event d lt) positive

  pub event_counts : All (λ e. (0 < e.count) × (e.count ≤ EVENT_OPS)) events
  event_counts k d lt =
      let inside : k < txn_count x = omega (arith, all_events_many) in
      let same : txn_at x k ≡ txn_event (get_or events k d) = ap (λ es. get_or es k no_txn) (sym (done.events_are ∙ take_all (txn_count x) x.events (omega arith))) ∙ get_or-map txn_event events k d no_txn lt in
      subst (λ (e : TxnEvent). (0 < e.count) × (e.count ≤ EVENT_OPS)) same (is.numbering.counts k inside)

  pub events_few : length events ≤ EVENTS
  events_few = omega (arith, all_events_many, is.numbering.few)
