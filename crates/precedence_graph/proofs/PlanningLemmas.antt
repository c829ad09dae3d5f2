-- An operation of an event, which is planned after those before it: its sources, and their levels.
use Rattle.std.proofs.Common.{◌≡◌, ℕ, ◌+◌, ◌<◌, ◌≤◌, List, [], ◌∷◌, ◌++◌, cond, length, get_or, take, drop, map, sym, ap, subst, ◌∙◌, arith}
use Rattle.std.specs.Prelude.{max, All, count_by}
use Rattle.std.proofs.lemmas.List.{map-append, append-nil, length-drop, get_or-drop, drop-append-le}
use Rattle.std.proofs.lemmas.Grind.{flat_map-append}
use Rattle.std.proofs.lemmas.List.Elements.{All-map}
use Rattle.std.proofs.lemmas.List.Sums.{sum_by_push}
use Rattle.morph_base.specs.declared.key.Key.{Key}
use Rattle.morph_base.specs.declared.operation.Op.{Op}
use Rattle.morph_base.specs.declared.plan.Origin.{Origin}
use Rattle.morph_base.specs.declared.plan.Origin.TheVariants.{Base}
use Rattle.morph_base.specs.declared.plan.PlanOp.{PlanOp}
use Rattle.morph_base.specs.Operations.{reads}
use Rattle.morph_base.specs.Numbering.{IsWithin}
use Rattle.morph_base.specs.Sources.{IsSource}
use Rattle.morph_base.specs.OpLists.{OpList}
use Rattle.morph_base.specs.Plans.{no_op, no_plan_op}
use Rattle.morph_base.specs.Graphs.{greatest, is_written, level_of}
use Rattle.morph_base.proofs.LevelLaws.{greatest-append}
use Rattle.txn_splitter.specs.declared.txns.Txns.{Txns}
use Rattle.txn_splitter.specs.Txns.{IsTxns, txn_ops, txn_count, txn_op_count, txn_at, txn_op_at, txn_of, txn_target}
use Rattle.txn_splitter.proofs.TxnLemmas.{txn_end}
use Rattle.precedence_graph.specs.declared.writers.Writers.{Writers}
use Rattle.precedence_graph.specs.Writers.{source_in, entered_level}
use Rattle.precedence_graph.specs.Planned.{IsAmong, HasWriters, HasLevels, padded, sources_of, op_level_in, event_sources_of, targets_in, parameters_in, ArePlanned}
use Rattle.precedence_graph.proofs.WriterLemmas.{among_first, source_at_event, base_zero}
use Rattle.precedence_graph.proofs.PlannedLemmas.{IsAmong-more, take-padded, levels_low, levels_agree, planned_more}

-- the next operation that comes is the one behind those that are planned
pub next_is : (x : Txns) (list : OpList) (o : ℕ) → list.coming ≡ drop (length list.items) (txn_ops x) → length list.items ≡ o → get_or list.coming 0 no_op ≡ txn_op_at x o
next_is x list o coming many =
    let here : length list.items + 0 ≡ o = omega arith in
    ap (λ ops. get_or ops 0 no_op) coming ∙ get_or-drop (length list.items) (txn_ops x) 0 no_op ∙ ap (txn_op_at x) here

-- there is one as long as the event has more
pub next_comes : (x : Txns) → IsTxns x → (i : ℕ) → i < txn_count x → (k : ℕ) → k < (txn_at x i).count → (list : OpList) → list.coming ≡ drop (length list.items) (txn_ops x)
    → length list.items ≡ (txn_at x i).first + k → 0 < length list.coming
next_comes x is i lt k less list coming many = omega (arith, ap length coming, length-drop (length list.items) (txn_ops x), txn_end x is i lt)

module _ (x : Txns) (is : IsTxns x) (i : ℕ) (lt : i < txn_count x) (writers : Writers) (has : HasWriters x (txn_at x i).first writers) (o : ℕ) (within : IsWithin (txn_at x i).first (txn_at x i).count o) (ops : List PlanOp) (done : ArePlanned x o ops) where
  abbrev pub find : Key → Origin
  find = source_in writers

  abbrev pub first : ℕ
  first = (txn_at x i).first

  event_is : txn_of x o ≡ i
  event_is = (is.numbering.owned i o lt within).1

  find_first : (keys : List Key) → All (IsAmong first) (map find keys)
  find_first keys = All-map (IsAmong first) find keys (λ k d _. among_first first (txn_target x) (get_or keys k d) (find (get_or keys k d)) (has.source (get_or keys k d)))

  find_source : (key : Key) → IsSource (txn_op_count x) (txn_target x) (txn_of x) i key (find key)
  find_source key = source_at_event x is i lt key (find key) (has.source key)

  find_among : (key : Key) → IsAmong o (find key)
  find_among key = IsAmong-more first o (find key) within.from (among_first first (txn_target x) key (find key) (has.source key))

  -- the levels that sources were entered with are those that they are planned with
  pub find_levels : HasLevels ops first writers → (keys : List Key) → greatest (map (level_of (entered_level writers)) (map find keys)) ≡ greatest (map (level_of (op_level_in ops)) (map find keys))
  find_levels same keys = ap greatest (levels_agree (entered_level writers) (op_level_in ops) (λ s. s < first) (map find keys) same (find_first keys))

  pub find_low : (op : Op) → greatest (map (level_of (op_level_in ops)) (map find (reads op))) ≤ o
  find_low op =
      let many : length ops ≡ o = done.many in
      levels_low o (op_level_in ops) (λ s. s < o) (map find (reads op)) (λ s less. done.low s no_plan_op (omega arith))
      (All-map (IsAmong o) find (reads op) (λ k d _. find_among (get_or (reads op) k d)))

  -- ---- with the operation itself
  module _ (q : PlanOp) (op : Op) (op_is : q.op ≡ op) (origins_are : q.origins ≡ padded (map find (reads op))) where
    pub planned_with : op ≡ txn_op_at x o → q.event ≡ i → q.level ≡ 1 + greatest (map (level_of (op_level_in ops)) (map find (reads op))) → ArePlanned x (o + 1) (ops ++ q ∷ [])
    planned_with known its level_is =
        let many : length ops ≡ o = done.many in
        planned_more x o ops q op find done op_is known (its ∙ sym event_is) (λ key. subst (λ e. IsSource (txn_op_count x) (txn_target x) (txn_of x) e key (find key)) (sym event_is) (find_source key)) (base_zero writers) find_among origins_are level_is
        (omega (arith, level_is, find_low op))

    used_is : sources_of q ≡ map find (reads op)
    used_is =
        ap (λ (p : Op). take (length (reads p)) q.origins) op_is ∙ ap (take (length (reads op))) origins_are ∙ take-padded find (reads op)

    -- its counts are those of its sources
    pub targets_with : targets_in (ops ++ q ∷ []) ≡ targets_in ops + cond (is_written (get_or q.origins 0 (Base 0))) 1 0
    targets_with = sum_by_push (λ (p : PlanOp). cond (is_written (get_or p.origins 0 (Base 0))) 1 0) ops q

    pub parameters_with : parameters_in (ops ++ q ∷ []) ≡ parameters_in ops + count_by is_written (map find (drop 1 (reads op)))
    parameters_with =
        sum_by_push (λ p. count_by is_written (drop 1 (sources_of p))) ops q ∙ ap (λ xs. parameters_in ops + count_by is_written (drop 1 xs)) used_is

    -- the greatest level among the sources of the event's operations so far
    pub most_with : (level : Origin → ℕ) → greatest (map level (event_sources_of (drop first (ops ++ q ∷ []))))
        ≡ max (greatest (map level (event_sources_of (drop first ops)))) (greatest (map level (map find (reads op))))
    most_with level =
        let many : length ops ≡ o = done.many in
        let from : first ≤ o = within.from in
        let before : List Origin = event_sources_of (drop first ops) in
        let found : List Origin = map find (reads op) in
        ap (λ ps. greatest (map level (event_sources_of ps))) (drop-append-le first ops (q ∷ []) (omega arith))
        ∙ ap (λ xs. greatest (map level xs)) (flat_map-append sources_of (drop first ops) (q ∷ []) ∙ ap (λ xs. before ++ xs) (append-nil (sources_of q) ∙ used_is))
        ∙ ap greatest (map-append level before found)
        ∙ greatest-append (map level before) (map level found)
