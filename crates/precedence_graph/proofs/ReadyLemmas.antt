-- What stands of an operation once all are planned: its places, and that it reads from earlier events.
use Rattle.std.proofs.Common.{◌≡◌, ℕ, ◌+◌, ◌-◌, ◌*◌, ◌<◌, ◌≤◌, List, length, get_or, take, drop, map, replicate, sym, ap, subst, ◌∙◌, arith}
use Rattle.std.specs.Prelude.{All}
use Rattle.std.proofs.lemmas.List.{length-append, length-map, length-replicate, length-take, get_or-map, get_or-take, get_or-drop, get_or_default}
use Rattle.morph_base.specs.declared.limits.TheConstants.{READS, EVENT_OPS, EVENTS}
use Rattle.morph_base.specs.declared.key.Key.{Key}
use Rattle.morph_base.specs.declared.operation.Op.{Op}
use Rattle.morph_base.specs.declared.plan.Origin.{Origin}
use Rattle.morph_base.specs.declared.plan.Origin.TheVariants.{Base, Op as Written}
use Rattle.morph_base.specs.declared.plan.PlanOp.{PlanOp}
use Rattle.morph_base.specs.Operations.{reads, no_key, IsShaped}
use Rattle.morph_base.specs.Sources.{IsSource}
use Rattle.morph_base.specs.Plans.{no_plan_op}
use Rattle.morph_base.specs.Known.{IsKnown}
use Rattle.morph_base.proofs.PlainLaws.{length-reads}
use Rattle.txn_splitter.specs.declared.txns.Txns.{Txns}
use Rattle.txn_splitter.specs.Txns.{IsTxns, txn_op_count, txn_of, txn_target}
use Rattle.txn_splitter.proofs.TxnLemmas.{txn_ops_few}
use Rattle.precedence_graph.specs.Planned.{IsAmong, padded, sources_of, planned, ArePlanned}
use Rattle.precedence_graph.proofs.PlannedLemmas.{take-padded, IsAmong-more}

-- padded sources of a shaped operation have a place each
pub length-padded : (op : Op) (xs : List Origin) → IsShaped op → length xs ≡ length (reads op) → length (padded xs) ≡ READS
length-padded op xs shaped many =
    let places : op.n_params < READS = shaped.places in
    let keys = length-reads op shaped in
    length-append xs (replicate (READS - length xs) (Base 0)) ∙ omega (arith, length-replicate (READS - length xs) (Base 0))

module _ (x : Txns) (is : IsTxns x) (ops : List PlanOp) (done : ArePlanned x (txn_op_count x) ops) where
  pub planned_places : (o : ℕ) → o < txn_op_count x → length (planned ops o).origins ≡ READS
  planned_places o lt =
      let q = done.each o lt in
      let shaped : IsShaped (planned ops o).op = subst IsShaped (sym q.op_is) (is.numbering.shaped o lt) in
      ap length q.origins_are ∙ length-padded (planned ops o).op (map q.source (reads (planned ops o).op)) shaped (length-map (reads (planned ops o).op) q.source)

-- the source is a base or an operation of an event before event i
abbrev pub IsOfEarlier : List PlanOp → ℕ → Origin → Type 0
IsOfEarlier ops i = IsKnown (λ s. (s < length ops) × ((planned ops s).event < i))

module _ (x : Txns) (ops : List PlanOp) (n : ℕ) (done : ArePlanned x n ops) where
  -- a source of event i among the planned operations is one of an earlier event
  source_earlier : (i : ℕ) (key : Key) (origin : Origin) → IsSource (txn_op_count x) (txn_target x) (txn_of x) i key origin → IsAmong n origin → IsOfEarlier ops i origin
  source_earlier i key (Base v) source among = tt
  source_earlier i key (Written s) source among =
      let many : length ops ≡ n = done.many in
      let event_is = (done.each s among).event_is in
      let earlier : txn_of x s < i = source.itself.earlier in
      (omega arith, omega arith)

  -- each operation reads from events before its own
  pub planned_earlier : (o : ℕ) → o < n → All (IsOfEarlier ops (txn_of x o)) (sources_of (planned ops o))
  planned_earlier o lt k d inside =
      let q = done.each o lt in
      let keys = reads (planned ops o).op in
      let used : sources_of (planned ops o) ≡ map q.source keys = ap (take (length keys)) q.origins_are ∙ take-padded q.source keys in
      let few : k < length keys = omega (arith, ap length used, length-map keys q.source) in
      let is : get_or (sources_of (planned ops o)) k d ≡ q.source (get_or keys k no_key) = ap (λ xs. get_or xs k d) used ∙ get_or-map q.source keys k no_key d few in
      source_earlier (txn_of x o) (get_or keys k no_key) (get_or (sources_of (planned ops o)) k d)
      (subst (IsSource (txn_op_count x) (txn_target x) (txn_of x) (txn_of x o) (get_or keys k no_key)) (sym is) (q.source_is (get_or keys k no_key)))
      (IsAmong-more o n (get_or (sources_of (planned ops o)) k d) (omega arith) (q.among k d inside))

-- a fact of the operations with these numbers is one of the part of the list
pub All-part : (P : PlanOp → Type 0) (ops : List PlanOp) (first count : ℕ) → first + count ≤ length ops → ((o : ℕ) → first ≤ o → o < first + count → P (planned ops o)) → All P (take count (drop first ops))
All-part P ops first count fits each k d lt =
    let inside : k < count = omega (arith, length-take count (drop first ops)) in
    let at : get_or (take count (drop first ops)) k d ≡ planned ops (first + k) = get_or-take count (drop first ops) k d inside ∙ get_or-drop first ops k d ∙ get_or_default ops (first + k) d no_plan_op (omega arith) in
    subst P (sym at) (each (first + k) (omega arith) (omega arith))

-- a fact of each operation is one of the whole list
pub all_planned : (P : PlanOp → Type 0) (n : ℕ) (ops : List PlanOp) → length ops ≡ n → ((o : ℕ) → o < n → P (planned ops o)) → All P ops
all_planned P n ops many each k d lt = subst P (get_or_default ops k no_plan_op d lt) (each k (omega arith))

module _ (x : Txns) (is : IsTxns x) (ops : List PlanOp) (done : ArePlanned x (txn_op_count x) ops) where
  pub levels_positive : All (λ q. 0 < q.level) ops
  levels_positive = all_planned (λ q. 0 < q.level) (txn_op_count x) ops done.many (λ o lt. omega (arith, (done.each o lt).level_is))

  pub ops_few : length ops ≤ EVENT_OPS * EVENTS
  ops_few = omega (arith, done.many, txn_ops_few x is)
