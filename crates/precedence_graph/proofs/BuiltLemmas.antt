-- A plan whose operations and events are all planned: its columns, its numbering and its sources.
use Rattle.std.proofs.Common.{◌≡◌, ℕ, ◌-◌, ◌<◌, ◌≤◌, List, length, get_or, take, drop, map, replicate, refl, sym, ap, subst, ◌∙◌, inl, inr, arith}
use Rattle.std.proofs.Math.Path.{fun_ext}
use Rattle.std.proofs.lemmas.Bool.{cases_lt}
use Rattle.std.proofs.lemmas.Simd.{map-map}
use Rattle.std.proofs.lemmas.List.{length-map, take_all, take-map, drop-map, get_or-map, get_or_default, get_or_past, get_or_append_left, get_or-append_right, get_or-replicate, length-replicate, same_lists}
use Rattle.morph_base.specs.declared.limits.TheConstants.{READS}
use Rattle.morph_base.specs.declared.key.Key.{Key}
use Rattle.morph_base.specs.declared.operation.Op.{Op}
use Rattle.morph_base.specs.declared.plan.Origin.{Origin}
use Rattle.morph_base.specs.declared.plan.Origin.TheVariants.{Base}
use Rattle.morph_base.specs.declared.plan.PlanEvent.{PlanEvent}
use Rattle.morph_base.specs.declared.plan.Plan.{Plan}
use Rattle.morph_base.specs.Operations.{no_key}
use Rattle.morph_base.specs.Transactions.{Transaction}
use Rattle.morph_base.specs.Numbering.{numbers, IsNumbering}
use Rattle.morph_base.specs.Sources.{IsSource}
use Rattle.morph_base.specs.Plans.{no_op, no_plan_op, no_event, event_count, op_count, event_at, op_at, event_of, numbers_of, target, keys_of, key_at, origin_at, transaction_in, transactions, IsSourceIn, high_of}
use Rattle.txn_splitter.specs.declared.txns.Txns.{Txns}
use Rattle.txn_splitter.specs.Txns.{txn_ops, IsTxns, no_txn, transaction_among, txn_count, txn_op_count, txn_at, txn_op_at, txn_of, txn_target, txn_transactions}
use Rattle.precedence_graph.specs.Planned.{padded, txn_event, ArePlanned, AreEventsPlanned}
use Rattle.precedence_graph.proofs.ListLemmas.{get_or-map_all}

-- ---- padded sources

pub get_or-replicate_all : (n i : ℕ) (origin : Origin) → get_or (replicate n origin) i origin ≡ origin
get_or-replicate_all n i origin =
    elim (cases_lt i n) [
      | inl less ↦ get_or-replicate n i origin origin less
      | inr more ↦ get_or_past (replicate n origin) i origin (omega (arith, length-replicate n origin))
    ]

pub padded-past : (sources : List Origin) (j : ℕ) → length sources ≤ j → get_or (padded sources) j (Base 0) ≡ Base 0
padded-past sources j past =
    get_or-append_right sources (replicate (READS - length sources) (Base 0)) (length sources) j (Base 0) refl past ∙ get_or-replicate_all (READS - length sources) (j - length sources) (Base 0)

pub padded-at : (f : Key → Origin) (keys : List Key) (j : ℕ) → j < length keys → get_or (padded (map f keys)) j (Base 0) ≡ f (get_or keys j no_key)
padded-at f keys j lt =
    let inside : j < length (map f keys) = omega (arith, length-map keys f) in
    get_or_append_left (map f keys) (replicate (READS - length (map f keys)) (Base 0)) (Base 0) j inside ∙ get_or-map f keys j no_key (Base 0) lt

-- ---- the same numbering, over other functions

numbering_at : (n m : ℕ) (ts first count event_of : ℕ → ℕ) (op : ℕ → Op) (n' m' : ℕ) (ts' first' count' event_of' : ℕ → ℕ) (op' : ℕ → Op)
    → n ≡ n' → m ≡ m' → ts ≡ ts' → first ≡ first' → count ≡ count' → event_of ≡ event_of' → op ≡ op' → IsNumbering (numbers n ts first count) m event_of op → IsNumbering (numbers n' ts' first' count') m' event_of' op'
numbering_at n m ts first count event_of op n' m' ts' first' count' event_of' op' a b c d e f g is =
    subst (λ v. IsNumbering (numbers v ts' first' count') m' event_of' op') a
    (subst (λ v. IsNumbering (numbers n ts' first' count') v event_of' op') b
    (subst (λ v. IsNumbering (numbers n v first' count') m event_of' op') c
    (subst (λ v. IsNumbering (numbers n ts v count') m event_of' op') d
    (subst (λ v. IsNumbering (numbers n ts first v) m event_of' op') e
    (subst (λ v. IsNumbering (numbers n ts first count) m v op') f
    (subst (IsNumbering (numbers n ts first count) m event_of) g is))))))

module _ (x : Txns) (is : IsTxns x) (p : Plan) (done : ArePlanned x (txn_op_count x) p.ops.items) (events_done : AreEventsPlanned x p.ops.items (txn_count x) p.events.items) where
  -- ---- its columns are those of the transactions
  pub op_column : map (λ q. q.op) p.ops.items ≡ txn_ops x
  op_column =
      same_lists (map (λ q. q.op) p.ops.items) (txn_ops x) (length-map p.ops.items (λ q. q.op) ∙ done.many)
      (λ k d lt. let many : length p.ops.items ≡ txn_op_count x = done.many in
      let inside : k < length p.ops.items = omega (arith, length-map p.ops.items (λ q. q.op)) in
      get_or-map (λ q. q.op) p.ops.items k no_plan_op d inside ∙ (done.each k (omega arith)).op_is ∙ get_or_default (txn_ops x) k no_op d (omega arith))

  pub event_of_column : map (λ q. q.event) p.ops.items ≡ x.event_of
  event_of_column =
      same_lists (map (λ q. q.event) p.ops.items) x.event_of (length-map p.ops.items (λ q. q.event) ∙ done.many ∙ sym is.events_of)
      (λ k d lt. let many : length p.ops.items ≡ txn_op_count x = done.many in
      let long : length x.event_of ≡ txn_op_count x = is.events_of in
      let inside : k < length p.ops.items = omega (arith, length-map p.ops.items (λ q. q.event)) in
      get_or-map (λ q. q.event) p.ops.items k no_plan_op d inside ∙ (done.each k (omega arith)).event_is ∙ get_or_default x.event_of k 0 d (omega arith))

  pub event_column : map txn_event p.events.items ≡ x.events
  event_column = events_done.events_are ∙ take_all (txn_count x) x.events (omega arith)

  -- ---- so they number the same
  pub events_same : txn_count x ≡ event_count p
  events_same = sym (ap length event_column) ∙ length-map p.events.items txn_event

  pub ops_same : txn_op_count x ≡ op_count p
  ops_same = sym done.many

  pub op_same : (o : ℕ) → txn_op_at x o ≡ (op_at p o).op
  op_same o = ap (λ ops. get_or ops o no_op) (sym op_column) ∙ get_or-map_all (λ q. q.op) p.ops.items o no_plan_op

  pub event_of_same : (o : ℕ) → txn_of x o ≡ event_of p o
  event_of_same o = ap (λ events. get_or events o 0) (sym event_of_column) ∙ get_or-map_all (λ q. q.event) p.ops.items o no_plan_op

  pub event_at_same : (i : ℕ) → txn_at x i ≡ txn_event (event_at p i)
  event_at_same i = ap (λ events. get_or events i no_txn) (sym event_column) ∙ get_or-map_all txn_event p.events.items i no_event

  pub numbering_is : IsNumbering (numbers_of p) (op_count p) (event_of p) (λ o. (op_at p o).op)
  numbering_is =
      numbering_at (txn_count x) (txn_op_count x) (λ i. (txn_at x i).ts) (λ i. (txn_at x i).first) (λ i. (txn_at x i).count) (txn_of x) (txn_op_at x)
      (event_count p) (op_count p) (λ i. (event_at p i).ts) (λ i. (event_at p i).first) (λ i. (event_at p i).count) (event_of p) (λ o. (op_at p o).op)
      events_same ops_same (fun_ext (λ i. ap (λ e. e.ts) (event_at_same i))) (fun_ext (λ i. ap (λ e. e.first) (event_at_same i))) (fun_ext (λ i. ap (λ e. e.count) (event_at_same i))) (fun_ext event_of_same) (fun_ext op_same) is.numbering

  pub transactions_same : transactions p ≡ txn_transactions x
  transactions_same =
      sym (ap (λ ops. map (transaction_among ops) x.events) (sym op_column) ∙ ap (map (transaction_among (map (λ q. q.op) p.ops.items))) (sym event_column) ∙ map-map (transaction_among (map (λ q. q.op) p.ops.items)) txn_event p.events.items ∙ ap (λ (f : PlanEvent → Transaction). map f p.events.items) (fun_ext cut))
    where
      cut : (e : PlanEvent) → transaction_among (map (λ q. q.op) p.ops.items) (txn_event e) ≡ transaction_in p.ops.items e
      cut e =
          let made : List Op → Transaction = λ ops. record { ts = e.ts; ops = ops } in
          ap made (ap (take e.count) (drop-map (λ q. q.op) e.first p.ops.items) ∙ take-map (λ q. q.op) e.count (drop e.first p.ops.items))

  -- ---- its sources
  pub origins_are : (o : ℕ) (lt : o < txn_op_count x) → (op_at p o).origins ≡ padded (map (done.each o lt).source (keys_of p o))
  origins_are o lt = (done.each o lt).origins_are

  source_same : (o : ℕ) (key : Key) (origin : Origin) → IsSource (txn_op_count x) (txn_target x) (txn_of x) (txn_of x o) key origin → IsSourceIn p (event_of p o) key origin
  source_same o key origin source =
      subst (λ (m : ℕ). IsSource m (target p) (event_of p) (event_of p o) key origin) ops_same
      (subst (λ (t : ℕ → Key). IsSource (txn_op_count x) t (event_of p) (event_of p o) key origin) (fun_ext (λ t. ap (λ op. op.key) (op_same t)))
      (subst (λ (e : ℕ → ℕ). IsSource (txn_op_count x) (txn_target x) e (e o) key origin) (fun_ext event_of_same) source))

  pub alike_is : (o : ℕ) → o < op_count p → (op_at p o).op.high ≡ high_of p
  unfolding high_of
  alike_is o lt =
      let in_x : o < txn_op_count x = omega (arith, ops_same) in
      sym (ap (λ (op : Op). op.high) (op_same o)) ∙ is.alike o no_op in_x ∙ ap (λ (op : Op). op.high) (op_same 0)

  pub sources_is : (o j : ℕ) → o < txn_op_count x → j < length (keys_of p o) → IsSourceIn p (event_of p o) (key_at p o j) (origin_at p o j)
  sources_is o j lt inside =
      let q = done.each o lt in
      subst (IsSourceIn p (event_of p o) (key_at p o j)) (sym (ap (λ origins. get_or origins j (Base 0)) (origins_are o lt) ∙ padded-at q.source (keys_of p o) j inside)) (source_same o (key_at p o j) (q.source (key_at p o j)) (q.source_is (key_at p o j)))

  pub unused_is : (o j : ℕ) → o < txn_op_count x → length (keys_of p o) ≤ j → origin_at p o j ≡ Base 0
  unused_is o j lt past =
      let q = done.each o lt in
      ap (λ origins. get_or origins j (Base 0)) (origins_are o lt) ∙ padded-past (map q.source (keys_of p o)) j (omega (arith, length-map (keys_of p o) q.source))
