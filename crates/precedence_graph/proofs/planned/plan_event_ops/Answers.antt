use Rattle.std.proofs.Common.{◌≡◌, ℕ, ◌+◌, ◌*◌, ◌<◌, ◌≤◌, ◌∷◌, [], List, length, get_or, take, drop, map, refl, sym, ap, subst, ◌∙◌, arith}
use Rattle.std.specs.Prelude.{max}
use Rattle.std.proofs.Math.ListN.{drop_of_length-le}
use Rattle.std.proofs.lemmas.List.{length_push, length-drop, drop-drop, take-append-le, take_all}
use Rattle.std.proofs.lemmas.List.Sums.{count_by-le-length}
use Rattle.morph_base.specs.declared.limits.TheConstants.{EVENT_OPS, EVENTS}
use Rattle.morph_base.specs.declared.operation.Op.{Op}
use Rattle.morph_base.specs.declared.plan.Origin.{Origin}
use Rattle.morph_base.specs.declared.plan.Origin.TheVariants.{Base}
use Rattle.morph_base.specs.declared.plan.PlanOp.{PlanOp}
use Rattle.morph_base.specs.Operations.{no_op, reads, IsShaped}
use Rattle.morph_base.specs.Numbering.{IsWithin}
use Rattle.morph_base.specs.Graphs.{greatest, is_written, level_of}
use Rattle.txn_splitter.specs.declared.txn_events.TxnEvent.{TxnEvent}
use Rattle.txn_splitter.specs.declared.txns.Txns.{Txns}
use Rattle.txn_splitter.specs.Txns.{IsTxns, txn_ops, txn_count, txn_at, txn_op_at}
use Rattle.txn_splitter.proofs.TxnLemmas.{txn_end, txn_ops_few}
use Rattle.precedence_graph.specs.Writers.{entered_event_level, source_in}
use Rattle.precedence_graph.specs.Planned.{event_sources_of, members_of, targets_in, parameters_in, padded, ArePlanned}
use Rattle.precedence_graph.proofs.EnteredLemmas.{levels_kept}
use Rattle.precedence_graph.proofs.PlanningLemmas.{next_comes, next_is, find_levels, find_low, planned_with, most_with, targets_with, parameters_with}
use Rattle.precedence_graph.proofs.planned.plan_event_ops.Goals as goal

pub loop-init : goal.loop-init
loop-init c =
    let x = c.args.txns.now in
    let first : ℕ = (txn_at x c.args.i).first in
    let ops : List PlanOp = c.args.ops.now.items in
    let many : length ops ≡ first = c.requires.planned.many in
    let here : first ≡ first + 0 = omega arith in
    let none : drop first ops ≡ [] = drop_of_length-le ops (omega arith) in
    record {
      coming = c.requires.coming;
      planned = subst (λ n. ArePlanned x n ops) here c.requires.planned;
      kept = take_all first ops (omega arith);
      most = sym
          (ap (λ (ps : List PlanOp). greatest (map (level_of (entered_event_level c.args.writers.now)) (event_sources_of ps))) none);
      written = c.requires.written;
    }

pub add_planned-reads-requires-clause-coming : goal.add_planned-reads-requires-clause-coming
add_planned-reads-requires-clause-coming c =
    let x = c.args.txns.now in
    let i : ℕ = c.args.i in
    let less : c.loop.counter < (txn_at x i).count = omega (arith, c.loop-test.true, ap (λ (e : TxnEvent). e.count) c.event_at-end.ensures.event) in
    next_comes x c.requires.txns i c.requires.event c.loop.counter less c.loop.ops c.loop.invariant.coming c.loop.invariant.planned.many

pub add_planned-reads-requires-clause-shaped : goal.add_planned-reads-requires-clause-shaped
add_planned-reads-requires-clause-shaped c =
    let x = c.args.txns.now in
    let i : ℕ = c.args.i in
    let k : ℕ = c.loop.counter in
    let less : k < (txn_at x i).count = omega (arith, c.loop-test.true, ap (λ (e : TxnEvent). e.count) c.event_at-end.ensures.event) in
    subst IsShaped (sym (next_is x c.loop.ops ((txn_at x i).first + k) c.loop.invariant.coming c.loop.invariant.planned.many))
    (c.requires.txns.numbering.shaped ((txn_at x i).first + k) (omega (arith, txn_end x c.requires.txns i c.requires.event)))

pub add_planned-reads-requires-clause-low : goal.add_planned-reads-requires-clause-low
add_planned-reads-requires-clause-low c =
    let x = c.args.txns.now in
    let i : ℕ = c.args.i in
    let k : ℕ = c.loop.counter in
    let first : ℕ = (txn_at x i).first in
    let less : k < (txn_at x i).count =
    omega (arith, c.loop-test.true, ap (λ (e : TxnEvent). e.count) c.event_at-end.ensures.event) in
    let within : IsWithin first (txn_at x i).count (first + k) = record { from = omega arith; below = omega arith } in
    let op : Op = get_or c.loop.ops.coming 0 no_op in
    let ops : List PlanOp = c.loop.ops.items in
    let levels =
    levels_kept first ops c.args.ops.now.items c.args.writers.now c.loop.invariant.kept c.requires.levels in
    let level =
    find_levels x c.requires.txns i c.requires.event c.args.writers.now c.requires.writers
    (first + k) within ops c.loop.invariant.planned levels (reads op) in
    omega (arith, level, find_low x c.requires.txns i c.requires.event c.args.writers.now c.requires.writers (first + k) within ops c.loop.invariant.planned op, txn_end x c.requires.txns i c.requires.event, txn_ops_few x c.requires.txns)

-- as many operations as are planned so far are few
few_planned : (x : Txns) (is : IsTxns x) (i : ℕ) → i < txn_count x → (k n : ℕ) → k < (txn_at x i).count → n ≡ (txn_at x i).first + k → n < EVENT_OPS * EVENTS
few_planned x is i lt k n less many = omega (arith, txn_end x is i lt, txn_ops_few x is, many)

pub overflow_add-written : goal.overflow_add-written
overflow_add-written c =
    let x = c.args.txns.now in
    let ops : List PlanOp = c.loop.ops.items in
    let less : c.loop.counter < (txn_at x c.args.i).count =
    omega (arith, c.loop-test.true, ap (λ (e : TxnEvent). e.count) c.event_at-end.ensures.event) in
    let targets : targets_in ops ≤ length ops =
    count_by-le-length (λ (q : PlanOp). is_written (get_or q.origins 0 (Base 0))) ops in
    omega (arith, c.loop.invariant.written.targets, targets, c.from.ensures, few_planned x c.requires.txns c.args.i c.requires.event c.loop.counter (length ops) less c.loop.invariant.planned.many)

pub overflow_add-written-in-loop : goal.overflow_add-written-in-loop
overflow_add-written-in-loop c =
    let x = c.args.txns.now in
    let less : c.loop.counter < (txn_at x c.args.i).count =
    omega (arith, c.loop-test.true, ap (λ (e : TxnEvent). e.count) c.event_at-end.ensures.event) in
    omega (arith, c.loop.invariant.written.few, c.from-in-loop.ensures, c.add_planned-reads.ensures.sums.few, few_planned x c.requires.txns c.args.i c.requires.event c.loop.counter (length c.loop.ops.items) less c.loop.invariant.planned.many)

pub loop-preserved : goal.loop-preserved
loop-preserved c =
    let x = c.args.txns.now in
    let i : ℕ = c.args.i in
    let k : ℕ = c.loop.counter in
    let first : ℕ = (txn_at x i).first in
    let less : k < (txn_at x i).count =
    omega (arith, c.loop-test.true, ap (λ (e : TxnEvent). e.count) c.event_at-end.ensures.event) in
    let within : IsWithin first (txn_at x i).count (first + k) = record { from = omega arith; below = omega arith } in
    let op_is : get_or c.loop.ops.coming 0 no_op ≡ txn_op_at x (first + k) =
    next_is x c.loop.ops (first + k) c.loop.invariant.coming c.loop.invariant.planned.many in
    let ops = c.loop.ops.items in
    let op : Op = get_or c.loop.ops.coming 0 no_op in
    let q : PlanOp =
    record { op = op; event = i; origins = padded (map (source_in c.args.writers.now) (reads op)); level = 1 + c.add_planned-reads.result.level } in
    let done = c.loop.invariant.planned in
    let levels =
    levels_kept first ops c.args.ops.now.items c.args.writers.now c.loop.invariant.kept c.requires.levels in
    let level =
    ap (λ n. 1 + n)
    (c.add_planned-reads.ensures.sums.level ∙ find_levels x c.requires.txns i c.requires.event c.args.writers.now c.requires.writers (first + k) within ops done levels (reads op)) in
    let event_level : Origin → ℕ = level_of (entered_event_level c.args.writers.now) in
    let many : length ops ≡ first + k = done.many in
    let next : first + k + 1 ≡ first + (k + 1) = omega arith in
    record {
      coming = c.add_planned-reads.ensures.coming ∙ ap (drop 1) c.loop.invariant.coming
          ∙ drop-drop 1 (length ops) (txn_ops x)
          ∙ ap (λ n. drop n (txn_ops x)) (sym (ap length c.add_planned-reads.ensures.items ∙ length_push ops q));
      planned = subst (λ n. ArePlanned x n c.add_planned-reads.new.ops.items) next
          (subst (ArePlanned x (first + k + 1)) (sym c.add_planned-reads.ensures.items)
          (planned_with x c.requires.txns i c.requires.event c.args.writers.now c.requires.writers (first + k) within ops done q op refl refl op_is refl level));
      kept = ap (take first) c.add_planned-reads.ensures.items ∙ take-append-le first ops (q ∷ []) (omega arith)
          ∙ c.loop.invariant.kept;
      most = c.max-most.ensures ∙ ap (λ n. max n c.add_planned-reads.result.event_level) c.loop.invariant.most
          ∙ ap (max (greatest (map event_level (event_sources_of (drop first ops))))) c.add_planned-reads.ensures.sums.event_level
          ∙ sym (most_with x c.requires.txns i c.requires.event c.args.writers.now c.requires.writers (first + k) within ops done q op refl refl event_level)
          ∙ ap (λ (ps : List PlanOp). greatest (map event_level (event_sources_of (drop first ps))))
          (sym c.add_planned-reads.ensures.items);
      written = record {
        targets = ap (λ n. n + c.from.result) c.loop.invariant.written.targets
            ∙ ap (λ n. targets_in ops + n) (c.from.ensures ∙ c.add_planned-reads.ensures.sums.target)
            ∙ sym (ap targets_in c.add_planned-reads.ensures.items ∙ targets_with x c.requires.txns i c.requires.event c.args.writers.now c.requires.writers (first + k) within ops done q op refl refl);
        parameters = ap (λ n. n + c.from-in-loop.result) c.loop.invariant.written.parameters
            ∙ ap (λ n. parameters_in ops + n) (c.from-in-loop.ensures ∙ c.add_planned-reads.ensures.sums.parameters)
            ∙ sym (ap parameters_in c.add_planned-reads.ensures.items ∙ parameters_with x c.requires.txns i c.requires.event c.args.writers.now c.requires.writers (first + k) within ops done q op refl refl);
        few = omega
            (arith, c.loop.invariant.written.few, c.from-in-loop.ensures, c.add_planned-reads.ensures.sums.few, ap length c.add_planned-reads.ensures.items, length_push ops q);
      };
    }

-- at its end the loop has been at each operation of the event
all_ops : (c : goal.After-loop) → c.loop.counter ≡ (txn_at c.args.txns.now c.args.i).count
all_ops c = omega
    (arith, c.loop-test.false, c.loop.auto.counter-end, ap (λ (e : TxnEvent). e.count) c.event_at-end.ensures.event)

pub returns-clause-planned : goal.returns-clause-planned
returns-clause-planned c =
    let x = c.args.txns.now in
    subst (λ k. ArePlanned x ((txn_at x c.args.i).first + k) c.loop.ops.items)
    (all_ops c) c.loop.invariant.planned

pub returns-clause-level : goal.returns-clause-level
returns-clause-level c =
    let x = c.args.txns.now in
    let i = c.args.i in
    let ops = c.loop.ops.items in
    let many : length ops ≡ (txn_at x i).first + c.loop.counter = c.loop.invariant.planned.many in
    let members : members_of x ops i ≡ drop (txn_at x i).first ops =
    take_all (txn_at x i).count (drop (txn_at x i).first ops)
    (omega (arith, length-drop (txn_at x i).first ops, all_ops c)) in
    c.loop.invariant.most
    ∙ ap (λ ps. greatest (map (level_of (entered_event_level c.args.writers.now)) (event_sources_of ps))) (sym members)
