use Rattle.std.proofs.Common.{◌≡◌, ◌⊎◌, ◌<◌, ◌≤◌, ℕ, List, length, sym, ap, ◌∙◌, subst, inl, inr, arith}
use Rattle.std.proofs.lemmas.Bool.{false≢true, cases_lt}
use Rattle.abort_eager.specs.Grounds.{ground_rules}
use Rattle.worker_gate.proofs.Ordering.{at_inside, counter_fits}
use Rattle.worker_gate.specs.Parts.{part_at, part_counter, part_items}
use Rattle.worker_gate.specs.Sharing.{shared_from}
use Rattle.strata_explorer.specs.Levels.{ops_of}
use Rattle.strata_explorer.specs.Parts.{DoesPart}
use Rattle.strata_explorer.specs.Passes.{FitsPass}
use Rattle.strata_explorer.proofs.Climbing.{level_is}
use Rattle.strata_explorer.proofs.Leveling.{levels_of, small_levels}
use Rattle.strata_explorer.proofs.Parting.{part_fits, took_part, passed_over}
use Rattle.strata_explorer.proofs.levels.Climber.do_part.Goals as goal

not_shared : (n : ℕ) → (shared_from ≤ n → ⊥) → n < shared_from
not_shared n apart = elim (cases_lt n shared_from) [ inl few ↦ few | inr many ↦ absurd (apart many) ]

-- the counter of a part is one of the plan's
pub overflow_mul-counter : goal.overflow_mul-counter
overflow_mul-counter g c =
    let s = c.args.self.now in
    let p = s.ground.now.plan.now in
    omega (arith, counter_fits s.shares.parts c.args.level (length p.op_levels.items) (part_at s.shares s.number c.args.turn) c.requires.shares.few c.requires.level (at_inside s.shares c.requires.shares s.number c.args.turn), small_levels p c.requires.ground.valid)

pub overflow_add-counter : goal.overflow_add-counter
overflow_add-counter g c =
    let s = c.args.self.now in
    let p = s.ground.now.plan.now in
    omega (arith, c.part_at-part.ensures, counter_fits s.shares.parts c.args.level (length p.op_levels.items) (part_at s.shares s.number c.args.turn) c.requires.shares.few c.requires.level (at_inside s.shares c.requires.shares s.number c.args.turn), small_levels p c.requires.ground.valid)

pub overflow_cast-counter : goal.overflow_cast-counter
overflow_cast-counter g c =
    let s = c.args.self.now in
    let p = s.ground.now.plan.now in
    omega (arith, c.part_at-part.ensures, counter_fits s.shares.parts c.args.level (length p.op_levels.items) (part_at s.shares s.number c.args.turn) c.requires.shares.few c.requires.level (at_inside s.shares c.requires.shares s.number c.args.turn), small_levels p c.requires.ground.valid)

pub work-requires-clause-in_range : goal.work-requires-clause-in_range
work-requires-clause-in_range g c =
    let s = c.args.self.now in
    let p = s.ground.now.plan.now in
    omega (arith, c.part_at-part.ensures, c.requires.counters, counter_fits s.shares.parts c.args.level (length p.op_levels.items) (part_at s.shares s.number c.args.turn) c.requires.shares.few c.requires.level (at_inside s.shares c.requires.shares s.number c.args.turn))

pub work-requires-clause-fits : goal.work-requires-clause-fits
work-requires-clause-fits g c =
    let s = c.args.self.now in
    let p = s.ground.now.plan.now in
    let is = level_is p c.args.level c.requires.level _ c.get.ensures.at _ c.as_slice-ops.ensures in
    subst (FitsPass p) (sym (c.part_of-ops.ensures ∙ ap (λ os. part_items os s.shares.parts c.part_at-part.result) is))
    (part_fits p (ops_of p c.args.level) s.shares.parts c.part_at-part.result ((levels_of p c.requires.ground.valid).fits c.args.level))

pub returns-then-takes_part-clause-part : goal.returns-then-takes_part-clause-part
returns-then-takes_part-clause-part g c =
    let s = c.args.self.now in
    let p = s.ground.now.plan.now in
    let rules = ground_rules s.ground.now in
    let is = level_is p c.args.level c.requires.level _ c.get.ensures.at _ c.as_slice-ops.ensures in
    let at = c.part_at-part.ensures in
    let counter = ap (part_counter s.shares.parts c.args.level) at in
    let part = c.part_of-ops.ensures ∙ ap (λ os. part_items os s.shares.parts c.part_at-part.result) is ∙ ap (part_items (ops_of p c.args.level) s.shares.parts) at in
    let took = took_part rules (part_counter s.shares.parts c.args.level c.part_at-part.result) c.part_of-ops.result.now (length (ops_of p c.args.level)) s.number c.args.runner.now c.work.new.runner
    (subst (λ (os : List ℕ). (s.number ≡ 0) ⊎ (shared_from ≤ length os)) is (c.takes_part.ensures.0 c.if-takes_part.true)) c.work.ensures.calls c.work.ensures.walks c.work.ensures.enough in
    subst (λ os. DoesPart rules (part_counter s.shares.parts c.args.level (part_at s.shares s.number c.args.turn)) os (length (ops_of p c.args.level)) s.number c.args.runner.now c.work.new.runner) part
    (subst (λ k. DoesPart rules k c.part_of-ops.result.now (length (ops_of p c.args.level)) s.number c.args.runner.now c.work.new.runner) counter took)

pub returns-else-takes_part-clause-part : goal.returns-else-takes_part-clause-part
returns-else-takes_part-clause-part g c =
    let s = c.args.self.now in
    let p = s.ground.now.plan.now in
    let rules = ground_rules s.ground.now in
    let is = level_is p c.args.level c.requires.level _ c.get.ensures.at _ c.as_slice-ops.ensures in
    let ops = c.as_slice-ops.result.now in
    let no : (s.number ≡ 0) ⊎ (shared_from ≤ length ops) → ⊥ = λ why. false≢true (sym c.if-takes_part.false ∙ c.takes_part.ensures.1 why) in
    let few : length ops < shared_from = not_shared (length ops) (λ many. no (inr many)) in
    passed_over rules (part_counter s.shares.parts c.args.level (part_at s.shares s.number c.args.turn)) (part_items (ops_of p c.args.level) s.shares.parts (part_at s.shares s.number c.args.turn))
    (length (ops_of p c.args.level)) s.number c.args.runner.now (above s.number (λ first. no (inl first))) (subst (λ (os : List ℕ). length os < shared_from) is few)
  where
    above : (n : ℕ) → (n ≡ 0 → ⊥) → 0 < n
    above n not = elim (cases_lt 0 n) [ inl some ↦ some | inr none ↦ absurd (not (omega (arith, none))) ]
