use Rattle.std.proofs.Common.{◌≡◌, ◌∙◌, ◌⊎◌, ◌+◌, ◌*◌, ◌<◌, ◌≤◌, ap, arith, inl, inr, length, refl, subst, sym, List, ℕ}
use Rattle.std.proofs.lemmas.Bool.{false≢true}
use Rattle.worker_gate.specs.Parts.{part_counter, part_items}
use Rattle.worker_gate.specs.Sharing.{shared_from}
use Rattle.worker_gate.proofs.Ordering.{at_inside}
use Rattle.abort_lazy.specs.Runs.{events_of}
use Rattle.abort_lazy.specs.Sweeps.{CanSweep, IsThrough, Swept}
use Rattle.abort_lazy.proofs.Advancing.{fits_part}
use Rattle.abort_lazy.proofs.Levelling.{events_are}
use Rattle.abort_lazy.proofs.run.levels.go_over_part.Goals as goal

pub go_over-requires-clause-fits : goal.go_over-requires-clause-fits
go_over-requires-clause-fits c =
    let levels = c.args.levels.now in
    let fits = c.requires.fits in
    let same = events_are levels.plan.now c.args.level c.requires.in_range _ c.get.ensures.at _ c.as_slice-events.ensures in
    fits_part _ _ _ levels.shares fits c.args.level c.part_at-part.result c.requires.in_range
    (subst (λ k. k < levels.shares.parts) (sym c.part_at-part.ensures) (at_inside levels.shares fits.shares c.args.number c.args.turn)) _
    (c.part_of.ensures ∙ ap (λ (zs : List ℕ). part_items zs levels.shares.parts c.part_at-part.result) same)

pub go_over-requires-clause-can : goal.go_over-requires-clause-can
go_over-requires-clause-can c =
    let levels = c.args.levels.now in
    let same = events_are levels.plan.now c.args.level c.requires.in_range _ c.get.ensures.at _ c.as_slice-events.ensures in
    subst (λ (zs : List ℕ). CanSweep levels.board.now (levels.from + (c.args.level * levels.shares.parts + c.part_at-part.result)) zs c.args.runner.now)
    (sym (c.part_of.ensures ∙ ap (λ (zs : List ℕ). part_items zs levels.shares.parts c.part_at-part.result) same))
    (subst (λ k. CanSweep levels.board.now (levels.from + part_counter levels.shares.parts c.args.level k) (part_items (events_of levels.plan.now c.args.level) levels.shares.parts k) c.args.runner.now) (sym c.part_at-part.ensures)
    c.requires.can)

pub returns-then-takes_part : goal.returns-then-takes_part
returns-then-takes_part c =
    let levels = c.args.levels.now in
    let same = events_are levels.plan.now c.args.level c.requires.in_range _ c.get.ensures.at _ c.as_slice-events.ensures in
    let len = ap length same in
    let did = c.go_over.ensures.swept in
    let all = c.part_of.ensures ∙ ap (λ (zs : List ℕ). part_items zs levels.shares.parts c.part_at-part.result) same in
    record {
      hand = did.hand;
      swept = λ part.
          subst
          (λ k. Swept levels.plan.now (levels.from + part_counter levels.shares.parts c.args.level k) (part_items (events_of levels.plan.now c.args.level) levels.shares.parts k) c.args.runner.now c.go_over.new.runner
          × IsThrough (levels.from + part_counter levels.shares.parts c.args.level k) (part_items (events_of levels.plan.now c.args.level) levels.shares.parts k) c.args.runner.now c.go_over.new.runner)
          c.part_at-part.ensures
          (subst
          (λ (zs : List ℕ). Swept levels.plan.now (levels.from + part_counter levels.shares.parts c.args.level c.part_at-part.result) zs c.args.runner.now c.go_over.new.runner
          × IsThrough (levels.from + part_counter levels.shares.parts c.args.level c.part_at-part.result) zs c.args.runner.now c.go_over.new.runner) all (did.swept, did.through));
      passed = λ above few. elim (c.takes_part.ensures.0 c.if-takes_part.true) [ inl first ↦ absurd (omega (arith, first, above)) | inr many ↦ absurd (omega (arith, many, few, len)) ];
    }

pub returns-else-takes_part : goal.returns-else-takes_part
returns-else-takes_part c =
    let same = events_are c.args.levels.now.plan.now c.args.level c.requires.in_range _ c.get.ensures.at _ c.as_slice-events.ensures in
    record {
      hand = c.requires.can.hand;
      swept = λ part. absurd (false≢true (sym c.if-takes_part.false ∙ c.takes_part.ensures.1 (subst (λ (n : ℕ). (c.args.number ≡ 0) ⊎ (shared_from ≤ n)) (sym (ap length same)) part)));
      passed = λ above few. refl;
    }
