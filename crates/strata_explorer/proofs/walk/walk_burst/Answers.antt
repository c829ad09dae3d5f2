use Rattle.std.proofs.Common.{sym, subst, arith}
use Rattle.std.specs.Prelude.{ℕ, List, take, slice_index_or}
use Rattle.std.proofs.lemmas.List.{take_more}
use Rattle.op_eval.specs.declared.runner.Runner.{Runner}
use Rattle.abort_eager.specs.Grounds.{ground_rules}
use Rattle.abort_eager.specs.Sweeps.{IsLike, Attempts}
use Rattle.abort_eager.specs.Walks.{WalksUnit}
use Rattle.abort_eager.proofs.Noting.{attempts_of}
use Rattle.abort_eager.proofs.UnitWalks.{walks_as}
use Rattle.strata_explorer.specs.Walks.{WalksNumbers}
use Rattle.strata_explorer.proofs.Between.{unit_from}
use Rattle.strata_explorer.proofs.Bursting.{walks_one_more}
use Rattle.strata_explorer.proofs.walk.walk_burst.Goals as goal

pub loop-i-preserved : goal.loop-i-preserved
loop-i-preserved g c =
    let rules = ground_rules c.args.ground.now in
    let ops : List ℕ = c.args.ops.now in
    let numbers : List ℕ = c.args.burst.now.numbers in
    let before : Runner = c.loop-i.runner in
    let like : IsLike before c.await_sources.new.runner = record { view = c.await_sources.ensures.view; answers = c.await_sources.ensures.answers; kept = c.await_sources.ensures.kept } in
    let unit = walks_as _ _ (attempts_of rules _) _ _ _ _ c.walk_unit.ensures.walks in
    let walks = subst (λ n. WalksUnit (Attempts rules) rules.units (slice_index_or ops n 0) before c.walk_unit.new.worker) c.number.ensures (unit_from rules _ before c.await_sources.new.runner c.walk_unit.new.worker like unit) in (
      c.walk_unit.ensures.can,
      subst (λ ns. WalksNumbers rules ops ns c.args.runner.now c.walk_unit.new.worker) (sym (take_more numbers c.loop-i.i 0 (omega (arith, c.loop-i-test.true, c.len-i-end.ensures))))
          (walks_one_more rules ops (take c.loop-i.i numbers) (slice_index_or numbers c.loop-i.i 0) c.args.runner.now before c.walk_unit.new.worker c.loop-i.invariant.1 walks),
    )
