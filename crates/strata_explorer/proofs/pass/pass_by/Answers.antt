use Rattle.std.proofs.Common.{◌<◌, sym, subst, inl, inr}
use Rattle.op_eval.specs.Running.{IsFreeRunner}
use Rattle.abort_eager.specs.Grounds.{ground_rules}
use Rattle.strata_explorer.specs.Passes.{Worked}
use Rattle.strata_explorer.specs.Walks.{WalksAll}
use Rattle.strata_explorer.proofs.Climbing.{worked_none}
use Rattle.strata_explorer.proofs.Bursting.{walks_none}
use Rattle.strata_explorer.proofs.pass.pass_by.Goals as goal

pub returns : goal.returns
returns g c =
    let ran = c.run_few_or_all.ensures in
    let pass = c.args.pass.now in
    let rules = ground_rules pass.ground in
    let ops = pass.ops.now in
    record {
      seated = λ k d lt.
          let there = subst (λ n. k < n) c.run_few_or_all.auto.workers lt in
          elim (ran.each k d there) [ inl did ↦ did.0 | inr same ↦ subst (IsFreeRunner pass.ground.board.now) (sym same) (c.requires.seated k d there) ];
      passed = record {
        len = c.run_few_or_all.auto.workers;
        each = λ k d lt. elim (ran.each k d lt) [ inl did ↦ did.1 | inr same ↦ subst (Worked rules pass.counter ops _) (sym same) (worked_none rules pass.counter ops _) ];
        walks = λ k d lt. elim (ran.each k d lt) [ inl did ↦ did.3 | inr same ↦ subst (WalksAll rules pass.counter ops _) (sym same) (walks_none rules pass.counter ops _) ];
        enough = (0, c.requires.some, λ d. (ran.first d).2);
        first = λ few k d above lt. ran.few few k d above;
        shared = λ many k d lt. (ran.many many k d lt).2;
      };
      first = λ d. (ran.first d).2;
    }
