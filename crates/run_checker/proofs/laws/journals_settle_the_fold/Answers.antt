use Rattle.run_checker.proofs.Fold.{settled_fold, yes_fold, unsettled_fold, differs_fold, fold_yes}
use Rattle.run_checker.proofs.laws.journals_settle_the_fold.Goals as goal

pub returns : goal.returns
returns c = record {
  taken = settled_fold;
  yes = yes_fold;
  unsettled = λ p cap journal values op. unsettled_fold p cap journal op;
  differs = λ p cap journal values op own run. differs_fold p cap journal values (record { op = op; journal = own; run = run });
  fold = fold_yes;
}
