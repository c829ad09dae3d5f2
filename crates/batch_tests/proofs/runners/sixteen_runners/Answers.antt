use Rattle.std.proofs.Common.{◌≡◌, ◌++◌, List, length, take, drop, ap, sym, subst, ◌∙◌}
use Rattle.std.proofs.Math.Seq.{take-append_seam}
use Rattle.op_words.specs.declared.trail.View.{View}
use Rattle.op_eval.specs.declared.runner.Runner.{Runner}
use Rattle.op_eval.specs.Gathering.{AreAtRest}
use Rattle.batch_tests.proofs.runners.sixteen_runners.Goals as goal

-- a list that was lent and stays as it was
lent_back : (xs now : List Runner) → now ≡ xs → take (length xs) (now ++ drop (length now) xs) ≡ xs
lent_back xs now same = subst (λ (ys : List Runner). take (length xs) (ys ++ drop (length ys) xs) ≡ xs) (sym same) (take-append_seam xs (drop (length xs) xs))

pub gather-root-requires-clause-rest : goal.gather-root-requires-clause-rest
gather-root-requires-clause-rest g c =
    subst (AreAtRest c.in_ok-board.board) (sym (lent_back c.in_ok-runners.runners.runners.items c.as_mut_slice.result.now c.as_mut_slice.ensures.items))
    (c.in_ok-runners.ensures.rest (ap (λ (v : View). v.claim) c.in_ok-board.ensures.view))
