use Rattle.std.proofs.Common.{◌≡◌, arith}
use Rattle.morph_io.proofs.RepeatedLine.{left_from_empty, left_from_next, left_from_last}
use Rattle.morph_io.proofs.repeat_source.next_place.Goals as goal
use Rattle.morph_io.proofs.repeat_source.next_place.Goals.{else-at-line-via-then-at-line+else-times-gt0, else-at-line-via-else-at-line}

pub returns-then-times-gt0-clause-same : goal.returns-then-times-gt0-clause-same
returns-then-times-gt0-clause-same c = left_from_next _ _ _ c.if-at-line.true c.if-times-gt0.true

pub returns-then-times-gt0-clause-last : goal.returns-then-times-gt0-clause-last
returns-then-times-gt0-clause-last c = left_from_empty _ _

pub returns-else-at-line-clause-last : goal.returns-else-at-line-clause-last
returns-else-at-line-clause-last c = λ end.
    elim c.else-at-line.branch [
      | else-at-line-via-then-at-line+else-times-gt0 w ↦
          let none : c.args.times ≡ 0 = omega (arith, w.if-times-gt0.false) in left_from_last _ _ _ end none
      | else-at-line-via-else-at-line w ↦ absurd (w.if-at-line.false end)
    ]
