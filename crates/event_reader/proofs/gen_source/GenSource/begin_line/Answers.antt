use Rattle.std.proofs.Common.{◌≡◌, arith}
use Rattle.event_reader.proofs.GeneratedLines.{all_given, not_at_end}
use Rattle.event_reader.proofs.gen_source.GenSource.begin_line.Goals as goal
use Rattle.event_reader.proofs.gen_source.GenSource.begin_line.Goals.{else-self-len-via-then-self-len+else-self-gt0, else-self-len-via-else-self-len}

pub returns-else-self-len-clause-last : goal.returns-else-self-len-clause-last
returns-else-self-len-clause-last g c =
    rw (← c.self.view_is)
    (λ end. elim c.else-self-len.branch [
      | else-self-len-via-then-self-len+else-self-gt0 w ↦ let none : c.self.inside.count ≡ 0 = omega (arith, w.if-self-gt0.false) in
          all_given _ _ c.self.inside.count c.self.inside.next c.self.inside.draws end none
      | else-self-len-via-else-self-len w ↦ absurd (not_at_end c.self.inside.line c.self.inside.at c.self.invariant.inside
          (λ same. w.if-self-len.false (omega (arith, same, c.len.ensures.len))) end)
    ])
