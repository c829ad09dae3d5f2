use Rattle.abort_eager.specs.Finding.{IsFirstReader}
use Rattle.abort_eager.proofs.search.reader_from.Given as goal

abbrev pub invariant-loop-op : goal.invariant-loop-op
invariant-loop-op l = IsFirstReader l.plan l.first l.op l.from l.least
