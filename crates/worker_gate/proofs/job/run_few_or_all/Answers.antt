use Rattle.std.proofs.Common.{refl, inl, arith}
use Rattle.worker_gate.proofs.Sharing.{first_did, others_same, did_or_same}
use Rattle.worker_gate.proofs.job.run_few_or_all.Goals as goal

pub returns-then-is_shared : goal.returns-then-is_shared
returns-then-is_shared g c = record {
  first = λ d. c.run_all.ensures 0 d c.requires.some;
  each = λ i d lt. inl (c.run_all.ensures i d lt);
  few = λ few. absurd (omega (arith, few, c.if-is_shared.ensures.0 refl));
  many = λ many i d lt. c.run_all.ensures i d lt;
}

pub returns-else-is_shared : goal.returns-else-is_shared
returns-else-is_shared g c = record {
  first = λ d. first_did (g.J.Job.changes c.args.job.now) c.run.new.worker c.args.workers.now c.index-workers-0.result d c.requires.some c.run.ensures;
  each = λ i d lt. did_or_same (g.J.Job.changes c.args.job.now) c.run.new.worker c.args.workers.now c.index-workers-0.result c.requires.some c.run.ensures i d;
  few = λ few i d above. others_same (g.J.Job.changes c.args.job.now) c.run.new.worker c.args.workers.now i d above;
  many = λ many. absurd (let no = c.if-is_shared.ensures.1 many in cc);
}
