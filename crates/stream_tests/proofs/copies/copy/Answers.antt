use Rattle.std.proofs.Common.{arith}
use Rattle.stream_tests.proofs.Moved.{copied_nothing, copied_more, copied_end, copied_prefix, copied_cut}
use Rattle.stream_tests.proofs.copies.copy.Goals as goal

pub reads-init : goal.reads-init
reads-init g c = record { copied = copied_nothing _ _; source_faults = omega arith; sink_faults = omega arith }

pub returns-in-Ok-eq0-clause-whole : goal.returns-in-Ok-eq0-clause-whole
returns-in-Ok-eq0-clause-whole g c = λ _.
    copied_end _ _ _ _ _ _ _ c.reads.invariant.copied c.in-Ok-eq0.field-0-test c.in-Ok-eq0.ensures.bytes
    (c.in-Ok-eq0.ensures.end c.in-Ok-eq0.field-0-test)

pub returns-in-Ok-eq0-clause-prefix : goal.returns-in-Ok-eq0-clause-prefix
returns-in-Ok-eq0-clause-prefix g c = copied_prefix _ _ _ _ c.reads.invariant.copied

pub returns-in-Err-clause-prefix : goal.returns-in-Err-clause-prefix
returns-in-Err-clause-prefix g c = copied_prefix _ _ _ _ c.reads.invariant.copied

pub returns-in-Err-write_all-clause-prefix : goal.returns-in-Err-write_all-clause-prefix
returns-in-Err-write_all-clause-prefix g c =
    copied_cut _ _ _ _ _ _ _ c.reads.invariant.copied c.in-Ok.ensures.bytes c.in-Err-write_all.ensures.prefix

pub reads-preserved : goal.reads-preserved
reads-preserved g c = record {
  copied = copied_more _ _ _ _ _ _ _ c.reads.invariant.copied c.in-Ok.ensures.bytes c.in_default.ensures.all;
  source_faults = omega (arith, c.in-Ok.ensures.never_falls, c.reads.invariant.source_faults);
  sink_faults = omega (arith, c.in_default.ensures.never_falls, c.reads.invariant.sink_faults);
}

pub returns-clause-prefix : goal.returns-clause-prefix
returns-clause-prefix g c = copied_prefix _ _ _ _ c.reads.invariant.copied
