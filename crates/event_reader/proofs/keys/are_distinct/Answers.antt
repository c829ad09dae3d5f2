use Rattle.std.proofs.Common.{sym, ◌∙◌, arith, false, true}
use Rattle.event_reader.proofs.LineKeys.{distinct_end, distinct_step}
use Rattle.event_reader.proofs.keys.are_distinct.Goals as goal

pub returns-then-has_key : goal.returns-then-has_key
returns-then-has_key c = sym (distinct_step c.args.keys.now c.loop-i.i _ c.has_key.result true c.loop-i-test.true c.has_key.ensures c.if-has_key.true) ∙ c.loop-i.invariant

pub loop-i-preserved : goal.loop-i-preserved
loop-i-preserved c = sym (distinct_step c.args.keys.now c.loop-i.i _ c.has_key.result false c.loop-i-test.true c.has_key.ensures c.if-has_key.false) ∙ c.loop-i.invariant

pub returns : goal.returns
returns c = sym (distinct_end c.args.keys.now c.loop-i.i (omega (arith, c.loop-i-test.false))) ∙ c.loop-i.invariant
