use Rattle.abort_eager.proofs.Popping.{popped_none, popped_next, popped_never}
use Rattle.abort_eager.proofs.Starting.{cascade_end, op_small}
use Rattle.abort_eager.proofs.cascade.Cascade.pop_reader.Goals as goal

pub overflow_add-self : goal.overflow_add-self
overflow_add-self c = record { fits = op_small _ _ c.requires.plan.plan c.requires.cascade.reader_in }

pub reader_from-requires-clause-end : goal.reader_from-requires-clause-end
reader_from-requires-clause-end c = cascade_end _ c.args.self.now c.requires.plan.plan c.requires.cascade

pub returns-in_err-reader : goal.returns-in_err-reader
returns-in_err-reader c = record { pops = rw c.from_residual.ensures (popped_none _ _ c.requires.plan c.requires.cascade c.requires.none c.in_err-reader.ensures) }

pub unreachable-requires : goal.unreachable-requires
unreachable-requires c = popped_never c.args.plan.now c.args.self.now c.requires.plan c.requires.cascade _ c.in_ok-reader.ensures c.in_default.ensures

pub returns : goal.returns
returns c = record { pops = popped_next _ _ c.requires.plan c.requires.cascade _ c.in_ok-reader.ensures _ c.requires.none c.in-Some.ensures }
