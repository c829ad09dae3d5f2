use Rattle.std.proofs.Common.{not, sym, ◌∙◌, ap}
use Rattle.event_reader.proofs.TimeSets.{new_above, not_found, bound_inserted, fresh_among, more_among}
use Rattle.event_reader.proofs.times.Times.add.Goals as goal

pub returns-then-ts-self-clause-fresh : goal.returns-then-ts-self-clause-fresh
returns-then-ts-self-clause-fresh c =
    let inner = c.self.inside in
    let none = new_above inner.rising.items inner.others.keys inner.greatest c.args.ts c.self.invariant.rising_bound c.self.invariant.others_bound c.if-ts-self.true in
    rw (← c.self.view_is) (sym (ap not none))

pub invariant_of-self-2 : goal.invariant_of-self-2
invariant_of-self-2 c = record {
  rises = c.self.invariant.rises;
  rising_bound = c.self.invariant.rising_bound;
  others_bound = rw c.in_ok-is_new.ensures.keys (bound_inserted _ _ _ c.self.invariant.others_bound c.if-ts-self.false);
}

pub returns-clause-fresh : goal.returns-clause-fresh
returns-clause-fresh c =
    let inner = c.self.inside in
    let result = rw c.deref.ensures.value at c.binary_search.ensures.position in
    let none = not_found inner.rising.items c.args.ts c.binary_search.result (sym c.if-is_ok.ensures.value) result c.self.invariant.rises in
    rw (← c.self.view_is) (c.in_ok-is_new.ensures.added ∙ ap not (sym (fresh_among inner.rising.items inner.others.keys c.args.ts none)))

pub returns-clause-added : goal.returns-clause-added
returns-clause-added c =
    let inner = c.self.inside in
    rw (← c.self.view_is)
    (more_among inner.rising.items inner.others.keys c.insert.new.self.keys c.args.ts c.in_ok-is_new.ensures.updates.0)
