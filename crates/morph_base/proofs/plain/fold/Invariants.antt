use Rattle.std.proofs.Common.{◌≡◌, ◌+◌, ◌≤◌, length, map, take}
use Rattle.morph_base.specs.declared.event.Event.{Event}
use Rattle.morph_base.specs.Transactions.{transaction_of}
use Rattle.morph_base.specs.States.{after_all}
use Rattle.morph_base.specs.Outcomes.{fate_of, fates}
use Rattle.morph_base.specs.Flat.{contents}
use Rattle.morph_base.proofs.plain.fold.Given as goal

abbrev pub invariant-loop-event : goal.invariant-loop-event
invariant-loop-event l =
    let done = map (λ (e : Event). transaction_of e) (take l.event-index l.event-items) in
    record {
      layout : l.values.layout ≡ l.initial.values.layout;
      state : contents l.values ≡ after_all (contents l.initial.values) done;
      told : map fate_of l.outcomes.items ≡ fates (contents l.initial.values) done;
      room : length l.event-items ≤ l.outcomes.room + l.event-index;
    }
