use Rattle.std.proofs.Common.{◌≡◌, take}
use Rattle.std.specs.List.{flat_map}
use Rattle.morph_base.specs.declared.event.Event.{Event}
use Rattle.txn_splitter.proofs.splitter.gathered.Given as goal

abbrev pub invariant-loop-event : goal.invariant-loop-event
invariant-loop-event l = l.rows ≡ flat_map (λ (e : Event). e.ops) (take l.event-index l.events)
