use Rattle.std.proofs.Common.{ap, ◌∙◌, List, fold}
use Rattle.left_right.specs.Sides.{view}
use Rattle.snapshot_reader.specs.declared.change.Change.{Change}
use Rattle.snapshot_reader.specs.Writing.{applied}
use Rattle.snapshot_reader.proofs.Steps.{publishes, shown_of}
use Rattle.snapshot_reader.proofs.show.shown.Goals as goal

pub publish_as-requires : goal.publish_as-requires
publish_as-requires g c next is =
    let x = c.args.writer.desk.shown.value in
    publishes _ (view c.args.writer.desk.place) x next c.requires.change c.requires.whole c.requires.next
    (is ∙ ap (λ (cs : List Change). fold applied (shown_of x) cs) c.requires.one)
