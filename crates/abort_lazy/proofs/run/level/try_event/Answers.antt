use Rattle.abort_lazy.proofs.Sweeping.{waited_tried}
use Rattle.abort_lazy.proofs.run.level.try_event.Goals as goal

pub returns-clause-tried : goal.returns-clause-tried
returns-clause-tried c = waited_tried _ _ _ _ _ c.await_event.ensures.view c.await_event.ensures.answers c.await_event.ensures.kept c.settle_or_keep.ensures.tried
