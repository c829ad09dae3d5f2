use Rattle.std.proofs.Common.{sym, ◌∙◌}
use Rattle.batch_tests.proofs.board.spread_twice.Goals as goal

pub spread-first-requires-clause-sibling : goal.spread-first-requires-clause-sibling
spread-first-requires-clause-sibling c =
    record { in_range = c.requires.sibling; another = c.requires.another; same_event = sym c.event.ensures ∙ c.if-event.false ∙ c.event-2.ensures; failure = c.fails.ensures.shown c.if-not-fails.false }

pub spread-again-requires-clause-sibling : goal.spread-again-requires-clause-sibling
spread-again-requires-clause-sibling c =
    let shown = c.fails.ensures.shown c.if-not-fails.false in
    record {
      in_range = c.requires.sibling;
      another = c.requires.another;
      same_event = sym c.event.ensures ∙ c.if-event.false ∙ c.event-2.ensures;
      failure = record { entry = shown.entry; inside = c.spread-first.ensures.answer.goes.adds.published shown.entry shown.inside; op_is = shown.op_is; failed_is = shown.failed_is };
    }
