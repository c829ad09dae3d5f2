use Rattle.std.proofs.Common.{sym, subst, refl, ◌∙◌}
use Rattle.op_words.specs.Hands.{cap_of}
use Rattle.op_words.specs.Views.{HasShownFailure}
use Rattle.op_eval.specs.Running.{hand_view}
use Rattle.abort_eager.specs.Sweeps.{SweepsAll}
use Rattle.abort_eager.specs.Touching.{HasCause}
use Rattle.abort_eager.proofs.Noting.{noted_more, noted_end}
use Rattle.abort_eager.proofs.Touching.{touched_fewer, next_in_range}
use Rattle.abort_eager.proofs.attempts.run_cascade.Goals as goal

pub loop-touched-init : goal.loop-touched-init
loop-touched-init g c =
    let start = c.start-cascade.ensures in (
      c.requires.may.2,
      start.cascade,
      λ failed. subst (λ o. HasShownFailure (hand_view c.args.runner.now) o) (sym start.op) (c.requires.cause (sym start.failed ∙ failed)),
      λ u all. subst (λ gs. SweepsAll c.args.ground.now.plan.now (cap_of c.args.ground.now.board.now) g.N.Notes.leaves gs c.args.runner.now u) start.targets all,
    )

pub note-requires : goal.note-requires
note-requires g c =
    let within = next_in_range _ _ c.loop-touched.cascade c.next.new.self _ _ c.in-Some.touched c.in-Some.ensures.answer in
    record { may = (c.requires.may.0, within, record { hand = c.next.ensures.hand; free = c.next.ensures.free }) }

pub loop-touched-preserved : goal.loop-touched-preserved
loop-touched-preserved g c = (
  c.note.ensures.idle,
  c.in-Some.ensures.goes.cascade,
  subst (HasCause c.next.new.self) (sym c.note.ensures.like.view) c.in-Some.ensures.cause,
  λ u all.
      c.loop-touched.invariant.3 u
      (noted_more _ _ _ c.loop-touched.cascade c.next.new.self c.loop-touched.runner c.note.new.runner u c.next.new.hand c.in-Some.touched c.in-Some.ensures.answer c.note.ensures.like c.note.ensures.leaves all),
)

pub loop-touched-smaller : goal.loop-touched-smaller
loop-touched-smaller g c = touched_fewer _ _ c.loop-touched.cascade c.next.new.self _ _ _ c.in-Some.ensures.answer

pub returns-clause-sweeps : goal.returns-clause-sweeps
returns-clause-sweeps g c = c.loop-touched.invariant.3 _ (noted_end _ _ _ c.loop-touched.cascade c.next.new.self c.loop-touched.runner c.next.new.hand c.in_default.ensures.answer (c.in_default.ensures.still refl))
