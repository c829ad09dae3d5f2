use Rattle.std.proofs.Common.{◌≡◌, ◌∙◌, ℕ, ap, sym, arith}
use Rattle.morph_base.specs.Plans.{final}
use Rattle.op_words.specs.declared.trail.View.{View}
use Rattle.op_words.specs.Closing.{IsClosed}
use Rattle.abort_lazy.specs.Finishing.{settler}
use Rattle.abort_lazy.proofs.Made.{pushed}
use Rattle.abort_lazy.proofs.Completing.{kept_right, settler_kept, settler_left}
use Rattle.abort_lazy.proofs.plain_finish.finish_op.Goals as goal
use Rattle.abort_lazy.proofs.plain_finish.finish_op.Goals.{then-is_settled, else-is_settled}

-- the value that it gets is the fold's
value_is : (c : goal.After-add-2) → c.if-is_settled.value.0 ≡ final c.args.plan.now c.args.o
value_is c =
    let p = c.args.plan.now in
    let board = c.requires.closed in
    elim c.if-is_settled.branch [
      | then-is_settled w ↦
          ap (λ (x : ℕ × ℕ). x.0) w.value-is
          ∙ kept_right p board.0 board.1 board.2 c.args.closed.now board.3 c.args.o c.word-word.result c.requires.plan c.requires.op
          (c.word-word.ensures.word p board.0 board.1 board.2 board.3 c.requires.op)
          (sym c.is_settled.ensures ∙ w.if-is_settled.true)
      | else-is_settled w ↦ ap (λ (x : ℕ × ℕ). x.0) w.value-is ∙ w.value_left.ensures
    ]

-- and its tag is that of the worker that settled it
tag_is : (c : goal.After-add-2) (cap counters : ℕ) (v : View) (is : IsClosed c.args.plan.now cap counters v c.args.closed.now)
    → c.if-is_settled.value.1 ≡ settler (is.ends.core.word c.args.o)
tag_is c cap counters v is =
    let read = c.word-word.ensures.word c.args.plan.now cap counters v is c.requires.op in
    elim c.if-is_settled.branch [
      | then-is_settled w ↦
          ap (λ (x : ℕ × ℕ). x.1) w.value-is
          ∙ settler_kept c.word-word.result (is.ends.core.word c.args.o) read (sym c.is_settled.ensures ∙ w.if-is_settled.true)
      | else-is_settled w ↦
          ap (λ (x : ℕ × ℕ). x.1) w.value-is
          ∙ settler_left c.word-word.result (is.ends.core.word c.args.o) read (sym c.is_settled.ensures ∙ w.if-is_settled.false)
    ]

pub returns-clause-finished : goal.returns-clause-finished
returns-clause-finished c =
    let o = c.args.o in
    record {
      values = pushed (final c.args.plan.now) o c.args.settled.now.values.items c.add.new.self.items c.if-is_settled.value.0 c.requires.earlier.values c.add.ensures.items (value_is c);
      workers = λ cap counters v is.
          pushed (λ k. settler (is.ends.core.word k)) o c.args.settled.now.by.items c.add-2.new.self.items c.if-is_settled.value.1
          (c.requires.earlier.workers cap counters v is) c.add-2.ensures.items (tag_is c cap counters v is);
      value_room = omega (arith, c.requires.earlier.value_room, c.add.ensures.room);
      worker_room = omega (arith, c.requires.earlier.worker_room, c.add-2.ensures.room);
    }
