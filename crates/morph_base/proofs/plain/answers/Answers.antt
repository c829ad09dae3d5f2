use Rattle.std.proofs.Common.{◌≤◌, arith, sym, ◌∙◌}
use Rattle.std.proofs.lemmas.List.Elements.{All-push, All-nil}
use Rattle.morph_base.specs.declared.limits.TheConstants.{MAX}
use Rattle.morph_base.specs.Flat.{contents}
use Rattle.morph_base.proofs.PlainLaws.{all_answer-none, all_answer-more, all_answer-stops, answers-more}
use Rattle.morph_base.proofs.plain.answers.Goals as goal

pub loop-op-init : goal.loop-op-init
loop-op-init c = record {
  answered = all_answer-none (contents c.args.values.now);
  so_far = c.in_ok-answers.ensures.items;
  small = rw c.in_ok-answers.ensures.items (All-nil (λ v. v ≤ MAX));
  room = omega (arith, c.in_ok-answers.ensures.room);
}

pub returns-in-None : goal.returns-in-None
returns-in-None c = record {
  answers = all_answer-stops (contents c.args.values.now) c.args.ops.now c.loop-op.op-index _ c.loop-op-test.true (sym c.answer.ensures.value ∙ c.in-None.is);
}

pub loop-op-preserved : goal.loop-op-preserved
loop-op-preserved c =
    let s = contents c.args.values.now in
    let told = sym c.answer.ensures.value ∙ c.in-Some.is in
    record {
      answered = all_answer-more s c.args.ops.now c.loop-op.op-index _ c.in-Some.value c.loop-op-test.true c.loop-op.invariant.answered told;
      so_far = answers-more s c.args.ops.now c.loop-op.op-index _ c.loop-op.answers.items c.add.new.self.items c.in-Some.value c.loop-op-test.true
          c.loop-op.invariant.so_far told c.add.ensures.items;
      small = rw c.add.ensures.items (All-push (λ v. v ≤ MAX) c.loop-op.answers.items c.in-Some.value c.loop-op.invariant.small c.in-Some.ensures.small);
      room = omega arith;
    }
