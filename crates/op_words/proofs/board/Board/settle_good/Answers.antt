use Rattle.std.proofs.Common.{◌≡◌, ◌∙◌, subst, ap, inl}
use Rattle.morph_base.specs.declared.plan.Plan.{Plan}
use Rattle.morph_base.specs.declared.word.OpWord.{OpWord}
use Rattle.morph_base.specs.Words.{settled}
use Rattle.op_words.specs.Hands.{view_of, call_on}
use Rattle.op_words.specs.Comparing.{MaySettleIt, IsToCommit, IsSealed}
use Rattle.op_words.proofs.Sealing.{sealed_good}
use Rattle.op_words.proofs.board.Board.settle_good.Goals as goal

pub seal-requires-clause-grounds : goal.seal-requires-clause-grounds
seal-requires-clause-grounds c =
    let p = c.args.plan.now in let o = c.args.op in let v = view_of c.args.hand.now in let good = c.requires.good in
    let commits : IsToCommit p v o c.args.word c.settled-sealed.result = record {
      decided = c.requires.decided;
      executed = good.executed;
      equal = λ j below. record { seen = good.sources j below; recorded = good.records j below };
      word_is = c.settled-sealed.ensures ∙ ap (settled c.args.word.attempt c.args.word.value) c.requires.may.0.tag;
    } in
    subst (λ (q : Plan). MaySettleIt q v o c.args.word c.settled-sealed.result) c.requires.may.1 (inl commits)

pub returns : goal.returns
returns c =
    let b = c.args.self.now in let p = c.args.plan.now in let o = c.args.op in let w = c.args.word in let v = view_of c.args.hand.now in
    let new : c.settled-sealed.result ≡ settled w.attempt w.value v.tag = c.settled-sealed.ensures ∙ ap (settled w.attempt w.value) c.requires.may.0.tag in
    let sealed = subst (λ (z : OpWord). IsSealed (call_on b c.args.hand.now c.seal.new.hand) o w z c.seal.result) new c.seal.ensures in
    record { hand = sealed.hand; answer = sealed_good b p o c.args.hand.now c.seal.new.hand w c.requires.may.1 c.requires.may.3 c.seal.result sealed }
