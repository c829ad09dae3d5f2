use Rattle.std.proofs.Common.{◌≡◌, ◌∙◌, ap, ℕ, List}
use Rattle.morph_base.specs.Functions.{value_of}
use Rattle.morph_base.specs.Plans.{op_at}
use Rattle.interleaving_core.specs.Core.{ended, finished}
use Rattle.op_words.specs.Calls.{answer_of}
use Rattle.op_words.proofs.Handing.{kept, held_parts}
use Rattle.op_words.proofs.Fetching.{finish_does}
use Rattle.op_words.proofs.board.Board.finish.Goals as goal

pub returns-clause-hand : goal.returns-clause-hand
returns-clause-hand c = let q = c.requires.held in (c.end.ensures q.0 q.1 q.2).hand

pub returns-clause-answer : goal.returns-clause-answer
returns-clause-answer c =
    let q = c.requires.held in let p = c.args.plan.now in let o = c.args.op in
    let parts = held_parts c.args.hand.now c.in-Some.holding.now o q.0 q.1 (kept c.requires.may.0) c.in-Some.ensures q.2 in
    let answer : c.answer-answer.result ≡ value_of (op_at p o).op q.1 =
    c.answer-answer.ensures.value ∙ ap (λ (z : ℕ × List ℕ). value_of (op_at p z.0).op z.1) (λ i. (parts.0 i, parts.2 i)) in
    let word : c.word-word.result ≡ finished (op_at p o).op q.0 q.1 =
    c.word-word.ensures.word ∙ ap (λ (z : ℕ × List ℕ). ended z.0 z.1 c.answer-answer.result) (λ i. (parts.1 i, parts.2 i)) ∙ ap (ended q.0 q.1) answer in
    finish_does c.args.self.now p _ o c.args.hand.now c.end.new.hand c.word-word.result q.0 q.1 q.2 q.3 word (λ n ys held. c.end.ensures n ys held) c.of.result (c.of.ensures ∙ ap answer_of answer)
