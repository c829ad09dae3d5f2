use Rattle.std.proofs.Common.{◌∙◌, sym, subst}
use Rattle.std.proofs.Common.{le_trans}
use Rattle.morph_base.specs.Plans.{IsPlan}
use Rattle.morph_base.proofs.BoundLaws.{high_of-small}
use Rattle.op_words.proofs.Fetching.{fetched_base}
use Rattle.op_words.proofs.board.Board.fetch.Goals as goal

pub returns-in-Base-clause-hand : goal.returns-in-Base-clause-hand
returns-in-Base-clause-hand c = let q = c.requires.held in (c.keep.ensures c.args.op q.0 q.1 q.2).hand

pub returns-in-Base-clause-answer : goal.returns-in-Base-clause-answer
returns-in-Base-clause-answer c =
    let q = c.requires.held in
    fetched_base c.args.self.now c.args.plan.now _ c.args.op c.args.j c.args.hand.now c.keep.new.hand q.0 c.in-Base.value q.1 q.2 (sym c.origin_of.ensures ∙ c.in-Base.is)
    (λ a ys holds. c.keep.ensures c.args.op a ys holds)

pub keep-requires-clause-value : goal.keep-requires-clause-value
keep-requires-clause-value c =
    let valid = subst IsPlan (sym c.requires.may.1) c.requires.may.0.valid in
    le_trans (valid.small c.args.op c.args.j c.in-Base.value c.requires.may.2 c.requires.in_places (sym c.origin_of.ensures ∙ c.in-Base.is)) (high_of-small c.args.plan.now valid)
