use Rattle.std.proofs.Common.{◌≡◌, ◌∙◌, subst, ℕ, arith}
use Rattle.interleaving_core.specs.Core.{places}
use Rattle.op_words.specs.declared.answers.Compared.{Compared}
use Rattle.op_words.specs.Comparing.{IsComparedAt, IsComparedUpTo}
use Rattle.op_words.proofs.Comparing.{compare_none, compare_more, compare_stop, compare_all}
use Rattle.op_words.proofs.board.Board.compare.Goals as goal
use Rattle.op_words.specs.Hands.{call_on}

pub loop-j-init : goal.loop-j-init
loop-j-init c = compare_none _ _ _ _ c.requires.may.0

pub compare_at-compared-requires-clause-may : goal.compare_at-compared-requires-clause-may
compare_at-compared-requires-clause-may c =
    (c.loop-j.invariant.walk.hand, c.requires.may.1, c.requires.may.2, c.loop-j.invariant.walk.claim ∙ c.requires.may.3)

pub returns-in_default : goal.returns-in_default
returns-in_default c =
    compare_stop _ _ _ c.loop-j.j c.loop-j.invariant (let lt = c.loop-j-test.true in let e = c.places_of-j-end.ensures.places in omega (arith, lt, e)) c.compare_at-compared.result
    (λ same. c.in_default.not-Equal same) c.compare_at-compared.ensures

pub loop-j-preserved : goal.loop-j-preserved
loop-j-preserved c =
    compare_more _ _ _ c.loop-j.j c.loop-j.invariant
    (subst (λ (r : Compared). IsComparedAt (call_on c.args.self.now c.loop-j.hand c.compare_at-compared.new.hand) c.args.plan.now c.args.op c.loop-j.j r) c.in-Equal.is c.compare_at-compared.ensures)

pub returns : goal.returns
returns c =
    let e : c.loop-j.j ≡ places c.args.plan.now c.args.op = (let b = c.loop-j-test.false in let a = c.loop-j.auto.j-end in let p = c.places_of-j-end.ensures.places in omega (arith, a, b, p)) in
    compare_all _ _ _ (subst (λ (j : ℕ). IsComparedUpTo (call_on c.args.self.now c.args.hand.now c.loop-j.hand) c.args.plan.now c.args.op j) e c.loop-j.invariant)
