use Rattle.std.proofs.Common.{◌≡◌, ◌∙◌, refl, ap, subst, ℕ, arith}
use Rattle.interleaving_core.specs.Core.{places}
use Rattle.op_words.specs.declared.trail.View.{View}
use Rattle.op_words.specs.Values.{IsLoadedUpTo}
use Rattle.op_words.specs.Hands.{call_on}
use Rattle.op_words.proofs.Attempting.{loaded_none, loaded_more, loaded_stop, loaded_all}
use Rattle.op_words.proofs.board.Board.load_all.Goals as goal

pub loop-j-init : goal.loop-j-init
loop-j-init c = loaded_none _ _ _ _ _ _ _ c.requires.may.0 c.requires.fits refl c.requires.none

pub source_value-requires-clause-may : goal.source_value-requires-clause-may
source_value-requires-clause-may c =
    (c.loop-j.invariant.row.hand, c.requires.may.1, c.requires.may.2, ap (λ (v : View). v.claim) c.loop-j.invariant.row.view ∙ c.requires.may.3)

pub put-requires-clause-few : goal.put-requires-clause-few
put-requires-clause-few c =
    let lt = c.loop-j-test.true in let e = c.places_of-j-end.ensures in let count = c.loop-j.invariant.count in let few = e.few in let all = e.places in
    omega (arith, lt, few, count, all)

pub returns-in-Err : goal.returns-in-Err
returns-in-Err c =
    loaded_stop _ _ _ _ _ _ c.in-Err.stop c.loop-j.j (let lt = c.loop-j-test.true in let e = c.places_of-j-end.ensures.places in omega (arith, lt, e)) c.loop-j.invariant c.in-Err.ensures

pub loop-j-preserved : goal.loop-j-preserved
loop-j-preserved c = loaded_more _ _ _ _ _ _ _ _ c.loop-j.j c.loop-j.invariant c.in-Ok.ensures c.put.ensures.attempt c.put.ensures.values c.put.ensures.fits

pub returns : goal.returns
returns c =
    let e : c.loop-j.j ≡ places c.args.plan.now c.args.op = (let b = c.loop-j-test.false in let a = c.loop-j.auto.j-end in let p = c.places_of-j-end.ensures.places in omega (arith, a, b, p)) in
    loaded_all _ _ _ _ _ _ (subst (λ (j : ℕ). IsLoadedUpTo (call_on c.args.self.now c.args.hand.now c.loop-j.hand) c.args.plan.now c.args.op c.args.needed c.args.found.now.attempt j c.loop-j.found) e c.loop-j.invariant)
