use Rattle.std.proofs.Common.{◌≡◌, ◌∙◌, ap, subst, ℕ, arith}
use Rattle.std.specs.Prelude.{Option}
use Rattle.interleaving_core.specs.Core.{places}
use Rattle.op_words.specs.declared.answers.Stop.{Stop}
use Rattle.op_words.specs.declared.trail.View.{View}
use Rattle.op_words.specs.Stepping.{IsSoughtUpTo, SoughtAt}
use Rattle.op_words.proofs.Seeking.{seek_none, seek_more, seek_stop, seek_all}
use Rattle.op_words.proofs.board.Board.idle_source.Goals as goal
use Rattle.op_words.specs.Hands.{call_on}

pub loop-j-init : goal.loop-j-init
loop-j-init c = seek_none _ _ _ _ c.requires.may.0

pub idle_at-requires-clause-may : goal.idle_at-requires-clause-may
idle_at-requires-clause-may c =
    (c.loop-j.invariant.row.hand, c.requires.may.1, c.requires.may.2, ap (λ (v : View). v.claim) c.loop-j.invariant.row.view ∙ c.requires.may.3)

pub returns-in-Some : goal.returns-in-Some
returns-in-Some c =
    seek_stop _ _ _ c.loop-j.j (let lt = c.loop-j-test.true in let e = c.places_of-j-end.ensures.places in omega (arith, lt, e)) c.loop-j.invariant
    (subst (λ (r : Option Stop). SoughtAt (call_on c.args.self.now c.loop-j.hand c.idle_at.new.hand) c.args.plan.now c.args.op c.loop-j.j r) c.in-Some.is c.idle_at.ensures)

pub loop-j-preserved : goal.loop-j-preserved
loop-j-preserved c =
    seek_more _ _ _ c.loop-j.j c.loop-j.invariant (subst (λ (r : Option Stop). SoughtAt (call_on c.args.self.now c.loop-j.hand c.idle_at.new.hand) c.args.plan.now c.args.op c.loop-j.j r) c.in_default.is c.idle_at.ensures)

pub returns : goal.returns
returns c =
    let e : c.loop-j.j ≡ places c.args.plan.now c.args.op = (let b = c.loop-j-test.false in let a = c.loop-j.auto.j-end in let p = c.places_of-j-end.ensures.places in omega (arith, a, b, p)) in
    seek_all _ _ _ (subst (λ (j : ℕ). IsSoughtUpTo (call_on c.args.self.now c.args.hand.now c.loop-j.hand) c.args.plan.now c.args.op j) e c.loop-j.invariant)
