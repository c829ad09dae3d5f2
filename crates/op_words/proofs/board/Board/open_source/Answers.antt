use Rattle.std.proofs.Common.{◌≡◌, ◌∙◌, ap, sym, subst, Bool, true, ℕ, arith, Some, None}
use Rattle.std.specs.Prelude.{Result}
use Rattle.interleaving_core.specs.Core.{places}
use Rattle.op_words.specs.declared.answers.Stop.{Stop}
use Rattle.op_words.specs.declared.trail.View.{View}
use Rattle.op_words.specs.Grounds.{SourceDoes, OpenDoes, IsSettledUpToPlace}
use Rattle.op_words.proofs.Looking.{open_none, settled_none, settled_more, settled_stop, settled_all}
use Rattle.op_words.proofs.board.Board.open_source.Goals as goal
use Rattle.op_words.specs.Hands.{call_on}

pub returns-then-not-needed : goal.returns-then-not-needed
returns-then-not-needed c =
    subst (λ (n : Bool). OpenDoes (call_on c.args.self.now c.args.hand.now c.args.hand.now) c.args.plan.now c.args.op n None) (sym c.if-not-needed.true) (open_none _ _ _ _ c.requires.may.0)

pub loop-k-init : goal.loop-k-init
loop-k-init c = settled_none _ _ _ _ c.requires.may.0

pub source_value-requires-clause-may : goal.source_value-requires-clause-may
source_value-requires-clause-may c =
    (c.loop-k.invariant.row.hand, c.requires.may.1, c.requires.may.2, ap (λ (v : View). v.claim) c.loop-k.invariant.row.view ∙ c.requires.may.3)

pub returns-in-Err : goal.returns-in-Err
returns-in-Err c =
    let b = c.args.self.now in let p = c.args.plan.now in let o = c.args.op in
    subst (λ (n : Bool). OpenDoes (call_on b c.args.hand.now c.source_value.new.hand) p o n (Some c.in-Err.stop)) (sym c.if-not-needed.false)
    (settled_stop b p o c.loop-k.k (let lt = c.loop-k-test.true in let e = c.places_of-k-end.ensures.places in omega (arith, lt, e)) c.loop-k.invariant
    (subst (λ (r : Result ℕ Stop). SourceDoes (call_on c.args.self.now c.loop-k.hand c.source_value.new.hand) c.args.plan.now c.args.op c.loop-k.k true r) c.in-Err.is c.source_value.ensures))

pub loop-k-preserved : goal.loop-k-preserved
loop-k-preserved c =
    settled_more _ _ _ c.loop-k.k c.loop-k.invariant (subst (λ (r : Result ℕ Stop). SourceDoes (call_on c.args.self.now c.loop-k.hand c.source_value.new.hand) c.args.plan.now c.args.op c.loop-k.k true r) c.in_default.is c.source_value.ensures)

pub returns : goal.returns
returns c =
    let e : c.loop-k.k ≡ places c.args.plan.now c.args.op = (let b = c.loop-k-test.false in let a = c.loop-k.auto.k-end in let p = c.places_of-k-end.ensures.places in omega (arith, a, b, p)) in
    subst (λ (n : Bool). OpenDoes (call_on c.args.self.now c.args.hand.now c.loop-k.hand) c.args.plan.now c.args.op n None) (sym c.if-not-needed.false)
    (settled_all _ _ _ (subst (λ (j : ℕ). IsSettledUpToPlace (call_on c.args.self.now c.args.hand.now c.loop-k.hand) c.args.plan.now c.args.op j) e c.loop-k.invariant))
