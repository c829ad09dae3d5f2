use Rattle.std.proofs.Common.{ap, ◌∙◌, arith, sym}
use Rattle.op_words.specs.declared.trail.View.{View}
use Rattle.op_words.specs.Hands.{view_of}
use Rattle.op_words.specs.Views.{merged, parent}
use Rattle.abort_lazy.specs.Runs.{with_idle}
use Rattle.abort_lazy.proofs.Idle.{empty_more, empty_none, idled_made, idled_next, idled_none, idled_tag}
use Rattle.abort_lazy.proofs.run.add_idle.Goals as goal

pub hands-init : goal.hands-init
hands-init c = (c.requires.root, sym (idled_none (view_of c.args.root.now)), empty_none c.args.left.now.items, omega arith)

pub split-hand-requires-clause-root : goal.split-hand-requires-clause-root
split-hand-requires-clause-root c = ap (λ (v : View). v.tag) c.hands.invariant.1 ∙ idled_tag c.hands.counter (view_of c.args.root.now) ∙ c.requires.tag

pub split-hand-requires-clause-few : goal.split-hand-requires-clause-few
split-hand-requires-clause-few c =
    let made = ap (λ (v : View). v.made) c.hands.invariant.1 ∙ idled_made c.hands.counter (view_of c.args.root.now) in
    let few = c.requires.few (omega (arith, c.hands-test.true)) in
    omega (arith, made, few, c.hands-test.true)

pub join-requires-clause-root : goal.join-requires-clause-root
join-requires-clause-root c = ap (λ (v : View). v.tag) c.split-hand.ensures.parent ∙ ap (λ (v : View). v.tag) c.hands.invariant.1 ∙ idled_tag c.hands.counter (view_of c.args.root.now) ∙ c.requires.tag

pub join-requires-clause-free : goal.join-requires-clause-free
join-requires-clause-free c = ap (λ (v : View). v.claim) c.split-hand.ensures.child

pub hands-preserved : goal.hands-preserved
hands-preserved c =
    let before = view_of c.hands.root in (
      c.join.ensures.hand,
      c.join.ensures.view ∙ ap (λ v. merged v (view_of c.split-hand.result)) c.split-hand.ensures.parent ∙ ap (merged (parent before)) c.split-hand.ensures.child ∙ ap with_idle c.hands.invariant.1
          ∙ sym (idled_next c.hands.counter (view_of c.args.root.now)),
      empty_more c.hands.counter c.args.left.now.items c.hands.left.items c.add.new.self.items c.new.result c.hands.invariant.2 c.new.ensures.items c.add.ensures.items,
      omega (arith, c.hands.invariant.3, c.add.ensures.room),
    )
