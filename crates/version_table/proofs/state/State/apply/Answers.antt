use Rattle.std.proofs.Common.{◌≡◌, ℕ, List, ◌<◌, ◌≤◌, ap, sym, subst, ◌∙◌, slice_index, zero-lt-suc, arith}
use Rattle.morph_base.specs.declared.limits.TheConstants.{MAX}
use Rattle.morph_base.specs.declared.key.Key.{Key}
use Rattle.morph_base.specs.declared.plan.Plan.{Plan}
use Rattle.morph_base.specs.Operations.{no_key}
use Rattle.morph_base.specs.States.{State, overwritten}
use Rattle.morph_base.specs.Flat.{contents}
use Rattle.morph_base.specs.Plans.{IsPlan, HasBases, event_count, state_at, op_count, target, final}
use Rattle.morph_base.proofs.BoundLaws.{final-small, state_at-small}
use Rattle.morph_base.proofs.EndLaws.{overwritten-end}
use Rattle.version_table.proofs.Overwriting.{overwritten-zero, overwritten-step, overwritten-same}
use Rattle.version_table.proofs.state.State.apply.Goals as goal

pub loop-o-init : goal.loop-o-init
loop-o-init c = record {
  state = ap contents c.self.view_is ∙ sym (overwritten-zero (target c.args.plan.now) (contents c.args.self.now) (slice_index c.args.settled.now.values.items));
  layout = ap (λ k. k.layout) c.self.view_is;
}

pub put-requires-clause-key : goal.put-requires-clause-key
put-requires-clause-key c =
    let lt : c.loop-o.o < op_count c.args.plan.now = omega (arith, c.len-o-end.ensures, c.requires.settled.values, c.loop-o-test.true) in
    rw (c.key-key.ensures, c.loop-o.invariant.layout) (c.requires.keys c.loop-o.o lt 0 no_key (zero-lt-suc _))

pub put-requires-clause-small : goal.put-requires-clause-small
put-requires-clause-small c =
    let lt : c.loop-o.o < op_count c.args.plan.now = omega (arith, c.len-o-end.ensures, c.requires.settled.values, c.loop-o-test.true) in
    rw (c.get.ensures.at 0, c.requires.settled.value c.loop-o.o lt) (final-small c.args.plan.now c.loop-o.o c.requires.plan)

pub loop-o-preserved : goal.loop-o-preserved
loop-o-preserved c = record {
  state =
      overwritten-step (target c.args.plan.now) (contents c.args.self.now) (slice_index c.args.settled.now.values.items) c.loop-o.o
      (contents c.loop-o.self-inside.values) (contents c.put.new.self) c.key-key.result c.get.result.now c.loop-o.invariant.state
      c.put.ensures.state c.key-key.ensures (c.get.ensures.at 0);
  layout = c.put.ensures.layout ∙ c.loop-o.invariant.layout;
}

end_state : (p : Plan) (s t : State) (values : List ℕ) (n : ℕ) → IsPlan p → HasBases p s → ((o : ℕ) → o < op_count p → slice_index values o ≡ final p o)
    → n ≡ op_count p → t ≡ overwritten (target p) (slice_index values) s n → t ≡ state_at p s (event_count p)
end_state p s t values n valid based settled all so_far =
    so_far
    ∙ ap (overwritten (target p) (slice_index values) s) all
    ∙ overwritten-same (target p) s (slice_index values) (final p) (op_count p) settled
    ∙ overwritten-end p s valid based

pub returns-clause-state : goal.returns-clause-state
returns-clause-state c =
    let all : c.loop-o.o ≡ op_count c.args.plan.now = omega (arith, c.len-o-end.ensures, c.requires.settled.values, c.loop-o-test.false, c.loop-o.auto.o-end) in
    end_state c.args.plan.now (contents c.args.self.now) (contents c.loop-o.self-inside.values) c.args.settled.now.values.items c.loop-o.o c.requires.plan
    c.requires.bases c.requires.settled.value all c.loop-o.invariant.state

pub invariant_of-self : goal.invariant_of-self
invariant_of-self c =
    let s = contents c.args.self.now in
    let all : c.loop-o.o ≡ op_count c.args.plan.now = omega (arith, c.len-o-end.ensures, c.requires.settled.values, c.loop-o-test.false, c.loop-o.auto.o-end) in
    let small : (key : Key) → s key ≤ MAX = rw c.self.view_is at c.self.invariant in
    let is = end_state c.args.plan.now s (contents c.loop-o.self-inside.values) c.args.settled.now.values.items c.loop-o.o c.requires.plan
    c.requires.bases c.requires.settled.value all c.loop-o.invariant.state in
    λ key. subst (λ (t : State). t key ≤ MAX) (sym is) (state_at-small c.args.plan.now s (event_count c.args.plan.now) key c.requires.plan small)
