use Rattle.std.proofs.Common.{◌≡◌, ◌+◌, ◌<◌, refl, sym, subst, ◌∙◌, nat_le, count_by, arith}
use Rattle.std.proofs.lemmas.Bool.{true≢false}
use Rattle.morph_base.specs.Flat.{contents}
use Rattle.morph_base.specs.Plans.{op_count, op_at}
use Rattle.version_table.proofs.Versions.{IsVersion, version-taken, version-passed, version-end}
use Rattle.version_table.proofs.state.State.version.Goals as goal
use Rattle.version_table.proofs.state.State.version.Goals.{then-changes, else-changes}

pub loop-o-preserved : goal.loop-o-preserved
loop-o-preserved c =
    let lt : c.loop-o.o < op_count c.args.plan.now = omega (arith, c.len-o-end.ensures, c.loop-o-test.true) in
    let s = contents c.args.self.now in
    elim c.if-changes.branch [
      | then-changes w ↦
          version-taken c.args.plan.now s c.args.ts c.args.key c.requires.plan c.loop-o.o (op_at c.args.plan.now c.loop-o.o) lt refl c.if-changes.value
          (c.changes.ensures.0 w.if-changes.true) (w.value-is ∙ w.get-value-then-changes.ensures.at 0 ∙ c.requires.settled.value c.loop-o.o lt)
      | else-changes w ↦
          subst (IsVersion c.args.plan.now s (count_by (λ e. nat_le e.ts c.args.ts) c.args.plan.now.events.items) c.args.key (c.loop-o.o + 1)) (sym w.value-is)
          (version-passed c.args.plan.now s c.args.ts c.args.key c.requires.plan c.loop-o.o (op_at c.args.plan.now c.loop-o.o) lt refl c.loop-o.value
          (λ changes. true≢false (sym (c.changes.ensures.1 changes) ∙ w.if-changes.false)) c.loop-o.invariant)
    ]

pub returns : goal.returns
returns c =
    let s = contents c.args.self.now in
    let all : c.loop-o.o ≡ op_count c.args.plan.now = omega (arith, c.len-o-end.ensures, c.loop-o-test.false, c.loop-o.auto.o-end) in
    let until = count_by (λ e. nat_le e.ts c.args.ts) c.args.plan.now.events.items in
    version-end c.args.plan.now s until c.args.key c.loop-o.value c.requires.plan c.requires.bases
    (subst (λ n. IsVersion c.args.plan.now s until c.args.key n c.loop-o.value) all c.loop-o.invariant)
