use Rattle.std.proofs.Common.{◌≡◌, ℕ, ◌+◌, ◌<◌, List, ◌∷◌, [], ◌++◌, refl, sym, ap, subst, ◌∙◌, arith}
use Rattle.morph_base.specs.declared.limits.TheConstants.{EVENT_OPS}
use Rattle.morph_base.specs.declared.operation.Op.{Op}
use Rattle.morph_base.specs.declared.op_rows.OpLimits.{OpLimits}
use Rattle.morph_base.specs.declared.event_ops.EventOps.TheInside.{Inside}
use Rattle.morph_base.specs.EventViews.{ops_of_event, AreEventOps}
use Rattle.morph_base.proofs.RowEventLaws.{event_count, keys_fit, put_before, put_own, unkept_own, event_view, event_are, same_width}
use Rattle.morph_base.proofs.event_ops.EventOps.add.Goals as goal
use Rattle.morph_base.proofs.event_ops.EventOps.add.Goals.{then-op-gt0, else-op-gt0+else-op-ne-FIRST_MAX}

pub bounds-self-inside-self-inside : goal.bounds-self-inside-self-inside
bounds-self-inside-self-inside c =
    omega (arith, c.requires, event_count c.self.inside c.self.invariant c.args.self.now c.self.view_is)

pub put_keys-requires-clause-room : goal.put_keys-requires-clause-room
put_keys-requires-clause-room c =
    let room : c.self.inside.count < EVENT_OPS
    = omega (arith, c.requires, event_count c.self.inside c.self.invariant c.args.self.now c.self.view_is) in
    keys_fit c.self.inside c.self.invariant c.args.op c.width_of-width.ensures.whole room c.width_of-width.result
    (same_width c.args.op c.from.result c.from.ensures c.width_of-width.result c.width_of-width.ensures.count)

pub put_limits-requires-clause-room : goal.put_limits-requires-clause-room
put_limits-requires-clause-room c =
    omega (arith, c.requires, event_count c.self.inside c.self.invariant c.args.self.now c.self.view_is)

pub invariant_of-self : goal.invariant_of-self
invariant_of-self c =
    let s = c.self.inside in
    let op : Op = c.args.op in
    let width : ℕ = c.width_of-width.result in
    let room : s.count < EVENT_OPS = omega (
      arith,
      c.requires,
      event_count s c.self.invariant c.args.self.now
          c.self.view_is,
    ) in
    let kept = same_width op c.from.result c.from.ensures width c.width_of-width.ensures.count in
    let one : OpLimits = record { low = op.low; high = op.high } in
    let P : Inside → Type 0
    = λ x. AreEventOps (record {
      heads = x.heads;
      keys = x.keys;
      limits = x.limits;
      count = x.count + 1;
      used = x.used + width;
      limited = x.limited;
    }) in
    elim c.if-op-gt0.branch [
      | then-op-gt0 w ↦ subst P (sym w.self-inside-is)
          (event_are s c.self.invariant op c.width_of-width.ensures.whole room width kept c.put_keys.new.keys
          w.put_limits.new.limits (s.count + 1)
          c.put_keys.ensures.row c.put_keys.ensures.whole w.put_limits.ensures.whole (omega arith)
          (put_before s c.self.invariant w.put_limits.new.limits one w.put_limits.ensures.front)
          (put_own s c.self.invariant w.put_limits.new.limits one w.put_limits.ensures.front))
      | else-op-gt0+else-op-ne-FIRST_MAX w ↦ subst P (sym w.self-inside-is)
          (event_are s c.self.invariant op c.width_of-width.ensures.whole room width kept c.put_keys.new.keys s.limits
          s.limited
          c.put_keys.ensures.row c.put_keys.ensures.whole c.self.invariant.limits
          (omega (arith, c.self.invariant.limited))
          (λ k lt. refl)
          (unkept_own s c.self.invariant op.low op.high w.if-op-gt0.false w.if-op-ne-FIRST_MAX.false))
    ]

pub returns : goal.returns
returns c =
    let s = c.self.inside in
    let op : Op = c.args.op in
    let width : ℕ = c.width_of-width.result in
    let room : s.count < EVENT_OPS = omega (
      arith,
      c.requires,
      event_count s c.self.invariant c.args.self.now
          c.self.view_is,
    ) in
    let kept = same_width op c.from.result c.from.ensures width c.width_of-width.ensures.count in
    let one : OpLimits = record { low = op.low; high = op.high } in
    let P : Inside → Type 0
    = λ x. ops_of_event (record {
      heads = x.heads;
      keys = x.keys;
      limits = x.limits;
      count = x.count + 1;
      used = x.used + width;
      limited = x.limited;
    })
    ≡ ops_of_event s ++ op ∷ [] in
    let view : P c.if-op-gt0.self-inside
    = elim c.if-op-gt0.branch [
      | then-op-gt0 w ↦ subst P (sym w.self-inside-is)
          (event_view s c.self.invariant op c.width_of-width.ensures.whole room width kept c.put_keys.new.keys
          w.put_limits.new.limits (s.count + 1)
          c.put_keys.ensures.row c.put_keys.ensures.whole w.put_limits.ensures.whole (omega arith)
          (put_before s c.self.invariant w.put_limits.new.limits one w.put_limits.ensures.front)
          (put_own s c.self.invariant w.put_limits.new.limits one w.put_limits.ensures.front))
      | else-op-gt0+else-op-ne-FIRST_MAX w ↦ subst P (sym w.self-inside-is)
          (event_view s c.self.invariant op c.width_of-width.ensures.whole room width kept c.put_keys.new.keys
          s.limits s.limited
          c.put_keys.ensures.row c.put_keys.ensures.whole c.self.invariant.limits
          (omega (arith, c.self.invariant.limited))
          (λ k lt. refl)
          (unkept_own s c.self.invariant op.low op.high w.if-op-gt0.false w.if-op-ne-FIRST_MAX.false))
    ] in
    view ∙ ap (λ (l : List Op). l ++ op ∷ []) c.self.view_is
