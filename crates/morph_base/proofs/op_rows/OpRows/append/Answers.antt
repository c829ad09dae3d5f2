use Rattle.std.proofs.Common.{◌≡◌, ℕ, ◌+◌, ◌≤◌, List, ◌++◌, length, map, length-append, sym, ap, ◌∙◌, arith}
use Rattle.morph_base.specs.declared.key.Key.{Key}
use Rattle.morph_base.specs.declared.operation.Op.{Op}
use Rattle.morph_base.specs.declared.op_rows.OpHead.{OpHead}
use Rattle.morph_base.specs.declared.op_rows.OpLimits.{OpLimits}
use Rattle.morph_base.specs.RowViews.{row_limits_at, row_ops, shifted}
use Rattle.morph_base.proofs.RowViewLaws.{rows_few}
use Rattle.morph_base.proofs.RowAppendLaws.{appended_view, appended_are}
use Rattle.morph_base.proofs.op_rows.OpRows.append.Goals as goal

pub make_room_for_limits-requires-clause-fits : goal.make_room_for_limits-requires-clause-fits
make_room_for_limits-requires-clause-fits c =
    let s = c.self.inside in
    let few : length s.heads.items ≤ length s.keys.items
    = rows_few s.heads.items s.keys.items s.limits.items c.self.invariant.rows in
    omega (arith, few, c.len-o.ensures, c.self.invariant.fits, c.rows.ensures.rows.limited, c.rows.ensures.count)

pub invariant_of-self-2 : goal.invariant_of-self-2
invariant_of-self-2 c =
    let s = c.self.inside in
    let more : List OpHead = c.rows.result.0.now in
    let limits : List OpLimits = c.add_limits.new.limits.items in
    let heads : c.add_heads.new.heads.items ≡ s.heads.items ++ map (shifted c.len-base.result) more
    = c.add_heads.ensures ∙ ap (λ (l : List OpHead). l ++ map (shifted c.len-base.result) more)
    c.reserve.ensures.items in
    let keys : c.add_keys.new.keys.items ≡ s.keys.items ++ c.rows.result.1.now
    = c.add_keys.ensures ∙ ap (λ (l : List Key). l ++ c.rows.result.1.now) c.reserve-2.ensures.items in
    let count : c.len-o.result ≡ length s.heads.items = c.len-o.ensures in
    record {
      rows = appended_are s.heads.items more s.keys.items c.rows.result.1.now s.limits.items c.rows.result.2.now limits
          c.self.invariant.rows c.rows.ensures.rows
          (omega (arith, count, c.add_limits.ensures.short, c.rows.ensures.rows.limited))
          (λ k lt. c.add_limits.ensures.others k (omega (arith, count))
          ∙ ap (λ (l : List OpLimits). row_limits_at l k) c.make_room_for_limits.ensures.items)
          (λ k. ap (λ (n : ℕ). row_limits_at limits (n + k)) (sym count) ∙ c.add_limits.ensures.own k)
          c.add_heads.new.heads.items c.add_keys.new.keys.items c.len-base.result c.len-base.ensures heads keys;
      fits = omega (
        arith,
        ap length keys,
        length-append s.keys.items c.rows.result.1.now,
        c.if-base-ge-MOST_KEYS.false,
        c.len-base.ensures,
        c.rows.ensures.used,
        c.rows.ensures.count,
      );
    }

pub returns-clause-ops : goal.returns-clause-ops
returns-clause-ops c =
    let s = c.self.inside in
    let more : List OpHead = c.rows.result.0.now in
    let limits : List OpLimits = c.add_limits.new.limits.items in
    let heads : c.add_heads.new.heads.items ≡ s.heads.items ++ map (shifted c.len-base.result) more
    = c.add_heads.ensures ∙ ap (λ (l : List OpHead). l ++ map (shifted c.len-base.result) more)
    c.reserve.ensures.items in
    let keys : c.add_keys.new.keys.items ≡ s.keys.items ++ c.rows.result.1.now
    = c.add_keys.ensures ∙ ap (λ (l : List Key). l ++ c.rows.result.1.now) c.reserve-2.ensures.items in
    let count : c.len-o.result ≡ length s.heads.items = c.len-o.ensures in
    appended_view s.heads.items more s.keys.items c.rows.result.1.now s.limits.items c.rows.result.2.now limits
    c.self.invariant.rows c.rows.ensures.rows
    (omega (arith, count, c.add_limits.ensures.short, c.rows.ensures.rows.limited))
    (λ k lt. c.add_limits.ensures.others k (omega (arith, count))
    ∙ ap (λ (l : List OpLimits). row_limits_at l k) c.make_room_for_limits.ensures.items)
    (λ k. ap (λ (n : ℕ). row_limits_at limits (n + k)) (sym count) ∙ c.add_limits.ensures.own k)
    c.add_heads.new.heads.items c.add_keys.new.keys.items c.len-base.result c.len-base.ensures heads keys
    ∙ ap (λ (l : List Op). l ++ row_ops more c.rows.result.1.now c.rows.result.2.now) c.self.view_is
    ∙ ap (λ (l : List Op). c.args.self.now ++ l) c.rows.ensures.ops
