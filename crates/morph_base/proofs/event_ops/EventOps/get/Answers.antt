use Rattle.std.proofs.Common.{◌≡◌, ℕ, ◌+◌, ◌-◌, ◌<◌, List, length, take, drop, sym, ap, ◌∙◌, arith}
use Rattle.morph_base.specs.declared.key.Key.{Key}
use Rattle.morph_base.specs.declared.op_rows.OpHead.{OpHead}
use Rattle.morph_base.specs.declared.op_rows.OpLimits.{OpLimits}
use Rattle.morph_base.specs.Operations.{limited_to}
use Rattle.morph_base.specs.RowViews.{row_head_at, key_row, op_headed, op_made}
use Rattle.morph_base.proofs.RowViewLaws.{inner, made_is, row_long}
use Rattle.morph_base.proofs.event_ops.EventOps.get.Goals as goal

-- the row between two places of a list
between : (h : OpHead) (keys : List Key) (width : ℕ) → width ≡ h.width
    → take (h.place + width - h.place) (drop h.place keys) ≡ key_row h keys
between h keys width is =
    let long : h.place + width - h.place ≡ h.width = omega arith in
    ap (λ (n : ℕ). take n (drop h.place keys)) long

pub offset_bounds-heads-i : goal.offset_bounds-heads-i
offset_bounds-heads-i c =
    let heads : List OpHead = c.rows.result.0.now in
    let lt : c.args.i < length heads
    = inner heads c.rows.result.1.now c.rows.result.2.now c.args.self.now c.rows.ensures.ops c.rows.ensures.rows
    c.args.i
    c.requires in
    omega (arith, c.rows.ensures.count)

pub bounds-heads-i : goal.bounds-heads-i
bounds-heads-i c =
    inner c.rows.result.0.now c.rows.result.1.now c.rows.result.2.now c.args.self.now c.rows.ensures.ops
    c.rows.ensures.rows c.args.i c.requires

pub op_in-requires-clause-some : goal.op_in-requires-clause-some
op_in-requires-clause-some c =
    let heads : List OpHead = c.rows.result.0.now in
    let keys : List Key = c.rows.result.1.now in
    let limits : List OpLimits = c.rows.result.2.now in
    let h : OpHead = row_head_at heads c.args.i in
    let lt : c.args.i < length heads
    = inner heads keys limits c.args.self.now c.rows.ensures.ops c.rows.ensures.rows c.args.i c.requires in
    let long : length (key_row h keys) ≡ h.width
    = row_long heads keys limits c.args.self.now c.rows.ensures.ops c.rows.ensures.rows c.args.i c.requires in
    omega (arith, ap length (between h keys c.from.result c.from.ensures), long, c.rows.ensures.rows.some c.args.i lt)

pub returns : goal.returns
returns c =
    let heads : List OpHead = c.rows.result.0.now in
    let keys : List Key = c.rows.result.1.now in
    let limits : List OpLimits = c.rows.result.2.now in
    let h : OpHead = row_head_at heads c.args.i in
    let l : OpLimits = c.limits_in-low.result in
    c.limited.ensures.parts
    ∙ ap (limited_to l.low l.high) (c.op_in.ensures ∙ ap (op_headed h) (between h keys c.from.result c.from.ensures))
    ∙ ap (λ (x : OpLimits). op_made x h (key_row h keys)) c.limits_in-low.ensures
    ∙ sym (made_is heads keys limits c.args.self.now c.rows.ensures.ops c.rows.ensures.rows c.args.i c.requires)
