use Rattle.std.specs.Prelude.{All, IfSome}
use Rattle.std.proofs.Common.{◌≡◌, ℕ, ◌≤◌, drop, get_or, subst, sym, ap, ◌∙◌, arith}
use Rattle.morph_base.specs.declared.limits.TheConstants.{MAX}
use Rattle.morph_base.specs.declared.op_rows.OpHead.{OpHead}
use Rattle.morph_base.specs.declared.op_rows.OpLimits.{OpLimits}
use Rattle.morph_base.specs.Functions.{value_of, result_of}
use Rattle.morph_base.specs.Operations.{least_params, no_op}
use Rattle.morph_base.specs.RowViews.{no_row_head, row_head_at, row_limits_at}
use Rattle.morph_base.proofs.ShapeLaws.{limit-small}
use Rattle.morph_base.proofs.RowViewLaws.{inner, func_is, constant_is, floor_is, limit_is, value_is}
use Rattle.morph_base.proofs.op_rows.OpRows.eval.Goals as goal

pub get-head-requires : goal.get-head-requires
get-head-requires c =
    let s = c.self.inside in
    inner s.heads.items s.keys.items s.limits.items c.args.self.now c.self.view_is c.self.invariant.rows c.args.o
    c.requires.inside

pub eval_by-requires-clause-params : goal.eval_by-requires-clause-params
eval_by-requires-clause-params c =
    let s = c.self.inside in
    let func : (get_or c.args.self.now c.args.o no_op).func ≡ c.get-head.result.now.func
    = func_is s.heads.items s.keys.items s.limits.items c.args.self.now c.self.view_is c.self.invariant.rows c.args.o
    c.requires.inside
    ∙ sym (ap (λ (h : OpHead). h.func) (c.get-head.ensures.at no_row_head)) in
    omega (arith, ap least_params func, c.requires.shaped.at_least, c.requires.reads)

pub eval_by-requires-clause-constant : goal.eval_by-requires-clause-constant
eval_by-requires-clause-constant c =
    let s = c.self.inside in
    let op = get_or c.args.self.now c.args.o no_op in
    let constant = constant_is s.heads.items s.keys.items s.limits.items c.args.self.now c.self.view_is
    c.self.invariant.rows c.args.o c.requires.inside in
    let most : op.high ≤ MAX = limit-small op.high c.requires.shaped.limit in
    omega (
      arith,
      constant,
      ap (λ (h : OpHead). h.c) (c.get-head.ensures.at no_row_head),
      c.requires.shaped.constant,
      most,
    )

pub eval_by-requires-clause-floor : goal.eval_by-requires-clause-floor
eval_by-requires-clause-floor c =
    let s = c.self.inside in
    let op = get_or c.args.self.now c.args.o no_op in
    let floor = floor_is s.heads.items s.keys.items s.limits.items c.args.self.now c.self.view_is
    c.self.invariant.rows c.args.o c.requires.inside in
    let most : op.high ≤ MAX = limit-small op.high c.requires.shaped.limit in
    omega (arith, floor, ap (λ (l : OpLimits). l.low) c.limits_at-low.ensures, c.requires.shaped.floor, most)

pub eval_by-requires-clause-limit : goal.eval_by-requires-clause-limit
eval_by-requires-clause-limit c =
    let s = c.self.inside in
    let op = get_or c.args.self.now c.args.o no_op in
    let limit = limit_is s.heads.items s.keys.items s.limits.items c.args.self.now c.self.view_is
    c.self.invariant.rows c.args.o c.requires.inside in
    let most : op.high ≤ MAX = limit-small op.high c.requires.shaped.limit in
    omega (arith, limit, ap (λ (l : OpLimits). l.high) c.limits_at-low.ensures, most)

pub returns-clause-value : goal.returns-clause-value
returns-clause-value c =
    let s = c.self.inside in
    let xs = c.args.xs.now in
    let o = c.args.o in
    let h : OpHead = c.get-head.result.now in
    let value : value_of (get_or c.args.self.now o no_op) xs ≡ result_of c.limits_at-low.result.low
    c.limits_at-low.result.high h.func h.c (get_or xs 0 0) (drop 1 xs)
    = value_is s.heads.items s.keys.items s.limits.items c.args.self.now c.self.view_is c.self.invariant.rows o
    c.requires.inside xs
    ∙ ap (λ (x : OpHead). result_of (row_limits_at s.limits.items o).low (row_limits_at s.limits.items o).high x.func
    x.c (get_or xs 0 0) (drop 1 xs)) (sym (c.get-head.ensures.at no_row_head))
    ∙ ap (λ (l : OpLimits). result_of l.low l.high h.func h.c (get_or xs 0 0) (drop 1 xs))
    (sym c.limits_at-low.ensures) in
    c.eval_by.ensures.value ∙ sym value

pub returns-clause-within : goal.returns-clause-within
returns-clause-within c small =
    let s = c.self.inside in
    let op = get_or c.args.self.now c.args.o no_op in
    let limit : op.high ≡ c.limits_at-low.result.high
    = limit_is s.heads.items s.keys.items s.limits.items c.args.self.now c.self.view_is c.self.invariant.rows c.args.o
    c.requires.inside
    ∙ sym (ap (λ (l : OpLimits). l.high) c.limits_at-low.ensures) in
    let constant = constant_is s.heads.items s.keys.items s.limits.items c.args.self.now c.self.view_is
    c.self.invariant.rows c.args.o c.requires.inside in
    let head : c.get-head.result.now.c ≡ (row_head_at s.heads.items c.args.o).c = ap (λ (h : OpHead). h.c)
    (c.get-head.ensures.at no_row_head) in
    subst (λ (high : ℕ). IfSome c.eval_by.result (λ v. v ≤ high)) (sym limit)
    (c.eval_by.ensures.within (omega (arith, constant, head, c.requires.shaped.constant, limit))
    (subst (λ (high : ℕ). All (λ x. x ≤ high) c.args.xs.now) limit small))
