use Rattle.std.proofs.Common.{◌≡◌, ◌<◌, ◌-◌, ℕ, List, length, sym, ap, subst, inl, inr, arith}
use Rattle.std.specs.Prelude.{Some, slice_get}
use Rattle.std.proofs.lemmas.Option.{get_or_from_slice_get, slice_get_within}
use Rattle.morph_base.specs.Plans.{op_count}
use Rattle.morph_base.specs.declared.plan.Plan.{Plan}
use Rattle.strata_explorer.specs.Passes.{FitsPass}
use Rattle.strata_explorer.proofs.Climbing.{level_is}
use Rattle.strata_explorer.proofs.Leveling.{levels_of}
use Rattle.strata_explorer.proofs.look_ahead.LookAhead.look.Goals as goal

-- the last operation of a level is one of the plan's
last_below : (p : Plan) (ops : List ℕ) (n o : ℕ) → FitsPass p ops → slice_get ops n ≡ Some o → o < op_count p
last_below p ops n o fits is =
    subst (λ q. q < op_count p) (get_or_from_slice_get ops n o 0 is) (fits.inside n 0 (slice_get_within ops n o is))

pub look_up_to-requires-clause-in_range : goal.look_up_to-requires-clause-in_range
look_up_to-requires-clause-in_range c =
    let p = c.args.ground.now.plan.now in
    let ops = c.as_slice.result.now in
    let is = level_is p c.args.level c.requires.level _ c.get.ensures.at _ c.as_slice.ensures in
    last_below p ops (length ops - 1) c.in-Some.last.now
    (subst (FitsPass p) (sym is) ((levels_of p c.requires.ground.valid).fits c.args.level))
    (sym c.in-Some.ensures.value)

pub returns-in-Some-clause-same : goal.returns-in-Some-clause-same
returns-in-Some-clause-same c why =
    let p = c.args.ground.now.plan.now in
    let ops = c.as_slice.result.now in
    let is = level_is p c.args.level c.requires.level _ c.get.ensures.at _ c.as_slice.ensures in
    let some : length ops - 1 < length ops = slice_get_within ops (length ops - 1) c.in-Some.last.now (sym c.in-Some.ensures.value) in
    elim why [
      | inl above ↦ absurd (omega (arith, above, c.if-number-gt0.false))
      | inr (inl several) ↦ absurd (omega (arith, several))
      | inr (inr none) ↦ absurd (omega (arith, some, ap (λ (os : List ℕ). length os) is, none))
    ]
