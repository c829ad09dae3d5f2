use Rattle.std.proofs.Common.{◌∙◌, ℕ, ap}
use Rattle.morph_base.specs.declared.plan.Plan.{Plan}
use Rattle.morph_base.specs.Plans.{op_count}
use Rattle.morph_base.proofs.LevelLaws.{length-op_levels}
use Rattle.decision_model.specs.declared.counts.Last.{Last}
use Rattle.decision_model.specs.declared.counts.Profile.{Profile}
use Rattle.decision_model.proofs.profiles.profile.Goals as goal

abbrev counted : (ops levels : ℕ) → Plan → Last → Profile
counted ops levels p last = record { ops = ops; levels = levels; temporal = p.edges.temporal; parametric = p.edges.parametric; last = last }

pub returns : goal.returns
returns c =
    ap (λ n. counted n c.len-2.result c.args.plan.now c.args.last) c.len.ensures
    ∙ ap (λ n. counted (op_count c.args.plan.now) n c.args.plan.now c.args.last) (c.len-2.ensures ∙ length-op_levels c.args.plan.now c.requires.graph)
