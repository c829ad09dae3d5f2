use Rattle.std.proofs.Common.{◌≡◌, ◌-◌, ◌++◌, take, map, replicate}
use Rattle.morph_base.specs.declared.limits.TheConstants.{READS}
use Rattle.morph_base.specs.declared.plan.Origin.TheVariants.{Base}
use Rattle.morph_base.specs.OpParts.{origin_of}
use Rattle.morph_base.proofs.plan_ops.origins_in.Given as goal

abbrev pub invariant-loop-j : goal.invariant-loop-j
invariant-loop-j l = l.origins ≡ map origin_of (take l.j l.words) ++ replicate (READS - l.j) (Base 0)
