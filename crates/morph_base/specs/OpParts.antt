-- Inside the crate: the words of the sources of a plan's operations, and their marks
use Rattle.std.specs.Prelude.{ℕ, ◌-◌, ◌%◌, List, ◌++◌, length, map, replicate, if◌then◌else◌, nat_lt}
use Rattle.morph_base.specs.declared.limits.TheConstants.{READS}
use Rattle.morph_base.specs.declared.plan.Origin.{Origin}
use Rattle.morph_base.specs.declared.plan.Origin.TheVariants.{Base, Op as Written}
use Rattle.morph_base.specs.declared.plan_ops.OpMark.{OpMark}

-- The source that a word names: a base value if it is below 2^63, else the operation whose number is the lower half
abbrev pub origin_of : ℕ → Origin
origin_of w = if nat_lt w 9223372036854775808 then Base w else Written (w % 4294967296)

-- The sources of some words, and a base of 0 for each place that is not used
abbrev pub origins_in : List ℕ → List Origin
origins_in ws = map origin_of ws ++ replicate (READS - length ws) (Base 0)

-- The mark past the end of a list
abbrev pub no_mark : OpMark
no_mark = record { event = 0; level = 0 }
