-- Laws of the versions of an input, and of the version line
use Rattle.std.proofs.Common.{◌≡◌, ℕ, ◌<◌, ◌≤◌, Bool, true, false, List, length, refl, ap, inl, inr, arith, zero-le}
use Rattle.std.proofs.lemmas.Slice.Eq.{bytes_eq-Decides}
use Rattle.morph_base.specs.declared.limits.TheConstants.{EVENTS, FIRST_MAX}
use Rattle.morph_base.specs.declared.key.Key.{Key}
use Rattle.morph_base.specs.declared.operation.Func.{Func}
use Rattle.morph_base.specs.Operations.{IsLimit, IsShaped, least_params, most_params}
use Rattle.morph_base.proofs.ShapeLaws.{op_of-limited}
use Rattle.event_reader.specs.declared.version.Version.{Version}
use Rattle.event_reader.specs.declared.version.Version.TheVariants.{One, Two}
use Rattle.event_reader.specs.Limits.{longest_line}
use Rattle.event_reader.specs.Versions.{greatest_of, most_events, op_in, version_text, is_version_line}

-- The greatest value of each version is that of a version
pub limit_of : (version : Version) → IsLimit (greatest_of version)
limit_of One = inl refl
limit_of Two = inr refl

-- The greatest value of each version is at least that of version 1
pub first_at_most : (version : Version) → FIRST_MAX ≤ greatest_of version
first_at_most One = omega arith
first_at_most Two = omega arith

-- No version has batches of more than EVENTS events
pub events_at_most : (version : Version) → most_events version ≤ EVENTS
events_at_most One = omega arith
events_at_most Two = omega arith

-- An operation of a version has a valid shape if it has as many parameters as its function takes, and its constant is
-- in the version's range
pub op_in-shaped : (version : Version) (func : Func) (key : Key) (params : List Key) (c : ℕ) → least_params func ≤ length params → length params ≤ most_params func → c ≤ greatest_of version
    → IsShaped (op_in version func key params c)
op_in-shaped version func key params c least most small = op_of-limited func key params c 0 (greatest_of version) least most zero-le small (limit_of version)

-- A line that is too long is not the version line
pub long_plain : (line : List ℕ) → longest_line < length line → is_version_line line ≡ false
long_plain line long = by_test (is_version_line line) refl
  where
    by_test : (t : Bool) → is_version_line line ≡ t → is_version_line line ≡ false
    by_test false is = is
    by_test true is = absurd (let short = ap length ((bytes_eq-Decides line version_text).0 is) in omega (arith, short, long))
