-- What the check of an order's limit makes of its values.
use Rattle.std.proofs.Common.{◌≡◌, ℕ, ◌+◌, ◌-◌, ◌<◌, ◌≤◌, Bool, true, false, [], ◌∷◌, refl, ap, arith, Option, Some, None}
use Rattle.std.specs.Prelude.{nat_le, nat_lt}
use Rattle.std.proofs.lemmas.Bool.Decides.{nat_tests}
use Rattle.morph_base.specs.Functions.{value_of}
use Rattle.event_reader.specs.declared.version.Version.{Version}
use Rattle.event_reader.specs.VersionLaws.{first_at_most}
use Rattle.event_reader.specs.Versions.{greatest_of}
use Rattle.stock_app.specs.Stock.{limit_check}

pub kept : (version : Version) (customer limit cost x b : ℕ) → b + cost ≤ limit → value_of (limit_check version customer limit cost) (x ∷ b ∷ []) ≡ Some b
unfolding value_of
kept version customer limit cost x b fits =
    let small : nat_lt limit cost ≡ false = grind (arith, nat_tests, fits) in
    let room : nat_le (0 + b) (limit - cost) ≡ true = grind (arith, nat_tests, fits) in
    rw (small, room) (ap some (omega arith))
  where
    some : ℕ → Option ℕ
    some n = Some n

pub failed : (version : Version) (customer limit cost x b : ℕ) → x ≤ greatest_of version → limit < b + cost → value_of (limit_check version customer limit cost) (x ∷ b ∷ []) ≡ None
unfolding value_of
failed version customer limit cost x b low much = by_cost (nat_lt limit cost) refl
  where
    by_cost : (over : Bool) → nat_lt limit cost ≡ over → value_of (limit_check version customer limit cost) (x ∷ b ∷ []) ≡ None
    by_cost true is =
        let most = first_at_most version in
        let less : nat_lt x (greatest_of version + greatest_of version) ≡ true = grind (arith, nat_tests, low, most) in
        rw (is, less) refl
    by_cost false is =
        let above : nat_le (0 + b) (limit - cost) ≡ false = grind (arith, nat_tests, much, is) in
        rw (is, above) refl
