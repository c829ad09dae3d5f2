-- Operations of a valid shape, and what holds of each of a few items.
use Rattle.std.proofs.Common.{◌≡◌, ℕ, ◌-◌, ◌<◌, ◌≤◌, List, [], ◌∷◌, ◌++◌, length, take, replicate, ap, refl, inl, inr, arith, length-append}
use Rattle.std.specs.Prelude.{slice_index_or}
use Rattle.std.specs.List.{All, AllByRecursion}
use Rattle.std.proofs.lemmas.Grind.{common_steps}
use Rattle.std.proofs.lemmas.List.Elements.{All-nil, All-cons}
use Rattle.morph_base.specs.declared.limits.TheConstants.{FIRST_MAX, MAX, PARAMS}
use Rattle.morph_base.specs.declared.key.Key.{Key}
use Rattle.morph_base.specs.declared.operation.Func.{Func}
use Rattle.morph_base.specs.declared.operation.Op.{Op}
use Rattle.morph_base.specs.declared.operation.Func.TheVariants.{Keep, Add, Sub, MoveIn, Sum, Blend, Set, Enter, Charge}
use Rattle.morph_base.specs.Operations.{IsShaped, IsLimit, limited_to, least_params, most_params, no_key, op_of, reads}

-- what holds of one item after another holds of each
pub all_of : {X : Type 0} (P : X → Type 0) (xs : List X) → AllByRecursion P xs → All P xs
all_of P [] each = All-nil P
all_of P (x ∷ xs) each = All-cons P x xs each.0 (all_of P xs each.1)

-- no function takes more parameters than an operation has places for
few_params : (func : Func) → most_params func ≤ PARAMS
few_params Keep = omega arith
few_params Add = omega arith
few_params Sub = omega arith
few_params MoveIn = omega arith
few_params Sum = omega arith
few_params Blend = omega arith
few_params Set = omega arith
few_params Enter = omega arith
few_params Charge = omega arith

-- the greatest value of an operation is at most that of all
pub limit-small : (high : ℕ) → IsLimit high → high ≤ MAX
limit-small high (inl first) = omega (arith, first)
limit-small high (inr last) = omega (arith, last)

-- an operation with as many parameters as its function takes has a valid shape within the limits that it fits
pub op_of-limited : (func : Func) (key : Key) (params : List Key) (c low high : ℕ) → least_params func ≤ length params → length params ≤ most_params func → low ≤ high → c ≤ high → IsLimit high →
    IsShaped (limited_to low high (op_of func key params c))
op_of-limited func key params c low high least most floor small limit =
    let few = few_params func in
    record {
      at_least = least;
      at_most = most;
      places = omega (arith, few, most);
      held = omega (arith, length-append params (replicate (PARAMS - length params) no_key));
      constant = small;
      floor = floor;
      limit = limit;
      blank = blank;
    }
  where
    blank : (j : ℕ) (d : Key) → length params ≤ j → j < length (params ++ replicate (PARAMS - length params) no_key) →
        slice_index_or (params ++ replicate (PARAMS - length params) no_key) j d ≡ no_key
    blank j d from inside = grind (arith, common_steps)

-- so has one of version 1, with no floor
pub op_of-shaped : (func : Func) (key : Key) (params : List Key) (c : ℕ) → least_params func ≤ length params → length params ≤ most_params func → c ≤ FIRST_MAX →
    IsShaped (op_of func key params c)
op_of-shaped func key params c least most small = op_of-limited func key params c 0 FIRST_MAX least most (omega arith) small (inl refl)

-- it reads its target and its parameters
pub reads-op_of : (func : Func) (key : Key) (params : List Key) (c : ℕ) → reads (op_of func key params c) ≡ key ∷ params
reads-op_of func key params c =
    let front : take (length params) (params ++ replicate (PARAMS - length params) no_key) ≡ params = grind (arith, common_steps) in ap (λ keys. key ∷ keys) front

-- where one has a valid shape within the widest limits, it has one within those that it fits
pub limited_to-shaped : (low high : ℕ) (op : Op) → IsShaped (limited_to 0 MAX op) → low ≤ high → op.c ≤ high → IsLimit high → IsShaped (limited_to low high op)
limited_to-shaped low high op shaped floor constant limit = record {
  at_least = shaped.at_least;
  at_most = shaped.at_most;
  places = shaped.places;
  held = shaped.held;
  constant = constant;
  floor = floor;
  limit = limit;
  blank = shaped.blank;
}
