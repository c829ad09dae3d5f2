-- An operation of a valid shape is made of its used places.
use Rattle.std.proofs.Common.{◌≡◌, ℕ, ◌-◌, ◌<◌, ◌≤◌, List, ◌++◌, inl, inr, length, get_or, take, replicate, refl, sym, ◌∙◌, arith, length-append}
use Rattle.std.proofs.lemmas.List.{length-take-le, length-replicate, get_or-take, get_or-replicate, get_or_append_left, get_or-append_right, same_lists}
use Rattle.std.proofs.lemmas.Bool.{cases_lt}
use Rattle.morph_base.specs.declared.limits.TheConstants.{PARAMS}
use Rattle.morph_base.specs.declared.operation.Op.{Op}
use Rattle.morph_base.specs.Operations.{IsShaped, no_key, op_of, limited_to}

-- a list whose places from n on hold one item
pub front_and_blank : {X : Type 0} (xs : List X) (n m : ℕ) (b : X) → n ≤ length xs → length xs ≡ m → ((j : ℕ) (d : X) → n ≤ j → j < length xs → get_or xs j d ≡ b) → take n xs ++ replicate (m - n) b ≡ xs
front_and_blank xs n m b held all blank =
    let front : length (take n xs) ≡ n = length-take-le n xs held in
    let long : length (take n xs ++ replicate (m - n) b) ≡ length xs = length-append (take n xs) (replicate (m - n) b) ∙ omega (arith, front, length-replicate (m - n) b) in
    same_lists (take n xs ++ replicate (m - n) b) xs long (λ k d lt. elim (cases_lt k n) [
      | inl before ↦ get_or_append_left (take n xs) (replicate (m - n) b) d k (omega arith) ∙ get_or-take n xs k d before
      | inr behind ↦ get_or-append_right (take n xs) (replicate (m - n) b) n k d front behind ∙ get_or-replicate (m - n) (k - n) b d (omega arith) ∙ sym (blank k d behind (omega arith))
    ])

-- the operation of its parts and its used keys is the operation
pub shaped_is : (op : Op) → IsShaped op → length op.params ≡ PARAMS
    → limited_to op.low op.high (op_of op.func op.key (take op.n_params op.params) op.c) ≡ op
shaped_is op shaped long =
    let n : ℕ = op.n_params in
    let count : length (take n op.params) ≡ n = length-take-le n op.params shaped.held in
    let keys : take n op.params ++ replicate (PARAMS - n) no_key ≡ op.params
    = front_and_blank op.params n PARAMS no_key shaped.held long (λ j d from lt. shaped.blank j d from lt) in
    rw (count, keys) refl
