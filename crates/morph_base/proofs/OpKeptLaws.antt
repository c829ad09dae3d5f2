-- How many keys are kept of an operation of a valid shape, and that the keys of different operations are apart.
use Rattle.std.proofs.Common.{◌≡◌, ℕ, ◌+◌, ◌<◌, ◌≤◌, List, length, get_or, take, drop, sym, ap, arith}
use Rattle.std.specs.Prelude.{All}
use Rattle.std.specs.List.{sum_by}
use Rattle.std.proofs.lemmas.List.{take-take, length-take-le}
use Rattle.std.proofs.lemmas.List.Sums.{sum_by_more, sum_by-take-le, list_all-from_AllPass}
use Rattle.morph_base.specs.declared.limits.TheConstants.{READS}
use Rattle.morph_base.specs.declared.operation.Op.{Op}
use Rattle.morph_base.specs.Operations.{reads, no_key, no_op, same_key, IsShaped}
use Rattle.morph_base.specs.OpRows.{keys_kept, keys_before}
use Rattle.morph_base.proofs.KeyLaws.{same_key-from}
use Rattle.morph_base.proofs.ValidLemmas.{blank_from}
use Rattle.morph_base.proofs.RowOneLaws.{kept_short}

pub kept_shaped : (op : Op) → IsShaped op → keys_kept op ≡ op.n_params + 1
kept_shaped op shaped =
    let rest : All (λ key. key ≡ no_key) (drop op.n_params op.params) = blank_from op.params op.n_params shaped.blank in
    kept_short op shaped.places
    (list_all-from_AllPass (same_key no_key) (drop op.n_params op.params)
    (λ k d lt. same_key-from no_key (get_or (drop op.n_params op.params) k d) (sym (rest k d lt))))

pub kept_reads : (op : Op) → IsShaped op → length (reads op) ≡ keys_kept op
kept_reads op shaped =
    omega (arith, length-take-le op.n_params op.params shaped.held, kept_shaped op shaped)

pub kept_few : (op : Op) → IsShaped op → keys_kept op ≤ READS
kept_few op shaped = omega (arith, kept_shaped op shaped, shaped.places)

module _ (ops : List Op) where
  pub before_more : (o : ℕ) → o < length ops → keys_before ops (o + 1) ≡ keys_before ops o + keys_kept (get_or ops o no_op)
  before_more o lt = sum_by_more keys_kept ops o no_op lt

  pub before_apart : (o q : ℕ) → o < q → q ≤ length ops → keys_before ops o + keys_kept (get_or ops o no_op) ≤ keys_before ops q
  before_apart o q less inside =
      let one : keys_before ops (o + 1) ≡ keys_before ops o + keys_kept (get_or ops o no_op) = before_more o (omega arith) in
      let front : sum_by keys_kept (take (o + 1) (take q ops)) ≡ keys_before ops (o + 1) = ap (sum_by keys_kept) (take-take (o + 1) q ops (omega arith)) in
      let part : sum_by keys_kept (take (o + 1) (take q ops)) ≤ keys_before ops q = sum_by-take-le keys_kept (take q ops) (o + 1) in
      omega (arith, one, front, part)

  pub before_up : (o q : ℕ) → o ≤ q → q ≤ length ops → keys_before ops o ≤ keys_before ops q
  before_up o q up inside =
      let front : sum_by keys_kept (take o (take q ops)) ≡ keys_before ops o = ap (sum_by keys_kept) (take-take o q ops up) in
      let part : sum_by keys_kept (take o (take q ops)) ≤ keys_before ops q = sum_by-take-le keys_kept (take q ops) o in
      omega (arith, front, part)
