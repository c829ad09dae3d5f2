-- What the numbering of transactions gives: ranges and bounds, and operations of valid shapes.
use Rattle.std.proofs.Common.{◌≡◌, ℕ, suc, ◌+◌, ◌*◌, ◌<◌, ◌≤◌, All, sym, ap, subst, ◌∙◌, arith}
use Rattle.std.proofs.lemmas.List.{get_or_default}
use Rattle.morph_base.specs.declared.limits.TheConstants.{EVENT_OPS, EVENTS}
use Rattle.morph_base.specs.Operations.{IsShaped}
use Rattle.morph_base.specs.Plans.{no_op}
use Rattle.morph_base.proofs.NumberLaws.{end_fits, count-small, first-zero, first-suc, first-end, none-end}
use Rattle.txn_splitter.specs.Txns.{NumberedTxns, IsTxns, txn_count, txn_ops, txn_op_count, txn_at}

module _ (x : NumberedTxns) (is : IsTxns x) where
  -- an event's operations are in range
  pub txn_end : (i : ℕ) → i < txn_count x → (txn_at x i).first + (txn_at x i).count ≤ txn_op_count x
  txn_end i lt = end_fits _ _ _ _ _ _ _ is.numbering i lt

  pub txn_ops_few : txn_op_count x ≤ EVENT_OPS * EVENTS
  txn_ops_few = count-small _ _ _ _ _ _ _ is.numbering

  -- events follow one another without a gap, from operation 0 to the last
  pub txn_start : 0 < txn_count x → (txn_at x 0).first ≡ 0
  txn_start some = first-zero _ _ _ _ _ _ _ is.numbering some

  pub txn_next : (i : ℕ) → i + 1 < txn_count x → (txn_at x (i + 1)).first ≡ (txn_at x i).first + (txn_at x i).count
  txn_next i lt =
      let e : suc i ≡ i + 1 = omega arith in
      ap (λ k. (txn_at x k).first) (sym e) ∙ first-suc _ _ _ _ _ _ _ is.numbering i (omega arith)

  pub txn_last : (i : ℕ) → i + 1 ≡ txn_count x → (txn_at x i).first + (txn_at x i).count ≡ txn_op_count x
  txn_last i last = first-end _ _ _ _ _ _ _ is.numbering i (omega arith)

  pub txn_none : txn_count x ≡ 0 → txn_op_count x ≡ 0
  txn_none none = none-end _ _ _ _ _ _ _ is.numbering none

  -- the operations have valid shapes
  pub txn_ops_shaped : All IsShaped (txn_ops x)
  txn_ops_shaped o d lt = subst IsShaped (sym (get_or_default (txn_ops x) o d no_op lt)) (is.numbering.shaped o lt)
