use Rattle.std.proofs.Common.{◌≡◌, ℕ, ◌-◌, List, length, take, drop, sym, ap, ◌∙◌, arith}
use Rattle.std.specs.List.{list_all}
use Rattle.std.proofs.lemmas.List.{length-drop, take_all}
use Rattle.morph_base.specs.declared.key.Key.{Key}
use Rattle.morph_base.specs.declared.operation.Op.{Op}
use Rattle.morph_base.specs.Operations.{no_key, no_op, same_key}
use Rattle.morph_base.proofs.RowOneLaws.{kept_short, kept_many, kept_all}
use Rattle.morph_base.proofs.event_ops.width_of.Goals as goal
use Rattle.morph_base.proofs.event_ops.width_of.Goals.{else-n-lt-READS-via-then-n-lt-READS+else-are_blank, else-n-lt-READS-via-else-n-lt-READS}

-- the test on the end of the parameters
blank_end : (params : List Key) (n : ℕ) → length params ≡ 7
    → list_all (same_key no_key) (drop n params) ≡ list_all (same_key no_key) (take (7 - n) (drop n params))
blank_end params n long =
    ap (list_all (same_key no_key)) (sym (take_all (7 - n) (drop n params) (omega (arith, length-drop n params))))

pub returns-then-are_blank-clause-count : goal.returns-then-are_blank-clause-count
returns-then-are_blank-clause-count c =
    let op : Op = record no_op { n_params = c.args.n; params = c.args.params.now } in
    sym (kept_short op c.if-n-lt-READS.true
    (blank_end op.params op.n_params c.told-params ∙ sym c.are_blank.ensures ∙ c.if-are_blank.true))

pub returns-else-n-lt-READS-clause-count : goal.returns-else-n-lt-READS-clause-count
returns-else-n-lt-READS-clause-count c =
    let op : Op = record no_op { n_params = c.args.n; params = c.args.params.now } in
    elim c.else-n-lt-READS.branch [
      | else-n-lt-READS-via-then-n-lt-READS+else-are_blank w ↦ sym (kept_all op
          (blank_end op.params op.n_params c.told-params ∙ sym w.are_blank.ensures ∙ w.if-are_blank.false))
      | else-n-lt-READS-via-else-n-lt-READS w ↦ sym (kept_many op w.if-n-lt-READS.false)
    ]
