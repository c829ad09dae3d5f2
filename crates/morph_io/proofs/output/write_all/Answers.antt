-- Each piece is written behind the ones before it.
use Rattle.std.proofs.Common.{◌∙◌, sym, arith, refl}
use Rattle.std.proofs.lemmas.List.{take_rest}
use Rattle.std.proofs.lemmas.Result.{err_from_is_err_and}
use Rattle.morph_io.specs.Told.{behind_nil}
use Rattle.morph_io.specs.SinkWrites.{no_write}
use Rattle.morph_io.proofs.Pieces.{behind_piece, part_at, writes_piece, writes_cut}
use Rattle.morph_io.proofs.output.write_all.Goals as goal

pub pieces-init : goal.pieces-init
pieces-init g c = (omega arith, sym (behind_nil _), refl, no_write, λ _. refl)

pub pieces-preserved : goal.pieces-preserved
pieces-preserved g c =
    let some = c.in_ok-at.ensures.some in (
      omega (arith, c.in_ok-at.ensures.bound),
      behind_piece _ _ _ _ _ _ c.pieces.invariant.1 (rw take_rest at c.in_ok-at.ensures.bytes),
      c.in_ok-at.ensures.steady ∙ c.pieces.invariant.2,
      writes_piece _ _ _ _ _ _ _ c.pieces-test.true c.pieces.invariant.3 (rw take_rest at c.in_ok-at.ensures.answer),
      λ none. absurd (omega arith),
    )

pub returns-in_err-at-clause-prefix : goal.returns-in_err-at-clause-prefix
returns-in_err-at-clause-prefix g c =
    let p = err_from_is_err_and c.from_residual.result c.from_residual.ensures.1 in
    rw p.1 (part_at _ _ c.pieces.at _ c.pieces-test.true (c.in_err-at.ensures.kept ∙ c.pieces.invariant.1))

pub returns-in_err-at-clause-writes : goal.returns-in_err-at-clause-writes
returns-in_err-at-clause-writes g c =
    let p = err_from_is_err_and c.from_residual.result c.from_residual.ensures.1 in
    rw p.1 (writes_cut _ _ _ _ c.pieces.at _ _ c.pieces-test.true c.pieces.invariant.3 _ (rw take_rest at c.in_err-at.ensures.answer))
