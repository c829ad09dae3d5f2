use Rattle.std.proofs.Common.{ℕ, ap}
use Rattle.op_eval.specs.declared.explored.RunEnd.{RunEnd}
use Rattle.op_eval.specs.declared.runners.Runners.{Runners}
use Rattle.op_words.specs.declared.board.Board.{Board}
use Rattle.morph_engine.proofs.Waiting.{both_explored, waits_by}
use Rattle.morph_engine.proofs.crew.with_waiting.Goals as goal

pub new-requires : goal.new-requires
new-requires c =
    both_explored c.parts-board.result.0 c.parts-board.result.3 c.parts-board.result.1 c.bring_back.new.runners _ c.bring_back.ensures.all (c.bring_back.ensures.places c.parts-board.ensures.explored.places) c.parts-board.ensures.explored
    (waits_by _ _ _ (ap (λ (t : Board × Runners × RunEnd × ℕ). t.0) c.parts-board.ensures.parts) c.requires.waiting)
