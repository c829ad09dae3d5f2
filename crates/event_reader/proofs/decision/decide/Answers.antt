use Rattle.std.proofs.Common.{arith}
use Rattle.std.proofs.lemmas.Bool.Decides.{nat_tests}
use Rattle.event_reader.specs.Lines.{is_line_feed}
use Rattle.event_reader.proofs.Pieces.{none_pass}
use Rattle.event_reader.proofs.Decisions.{decides_at, decides_overlong, decides_none, decides_last}
use Rattle.event_reader.proofs.decision.decide.Goals as goal

pub returns-in-Some : goal.returns-in-Some
returns-in-Some c =
    decides_at _ _ c.in-Some.at _ c.in-Some.ensures.0 (grind (arith, nat_tests, c.in-Some.ensures.1)) c.decide_piece.ensures

pub returns-in-None : goal.returns-in-None
returns-in-None c = decides_overlong _ _ (none_pass is_line_feed _ c.in-None.ensures) c.if-kept-ge-DECIDING_BYTES.true

pub returns-in-None-2 : goal.returns-in-None-2
returns-in-None-2 c =
    decides_none _ _ (none_pass is_line_feed _ c.in-None.ensures) c.if-kept-ge-DECIDING_BYTES.false c.if-not-ended.true

pub returns-in-None-4 : goal.returns-in-None-4
returns-in-None-4 c =
    decides_last _ _ _ (none_pass is_line_feed _ c.in-None.ensures) (grind (arith, nat_tests, c.if-is_empty.ensures)) c.if-not-ended.false
    c.decide_piece-in-None-4.ensures
