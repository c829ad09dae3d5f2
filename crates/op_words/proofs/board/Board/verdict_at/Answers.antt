use Rattle.op_words.proofs.board.Board.verdict_at.Goals as goal

pub returns-clause-answer : goal.returns-clause-answer
returns-clause-answer c =
    let is = c.judge.ensures in
    record {
      answer = record { words = is.words; goes = is.goes; none = is.none; stays = is.stays; tells = is.tells };
      good = is.good;
      stale = λ j kept value same. ((is.stale j kept value same).last, is.stale_seen j kept value same);
    }
