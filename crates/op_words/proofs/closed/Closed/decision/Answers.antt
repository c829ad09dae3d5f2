use Rattle.op_words.specs.Closing.{words_of}
use Rattle.op_words.proofs.Closing.{closed_decision, undecided, decided}
use Rattle.op_words.proofs.closed.Closed.decision.Goals as goal

pub returns-then-word-eq0 : goal.returns-then-word-eq0
returns-then-word-eq0 c p most counters v is lt =
    undecided _ c.word-word.result (closed_decision (words_of c.args.self.now) is.ends c.args.event _ c.word-word.result is.decisions lt c.word-word.ensures) c.if-word-eq0.true

pub returns-else-word-eq0 : goal.returns-else-word-eq0
returns-else-word-eq0 c p most counters v is lt =
    decided _ c.word-word.result (closed_decision (words_of c.args.self.now) is.ends c.args.event _ c.word-word.result is.decisions lt c.word-word.ensures) c.if-word-eq0.false
