use Rattle.std.proofs.Common.{sym, subst}
use Rattle.morph_base.specs.Words.{IsWord}
use Rattle.op_words.specs.Closing.{words_of}
use Rattle.op_words.proofs.Closing.{closed_word}
use Rattle.op_words.proofs.closed.Closed.word.Goals as goal

pub of_packed-requires : goal.of_packed-requires
of_packed-requires c =
    let (p, most, counters, v, is, lt) = c.requires.op in
    let there = closed_word (words_of c.args.self.now) is.ends c.args.op c.word.result lt c.word.ensures in
    (is.ends.core.word c.args.op, there.0, there.1)

pub returns-clause-in_range : goal.returns-clause-in_range
returns-clause-in_range c =
    let (p, most, counters, v, is, lt) = c.requires.op in
    let there = closed_word (words_of c.args.self.now) is.ends c.args.op c.word.result lt c.word.ensures in
    subst IsWord (sym (c.of_packed.ensures (is.ends.core.word c.args.op) there.0 there.1)) there.0

pub returns-clause-word : goal.returns-clause-word
returns-clause-word c p most counters v is lt =
    let there = closed_word (words_of c.args.self.now) is.ends c.args.op c.word.result lt c.word.ensures in
    c.of_packed.ensures (is.ends.core.word c.args.op) there.0 there.1
