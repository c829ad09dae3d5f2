use Rattle.std.proofs.Common.{◌+◌, ◌-◌, false, ap, ◌∙◌, sym, refl}
use Rattle.std.proofs.lemmas.Bool.{true≢false}
use Rattle.std.proofs.lemmas.Result.{err_from_is_err_and}
use Rattle.event_reader.specs.Reader.{reading_of}
use Rattle.event_reader.proofs.LineAnswers.{goes_nowhere, goes_further, answers_fault, shows_fault, answers_line, answers_long, answers_end}
use Rattle.event_reader.specs.declared.answers.LineNext.TheVariants.{Long, End}
use Rattle.event_reader.proofs.LineReads.{asked_nothing, asked_more, asked_last, asked_line, asked_none}
use Rattle.event_reader.proofs.lines.Lines.next_line.Goals as goal

pub reads-init : goal.reads-init
reads-init g c = record { goes_on = goes_nowhere _ _ c.requires.live; idle = λ ended. refl; asks = asked_nothing g.S.Source.left g.S.Source.reads c.args.self.now c.args.source.now; steady = refl }

pub reads-preserved : goal.reads-preserved
reads-preserved g c =
    let none = rw (c.kept.ensures.bytes, ap (λ v. v.ended) c.self.view_is) at c.in-Open.ensures in
    record {
      goes_on = goes_further _ _ c.reads.self (g.S.Source.left c.reads.source) _ _ c.reads.invariant.goes_on none.goes_on c.in_ok-fill-in-Open.ensures.fills;
      idle = λ ended. absurd (true≢false (sym ended ∙ c.reads.invariant.goes_on.unended none.goes_on));
      asks = asked_more g.S.Source.left g.S.Source.reads c.args.self.now c.args.source.now c.reads.self c.fill.new.self c.reads.source c.fill.new.source c.reads.invariant.asks none.goes_on none.none c.in_ok-fill-in-Open.ensures.asks;
      steady = c.in_ok-fill-in-Open.ensures.steady (λ failed. absurd (cc)) ∙ c.reads.invariant.steady;
    }

pub returns-in_err-fill-in-Open-clause-answers : goal.returns-in_err-fill-in-Open-clause-answers
returns-in_err-fill-in-Open-clause-answers g c =
    let none = rw (c.kept.ensures.bytes, ap (λ v. v.ended) c.self.view_is) at c.in-Open.ensures in
    let p = err_from_is_err_and c.from_residual.result c.from_residual.ensures.1 in
    rw (p.1, p.2)
    (answers_fault _ _ c.reads.self (g.S.Source.left c.reads.source) _ _ c.in_err-fill-in-Open.field-0.0 c.reads.invariant.goes_on
    c.kept.ensures.bound none c.in_err-fill-in-Open.ensures.fills)

pub returns-in_err-fill-in-Open-clause-shows : goal.returns-in_err-fill-in-Open-clause-shows
returns-in_err-fill-in-Open-clause-shows g c =
    let none = rw (c.kept.ensures.bytes, ap (λ v. v.ended) c.self.view_is) at c.in-Open.ensures in
    let p = err_from_is_err_and c.from_residual.result c.from_residual.ensures.1 in
    rw (p.1, p.2)
    (shows_fault _ _ c.reads.self (g.S.Source.left c.reads.source) _ _ c.in_err-fill-in-Open.field-0.0 c.reads.invariant.goes_on none
    c.in_err-fill-in-Open.ensures.fills)

pub returns-in-Line-clause-answers : goal.returns-in-Line-clause-answers
returns-in-Line-clause-answers g c =
    let line = rw (c.kept.ensures.bytes, ap (λ v. v.ended) c.self.view_is) at c.in-Line.ensures in
    rw c.give.ensures.gives
    (answers_line _ _ c.reads.self (g.S.Source.left c.reads.source) c.in-Line.len c.in-Line.used c.reads.invariant.goes_on c.kept.ensures.bound line)

pub returns-in-Long-clause-answers : goal.returns-in-Long-clause-answers
returns-in-Long-clause-answers g c =
    let long = rw (c.kept.ensures.bytes, ap (λ v. v.ended) c.self.view_is) at c.in-Long.ensures in
    answers_long _ _ c.reads.self (g.S.Source.left c.reads.source) c.reads.invariant.goes_on c.kept.ensures.bound long

pub returns-in-End-clause-answers : goal.returns-in-End-clause-answers
returns-in-End-clause-answers g c =
    let done = rw (c.kept.ensures.bytes, ap (λ v. v.ended) c.self.view_is) at c.in-End.ensures in
    let left = g.S.Source.left c.reads.source in
    let answer = answers_end _ _ c.reads.self left c.reads.invariant.goes_on c.kept.ensures.bound done.0 done.1 in
    (answer.0 ∙ ap (λ v. reading_of v left) (sym c.self.view_is), answer.1)

pub returns-in_err-fill-in-Open-clause-asks : goal.returns-in_err-fill-in-Open-clause-asks
returns-in_err-fill-in-Open-clause-asks g c =
    let none = rw (c.kept.ensures.bytes, ap (λ v. v.ended) c.self.view_is) at c.in-Open.ensures in
    let p = err_from_is_err_and c.from_residual.result c.from_residual.ensures.1 in
    rw (p.1, p.2)
    (asked_last g.S.Source.left g.S.Source.reads c.args.self.now c.args.source.now c.reads.self c.fill.new.self c.reads.source c.fill.new.source
    c.in_err-fill-in-Open.field-0.0 c.reads.invariant.goes_on c.reads.invariant.asks none.goes_on none.none c.in_err-fill-in-Open.ensures.asks)

pub returns-in-Line-clause-asks : goal.returns-in-Line-clause-asks
returns-in-Line-clause-asks g c =
    let line = rw (c.kept.ensures.bytes, ap (λ v. v.ended) c.self.view_is) at c.in-Line.ensures in
    rw c.give.ensures.gives
    (asked_line g.S.Source.left g.S.Source.reads c.args.self.now c.args.source.now c.reads.self c.reads.source c.in-Line.len c.in-Line.used (c.reads.self.number + 1)
    c.reads.invariant.goes_on c.reads.invariant.asks line)

pub returns-in-Long-clause-asks : goal.returns-in-Long-clause-asks
returns-in-Long-clause-asks g c =
    rw c.refuse.ensures.refuses
    (asked_none g.S.Source.left g.S.Source.reads c.args.self.now c.args.source.now c.reads.self (record c.reads.self { number = c.reads.self.number + 1; live = false }) c.reads.source
    c.reads.invariant.goes_on c.reads.invariant.asks refl refl Long refl)

pub returns-in-End-clause-asks : goal.returns-in-End-clause-asks
returns-in-End-clause-asks g c =
    asked_none g.S.Source.left g.S.Source.reads c.args.self.now c.args.source.now c.reads.self _ c.reads.source
    c.reads.invariant.goes_on c.reads.invariant.asks (ap (λ v. v.ended) (sym c.self.view_is)) (ap (λ v. v.limit - v.taken) (sym c.self.view_is)) End refl
