use Rattle.std.proofs.Common.{sym, ◌∙◌, subst}
use Rattle.std.proofs.lemmas.Bool.{false≢true}
use Rattle.morph_base.specs.Plans.{IsPlan}
use Rattle.op_words.specs.Stepping.{SoughtTells}
use Rattle.op_words.proofs.Making.{not_blocked, source_idle, made_ready, found_another}
use Rattle.op_words.proofs.Seeking.{source_other}
use Rattle.op_words.proofs.board.Board.ready.Goals as goal

pub returns-then-not-is_in-clause-answer : goal.returns-then-not-is_in-clause-answer
returns-then-not-is_in-clause-answer c = not_blocked _ _ _ _ _ _ _ c.requires.may.3 c.look-word.ensures (λ is. false≢true (sym c.if-not-is_in.true ∙ c.is_in.ensures.1 is))

pub returns-in-Some-clause-answer : goal.returns-in-Some-clause-answer
returns-in-Some-clause-answer c =
    let row = c.idle_source.ensures in
    let tells = subst (SoughtTells c.args.plan.now c.args.op row.words) c.in-Some.is row.tells in
    source_idle _ _ _ _ _ _ _ c.requires.may.3 c.look-word.ensures (c.is_in.ensures.0 c.if-not-is_in.false) row.words row.row _
    (source_other _ _ _ _ (subst IsPlan (sym c.requires.may.1) c.requires.may.0.valid) c.requires.may.2 tells.0.in_places tells.0.source_is).1 tells.0 tells.1 tells.2

pub returns-in-None-clause-answer : goal.returns-in-None-clause-answer
returns-in-None-clause-answer c =
    let row = c.in_default.ensures in
    made_ready _ _ _ _ _ _ _ c.requires.may.3 c.look-word.ensures (c.is_in.ensures.0 c.if-not-is_in.false) row.words row.row _ row.tells c.in-None.ensures

pub returns-in-Some-make-clause-answer : goal.returns-in-Some-make-clause-answer
returns-in-Some-make-clause-answer c =
    let row = c.in_default.ensures in
    found_another _ _ _ _ _ _ _ c.requires.may.3 c.look-word.ensures (c.is_in.ensures.0 c.if-not-is_in.false) row.words row.row _ c.in-Some-make.ensures.0 c.in-Some-make.ensures.1
