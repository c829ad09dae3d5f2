use Rattle.std.proofs.Common.{◌∙◌, sym, subst}
use Rattle.morph_base.specs.Plans.{IsPlan}
use Rattle.op_words.specs.Hands.{cap_of, call_on}
use Rattle.op_words.specs.Comparing.{IsCompared, IsJudgedAs}
use Rattle.op_words.proofs.Seeking.{source_other}
use Rattle.op_words.proofs.Walking.{look_last}
use Rattle.op_words.proofs.Judging.{judged_idle, judged_open, judged_equal, judged_stale, judged_again}
use Rattle.op_words.proofs.board.Board.judge.Goals as goal

pub returns-then-not-has_run : goal.returns-then-not-has_run
returns-then-not-has_run c = judged_idle _ _ _ c.requires.may.1 c.requires.may.2 _ _ _ c.requires.may.0 c.requires.may.3 c.look-first.ensures (sym c.has_run.ensures ∙ c.if-not-has_run.true)

pub returns-in-Equal : goal.returns-in-Equal
returns-in-Equal c =
    let b = c.args.self.now in let p = c.args.plan.now in let o = c.args.op in let w = c.look-first.result in
    let compared = subst (IsCompared (call_on b c.look-first.new.hand c.compare.new.hand) p o) c.in-Equal.is c.compare.ensures in
    let tells = compared.tells w (look_last b o _ _ w _ c.look-first.ensures) in
    let ran = sym c.has_run.ensures ∙ c.if-not-has_run.false in
    judged_again b p o c.requires.may.1 c.requires.may.2 _ _ w c.requires.may.0 c.requires.may.3 c.look-first.ensures ran _ compared.words compared.walk compared.sources _ _ c.confirm.ensures.looked _ _ c.confirm.ensures.tells
    (λ same. subst (IsJudgedAs (call_on b c.args.hand.now c.confirm.new.hand) p (cap_of b) o c.confirm.result.0) (sym c.of.ensures)
    (judged_equal b p o c.requires.may.1 c.requires.may.2 _ _ w c.requires.may.0 c.requires.may.3 c.look-first.ensures ran _ compared.words compared.walk compared.sources _ _ c.confirm.ensures.looked same tells))

pub returns-in-Differs : goal.returns-in-Differs
returns-in-Differs c =
    let b = c.args.self.now in let p = c.args.plan.now in let o = c.args.op in let w = c.look-first.result in
    let compared = subst (IsCompared (call_on b c.look-first.new.hand c.compare.new.hand) p o) c.in-Differs.is c.compare.ensures in
    let tells = compared.tells w (look_last b o _ _ w _ c.look-first.ensures) in
    let ran = sym c.has_run.ensures ∙ c.if-not-has_run.false in
    judged_again b p o c.requires.may.1 c.requires.may.2 _ _ w c.requires.may.0 c.requires.may.3 c.look-first.ensures ran _ compared.words compared.walk compared.sources _ _ c.confirm-in-Differs.ensures.looked _ _ c.confirm-in-Differs.ensures.tells
    (λ same. judged_stale b p o c.requires.may.1 c.requires.may.2 _ _ w c.requires.may.0 c.requires.may.3 c.look-first.ensures ran _ compared.words compared.walk compared.sources _ _ c.confirm-in-Differs.ensures.looked same c.in-Differs.j c.in-Differs.kept c.in-Differs.settled tells)

pub returns-in-Open : goal.returns-in-Open
returns-in-Open c =
    let compared = subst (IsCompared (call_on c.args.self.now c.look-first.new.hand c.compare.new.hand) c.args.plan.now c.args.op) c.in-Open.is c.compare.ensures in
    let tells = compared.tells c.look-first.result (look_last _ _ _ _ _ _ c.look-first.ensures) in
    judged_open _ _ _ c.requires.may.1 c.requires.may.2 _ _ _ c.requires.may.0 c.requires.may.3 c.look-first.ensures (sym c.has_run.ensures ∙ c.if-not-has_run.false) _ compared.words compared.walk compared.sources _
    (source_other _ _ _ _ (subst IsPlan (sym c.requires.may.1) c.requires.may.0.valid) c.requires.may.2 tells.source.in_places tells.source.source_is).1 tells
