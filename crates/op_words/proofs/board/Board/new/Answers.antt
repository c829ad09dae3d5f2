use Rattle.std.proofs.Common.{◌<◌, ◌∙◌, ap, sym, subst, refl, List, [], ℕ, Some}
use Rattle.morph_base.specs.Plans.{IsPlan}
use Rattle.morph_base.specs.declared.plan.Plan.{Plan}
use Rattle.morph_base.specs.Limits.{most_attempts}
use Rattle.op_words.specs.declared.rule.Known.{Known}
use Rattle.op_words.specs.Layout.{AreFirstWords}
use Rattle.op_words.specs.Rule.{first_view}
use Rattle.op_words.proofs.Handing.{first_hand}
use Rattle.op_words.proofs.Opening.{opens}
use Rattle.op_words.proofs.board.Board.new.Goals as goal

pub of_words-requires : goal.of_words-requires
of_words-requires c =
    let first : AreFirstWords c.of.result.value c.args.counters c.as_slice.result.now =
    subst (λ (z : Plan × List ℕ). AreFirstWords z.0 c.args.counters z.1) (λ i. (sym c.of.ensures i, sym c.as_slice.ensures.value i)) c.in_ok-words.ensures in
    opens _ _ c.of.result _ (subst IsPlan (sym c.of.ensures) c.requires.plan) c.requires.cap first

pub returns-clause-hand : goal.returns-clause-hand
returns-clause-hand c =
    let t = c.in_ok-table.ensures in
    first_hand _ _ t.2 (t.4 ∙ ap (λ (k : Known). (Some (first_view k.plan k.cap), [])) (sym t.5))
    (subst (λ (k : Known). IsPlan k.plan.value) (sym t.5) (subst IsPlan (sym c.of.ensures) c.requires.plan)) (subst (λ (k : Known). k.cap < most_attempts) (sym t.5) c.requires.cap) refl refl c.nothing.ensures c.none.ensures refl
