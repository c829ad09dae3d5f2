use Rattle.std.proofs.Common.{◌∙◌, ℕ, sym, subst, ap, inl, inr}
use Rattle.std.proofs.lemmas.Bool.{false≢true}
use Rattle.morph_base.specs.declared.plan.Plan.{Plan}
use Rattle.morph_base.specs.declared.word.OpWord.{OpWord}
use Rattle.morph_base.specs.Plans.{IsPlan}
use Rattle.morph_base.specs.Words.{is_settled, settled}
use Rattle.interleaving_core.specs.Core.{has_run}
use Rattle.op_words.specs.Hands.{view_of, call_on}
use Rattle.op_words.specs.Comparing.{IsCompared, MaySettleIt, IsToCommit}
use Rattle.op_words.proofs.Seeking.{source_other}
use Rattle.op_words.proofs.Sealing.{stopped_here, stopped_there, record_differs, sealed_as}
use Rattle.op_words.proofs.board.Board.settle_committed.Goals as goal

pub returns-then-not-is_in-clause-answer : goal.returns-then-not-is_in-clause-answer
returns-then-not-is_in-clause-answer c v opened =
    stopped_here c.args.self.now c.args.plan.now c.args.op v c.args.hand.now c.args.word opened (inr (c.requires.commits, λ is. false≢true (sym c.if-not-is_in.true ∙ c.is_in.ensures.1 is)))

pub seal-requires-clause-grounds : goal.seal-requires-clause-grounds
seal-requires-clause-grounds c =
    let b = c.args.self.now in let p = c.args.plan.now in let o = c.args.op in let k = c.compare.new.hand in
    let compared = subst (IsCompared (call_on b c.args.hand.now k) p o) c.in-Equal.is c.compare.ensures in
    let commits : IsToCommit p (view_of k) o c.args.word c.settled-new.result = record {
      decided = compared.walk.adds.decisions _ c.requires.decided;
      executed = c.is_in.ensures.0 c.if-not-is_in.false;
      equal = compared.tells c.args.word c.requires.loaded;
      word_is = c.settled-new.ensures ∙ ap (λ (t : ℕ). settled c.args.word.attempt c.args.word.value t) compared.walk.hand.tag;
    } in
    subst (λ (q : Plan). MaySettleIt q (view_of k) o c.args.word c.settled-new.result) c.requires.may.1 (inl commits)

pub returns-in-Open-clause-answer : goal.returns-in-Open-clause-answer
returns-in-Open-clause-answer c v opened =
    let b = c.args.self.now in let p = c.args.plan.now in let o = c.args.op in
    let compared = subst (IsCompared (call_on b c.args.hand.now c.compare.new.hand) p o) c.in-Open.is c.compare.ensures in
    let at = compared.tells c.args.word c.requires.loaded in
    stopped_there b p o v c.args.hand.now c.args.word opened compared.words compared.walk (ap is_settled (c.is_in.ensures.0 c.if-not-is_in.false)) _ _
    (source_other _ _ _ _ (subst IsPlan (sym c.requires.may.1) c.requires.may.0.valid) c.requires.may.2 at.source.in_places at.source.source_is).1 at.source at.inside at.settled (inl c.requires.commits)

pub returns-in-Differs-clause-answer : goal.returns-in-Differs-clause-answer
returns-in-Differs-clause-answer c v opened =
    let b = c.args.self.now in let p = c.args.plan.now in let o = c.args.op in
    let compared = subst (IsCompared (call_on b c.args.hand.now c.compare.new.hand) p o) c.in-Differs.is c.compare.ensures in
    record_differs b p o v c.args.hand.now c.args.word opened compared.words compared.walk c.look-word.new.hand c.requires.may.1 c.requires.word (ap has_run (c.is_in.ensures.0 c.if-not-is_in.false)) c.requires.commits
    c.in-Differs.j c.in-Differs.kept c.in-Differs.settled (compared.tells c.args.word c.requires.loaded) c.look-word.result c.look-word.ensures

pub returns-in-Equal-clause-answer : goal.returns-in-Equal-clause-answer
returns-in-Equal-clause-answer c v opened =
    let b = c.args.self.now in let p = c.args.plan.now in let o = c.args.op in
    let compared = subst (IsCompared (call_on b c.args.hand.now c.compare.new.hand) p o) c.in-Equal.is c.compare.ensures in
    let made = c.settled-new.ensures in
    sealed_as b p o v c.args.hand.now c.args.word opened compared.words compared.walk c.seal.new.hand c.requires.may.1 c.settled-new.result (ap (λ (x : OpWord). is_settled x.state) made)
    (ap (λ (x : OpWord). x.by) made ∙ compared.walk.hand.tag) (ap (λ (x : OpWord). x.attempt) made) c.seal.result c.seal.ensures
