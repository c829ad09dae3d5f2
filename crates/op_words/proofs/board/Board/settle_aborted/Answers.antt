use Rattle.std.proofs.Common.{◌∙◌, ℕ, arith, zero-lt-suc, true, sym, subst, ap, inr}
use Rattle.std.proofs.lemmas.Bool.{false≢true}
use Rattle.morph_base.specs.declared.plan.Plan.{Plan}
use Rattle.morph_base.proofs.BoundLaws.{source-small, final-small}
use Rattle.morph_base.specs.declared.word.OpWord.{OpWord}
use Rattle.morph_base.specs.Plans.{IsPlan, origin_at, final}
use Rattle.morph_base.specs.Words.{IsWord, is_settled, settled_aborted}
use Rattle.op_words.specs.Hands.{view_of, call_on}
use Rattle.op_words.specs.Views.{IsSourceSeen}
use Rattle.op_words.specs.Comparing.{MaySettleIt, IsToAbort}
use Rattle.op_words.specs.Grounds.{SourceDoes}
use Rattle.op_words.proofs.Comparing.{loaded_as}
use Rattle.op_words.proofs.Seeking.{source_other}
use Rattle.interleaving_core.proofs.Settlement.{open_unsettled}
use Rattle.op_words.proofs.Sealing.{stopped_there, sealed_as}
use Rattle.op_words.proofs.board.Board.settle_aborted.Goals as goal

pub seal-requires-clause-new : goal.seal-requires-clause-new
seal-requires-clause-new c =
    let b = c.args.self.now in let p = c.args.plan.now in let o = c.args.op in let k = c.source_value.new.hand in
    let at = loaded_as b p o 0 c.args.hand.now k _ (subst (SourceDoes (call_on b c.args.hand.now k) p o 0 true) c.in-Ok.is c.source_value.ensures) in
    let valid = subst IsPlan (sym c.requires.may.1) c.requires.may.0.valid in
    let small = source-small p (final p) o 0 valid c.requires.may.2 (zero-lt-suc _) (λ t before. final-small p t valid) in
    let worker = at.walk.hand.worker in let tag = at.walk.hand.tag in let fold = at.tells.fold in
    let low = worker.first in let high = worker.last in
    subst IsWord (sym c.settled_aborted-new.ensures)
    (record {
      small = omega (arith, small, fold);
      first = c.requires.word.first;
      last = c.requires.word.last;
      blank = λ is. absurd (false≢true is);
      by_worker = λ is. (omega (arith, low, tag), omega (arith, high, tag));
      by_none = λ is. absurd (false≢true (sym is));
    })

pub seal-requires-clause-grounds : goal.seal-requires-clause-grounds
seal-requires-clause-grounds c =
    let b = c.args.self.now in let p = c.args.plan.now in let o = c.args.op in let k = c.source_value.new.hand in
    let at = loaded_as b p o 0 c.args.hand.now k _ (subst (SourceDoes (call_on b c.args.hand.now k) p o 0 true) c.in-Ok.is c.source_value.ensures) in
    let aborts : IsToAbort p (view_of k) o c.args.word c.settled_aborted-new.result = record {
      decided = at.walk.adds.decisions _ c.requires.decided;
      open_is = c.requires.state;
      target = subst (IsSourceSeen (view_of k) (origin_at p o 0)) at.tells.fold at.tells.seen;
      word_is = c.settled_aborted-new.ensures ∙ ap (λ (z : ℕ × ℕ). settled_aborted c.args.word.attempt z.0 z.1) (λ i. (at.tells.fold i, at.walk.hand.tag i));
    } in
    subst (λ (q : Plan). MaySettleIt q (view_of k) o c.args.word c.settled_aborted-new.result) c.requires.may.1 (inr aborts)

pub returns-in-Err-clause-answer : goal.returns-in-Err-clause-answer
returns-in-Err-clause-answer c v opened =
    let b = c.args.self.now in let p = c.args.plan.now in let o = c.args.op in
    let at = loaded_as b p o 0 c.args.hand.now c.source_value.new.hand _ (subst (SourceDoes (call_on b c.args.hand.now c.source_value.new.hand) p o 0 true) c.in-Err.is c.source_value.ensures) in
    stopped_there b p o v c.args.hand.now c.args.word opened at.words at.walk (open_unsettled c.args.word.state c.requires.state) _ _
    (source_other _ _ _ _ (subst IsPlan (sym c.requires.may.1) c.requires.may.0.valid) c.requires.may.2 (zero-lt-suc _) at.tells.source_is).1
    (record { place = 0; in_places = zero-lt-suc _; source_is = at.tells.source_is }) at.tells.inside at.tells.settled (inr at.tells.source_is)

pub returns-in-Ok-clause-answer : goal.returns-in-Ok-clause-answer
returns-in-Ok-clause-answer c v opened =
    let b = c.args.self.now in let p = c.args.plan.now in let o = c.args.op in
    let at = loaded_as b p o 0 c.args.hand.now c.source_value.new.hand _ (subst (SourceDoes (call_on b c.args.hand.now c.source_value.new.hand) p o 0 true) c.in-Ok.is c.source_value.ensures) in
    let made = c.settled_aborted-new.ensures in
    sealed_as b p o v c.args.hand.now c.args.word opened at.words at.walk c.seal.new.hand c.requires.may.1 c.settled_aborted-new.result (ap (λ (x : OpWord). is_settled x.state) made)
    (ap (λ (x : OpWord). x.by) made ∙ at.walk.hand.tag) (ap (λ (x : OpWord). x.attempt) made) c.seal.result c.seal.ensures
