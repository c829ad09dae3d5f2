use Rattle.std.proofs.Common.{◌≡◌, ◌∙◌, ℕ, ◌++◌, [], sym, subst, inl, inr}
use Rattle.std.proofs.lemmas.Bool.{false≢true}
use Rattle.std.proofs.lemmas.List.Elements.{Contains-append_right}
use Rattle.morph_base.specs.declared.word.OpState.TheVariants.{Spread}
use Rattle.morph_base.specs.declared.word.OpWord.{OpWord}
use Rattle.morph_base.specs.declared.plan.Plan.{Plan}
use Rattle.morph_base.specs.Plans.{IsPlan}
use Rattle.op_words.specs.Grounds.{HasGroundsToRoll}
use Rattle.op_words.specs.Hands.{cap_of, view_of, call_on}
use Rattle.op_words.specs.Stepping.{Looked}
use Rattle.op_words.specs.Trails.{loaded}
use Rattle.op_words.specs.Views.{IsRecordSeen, last_place}
use Rattle.op_words.proofs.Seeking.{source_other}
use Rattle.op_words.proofs.Walking.{walk_row}
use Rattle.op_words.proofs.Rolling.{not_rolled, source_stops, found_unrolled, found_fresh, rolled_done, walk_source, record_rolled, source_read, source_known, walk_sources, place_is, spread_aside, grounds_roll}
use Rattle.op_words.proofs.board.Board.roll_back.Goals as goal

pub returns-then-not-may_roll-clause-answer : goal.returns-then-not-may_roll-clause-answer
returns-then-not-may_roll-clause-answer c = not_rolled _ _ _ _ _ _ _ c.requires.may.3 c.requires.may.0 c.look-word.ensures (c.may_roll.ensures.not c.if-not-may_roll.true)

pub returns-in-Err-clause-answer : goal.returns-in-Err-clause-answer
returns-in-Err-clause-answer c =
    let may = c.may_roll.ensures.may c.if-not-may_roll.false in let b = c.args.self.now in let p = c.args.plan.now in let o = c.args.op in let j = c.args.j in
    let d = c.in-Err.ensures in
    source_stops b p o j c.args.hand.now c.look-word.new.hand c.look-word.result c.requires.may.3 c.requires.may.0 c.look-word.ensures may.0 d.words (walk_row b o d.row) c.in-Err.stop
    (source_other p o j c.in-Err.stop.source (subst IsPlan (sym c.requires.may.1) c.requires.may.0.valid) c.requires.may.2 c.requires.in_places d.tells.source_is).1
    (record { place = j; in_places = c.requires.in_places; source_is = d.tells.source_is }) d.tells.unready.inside d.tells.unready.settled
    (elim d.tells.unready.cause [ inl idle ↦ inl (d.tells.source_is, idle) | inr needed ↦ inr (inl (c.is_at_cap.ensures.0 needed)) ])

pub returns-then-not-is_same-clause-answer : goal.returns-then-not-is_same-clause-answer
returns-then-not-is_same-clause-answer c =
    let may = c.may_roll.ensures.may c.if-not-may_roll.false in let b = c.args.self.now in let p = c.args.plan.now in let o = c.args.op in let j = c.args.j in
    let h = c.args.hand.now in let g = c.look-word.new.hand in let w = c.look-word.result in
    let d = c.in-Ok.ensures in
    found_unrolled b p o j h g w c.requires.may.3 c.requires.may.0 c.look-word.ensures may.0 _
    (walk_source b p o j h g _ _ w _ _ _ c.requires.may.3 c.look-word.ensures d c.recall-kept.ensures) _
    (λ same. false≢true (sym c.if-not-is_same.true ∙ c.is_same.ensures.1 same)) c.look-now.ensures

pub returns-then-is_right-clause-answer : goal.returns-then-is_right-clause-answer
returns-then-is_right-clause-answer c =
    let may = c.may_roll.ensures.may c.if-not-may_roll.false in let b = c.args.self.now in let p = c.args.plan.now in let o = c.args.op in let j = c.args.j in
    let h = c.args.hand.now in let g = c.look-word.new.hand in let k = c.source_value.new.hand in let m = c.recall-kept.new.hand in let w = c.look-word.result in
    let kept = c.recall-kept.result in let x = c.in-Ok.value in let d = c.in-Ok.ensures in
    let right = c.is_right.ensures.right c.if-is_right.true in
    found_fresh b p o j h g w c.requires.may.3 c.requires.may.0 c.look-word.ensures may.0 _
    (walk_source b p o j h g k m w kept x c.is_at_cap.result c.requires.may.3 c.look-word.ensures d c.recall-kept.ensures) _ x c.requires.may.1 c.requires.in_places right.1
    (subst (λ (n : ℕ). IsRecordSeen (view_of m) o j w n) right.0 (record_rolled b p o j h g k m w kept x c.is_at_cap.result c.requires.may.3 c.look-word.ensures d c.recall-kept.ensures))
    (subst (λ (z : OpWord). Looked (call_on b m c.look-now.new.hand) o z) (c.is_same.ensures.0 c.if-not-is_same.false) c.look-now.ensures)
    (source_read b p o j h g k m w kept x c.is_at_cap.result c.requires.may.3 c.look-word.ensures d c.recall-kept.ensures)
    (source_known b p o j h g k m w kept x c.is_at_cap.result c.requires.may.3 c.look-word.ensures d c.recall-kept.ensures)

pub returns-in-Some-clause-answer : goal.returns-in-Some-clause-answer
returns-in-Some-clause-answer c =
    let may = c.may_roll.ensures.may c.if-not-may_roll.false in let b = c.args.self.now in let p = c.args.plan.now in let o = c.args.op in let j = c.args.j in
    let h = c.args.hand.now in let g = c.look-word.new.hand in let k = c.source_value.new.hand in let m = c.recall-kept.new.hand in let w = c.look-word.result in
    let kept = c.recall-kept.result in let x = c.in-Ok.value in let d = c.in-Ok.ensures in
    let wrong = c.is_right.ensures.wrong c.if-is_right.false in
    let stop = c.in-Some.stop in let found = c.in-Some.ensures in
    source_stops b p o j h g w c.requires.may.3 c.requires.may.0 c.look-word.ensures may.0 _
    (walk_sources b p o j h g k m w kept x c.is_at_cap.result c.requires.may.3 c.look-word.ensures d c.recall-kept.ensures c.needs_settled-needed.result found) stop
    (source_other p o found.tells.source.place stop.source (subst IsPlan (sym c.requires.may.1) c.requires.may.0.valid) c.requires.may.2 found.tells.source.in_places found.tells.source.source_is).1
    found.tells.source (Contains-append_right (d.words ++ []) found.words (loaded stop.source stop.word) found.tells.inside) found.tells.settled
    (elim (c.needs_settled-needed.ensures.0 found.tells.asked) [
      | inl at_cap ↦ inr (inl at_cap)
      | inr same ↦
          let spread : w.state ≡ Spread = elim wrong [ inl differs ↦ absurd (differs same) | inr spread ↦ spread ] in
          inr (inr (spread_aside b p o j h g k m w kept x c.is_at_cap.result c.requires.may.3 c.look-word.ensures d c.recall-kept.ensures c.needs_settled-needed.result found spread same))
    ])

pub leave_blocked-requires-clause-grounds : goal.leave_blocked-requires-clause-grounds
leave_blocked-requires-clause-grounds c =
    let may = c.may_roll.ensures.may c.if-not-may_roll.false in let b = c.args.self.now in let p = c.args.plan.now in let o = c.args.op in let j = c.args.j in
    let h = c.args.hand.now in let g = c.look-word.new.hand in let k = c.source_value.new.hand in let m = c.recall-kept.new.hand in let w = c.look-word.result in
    let kept = c.recall-kept.result in let x = c.in-Ok.value in let d = c.in-Ok.ensures in
    subst (λ (q : Plan). HasGroundsToRoll q (cap_of b) o (view_of c.open_source.new.hand) w (last_place 0 (view_of c.open_source.new.hand).records)) c.requires.may.1
    (grounds_roll b p o j h g k m w kept x c.is_at_cap.result c.requires.may.3 c.look-word.ensures d c.recall-kept.ensures c.needs_settled-needed.result c.open_source.ensures c.in_default.is
    c.requires.in_places may.0 may.1 c.is_at_cap.ensures.1 c.needs_settled-needed.ensures.1 (c.is_right.ensures.wrong c.if-is_right.false))

pub leave_blocked-requires-clause-place : goal.leave_blocked-requires-clause-place
leave_blocked-requires-clause-place c =
    let b = c.args.self.now in let p = c.args.plan.now in let o = c.args.op in let j = c.args.j in
    let h = c.args.hand.now in let g = c.look-word.new.hand in let k = c.source_value.new.hand in let m = c.recall-kept.new.hand in let w = c.look-word.result in
    sym (place_is b p o j h g k m w c.recall-kept.result c.in-Ok.value c.is_at_cap.result c.requires.may.3 c.look-word.ensures c.in-Ok.ensures c.recall-kept.ensures c.needs_settled-needed.result c.open_source.ensures)

pub returns-in-None-clause-answer : goal.returns-in-None-clause-answer
returns-in-None-clause-answer c =
    let may = c.may_roll.ensures.may c.if-not-may_roll.false in let b = c.args.self.now in let p = c.args.plan.now in let o = c.args.op in let j = c.args.j in
    let h = c.args.hand.now in let g = c.look-word.new.hand in let k = c.source_value.new.hand in let m = c.recall-kept.new.hand in let w = c.look-word.result in
    let kept = c.recall-kept.result in let x = c.in-Ok.value in let d = c.in-Ok.ensures in
    rolled_done b p o j h g w c.requires.may.3 c.requires.may.0 c.look-word.ensures may.0 _
    (walk_sources b p o j h g k m w kept x c.is_at_cap.result c.requires.may.3 c.look-word.ensures d c.recall-kept.ensures c.needs_settled-needed.result c.open_source.ensures) _ may.1
    (place_is b p o j h g k m w kept x c.is_at_cap.result c.requires.may.3 c.look-word.ensures d c.recall-kept.ensures c.needs_settled-needed.result c.open_source.ensures) c.in-None.ensures

pub returns-in-Some-leave_blocked-clause-answer : goal.returns-in-Some-leave_blocked-clause-answer
returns-in-Some-leave_blocked-clause-answer c =
    let may = c.may_roll.ensures.may c.if-not-may_roll.false in let b = c.args.self.now in let p = c.args.plan.now in let o = c.args.op in let j = c.args.j in
    let h = c.args.hand.now in let g = c.look-word.new.hand in let k = c.source_value.new.hand in let m = c.recall-kept.new.hand in let w = c.look-word.result in
    let kept = c.recall-kept.result in let x = c.in-Ok.value in let d = c.in-Ok.ensures in
    found_unrolled b p o j h g w c.requires.may.3 c.requires.may.0 c.look-word.ensures may.0 _
    (walk_sources b p o j h g k m w kept x c.is_at_cap.result c.requires.may.3 c.look-word.ensures d c.recall-kept.ensures c.needs_settled-needed.result c.open_source.ensures) _
    c.in-Some-leave_blocked.ensures.0 c.in-Some-leave_blocked.ensures.1
