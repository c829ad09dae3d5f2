use Rattle.std.proofs.Common.{◌∙◌, ◌<◌, length, slice_index, sym, ap, subst}
use Rattle.std.proofs.lemmas.Option.{none-some, same_Some}
use Rattle.morph_base.specs.Clean.{from}
use Rattle.morph_base.specs.Known.{IsKnown}
use Rattle.morph_base.specs.Plans.{final}
use Rattle.morph_base.proofs.KnownLaws.{final_committed, final_aborted}
use Rattle.abort_lazy.proofs.Made.{places_some}
use Rattle.abort_lazy.proofs.Reading.{source_known, source_read}
use Rattle.abort_lazy.proofs.plain_finish.value_left.Goals as goal

pub unreachable-requires : goal.unreachable-requires
unreachable-requires c =
    let p = c.args.plan.now in
    let answers = final_committed p c.requires.plan c.args.o c.requires.op (sym c.requires.verdict ∙ c.if-committed.true) in
    none-some (final p c.args.o) (sym c.in_default.is ∙ c.answer.ensures ∙ answers)

pub returns-then-committed : goal.returns-then-committed
returns-then-committed c =
    let p = c.args.plan.now in
    let answers = final_committed p c.requires.plan c.args.o c.requires.op (sym c.requires.verdict ∙ c.if-committed.true) in
    same_Some c.in-Some.value (final p c.args.o) (sym c.in-Some.is ∙ c.answer.ensures ∙ answers)

pub value_in-requires : goal.value_in-requires
value_in-requires c =
    let p = c.args.plan.now in
    let o = c.args.o in
    let at_place = c.origin.ensures in
    subst (IsKnown (λ t. t < length c.args.values.now.items)) (sym at_place)
    (source_known p o 0 c.args.values.now.items c.requires.plan c.requires.op (places_some p o c.requires.plan c.requires.op).0 c.requires.values)

pub returns : goal.returns
returns c =
    let p = c.args.plan.now in
    let o = c.args.o in
    let at_place = c.origin.ensures in
    c.value_in.ensures
    ∙ ap (from (slice_index c.args.values.now.items)) at_place
    ∙ source_read p o 0 c.args.values.now.items c.requires.plan c.requires.op (places_some p o c.requires.plan c.requires.op).0 c.requires.values
    ∙ sym (final_aborted p c.requires.plan o c.requires.op (sym c.requires.verdict ∙ c.if-committed.false))
