use Rattle.std.proofs.Common.{◌∙◌, length, sym, subst, inl, inr, arith}
use Rattle.steal_explorer.specs.Finding.{StealsRound}
use Rattle.steal_explorer.proofs.Stealing.{keep_seated, round_above, round_below}
use Rattle.steal_explorer.proofs.find.steal.Goals as goal

pub steal_range-below-requires : goal.steal_range-below-requires
steal_range-below-requires c = record {
  inside = omega (arith, c.requires.inside);
  len = c.steal_range-above.ensures.answer.len ∙ c.requires.len;
  seated = keep_seated _ _ _ _ _ c.requires.under (λ j x low high. c.steal_range-above.ensures.answer.others j x (inl (omega arith)));
}

pub returns-then-is_item-clause-under : goal.returns-then-is_item-clause-under
returns-then-is_item-clause-under c = keep_seated _ _ _ _ _ c.requires.under (λ j x low high. c.steal_range-above.ensures.answer.others j x (inl (omega arith)))

pub returns-then-is_item-clause-answer : goal.returns-then-is_item-clause-answer
returns-then-is_item-clause-answer c = round_above _ _ _ _ _ c.requires.inside (sym c.is_item.ensures ∙ c.if-is_item.true) c.steal_range-above.ensures.answer c.steal_range-above.ensures.none

pub returns-clause-above : goal.returns-clause-above
returns-clause-above c = keep_seated _ _ _ _ _ c.steal_range-above.ensures.seated (λ j x low high. c.steal_range-below.ensures.answer.others j x (inr (omega arith)))

pub returns-clause-answer : goal.returns-clause-answer
returns-clause-answer c =
    subst (λ f. StealsRound c.args.number (length c.args.thieves.now) f c.args.tickets.now.items c.steal_range-below.new.tickets.items) (sym c.or.ensures)
    (round_below _ _ _ _ _ _ _ c.requires.inside (sym c.is_item.ensures ∙ c.if-is_item.false) c.steal_range-above.ensures.answer c.steal_range-below.ensures.answer c.steal_range-above.ensures.none c.steal_range-below.ensures.none)
