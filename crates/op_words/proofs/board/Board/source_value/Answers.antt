use Rattle.std.proofs.Common.{◌∙◌, sym, subst, le_trans}
use Rattle.morph_base.specs.Plans.{IsPlan}
use Rattle.morph_base.proofs.BoundLaws.{high_of-small}
use Rattle.op_words.specs.Hands.{view_of}
use Rattle.op_words.proofs.Adding.{free_apart}
use Rattle.op_words.proofs.Seeking.{source_other}
use Rattle.op_words.proofs.Looking.{source_base, source_ready, source_unready}
use Rattle.op_words.proofs.board.Board.source_value.Goals as goal

pub returns-in-Base : goal.returns-in-Base
returns-in-Base c =
    let is = sym c.origin_of.ensures ∙ c.in-Base.is in
    let valid = subst IsPlan (sym c.requires.may.1) c.requires.may.0.valid in
    source_base _ _ _ _ _ _ _ c.requires.may.0 is (le_trans (valid.small c.args.op c.args.j c.in-Base.value c.requires.may.2 c.requires.in_places is) (high_of-small c.args.plan.now valid))

pub returns-then-is_usable : goal.returns-then-is_usable
returns-then-is_usable c =
    let is = sym c.origin_of.ensures ∙ c.in-Op.is in
    let usable = c.is_usable.ensures.usable c.if-is_usable.true in
    source_ready _ _ _ _ _ _ _ _ _ c.requires.may.0 c.requires.may.1 c.requires.in_places (source_other _ _ _ _ (subst IsPlan (sym c.requires.may.1) c.requires.may.0.valid) c.requires.may.2 c.requires.in_places is).1 (free_apart (view_of c.args.hand.now) c.in-Op.source c.requires.may.3) is c.look-word.ensures usable.0 usable.1

pub returns-else-is_usable : goal.returns-else-is_usable
returns-else-is_usable c =
    let is = sym c.origin_of.ensures ∙ c.in-Op.is in
    source_unready _ _ _ _ _ _ _ _ _ c.requires.may.0 c.requires.may.1 c.requires.in_places (source_other _ _ _ _ (subst IsPlan (sym c.requires.may.1) c.requires.may.0.valid) c.requires.may.2 c.requires.in_places is).1 (free_apart (view_of c.args.hand.now) c.in-Op.source c.requires.may.3) is c.look-word.ensures (c.is_usable.ensures.unusable c.if-is_usable.false)
