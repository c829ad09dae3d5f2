use Rattle.std.proofs.Common.{◌≡◌, ap, arith, subst, sym, ◌∙◌, Option}
use Rattle.std.specs.Slots.{slots_items}
use Rattle.atomic_table.specs.Table.{Final, Seen}
use Rattle.morph_base.specs.declared.plan.Plan.{Plan}
use Rattle.morph_base.specs.Plans.{event_count}
use Rattle.op_words.specs.declared.trail.View.{View}
use Rattle.op_words.specs.Hands.{plan_of, cap_of, counters_of, view_of}
use Rattle.op_words.specs.Plays.{Sat}
use Rattle.op_words.specs.Rule.{Lawful}
use Rattle.op_words.proofs.Closing.{closed_ends}
use Rattle.op_words.proofs.board.Board.close.Goals as goal

pub returns : goal.returns
returns c = record {
  ends =
      let final = subst (λ (m : Option View). Final (Seen (Lawful (plan_of c.args.self) (cap_of c.args.self) (counters_of c.args.self)) c.args.root.seat.id m) (slots_items c.close_with.result.words) (slots_items c.close_with.result.slots)) (ap (λ (m : Sat). m.0) c.requires.root.seat) c.close_with.ensures.values.2 in
      closed_ends _ final c.requires.tag c.requires.joined;
  decisions =
      let level = c.args.self.leveled in
      let many : c.len.result ≡ event_count (plan_of c.args.self) = c.len.ensures ∙ ap (λ (p : Plan). event_count p) c.requires.plan in
      omega (arith, level, many);
  counts = c.requires.root.counts;
  journal = c.requires.root.journal;
  view_is = ap view_of (sym c.of-shown.ensures);
}
