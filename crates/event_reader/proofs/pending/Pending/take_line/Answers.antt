use Rattle.std.proofs.Common.{sym, refl, ◌∙◌, ap, arith, length-append, [], ◌∷◌}
use Rattle.std.proofs.lemmas.Bool.{false≢true}
use Rattle.morph_base.specs.Transactions.{transaction}
use Rattle.event_reader.specs.Pending.{batch_of}
use Rattle.event_reader.specs.Steps.{rules_of, said_by}
use Rattle.event_reader.specs.declared.cause.Cause.TheVariants.{Form}
use Rattle.event_reader.proofs.LineSteps.{leads_ignored, leads_empty, leads_closed, leads_refused, leads_joined, leads_not_joined, sound_more, some_item}
use Rattle.event_reader.proofs.pending.Pending.take_line.Goals as goal

pub returns-then-is_ignored_line : goal.returns-then-is_ignored_line
returns-then-is_ignored_line g c = record {
  leads = leads_ignored _ _ (batch_of c.args.self.now) _ c.requires.short (sym c.if-is_ignored_line.ensures);
  notes = c.requires.notes;
  sound = c.requires.sound;
  more = omega arith;
}

pub returns-then-is_empty : goal.returns-then-is_empty
returns-then-is_empty g c = record {
  leads = leads_empty _ _ (batch_of c.args.self.now) _ c.requires.short (sym c.if-is_ignored_line.ensures) (sym c.if-is_punctuation_line.ensures)
      (c.if-is_empty.ensures.0 refl);
  notes = c.requires.notes;
  sound = c.requires.sound;
  more = omega arith;
}

pub returns-then-is_punctuation_line : goal.returns-then-is_punctuation_line
returns-then-is_punctuation_line g c = record {
  leads = leads_closed _ _ (batch_of c.args.self.now) _ c.requires.short _ c.requires.notes.latest (sym c.if-is_ignored_line.ensures) (sym c.if-is_punctuation_line.ensures);
  same = refl;
  some = some_item (batch_of c.args.self.now) (λ none. false≢true (c.if-is_empty.ensures.1 none));
}

pub returns-in_default : goal.returns-in_default
returns-in_default g c =
    leads_refused (rules_of (g.A.EventApp.event_of c.args.app.now c.args.size) c.args.past.version) _ (batch_of c.args.self.now) _ c.requires.short Form
    (sym c.if-is_ignored_line.ensures) (sym c.if-is_punctuation_line.ensures)
    (ap (said_by (g.A.EventApp.event_of c.args.app.now c.args.size c.args.past.version)) (sym c.in_default.ensures))

pub returns-in-Err-Refused : goal.returns-in-Err-Refused
returns-in-Err-Refused g c =
    let said = rw c.in-Err-Refused.field-0-is at c.in-Err-Refused.ensures.gives in
    rw c.in-Err-Refused.cause-is
    (leads_refused (rules_of (g.A.EventApp.event_of c.args.app.now c.args.size) c.args.past.version) _ (batch_of c.args.self.now) _ c.requires.short c.in-Err-Refused.cause
    (sym c.if-is_ignored_line.ensures) (sym c.if-is_punctuation_line.ensures)
    (ap (said_by (g.A.EventApp.event_of c.args.app.now c.args.size c.args.past.version)) (sym c.in-Some.ensures) ∙ said))

pub returns-in-None : goal.returns-in-None
returns-in-None g c =
    let e = transaction c.in-Ok.ts c.read_event.new.ops in
    let joined = rw c.in-None.is at c.in_ok-join.ensures in
    let is = ap (said_by (g.A.EventApp.event_of c.args.app.now c.args.size c.args.past.version)) (sym c.in-Some.ensures) ∙ c.in-Ok.ensures.gives in
    let valid = g.met.A.EventApp.gives_valid c.args.app.now c.args.size c.args.past.version c.in-Some.words e c.in-Ok.ensures.gives in
    record {
      leads = leads_joined (rules_of (g.A.EventApp.event_of c.args.app.now c.args.size) c.args.past.version) _ (batch_of c.args.self.now) _ c.requires.short e (batch_of c.join.new.self)
          (sym c.if-is_ignored_line.ensures) (sym c.if-is_punctuation_line.ensures) is joined.joins joined.events;
      notes = joined.notes;
      sound = sound_more c.args.past.version _ c.args.past.closed (batch_of c.args.self.now) e (batch_of c.join.new.self) c.requires.sound valid joined.joins joined.events;
      more = rw joined.events (omega (arith, length-append (batch_of c.args.self.now) (e ∷ [])));
    }

pub returns-in-Some-2 : goal.returns-in-Some-2
returns-in-Some-2 g c =
    let e = transaction c.in-Ok.ts c.read_event.new.ops in
    let joined = rw c.in-Some-2.is at c.in_ok-join.ensures in
    let is = ap (said_by (g.A.EventApp.event_of c.args.app.now c.args.size c.args.past.version)) (sym c.in-Some.ensures) ∙ c.in-Ok.ensures.gives in
    leads_not_joined (rules_of (g.A.EventApp.event_of c.args.app.now c.args.size) c.args.past.version) _ (batch_of c.args.self.now) _ c.requires.short e c.in-Some-2.cause
    (sym c.if-is_ignored_line.ensures) (sym c.if-is_punctuation_line.ensures) is joined
