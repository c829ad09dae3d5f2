use Rattle.std.proofs.Common.{◌≡◌, List, ap, sym, subst, ◌∙◌}
use Rattle.interleaving_core.specs.declared.event.CoreEvent.{CoreEvent}
use Rattle.op_words.specs.Closing.{words_of}
use Rattle.op_words.specs.Journals.{steps_in, IsJournalOf}
use Rattle.op_words.proofs.Journaling.{journal_leads}
use Rattle.op_words.proofs.closed.Closed.journal.Goals as goal

pub returns-in-Some-clause-leads : goal.returns-in-Some-clause-leads
returns-in-Some-clause-leads c = λ p cap counters v is one.
    let same : steps_in c.args.self.now.journal ≡ c.steps.result.now = ap steps_in c.in-Some.is ∙ sym c.steps.ensures in
    subst (λ (es : List CoreEvent). IsJournalOf p cap v.room es is.ends.core) same (journal_leads p cap counters (words_of c.args.self.now) v c.args.self.now.journal is.ends is.journal one)

pub returns-in-None-clause-leads : goal.returns-in-None-clause-leads
returns-in-None-clause-leads c = λ p cap counters v is one.
    subst (λ (es : List CoreEvent). IsJournalOf p cap v.room es is.ends.core) (ap steps_in c.in-None.is) (journal_leads p cap counters (words_of c.args.self.now) v c.args.self.now.journal is.ends is.journal one)

pub returns-in-Some-clause-own : goal.returns-in-Some-clause-own
returns-in-Some-clause-own c = λ p cap counters v is. c.steps.ensures ∙ ap steps_in (sym c.in-Some.is) ∙ is.journal.steps

pub returns-in-None-clause-own : goal.returns-in-None-clause-own
returns-in-None-clause-own c = λ p cap counters v is. ap steps_in (sym c.in-None.is) ∙ is.journal.steps
