use Rattle.event_reader.proofs.GeneratedLaws.{generated_ends, generated_counted, generated_is_short, generated_within}
use Rattle.event_reader.proofs.laws.generated_text_is_accepted.Goals as goal

pub returns-clause-ended : goal.returns-clause-ended
returns-clause-ended g c = λ app size seed events some few last.
    generated_ends (g.A.EventApp.event_of app size) (g.A.MakesInput.generated app size) (λ i state start end. g.met.A.MakesInput.generates app size i state some few start end)
    seed events last

pub returns-clause-events : goal.returns-clause-events
returns-clause-events g c = λ app size seed events some few last.
    generated_counted (g.A.EventApp.event_of app size) (g.A.MakesInput.generated app size) (λ i state start end. g.met.A.MakesInput.generates app size i state some few start end)
    seed events last

pub returns-clause-short : goal.returns-clause-short
returns-clause-short g c = λ app size seed events some few last.
    generated_is_short (g.A.EventApp.event_of app size) (g.A.MakesInput.generated app size) (λ i state start end. g.met.A.MakesInput.generates app size i state some few start end)
    seed events last

pub returns-clause-within : goal.returns-clause-within
returns-clause-within g c = λ app size seed events some few last.
    generated_within (g.A.EventApp.event_of app size) (g.A.MakesInput.generated app size) (λ i state start end. g.met.A.MakesInput.generates app size i state some few start end)
    seed events last
