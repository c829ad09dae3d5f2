use Rattle.batch_pipe.proofs.Courses.{course_few}
use Rattle.batch_pipe.proofs.Rounds.{turns_fall}
use Rattle.batch_pipe.proofs.laws.rounds_are_few.Goals as goal

pub returns-clause-fall : goal.returns-clause-fall
returns-clause-fall g c = λ m before after old new teller teller' round going few. turns_fall round going few

pub returns-clause-few : goal.returns-clause-few
returns-clause-few g c = λ m reader engine left after rounds rans v course. course_few g.A.EventApp.event_of m course
