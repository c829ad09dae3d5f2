use Rattle.batch_pipe.proofs.Courses.{course_start, course_round}
use Rattle.batch_pipe.proofs.laws.courses_go_on.Goals as goal

pub returns-clause-begins : goal.returns-clause-begins
returns-clause-begins g c = λ m reader engine ahead left. course_start g.A.EventApp.event_of m reader engine ahead left

pub returns-clause-round : goal.returns-clause-round
returns-clause-round g c = λ m reader engine left before after rounds rans old new teller teller' course going round. course_round g.A.EventApp.event_of m course going round
