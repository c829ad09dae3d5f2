use Rattle.batch_pipe.proofs.Courses.{course_front, course_parts, course_whole, course_ends, course_cut}
use Rattle.batch_pipe.proofs.laws.courses_end.Goals as goal

pub returns-clause-front : goal.returns-clause-front
returns-clause-front g c = λ m reader engine left after rounds rans v course. course_front g.A.EventApp.event_of m course

pub returns-clause-ran : goal.returns-clause-ran
returns-clause-ran g c = λ m reader engine left after rounds rans v course. course_parts g.A.EventApp.event_of m course

pub returns-clause-whole : goal.returns-clause-whole
returns-clause-whole g c = λ m reader engine left after rounds rans v course done fine. course_whole g.A.EventApp.event_of m course done fine

pub returns-clause-ended : goal.returns-clause-ended
returns-clause-ended g c = λ m reader engine left after rounds rans v course tail ending ends told. course_ends g.A.EventApp.event_of m course tail ending ends told

pub returns-clause-cut : goal.returns-clause-cut
returns-clause-cut g c = λ m reader engine left after rounds rans v course app size limit new ends. course_cut g.A.EventApp.event_of m course app size limit new ends
