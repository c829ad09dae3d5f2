use Rattle.std.proofs.Common.{◌<◌, length, sym, subst}
use Rattle.op_eval.specs.Gathering.{runners_of}
use Rattle.op_eval.specs.Exploring.{rules_on}
use Rattle.morph_engine.proofs.HandingOut.{have_handed}
use Rattle.morph_engine.proofs.Waiting.{some_work, front_explored, behind_waits, waits_by, further_all, new_front, ran_all, handed_all}
use Rattle.morph_engine.proofs.crew.Crew.explore.Goals as goal

pub explore-explored-requires-clause-ready : goal.explore-explored-requires-clause-ready
explore-explored-requires-clause-ready g c κs within =
    let some = some_work _ _ _ _ _ c.set_aside.ensures.all c.set_aside.ensures.many c.requires.crew in
    front_explored c.args.board c.args.runners c.set_aside.new.runners _ c.set_aside.ensures.all some (c.set_aside.ensures.places c.requires.ready.places) c.requires.ready

pub with_waiting-explored-requires-clause-waiting : goal.with_waiting-explored-requires-clause-waiting
with_waiting-explored-requires-clause-waiting g c =
    waits_by _ _ _ (c.explore-explored.ensures.board) (behind_waits c.args.board c.args.runners _ _ c.set_aside.ensures.all c.requires.ready)

pub returns-clause-hands : goal.returns-clause-hands
returns-clause-hands g c = further_all _ _ _ _ _ c.set_aside.ensures.all c.with_waiting-explored.ensures.runners c.explore-explored.ensures.hands

pub returns-clause-ran : goal.returns-clause-ran
returns-clause-ran g c = λ lazy new.
    let some = some_work _ _ _ _ _ c.set_aside.ensures.all c.set_aside.ensures.many c.requires.crew in
    let root = new_front _ _ _ c.set_aside.ensures.all some new in
    let after : 0 < length (runners_of c.explore-explored.result.0.runners) = subst (λ n. 0 < n) (sym c.explore-explored.ensures.hands.len) some in
    ran_all c.args.plan.now _ _ _ c.with_waiting-explored.ensures.runners after (c.explore-explored.ensures.alone lazy c.requires.cap root).ran

pub returns-clause-handed : goal.returns-clause-handed
returns-clause-handed g c =
    let p = c.args.plan.now in
    let some = some_work _ _ _ _ _ c.set_aside.ensures.all c.set_aside.ensures.many c.requires.crew in
    let told = c.explore-explored.ensures in
    let e = c.explore-explored.result.0 in
    let handed = c.explore-explored.result.1 in
    handed_all p c.args.abort (runners_of c.args.runners) (runners_of c.set_aside.new.runners) _ e c.with_waiting-explored.result handed.handed handed.stolen c.set_aside.ensures.all some c.with_waiting-explored.ensures.runners c.with_waiting-explored.ensures.next
    (have_handed (rules_on c.args.board p c.args.units.now.units c.args.abort) c.args.self.deques (runners_of c.set_aside.new.runners) handed told.turns e c.requires.crew.ready told.balance told.handed told.stolen told.inside told.reached told.drained told.unstolen
    (λ lazy. told.alone lazy c.requires.cap) told.next_counter)
