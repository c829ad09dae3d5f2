use Rattle.std.proofs.Common.{◌≡◌, ◌≤◌, ◌+◌, map, sym, ap, ◌∙◌, subst, arith}
use Rattle.morph_base.specs.Contents.{Contents}
use Rattle.morph_base.specs.declared.plan.Plan.{Plan}
use Rattle.op_words.specs.Closing.{IsClosed}
use Rattle.op_words.specs.Hands.{plan_of, cap_of, counters_of}
use Rattle.op_eval.specs.declared.answers.Left.{Left}
use Rattle.op_eval.specs.declared.runner.Runner.{Runner}
use Rattle.op_eval.specs.Gathering.{runners_of}
use Rattle.strata_explorer.specs.Levels.{counters_for}
use Rattle.strata_explorer.proofs.Leveling.{small_levels}
use Rattle.abort_lazy.specs.Ended.{AreCauses}
use Rattle.abort_lazy.specs.Runs.{settling_counters, AreSettling, root_view}
use Rattle.morph_engine.specs.Caps.{cap_for}
use Rattle.morph_engine.specs.Exploring.{explore_of}
use Rattle.morph_engine.proofs.Caps.{cap_some}
use Rattle.morph_engine.proofs.Ending.{some_runner, all_made, begun, closed_at, made_all, places_all, some_after, has_run, kept_run}
use Rattle.morph_engine.proofs.EventLevels.{small_event_levels}
use Rattle.morph_engine.proofs.prepared.Prepared.run.Goals as goal

pub explore_by-explored-requires-clause-cap : goal.explore_by-explored-requires-clause-cap
explore_by-explored-requires-clause-cap g c κs within = let some = cap_some c.args.self.abort in let is = c.requires.prepared.cap in omega (arith, some, is)

pub settle_all-requires-clause-few : goal.settle_all-requires-clause-few
settle_all-requires-clause-few g c κs within =
    let p = c.args.plan.now in
    let few = small_event_levels p c.requires.valid in
    let levels = small_levels p c.requires.valid in
    let is : counters_of c.explore_by-explored.result.0.board ≡ counters_for p + settling_counters p = c.explore_by-explored.ensures.counters ∙ c.requires.prepared.counters in
    omega (arith, few, levels, is)

pub close-closed-requires-clause-all : goal.close-closed-requires-clause-all
close-closed-requires-clause-all g c =
    let x = c.args.self in
    let e = c.explore_by-explored.result.0 in
    let told = c.explore_by-explored.ensures in
    c.settle_all.ensures.all
    (all_made c.args.plan.now c.requires.valid x c.requires.prepared e (runners_of c.settle_all.result.runners) told.explored told.plan told.cap told.hands told.ran c.settle_all.ensures.settled c.settle_all.ensures.alone)

pub close-closed-requires-clause-places : goal.close-closed-requires-clause-places
close-closed-requires-clause-places g c = λ some.
    let x = c.args.self in
    let e = c.explore_by-explored.result.0 in
    let told = c.explore_by-explored.ensures in
    places_all c.args.plan.now c.requires.valid x c.requires.prepared e (runners_of c.settle_all.result.runners) told.explored told.plan told.cap told.hands told.ran c.settle_all.ensures.settled c.settle_all.ensures.alone

pub close-closed-requires-clause-few : goal.close-closed-requires-clause-few
close-closed-requires-clause-few g c = λ some.
    let x = c.args.self in
    let e = c.explore_by-explored.result.0 in
    let told = c.explore_by-explored.ensures in
    made_all c.args.plan.now c.requires.valid x c.requires.prepared e (runners_of c.settle_all.result.runners) told.explored told.plan told.cap told.hands told.ran c.settle_all.ensures.settled c.settle_all.ensures.alone

pub finish-settled-requires-clause-closed : goal.finish-settled-requires-clause-closed
finish-settled-requires-clause-closed g c =
    let b = c.settle_all.result.board in
    let rs = runners_of c.settle_all.result.runners in
    let same = c.settle_all.ensures.board in
    let told = c.explore_by-explored.ensures in
    let d : Runner = some_runner rs c.settle_all.ensures.run.rest.some in (
      cap_for c.args.self.abort,
      counters_of b,
      root_view c.args.self.idle d rs,
      closed_at c.args.plan.now (cap_for c.args.self.abort) b (counters_of b) (root_view c.args.self.idle d rs) c.close-closed.result.0 (ap plan_of same ∙ told.plan ∙ c.requires.prepared.plan) (ap cap_of same ∙ told.cap ∙ c.requires.prepared.cap)
          (c.close-closed.ensures.closed d),
    )

pub returns-clause-ran : goal.returns-clause-ran
returns-clause-ran g c =
    let p : Plan = c.args.plan.now in
    let x = c.args.self in
    let cap = cap_for x.abort in
    let e = c.explore_by-explored.result.0 in
    let tallied = c.explore_by-explored.result.1 in
    let told = c.explore_by-explored.ensures in
    let b = c.settle_all.result.board in
    let rs = runners_of c.settle_all.result.runners in
    let closed = c.close-closed.result.0 in
    let settling = c.settle_all.ensures.settled in
    let by_root = c.settle_all.ensures.alone in
    let same = c.settle_all.ensures.board in
    let its_cap = ap cap_of same ∙ told.cap ∙ c.requires.prepared.cap in
    let some = some_after p c.requires.valid x c.requires.prepared e rs told.explored told.plan told.cap told.hands told.ran settling by_root in
    let d : Runner = some_runner rs some in
    let is : IsClosed p cap (counters_of b) (root_view x.idle d rs) closed =
    closed_at p cap b (counters_of b) (root_view x.idle d rs) closed (ap plan_of same ∙ told.plan ∙ c.requires.prepared.plan) its_cap (c.close-closed.ensures.closed d) in
    let lists = map (λ (l : Contents Left). l.items) c.close-closed.result.1.items in
    let start = begun p c.requires.valid x c.requires.prepared e rs told.explored told.plan told.cap told.hands told.ran settling by_root in
    let fits : counters_for p ≤ counters_of b = (let counters : counters_of b ≡ counters_for p + settling_counters p = ap counters_of same ∙ told.counters ∙ c.requires.prepared.counters in omega (arith, counters)) in
    has_run p c.requires.valid x c.requires.prepared e rs told.explored told.plan told.cap told.hands told.ran settling by_root (counters_of b) fits closed is
    c.close-closed.result.1.items c.close-closed.ensures.left
    (subst (λ n. (z : IsClosed p n (counters_of b) (root_view x.idle d rs) closed) → AreCauses p z.ends.core (root_view x.idle d rs) lists) its_cap
    (λ z.
    c.close-closed.ensures.causes d e.next_counter (runners_of e.runners) z c.requires.valid start
    (subst (λ board. AreSettling board p e.next_counter (runners_of e.runners) rs) (sym c.settle_all.ensures.board) settling)) is)
    c.finish-settled.result.by.items (c.finish-settled.ensures.tags cap (counters_of b) (root_view x.idle d rs) is)
    (explore_of x.supply) tallied.handed tallied.stolen told.way

pub returns-clause-kept : goal.returns-clause-kept
returns-clause-kept g c = λ room fits one.
    let p : Plan = c.args.plan.now in
    let x = c.args.self in
    let cap = cap_for x.abort in
    let e = c.explore_by-explored.result.0 in
    let told = c.explore_by-explored.ensures in
    let b = c.settle_all.result.board in
    let rs = runners_of c.settle_all.result.runners in
    let closed = c.close-closed.result.0 in
    let settling = c.settle_all.ensures.settled in
    let by_root = c.settle_all.ensures.alone in
    let same = c.settle_all.ensures.board in
    let some = some_after p c.requires.valid x c.requires.prepared e rs told.explored told.plan told.cap told.hands told.ran settling by_root in
    let d : Runner = some_runner rs some in
    let is : IsClosed p cap (counters_of b) (root_view x.idle d rs) closed =
    closed_at p cap b (counters_of b) (root_view x.idle d rs) closed (ap plan_of same ∙ told.plan ∙ c.requires.prepared.plan) (ap cap_of same ∙ told.cap ∙ c.requires.prepared.cap) (c.close-closed.ensures.closed d) in
    kept_run p c.requires.valid x c.requires.prepared e rs told.explored told.plan told.cap told.hands told.ran settling by_root room fits one (counters_of b) closed is
