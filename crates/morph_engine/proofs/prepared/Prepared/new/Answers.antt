use Rattle.std.proofs.Common.{◌≡◌, ◌≤◌, ◌+◌, ◌-◌, ◌*◌, length, sym, ap, ◌∙◌, subst, arith}
use Rattle.morph_base.specs.declared.limits.TheConstants.{EVENT_OPS, EVENTS}
use Rattle.morph_base.specs.Plans.{op_count, event_count}
use Rattle.morph_base.proofs.NumberLaws.{op_count-small}
use Rattle.chain_units.specs.Places.{IsPartition}
use Rattle.chain_units.proofs.Partition.{each_in_one}
use Rattle.op_words.specs.declared.trail.View.{View}
use Rattle.op_words.specs.Hands.{view_of}
use Rattle.op_eval.specs.Gathering.{runners_of}
use Rattle.strata_explorer.proofs.Leveling.{small_levels}
use Rattle.morph_engine.specs.Exploring.{IsSupply, HasDependentsFor}
use Rattle.morph_engine.specs.Teams.{IsTeam}
use Rattle.morph_engine.proofs.EventLevels.{small_event_levels}
use Rattle.morph_engine.proofs.Preparing.{IsUntouched, first_runners}
use Rattle.morph_engine.proofs.prepared.Prepared.new.Goals as goal

pub units-requires : goal.units-requires
units-requires c = let few : op_count c.args.plan.now ≤ EVENT_OPS * EVENTS = op_count-small c.args.plan.now c.requires.valid.plan in omega (arith, few)

pub overflow_cast-counters : goal.overflow_cast-counters
overflow_cast-counters c = let few = small_event_levels c.args.plan.now c.requires.valid in omega (arith, few, c.len.ensures)

pub overflow_mul-counters : goal.overflow_mul-counters
overflow_mul-counters c = let few = small_event_levels c.args.plan.now c.requires.valid in omega (arith, few, c.len.ensures)

pub overflow_add-counters : goal.overflow_add-counters
overflow_add-counters c =
    let few = small_event_levels c.args.plan.now c.requires.valid in
    let levels = small_levels c.args.plan.now c.requires.valid in
    omega (arith, few, levels, c.len.ensures, c.counters.ensures)

pub returns-clause-prepared : goal.returns-clause-prepared
returns-clause-prepared c =
    let seen = c.in_ok-board.ensures.view in
    let board = c.in_ok-board.board in
    let untouched : IsUntouched (view_of c.in_ok-board.root) =
    record {
      tag = ap (λ (v : View). v.tag) seen;
      made = ap (λ (v : View). v.made) seen;
      joined = ap (λ (v : View). v.joined) seen;
      trail = ap (λ (v : View). v.trail) seen;
      notes = ap (λ (v : View). v.notes) seen;
    } in
    let many = c.in_ok-runners.ensures.new.len in
    let all : length (runners_of c.in_ok-runners.runners) + (c.args.workers - c.team_for-team.result) ≡ c.args.workers = omega (arith, many, c.team_for-team.ensures.few) in
    let team_of_made = subst (λ n. IsTeam c.args.plan.now n (length (runners_of c.in_ok-runners.runners))) (sym all) (subst (IsTeam c.args.plan.now c.args.workers) (sym many) c.team_for-team.ensures) in
    record {
      plan = c.in_ok-board.ensures.plan;
      cap = c.in_ok-board.ensures.cap ∙ c.cap_of.ensures;
      counters = c.in_ok-board.ensures.counters ∙ omega (arith, c.counters.ensures, c.len.ensures);
      partition = subst (λ us. IsPartition us (op_count c.args.plan.now)) (sym c.in_ok-units.ensures.units) (each_in_one c.args.plan.now c.args.strategy.now.unit);
      number = c.in_ok-units.ensures.ops;
      ready = c.in_ok-runners.ensures.fresh (ap (λ (v : View). v.claim) seen) (ap (λ (v : View). v.places) seen) (let same = ap event_count c.in_ok-board.ensures.plan in omega (arith, same, c.len-2.ensures));
      first = first_runners board (view_of c.in_ok-board.root) c.team_for-team.result _ (runners_of c.in_ok-runners.runners) c.in_ok-runners.ensures.new untouched c.team_for-team.ensures.some;
      team = team_of_made;
      few = (let many = c.in_ok-runners.ensures.new.len in omega (arith, many, c.team_for-team.ensures.few, c.requires.few));
      supply = subst (λ n. IsSupply c.args.plan.now n c.in_ok-supply.supply) (sym c.in_ok-runners.ensures.new.len) c.in_ok-supply.ensures.ready;
      dependents = subst (λ explore. HasDependentsFor c.args.plan.now explore c.args.strategy.now.abort c.in_ok-dependents.dependents) (sym c.in_ok-supply.ensures.explore) c.in_ok-dependents.ensures;
      room = c.in_ok-room.ensures;
    }

pub returns-clause-journal : goal.returns-clause-journal
returns-clause-journal c = λ d. ap (λ (v : View). v.room) (c.in_ok-runners.ensures.new.root d) ∙ ap (λ (v : View). v.room) c.in_ok-board.ensures.view
