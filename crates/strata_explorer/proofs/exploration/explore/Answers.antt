use Rattle.std.proofs.Common.{ℕ, sym, subst, length, ◌<◌}
use Rattle.op_words.specs.declared.board.Board.{Board}
use Rattle.op_eval.specs.declared.explored.RunEnd.{RunEnd}
use Rattle.op_eval.specs.declared.runners.Runners.{Runners}
use Rattle.op_eval.specs.Exploring.{parts_of, rules_on}
use Rattle.op_eval.specs.Gathering.{runners_of}
use Rattle.op_eval.specs.Further.{HaveGoneOn}
use Rattle.strata_explorer.specs.Levels.{IsAlone}
use Rattle.strata_explorer.specs.Outcomes.{HasPassed}
use Rattle.strata_explorer.proofs.Ends.{strata_none, handed_on, handed_back}
use Rattle.strata_explorer.proofs.Outcomes.{passed_reached}
use Rattle.strata_explorer.proofs.Lone.{lone_root_ran}
use Rattle.strata_explorer.proofs.Leveling.{levels_of}
use Rattle.strata_explorer.proofs.exploration.explore.Goals as goal

pub pass_all-end-requires-clause-ready : goal.pass_all-end-requires-clause-ready
pass_all-end-requires-clause-ready g c κs within = strata_none _ _ c.args.runners c.requires.plan c.requires.ready _ c.as_mut_slice.ensures.items

pub new-requires : goal.new-requires
new-requires g c =
    let all = c.pass_all-end.ensures in
    let reached = passed_reached _ _ _ _ _ all.passed in
    handed_on c.args.plan.now c.args.board c.pass_all-end.new.board c.args.runners reached.0 _ _ _ c.requires.plan all.plan c.requires.ready c.as_mut_slice.ensures.items all.hands.len all.seated
    (λ d. (all.hands.each 0 d (subst (λ l. 0 < length l) (sym c.as_mut_slice.ensures.items) c.requires.ready.rest.some)).tag) reached.1

pub returns-clause-hands : goal.returns-clause-hands
returns-clause-hands g c =
    let back = handed_back _ _ c.args.runners _ _ _ _ c.new.ensures.parts c.as_mut_slice.ensures.items c.pass_all-end.ensures.hands.len in
    subst (λ rs. HaveGoneOn rs (runners_of (parts_of c.new.result).1)) c.as_mut_slice.ensures.items
    (subst (λ rs. HaveGoneOn c.as_mut_slice.result.now rs) (sym back) c.pass_all-end.ensures.hands)

pub returns-clause-passed : goal.returns-clause-passed
returns-clause-passed g c =
    let back = handed_back _ _ c.args.runners _ _ _ _ c.new.ensures.parts c.as_mut_slice.ensures.items c.pass_all-end.ensures.hands.len in
    let rules = rules_on c.args.board c.args.plan.now c.args.units.now.units c.args.abort in
    subst (λ (t : Board × Runners × RunEnd × ℕ). HasPassed rules (runners_of c.args.runners) (runners_of (parts_of c.new.result).1) t.2 t.3) (sym c.new.ensures.parts)
    (subst (λ rs. HasPassed rules rs (runners_of (parts_of c.new.result).1) c.pass_all-end.result.0 c.pass_all-end.result.1) c.as_mut_slice.ensures.items
    (subst (λ rs. HasPassed rules c.as_mut_slice.result.now rs c.pass_all-end.result.0 c.pass_all-end.result.1) (sym back) c.pass_all-end.ensures.passed))

pub returns-clause-alone : goal.returns-clause-alone
returns-clause-alone g c =
    let back = handed_back _ _ c.args.runners _ _ _ _ c.new.ensures.parts c.as_mut_slice.ensures.items c.pass_all-end.ensures.hands.len in
    let p = c.args.plan.now in
    let n = length p.op_levels.items in
    λ lazy first.
    subst (λ rs. IsAlone p n rs (runners_of (parts_of c.new.result).1)) c.as_mut_slice.ensures.items
    (subst (λ rs. IsAlone p n c.as_mut_slice.result.now rs) (sym back) (c.pass_all-end.ensures.alone lazy first))

pub returns-clause-ran : goal.returns-clause-ran
returns-clause-ran g c =
    let back = handed_back _ _ c.args.runners _ _ _ _ c.new.ensures.parts c.as_mut_slice.ensures.items c.pass_all-end.ensures.hands.len in
    let p = c.args.plan.now in
    λ lazy first root.
    lone_root_ran p (levels_of p c.requires.valid) (runners_of c.args.runners) (runners_of (parts_of c.new.result).1) root
    (subst (λ rs. IsAlone p (length p.op_levels.items) rs (runners_of (parts_of c.new.result).1)) c.as_mut_slice.ensures.items
    (subst (λ rs. IsAlone p (length p.op_levels.items) c.as_mut_slice.result.now rs) (sym back) (c.pass_all-end.ensures.alone lazy first)))
