use Rattle.op_eval.proofs.Seating.{first_and_rest, all_first, all_rest, first_tag, gathered_all, left_all}
use Rattle.std.proofs.Common.{◌≡◌, None, refl}
use Rattle.op_words.specs.Hands.{IsHandOf}
use Rattle.op_eval.specs.Running.{hand_view}
use Rattle.op_eval.proofs.runners.Runners.gather.Goals as goal

pub join_all-requires-clause-root : goal.join_all-requires-clause-root
join_all-requires-clause-root c =
    let parts = first_and_rest c.args.self.runners.items _ _ _ c.in-Some.field-0 c.as_mut_slice.ensures.items c.reverse.ensures.len c.reverse.ensures.after c.in-Some.ensures.last in
    all_first (λ r. IsHandOf c.args.board.now r.hand) c.args.self.runners.items c.pop.new.self.items c.in-Some.field-0 parts c.requires.rest.hands

pub join_all-requires-clause-tag : goal.join_all-requires-clause-tag
join_all-requires-clause-tag c =
    let parts = first_and_rest c.args.self.runners.items _ _ _ c.in-Some.field-0 c.as_mut_slice.ensures.items c.reverse.ensures.len c.reverse.ensures.after c.in-Some.ensures.last in
    first_tag _ c.args.self.runners.items c.pop.new.self.items c.in-Some.field-0 parts c.requires.rest

pub join_all-requires-clause-hands : goal.join_all-requires-clause-hands
join_all-requires-clause-hands c =
    let parts = first_and_rest c.args.self.runners.items _ _ _ c.in-Some.field-0 c.as_mut_slice.ensures.items c.reverse.ensures.len c.reverse.ensures.after c.in-Some.ensures.last in
    all_rest (λ r. IsHandOf c.args.board.now r.hand) c.args.self.runners.items c.pop.new.self.items c.in-Some.field-0 parts c.requires.rest.hands

pub join_all-requires-clause-free : goal.join_all-requires-clause-free
join_all-requires-clause-free c =
    let parts = first_and_rest c.args.self.runners.items _ _ _ c.in-Some.field-0 c.as_mut_slice.ensures.items c.reverse.ensures.len c.reverse.ensures.after c.in-Some.ensures.last in
    all_rest (λ r. (hand_view r).claim ≡ None) c.args.self.runners.items c.pop.new.self.items c.in-Some.field-0 parts c.requires.rest.free

pub returns-clause-view : goal.returns-clause-view
returns-clause-view c d =
    let parts = first_and_rest c.args.self.runners.items _ _ _ c.in-Some.field-0 c.as_mut_slice.ensures.items c.reverse.ensures.len c.reverse.ensures.after c.in-Some.ensures.last in
    gathered_all c.args.self.runners.items c.pop.new.self.items c.in-Some.field-0 c.in-Some.field-0.hand _ d parts refl c.join_all.ensures.view

pub returns-clause-left : goal.returns-clause-left
returns-clause-left c =
    let parts = first_and_rest c.args.self.runners.items _ _ _ c.in-Some.field-0 c.as_mut_slice.ensures.items c.reverse.ensures.len c.reverse.ensures.after c.in-Some.ensures.last in
    left_all c.args.self.runners.items c.pop.new.self.items c.in-Some.field-0 c.in-Some.field-0.kept _ _ _ parts refl c.requires.places.none c.add.ensures.items c.join_all.ensures.left
