use Rattle.std.proofs.Common.{[], ◌++◌, ap, ◌∙◌, refl, sym, subst, inl, inr, arith, length, map, replicate}
use Rattle.std.proofs.lemmas.Bool.{cases_lt}
use Rattle.std.proofs.lemmas.List.{length-map}
use Rattle.op_words.specs.Closing.{EndsSound, IsClosed, words_of}
use Rattle.op_words.specs.Hands.{view_of, plan_of, cap_of, counters_of}
use Rattle.op_eval.specs.declared.runner.Runner.{Runner}
use Rattle.op_eval.specs.Gathering.{runners_of}
use Rattle.abort_lazy.specs.Ended.{AddsEmpty, AreCauses}
use Rattle.abort_lazy.specs.Runs.{idled, root_view}
use Rattle.abort_lazy.proofs.Causing.{are_causes, gathered_lists}
use Rattle.abort_lazy.proofs.Concluding.{closes, root_few, root_tag}
use Rattle.abort_lazy.proofs.Idle.{causes_with_none, lists_are}
use Rattle.abort_lazy.proofs.Once.{all_tried}
use Rattle.abort_lazy.proofs.run.SettledRun.close.Goals as goal

pub add_idle-requires-clause-tag : goal.add_idle-requires-clause-tag
add_idle-requires-clause-tag c = root_tag (runners_of c.args.self.runners) c.requires.run.rest.some (view_of c.gather-root.result.0) c.gather-root.ensures.view c.requires.run.rest.root

pub add_idle-requires-clause-few : goal.add_idle-requires-clause-few
add_idle-requires-clause-few c = λ some. root_few (runners_of c.args.self.runners) c.requires.run.rest.some (view_of c.gather-root.result.0) c.gather-root.ensures.view c.args.idle (c.requires.few some)

pub add_idle-requires-clause-room : goal.add_idle-requires-clause-room
add_idle-requires-clause-room c =
    let many = ap length c.gather-root.ensures.left ∙ length-map (runners_of c.args.self.runners) (λ r. r.kept) in
    elim (cases_lt 0 c.args.idle) [
      | inl some ↦ let fits = c.requires.places some in omega (arith, many, c.gather-root.ensures.room, fits)
      | inr none ↦ omega (arith, none)
    ]

pub close-requires-clause-tag : goal.close-requires-clause-tag
close-requires-clause-tag c =
    (closes (runners_of c.args.self.runners) c.requires.run.rest.some c.args.idle (view_of c.gather-root.result.0) (view_of c.add_idle.new.root) c.gather-root.ensures.view c.add_idle.ensures.view c.requires.run.rest.root c.requires.all).0

pub close-requires-clause-joined : goal.close-requires-clause-joined
close-requires-clause-joined c =
    (closes (runners_of c.args.self.runners) c.requires.run.rest.some c.args.idle (view_of c.gather-root.result.0) (view_of c.add_idle.new.root) c.gather-root.ensures.view c.add_idle.ensures.view c.requires.run.rest.root c.requires.all).1

pub returns-clause-closed : goal.returns-clause-closed
returns-clause-closed c = λ d.
    let b = c.args.self.board in
    subst (λ v. IsClosed (plan_of b) (cap_of b) (counters_of b) v c.close.result) (c.add_idle.ensures.view ∙ ap (idled c.args.idle) (c.gather-root.ensures.view d)) c.close.ensures

pub returns-clause-left : goal.returns-clause-left
returns-clause-left c = subst (λ ls. AddsEmpty c.args.idle ls c.add_idle.new.left.items) c.gather-root.ensures.left c.add_idle.ensures.left

pub returns-clause-tried : goal.returns-clause-tried
returns-clause-tried c = λ from start valid begun settling.
    all_tried c.args.plan.now valid c.args.self.board from start (runners_of c.args.self.runners) c.args.idle begun settling c.requires.run.rest.some
    (λ d.
    subst (λ v. EndsSound c.args.plan.now (cap_of c.args.self.board) (counters_of c.args.self.board) (words_of c.close.result) v) (c.add_idle.ensures.view ∙ ap (idled c.args.idle) (c.gather-root.ensures.view d))
    (subst (λ p. EndsSound p (cap_of c.args.self.board) (counters_of c.args.self.board) (words_of c.close.result) (view_of c.add_idle.new.root)) (sym c.requires.plan) c.close.ensures.ends))

pub returns-clause-causes : goal.returns-clause-causes
returns-clause-causes c = λ d from start is valid begun settling.
    let p = c.args.plan.now in
    let rs = runners_of c.args.self.runners in
    let lists = subst (λ ls. AddsEmpty c.args.idle ls c.add_idle.new.left.items) c.gather-root.ensures.left c.add_idle.ensures.left in
    subst (AreCauses p is.ends.core (root_view c.args.idle d rs))
    (sym (lists_are c.args.idle rs c.add_idle.new.left.items lists ∙ ap (λ ls. ls ++ replicate c.args.idle []) (gathered_lists (map (λ r. r.kept) rs) rs refl)))
    (causes_with_none p is.ends.core (root_view c.args.idle d rs) (map (λ (r : Runner). r.kept.items) rs) c.args.idle
    (are_causes p valid c.args.self.board from start rs c.args.idle d begun settling c.requires.run.rest.some is.ends))
