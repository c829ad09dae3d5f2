use Rattle.std.proofs.Common.{◌≡◌, ◌∙◌, ◌∷◌, ◌+◌, ◌<◌, ap, arith, drop, length, subst, suc, sym, List, ℕ}
use Rattle.std.proofs.Math.Seq.{drop-cons}
use Rattle.std.proofs.lemmas.List.{drop_all}
use Rattle.abort_lazy.specs.Sweeps.{IsSweeping}
use Rattle.abort_lazy.proofs.Sweeping.{tried_one}
use Rattle.abort_lazy.proofs.run.level.try_burst.Goals as goal

pub loop-i-preserved : goal.loop-i-preserved
loop-i-preserved c =
    let sweep = c.args.sweep.now in
    let numbers = c.args.burst.now.numbers in
    let n = c.number.result in
    let below : c.loop-i.i < length numbers = omega (arith, c.loop-i-test.true, c.len-i-end.ensures) in
    let lt : n < length sweep.events.now = subst (λ k. k < length sweep.events.now) (sym c.number.ensures) (c.requires.inside c.loop-i.i 0 below) in
    let tried = c.try_event.ensures.tried in
    let goes = tried.does.goes in
    let front : drop c.loop-i.i numbers ≡ n ∷ drop (suc c.loop-i.i) numbers = drop-cons numbers c.loop-i.i 0 below ∙ ap (λ k. k ∷ drop (suc c.loop-i.i) numbers) (sym c.number.ensures) in
    let more : suc c.loop-i.i ≡ c.loop-i.i + 1 = omega arith in (
      record { hand = c.try_event.ensures.hand; free = goes.free },
      (let room = tried.room in omega (arith, room, c.loop-i.invariant.1)),
      λ taken next start is.
          subst (λ k. IsSweeping sweep.plan.now sweep.counter sweep.events.now taken next (drop k numbers) start c.try_event.new.runner) more
          (tried_one _ _ _ start taken next n (drop (suc c.loop-i.i) numbers) c.loop-i.runner _
          (subst (λ (zs : List ℕ). IsSweeping sweep.plan.now sweep.counter sweep.events.now taken next zs start c.loop-i.runner) front (c.loop-i.invariant.2 taken next start is))
          lt (c.requires.fits.inside n 0 lt) tried),
    )

pub returns-clause-tried : goal.returns-clause-tried
returns-clause-tried c = λ taken next start is.
    subst (λ (zs : List ℕ). IsSweeping c.args.sweep.now.plan.now c.args.sweep.now.counter c.args.sweep.now.events.now taken next zs start c.loop-i.runner)
    (drop_all c.loop-i.i c.args.burst.now.numbers (omega (arith, c.loop-i-test.false, c.len-i-end.ensures)))
    (c.loop-i.invariant.2 taken next start is)
