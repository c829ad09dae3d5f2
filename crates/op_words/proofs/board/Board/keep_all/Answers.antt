use Rattle.std.proofs.Common.{◌≡◌, ℕ, ◌<◌, ◌≤◌, length, take, arith, sym, subst}
use Rattle.std.specs.Prelude.{slice_index}
use Rattle.std.proofs.lemmas.List.{length-take-le}
use Rattle.std.proofs.lemmas.List.Elements.{All-get_or}
use Rattle.morph_base.specs.declared.limits.TheConstants.{MAX}
use Rattle.morph_base.specs.Plans.{origin_at}
use Rattle.interleaving_core.specs.Core.{places}
use Rattle.op_words.specs.Values.{IsKeptUpTo}
use Rattle.op_words.specs.Hands.{call_on, cap_of, view_of, fetched_of}
use Rattle.op_words.specs.Kinds.{IsUsable}
use Rattle.op_words.specs.declared.trail.View.{View}
use Rattle.op_words.proofs.Attempting.{fetched_len, index_take, usable_holding, kept_none, kept_more, kept_holds}
use Rattle.op_words.proofs.board.Board.keep_all.Goals as goal

pub loop-j-init : goal.loop-j-init
loop-j-init c = λ a holds. kept_none c.args.self.now c.args.op a (fetched_of c.args.found.now) c.args.hand.now c.requires.may.0 holds

pub keep-requires-clause-hand : goal.keep-requires-clause-hand
keep-requires-clause-hand c = let q = c.requires.held in (c.loop-j.invariant q.0 q.1).hand

pub keep-requires-clause-value : goal.keep-requires-clause-value
keep-requires-clause-value c =
    let k = c.args.found.now in let j = c.loop-j.j in
    let lt = c.loop-j-test.true in let e = c.places_of-j-end.ensures.places in let all = c.requires.all in let len = fetched_len k c.requires.fits in
    subst (λ n. n ≤ MAX) (index_take k.values k.count j (omega (arith, lt, e, all)))
    (All-get_or (λ n. n ≤ MAX) (fetched_of k) j 0 (omega (arith, lt, e, all, len)) c.requires.fits.small)

pub keep-requires-clause-held : goal.keep-requires-clause-held
keep-requires-clause-held c =
    let k = c.args.found.now in let j = c.loop-j.j in let b = c.args.self.now in let p = c.args.plan.now in let o = c.args.op in
    let q = c.requires.held in let v = view_of c.args.hand.now in
    let lt = c.loop-j-test.true in let e = c.places_of-j-end.ensures.places in let all = c.requires.all in let len = fetched_len k c.requires.fits in
    let far = c.loop-j.invariant q.0 q.1 in
    let long : length (take j (fetched_of k)) ≡ j = length-take-le j (fetched_of k) (omega (arith, lt, e, all, len)) in
    let below : j < places p o = omega (arith, lt, e) in
    let usable : IsUsable v (cap_of b) q.0 (origin_at p o j) (slice_index (fetched_of k) j) = q.2 j below in
    let held : IsUsable (view_of c.loop-j.hand) (cap_of b) q.0 (origin_at p o j) (slice_index (fetched_of k) j) =
    subst (λ (u : View). IsUsable u (cap_of b) q.0 (origin_at p o j) (slice_index (fetched_of k) j)) (sym far.view) (usable_holding v (cap_of b) q.0 o q.0 (take j (fetched_of k)) (origin_at p o j) _ usable) in (
      o,
      q.0,
      take j (fetched_of k),
      kept_holds b o q.0 (fetched_of k) j far,
      c.requires.may.2,
      omega (arith, long, below),
      subst (λ (z : ℕ × ℕ). IsUsable (view_of c.loop-j.hand) (cap_of b) q.0 (origin_at p o z.0) z.1) (λ i. (sym long i, index_take k.values k.count j (omega (arith, lt, e, all)) i)) held,
    )

pub loop-j-preserved : goal.loop-j-preserved
loop-j-preserved c = λ a holds.
    let k = c.args.found.now in let j = c.loop-j.j in let b = c.args.self.now in let o = c.args.op in
    let lt = c.loop-j-test.true in let e = c.places_of-j-end.ensures.places in let all = c.requires.all in let len = fetched_len k c.requires.fits in
    let far = c.loop-j.invariant a holds in
    kept_more b o a (fetched_of k) _ j (omega (arith, lt, e, all, len)) (sym (index_take k.values k.count j (omega (arith, lt, e, all)))) far
    (c.keep.ensures o a (take j (fetched_of k)) (kept_holds b o a (fetched_of k) j far))

pub returns : goal.returns
returns c = λ a holds.
    let e : c.loop-j.j ≡ places c.args.plan.now c.args.op = (let b = c.loop-j-test.false in let i = c.loop-j.auto.j-end in let p = c.places_of-j-end.ensures.places in omega (arith, i, b, p)) in
    subst (λ n. IsKeptUpTo (call_on c.args.self.now c.args.hand.now c.loop-j.hand) c.args.op a n (fetched_of c.args.found.now)) e (c.loop-j.invariant a holds)
