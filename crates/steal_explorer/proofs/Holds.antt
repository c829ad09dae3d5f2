-- Each call keeps the rule of a deque.
use Rattle.std.proofs.Common.{◌≡◌, ◌≢◌, ℕ, zero, suc, ◌+◌, ◌-◌, ◌<◌, ◌≤◌, List, [], ◌∷◌, ◌++◌, length, set, refl, sym, ap, subst, ⊎_elim, arith}
use Rattle.std.specs.Prelude.{sum_by}
use Rattle.std.proofs.lemmas.List.Sums.{sum_by-cons, sum_by-append, sum_by_push}
use mathlib.Core.Option.{some, some-ne-none}
use lib.ListN.{get_elem?}
use Rattle.crossbeam_deque.specs.Tasks.{Pushes, Takes, Finds, FindsFew, Admits, Forks, Merges}
use Rattle.crossbeam_deque.proofs.Lists.{at_set, at_snoc}
use Rattle.steal_explorer.specs.declared.deque_rule.Log.{Log}
use Rattle.steal_explorer.specs.Handing.{whole, log, put, got, stole, spare, both, came, gone, parts_of, DidNothing, Balanced, MayBeEmpty, MayTake}

some_is : {v w : Log} → some v ≡ some w → v ≡ w
some_is e = cc

sum_set : (f : Log → ℕ) (views : List Log) (port : ℕ) (v w : Log) → get_elem? views port ≡ some v → sum_by f (set views port w) + f v ≡ sum_by f views + f w
sum_set f [] port v w at = absurd (some-ne-none v (sym at))
sum_set f (x ∷ xs) zero v w at =
    let a : sum_by f (w ∷ xs) ≡ f w + sum_by f xs = sum_by-cons f w xs in
    let b : sum_by f (x ∷ xs) ≡ f x + sum_by f xs = sum_by-cons f x xs in
    let c : f x ≡ f v = ap f (some_is at) in
    omega arith
sum_set f (x ∷ xs) (suc port) v w at =
    let a : sum_by f (x ∷ set xs port w) ≡ f x + sum_by f (set xs port w) = sum_by-cons f x (set xs port w) in
    let b : sum_by f (x ∷ xs) ≡ f x + sum_by f xs = sum_by-cons f x xs in
    let c : sum_by f (set xs port w) + f v ≡ sum_by f xs + f w = sum_set f xs port v w at in
    omega arith

-- ---- one hold does more

-- the view of one hold changes, and the items with it
changes : (items later : List ℕ) (views : List Log) (port : ℕ) (v w : Log) → Balanced items views → get_elem? views port ≡ some v → w.parts ≡ v.parts → 0 < v.parts
    → ((h : ℕ → ℕ) → came h w + (gone h v + sum_by h items) ≡ came h v + (gone h w + sum_by h later)) → Balanced later (set views port w)
changes items later views port v w old at same holding moved = record {
  parts = let e : sum_by parts_of (set views port w) + v.parts ≡ sum_by parts_of views + w.parts = sum_set parts_of views port v w at in let was = old.parts in omega arith;
  balance = λ h.
      let a : sum_by (came h) (set views port w) + came h v ≡ sum_by (came h) views + came h w = sum_set (came h) views port v w at in
      let b : sum_by (gone h) (set views port w) + gone h v ≡ sum_by (gone h) views + gone h w = sum_set (gone h) views port v w at in
      let c = old.balance h in
      let d = moved h in
      omega arith;
  idle = λ k u is none.
      ⊎_elim (λ (x : (k ≡ port) × (w ≡ u)). let e : w.parts ≡ u.parts = ap parts_of x.1 in absurd (omega arith))
      (λ (x : (k ≢ port) × (get_elem? views k ≡ some u)). old.idle k u x.1 none) (at_set views port k w u is);
}

pub puts : (port : ℕ) (v : Log) (xs : List ℕ) → 0 < v.parts → Pushes Balanced port v xs (λ w. w ≡ put v xs)
puts port v xs holding items views old at = (
  put v xs,
  changes items (items ++ xs) views port v (put v xs) old at refl holding (λ h.
      let a : sum_by h (v.pushed ++ xs) ≡ sum_by h v.pushed + sum_by h xs = sum_by-append h v.pushed xs in
      let b : sum_by h (items ++ xs) ≡ sum_by h items + sum_by h xs = sum_by-append h items xs in
      omega arith),
  refl,
)

pub steals : (port : ℕ) (v : Log) → 0 < v.parts → Takes Balanced port v 1 (λ xs w. w ≡ stole v xs)
steals port v holding xs items views _ _ old at = (
  stole v xs,
  changes (xs ++ items) items views port v (stole v xs) old at refl holding (λ h.
      let a : sum_by h (v.stolen ++ xs) ≡ sum_by h v.stolen + sum_by h xs = sum_by-append h v.stolen xs in
      let b : sum_by h (xs ++ items) ≡ sum_by h xs + sum_by h items = sum_by-append h xs items in
      omega arith),
  refl,
)

-- ---- who has all parts

-- where one hold has all parts, the others have none, and what they did weighs nothing
others_none : (f : Log → ℕ) → ((u : Log) → DidNothing u → f u ≡ 0) → (views : List Log) → sum_by parts_of views ≡ 0 → ((k : ℕ) (u : Log) → get_elem? views k ≡ some u → u.parts ≡ 0 → DidNothing u)
    → sum_by f views ≡ 0
others_none f weightless [] none idle = refl
others_none f weightless (x ∷ xs) none idle =
    let a : sum_by parts_of (x ∷ xs) ≡ x.parts + sum_by parts_of xs = sum_by-cons parts_of x xs in
    let b : sum_by f (x ∷ xs) ≡ f x + sum_by f xs = sum_by-cons f x xs in
    let here : f x ≡ 0 = weightless x (idle 0 x refl (omega arith)) in
    let rest : sum_by f xs ≡ 0 = others_none f weightless xs (omega arith) (λ k u. idle (suc k) u) in
    omega arith

alone : (f : Log → ℕ) → ((u : Log) → DidNothing u → f u ≡ 0) → (views : List Log) (port : ℕ) (v : Log) → get_elem? views port ≡ some v → sum_by parts_of views ≡ v.parts
    → ((k : ℕ) (u : Log) → get_elem? views k ≡ some u → u.parts ≡ 0 → DidNothing u) → sum_by f views ≡ f v
alone f weightless [] port v at all idle = absurd (some-ne-none v (sym at))
alone f weightless (x ∷ xs) zero v at all idle =
    let a : sum_by parts_of (x ∷ xs) ≡ x.parts + sum_by parts_of xs = sum_by-cons parts_of x xs in
    let b : sum_by f (x ∷ xs) ≡ f x + sum_by f xs = sum_by-cons f x xs in
    let c : f x ≡ f v = ap f (some_is at) in
    let d : x.parts ≡ v.parts = ap parts_of (some_is at) in
    let rest : sum_by f xs ≡ 0 = others_none f weightless xs (omega arith) (λ k u. idle (suc k) u) in
    omega arith
alone f weightless (x ∷ xs) (suc port) v at all idle =
    let a : sum_by parts_of (x ∷ xs) ≡ x.parts + sum_by parts_of xs = sum_by-cons parts_of x xs in
    let b : sum_by f (x ∷ xs) ≡ f x + sum_by f xs = sum_by-cons f x xs in
    let least : v.parts ≤ sum_by parts_of xs = part_within xs port v at in
    let here : f x ≡ 0 = weightless x (idle 0 x refl (omega arith)) in
    let rest : sum_by f xs ≡ f v = alone f weightless xs port v at (omega arith) (λ k u. idle (suc k) u) in
    omega arith
  where
    part_within : (xs : List Log) (port : ℕ) (v : Log) → get_elem? xs port ≡ some v → v.parts ≤ sum_by parts_of xs
    part_within [] port v at = absurd (some-ne-none v (sym at))
    part_within (x ∷ xs) zero v at = let a : sum_by parts_of (x ∷ xs) ≡ x.parts + sum_by parts_of xs = sum_by-cons parts_of x xs in let d : x.parts ≡ v.parts = ap parts_of (some_is at) in omega arith
    part_within (x ∷ xs) (suc port) v at = let a : sum_by parts_of (x ∷ xs) ≡ x.parts + sum_by parts_of xs = sum_by-cons parts_of x xs in let b = part_within xs port v at in omega arith

nothing_came : (h : ℕ → ℕ) (u : Log) → DidNothing u → came h u ≡ 0
nothing_came h u none = ap (sum_by h) none.pushed

nothing_gone : (h : ℕ → ℕ) (u : Log) → DidNothing u → gone h u ≡ 0
nothing_gone h u none =
    let a : sum_by h u.popped ≡ 0 = ap (sum_by h) none.popped in let b : sum_by h u.stolen ≡ 0 = ap (sum_by h) none.stolen in let c : sum_by h u.left ≡ 0 = ap (sum_by h) none.left in omega arith

-- who has all parts knows what the deque holds
pub knows_all : (items : List ℕ) (views : List Log) (port : ℕ) (v : Log) → Balanced items views → get_elem? views port ≡ some v → v.parts ≡ whole → (h : ℕ → ℕ) → came h v ≡ gone h v + sum_by h items
knows_all items views port v old at all h =
    let sum = old.parts in
    let same : sum_by parts_of views ≡ v.parts = omega arith in
    let a : sum_by (came h) views ≡ came h v = alone (came h) (nothing_came h) views port v at same old.idle in
    let b : sum_by (gone h) views ≡ gone h v = alone (gone h) (nothing_gone h) views port v at same old.idle in
    let c = old.balance h in
    omega arith

-- and so a deque that it finds empty has given all that came in
pub evens : (v : Log) → v.parts ≡ whole → MayBeEmpty v → (h : ℕ → ℕ) → came h v ≡ gone h v
evens v all was h = let e : came h v ≡ gone h v + sum_by h [] = knows_all [] was.0 was.1 v was.2 was.3 all h in omega arith

may_take : (port : ℕ) (v : Log) (xs items : List ℕ) (views : List Log) → Balanced (xs ++ items) views → get_elem? views port ≡ some v → MayTake v xs
may_take port v xs items views old at all h =
    let e : came h v ≡ gone h v + sum_by h (xs ++ items) = knows_all (xs ++ items) views port v old at all h in
    let f : sum_by h (xs ++ items) ≡ sum_by h xs + sum_by h items = sum_by-append h xs items in
    omega arith

pub pops : (port : ℕ) (v : Log) → 0 < v.parts → Takes Balanced port v 1 (λ xs w. (w ≡ got v xs) × MayTake v xs)
pops port v holding xs items views any _ old at = (
  got v xs,
  changes (xs ++ items) items views port v (got v xs) old at refl holding (λ h.
      let a : sum_by h (v.popped ++ xs) ≡ sum_by h v.popped + sum_by h xs = sum_by-append h v.popped xs in
      let b : sum_by h (xs ++ items) ≡ sum_by h xs + sum_by h items = sum_by-append h xs items in
      omega arith),
  (refl, may_take port v xs items views old at),
)

pub leaves : (port : ℕ) (v : Log) → 0 < v.parts → Takes Balanced port v 1 (λ xs w. (w ≡ spare v xs) × MayTake v xs)
leaves port v holding xs items views any _ old at = (
  spare v xs,
  changes (xs ++ items) items views port v (spare v xs) old at refl holding (λ h.
      let a : sum_by h (v.left ++ xs) ≡ sum_by h v.left + sum_by h xs = sum_by-append h v.left xs in
      let b : sum_by h (xs ++ items) ≡ sum_by h xs + sum_by h items = sum_by-append h xs items in
      omega arith),
  (refl, may_take port v xs items views old at),
)

-- ---- what is found

pub finds : (port : ℕ) (v : Log) → Finds Balanced port v (MayBeEmpty v)
finds port v views old at = (views, port, old, at)

none_there : (items : List ℕ) → length items ≤ 0 → items ≡ []
none_there [] few = refl
none_there (x ∷ xs) few = absurd (omega arith)

pub finds_few : (flavor port : ℕ) (v : Log) → flavor ≡ 0 → FindsFew Balanced flavor port v (MayBeEmpty v)
finds_few flavor port v fifo items views few old at =
    (views, port, subst (λ xs. Balanced xs views) (none_there items (omega arith)) old, at)

-- ---- holds come and go

pub begins : Balanced [] (log whole [] [] [] [] ∷ [])
begins = record {
  parts = refl;
  balance = λ h. refl;
  idle = λ k v at none. first k v at none;
}
  where
    first : (k : ℕ) (v : Log) → get_elem? (log whole [] [] [] [] ∷ []) k ≡ some v → v.parts ≡ 0 → DidNothing v
    first zero v at none = let e : whole ≡ v.parts = ap parts_of (some_is at) in absurd (omega arith)
    first (suc k) v at none = absurd (some-ne-none v (sym at))

bare : DidNothing (log 0 [] [] [] [])
bare = record { pushed = refl; popped = refl; stolen = refl; left = refl }

pub admits : Admits Balanced (log 0 [] [] [] [])
admits items views old = record {
  parts = let e : sum_by parts_of (views ++ log 0 [] [] [] [] ∷ []) ≡ sum_by parts_of views + 0 = sum_by_push parts_of views (log 0 [] [] [] []) in let was = old.parts in omega arith;
  balance = λ h.
      let a : sum_by (came h) (views ++ log 0 [] [] [] [] ∷ []) ≡ sum_by (came h) views + 0 = sum_by_push (came h) views (log 0 [] [] [] []) in
      let b : sum_by (gone h) (views ++ log 0 [] [] [] [] ∷ []) ≡ sum_by (gone h) views + 0 = sum_by_push (gone h) views (log 0 [] [] [] []) in
      let c = old.balance h in
      omega arith;
  idle = λ k u is none.
      ⊎_elim (λ (x : get_elem? views k ≡ some u). old.idle k u x none)
      (λ (x : log 0 [] [] [] [] ≡ u). subst DidNothing x bare) (at_snoc views (log 0 [] [] [] []) u k is);
}

pub forks : (port : ℕ) (v : Log) → 1 < v.parts → Forks Balanced port v (log (v.parts - 1) v.pushed v.popped v.stolen v.left) (log 1 [] [] [] [])
forks port v holding items views old at = let l : Log = log (v.parts - 1) v.pushed v.popped v.stolen v.left in let r : Log = log 1 [] [] [] [] in record {
  parts =
      let a : sum_by parts_of (set views port l ++ r ∷ []) ≡ sum_by parts_of (set views port l) + 1 = sum_by_push parts_of (set views port l) r in
      let b : sum_by parts_of (set views port l) + v.parts ≡ sum_by parts_of views + (v.parts - 1) = sum_set parts_of views port v l at in
      let was = old.parts in
      omega arith;
  balance = λ h.
      let a : sum_by (came h) (set views port l ++ r ∷ []) ≡ sum_by (came h) (set views port l) + 0 = sum_by_push (came h) (set views port l) r in
      let b : sum_by (gone h) (set views port l ++ r ∷ []) ≡ sum_by (gone h) (set views port l) + 0 = sum_by_push (gone h) (set views port l) r in
      let c : sum_by (came h) (set views port l) + came h v ≡ sum_by (came h) views + came h v = sum_set (came h) views port v l at in
      let d : sum_by (gone h) (set views port l) + gone h v ≡ sum_by (gone h) views + gone h v = sum_set (gone h) views port v l at in
      let e = old.balance h in
      omega arith;
  idle = λ k u is none.
      ⊎_elim
      (λ (there : get_elem? (set views port l) k ≡ some u).
      ⊎_elim (λ (x : (k ≡ port) × (l ≡ u)). let e : v.parts - 1 ≡ u.parts = ap parts_of x.1 in absurd (omega arith))
      (λ (x : (k ≢ port) × (get_elem? views k ≡ some u)). old.idle k u x.1 none) (at_set views port k l u there))
      (λ (x : r ≡ u). let e : 1 ≡ u.parts = ap parts_of x in absurd (omega arith)) (at_snoc (set views port l) r u k is);
}

pub merges : (port : ℕ) (v : Log) (other : ℕ) (w : Log) → 0 < v.parts → Merges Balanced port v other w (both v w) (log 0 [] [] [] [])
merges port v other w holding items views old at apart there = let s : Log = log 0 [] [] [] [] in let vs : List Log = set views port (both v w) in record {
  parts =
      let a : sum_by parts_of (set vs other s) + w.parts ≡ sum_by parts_of vs + 0 = sum_set parts_of vs other w s there in
      let b : sum_by parts_of vs + v.parts ≡ sum_by parts_of views + (v.parts + w.parts) = sum_set parts_of views port v (both v w) at in
      let was = old.parts in
      omega arith;
  balance = λ h.
      let a : sum_by (came h) (set vs other s) + came h w ≡ sum_by (came h) vs + 0 = sum_set (came h) vs other w s there in
      let b : sum_by (came h) vs + came h v ≡ sum_by (came h) views + came h (both v w) = sum_set (came h) views port v (both v w) at in
      let c : came h (both v w) ≡ came h v + came h w = sum_by-append h v.pushed w.pushed in
      let d : sum_by (gone h) (set vs other s) + gone h w ≡ sum_by (gone h) vs + 0 = sum_set (gone h) vs other w s there in
      let e : sum_by (gone h) vs + gone h v ≡ sum_by (gone h) views + gone h (both v w) = sum_set (gone h) views port v (both v w) at in
      let f : sum_by h (v.popped ++ w.popped) ≡ sum_by h v.popped + sum_by h w.popped = sum_by-append h v.popped w.popped in
      let g : sum_by h (v.stolen ++ w.stolen) ≡ sum_by h v.stolen + sum_by h w.stolen = sum_by-append h v.stolen w.stolen in
      let i : sum_by h (v.left ++ w.left) ≡ sum_by h v.left + sum_by h w.left = sum_by-append h v.left w.left in
      let j = old.balance h in
      omega arith;
  idle = λ k u is none.
      ⊎_elim (λ (x : (k ≡ other) × (s ≡ u)). subst DidNothing x.1 bare)
      (λ (x : (k ≢ other) × (get_elem? vs k ≡ some u)).
      ⊎_elim (λ (y : (k ≡ port) × (both v w ≡ u)). let e : v.parts + w.parts ≡ u.parts = ap parts_of y.1 in absurd (omega arith))
      (λ (y : (k ≢ port) × (get_elem? views k ≡ some u)). old.idle k u y.1 none) (at_set views port k (both v w) u x.1))
      (at_set vs other k s u is);
}
