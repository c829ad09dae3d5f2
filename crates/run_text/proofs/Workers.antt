-- What workers settled, counted; and counts that stop at the greatest number.
use Rattle.std.proofs.Common.{◌≡◌, ◌⊎◌, inl, inr, ℕ, ◌+◌, ◌<◌, ◌≤◌, false, All, List, [], ◌∷◌, length, get_or, refl, ap, ◌∙◌, arith, cond, ne_eqb, zero-add}
use Rattle.std.specs.Prelude.{◌==◌, replicate}
use Rattle.std.proofs.lemmas.Bool.{cases_lt}
use Rattle.std.proofs.lemmas.List.{get_or_past, get_or-replicate}
use Rattle.std.proofs.lemmas.List.Elements.{All-tail}
use Rattle.std.proofs.lemmas.List.Sums.{sum_by-cons}
use Rattle.morph_base.specs.Limits.{most_workers}
use Rattle.morph_engine.specs.Accounts.{Account, settled_by}
use Rattle.run_text.specs.declared.tally.Tally.{Tally}
use Rattle.run_text.specs.Counts.{counted_to}

pub counted_more : (m n : ℕ) → counted_to (counted_to m + n) ≡ counted_to (m + n)
counted_more m n = omega arith

-- nobody settled anything
pub counts_of_none : (w : ℕ) → get_or {A = ℕ} (replicate (most_workers + 1) 0) w 0 ≡ 0
counts_of_none w = by_size (cases_lt w (most_workers + 1))
  where
    by_size : (w < most_workers + 1) ⊎ (most_workers + 1 ≤ w) → get_or {A = ℕ} (replicate (most_workers + 1) 0) w 0 ≡ 0
    by_size (inl few) = get_or-replicate (most_workers + 1) w 0 0 few
    by_size (inr many) = get_or_past (replicate (most_workers + 1) 0) w 0 (let all : length {A = ℕ} (replicate (most_workers + 1) 0) ≡ most_workers + 1 = refl in omega (arith, all, many))

-- a worker that there is not settled nothing
settled_nothing : (by : List ℕ) (workers w : ℕ) → All (λ t. t ≤ workers) by → workers < w → settled_by by w ≡ 0
settled_nothing [] workers w inside above = refl
settled_nothing (k ∷ by) workers w inside above =
    let few : k ≤ workers = inside 0 0 (omega arith) in
    let other : (k == w) ≡ false = ne_eqb k w (λ same. absurd (omega (arith, same, few, above))) in
    sum_by-cons (λ t. cond (t == w) 1 0) k by
    ∙ ap (λ n. n + settled_by by w) (ap (λ b. cond b 1 0) other)
    ∙ zero-add (settled_by by w)
    ∙ settled_nothing by workers w (All-tail (λ t. t ≤ workers) k by inside) above

pub settled_beyond : (t t' : Tally) (a : Account) (workers w : ℕ) →
    ((v : ℕ) → v ≤ most_workers → get_or t'.settled_by v 0 ≡ get_or t.settled_by v 0 + settled_by a.by v) → length t'.settled_by ≡ most_workers + 1 →
    All (λ k. k ≤ workers) a.by → workers < w → get_or t.settled_by w 0 ≡ 0 → get_or t'.settled_by w 0 ≡ 0
settled_beyond t t' a workers w more len inside above none = by_size (cases_lt most_workers w)
  where
    by_size : (most_workers < w) ⊎ (w ≤ most_workers) → get_or t'.settled_by w 0 ≡ 0
    by_size (inl beyond) = get_or_past t'.settled_by w 0 (omega (arith, len, beyond))
    by_size (inr few) = let now = more w few in let added = settled_nothing a.by workers w inside above in omega (arith, now, none, added)

-- a list of causes more
pub left_is : (old more count new : ℕ) → count ≡ counted_to more → new ≡ counted_to (old + count) → new ≡ counted_to (old + more)
left_is old more count new counted is = omega (arith, counted, is)
