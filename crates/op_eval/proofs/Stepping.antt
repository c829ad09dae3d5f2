-- The steps of an evaluation, and what they count.
use Rattle.std.proofs.Common.{◌≡◌, ℕ, ◌+◌, Bool, false, List, [], ◌∷◌, refl, ap, ◌∙◌, inl, inr, cond, zero-add}
use Rattle.std.specs.Prelude.{count_by}
use Rattle.std.proofs.lemmas.List.Sums.{sum_by-cons}
use Rattle.interleaving_core.specs.declared.event.CoreEvent.{CoreEvent}
use Rattle.interleaving_core.specs.declared.event.CoreEvent.TheVariants.{Ready as ReadyStep, Claim, Fetch}
use Rattle.op_words.specs.Attempts.{fetches}
use Rattle.op_eval.specs.Evaluations.{IsReadiedOrNot, IsClaimedWith}

-- ---- what is not counted

pub count_quiet : (q : CoreEvent → Bool) (e : CoreEvent) (es : List CoreEvent) → q e ≡ false → count_by q (e ∷ es) ≡ count_by q es
count_quiet q e es is = sum_by-cons (λ x. cond (q x) 1 0) e es ∙ ap (λ b. cond b 1 0 + count_by q es) is ∙ zero-add (count_by q es)

fetches_quiet : (q : CoreEvent → Bool) (o tag : ℕ) → ((k x : ℕ) → q (Fetch o k tag x) ≡ false) → (k : ℕ) (xs : List ℕ) (es : List CoreEvent) → count_by q (fetches o tag k xs es) ≡ count_by q es
unfolding fetches
fetches_quiet q o tag quiet k [] es = refl
fetches_quiet q o tag quiet k (x ∷ xs) es = fetches_quiet q o tag quiet (k + 1) xs (Fetch o k tag x ∷ es) ∙ count_quiet q (Fetch o k tag x) es (quiet k x)

pub readied_quiet : (q : CoreEvent → Bool) (o : ℕ) {es fs : List CoreEvent} → IsReadiedOrNot o es fs → q (ReadyStep o) ≡ false → count_by q fs ≡ count_by q es
readied_quiet q o {es} {fs} is quiet = elim is [ inl same ↦ ap (count_by q) same | inr more ↦ ap (count_by q) more ∙ count_quiet q (ReadyStep o) es quiet ]

pub claimed_quiet : (q : CoreEvent → Bool) (o tag : ℕ) (xs : List ℕ) {es fs : List CoreEvent} → IsClaimedWith o tag xs es fs → q (ReadyStep o) ≡ false → q (Claim o tag) ≡ false
    → ((k x : ℕ) → q (Fetch o k tag x) ≡ false) → count_by q fs ≡ count_by q es
claimed_quiet q o tag xs {es} {fs} is ready claim fetch =
    ap (count_by q) is.2 ∙ fetches_quiet q o tag fetch 0 xs (Claim o tag ∷ is.0) ∙ count_quiet q (Claim o tag) is.0 claim ∙ readied_quiet q o is.1 ready
