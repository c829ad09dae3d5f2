-- What is kept of a closed board when its plan is completed, and what is left.
use Rattle.std.proofs.Common.{◌≡◌, ℕ, ◌<◌, ◌≤◌, Bool, true, false, Option, Some, None, is_some, if◌then◌else◌, All, List, map, length, get_or, refl, sym, ap, ◌∙◌, subst, inl, inr, arith, zero-add}
use Rattle.std.proofs.lemmas.Bool.{true≢false, cases_Bool}
use Rattle.std.proofs.lemmas.List.FromFn.{length-map-range_with_len, get_or-map-range_with_len}
use Rattle.morph_base.specs.declared.limits.TheConstants.{WORKERS}
use Rattle.morph_base.specs.declared.plan.Plan.{Plan}
use Rattle.morph_base.specs.declared.word.OpWord.{OpWord}
use Rattle.morph_base.specs.Graphs.{below}
use Rattle.morph_base.specs.Plans.{IsPlan, op_count, verdict, final}
use Rattle.morph_base.specs.Words.{is_settled, has_worker, IsWord}
use Rattle.op_words.specs.declared.closed.Closed.{Closed}
use Rattle.op_words.specs.declared.trail.View.{View}
use Rattle.op_words.specs.Closing.{IsClosed}
use Rattle.interleaving_core.proofs.Sources.{settled_cases, settled_right}
use Rattle.abort_lazy.specs.Finishing.{settler}

module _ (p : Plan) (cap counters : ℕ) (v : View) (closed : Closed) (is : IsClosed p cap counters v closed) where
  -- a decision on the board is the fold's
  pub decided_right : (i : ℕ) (committed : Bool) → is.ends.core.decision i ≡ Some committed → committed ≡ verdict p i
  decided_right i committed there = sym (is.ends.sound.decided i committed there).1

  -- and so is the value of a settled word
  pub kept_right : (o : ℕ) (w : OpWord) → IsPlan p → o < op_count p → w ≡ is.ends.core.word o → is_settled w.state ≡ true → w.value ≡ final p o
  kept_right o w valid lt read there =
      ap (λ (x : OpWord). x.value) read
      ∙ settled_right p cap valid is.ends.core is.ends.sound o lt (sym (ap (λ (x : OpWord). is_settled x.state) read) ∙ there)

-- whose the operation is by its word
pub settler_kept : (w u : OpWord) → w ≡ u → is_settled w.state ≡ true → w.by ≡ settler u
settler_kept w u read there = sym (ap (λ (b : Bool). if b then w.by else 0) there) ∙ ap settler read

pub settler_left : (w u : OpWord) → w ≡ u → is_settled w.state ≡ false → 0 ≡ settler u
settler_left w u read open_is = sym (ap (λ (b : Bool). if b then w.by else 0) open_is) ∙ ap settler read

settler_small : (w : OpWord) → IsWord w → settler w ≤ WORKERS
settler_small w word =
    elim (cases_Bool (is_settled w.state)) [
      | inl there ↦
          let named : has_worker w.state ≡ true = elim (settled_cases w.state there) [ inl state ↦ ap has_worker state | inr state ↦ ap has_worker state ] in
          let small : w.by ≤ WORKERS = (word.by_worker named).1 in
          let by_is = settler_kept w w refl there in
          omega (arith, small, by_is)
      | inr open_is ↦ let none = settler_left w w refl open_is in omega (arith, none)
    ]

-- all tags of the board are those of workers, or 0
pub settlers_small : (p : Plan) (cap counters : ℕ) (v : View) (closed : Closed) (is : IsClosed p cap counters v closed) (tags : List ℕ)
    → tags ≡ map (λ o. settler (is.ends.core.word o)) (below (op_count p)) → All (λ w. w ≤ WORKERS) tags
settlers_small p cap counters v closed is tags are k d inside =
    let f : ℕ → ℕ = λ o. settler (is.ends.core.word o) in
    let lt : k < op_count p = subst (λ n. k < n) (ap length are ∙ length-map-range_with_len f 0 (op_count p)) inside in
    let tag_is : get_or tags k d ≡ f k = ap (λ (l : List ℕ). get_or l k d) are ∙ get_or-map-range_with_len f 0 (op_count p) k k d lt (zero-add k) in
    subst (λ n. n ≤ WORKERS) (sym tag_is) (settler_small (is.ends.core.word k) (is.ends.sound.each_op k lt).range.word)

-- what has no value is none
pub none_of : {X : Type 0} (x : Option X) → is_some x ≡ false → x ≡ None
none_of None is = refl
none_of (Some x) is = absurd (true≢false is)
