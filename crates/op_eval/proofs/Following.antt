-- What calls of the board add to a view, one after another.
use Rattle.std.proofs.Common.{◌≡◌, ◌≢◌, ℕ, zero, suc, ◌+◌, ◌<◌, ◌≤◌, false, List, [], ◌∷◌, ◌++◌, get_or, refl, sym, ap, ◌∙◌, inl, inr, arith, cond}
use Rattle.std.specs.Prelude.{Contains}
use Rattle.std.proofs.lemmas.Bool.{false≢true}
use Rattle.std.proofs.lemmas.List.Sums.{sum_by-append}
use Rattle.std.proofs.lemmas.List.Elements.{Contains-append_cases}
use Rattle.morph_base.specs.declared.word.OpWord.{OpWord}
use Rattle.morph_base.specs.declared.word.OpState.TheVariants.{Claimed}
use Rattle.interleaving_core.specs.declared.event.CoreEvent.{CoreEvent}
use Rattle.interleaving_core.specs.Core.{claimed}
use Rattle.interleaving_core.specs.Counts.{evaluated, is_finish}
use Rattle.op_words.specs.declared.trail.Item.{Item}
use Rattle.op_words.specs.declared.trail.View.{View}
use Rattle.op_words.specs.Trails.{loaded, HasLast, IsDisturbed, IsSteadyAt, OwnOn, OwnOpen, NoneOwn}
use Rattle.op_words.specs.Views.{Adds, AddsAndFrees}
use Rattle.op_words.proofs.Trailing.{along_contains, last_later, one_last, last-one, stays_or}
use Rattle.op_words.proofs.Adding.{goes_then}
use Rattle.op_eval.specs.Evaluations.{SoFar}

-- operations that were evaluated stay so
pub evaluated_more : (v u : View) → (es : List CoreEvent) × (u.events ≡ es ++ v.events) × (u.own ≡ es ++ v.own) → evaluated v.events ≤ evaluated u.events
evaluated_more v u more =
    let e : evaluated u.events ≡ evaluated more.0 + evaluated v.events = ap evaluated more.1 ∙ sum_by-append (λ x. cond (is_finish x) 1 0) more.0 v.events in
    omega arith

-- a claimed word that was loaded is another hand's
pub claimed_other : {v u : View} {xs : List Item} → Adds v u xs → {o : ℕ} {w : OpWord} → Contains xs (loaded o w) → w.state ≡ Claimed → w.by ≢ v.tag
claimed_other {v} {u} {xs} adds {o} {w} found claimed =
    let at = along_contains (IsSteadyAt v.tag) v.notes xs adds.steady (loaded o w) found in at.3.claimed refl claimed

-- ---- items

pub one_is_last : (t : Item) → HasLast t.op (t ∷ []) t.word
one_is_last t = record { is = λ d. last-one t.op d t refl }

pub one_none : (t : Item) → t.own ≡ false → NoneOwn (t ∷ [])
one_none t own x found = at found.0 found.1 found.2
  where
    at : (k : ℕ) → k < 1 → get_or (t ∷ []) k x ≡ x → x.own ≡ false
    at zero lt is = sym (ap (λ (y : Item). y.own) is) ∙ own
    at (suc k) lt is = absurd (omega arith)

-- nobody of this hand changed o in ys, and it was found with another word than before it
pub found_other : {o : ℕ} {a b : OpWord} (xs ys : List Item) → HasLast o xs a → HasLast o ys b → a ≢ b → NoneOwn ys → IsDisturbed o (xs ++ ys)
found_other {o} {a} {b} xs ys known found differs none =
    elim (stays_or xs ys known (λ t inside same. none t inside)) [
      | inl last ↦ absurd (differs (one_last last (last_later xs found)))
      | inr is ↦ is
    ]

pub own_append : {o : ℕ} (xs ys : List Item) → OwnOn o xs → OwnOn o ys → OwnOn o (xs ++ ys)
own_append {o} xs ys first second t inside is = elim (Contains-append_cases xs ys t inside) [ inl found ↦ first t found is | inr found ↦ second t found is ]

pub none_own : {o : ℕ} (xs : List Item) → NoneOwn xs → OwnOn o xs
none_own xs none t inside is = absurd (false≢true (sym (none t inside) ∙ is))

pub open_append : (xs ys : List Item) → OwnOpen xs → OwnOpen ys → OwnOpen (xs ++ ys)
open_append xs ys first second t inside is = elim (Contains-append_cases xs ys t inside) [ inl found ↦ first t found is | inr found ↦ second t found is ]

pub none_open : (xs : List Item) → NoneOwn xs → OwnOpen xs
none_open xs none t inside is = absurd (false≢true (sym (none t inside) ∙ is))

pub far_then : {o : ℕ} {start v u : View} {ys xs : List Item} → SoFar o start v ys → AddsAndFrees v u xs → OwnOn o xs → OwnOpen xs → SoFar o start u (ys ++ xs)
far_then {o} {start} {v} {u} {ys} {xs} far goes own open_own = record { goes = goes_then far.goes goes; own = own_append ys xs far.own own; open_own = open_append ys xs far.open_own open_own }
