-- A lone root that leaves nothing settles each operation from the word at which it judged it.
use Rattle.std.proofs.Common.{◌≡◌, ◌⊎◌, ℕ, ◌<◌, Bool, true, false, List, [], ◌∷◌, ◌++◌, length, refl, sym, ap, ◌∙◌, subst, inl, inr, arith}
use Rattle.std.specs.Prelude.{Contains}
use Rattle.std.proofs.lemmas.Bool.{false≢true, cases_eq}
use Rattle.std.proofs.lemmas.List.Elements.{Contains-append_left, Contains-append_right, Contains-append_cases}
use Rattle.morph_base.specs.declared.plan.Plan.{Plan}
use Rattle.morph_base.specs.declared.plan.Origin.{Origin}
use Rattle.morph_base.specs.declared.plan.Origin.TheVariants.{Base, Op as Written}
use Rattle.morph_base.specs.Plans.{IsPlan, InEvent, event_of, op_count}
use Rattle.morph_base.specs.Words.{is_settled}
use Rattle.op_words.specs.declared.trail.Item.{Item}
use Rattle.op_words.specs.declared.trail.RecordSeen.{RecordSeen}
use Rattle.op_words.specs.declared.trail.View.{View}
use Rattle.op_words.specs.Counting.{taking}
use Rattle.op_words.specs.Views.{IsLone, IsTrailNoted, IsSettledSeen, IsSourceSeen, AddsAndFrees}
use Rattle.op_words.proofs.Trailing.{calm_open}
use Rattle.op_eval.specs.declared.runner.Runner.{Runner}
use Rattle.op_eval.specs.Running.{hand_view}
use Rattle.op_eval.proofs.Elements.{contains_first, contains_later, contains_cases, contains_none}
use Rattle.op_eval.specs.Turns.{TakingCall, Took, Tried}
use Rattle.abort_lazy.specs.declared.transaction.TxnAnswer.{TxnAnswer}
use Rattle.abort_lazy.specs.declared.transaction.TxnAnswer.TheVariants.{Settled as AllSettled, NotYet, Busy}
use Rattle.abort_lazy.specs.Transactions.{IsSettledOn, is_all_settled}
use Rattle.abort_lazy.specs.Sweeps.{left_of, MakesCalls}
use Rattle.abort_lazy.proofs.Ending.{of_event}
use Rattle.abort_lazy.proofs.Trying.{calls_lone, calls_noted}

-- ---- what is noted stays

-- the second view has the notes and records of the first
pub record KnowsMore (v u : View) : Type 0 where
  pub notes : (n : Item) → Contains v.notes n → Contains u.notes n
  pub records : (r : RecordSeen) → Contains v.records r → Contains u.records r

goes_knows : {v u : View} {xs : List Item} → AddsAndFrees v u xs → KnowsMore v u
goes_knows {v} {u} {xs} goes = record {
  notes = λ n inside. subst (λ l. Contains l n) (sym goes.adds.notes) (Contains-append_left v.notes xs n inside);
  records = goes.adds.records;
}

taking_knows : (c n : ℕ) (v : View) → KnowsMore v (taking c n v)
taking_knows c n v = record { notes = λ t inside. inside; records = λ r inside. inside }

abbrev seen_still : {v u : View} (o : ℕ) → KnowsMore v u → IsSettledSeen v o → IsSettledSeen u o
seen_still o more seen = record { note = seen.note; inside = more.notes seen.note seen.inside; op_is = seen.op_is; settled = seen.settled }

source_still : {v u : View} (q : Origin) (x : ℕ) → KnowsMore v u → IsSourceSeen v q x → IsSourceSeen u q x
source_still (Base b) x more is = is
source_still (Written s) x more is = record { seen = seen_still s more is.seen; value_is = is.value_is }

settled_on_still : {v u : View} (p : Plan) (o : ℕ) → KnowsMore v u → IsSettledOn p v o → IsSettledOn p u o
settled_on_still p o more on = record {
  word = on.word;
  judged = record {
    ran = on.judged.ran;
    values = on.judged.values;
    records = record { len = on.judged.records.len; each = λ j below. more.records _ (on.judged.records.each j below) };
    sources = λ j below. source_still _ _ more (on.judged.sources j below);
  };
  seen = seen_still o more on.seen;
  attempt_is = on.attempt_is;
}

-- ---- whether an operation was seen settled

record Found (o : ℕ) (xs : List Item) : Type 0 where
  pub note : Item
  pub inside : Contains xs note
  pub op_is : note.op ≡ o
  pub settled : is_settled note.word.state ≡ true

found_or : (o : ℕ) (xs : List Item) → Found o xs ⊎ (Found o xs → ⊥)
found_or o [] = inr (λ is. contains_none is.note is.inside)
found_or o (x ∷ xs) = at (found_or o xs) (cases_eq x.op o) (is_settled x.word.state) refl
  where
    later : Found o xs → Found o (x ∷ xs)
    later is = record { note = is.note; inside = contains_later x xs is.note is.inside; op_is = is.op_is; settled = is.settled }

    neither : (Found o xs → ⊥) → (x.op ≡ o → is_settled x.word.state ≡ true → ⊥) → Found o (x ∷ xs) → ⊥
    neither rest here is =
        elim (contains_cases x xs is.note is.inside) [
          | inl same ↦ here (ap (λ (t : Item). t.op) (sym same) ∙ is.op_is) (ap (λ (t : Item). is_settled t.word.state) (sym same) ∙ is.settled)
          | inr there ↦ rest (record { note = is.note; inside = there; op_is = is.op_is; settled = is.settled })
        ]

    at : Found o xs ⊎ (Found o xs → ⊥) → (x.op ≡ o) ⊎ (x.op ≡ o → ⊥) → (b : Bool) → is_settled x.word.state ≡ b → Found o (x ∷ xs) ⊎ (Found o (x ∷ xs) → ⊥)
    at (inl is) its b state = inl (later is)
    at (inr none) (inl same) true state = inl (record { note = x; inside = contains_first x xs; op_is = same; settled = state })
    at (inr none) (inl same) false state = inr (neither none (λ op settled. false≢true (sym state ∙ settled)))
    at (inr none) (inr other) b state = inr (neither none (λ op settled. other op))

seen_or : (v : View) (o : ℕ) → IsSettledSeen v o ⊎ (IsSettledSeen v o → ⊥)
seen_or v o =
    elim (found_or o v.notes) [
      | inl is ↦ inl (record { note = is.note; inside = is.inside; op_is = is.op_is; settled = is.settled })
      | inr none ↦ inr (λ seen. none (record { note = seen.note; inside = seen.inside; op_is = seen.op_is; settled = seen.settled }))
    ]

-- ---- answers

-- a list that nothing was put behind
both_empty : {X : Type 0} (xs ys : List X) → xs ++ ys ≡ [] → (xs ≡ []) × (ys ≡ [])
both_empty [] ys none = (refl, none)
both_empty (x ∷ xs) ys none = absurd (let long = ap length none in omega (arith, long))

-- nothing is kept of an event that is settled, and of no other
kept_none : (i : ℕ) (r : TxnAnswer) → left_of i r ≡ [] → is_all_settled r ≡ true
kept_none i (AllSettled committed) none = refl
kept_none i (NotYet at w) none = absurd (let long = ap length none in omega (arith, long))
kept_none i (Busy at w) none = absurd (let long = ap length none in omega (arith, long))

-- ---- a lone root

-- one that tries an event sees no operation of another event settled that it had not seen so before
other_unseen : {v u : View} {xs : List Item} (o : ℕ) → AddsAndFrees v u xs → IsLone v → IsTrailNoted v → ((t : Item) → Contains xs t → t.own ≡ true → t.op ≡ o → ⊥)
    → (IsSettledSeen v o → ⊥) → IsSettledSeen u o → ⊥
other_unseen {v} {u} {xs} o goes lone noted apart unseen seen =
    elim (Contains-append_cases v.notes xs seen.note (subst (λ l. Contains l seen.note) goes.adds.notes seen.inside)) [
      | inl old ↦ unseen (record { note = seen.note; inside = old; op_is = seen.op_is; settled = seen.settled })
      | inr new ↦
          calm_open o v.trail xs (goes.adds.calm lone) (λ t inside own here. absurd (apart t inside own here))
          (λ t inside here settled. unseen (record { note = t; inside = noted.each t inside; op_is = here; settled = settled }))
          seen.note (Contains-append_right v.trail xs seen.note new) seen.op_is seen.settled
    ]

module _ (p : Plan) (valid : IsPlan p) (o : ℕ) (lt : o < op_count p) where
  pub settles_on : (cs : List TakingCall) (a b : Runner) → IsLone (hand_view a) → IsTrailNoted (hand_view a) → MakesCalls p cs a b → b.kept.items ≡ []
      → (IsSettledSeen (hand_view a) o → ⊥) → IsSettledSeen (hand_view b) o → IsSettledOn p (hand_view b) o
  settles_on [] a b lone noted calls none unseen seen = absurd (unseen (subst (λ r. IsSettledSeen (hand_view r) o) calls seen))
  settles_on (Took c n ∷ cs) a b lone noted calls none unseen seen =
      let m = calls.0 in
      let there : IsSettledSeen (taking c n (hand_view m)) o = subst (λ v. IsSettledSeen v o) calls.2.view seen in
      let before : IsSettledSeen (hand_view m) o = record { note = there.note; inside = there.inside; op_is = there.op_is; settled = there.settled } in
      let kept : m.kept.items ≡ [] = ap (λ l. l.items) (sym calls.2.kept) ∙ none in
      subst (λ v. IsSettledOn p v o) (sym calls.2.view)
      (settled_on_still p o (taking_knows c n (hand_view m)) (settles_on cs a m lone noted calls.1 kept unseen before))
  settles_on (Tried i ∷ cs) a b lone noted calls none unseen seen =
      let m = calls.0 in
      let tried = calls.2.1 in
      let does = tried.does in
      let empty = both_empty m.kept.items (left_of i tried.answer) (sym tried.kept ∙ none) in
      let alone : IsLone (hand_view m) = calls_lone p cs a m calls.1 lone in
      let known : IsTrailNoted (hand_view m) = calls_noted p cs a m calls.1 noted in
      elim (seen_or (hand_view m) o) [
        | inl before ↦ settled_on_still p o (goes_knows does.goes) (settles_on cs a m lone noted calls.1 empty.0 unseen before)
        | inr not_yet ↦
            elim (cases_eq (event_of p o) i) [
              | inl same ↦ does.tells.agreed alone (kept_none i tried.answer empty.1) o (subst (λ k. InEvent p k o) same (valid.numbering.placed o lt).1) not_yet
              | inr other ↦
                  absurd (other_unseen o does.goes alone known
                  (λ t inside own here. other (of_event p i o valid calls.2.0 (subst (InEvent p i) here (does.own t inside own)))) not_yet seen)
            ]
      ]
