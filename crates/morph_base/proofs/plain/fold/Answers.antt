use Rattle.std.proofs.Common.{◌≡◌, ◌∙◌, refl, sym, ap, subst, map, take, ℕ, ◌+◌, ◌<◌, List, [], ◌∷◌, ◌++◌, All, length, get_or, arith, Result, Ok, Err, OnErr}
use Rattle.std.proofs.Math.ListN.{get_or-map, length-map}
use Rattle.std.proofs.lemmas.List.{map_more, map-append, take-map}
use Rattle.std.proofs.lemmas.List.Sorted.{All-permutation}
use Rattle.morph_base.specs.declared.event.Event.{Event}
use Rattle.morph_base.specs.declared.outcome.Outcome.{Outcome}
use Rattle.morph_base.specs.Transactions.{Transaction, transaction_of, transactions_of, by_time, IsTransaction, HasKeysIn}
use Rattle.morph_base.specs.States.{State, after, after_all, IsAfterSome}
use Rattle.morph_base.specs.Outcomes.{fate, fates, fate_of}
use Rattle.morph_base.specs.Flat.{contents}
use Rattle.morph_base.proofs.TimeLaws.{by_time-permutes}
use Rattle.morph_base.proofs.StateLaws.{after_all-nil, after_all-push}
use Rattle.morph_base.proofs.PlainLaws.{fates-nil, fates-push}
use Rattle.morph_base.proofs.plain.fold.Goals as goal

abbrev seen : Event → Transaction
seen e = transaction_of e

-- what holds of each transaction of the batch holds of each in order
holds_at : (P : Transaction → Type 0) (es : List Transaction) (items : List Event) (i : ℕ) (x : Event) → map seen items ≡ by_time es →
    All P es → i < length items → P (seen (get_or items i x))
holds_at P es items i x same all lt =
    let sorted : All P (map seen items) = subst (All P) (sym same) (All-permutation P es (by_time es) (by_time-permutes es) all) in
    let here = sorted i (seen x) (simp length-map lt) in
    subst P (get_or-map seen items i x) here

state-more : (s t u : State) (items : List Event) (i : ℕ) (x : Event) → i < length items →
    t ≡ after_all s (map seen (take i items)) → u ≡ after t (seen (get_or items i x)) → u ≡ after_all s (map seen (take (i + 1) items))
state-more s t u items i x lt so_far one =
    one ∙ ap (λ r. after r (seen (get_or items i x))) so_far ∙ sym (after_all-push s (map seen (take i items)) (seen (get_or items i x))) ∙ ap (after_all s) (sym (map_more seen items i x lt))

told-more : (s t : State) (items : List Event) (i : ℕ) (x : Event) (os ps : List Outcome) (o : Outcome) → i < length items →
    t ≡ after_all s (map seen (take i items)) → map fate_of os ≡ fates s (map seen (take i items)) → fate_of o ≡ fate t (seen (get_or items i x)) →
    ps ≡ os ++ o ∷ [] → map fate_of ps ≡ fates s (map seen (take (i + 1) items))
told-more s t items i x os ps o lt state so_far one more =
    ap (map fate_of) more ∙ map-append fate_of os (o ∷ [])
    ∙ ap (λ l. l ++ fate_of o ∷ []) so_far
    ∙ ap (λ f. fates s (map seen (take i items)) ++ f ∷ []) (one ∙ ap (λ r. fate r (seen (get_or items i x))) state)
    ∙ sym (fates-push s (map seen (take i items)) (seen (get_or items i x)))
    ∙ ap (fates s) (sym (map_more seen items i x lt))

-- what holds in any case holds where there is an error
on_err : {T E P : Type 0} (r : Result T E) → P → OnErr r P
on_err (Ok v) p = tt
on_err (Err e) p = p

-- what was reached after the first i events in order
reached : (s t : State) (es : List Transaction) (items : List (Event)) (i : ℕ) → map seen items ≡ by_time es →
    t ≡ after_all s (map seen (take i items)) → IsAfterSome s (by_time es) t
reached s t es items i same so_far =
    record { count = i; reached = so_far ∙ ap (after_all s) (sym (take-map seen i items) ∙ ap (take i) same) }

nothing_yet : (s : State) (es : List Transaction) → IsAfterSome s es s
nothing_yet s es = record { count = 0; reached = sym (after_all-nil s) }

pub returns-in_err-events-clause-refused : goal.returns-in_err-events-clause-refused
returns-in_err-events-clause-refused c = on_err _ (nothing_yet _ _)

pub returns-in_err-outcomes-clause-refused : goal.returns-in_err-outcomes-clause-refused
returns-in_err-outcomes-clause-refused c = on_err _ (nothing_yet _ _)

pub returns-in_err-apply-clause-refused : goal.returns-in_err-apply-clause-refused
returns-in_err-apply-clause-refused c =
    on_err _
    (reached (contents c.args.values.now) (contents c.apply.new.values) (transactions_of c.args.batch.now) c.deref-event-items.result.now
    c.loop-event.event-index (ap (map seen) c.deref-event-items.ensures.value ∙ c.in_ok-events.ensures)
    (ap contents c.in_err-apply.ensures.refused ∙ c.loop-event.invariant.state))

pub loop-event-init : goal.loop-event-init
loop-event-init c =
    let s = contents c.args.values.now in
    record {
      layout = refl;
      state = sym (after_all-nil s);
      told = ap (map fate_of) c.in_ok-outcomes.ensures.items ∙ sym (fates-nil s);
      room = omega (arith, c.in_ok-outcomes.ensures.room, c.len.ensures, c.deref-event-items.ensures.len);
    }

pub apply-requires-clause-event : goal.apply-requires-clause-event
apply-requires-clause-event c =
    subst (λ (e : Event). IsTransaction (seen e)) (sym c.event-item.is)
    (holds_at IsTransaction (transactions_of c.args.batch.now) c.deref-event-items.result.now c.loop-event.event-index c.event-item.result
    (ap (map seen) c.deref-event-items.ensures.value ∙ c.in_ok-events.ensures) c.requires.batch.valid c.loop-event-test.true)

pub apply-requires-clause-keys : goal.apply-requires-clause-keys
apply-requires-clause-keys c =
    rw c.loop-event.invariant.layout
    (subst (λ (e : Event). HasKeysIn c.args.values.now.layout (seen e)) (sym c.event-item.is)
    (holds_at (HasKeysIn c.args.values.now.layout) (transactions_of c.args.batch.now) c.deref-event-items.result.now c.loop-event.event-index
    c.event-item.result (ap (map seen) c.deref-event-items.ensures.value ∙ c.in_ok-events.ensures) c.requires.keys c.loop-event-test.true))

pub loop-event-preserved : goal.loop-event-preserved
loop-event-preserved c =
    let s = contents c.args.values.now in
    let t = contents c.loop-event.values in
    let item = c.event-item.result in
    let items = c.deref-event-items.result.now in
    let i = c.loop-event.event-index in
    record {
      layout = c.in_ok-apply.ensures.layout ∙ c.loop-event.invariant.layout;
      state = state-more s t (contents c.apply.new.values) items i item c.loop-event-test.true c.loop-event.invariant.state
          (c.in_ok-apply.ensures.state ∙ ap (λ (e : Event). after t (seen e)) c.event-item.is);
      told = told-more s t items i item c.loop-event.outcomes.items _ c.in_ok-apply.field-0 c.loop-event-test.true c.loop-event.invariant.state
          c.loop-event.invariant.told (c.in_ok-apply.ensures.fate ∙ ap (λ (e : Event). fate t (seen e)) c.event-item.is) c.add.ensures.items;
      room = omega arith;
    }
