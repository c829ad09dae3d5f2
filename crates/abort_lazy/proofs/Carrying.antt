-- What a call of the board leaves true of what its hand saw before, and what it shows of what it loaded.
use Rattle.std.proofs.Common.{◌≡◌, ℕ, ◌≤◌, true, false, List, ◌++◌, refl, sym, ap, ◌∙◌, subst, inl, inr, arith}
use Rattle.std.specs.Prelude.{Contains, Option, slice_index}
use Rattle.std.proofs.lemmas.Bool.{false≢true}
use Rattle.std.proofs.lemmas.List.Elements.{Contains-append_left, Contains-append_right}
use Rattle.morph_base.specs.declared.plan.Plan.{Plan}
use Rattle.morph_base.specs.declared.plan.Origin.{Origin}
use Rattle.morph_base.specs.declared.plan.Origin.TheVariants.{Base, Op as Written}
use Rattle.morph_base.specs.declared.word.OpState.TheVariants.{Claimed, Spread}
use Rattle.morph_base.specs.declared.word.OpWord.{OpWord}
use Rattle.morph_base.specs.Plans.{origin_at, final}
use Rattle.morph_base.specs.Clean.{source}
use Rattle.morph_base.specs.Words.{is_settled, is_idle, is_evaluated}
use Rattle.op_words.specs.declared.trail.Item.{Item}
use Rattle.op_words.specs.declared.trail.View.{View}
use Rattle.op_words.specs.Trails.{loaded, HasLast, IsDisturbed, IsShaken, IsSteadyAt, IsCalmAt, NoneOwn}
use Rattle.op_words.specs.Views.{IsSettledSeen, IsSourceSeen, IsJudged, IsLone, AddsAndFrees}
use Rattle.op_words.specs.Calls.{IsSettledRead, IsSourceOpen}
use Rattle.op_words.specs.Judging.{IsAnswerSeen, IsGoodAt, IsStaleAt}
use Rattle.op_words.specs.Retrying.{IsOwnUnrolled, IsUpToDate}
use Rattle.op_words.proofs.Trailing.{disturbed_later, along_contains, calm_undisturbed, settled_last}
use Rattle.op_words.proofs.Comparing.{noted_more, seen_more as source_more}
use Rattle.op_eval.specs.Evaluations.{IsAlready}
use Rattle.op_eval.proofs.Following.{one_is_last, one_none, found_other}
use Rattle.abort_lazy.specs.Transactions.{AreSourcesSeen}

module _ {v u : View} {xs : List Item} (goes : AddsAndFrees v u xs) where
  -- ---- what was seen is seen

  pub seen_more : {o : ℕ} → IsSettledSeen v o → IsSettledSeen u o
  seen_more seen = record { note = seen.note; inside = noted_more goes.adds seen.note seen.inside; op_is = seen.op_is; settled = seen.settled }

  pub more_note : {o : ℕ} (seen : IsSettledSeen v o) → (seen_more seen).note.word.attempt ≡ seen.note.word.attempt
  unfolding seen_more
  more_note seen = refl

  pub judged_more : {p : Plan} {o : ℕ} {w : OpWord} → IsJudged p v o w → IsJudged p u o w
  judged_more {p} {o} {w} judged = record {
    ran = judged.ran;
    values = judged.values;
    records = record { len = judged.records.len; each = λ j below. goes.adds.records _ (judged.records.each j below) };
    sources = λ j below. source_more goes.adds (origin_at p o j) (slice_index judged.values j) (judged.sources j below);
  }

  pub good_at_more : {p : Plan} {o : ℕ} {w : OpWord} → IsGoodAt p v o w → IsGoodAt p u o w
  good_at_more {p} {o} {w} good = record {
    in_range = good.in_range;
    executed = good.executed;
    sources = λ j below. source_more goes.adds (origin_at p o j) (source p (final p) o j) (good.sources j below);
    records = λ j below. goes.adds.records _ (good.records j below);
  }

  pub answer_more : {p : Plan} {o : ℕ} {r : Option ℕ} → IsAnswerSeen p v o r → IsAnswerSeen p u o r
  answer_more {p} {o} {r} is = record {
    sources = λ j below. let seen = is.sources j below in (seen.0, source_more goes.adds (origin_at p o j) seen.0 seen.1);
    answer_is = is.answer_is;
  }

  pub sources_more : {p : Plan} {o : ℕ} → AreSourcesSeen p v o → AreSourcesSeen p u o
  sources_more seen = record { each = λ s is. seen_more (seen.each s is) }

  -- ---- words of the call

  -- a word of the call is in the view
  pub item_seen : (t : Item) → Contains xs t → Contains u.notes t
  item_seen t found = subst (λ zs. Contains zs t) (sym goes.adds.notes) (Contains-append_right v.notes xs t found)

  -- a settled word of the operation that the view has is its last word in the call
  pub settled_is_last : {o : ℕ} {w : OpWord} → HasLast o xs w → (seen : IsSettledSeen u o) → w ≡ seen.note.word
  settled_is_last {o} {w} last seen =
      let n = seen.note in
      let both : Contains (v.notes ++ xs) n = subst (λ zs. Contains zs n) goes.adds.notes seen.inside in
      sym (last.is n.word) ∙ settled_last v.tag v.notes xs goes.adds.steady o n seen.op_is seen.settled both n.word (λ found. refl)

  -- an operation whose last word in the call is open was never seen settled
  pub not_seen : {o : ℕ} {w : OpWord} → HasLast o xs w → is_settled w.state ≡ false → IsSettledSeen u o → ⊥
  not_seen last open' seen = false≢true (sym open' ∙ ap (λ (w : OpWord). is_settled w.state) (settled_is_last last seen) ∙ seen.settled)

  -- a settled word of the call is seen
  pub found_seen : {o : ℕ} (t : Item) → Contains xs t → t.op ≡ o → is_settled t.word.state ≡ true → IsSettledSeen u o
  found_seen t found same settled = record { note = t; inside = item_seen t found; op_is = same; settled = settled }

  pub found_note : {o : ℕ} (t : Item) (found : Contains xs t) (same : t.op ≡ o) (settled : is_settled t.word.state ≡ true) → (found_seen t found same settled).note.word ≡ t.word
  unfolding found_seen
  found_note t found same settled = refl

  -- a word that was loaded is the settled one, where that was seen before
  pub load_is_settled : {s : ℕ} {w : OpWord} → (seen : IsSettledSeen v s) → Contains xs (loaded s w) → w ≡ seen.note.word
  load_is_settled {s} {w} seen found =
      let at = along_contains (IsSteadyAt v.tag) v.notes xs goes.adds.steady (loaded s w) found in
      at.3.settled seen.note (Contains-append_left v.notes at.0 seen.note seen.inside) seen.op_is seen.settled

  -- settled sources stop nothing
  pub no_open_source : {p : Plan} {cap o at : ℕ} {w : OpWord} → AreSourcesSeen p v o → IsSourceOpen p cap o v u xs at w → ⊥
  no_open_source seen is =
      let there = seen.each _ is.source in
      false≢true (sym is.settled ∙ ap (λ (x : OpWord). is_settled x.state) (load_is_settled there is.inside) ∙ there.settled)

  -- ---- a lone root

  -- it loads no claimed word, and nothing is disturbed
  pub lone_unclaimed : {o : ℕ} {w : OpWord} → IsLone v → Contains xs (loaded o w) → w.state ≡ Claimed → ⊥
  lone_unclaimed {o} {w} lone found claimed = let at = along_contains IsCalmAt v.trail xs (goes.adds.calm lone) (loaded o w) found in at.3.free refl claimed

  pub lone_undisturbed : {o : ℕ} → IsLone v → IsDisturbed o xs → ⊥
  lone_undisturbed {o} lone is = calm_undisturbed v.trail xs (goes.adds.calm lone) o is

  pub lone_unshaken : {p : Plan} {o : ℕ} → IsLone v → IsShaken p o xs → ⊥
  lone_unshaken lone shaken = elim shaken [ inl is ↦ lone_undisturbed lone is | inr source ↦ lone_undisturbed lone source.2 ]

  -- ---- what was judged is not stale

  -- two values of one source are one
  pub one_source : (q : Origin) (x y : ℕ) → IsSourceSeen u q x → IsSourceSeen u q y → x ≡ y
  one_source (Base b) x y one other = sym one ∙ other
  one_source (Written s) x y one other =
      sym one.value_is
      ∙ ap (λ (w : OpWord). w.value) (goes.adds.agree one.seen.note other.seen.note one.seen.inside other.seen.inside (one.seen.op_is ∙ sym other.seen.op_is) one.seen.settled other.seen.settled)
      ∙ other.value_is

  settled_read_seen : (q : Origin) (x : ℕ) → IsSettledRead xs q x → IsSourceSeen u q x
  settled_read_seen (Base b) x is = is
  settled_read_seen (Written s) x is =
      record { seen = record { note = loaded s is.0; inside = item_seen (loaded s is.0) is.1; op_is = refl; settled = is.2 }; value_is = is.3 }

  -- what was judged at the word that it has still is not stale
  pub judged_not_stale : {p : Plan} {cap o j kept value : ℕ} {w : OpWord} → IsJudged p v o w → IsStaleAt p cap o v u xs w j kept value → ⊥
  judged_not_stale {p} {cap} {o} {j} {kept} {value} {w} judged stale =
      let same : slice_index judged.values j ≡ kept = stale.alike (slice_index judged.values j) (judged.records.each j stale.in_places) in
      let known : IsSourceSeen u (origin_at p o j) (slice_index judged.values j) =
      source_more goes.adds (origin_at p o j) (slice_index judged.values j) (judged.sources j stale.in_places) in
      stale.differs (sym same ∙ one_source (origin_at p o j) (slice_index judged.values j) value known (settled_read_seen (origin_at p o j) value stale.source))

-- ---- a call that answers otherwise than the word last before it would have it

module _ (p : Plan) (cap o : ℕ) {v u : View} {xs : List Item} {a : OpWord} (ys : List Item) (known : HasLast o ys a) where
  pub already_other : {w : OpWord} → is_idle a.state ≡ true → IsAlready p cap o v u xs w → IsDisturbed o (ys ++ xs)
  already_other {w} idle is =
      found_other ys xs known (subst (λ zs. HasLast o zs w) (sym is.only) (one_is_last (loaded o w)))
      (λ same. false≢true (sym is.there ∙ sym (ap (λ (x : OpWord). is_idle x.state) same) ∙ idle))
      (subst NoneOwn (sym is.only) (one_none (loaded o w) refl))

  pub unrolled_other : {w : OpWord} → is_evaluated a.state ≡ true → a.attempt ≤ cap → IsOwnUnrolled p cap o v u xs w → IsDisturbed o (ys ++ xs)
  unrolled_other {w} evaluated below is =
      elim is.cause [
        | inl idle ↦ found_other ys xs known is.last (λ same. false≢true (sym idle ∙ sym (ap (λ (x : OpWord). is_evaluated x.state) same) ∙ evaluated)) is.none
        | inr more ↦
            elim more [
              | inl last ↦ found_other ys xs known is.last (λ same. let e = ap (λ (x : OpWord). x.attempt) same in absurd (omega (arith, e, last, below))) is.none
              | inr there ↦ disturbed_later ys there
            ]
      ]

  pub fresh_other : {j x : ℕ} → a.state ≡ Spread → IsUpToDate p cap o v u xs j x → IsDisturbed o (ys ++ xs)
  fresh_other {j} {x} spread is = found_other ys xs known is.last (λ same. is.not_spread (sym (ap (λ (w : OpWord). w.state) same) ∙ spread)) is.none

pub already_last : (p : Plan) (cap o : ℕ) {v u : View} {xs : List Item} {w : OpWord} → IsAlready p cap o v u xs w → HasLast o xs w
already_last p cap o {v} {u} {xs} {w} is = subst (λ zs. HasLast o zs w) (sym is.only) (one_is_last (loaded o w))

pub already_seen : (p : Plan) (cap o : ℕ) {v u : View} {xs : List Item} {w : OpWord} → IsAlready p cap o v u xs w → Contains xs (loaded o w)
already_seen p cap o {v} {u} {xs} {w} is = subst (λ zs. Contains zs (loaded o w)) (sym is.only) (0, omega arith, refl)
