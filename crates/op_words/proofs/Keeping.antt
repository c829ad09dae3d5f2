-- The store of a record: the next place of an operation that is held gets a version of its source.
use Rattle.std.proofs.Common.{◌≡◌, ◌⊎◌, ℕ, ◌+◌, ◌<◌, true, false, List, [], ◌∷◌, ◌++◌, length, set, refl, sym, ap, ◌∙◌, subst, inl, inr, arith, Option, Some}
use Rattle.std.proofs.lemmas.Bool.{false≢true}
use Rattle.std.proofs.lemmas.Option.{same_Some}
use mathlib.Core.Option.{some, none}
use lib.ListN.{get_elem?}
use Rattle.atomic_table.specs.Table.{step, keeps as no_act, Allows}
use Rattle.morph_base.specs.declared.plan.Plan.{Plan}
use Rattle.morph_base.specs.declared.plan.Origin.{Origin}
use Rattle.morph_base.specs.declared.plan.Origin.TheVariants.{Base, Op as Written}
use Rattle.morph_base.specs.declared.word.OpState.{OpState}
use Rattle.morph_base.specs.declared.word.OpState.TheVariants.{Blocked, Ready, Claimed, Executed, Failed, Spread, Settled, SettledAborted}
use Rattle.morph_base.specs.declared.word.OpWord.{OpWord}
use Rattle.morph_base.specs.Plans.{op_count, origin_at}
use Rattle.morph_base.specs.Words.{is_idle, is_settled}
use Rattle.interleaving_core.specs.declared.entry.Held.{Held}
use Rattle.interleaving_core.specs.declared.entry.Record.{Record}
use Rattle.interleaving_core.specs.declared.event.CoreEvent.TheVariants.{Fetch}
use Rattle.interleaving_core.specs.Core.{Core, fetched, is_shown, entry_of, places, put, IsSettledAs, IsVersion}
use Rattle.interleaving_core.specs.Sightings.{IsNoted}
use Rattle.interleaving_core.specs.Steps.{May, after}
use Rattle.interleaving_core.proofs.Basics.{put_here, put_else}
use Rattle.op_words.specs.declared.trail.View.{View}
use Rattle.op_words.specs.Trails.{loaded}
use Rattle.op_words.specs.Views.{fetching}
use Rattle.op_words.specs.Layout.{record_index, packed_record}
use Rattle.op_words.specs.Rule.{Seats, Knows, Lawful, Steps}
use Rattle.op_words.specs.Plays.{Sat, IsTold, keeps}
use Rattle.op_words.specs.Kinds.{IsUsable}
use Rattle.op_words.proofs.Rows.{no_more, not_inside}
use Rattle.op_words.proofs.Knowing.{words_more, knows_more}
use Rattle.op_words.proofs.Moving.{with_view, advanced, grown, root_before}
use Rattle.op_words.proofs.Laying.{numbers_put, shows_record, record_below}
use Rattle.op_words.proofs.Telling.{told}
use Rattle.op_words.proofs.Loading.{view_here}
use Rattle.op_words.proofs.Claiming.{sound_claim, held_now, attempt_now, claimed_now, not_own}

-- a word with a value was shown, or it is settled
shown_or_settled : (s : OpState) → is_idle s ≡ false → (is_shown s ≡ true) ⊎ (is_settled s ≡ true)
shown_or_settled Blocked is = absurd (false≢true (sym is))
shown_or_settled Ready is = absurd (false≢true (sym is))
shown_or_settled Claimed is = absurd (false≢true (sym is))
shown_or_settled Executed is = inl refl
shown_or_settled Failed is = inl refl
shown_or_settled Spread is = inl refl
shown_or_settled Settled is = inl refl
shown_or_settled SettledAborted is = inr refl

-- what was seen settled is settled with its value, and what was seen with a value is a version
module _ (c : Core) (s x : ℕ) (w : OpWord) (noted : IsNoted c s w) (value : w.value ≡ x) where
  pub seen_settled : is_settled w.state ≡ true → IsSettledAs c (Written s) x
  seen_settled is = let now = noted.settled is in (ap (λ (y : OpWord). is_settled y.state) now ∙ is, ap (λ (y : OpWord). y.value) now ∙ value)

  pub seen_version : is_idle w.state ≡ false → IsVersion c (Written s) x
  seen_version is =
      elim (shown_or_settled w.state is) [
        | inl shown ↦ inr (record { entry = entry_of s w; inside = noted.shown shown; op_is = refl; value_is = value })
        | inr settled ↦ inl (seen_settled settled)
      ]

module _ {p : Plan} {cap counters : ℕ} (s : Seats) (lawful : Lawful p cap counters s) (i : ℕ) (v : View) (at : get_elem? s.views i ≡ some (Some v)) (h : Held) (holds : v.claim ≡ Some h)
    (lt : length h.values < places p h.op) (x : ℕ) (usable : IsUsable v cap h.attempt (origin_at p h.op (length h.values)) x) where
  knows : Knows p cap lawful.core (length s.views) i v
  knows = lawful.hands i v at

  abbrev j : ℕ
  j = length h.values

  version_of : (q : Origin) → IsUsable v cap h.attempt q x → IsVersion lawful.core q x
  version_of (Base b) is = is
  version_of (Written t) is = seen_version lawful.core t x is.word (knows.noted.notes (loaded t is.word) is.inside) is.value_is is.shown

  settled_of : (q : Origin) → IsUsable v cap h.attempt q x → h.attempt ≡ cap + 1 → IsSettledAs lawful.core q x
  settled_of (Base b) is last = (tt, is)
  settled_of (Written t) is last = seen_settled lawful.core t x is.word (knows.noted.notes (loaded t is.word) is.inside) is.value_is (is.at_last last)

  attempt_is : (lawful.core.word h.op).attempt ≡ h.attempt
  attempt_is = attempt_now s lawful i v at h holds

  may_keep : May p cap lawful.core (Fetch h.op j v.tag x)
  may_keep = record {
    goes_from = claimed_now s lawful i v at h holds;
    in_places = lt;
    next = ap (λ (k : Option Held). length (fetched k)) (held_now s lawful i v at h holds);
    version = λ below. version_of (origin_at p h.op j) usable;
    settled_at_last = λ last. settled_of (origin_at p h.op j) usable (sym attempt_is ∙ last);
  }

  abbrev next : Core
  next = after p lawful.core (Fetch h.op j v.tag x)

  abbrev kept_record : Option Record
  kept_record = Some (record { value = x; attempt = h.attempt })

  claim_is : next.claim (i + 1) ≡ (fetching h x v).claim
  claim_is =
      ap next.claim (sym knows.tag)
      ∙ put_here lawful.core.claim v.tag (Some (record { op = h.op; attempt = (lawful.core.word h.op).attempt; values = fetched (lawful.core.claim v.tag) ++ x ∷ [] }))
      ∙ ap (λ (z : ℕ × List ℕ). Some (record { op = h.op; attempt = z.0; values = z.1 ++ x ∷ [] })) (λ k. (attempt_is k, ap fetched (held_now s lawful i v at h holds) k))

  knows_kept : Knows p cap next (length s.views) i (fetching h x v)
  knows_kept =
      knows_more {v = v} {xs = []} (grown s lawful i v (fetching h x v) at (Fetch h.op j v.tag x) may_keep) knows
      (words_more (record { plan = refl; cap = refl; tag = refl; made = refl; notes = no_more v.notes; trail = no_more v.trail; decisions = refl; settlings = refl; joined = refl; places = refl }))
      claim_is (λ t inside. absurd (not_inside t inside)) (λ r inside. inl inside) (λ x inside. absurd (not_inside x inside))

  pub kept_steps : Steps p cap counters s lawful (with_view (set s.words (record_index p h.op j) (packed_record kept_record)) s i (fetching h x v)) (Fetch h.op j v.tag x)
  kept_steps =
      advanced s lawful i v (fetching h x v) at (Fetch h.op j v.tag x) may_keep
      (record {
        others = λ t other. put_else lawful.core.claim v.tag (Some (record { op = h.op; attempt = (lawful.core.word h.op).attempt; values = fetched (lawful.core.claim v.tag) ++ x ∷ [] })) t (not_own s lawful i v at t other);
        shown = [];
        shows = no_more lawful.core.published;
        mine = no_more v.published;
        booked = [];
        books = no_more lawful.core.settlings;
        my_books = no_more v.settlings;
        events = refl;
        tag = refl;
        joined = refl;
        places = refl;
      })
      (set s.words (record_index p h.op j) (packed_record kept_record))
      (shows_record s.words lawful.shows h.op in_range next j lt kept_record (λ q. refl) (λ q k. ap (λ (a : ℕ). put lawful.core.recorded h.op (put (lawful.core.recorded h.op) j (Some (record { value = x; attempt = a }))) q k) attempt_is) (λ d. refl))
      (numbers_put s.words (record_index p h.op j) (packed_record kept_record) (let b = record_below s.words lawful.shows h.op in_range j lt in omega (arith, b)) lawful.numbers)
      knows_kept
      (λ single first. record { each = (lawful.alone single v (root_before s lawful i v (fetching h x v) at first)).each })
    where
      in_range : h.op < op_count p
      in_range = (sound_claim s lawful i v at h holds).in_range

  pub kept_told : IsTold (fetching h x v)
  kept_told = told (with_view (set s.words (record_index p h.op j) (packed_record kept_record)) s i (fetching h x v)) kept_steps.next i (fetching h x v) (view_here s.views i v (fetching h x v) at)

same_value : (x y a b : ℕ) → a ≡ b → packed_record (Some (record { value = x; attempt = a })) ≡ packed_record (Some (record { value = y; attempt = b })) → x ≡ y
same_value x y a b same e = omega (arith, same, e)

module _ {p : Plan} {cap counters : ℕ} (slots id : ℕ) (me : Sat) (v : View) (is : me.0 ≡ Some v) (h : Held) (holds : v.claim ≡ Some h) (lt : length h.values < places p h.op) (x : ℕ)
    (usable : IsUsable v cap h.attempt (origin_at p h.op (length h.values)) x) where
  pub allows_keep : Allows (Lawful p cap counters) slots id me (record_index p h.op (length h.values)) (λ n. packed_record (Some (record { value = x; attempt = h.attempt })))
      (λ n. keeps (step slots (record_index p h.op (length h.values)) (packed_record (Some (record { value = x; attempt = h.attempt }))) 0 none) me (packed_record (Some (record { value = x; attempt = h.attempt }))))
  allows_keep s lawful homes at small =
      let there : get_elem? s.views id ≡ some (Some v) = at ∙ ap some is in (
        Some (fetching h x v),
        no_act,
        tt,
        (kept_steps s lawful id v there h holds lt x usable).next,
        λ y same k held z first.
            let e : v ≡ y = same_Some v y (sym is ∙ same) in
            let one : h ≡ k = same_Some h k (sym holds ∙ ap (λ (u : View). u.claim) e ∙ held) in
            let value : x ≡ z = same_value x z h.attempt k.attempt (ap (λ (q : Held). q.attempt) one) first in
            subst (λ (t : View × Held × ℕ). (◌≡◌ {A = Sat} (Some (fetching h x v), me.1) (Some (fetching t.1 t.2 t.0), me.1)) × IsTold (fetching t.1 t.2 t.0)) (λ n. (e n, one n, value n))
            (refl, kept_told s lawful id v there h holds lt x usable),
      )
