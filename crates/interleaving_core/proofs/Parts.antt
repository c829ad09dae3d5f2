-- The parts of soundness as one word of an operation gives way to another.
use Rattle.std.proofs.Common.{◌≡◌, ◌≢◌, ℕ, ◌+◌, ◌<◌, ◌≤◌, true, false, cond, eqb, List, [], ◌∷◌, ◌++◌, refl, sym, ap, ◌∙◌, subst, inl, inr, arith, Some, zero-le}
use Rattle.std.specs.Prelude.{Contains}
use Rattle.std.proofs.lemmas.Bool.{cases_eq, true≢false, false≢true, eq-eqb}
use Rattle.std.proofs.lemmas.List.Elements.{Contains-push, Contains-push_cases}
use Rattle.morph_base.specs.declared.limits.TheConstants.{WORKERS}
use Rattle.morph_base.specs.Limits.{most_attempts}
use Rattle.morph_base.specs.declared.plan.Plan.{Plan}
use Rattle.morph_base.specs.declared.word.OpWord.{OpWord}
use Rattle.morph_base.specs.Words.{is_idle, is_settled}
use Rattle.interleaving_core.specs.declared.entry.Record.{Record}
use Rattle.interleaving_core.specs.declared.entry.Held.{Held}
use Rattle.interleaving_core.specs.declared.entry.Entry.{Entry}
use Rattle.interleaving_core.specs.declared.entry.Settling.{Settling}
use Rattle.interleaving_core.specs.Core.{Core, blocked, ready, claimed, is_shown, entry_of, entries_at, settlings_at, places}
use Rattle.interleaving_core.specs.Soundness.{IsInRange, IsPublishedOnce, IsBooked, IsRightRecord, IsSoundAt}
use Rattle.interleaving_core.proofs.Basics.{in_more, count_some, entries-more_else, entries-more_at, entries-more_other, entries-none, settlings-more_else, settlings-more_at}

-- ---- what was published

-- nothing was, or what was shown stays
pub published_same : (es : List Entry) (o : ℕ) (v w : OpWord) → w.attempt ≡ v.attempt → (is_idle w.state ≡ true → is_idle v.state ≡ true)
    → (is_shown w.state ≡ true → (is_shown v.state ≡ true) × (entry_of o w ≡ entry_of o v)) → IsPublishedOnce es o v → IsPublishedOnce es o w
published_same es o v w same idle shown was = record {
  once = was.once;
  below = λ e inside op_is. let before = was.below e inside op_is in (before.0, omega (arith, before.1));
  not_yet = λ is. ap (λ a. entries_at o a es) same ∙ was.not_yet (idle is);
  shown = λ is. let both = shown is in subst (Contains es) (sym both.1) (was.shown both.0);
}

-- the next attempt was not shown yet
pub next_unseen : (es : List Entry) (o : ℕ) (v : OpWord) → IsPublishedOnce es o v → entries_at o (v.attempt + 1) es ≡ 0
next_unseen es o v was =
    entries-none o (v.attempt + 1) es (λ e inside op_is. let before = was.below e inside op_is in (λ same. absurd (omega (arith, before.1))))

pub published_next : (es : List Entry) (o : ℕ) (v w : OpWord) → w.attempt ≡ v.attempt + 1 → is_shown w.state ≡ false → IsPublishedOnce es o v → IsPublishedOnce es o w
published_next es o v w next unseen was = record {
  once = was.once;
  below = λ e inside op_is. let before = was.below e inside op_is in (before.0, omega (arith, before.1));
  not_yet = λ is. ap (λ a. entries_at o a es) next ∙ next_unseen es o v was;
  shown = λ is. absurd (true≢false (sym is ∙ unseen));
}

-- the word is shown
pub published_more : (es : List Entry) (o : ℕ) (v w : OpWord) → 1 ≤ w.attempt → v.attempt ≤ w.attempt → entries_at o w.attempt es ≡ 0 → is_idle w.state ≡ false
    → IsPublishedOnce es o v → IsPublishedOnce (es ++ entry_of o w ∷ []) o w
published_more es o v w first later unseen evaluated was = record {
  once = λ a.
      elim (cases_eq w.attempt a) [
        | inl same ↦
            let one : entries_at o a (es ++ entry_of o w ∷ []) ≡ entries_at o a es + 1 = entries-more_at o a es (entry_of o w) refl same in
            let none : entries_at o a es ≡ 0 = ap (λ n. entries_at o n es) (sym same) ∙ unseen in
            omega arith
        | inr other ↦
            let more : entries_at o a (es ++ entry_of o w ∷ []) ≡ entries_at o a es = entries-more_other o a es (entry_of o w) other in
            let before : entries_at o a es ≤ 1 = was.once a in
            omega arith
      ];
  below = λ e inside op_is.
      elim (Contains-push_cases es (entry_of o w) e inside) [
        | inl old ↦ let before = was.below e old op_is in (before.0, omega (arith, before.1))
        | inr new ↦ (subst (λ (x : Entry). 1 ≤ x.attempt) new first, subst (λ (x : Entry). x.attempt ≤ w.attempt) new (omega arith))
      ];
  not_yet = λ is. absurd (true≢false (sym is ∙ evaluated));
  shown = λ is. Contains-push es (entry_of o w);
}

-- another operation's entry
pub published_else : (es : List Entry) (e : Entry) (i : ℕ) (w : OpWord) → e.op ≢ i → IsPublishedOnce es i w → IsPublishedOnce (es ++ e ∷ []) i w
published_else es e i w other was = record {
  once = λ a. subst (λ n. n ≤ 1) (sym (entries-more_else i a es e other)) (was.once a);
  below = λ x inside op_is.
      elim (Contains-push_cases es e x inside) [
        | inl old ↦ was.below x old op_is
        | inr new ↦ absurd (other (ap (λ (y : Entry). y.op) new ∙ op_is))
      ];
  not_yet = λ is. entries-more_else i w.attempt es e other ∙ was.not_yet is;
  shown = λ is. in_more es e (entry_of i w) (was.shown is);
}

-- ---- what was settled

no_settling : (xs : List Settling) (o : ℕ) → settlings_at o xs ≡ 0 → (x : Settling) → Contains xs x → x.op ≡ o → ⊥
no_settling xs o none x inside op_is =
    let least : 1 ≤ settlings_at o xs = count_some (λ y. eqb y.op o) xs x inside (eq-eqb x.op o op_is) in absurd (omega arith)

pub booked_open : (xs : List Settling) (o : ℕ) (v w : OpWord) → is_settled v.state ≡ false → is_settled w.state ≡ false → IsBooked xs o v → IsBooked xs o w
booked_open xs o v w v_open w_open was =
    let none : settlings_at o xs ≡ 0 = was.count ∙ ap (λ b. cond b 1 0) v_open in
    record { count = none ∙ ap (λ b. cond b 1 0) (sym w_open); by_word = λ x inside op_is. absurd (no_settling xs o none x inside op_is) }

pub booked_more : (xs : List Settling) (o t : ℕ) (v w : OpWord) → is_settled v.state ≡ false → is_settled w.state ≡ true → w.by ≡ t → IsBooked xs o v
    → IsBooked (xs ++ record { op = o; by = t } ∷ []) o w
booked_more xs o t v w v_open w_settled by_is was =
    let none : settlings_at o xs ≡ 0 = was.count ∙ ap (λ b. cond b 1 0) v_open in
    let x : Settling = record { op = o; by = t } in
    let one : settlings_at o (xs ++ x ∷ []) ≡ 1 = settlings-more_at o xs x refl ∙ ap (λ n. n + 1) none in
    record {
      count = one ∙ ap (λ b. cond b 1 0) (sym w_settled);
      by_word = λ y inside op_is.
          elim (Contains-push_cases xs x y inside) [
            | inl old ↦ absurd (no_settling xs o none y old op_is)
            | inr new ↦ ap (λ (z : Settling). z.by) (sym new) ∙ sym by_is
          ];
    }

pub booked_else : (xs : List Settling) (x : Settling) (i : ℕ) (w : OpWord) → x.op ≢ i → IsBooked xs i w → IsBooked (xs ++ x ∷ []) i w
booked_else xs x i w other was = record {
  count = settlings-more_else i xs x other ∙ was.count;
  by_word = λ y inside op_is.
      elim (Contains-push_cases xs x y inside) [
        | inl old ↦ was.by_word y old op_is
        | inr new ↦ absurd (other (ap (λ (z : Settling). z.op) new ∙ op_is))
      ];
}

-- ---- words in range

module _ (p : Plan) (cap : ℕ) (small_cap : cap < most_attempts) where
  pub blocked_range : (a : ℕ) → 1 ≤ a → a ≤ cap + 1 → IsInRange p cap (blocked a)
  blocked_range a first most = record {
    word = record { small = omega arith; first = first; last = omega arith; blank = λ is. refl; by_worker = λ is. absurd (false≢true is); by_none = λ is. refl };
    small = zero-le;
    most = most;
    spread = λ is. absurd (cc);
  }

  pub ready_range : (a : ℕ) → 1 ≤ a → a ≤ cap + 1 → IsInRange p cap (ready a)
  ready_range a first most = record {
    word = record { small = omega arith; first = first; last = omega arith; blank = λ is. refl; by_worker = λ is. absurd (false≢true is); by_none = λ is. refl };
    small = zero-le;
    most = most;
    spread = λ is. absurd (cc);
  }

  pub claimed_range : (a t : ℕ) → 1 ≤ a → a ≤ cap + 1 → 1 ≤ t → t ≤ WORKERS → IsInRange p cap (claimed a t)
  claimed_range a t first most least greatest = record {
    word = record { small = omega arith; first = first; last = omega arith; blank = λ is. refl; by_worker = λ is. (least, greatest); by_none = λ is. absurd (true≢false is) };
    small = zero-le;
    most = most;
    spread = λ is. absurd (cc);
  }

-- ---- a waiting word

-- all that is to be shown of a blocked or a ready word
module _ (p : Plan) (cap : ℕ) (d : Core) (o a : ℕ) where
  pub blocked_sound : IsInRange p cap (blocked a) → IsPublishedOnce d.published o (blocked a) → IsBooked d.settlings o (blocked a)
      → ((j : ℕ) (r : Record) → j < places p o → d.recorded o j ≡ Some r → IsRightRecord p d o (blocked a) j r) → IsSoundAt p cap d o (blocked a)
  blocked_sound range published booked records = record {
    range = range;
    held = λ is. absurd (cc);
    follows = record { run = λ is. absurd (false≢true is); spread = λ is. absurd (cc) };
    published = published;
    settled = λ is. absurd (cc);
    aborted = λ is. absurd (cc);
    booked = booked;
    last = λ is. absurd (false≢true is);
    records = records;
  }

  pub ready_sound : IsInRange p cap (ready a) → IsPublishedOnce d.published o (ready a) → IsBooked d.settlings o (ready a)
      → ((j : ℕ) (r : Record) → j < places p o → d.recorded o j ≡ Some r → IsRightRecord p d o (ready a) j r) → IsSoundAt p cap d o (ready a)
  ready_sound range published booked records = record {
    range = range;
    held = λ is. absurd (cc);
    follows = record { run = λ is. absurd (false≢true is); spread = λ is. absurd (cc) };
    published = published;
    settled = λ is. absurd (cc);
    aborted = λ is. absurd (cc);
    booked = booked;
    last = λ is. absurd (false≢true is);
    records = records;
  }

  pub claimed_sound : (t : ℕ) → IsInRange p cap (claimed a t) → ((h : Held) × (d.claim t ≡ Some h) × (h.op ≡ o)) → IsPublishedOnce d.published o (claimed a t) → IsBooked d.settlings o (claimed a t)
      → ((j : ℕ) (r : Record) → j < places p o → d.recorded o j ≡ Some r → IsRightRecord p d o (claimed a t) j r) → IsSoundAt p cap d o (claimed a t)
  claimed_sound t range held published booked records = record {
    range = range;
    held = λ is. held;
    follows = record { run = λ is. absurd (false≢true is); spread = λ is. absurd (cc) };
    published = published;
    settled = λ is. absurd (cc);
    aborted = λ is. absurd (cc);
    booked = booked;
    last = λ is. absurd (false≢true is);
    records = records;
  }
