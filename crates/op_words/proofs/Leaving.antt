-- A step of the machine that leaves another word on an operation.
use Rattle.std.proofs.Common.{◌≡◌, ◌≢◌, ◌⊎◌, ℕ, ◌+◌, ◌<◌, Bool, [], ◌∷◌, length, set, refl, sym, ap, ◌∙◌, subst, inl, inr, Some}
use Rattle.std.specs.Prelude.{Contains, slice_index, ◌==◌}
use Rattle.std.proofs.lemmas.Bool.{cases_Bool, false≢true, eqb-true, eqb-false}
use Rattle.std.proofs.lemmas.List.Elements.{Contains-append_left}
use mathlib.Core.Option.{some}
use lib.ListN.{get_elem?}
use prog.Atomic.{either}
use Rattle.morph_base.specs.declared.plan.Plan.{Plan}
use Rattle.morph_base.specs.declared.word.OpWord.{OpWord}
use Rattle.morph_base.specs.Words.{IsWord, packed}
use Rattle.morph_base.specs.Plans.{op_count}
use Rattle.morph_base.proofs.WordLaws.{one_word}
use Rattle.interleaving_core.specs.declared.event.CoreEvent.{CoreEvent}
use Rattle.interleaving_core.specs.Core.{Core, put}
use Rattle.interleaving_core.specs.Steps.{May, after}
use Rattle.interleaving_core.specs.Soundness.{IsSound}
use Rattle.interleaving_core.specs.Sightings.{IsNoted, IsRecordNoted}
use Rattle.interleaving_core.proofs.Basics.{put_here, put_else}
use Rattle.interleaving_core.proofs.Machine.{step_keeps}
use Rattle.interleaving_core.proofs.Sighting.{present_noted}
use Rattle.op_words.specs.declared.trail.Item.{Item}
use Rattle.op_words.specs.declared.trail.RecordSeen.{RecordSeen}
use Rattle.op_words.specs.declared.trail.View.{View}
use Rattle.op_words.specs.Trails.{left, IsSteadyAt}
use Rattle.op_words.specs.Views.{looked}
use Rattle.op_words.specs.Rule.{Seats, Knows, Lawful, Steps}
use Rattle.op_words.specs.Plays.{Sat, Leaves, Swaps}
use Rattle.op_words.proofs.Rows.{one_inside, not_inside}
use Rattle.op_words.proofs.Knowing.{HasMore, knows_more}
use Rattle.op_words.proofs.Moving.{with_view, Advances, advanced, grown, root_before}
use Rattle.op_words.proofs.Laying.{numbers_put, shows_word, op_below}
use Rattle.op_words.proofs.Telling.{told, steady_at}
use Rattle.op_words.proofs.Loading.{present_more, view_here, looked_keeps, looks_so}

-- step e of seat i, from state c to d and from view v to u, leaves word w on operation o
pub record IsLeft (p : Plan) (c d : Core) (o : ℕ) (w : OpWord) (e : CoreEvent) (i : ℕ) (v u : View) : Type 0 where
  pub words : (j : ℕ) → d.word j ≡ put c.word o w j
  pub recorded : (q j : ℕ) → d.recorded q j ≡ c.recorded q j
  pub decided : (j : ℕ) → d.decision j ≡ c.decision j
  pub claim : d.claim (i + 1) ≡ u.claim
  pub advances : Advances c d e i v u
  pub more : HasMore v u (left o w ∷ [])
  pub learned : more.learned ≡ []
  pub records : IsNoted d o w → (r : RecordSeen) → Contains u.records r → Contains v.records r ⊎ ((r.op < op_count p) × IsRecordNoted d r.op r.place r.value r.word)

module _ {p : Plan} {cap counters : ℕ} (s : Seats) (lawful : Lawful p cap counters s) (i : ℕ) (v u : View) (at : get_elem? s.views i ≡ some (Some v))
    (o : ℕ) (lt : o < op_count p) (w : OpWord) (e : CoreEvent) (may : May p cap lawful.core e) (is : IsLeft p lawful.core (after p lawful.core e) o w e i v u) where
  abbrev next : Core
  next = after p lawful.core e

  sound_next : IsSound p cap next
  sound_next = step_keeps p cap lawful.valid lawful.small lawful.core lawful.sound e may

  word_next : next.word o ≡ w
  word_next = is.words o ∙ put_here lawful.core.word o w

  new_noted : IsNoted next o w
  new_noted = subst (IsNoted next o) word_next (present_noted p cap next sound_next o lt)

  knows_next : Knows p cap next (length s.views) i u
  knows_next =
      knows_more {v = v} {xs = left o w ∷ []} (grown s lawful i v u at e may) (lawful.hands i v at) is.more is.claim
      (λ t inside. subst (λ (x : Item). IsNoted next x.op x.word) (one_inside (left o w) t inside) new_noted) (is.records new_noted)
      (λ x inside. absurd (not_inside x (subst (λ ds. Contains ds x) is.learned inside)))

  pub left_steps : Steps p cap counters s lawful (with_view (set s.words o (packed w)) s i u) e
  left_steps =
      advanced s lawful i v u at e may is.advances (set s.words o (packed w)) (shows_word s.words lawful.shows o lt w is.words is.recorded is.decided)
      (numbers_put s.words o (packed w) (op_below s.words lawful.shows o lt) lawful.numbers) knows_next
      (λ single first. present_more lawful.core next v u (left o w) is.more.trail word_next (λ q other. is.words q ∙ put_else lawful.core.word o w q other) (lawful.alone single v (root_before s lawful i v u at first)))

  pub left_so : Leaves v u (left o w)
  left_so = record {
    told = told (with_view (set s.words o (packed w)) s i u) left_steps.next i u (view_here s.views i v u at);
    steady = subst (λ t. IsSteadyAt t v.notes (left o w)) is.more.tag
        (steady_at (with_view (set s.words o (packed w)) s i u) left_steps.next i u (view_here s.views i v u at) v.notes
        (λ n inside. subst (λ ts. Contains ts n) (sym is.more.notes) (Contains-append_left v.notes (left o w ∷ []) n inside)) (left o w)
        (ap (λ (c : Core). c.word o) left_steps.core_is ∙ word_next) (λ own. absurd (false≢true (sym own))));
  }

-- ---- an exchange: it is such a step where it finds the word that it expects, and else a load

module _ {p : Plan} {cap counters : ℕ} (s : Seats) (lawful : Lawful p cap counters s) (i : ℕ) (v u : View) (me : Sat) (at : get_elem? s.views i ≡ some (Some v))
    (o : ℕ) (lt : o < op_count p) (first w : OpWord) (is_word : IsWord first)
    (made : lawful.core.word o ≡ first → Lawful p cap counters (with_view (set s.words o (packed w)) s i u) × Leaves v u (left o w)) where
  abbrev found : ℕ
  found = slice_index s.words o

  found_is : found ≡ packed (lawful.core.word o)
  found_is = lawful.shows.ops o lt

  abbrev Done : Bool → Type 0
  Done b = (x : View) × Lawful p cap counters (with_view (set s.words o (either b (packed w) found)) s i x) × Swaps o found (packed first) v u w me (Some x, me.1)

  pub swapped : Done (found == packed first)
  swapped =
      elim (cases_Bool (found == packed first)) [
        | inl found_it ↦
            let same : found ≡ packed first = eqb-true found (packed first) found_it in
            let word : lawful.core.word o ≡ first = one_word (lawful.core.word o) first (lawful.sound.each_op o lt).range.word is_word (sym found_is ∙ same) in
            let done = made word in
            subst Done (sym found_it) (u, done.0, inl (same, refl, done.1))
        | inr missed ↦
            let other : found ≢ packed first = eqb-false found (packed first) missed in
            subst Done (sym missed)
            (looked o (lawful.core.word o) v, looked_keeps s lawful i v at o o lt, inr (other, lawful.core.word o, refl, looks_so s lawful i v at o lt))
      ]
