-- A load keeps the rule.
use Rattle.std.proofs.Common.{◌≡◌, ◌≢◌, ℕ, ◌<◌, List, [], ◌∷◌, ◌++◌, length, get_or, set, refl, sym, ap, ◌∙◌, subst, inl, inr, Option, Some}
use Rattle.std.specs.Prelude.{slice_index}
use Rattle.std.proofs.lemmas.Bool.{cases_eq}
use Rattle.std.proofs.lemmas.Option.{same_Some}
use mathlib.Core.Option.{some, none}
use lib.ListN.{get_elem?}
use Rattle.atomic_table.specs.Table.{step, keeps, Allows}
use Rattle.atomic_table.proofs.Lists.{set_here}
use Rattle.morph_base.specs.declared.plan.Plan.{Plan}
use Rattle.morph_base.specs.declared.word.OpWord.{OpWord}
use Rattle.morph_base.specs.Plans.{op_count}
use Rattle.interleaving_core.specs.Core.{Core, blocked}
use Rattle.interleaving_core.specs.Sightings.{IsNoted}
use Rattle.interleaving_core.proofs.Sighting.{present_noted}
use Rattle.op_words.specs.declared.trail.Item.{Item}
use Rattle.op_words.specs.declared.trail.View.{View}
use Rattle.op_words.specs.Trails.{loaded, last_word}
use Rattle.op_words.specs.Views.{IsLone, IsPresent, looked}
use Rattle.op_words.specs.Rule.{Seats, taken, Knows, Lawful, Stays}
use Rattle.op_words.specs.Plays.{Sat, IsTold, Looks, looks, tells}
use Rattle.op_words.proofs.Trailing.{last-none, last-append, last-one, last-skip}
use Rattle.op_words.proofs.Rows.{set_same, one_inside, not_inside, here_long}
use Rattle.op_words.proofs.Knowing.{same_grows, words_more, knows_more}
use Rattle.op_words.proofs.Moving.{with_view, moved, sum_kept, root_before}
use Rattle.op_words.proofs.Sighting.{sight_at}
use Rattle.op_words.proofs.Taking.{none_joined}
use Rattle.op_words.proofs.Telling.{told, fresh_at, steady_at, claimed_other, calm_at}

-- the last words of a trail with one item more are the present ones, where they were but for this item's operation
pub present_more : {p : Plan} (c d : Core) (v u : View) (t : Item) → u.trail ≡ v.trail ++ t ∷ [] → d.word t.op ≡ t.word → ((q : ℕ) → q ≢ t.op → d.word q ≡ c.word q) → IsPresent p c v → IsPresent p d u
present_more {p} c d v u t trail here other present = record {
  each = λ q below.
      elim (cases_eq t.op q) [
        | inl same ↦ ap d.word (sym same) ∙ here ∙ sym (ap (last_word q (blocked 1)) trail ∙ last-append q (blocked 1) v.trail (t ∷ []) ∙ last-one q (last_word q (blocked 1) v.trail) t same)
        | inr apart ↦ other q (λ e. apart (sym e)) ∙ present.each q below
            ∙ sym (ap (last_word q (blocked 1)) trail ∙ last-append q (blocked 1) v.trail (t ∷ []) ∙ last-skip q (last_word q (blocked 1) v.trail) t [] apart ∙ last-none q (last_word q (blocked 1) v.trail))
      ];
}

-- the view of a seat after a change there
pub view_here : (vs : List (Option View)) (i : ℕ) (v u : View) → get_elem? vs i ≡ some (Some v) → get_elem? (set vs i (Some u)) i ≡ some (Some u)
view_here vs i v u at = set_here vs i (Some u) (here_long vs i (Some v) at)

module _ {p : Plan} {cap counters : ℕ} where
  module _ (s : Seats) (lawful : Lawful p cap counters s) (i : ℕ) (v : View) (at : get_elem? s.views i ≡ some (Some v)) where
    module _ (o : ℕ) (lt : o < op_count p) where
      abbrev pub w : OpWord
      w = lawful.core.word o

      looked_knows : Knows p cap lawful.core (length s.views) i (looked o w v)
      looked_knows =
          knows_more {v = v} {xs = loaded o w ∷ []} same_grows (lawful.hands i v at)
          (words_more (record { plan = refl; cap = refl; tag = refl; made = refl; notes = refl; trail = refl; decisions = refl; settlings = refl; joined = refl; places = refl }))
          (lawful.hands i v at).claim
          (λ t inside. subst (λ (x : Item). IsNoted lawful.core x.op x.word) (one_inside (loaded o w) t inside) (present_noted p cap lawful.core lawful.sound o lt))
          (λ r inside. inl inside) (λ x inside. absurd (not_inside x inside))

      -- the state of the machine stays as it was
      pub looked_stays : Stays p cap counters s lawful (with_view s.words s i (looked o w v))
      looked_stays =
          moved s lawful i v (looked o w v) at s.words (record { tag = refl; published = refl; settlings = refl; events = refl; joined = refl }) lawful.shows
          (record { each = λ k below h. sum_kept s.views i v (looked o w v) at (taken k h) refl ∙ lawful.numbers.each k below h }) looked_knows
          (λ single first. present_more lawful.core lawful.core v (looked o w v) (loaded o w) refl refl (λ q n. refl) (lawful.alone single v (root_before s lawful i v (looked o w v) at first)))

      pub looks_so : Looks o (slice_index s.words o) v w
      looks_so = record {
        is_word = (lawful.sound.each_op o lt).range.word;
        found = lawful.shows.ops o lt;
        fresh = fresh_at s lawful i v at o lt;
        told = told (with_view s.words s i (looked o w v)) looked_stays.next i (looked o w v) (view_here s.views i v (looked o w v) at);
        steady = λ apart. steady_at s lawful i v at v.notes (λ n inside. inside) (loaded o w) refl (λ own. claimed_other s lawful i v at o lt apart);
        calm = calm_at s lawful i v at o lt;
        sight = sight_at s lawful i v at o lt;
      }

    pub same_stays : Stays p cap counters s lawful (with_view s.words s i v)
    same_stays =
        moved s lawful i v v at s.words (record { tag = refl; published = refl; settlings = refl; events = refl; joined = refl }) lawful.shows
        (record { each = λ k below h. sum_kept s.views i v v at (taken k h) refl ∙ lawful.numbers.each k below h }) (lawful.hands i v at)
        (λ single first. lawful.alone single v (root_before s lawful i v v at first))

    -- a word that is stored as it was found
    unchanged : (u : View) (k : ℕ) → Lawful p cap counters (with_view s.words s i u) → Lawful p cap counters (with_view (set s.words k (get_or s.words k 0)) s i u)
    unchanged u k holds = subst (λ ws. Lawful p cap counters (with_view ws s i u)) (sym (set_same s.words k)) holds

    pub looked_keeps : (o k : ℕ) → o < op_count p → Lawful p cap counters (with_view (set s.words k (get_or s.words k 0)) s i (looked o (lawful.core.word o) v))
    looked_keeps o k lt = unchanged (looked o (lawful.core.word o) v) k (looked_stays o lt).next

    pub told_keeps : (k : ℕ) → Lawful p cap counters (with_view (set s.words k (get_or s.words k 0)) s i v)
    told_keeps k = unchanged v k same_stays.next

  module _ (slots id : ℕ) (me : Sat) (v : View) (is : me.0 ≡ Some v) where
    pub allows_look : (o : ℕ) → o < op_count p → Allows (Lawful p cap counters) slots id me o (λ n. n) (looks (step slots o 0 0 none) me)
    allows_look o lt s lawful homes at small =
        let there : get_elem? s.views id ≡ some (Some v) = at ∙ ap some is in (
          Some (looked o (lawful.core.word o) v),
          keeps,
          tt,
          looked_keeps s lawful id v there o o lt,
          λ x same.
              let e : v ≡ x = same_Some v x (sym is ∙ same) in
              (lawful.core.word o, subst (λ y. Looks o (slice_index s.words o) y (lawful.core.word o)) e (looks_so s lawful id v there o lt), ap (λ (y : View). (Some (looked o (lawful.core.word o) y), me.1)) e),
        )

    -- a load that is not noted
    pub allows_tell : (k : ℕ) → Allows (Lawful p cap counters) slots id me k (λ n. n) (tells (step slots k 0 0 none) me)
    allows_tell k s lawful homes at small =
        let there : get_elem? s.views id ≡ some (Some v) = at ∙ ap some is in (
          Some v,
          keeps,
          tt,
          told_keeps s lawful id v there k,
          λ x same.
              let e : v ≡ x = same_Some v x (sym is ∙ same) in
              let t = subst (λ (y : View). IsTold y × (IsLone y → y.joined ≡ [])) e (told s lawful id v there, none_joined s lawful id v there) in
              (ap (λ (y : Option View). (y, me.1)) (sym is), t.0, t.1),
        )
