-- What hands know stays true as the state grows, and with words more.
use Rattle.std.proofs.Common.{◌≡◌, ◌⊎◌, ℕ, ◌+◌, ◌*◌, ◌<◌, ◌≤◌, List, [], ◌++◌, length, refl, sym, ap, ◌∙◌, subst, inl, inr, arith, Some}
use Rattle.std.specs.Prelude.{Contains, sum_by}
use Rattle.std.proofs.lemmas.List.Elements.{Contains-append_left, Contains-append_right, Contains-append_cases}
use Rattle.morph_base.specs.declared.plan.Plan.{Plan}
use Rattle.morph_base.specs.Plans.{op_count}
use Rattle.interleaving_core.specs.declared.entry.Settling.{Settling}
use Rattle.interleaving_core.specs.Core.{Core}
use Rattle.interleaving_core.specs.Growth.{Grows}
use Rattle.interleaving_core.specs.Sightings.{IsNoted, IsRecordNoted}
use Rattle.interleaving_core.proofs.Sighting.{noted_grows, record_grows}
use Rattle.op_words.specs.declared.trail.DecisionSeen.{DecisionSeen}
use Rattle.op_words.specs.declared.trail.Item.{Item}
use Rattle.op_words.specs.declared.trail.Joined.{Joined}
use Rattle.op_words.specs.declared.trail.Place.{Place}
use Rattle.op_words.specs.declared.trail.RecordSeen.{RecordSeen}
use Rattle.op_words.specs.declared.trail.View.{View}
use Rattle.op_words.specs.Trails.{left}
use Rattle.op_words.specs.Views.{IsBookedInView}
use Rattle.op_words.specs.Evidence.{AreNoted}
use Rattle.op_words.proofs.Rows.{no_more}
use Rattle.op_words.specs.Rule.{Knows, of_counter, of_joined, one, most_taken}

pub same_grows : {p : Plan} {c : Core} → Grows p c c
same_grows = record {
  attempts = λ o. omega arith;
  settled = λ o is. refl;
  entries = λ e inside. inside;
  records = λ o j e lt inside op at. refl;
  decisions = λ i d is. is;
  settlings = λ x inside. inside;
}

pub are_noted_grows : {p : Plan} {c d : Core} {v : View} → Grows p c d → AreNoted p c v → AreNoted p d v
are_noted_grows {p} {c} {d} {v} grows is = record {
  notes = λ n inside. noted_grows p c d grows (is.notes n inside);
  records = λ r inside. record_grows p c d grows (is.in_plan r inside) (is.records r inside);
  in_plan = is.in_plan;
  decisions = λ x inside. grows.decisions x.event x.committed (is.decisions x inside);
}

-- a hand that does nothing
pub knows_grows : {p : Plan} {cap n j : ℕ} {c d : Core} {x : View} → Grows p c d → d.claim (j + 1) ≡ c.claim (j + 1) → Knows p cap c n j x → Knows p cap d n j x
knows_grows {p} {cap} {n} {j} {c} {d} {x} grows claim k = record {
  plan = k.plan;
  cap_is = k.cap_is;
  tag = k.tag;
  root = k.root;
  other = k.other;
  claim = claim ∙ k.claim;
  noted = are_noted_grows grows k.noted;
  trail = record { each = k.trail.each };
  booked = k.booked;
  few = k.few;
  few_joined = k.few_joined;
}

-- the view u has the words xs more than v, and otherwise only other claims, entries, records and steps
pub record HasWords (v u : View) (xs : List Item) : Type 0 where
  pub plan : u.plan ≡ v.plan
  pub cap : u.cap ≡ v.cap
  pub tag : u.tag ≡ v.tag
  pub made : u.made ≡ v.made
  pub notes : u.notes ≡ v.notes ++ xs
  pub trail : u.trail ≡ v.trail ++ xs
  pub decisions : u.decisions ≡ v.decisions
  pub settlings : u.settlings ≡ v.settlings
  pub joined : u.joined ≡ v.joined
  pub places : u.places ≡ v.places

-- perhaps other decisions too, and settlings that stand in its trail
pub record HasMore (v u : View) (xs : List Item) : Type 0 where
  pub plan : u.plan ≡ v.plan
  pub cap : u.cap ≡ v.cap
  pub tag : u.tag ≡ v.tag
  pub made : u.made ≡ v.made
  pub notes : u.notes ≡ v.notes ++ xs
  pub trail : u.trail ≡ v.trail ++ xs
  pub learned : List DecisionSeen
  pub decisions : u.decisions ≡ v.decisions ++ learned
  pub settlings : (x : Settling) → Contains u.settlings x → Contains v.settlings x ⊎ IsBookedInView u x
  pub joined : u.joined ≡ v.joined
  pub places : u.places ≡ v.places

abbrev pub words_more : {v u : View} {xs : List Item} → HasWords v u xs → HasMore v u xs
words_more {v} {u} {xs} is = record {
  plan = is.plan;
  cap = is.cap;
  tag = is.tag;
  made = is.made;
  notes = is.notes;
  trail = is.trail;
  learned = [];
  decisions = is.decisions ∙ no_more v.decisions;
  settlings = λ x inside. inl (subst (λ l. Contains l x) is.settlings inside);
  joined = is.joined;
  places = is.places;
}

booked_more : {v u : View} {xs : List Item} → HasMore v u xs → (x : Settling) → IsBookedInView v x → IsBookedInView u x
booked_more {v} {u} {xs} more x is =
    elim is [
      | inl own ↦ inl (
        more.tag ∙ own.0,
        record {
          word = own.1.word;
          inside = subst (λ ts. Contains ts (left x.op own.1.word)) (sym more.trail) (Contains-append_left v.trail xs (left x.op own.1.word) own.1.inside);
          settled = own.1.settled;
        },
      )
      | inr other ↦ inr (record {
        of_tag = other.of_tag;
        inside = subst (λ ts. Contains ts other.of_tag) (sym more.joined) other.inside;
        tag_is = other.tag_is;
        settled = other.settled;
      })
    ]

-- the hand that makes a step
pub knows_more : {p : Plan} {cap n i : ℕ} {c d : Core} {v u : View} {xs : List Item} → Grows p c d → Knows p cap c n i v → (more : HasMore v u xs) → d.claim (i + 1) ≡ u.claim
    → ((t : Item) → Contains xs t → IsNoted d t.op t.word)
    → ((r : RecordSeen) → Contains u.records r → Contains v.records r ⊎ ((r.op < op_count p) × IsRecordNoted d r.op r.place r.value r.word))
    → ((x : DecisionSeen) → Contains more.learned x → d.decision x.event ≡ Some x.committed)
    → Knows p cap d n i u
knows_more {p} {cap} {n} {i} {c} {d} {v} {u} {xs} grows k more claim words records learned = record {
  plan = ap (λ s. s.value) more.plan ∙ k.plan;
  cap_is = more.cap ∙ k.cap_is;
  tag = more.tag ∙ k.tag;
  root = λ e. more.made ∙ k.root e;
  other = λ e. more.joined ∙ k.other e;
  claim = claim;
  noted = record {
    notes = λ t inside.
        elim (Contains-append_cases v.notes xs t (subst (λ ts. Contains ts t) more.notes inside)) [
          | inl old ↦ noted_grows p c d grows (k.noted.notes t old)
          | inr new ↦ words t new
        ];
    records = λ r inside.
        elim (records r inside) [
          | inl old ↦ record_grows p c d grows (k.noted.in_plan r old) (k.noted.records r old)
          | inr new ↦ new.1
        ];
    in_plan = λ r inside.
        elim (records r inside) [
          | inl old ↦ k.noted.in_plan r old
          | inr new ↦ new.0
        ];
    decisions = λ x inside.
        elim (Contains-append_cases v.decisions more.learned x (subst (λ ds. Contains ds x) more.decisions inside)) [
          | inl old ↦ grows.decisions x.event x.committed (k.noted.decisions x old)
          | inr new ↦ learned x new
        ];
  };
  trail = record {
    each = λ t inside. subst (λ ts. Contains ts t) (sym more.notes)
        (elim (Contains-append_cases v.trail xs t (subst (λ ts. Contains ts t) more.trail inside)) [
          | inl old ↦ Contains-append_left v.notes xs t (k.trail.each t old)
          | inr new ↦ Contains-append_right v.notes xs t new
        ]);
  };
  booked = λ x inside.
      elim (more.settlings x inside) [
        | inl old ↦ booked_more more x (k.booked x old)
        | inr new ↦ new
      ];
  few = λ j. subst (λ (l : List Place). sum_by (of_counter j one) l ≤ most_taken) (sym more.places) (k.few j);
  few_joined = λ j. subst (λ (l : List Joined). sum_by (of_joined j one) l ≤ most_taken * length l) (sym more.joined) (k.few_joined j);
}
