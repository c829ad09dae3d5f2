-- The sources of an operation are loaded, place by place.
use Rattle.std.proofs.Common.{◌≡◌, ◌≢◌, ℕ, ◌+◌, ◌<◌, List, [], ◌∷◌, ◌++◌, sym, ap, ◌∙◌, subst, inl, inr, arith, append_assoc, Some, None}
use Rattle.std.proofs.lemmas.Bool.{cases_lt}
use Rattle.std.proofs.lemmas.List.Elements.{Contains-append_left, Contains-append_right, Contains-append_cases}
use Rattle.morph_base.specs.declared.plan.Plan.{Plan}
use Rattle.morph_base.specs.declared.plan.Origin.TheVariants.{Op as Written}
use Rattle.morph_base.specs.declared.word.OpWord.{OpWord}
use Rattle.morph_base.specs.Plans.{IsPlan, op_count, origin_at}
use Rattle.morph_base.proofs.OutcomeLaws.{source_precedes}
use Rattle.interleaving_core.specs.Core.{places}
use Rattle.op_words.specs.declared.answers.Stop.{Stop}
use Rattle.op_words.specs.declared.board.Board.{Board}
use Rattle.op_words.specs.declared.board.Hand.{Hand}
use Rattle.op_words.specs.declared.trail.Item.{Item}
use Rattle.op_words.specs.declared.trail.View.{View}
use Rattle.op_words.specs.Trails.{loaded}
use Rattle.op_words.specs.Views.{IsApart, Adds, looking}
use Rattle.op_words.specs.Calls.{Elsewhere}
use Rattle.op_words.specs.Hands.{view_of, call_on, IsHandOf}
use Rattle.op_words.specs.Stepping.{Looked, IsRow, SoughtAt, Sought, IsSoughtUpTo}
use Rattle.op_words.proofs.Rows.{no_more, not_inside, one_inside}
use Rattle.op_words.proofs.Adding.{adds_none, adds_then, adds_look}

-- ---- words more

pub looking-none : (v : View) → v ≡ looking [] v
looking-none v = λ i. record v { notes = no_more v.notes i; trail = no_more v.trail i }

pub looking-then : (v : View) (xs ys : List Item) → looking ys (looking xs v) ≡ looking (xs ++ ys) v
looking-then v xs ys = λ i. record v { notes = append_assoc v.notes xs ys i; trail = append_assoc v.trail xs ys i }

pub elsewhere_then : (o : ℕ) (xs ys : List Item) → Elsewhere o xs → Elsewhere o ys → Elsewhere o (xs ++ ys)
elsewhere_then o xs ys first second t inside =
    elim (Contains-append_cases xs ys t inside) [
      | inl here ↦ first t here
      | inr later ↦ second t later
    ]

-- ---- rows of loads

module _ (b : Board) (o : ℕ) where
  pub row_none : (h : Hand) → IsHandOf b h → IsRow (call_on b h h) o []
  row_none h is = record { hand = is; adds = adds_none (view_of h) is.told.agree; view = looking-none (view_of h); elsewhere = λ t inside. absurd (not_inside t inside) }

  pub row_then : {h g k : Hand} {xs ys : List Item} → IsRow (call_on b h g) o xs → IsRow (call_on b g k) o ys → IsRow (call_on b h k) o (xs ++ ys)
  row_then {h} {g} {k} {xs} {ys} first second = record {
    hand = second.hand;
    adds = adds_then first.adds second.adds;
    view = second.view ∙ ap (looking ys) first.view ∙ looking-then (view_of h) xs ys;
    elsewhere = elsewhere_then o xs ys first.elsewhere second.elsewhere;
  }

  -- one load
  pub row_look : {h g : Hand} {w : OpWord} (s : ℕ) → s ≢ o → IsApart (view_of h) s → Looked (call_on b h g) s w → IsRow (call_on b h g) o (loaded s w ∷ [])
  row_look {h} {g} {w} s other apart did = record {
    hand = did.hand;
    adds = subst (λ (u : View). Adds (view_of h) u (loaded s w ∷ [])) (sym did.view) (adds_look s _ (view_of h) w apart did.tells);
    view = did.view;
    elsewhere = λ t inside. let is = one_inside (loaded s w) t inside in (sym (ap (λ (x : Item). x.own) is), λ same. other (ap (λ (x : Item). x.op) is ∙ same));
  }

  pub row_claim : {h g : Hand} {xs : List Item} → IsRow (call_on b h g) o xs → (view_of g).claim ≡ (view_of h).claim
  row_claim row = ap (λ (v : View). v.claim) row.view

-- a source is another operation, before it
pub source_other : (p : Plan) (o j s : ℕ) → IsPlan p → o < op_count p → j < places p o → origin_at p o j ≡ Written s → (s < op_count p) × (s ≢ o)
source_other p o j s valid lt below is =
    let before = source_precedes p o j s valid lt below is in let lower = before.number_before in (before.in_range, λ same. omega (arith, lower, same))

-- ---- place by place

module _ (b : Board) (p : Plan) (o : ℕ) where
  pub seek_none : (h : Hand) → IsHandOf b h → IsSoughtUpTo (call_on b h h) p o 0
  seek_none h is = record { words = []; row = row_none b o h is; values = λ k lt. absurd (omega (arith, lt)) }

  pub seek_more : {h g k : Hand} (j : ℕ) → IsSoughtUpTo (call_on b h g) p o j → SoughtAt (call_on b g k) p o j None → IsSoughtUpTo (call_on b h k) p o (j + 1)
  seek_more {h} {g} {k} j far here = record {
    words = far.words ++ here.words;
    row = row_then b o far.row here.row;
    values = λ n lt s is.
        elim (cases_lt n j) [
          | inl before ↦ let r = far.values n before s is in (r.0, Contains-append_left far.words here.words (loaded s r.0) r.1, r.2)
          | inr after ↦
              let same : n ≡ j = omega (arith, lt, after) in
              let r = here.tells s (subst (λ m. origin_at p o m ≡ Written s) same is) in
              (r.0, Contains-append_right far.words here.words (loaded s r.0) r.1, r.2)
        ];
  }

  pub seek_stop : {h g k : Hand} {stop : Stop} (j : ℕ) → j < places p o → IsSoughtUpTo (call_on b h g) p o j → SoughtAt (call_on b g k) p o j (Some stop) → Sought (call_on b h k) p o (Some stop)
  seek_stop {h} {g} {k} {stop} j lt far here = record {
    words = far.words ++ here.words;
    row = row_then b o far.row here.row;
    tells =
        (record { place = j; in_places = lt; source_is = here.tells.source_is }, Contains-append_right far.words here.words (loaded stop.source stop.word) here.tells.inside, here.tells.idle);
  }

  pub seek_all : {h g : Hand} → IsSoughtUpTo (call_on b h g) p o (places p o) → Sought (call_on b h g) p o None
  seek_all far = record { words = far.words; row = far.row; tells = λ s source. far.values source.place source.in_places s source.source_is }
