-- An operation's records are compared with its settled sources.
use Rattle.std.proofs.Common.{◌≡◌, ◌≢◌, ℕ, ◌+◌, ◌<◌, true, List, [], ◌++◌, refl, sym, ◌∙◌, subst, inl, inr, arith, Result, Ok, Err}
use Rattle.std.specs.Prelude.{Contains}
use Rattle.std.proofs.lemmas.Bool.{cases_lt}
use Rattle.std.proofs.lemmas.List.Elements.{Contains-append_left, Contains-append_right, Contains-append_cases}
use Rattle.morph_base.specs.declared.plan.Plan.{Plan}
use Rattle.morph_base.specs.declared.plan.Origin.{Origin}
use Rattle.morph_base.specs.declared.plan.Origin.TheVariants.{Base, Op as Written}
use Rattle.morph_base.specs.declared.word.OpWord.{OpWord}
use Rattle.morph_base.specs.Clean.{source}
use Rattle.morph_base.specs.Plans.{origin_at, final}
use Rattle.interleaving_core.specs.Core.{places}
use Rattle.op_words.specs.declared.answers.Compared.{Compared}
use Rattle.op_words.specs.declared.answers.Compared.TheVariants.{Equal, Open, Differs}
use Rattle.op_words.specs.declared.answers.Stop.{Stop}
use Rattle.op_words.specs.declared.board.Board.{Board}
use Rattle.op_words.specs.declared.board.Hand.{Hand}
use Rattle.op_words.specs.declared.trail.Item.{Item}
use Rattle.op_words.specs.declared.trail.View.{View}
use Rattle.op_words.specs.Trails.{loaded, OfSources}
use Rattle.op_words.specs.Views.{IsSourceSeen, IsRecordSeen, Adds}
use Rattle.op_words.specs.Calls.{IsSettledRead}
use Rattle.op_words.specs.Hands.{view_of, call_on, IsHandOf}
use Rattle.op_words.specs.Stepping.{Recalled, IsRow, IsWalk}
use Rattle.op_words.specs.Grounds.{IsSourceLoaded, SourceDoes}
use Rattle.op_words.specs.Comparing.{IsSourceRight, IsLoadedAt, IsEqualAt, IsNotedLast, PlaceIsCompared, IsComparedAt, IsComparedUpTo, AllTells, IsCompared}
use Rattle.op_words.proofs.Rows.{not_inside}
use Rattle.op_words.proofs.Walking.{walk_none, walk_then, walk_row, walk_recall, walk_last, recalled_seen, recalled_place}

-- ---- what was loaded and seen stays

pub read_left : (xs ys : List Item) (q : Origin) (x : ℕ) → IsSettledRead xs q x → IsSettledRead (xs ++ ys) q x
read_left xs ys (Base b) x is = is
read_left xs ys (Written s) x is = (is.0, Contains-append_left xs ys (loaded s is.0) is.1, is.2, is.3)

pub read_right : (xs ys : List Item) (q : Origin) (x : ℕ) → IsSettledRead ys q x → IsSettledRead (xs ++ ys) q x
read_right xs ys (Base b) x is = is
read_right xs ys (Written s) x is = (is.0, Contains-append_right xs ys (loaded s is.0) is.1, is.2, is.3)

module _ {v u : View} {xs : List Item} (adds : Adds v u xs) where
  pub noted_more : (t : Item) → Contains v.notes t → Contains u.notes t
  noted_more t inside = subst (λ ts. Contains ts t) (sym adds.notes) (Contains-append_left v.notes xs t inside)

  pub seen_more : (q : Origin) (x : ℕ) → IsSourceSeen v q x → IsSourceSeen u q x
  seen_more (Base b) x is = is
  seen_more (Written s) x is = record {
    seen = record { note = is.seen.note; inside = noted_more is.seen.note is.seen.inside; op_is = is.seen.op_is; settled = is.seen.settled };
    value_is = is.value_is;
  }

  pub equal_more : (p : Plan) (o : ℕ) (w : OpWord) (j : ℕ) → IsEqualAt p o w v j → IsEqualAt p o w u j
  equal_more p o w j is = record { seen = seen_more (origin_at p o j) (source p (final p) o j) is.seen; recorded = adds.records _ is.recorded }

-- what was loaded settled was seen so
pub loaded_seen : (b : Board) (o : ℕ) (h g : Hand) (row : List Item) → IsRow (call_on b h g) o row → (q : Origin) (x : ℕ) → IsSourceLoaded row true q x → IsSourceSeen (view_of g) q x
loaded_seen b o h g row did (Base v) x is = is
loaded_seen b o h g row did (Written s) x is = record {
  seen = record {
    note = loaded s is.word;
    inside = subst (λ ts. Contains ts (loaded s is.word)) (sym did.adds.notes) (Contains-append_right (view_of h).notes row (loaded s is.word) is.inside);
    op_is = refl;
    settled = is.settled refl;
  };
  value_is = is.value_is;
}

pub sources_then : (p : Plan) (o : ℕ) (xs ys : List Item) → OfSources p o xs → OfSources p o ys → OfSources p o (xs ++ ys)
sources_then p o xs ys first second t inside =
    elim (Contains-append_cases xs ys t inside) [
      | inl here ↦ first t here
      | inr later ↦ second t later
    ]

sources_none : (p : Plan) (o : ℕ) → OfSources p o []
sources_none p o t inside = absurd (not_inside t inside)

-- ---- one place

module _ (b : Board) (p : Plan) (o j : ℕ) where
  -- its source was loaded, and has to be settled
  pub loaded_as : (h g : Hand) (r : Result ℕ Stop) → SourceDoes (call_on b h g) p o j true r → IsLoadedAt (call_on b h g) p o j r
  loaded_as h g (Ok x) did = record {
    words = did.words;
    walk = walk_row b o did.row;
    sources = did.sources;
    tells = record { read = right_read (origin_at p o j) did.tells.read; seen = loaded_seen b o h g did.words did.row (origin_at p o j) x did.tells.read; fold = did.tells.fold refl };
  }
    where
      right_read : (q : Origin) → IsSourceLoaded did.words true q x → IsSettledRead did.words q x
      right_read (Base v) is = is
      right_read (Written s) is = (is.word, is.inside, is.settled refl, is.value_is)
  loaded_as h g (Err stop) did = record {
    words = did.words;
    walk = walk_row b o did.row;
    sources = did.sources;
    tells = record { source_is = did.tells.source_is; inside = did.tells.unready.inside; settled = did.tells.unready.settled };
  }

  -- then its record was loaded
  module _ (h g k : Hand) (y x : ℕ) (did : Recalled (call_on b g k) o j y) where
    pub stopped_here : (stop : Stop) → IsLoadedAt (call_on b h g) p o j (Err stop) → IsComparedAt (call_on b h g) p o j (Open stop)
    stopped_here stop at = record { words = at.words; walk = at.walk; sources = at.sources; tells = λ w last. at.tells }

    module _ (lt : j < places p o) (at : IsLoadedAt (call_on b h g) p o j (Ok x)) where
      walked : IsWalk (call_on b h k) o (at.words ++ [])
      walked = walk_then b o at.walk (walk_recall b o at.walk.hand did)

      recorded : (w : OpWord) → IsNotedLast o (view_of h) w → IsRecordSeen (view_of k) o j w y
      recorded w last = recalled_seen b o j g k y w (walk_last b o _ w at.walk last) did

      right : IsSourceRight p o j (at.words ++ []) (view_of k) x
      right = record {
        read = read_left at.words [] (origin_at p o j) x at.tells.read;
        seen = seen_more (walk_recall b o at.walk.hand did).adds (origin_at p o j) x at.tells.seen;
        fold = at.tells.fold;
      }

      pub compared_here : (r : Compared) → ((w : OpWord) → IsNotedLast o (view_of h) w → PlaceIsCompared p o w j (at.words ++ []) (view_of k) r) → IsComparedAt (call_on b h k) p o j r
      compared_here r tells = record { words = at.words ++ []; walk = walked; sources = sources_then p o at.words [] at.sources (sources_none p o); tells = tells }

      pub equal_here : y ≡ x → IsComparedAt (call_on b h k) p o j Equal
      equal_here same =
          compared_here Equal
          (λ w last. record {
            seen = subst (IsSourceSeen (view_of k) (origin_at p o j)) right.fold right.seen;
            recorded = subst (IsRecordSeen (view_of k) o j w) (same ∙ right.fold) (recorded w last);
          })

      pub differs_here : y ≢ x → IsComparedAt (call_on b h k) p o j (Differs j y x)
      differs_here other = compared_here (Differs j y x) (λ w last. record { in_places = lt; right = right; recorded = recorded w last; differs = other; noted = recalled_place b o j g k y did })

-- ---- place by place

module _ (b : Board) (p : Plan) (o : ℕ) where
  pub compare_none : (h : Hand) → IsHandOf b h → IsComparedUpTo (call_on b h h) p o 0
  compare_none h is = record { words = []; walk = walk_none b o h is; sources = sources_none p o; equal = λ w last k lt. absurd (omega (arith, lt)) }

  module _ {h g : Hand} (j : ℕ) (far : IsComparedUpTo (call_on b h g) p o j) where
    noted : (w : OpWord) → IsNotedLast o (view_of h) w → IsNotedLast o (view_of g) w
    noted w last = walk_last b o _ w far.walk last

    pub compare_more : {k : Hand} → IsComparedAt (call_on b g k) p o j Equal → IsComparedUpTo (call_on b h k) p o (j + 1)
    compare_more {k} here = record {
      words = far.words ++ here.words;
      walk = walk_then b o far.walk here.walk;
      sources = sources_then p o far.words here.words far.sources here.sources;
      equal = λ w last n lt.
          elim (cases_lt n j) [
            | inl before ↦ equal_more here.walk.adds p o w n (far.equal w last n before)
            | inr after ↦ let same : j ≡ n = omega (arith, lt, after) in subst (IsEqualAt p o w (view_of k)) same (here.tells w (noted w last))
          ];
    }

    pub compare_stop : {k : Hand} → j < places p o → (r : Compared) → r ≢ Equal → IsComparedAt (call_on b g k) p o j r → IsCompared (call_on b h k) p o r
    compare_stop {k} lt r other here = record {
      words = far.words ++ here.words;
      walk = walk_then b o far.walk here.walk;
      sources = sources_then p o far.words here.words far.sources here.sources;
      tells = λ w last. by_result w r other (here.tells w (noted w last));
    }
      where
        by_result : (w : OpWord) (x : Compared) → x ≢ Equal → PlaceIsCompared p o w j here.words (view_of k) x → AllTells p o w (far.words ++ here.words) (view_of k) x
        by_result w Equal not is = absurd (not refl)
        by_result w (Open stop) not is = record {
          source = record { place = j; in_places = lt; source_is = is.source_is };
          inside = Contains-append_right far.words here.words (loaded stop.source stop.word) is.inside;
          settled = is.settled;
        }
        by_result w (Differs n kept value) not is = record {
          in_places = is.in_places;
          right = record { read = read_right far.words here.words (origin_at p o n) value is.right.read; seen = is.right.seen; fold = is.right.fold };
          recorded = is.recorded;
          differs = is.differs;
          noted = is.noted;
        }

  pub compare_all : {h g : Hand} → IsComparedUpTo (call_on b h g) p o (places p o) → IsCompared (call_on b h g) p o Equal
  compare_all far = record { words = far.words; walk = far.walk; sources = far.sources; tells = far.equal }
