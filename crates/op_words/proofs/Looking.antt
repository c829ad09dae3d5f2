-- The value of a source is loaded, and the sources are, up to the first that is not settled.
use Rattle.std.proofs.Common.{◌≡◌, ◌≢◌, ◌⊎◌, ℕ, ◌+◌, ◌<◌, ◌≤◌, Bool, true, false, [], ◌∷◌, ◌++◌, refl, sym, ap, ◌∙◌, subst, inl, inr, arith, Some, None}
use Rattle.std.specs.Prelude.{Ok, Err, Result}
use Rattle.std.proofs.lemmas.Bool.{cases_lt, false≢true}
use Rattle.std.proofs.lemmas.List.Elements.{Contains-append_left, Contains-append_right}
use Rattle.morph_base.specs.declared.limits.TheConstants.{MAX}
use Rattle.morph_base.specs.declared.plan.Plan.{Plan}
use Rattle.morph_base.specs.declared.plan.Origin.{Origin}
use Rattle.morph_base.specs.declared.plan.Origin.TheVariants.{Base, Op as Written}
use Rattle.morph_base.specs.Clean.{from}
use Rattle.morph_base.specs.declared.word.OpWord.{OpWord}
use Rattle.morph_base.specs.Plans.{origin_at, final}
use Rattle.morph_base.specs.Words.{is_idle, is_settled}
use Rattle.interleaving_core.specs.Core.{places}
use Rattle.op_words.specs.declared.answers.Stop.{Stop}
use Rattle.op_words.specs.declared.board.Board.{Board}
use Rattle.op_words.specs.declared.board.Hand.{Hand}
use Rattle.op_words.specs.declared.trail.Item.{Item}
use Rattle.op_words.specs.Trails.{loaded, OfSources}
use Rattle.op_words.specs.Views.{IsApart, IsSourceSeen}
use Rattle.op_words.specs.Hands.{plan_of, view_of, call_on, IsHandOf}
use Rattle.std.specs.Result.{result_err}
use Rattle.op_words.specs.Stepping.{Looked, SoughtAt}
use Rattle.op_words.specs.Grounds.{IsSourceLoaded, IsLoadedAs, SourceDoes, OpenDoes, IsSettledUpToPlace}
use Rattle.op_words.proofs.Rows.{not_inside, one_inside}
use Rattle.op_words.proofs.Seeking.{row_none, row_then, row_look}

-- ---- one source

module _ (b : Board) (p : Plan) (o j : ℕ) (needed : Bool) where
  pub source_base : (h : Hand) (x : ℕ) → IsHandOf b h → origin_at p o j ≡ Base x → x ≤ MAX → SourceDoes (call_on b h h) p o j needed (Ok x)
  source_base h x is base small = record {
    words = [];
    row = row_none b o h is;
    sources = λ t inside. absurd (not_inside t inside);
    tells = record {
      fold = λ asked. sym (ap (from (final p)) base);
      read = subst (λ (q : Origin). IsSourceLoaded [] needed q x) (sym base) refl;
      known = λ y seen. sym (subst (λ (q : Origin). IsSourceSeen (view_of h) q y) base seen);
      small = small;
    };
  }

  module _ (h g : Hand) (s : ℕ) (w : OpWord) (hand : IsHandOf b h) (plan : p ≡ plan_of b) (lt : j < places p o) (other : s ≢ o) (apart : IsApart (view_of h) s) (is : origin_at p o j ≡ Written s) (did : Looked (call_on b h g) s w) where
    of_source : OfSources p o (loaded s w ∷ [])
    of_source t inside = record { place = j; in_places = lt; source_is = is ∙ ap (λ (x : Item). Written x.op) (one_inside (loaded s w) t inside) }

    pub source_ready : is_idle w.state ≡ false → (needed ≡ true → is_settled w.state ≡ true) → SourceDoes (call_on b h g) p o j needed (Ok w.value)
    source_ready shown settled = record {
      words = loaded s w ∷ [];
      row = row_look b o s other apart did;
      sources = of_source;
      tells = record {
        fold = λ asked. did.tells.sight.settled (settled asked) ∙ ap (λ (q : Plan). final q s) (hand.plan ∙ sym plan) ∙ sym (ap (from (final p)) is);
        read = subst (λ (q : Origin). IsSourceLoaded (loaded s w ∷ []) needed q w.value) (sym is)
            (record { word = w; inside = (0, omega arith, refl); shown = shown; settled = settled; value_is = refl });
        known = λ y seen.
            let known = subst (λ (q : Origin). IsSourceSeen (view_of h) q y) is seen in
            sym known.value_is ∙ sym (ap (λ (z : OpWord). z.value) (did.tells.fresh.settled known.seen.note known.seen.inside known.seen.op_is known.seen.settled));
        small = did.tells.is_word.small;
      };
    }

    pub source_unready : (is_settled w.state ≡ false) × ((is_idle w.state ≡ true) ⊎ (needed ≡ true)) → SourceDoes (call_on b h g) p o j needed (Err (record { source = s; word = w }))
    source_unready not = record {
      words = loaded s w ∷ [];
      row = row_look b o s other apart did;
      sources = of_source;
      tells = record { source_is = is; unready = record { inside = (0, omega arith, refl); settled = not.0; cause = not.1 } };
    }

-- ---- place by place

module _ (b : Board) (p : Plan) (o : ℕ) where
  pub open_none : (h : Hand) → IsHandOf b h → OpenDoes (call_on b h h) p o false None
  open_none h is = record { words = []; row = row_none b o h is; tells = λ asked. absurd (false≢true asked) }

  pub settled_none : (h : Hand) → IsHandOf b h → IsSettledUpToPlace (call_on b h h) p o 0
  settled_none h is = record { words = []; row = row_none b o h is; settled = λ k lt. absurd (omega (arith, lt)) }

  pub settled_more : {h g k : Hand} {x : ℕ} (j : ℕ) → IsSettledUpToPlace (call_on b h g) p o j → SourceDoes (call_on b g k) p o j true (Ok x) → IsSettledUpToPlace (call_on b h k) p o (j + 1)
  settled_more {h} {g} {k} {x} j far here = record {
    words = far.words ++ here.words;
    row = row_then b o far.row here.row;
    settled = λ n lt s is.
        elim (cases_lt n j) [
          | inl before ↦ let r = far.settled n before s is in (r.0, Contains-append_left far.words here.words (loaded s r.0) r.1, r.2)
          | inr after ↦
              let same : n ≡ j = omega (arith, lt, after) in
              let read : IsLoadedAs here.words true s x = subst (λ (q : Origin). IsSourceLoaded here.words true q x) (sym (ap (origin_at p o) same) ∙ is) here.tells.read in
              (read.word, Contains-append_right far.words here.words (loaded s read.word) read.inside, read.settled refl)
        ];
  }

  pub settled_stop : {h g k : Hand} {stop : Stop} (j : ℕ) → j < places p o → IsSettledUpToPlace (call_on b h g) p o j → SourceDoes (call_on b g k) p o j true (Err stop) → OpenDoes (call_on b h k) p o true (Some stop)
  settled_stop {h} {g} {k} {stop} j lt far here = record {
    words = far.words ++ here.words;
    row = row_then b o far.row here.row;
    tells = record {
      asked = refl;
      source = record { place = j; in_places = lt; source_is = here.tells.source_is };
      inside = Contains-append_right far.words here.words (loaded stop.source stop.word) here.tells.unready.inside;
      settled = here.tells.unready.settled;
    };
  }

  pub settled_all : {h g : Hand} → IsSettledUpToPlace (call_on b h g) p o (places p o) → OpenDoes (call_on b h g) p o true None
  settled_all far = record { words = far.words; row = far.row; tells = λ asked s source. far.settled source.place source.in_places s source.source_is }

-- ---- up to the first that has no value

-- one place, of which a value is enough
pub sought_as : (b : Board) (p : Plan) (o j : ℕ) (h g : Hand) (r : Result ℕ Stop) → SourceDoes (call_on b h g) p o j false r → SoughtAt (call_on b h g) p o j (result_err r)
sought_as b p o j h g (Ok x) did = record { words = did.words; row = did.row; tells = λ s is. let read : IsLoadedAs did.words false s x = subst (λ (q : Origin). IsSourceLoaded did.words false q x) is did.tells.read in (read.word, read.inside, read.shown) }
sought_as b p o j h g (Err stop) did = record {
  words = did.words;
  row = did.row;
  tells = record {
    source_is = did.tells.source_is;
    inside = did.tells.unready.inside;
    idle = elim did.tells.unready.cause [ inl idle ↦ idle | inr asked ↦ absurd (false≢true asked) ];
  };
}
