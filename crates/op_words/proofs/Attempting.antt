-- What evaluating a blocked operation in one call answers, from what its loads and steps showed.
use Rattle.std.proofs.Common.{◌≡◌, ◌≢◌, ℕ, zero, suc, ◌+◌, ◌<◌, Bool, true, false, List, [], ◌∷◌, ◌++◌, take, length, refl, sym, ap, ◌∙◌, subst, inl, inr, arith, append_assoc, zero-add, Some, None}
use Rattle.std.specs.Prelude.{Contains, Result, Ok, Err, slice_index}
use Rattle.std.proofs.Math.ListN.{get_or-append}
use Rattle.std.proofs.Math.Seq.{get_or-append_seam}
use Rattle.std.proofs.lemmas.Bool.{cases_lt, false≢true}
use Rattle.std.proofs.lemmas.List.{length-take-le, length-append, take_all}
use Rattle.std.proofs.lemmas.List.Elements.{Contains-append_left, Contains-append_right, Contains-append_cases}
use Rattle.morph_base.specs.declared.plan.Plan.{Plan}
use Rattle.morph_base.specs.declared.plan.Origin.{Origin}
use Rattle.morph_base.specs.declared.plan.Origin.TheVariants.{Base, Op as Written}
use Rattle.morph_base.specs.declared.word.OpWord.{OpWord}
use Rattle.morph_base.specs.Words.{is_idle, is_settled}
use Rattle.morph_base.specs.Plans.{origin_at}
use Rattle.interleaving_core.specs.declared.event.CoreEvent.{CoreEvent}
use Rattle.interleaving_core.specs.declared.event.CoreEvent.TheVariants.{Ready as ReadyStep, Claim, Fetch, Finish}
use Rattle.interleaving_core.specs.Core.{blocked, ready, claimed, places}
use Rattle.op_words.specs.declared.answers.Attempt.{Attempt}
use Rattle.op_words.specs.declared.answers.Attempt.TheVariants.{Ran, Busy, Blocked as BlockedOn}
use Rattle.op_words.specs.declared.answers.Outcome.{Outcome}
use Rattle.op_words.specs.declared.answers.Stop.{Stop}
use Rattle.op_words.specs.declared.board.Board.{Board}
use Rattle.op_words.specs.declared.board.Hand.{Hand}
use Rattle.op_words.specs.declared.board.Holding.{Holding}
use Rattle.op_words.specs.declared.trail.Item.{Item}
use Rattle.op_words.specs.declared.trail.View.{View}
use Rattle.op_words.specs.Trails.{loaded, left, IsSourceOf, NoneOwn, OwnOn, OwnOpen, IsSteadyAt, IsCalmAt}
use Rattle.op_words.specs.Views.{Agrees, Adds, Holds, making, claiming, fetching}
use Rattle.op_words.specs.Attempts.{fetches, ran_steps, AttemptTells, AttemptDoes}
use Rattle.op_words.specs.Values.{holding, IsPlaceLoaded, AreLoaded, IsLoadedUpTo, IsAllLoaded, AreUsable, IsKeptUpTo, CarryDoes, TakeUpDoes}
use Rattle.op_words.specs.Calls.{FinishDoes, IsReadValue}
use Rattle.op_words.specs.Hands.{view_of, call_on, fetched_of, HasHeldValues, IsHandOf}
use Rattle.op_words.specs.Kinds.{IsUsable}
use Rattle.op_words.specs.Stepping.{Looked, Left, IsPlaceKept, IsRow}
use Rattle.op_words.specs.Grounds.{IsSourceLoaded, SourceDoes}
use Rattle.op_words.proofs.Rows.{no_more, not_inside, one_inside}
use Rattle.op_words.proofs.Trailing.{along_none}
use Rattle.op_words.proofs.Seeking.{row_none, row_then, row_claim}
use Rattle.op_words.proofs.Adding.{adds_then, adds_look, free_apart, none_one}
use Rattle.op_words.proofs.Making.{adds_leave, adds_claiming, none_elsewhere, own_none, open_none}
use Rattle.op_words.proofs.Judging.{run_unsettled}

-- ---- the steps of fetches

pub fetches-nil : (o tag k : ℕ) (es : List CoreEvent) → fetches o tag k [] es ≡ es
unfolding fetches
fetches-nil o tag k es = refl

-- the last value that was fetched
fetches_last : (o tag k : ℕ) (xs : List ℕ) (x : ℕ) (es : List CoreEvent) → fetches o tag k (xs ++ x ∷ []) es ≡ Fetch o (k + length xs) tag x ∷ fetches o tag k xs es
unfolding fetches
fetches_last o tag k [] x es = ap (λ n. Fetch o n tag x ∷ es) (omega arith)
fetches_last o tag k (y ∷ xs) x es =
    fetches_last o tag (k + 1) xs x (Fetch o k tag y ∷ es)
    ∙ ap (λ n. Fetch o n tag x ∷ fetches o tag (k + 1) xs (Fetch o k tag y ∷ es)) (omega arith)

pub fetches-snoc : (o tag : ℕ) (xs : List ℕ) (x : ℕ) (es : List CoreEvent) → fetches o tag 0 (xs ++ x ∷ []) es ≡ Fetch o (length xs) tag x ∷ fetches o tag 0 xs es
fetches-snoc o tag xs x es = fetches_last o tag 0 xs x es ∙ ap (λ n. Fetch o n tag x ∷ fetches o tag 0 xs es) (zero-add (length xs))

-- fetches go before the steps that were there
fetches_front : (o tag k : ℕ) (xs : List ℕ) (es ds : List CoreEvent) → (fs : List CoreEvent) × (fetches o tag k xs es ≡ fs ++ es) × (fetches o tag k xs ds ≡ fs ++ ds)
unfolding fetches
fetches_front o tag k [] es ds = ([], refl, refl)
fetches_front o tag k (x ∷ xs) es ds =
    let rest = fetches_front o tag (k + 1) xs (Fetch o k tag x ∷ es) (Fetch o k tag x ∷ ds) in
    (rest.0 ++ Fetch o k tag x ∷ [], rest.1 ∙ sym (append_assoc rest.0 (Fetch o k tag x ∷ []) es), rest.2 ∙ sym (append_assoc rest.0 (Fetch o k tag x ∷ []) ds))

-- ---- lists

take_none : (xs : List ℕ) → take 0 xs ≡ []
take_none [] = refl
take_none (x ∷ xs) = refl

take_suc : (xs : List ℕ) (j : ℕ) → j < length xs → take (suc j) xs ≡ take j xs ++ slice_index xs j ∷ []
take_suc [] j lt = absurd (omega (arith, lt))
take_suc (x ∷ xs) zero lt = ap (λ t. x ∷ t) (take_none xs)
take_suc (x ∷ xs) (suc j) lt = ap (λ t. x ∷ t) (take_suc xs j (less j lt))
  where
    less : (n : ℕ) → suc n < suc (length xs) → n < length xs
    less n l = omega (arith, l)

take_next : (xs : List ℕ) (j : ℕ) → j < length xs → take (j + 1) xs ≡ take j xs ++ slice_index xs j ∷ []
take_next xs j lt = ap (λ n. take n xs) (one_more j) ∙ take_suc xs j lt
  where
    one_more : (n : ℕ) → n + 1 ≡ suc n
    one_more n = omega arith

pub index_take : (xs : List ℕ) (n j : ℕ) → j < n → slice_index (take n xs) j ≡ slice_index xs j
index_take [] zero j lt = refl
index_take [] (suc n) j lt = refl
index_take (x ∷ xs) zero j lt = absurd (omega (arith, lt))
index_take (x ∷ xs) (suc n) zero lt = refl
index_take (x ∷ xs) (suc n) (suc j) lt = index_take xs n j (less n j lt)
  where
    less : (m k : ℕ) → suc k < suc m → k < m
    less m k l = omega (arith, l)

pub fetched_len : (k : Holding) → HasHeldValues k → length (fetched_of k) ≡ k.count
fetched_len k fits = let few = fits.count in let len = fits.len in length-take-le k.count k.values (omega (arith, few, len))

-- ---- all sources

loaded_left : (needed : Bool) (xs ys : List Item) (q : Origin) (x : ℕ) → IsSourceLoaded xs needed q x → IsSourceLoaded (xs ++ ys) needed q x
loaded_left needed xs ys (Base c) x is = is
loaded_left needed xs ys (Written s) x is = record { word = is.word; inside = Contains-append_left xs ys (loaded s is.word) is.inside; shown = is.shown; settled = is.settled; value_is = is.value_is }

loaded_right : (needed : Bool) (xs ys : List Item) (q : Origin) (x : ℕ) → IsSourceLoaded ys needed q x → IsSourceLoaded (xs ++ ys) needed q x
loaded_right needed xs ys (Base c) x is = is
loaded_right needed xs ys (Written s) x is = record { word = is.word; inside = Contains-append_right xs ys (loaded s is.word) is.inside; shown = is.shown; settled = is.settled; value_is = is.value_is }

module _ (b : Board) (p : Plan) (o : ℕ) (needed : Bool) (a : ℕ) where
  pub loaded_none : (h : Hand) (found : Holding) → IsHandOf b h → HasHeldValues found → found.attempt ≡ a → found.count ≡ 0 → IsLoadedUpTo (call_on b h h) p o needed a 0 found
  loaded_none h found is fits attempt none = record { words = []; row = row_none b o h is; fits = fits; attempt = attempt; count = none; read = λ k lt. absurd (omega (arith, lt)) }

  pub loaded_more : {h g k : Hand} (found more : Holding) (x j : ℕ) → IsLoadedUpTo (call_on b h g) p o needed a j found → SourceDoes (call_on b g k) p o j needed (Ok x) → more.attempt ≡ found.attempt → fetched_of more ≡ fetched_of found ++ x ∷ []
      → HasHeldValues more → IsLoadedUpTo (call_on b h k) p o needed a (j + 1) more
  loaded_more found more x j far here attempt values fits = record {
    words = far.words ++ here.words;
    row = row_then b o far.row here.row;
    fits = fits;
    attempt = attempt ∙ far.attempt;
    count =
        let all = fetched_len more fits in let both = length-append (fetched_of found) (x ∷ []) in let same = ap length values in
        omega (arith, all, both, same, len);
    read = λ n lt. subst (λ ys. IsPlaceLoaded p o needed (far.words ++ here.words) n (slice_index ys n)) (sym values)
        (elim (cases_lt n j) [
          | inl before ↦
              let there = far.read n before in
              subst (IsPlaceLoaded p o needed (far.words ++ here.words) n) (sym (get_or-append (fetched_of found) (x ∷ []) 0 n (omega (arith, before, len))))
              (record { read = loaded_left needed far.words here.words (origin_at p o n) (slice_index (fetched_of found) n) there.read; fold = there.fold })
          | inr after ↦
              let same : n ≡ j = omega (arith, lt, after) in
              let at : slice_index (fetched_of found ++ x ∷ []) n ≡ x = ap (slice_index (fetched_of found ++ x ∷ [])) (same ∙ sym len) ∙ get_or-append_seam (fetched_of found) x [] 0 in
              subst (λ (z : ℕ × ℕ). IsPlaceLoaded p o needed (far.words ++ here.words) z.0 z.1) (λ i. (sym same i, sym at i))
              (record { read = loaded_right needed far.words here.words (origin_at p o j) x here.tells.read; fold = here.tells.fold })
        ]);
  }
    where
      len : length (fetched_of found) ≡ j
      len = fetched_len found far.fits ∙ far.count

  pub loaded_stop : {h g k : Hand} (found : Holding) (stop : Stop) (j : ℕ) → j < places p o → IsLoadedUpTo (call_on b h g) p o needed a j found → SourceDoes (call_on b g k) p o j needed (Err stop)
      → IsAllLoaded (call_on b h k) p o needed a found (Some stop)
  loaded_stop found stop j lt far here = record {
    words = far.words ++ here.words;
    row = row_then b o far.row here.row;
    fits = far.fits;
    attempt = far.attempt;
    tells = (
      record { place = j; in_places = lt; source_is = here.tells.source_is },
      record { inside = Contains-append_right far.words here.words (loaded stop.source stop.word) here.tells.unready.inside; settled = here.tells.unready.settled; cause = here.tells.unready.cause },
    );
  }

  pub loaded_all : {h g : Hand} (found : Holding) → IsLoadedUpTo (call_on b h g) p o needed a (places p o) found → IsAllLoaded (call_on b h g) p o needed a found None
  loaded_all found far = record { words = far.words; row = far.row; fits = far.fits; attempt = far.attempt; tells = (far.count, far.read) }

-- what was loaded may be recorded, at the last attempt if it had to be settled
pub usable_loaded : (b : Board) (p : Plan) (cap o a : ℕ) (needed : Bool) (h k : Hand) (row : List Item) (values : List ℕ) → IsRow (call_on b h k) o row → (a ≡ cap + 1 → needed ≡ true) → AreLoaded p o needed (places p o) row values
    → AreUsable p cap o a (view_of k) values
usable_loaded b p cap o a needed h k row values did asked read j lt = at (origin_at p o j) (read j lt).read
  where
    at : (q : Origin) → IsSourceLoaded row needed q (slice_index values j) → IsUsable (view_of k) cap a q (slice_index values j)
    at (Base c) is = is
    at (Written s) is = record {
      word = is.word;
      inside = subst (λ ts. Contains ts (loaded s is.word)) (sym did.adds.notes) (Contains-append_right (view_of h).notes row (loaded s is.word) is.inside);
      shown = is.shown;
      at_last = λ last. is.settled (asked last);
      value_is = is.value_is;
    }

-- what is usable stays so with more notes
pub usable_more : (p : Plan) (cap o a : ℕ) (v u : View) (xs : List Item) (values : List ℕ) → u.notes ≡ v.notes ++ xs → AreUsable p cap o a v values → AreUsable p cap o a u values
usable_more p cap o a v u xs values notes are k lt = later (origin_at p o k) (are k lt)
  where
    later : (q : Origin) → IsUsable v cap a q (slice_index values k) → IsUsable u cap a q (slice_index values k)
    later (Base c) is = is
    later (Written s) is = record {
      word = is.word;
      inside = subst (λ ts. Contains ts (loaded s is.word)) (sym notes) (Contains-append_left v.notes xs (loaded s is.word) is.inside);
      shown = is.shown;
      at_last = is.at_last;
      value_is = is.value_is;
    }

-- ---- all places

pub usable_holding : (v : View) (cap a o n : ℕ) (ys : List ℕ) (q : Origin) (x : ℕ) → IsUsable v cap a q x → IsUsable (holding o n ys v) cap a q x
usable_holding v cap a o n ys (Base c) x is = is
usable_holding v cap a o n ys (Written s) x is = record { word = is.word; inside = is.inside; shown = is.shown; at_last = is.at_last; value_is = is.value_is }

holding_more : (o a : ℕ) (v : View) (ys : List ℕ) (x : ℕ) → fetching (record { op = o; attempt = a; values = ys }) x (holding o a ys v) ≡ holding o a (ys ++ x ∷ []) v
holding_more o a v ys x =
    let same = sym (fetches-snoc o v.tag ys x v.events) in let mine = sym (fetches-snoc o v.tag ys x v.own) in
    λ i. record v { claim = Some (record { op = o; attempt = a; values = ys ++ x ∷ [] }); events = same i; own = mine i }

module _ (b : Board) (o a : ℕ) (values : List ℕ) where
  pub kept_none : (h : Hand) → IsHandOf b h → Holds (view_of h) o a [] → IsKeptUpTo (call_on b h h) o a 0 values
  kept_none h is holds = record {
    hand = is;
    view =
        let v = view_of h in
        (λ i. record v { claim = holds i; events = sym (fetches-nil o v.tag 0 v.events) i; own = sym (fetches-nil o v.tag 0 v.own) i }) ∙ ap (λ ys. holding o a ys v) (sym (take_none values));
  }

  pub kept_more : {h g k : Hand} (x j : ℕ) → j < length values → x ≡ slice_index values j → IsKeptUpTo (call_on b h g) o a j values → IsPlaceKept (call_on b g k) o a (take j values) x → IsKeptUpTo (call_on b h k) o a (j + 1) values
  kept_more {h} {g} {k} x j lt same far here = record {
    hand = here.hand;
    view =
        here.view ∙ ap (fetching (record { op = o; attempt = a; values = take j values }) x) far.view ∙ holding_more o a (view_of h) (take j values) x
        ∙ ap (λ ys. holding o a ys (view_of h)) (ap (λ n. take j values ++ n ∷ []) same ∙ sym (take_next values j lt));
  }

  pub kept_holds : {h g : Hand} (j : ℕ) → IsKeptUpTo (call_on b h g) o a j values → Holds (view_of g) o a (take j values)
  kept_holds j far = ap (λ (v : View). v.claim) far.view

-- ---- from ready on

adds_holding : (v : View) (o a : ℕ) (ys : List ℕ) → Agrees (holding o a ys v) → Adds v (holding o a ys v) []
adds_holding v o a ys agree = record {
  trail = no_more v.trail;
  notes = no_more v.notes;
  records = λ r inside. inside;
  decisions = λ d inside. inside;
  published = λ e inside. inside;
  settlings = λ e inside. inside;
  tag = refl;
  made = refl;
  room = refl;
  joined = refl;
  places = refl;
  events = fetches_front o v.tag 0 ys v.events v.own;
  agree = agree;
  steady = along_none (IsSteadyAt v.tag) v.notes;
  calm = λ lone. along_none IsCalmAt v.trail;
}

module _ (b : Board) (p : Plan) (cap o a : ℕ) (from : Holding) (fits : HasHeldValues from) (all : from.count ≡ places p o) (h : Hand) (free : (view_of h).claim ≡ None) where
  values_len : length (fetched_of from) ≡ places p o
  values_len = fetched_len from fits ∙ all

  whole : take (places p o) (fetched_of from) ≡ fetched_of from
  whole = let n = values_len in take_all (places p o) (fetched_of from) (omega (arith, n))

  pub taken_away : (g : Hand) (w : OpWord) → w ≢ ready a → Looked (call_on b h g) o w → CarryDoes p o a (fetched_of from) (view_of h) (view_of g) (Err w)
  taken_away g w other did = record {
    words = loaded o w ∷ [];
    adds = subst (λ (u : View). Adds (view_of h) u (loaded o w ∷ [])) (sym did.view) (adds_look o _ (view_of h) w (free_apart (view_of h) o free) did.tells);
    tells = record { differs = other; words_are = refl; stays = ap (λ (v : View). v.events) did.view };
  }

  module _ (g : Hand) (held : Left (call_on b h g) (claiming o a (view_of h)) (left o (claimed a (view_of h).tag))) where
    pub holds_nothing : Holds (view_of g) o a []
    holds_nothing = ap (λ (v : View). v.claim) held.view

    pub usable_held : AreUsable p cap o a (view_of h) (fetched_of from) → AreUsable p cap o a (view_of g) (fetched_of from)
    usable_held are = usable_more p cap o a (view_of h) (view_of g) _ (fetched_of from) (ap (λ (v : View). v.notes) held.view) are

    module _ (k : Hand) (kept : IsKeptUpTo (call_on b g k) o a (places p o) (fetched_of from)) where
      pub holds_all : Holds (view_of k) o a (fetched_of from)
      holds_all = ap (λ (v : View). v.claim) kept.view ∙ ap (λ ys. Some (record { op = o; attempt = a; values = ys })) whole

      pub all_held : length (fetched_of from) ≡ places p o
      all_held = values_len

      pub carried_out : (m : Hand) (r : Outcome) → FinishDoes p cap o (view_of k) (view_of m) r → CarryDoes p o a (fetched_of from) (view_of h) (view_of m) (Ok r)
      carried_out m r does =
          let tells = does.tells a (fetched_of from) holds_all in
          record {
            words = left o (claimed a (view_of h).tag) ∷ left o tells.word ∷ [];
            adds = adds_then adds_claimed (adds_then adds_kept (subst (Adds (view_of k) (view_of m)) tells.words does.adds));
            tells = record {
              word = tells.word;
              evaluated = record { word_is = tells.word_is; ran = tells.ran; attempt_is = tells.attempt_is; records = tells.records; shown = tells.shown; answer = tells.answer };
              words_are = refl;
              steps =
                  ap (λ (u : View). u.events) tells.view_is
                  ∙ ap (λ (u : View). Finish o u.tag ∷ u.events) kept_view;
            };
          }
        where
          kept_view : view_of k ≡ holding o a (fetched_of from) (claiming o a (view_of h))
          kept_view = kept.view ∙ ap (λ ys. holding o a ys (view_of g)) whole ∙ ap (holding o a (fetched_of from)) held.view

          adds_claimed : Adds (view_of h) (view_of g) (left o (claimed a (view_of h).tag) ∷ [])
          adds_claimed = subst (λ (u : View). Adds (view_of h) u (left o (claimed a (view_of h).tag) ∷ [])) (sym held.view) (adds_claiming (view_of h) o a held.tells)

          adds_kept : Adds (view_of g) (view_of k) []
          adds_kept = subst (λ (u : View). Adds (view_of g) u []) (sym kept.view) (adds_holding (view_of g) o a (take (places p o) (fetched_of from)) (subst Agrees kept.view kept.hand.told.agree))

-- ---- from blocked on

module _ (b : Board) (p : Plan) (o a : ℕ) (h : Hand) (free : (view_of h).claim ≡ None) where
  -- another word was found than the blocked one
  pub passed_by : (values : List ℕ) (g : Hand) (w : OpWord) → w ≢ blocked a → Looked (call_on b h g) o w → TakeUpDoes p o a values (view_of h) (view_of g) (Err w)
  passed_by values g w other did = record {
    words = loaded o w ∷ [];
    adds = subst (λ (u : View). Adds (view_of h) u (loaded o w ∷ [])) (sym did.view) (adds_look o _ (view_of h) w (free_apart (view_of h) o free) did.tells);
    tells = inl (record { differs = other; words_are = refl; stays = ap (λ (u : View). u.events) did.view });
  }

  -- it was made ready
  module _ (g : Hand) (made : Left (call_on b h g) (making o a (view_of h)) (left o (ready a))) where
    pub free_made : (view_of g).claim ≡ None
    free_made = ap (λ (u : View). u.claim) made.view ∙ free

    pub usable_made : (cap : ℕ) (values : List ℕ) → AreUsable p cap o a (view_of h) values → AreUsable p cap o a (view_of g) values
    usable_made cap values are = usable_more p cap o a (view_of h) (view_of g) _ values (ap (λ (u : View). u.notes) made.view) are

    tag_made : (view_of g).tag ≡ (view_of h).tag
    tag_made = ap (λ (u : View). u.tag) made.view

    events_made : (view_of g).events ≡ ReadyStep o ∷ (view_of h).events
    events_made = ap (λ (u : View). u.events) made.view

    adds_made : Adds (view_of h) (view_of g) (left o (ready a) ∷ [])
    adds_made = subst (λ (u : View). Adds (view_of h) u (left o (ready a) ∷ [])) (sym made.view) (adds_leave (view_of h) o (ready a) _ made.tells)

    pub went_on : (values : List ℕ) (m : Hand) (r : Result Outcome OpWord) → CarryDoes p o a values (view_of g) (view_of m) r → TakeUpDoes p o a values (view_of h) (view_of m) r
    went_on values m (Ok r) does =
        let tells = does.tells in
        record {
          words = left o (ready a) ∷ does.words;
          adds = adds_then adds_made does.adds;
          tells = record {
            word = tells.word;
            evaluated = tells.evaluated;
            words_are = ap (λ zs. left o (ready a) ∷ zs) (tells.words_are ∙ ap (λ t. left o (claimed a t) ∷ left o tells.word ∷ []) tag_made);
            steps =
                tells.steps
                ∙ ap (λ t. Finish o t ∷ fetches o t 0 values (Claim o t ∷ (view_of g).events)) tag_made
                ∙ ap (λ es. Finish o (view_of h).tag ∷ fetches o (view_of h).tag 0 values (Claim o (view_of h).tag ∷ es)) events_made;
          };
        }
    went_on values m (Err w) does = record {
      words = left o (ready a) ∷ does.words;
      adds = adds_then adds_made does.adds;
      tells = inr (record { differs = does.tells.differs; words_are = ap (λ zs. left o (ready a) ∷ zs) does.tells.words_are; readied = does.tells.stays ∙ events_made });
    }

-- ---- own steps

pub own_first : (o : ℕ) (w : OpWord) (ts : List Item) → OwnOn o ts → OwnOn o (left o w ∷ ts)
own_first o w ts own t inside mine = elim (Contains-append_cases (left o w ∷ []) ts t inside) [
  | inl here ↦ sym (ap (λ (x : Item). x.op) (one_inside (left o w) t here))
  | inr there ↦ own t there mine
]

pub open_first : (o : ℕ) (w : OpWord) (ts : List Item) → is_settled w.state ≡ false → OwnOpen ts → OwnOpen (left o w ∷ ts)
open_first o w ts open_word own t inside mine = elim (Contains-append_cases (left o w ∷ []) ts t inside) [
  | inl here ↦ sym (ap (λ (x : Item). is_settled x.word.state) (one_inside (left o w) t here)) ∙ open_word
  | inr there ↦ own t there mine
]

pub own_behind : (o : ℕ) (xs ts : List Item) → NoneOwn xs → OwnOn o ts → OwnOn o (xs ++ ts)
own_behind o xs ts none own t inside mine = elim (Contains-append_cases xs ts t inside) [ inl here ↦ absurd (false≢true (sym (none t here) ∙ mine)) | inr there ↦ own t there mine ]

pub open_behind : (xs ts : List Item) → NoneOwn xs → OwnOpen ts → OwnOpen (xs ++ ts)
open_behind xs ts none own t inside mine = elim (Contains-append_cases xs ts t inside) [ inl here ↦ absurd (false≢true (sym (none t here) ∙ mine)) | inr there ↦ own t there mine ]

-- the words that `take_up` left
module _ (p : Plan) (o a : ℕ) (values : List ℕ) (v u : View) where
  pub own_taken_up : (r : Result Outcome OpWord) (does : TakeUpDoes p o a values v u r) → OwnOn o does.words
  own_taken_up (Ok r) does =
      let done : List Item = left o does.tells.word ∷ [] in
      subst (OwnOn o) (sym does.tells.words_are)
      (own_first o (ready a) (left o (claimed a v.tag) ∷ done) (own_first o (claimed a v.tag) done (own_first o does.tells.word [] (λ t inside mine. absurd (not_inside t inside)))))
  own_taken_up (Err w) does = elim does.tells [
    | inl other ↦ subst (OwnOn o) (sym other.words_are) (own_none o (loaded o w ∷ []) (none_one o w))
    | inr taken ↦ subst (OwnOn o) (sym taken.words_are) (own_first o (ready a) (loaded o w ∷ []) (own_none o (loaded o w ∷ []) (none_one o w)))
  ]

  pub open_taken_up : (r : Result Outcome OpWord) (does : TakeUpDoes p o a values v u r) → OwnOpen does.words
  open_taken_up (Ok r) does =
      let done : List Item = left o does.tells.word ∷ [] in
      let open_done : OwnOpen done = open_first o does.tells.word [] (run_unsettled does.tells.word.state does.tells.evaluated.ran) (λ t inside mine. absurd (not_inside t inside)) in
      subst OwnOpen (sym does.tells.words_are) (open_first o (ready a) (left o (claimed a v.tag) ∷ done) refl (open_first o (claimed a v.tag) done refl open_done))
  open_taken_up (Err w) does = elim does.tells [
    | inl other ↦ subst OwnOpen (sym other.words_are) (open_none (loaded o w ∷ []) (none_one o w))
    | inr taken ↦ subst OwnOpen (sym taken.words_are) (open_first o (ready a) (loaded o w ∷ []) refl (open_none (loaded o w ∷ []) (none_one o w)))
  ]

-- ---- the whole call

module _ (b : Board) (p : Plan) (o a : ℕ) (h k : Hand) (free : (view_of h).claim ≡ None) (row : List Item) (did : IsRow (call_on b h k) o row) where
  none_row : NoneOwn row
  none_row = none_elsewhere o row did.elsewhere

  pub free_row : (view_of k).claim ≡ None
  free_row = row_claim b o did ∙ free

  stays_row : (view_of k).events ≡ (view_of h).events
  stays_row = ap (λ (v : View). v.events) did.view

  -- a source stopped it
  pub kept_back : (stop : Stop) → IsSourceOf p o stop.source → Contains row (loaded stop.source stop.word) → is_idle stop.word.state ≡ true → AttemptDoes p o a (view_of h) (view_of k) (BlockedOn stop.source stop.word)
  kept_back stop source inside idle = record {
    words = row;
    goes = record { adds = did.adds; free = free_row };
    own = own_none o row none_row;
    open_own = open_none row none_row;
    tells = record { elsewhere = did.elsewhere; source = source; inside = inside; idle = idle; stays = stays_row };
  }

  value_read : (xs : List Item) (q : Origin) (x : ℕ) → IsSourceLoaded xs false q x → IsReadValue xs q x
  value_read xs (Base c) x is = is
  value_read xs (Written s) x is = (is.word, is.inside, is.value_is)

  source_valued : (xs : List Item) (q : Origin) (s x : ℕ) → q ≡ Written s → IsSourceLoaded xs false q x → (w : OpWord) × Contains xs (loaded s w) × (is_idle w.state ≡ false)
  source_valued xs q s x same is = let there = subst (λ (z : Origin). IsSourceLoaded xs false z x) same is in (there.word, there.inside, there.shown)

  module _ (values : List ℕ) (m : Hand) (free_now : (view_of m).claim ≡ None) where
    attempted : (r : Attempt) (words : List Item) → Adds (view_of k) (view_of m) words → OwnOn o words → OwnOpen words → AttemptTells p o a (view_of h) (view_of m) (row ++ words) r → AttemptDoes p o a (view_of h) (view_of m) r
    attempted r words adds own open_own tells = record {
      words = row ++ words;
      goes = record { adds = adds_then did.adds adds; free = free_now };
      own = own_behind o row words none_row own;
      open_own = open_behind row words none_row open_own;
      tells = tells;
    }

    pub attempt_ran : (r : Outcome) → AreLoaded p o false (places p o) row values → TakeUpDoes p o a values (view_of k) (view_of m) (Ok r) → AttemptDoes p o a (view_of h) (view_of m) (Ran r)
    attempt_ran r read does =
        let tells = does.tells in
        let evaluated = tells.evaluated in
        attempted (Ran r) does.words does.adds (own_taken_up p o a values (view_of k) (view_of m) (Ok r) does) (open_taken_up p o a values (view_of k) (view_of m) (Ok r) does) (record {
          row = row;
          elsewhere = did.elsewhere;
          values = values;
          read = λ j lt. value_read row (origin_at p o j) (slice_index values j) (read j lt).read;
          valued = λ s source. source_valued row (origin_at p o source.place) s (slice_index values source.place) source.source_is (read source.place source.in_places).read;
          word = tells.word;
          word_is = evaluated.word_is;
          words_are = ap (λ zs. row ++ zs) (tells.words_are ∙ ap (λ t. left o (ready a) ∷ left o (claimed a t) ∷ left o tells.word ∷ []) did.adds.tag);
          ran = evaluated.ran;
          attempt_is = evaluated.attempt_is;
          records = evaluated.records;
          shown = evaluated.shown;
          answer = evaluated.answer;
          steps =
              tells.steps ∙ ap (λ t. ran_steps o t values (view_of k).events) did.adds.tag
              ∙ ap (ran_steps o (view_of h).tag values) stays_row;
        })

    pub attempt_busy : (w : OpWord) → TakeUpDoes p o a values (view_of k) (view_of m) (Err w) → AttemptDoes p o a (view_of h) (view_of m) (Busy w)
    attempt_busy w does =
        attempted (Busy w) does.words does.adds (own_taken_up p o a values (view_of k) (view_of m) (Err w) does) (open_taken_up p o a values (view_of k) (view_of m) (Err w) does) (record {
          row = row;
          elsewhere = did.elsewhere;
          cause = elim does.tells [
            | inl other ↦ inl (record { differs = other.differs; words_are = ap (λ zs. row ++ zs) other.words_are; stays = other.stays ∙ stays_row })
            | inr taken ↦ inr (record {
              differs = taken.differs;
              words_are = ap (λ zs. row ++ zs) taken.words_are;
              readied = taken.readied ∙ ap (λ (es : List CoreEvent). ReadyStep o ∷ es) stays_row;
            })
          ];
        })
