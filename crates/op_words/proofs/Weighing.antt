-- The verdicts on the operations of an event, one after another.
use Rattle.std.proofs.Common.{◌≡◌, ◌≢◌, ◌⊎◌, ℕ, ◌+◌, ◌<◌, ◌≤◌, Bool, true, false, List, [], ◌∷◌, ◌++◌, refl, sym, ap, ◌∙◌, subst, inl, inr, arith, append_assoc, Some, None}
use Rattle.std.specs.Prelude.{Contains}
use Rattle.std.proofs.lemmas.Bool.{cases_lt}
use Rattle.std.proofs.lemmas.List.Elements.{Contains-append_left, Contains-append_right}
use Rattle.morph_base.specs.declared.plan.Plan.{Plan}
use Rattle.morph_base.specs.declared.plan.Origin.{Origin}
use Rattle.morph_base.specs.declared.plan.PlanEvent.{PlanEvent}
use Rattle.morph_base.specs.Numbering.{IsWithin}
use Rattle.morph_base.specs.declared.word.OpWord.{OpWord}
use Rattle.interleaving_core.specs.declared.event.CoreEvent.{CoreEvent}
use Rattle.interleaving_core.specs.declared.event.CoreEvent.TheVariants.{Decide}
use Rattle.morph_base.specs.Plans.{IsPlan, event_count, event_at, event_of, origin_at, verdict, InEvent}
use Rattle.morph_base.proofs.OutcomeLaws.{source_precedes}
use Rattle.op_words.specs.declared.answers.Decided.{Decided}
use Rattle.op_words.specs.declared.answers.Decided.TheVariants.{Committed, Aborted, NotYet as Undecided}
use Rattle.op_words.specs.declared.answers.Verdict.{Verdict}
use Rattle.op_words.specs.declared.answers.Verdict.TheVariants.{Good, Bad, Stale, Unready}
use Rattle.op_words.specs.declared.board.Board.{Board}
use Rattle.op_words.specs.declared.board.Hand.{Hand}
use Rattle.op_words.specs.declared.trail.Item.{Item}
use Rattle.op_words.specs.declared.trail.RecordSeen.{RecordSeen}
use Rattle.op_words.specs.declared.trail.View.{View}
use Rattle.op_words.specs.Trails.{loaded, HasLast, IsDisturbed, IsSourceOf, NoneOwn}
use Rattle.op_words.specs.Views.{IsDecisionSeen, IsSettledSeen, Adds}
use Rattle.op_words.specs.Calls.{IsSettledRead, Elsewhere}
use Rattle.op_words.specs.Judging.{decided_as, IsStaleWord, IsOwnUnready, IsJudgedGood, IsDoubtful, IsInDoubt, IsDecided, MayHaveDecided, DecideSteps, DecideTells, DecideDoes, MaySayOf, ConcludeDoes}
use Rattle.op_words.specs.Hands.{cap_of, plan_of, view_of, call_on, IsHandOf}
use Rattle.op_words.specs.Stepping.{Learned}
use Rattle.op_words.specs.Comparing.{OfReads, IsJudgedAs, WeighTells, IsWeighed, FindsGood, FindsNoFailure, HasDoubt, GroundsTell, HasFoundGrounds}
use Rattle.op_words.proofs.Rows.{not_inside}
use Rattle.op_words.proofs.Trailing.{last_later, disturbed_later, disturbed_more}
use Rattle.op_words.proofs.Adding.{adds_none, goes_then}
use Rattle.op_words.proofs.Making.{last_else, none_then}
use Rattle.op_words.proofs.Walking.{walk_learn, learned_seen}
use Rattle.op_words.proofs.Comparing.{read_left, read_right, seen_more}

-- ---- a doubt stays, with words more before and behind it

-- of operation o: its last word, what was loaded, and its records
record IsWider (o : ℕ) (v u v' u' : View) (xs xs' : List Item) : Type 0 where
  last : (w : OpWord) → HasLast o xs w → HasLast o xs' w
  inside : (t : Item) → Contains xs t → Contains xs' t
  shaken : IsDisturbed o xs → IsDisturbed o xs'
  read : (q : Origin) (x : ℕ) → IsSettledRead xs q x → IsSettledRead xs' q x
  now : (r : RecordSeen) → Contains u.records r → Contains u'.records r
  before : (r : RecordSeen) → Contains v'.records r → Contains v.records r

module _ (p : Plan) (cap o : ℕ) {v u v' u' : View} {xs xs' : List Item} (wide : IsWider o v u v' u' xs xs') where
  stale_wider : (w : OpWord) → IsStaleWord p cap o v u xs w → IsStaleWord p cap o v' u' xs' w
  stale_wider w is = record {
    place = is.place;
    kept = is.kept;
    value = is.value;
    stale = record {
      last = wide.last w is.stale.last;
      seen = wide.inside (loaded o w) is.stale.seen;
      ran = is.stale.ran;
      in_places = is.stale.in_places;
      below = is.stale.below;
      source = wide.read (origin_at p o is.place) is.value is.stale.source;
      differs = is.stale.differs;
      kept_is = wide.now _ is.stale.kept_is;
      alike = λ x seen. is.stale.alike x (wide.before _ seen);
    };
  }

  unready_wider : (w : OpWord) → IsOwnUnready p cap o v u xs w → IsOwnUnready p cap o v' u' xs' w
  unready_wider w is = record {
    last = wide.last w is.last;
    seen = wide.inside (loaded o w) is.seen;
    cause = elim is.cause [ inl idle ↦ inl idle | inr shaken ↦ inr (wide.shaken shaken) ];
    spread = is.spread;
  }

  doubt_wider : (at : ℕ) (w : OpWord) → IsDoubtful p cap o v u xs at w → IsDoubtful p cap o v' u' xs' at w
  doubt_wider at w is =
      elim is [
        | inl own ↦ inl (own.0, elim own.1 [ inl unready ↦ inl (unready_wider w unready) | inr stale ↦ inr (stale_wider w stale) ])
        | inr source ↦ inr (record {
          source = source.source;
          inside = wide.inside (loaded at w) source.inside;
          settled = source.settled;
          own = source.own;
          last = wide.last source.own source.last;
          open_own = source.open_own;
        })
      ]

wider_later : (o : ℕ) {v n u : View} {xs : List Item} (ys : List Item) → Adds v n xs → IsWider o n u v u ys (xs ++ ys)
wider_later o {v} {n} {u} {xs} ys adds = record {
  last = λ w last. last_later xs last;
  inside = λ t inside. Contains-append_right xs ys t inside;
  shaken = λ is. disturbed_later xs is;
  read = λ q x is. read_right xs ys q x is;
  now = λ r inside. inside;
  before = λ r inside. adds.records r inside;
}

wider_more : (o : ℕ) {v n u : View} (xs : List Item) {ys : List Item} → Adds n u ys → Elsewhere o ys → IsWider o v n v u xs (xs ++ ys)
wider_more o xs {ys} adds elsewhere = record {
  last = λ w last. last_else o xs ys w last elsewhere;
  inside = λ t inside. Contains-append_left xs ys t inside;
  shaken = λ is. disturbed_more ys is;
  read = λ q x is. read_left xs ys q x is;
  now = λ r inside. adds.records r inside;
  before = λ r inside. inside;
}

-- what the hand had seen before some words leaves a doubt in these words
wider_before : (o : ℕ) {v n u : View} {xs : List Item} (ys : List Item) → Adds v n xs → IsWider o n u v u ys ys
wider_before o ys adds = record {
  last = λ w last. last;
  inside = λ t inside. inside;
  shaken = λ is. is;
  read = λ q x is. is;
  now = λ r inside. inside;
  before = λ r inside. adds.records r inside;
}

-- one that was judged good stays so, with words more before it, and behind it
good_later : (p : Plan) (cap o : ℕ) {v n u : View} (xs : List Item) {ys : List Item} → IsJudgedGood p cap o n u ys → IsJudgedGood p cap o v u (xs ++ ys)
good_later p cap o xs is = (is.0, record { word = is.1.word; last = last_later xs is.1.last; state_is = is.1.state_is; judged = is.1.judged; value_is = is.1.value_is; answer = is.1.answer })

good_more : (p : Plan) (cap o : ℕ) {v n u : View} (xs : List Item) {ys : List Item} → Adds n u ys → Elsewhere o ys → IsJudgedGood p cap o v n xs → IsJudgedGood p cap o v u (xs ++ ys)
good_more p cap o xs {ys} adds elsewhere is =
    let good = is.1 in (
      is.0,
      record {
        word = good.word;
        last = last_else o xs ys good.word good.last elsewhere;
        state_is = good.state_is;
        judged = record {
          ran = good.judged.ran;
          values = good.judged.values;
          records = record { len = good.judged.records.len; each = λ j below. adds.records _ (good.judged.records.each j below) };
          sources = λ j below. seen_more adds (origin_at p o j) _ (good.judged.sources j below);
        };
        value_is = good.value_is;
        answer = good.answer;
      },
    )

-- ---- one operation

module _ (b : Board) (p : Plan) (cap o : ℕ) (h g : Hand) (w : OpWord) where
  weighed_as : (v : Verdict) (r : Decided) (is : IsJudgedAs (call_on b h g) p cap o w v) → WeighTells p cap o (view_of h) (view_of g) is.words r → IsWeighed (call_on b h g) p cap o r
  weighed_as v r is tells = record { hand = is.hand; words = is.words; goes = is.goes; none = is.none; reads = is.reads; first = is.first; rest = is.rest; begins = is.begins; stays = is.stays; tells = tells }

  pub weighed_good : (x : ℕ) → IsJudgedAs (call_on b h g) p cap o w (Good x) → IsWeighed (call_on b h g) p cap o Committed
  weighed_good x is = weighed_as (Good x) Committed is (x, is.tells)

  pub weighed_bad : IsJudgedAs (call_on b h g) p cap o w Bad → IsWeighed (call_on b h g) p cap o Aborted
  weighed_bad is = weighed_as Bad Aborted is (record { sources = λ j below. (_, is.tells.judged.sources j below); answer_is = is.tells.answer })

  pub weighed_stale : (j kept value : ℕ) → IsJudgedAs (call_on b h g) p cap o w (Stale j kept value) → IsWeighed (call_on b h g) p cap o (Undecided o w)
  weighed_stale j kept value is = weighed_as (Stale j kept value) (Undecided o w) is (inl (refl, inr (record { place = j; kept = kept; value = value; stale = is.stale j kept value refl })))

  pub weighed_unready : (at : ℕ) (z : OpWord) → IsJudgedAs (call_on b h g) p cap o w (Unready at z) → IsWeighed (call_on b h g) p cap o (Undecided at z)
  weighed_unready at z is =
      weighed_as (Unready at z) (Undecided at z) is
      (elim is.tells [
        | inl own ↦ inl (own.0, inl own.1)
        | inr source ↦ inr source.1
      ])

-- ---- one after another

-- another operation of the event, and its sources, are apart
apart_reads : (p : Plan) (i o n : ℕ) (ys : List Item) → IsPlan p → i < event_count p → InEvent p i o → InEvent p i n → n ≢ o → NoneOwn ys → OfReads p n ys → Elsewhere o ys
apart_reads p i o n ys valid lt mine other apart none reads t inside = (none t inside, by_read (reads t inside))
  where
    by_read : (t.op ≡ n) ⊎ IsSourceOf p n t.op → t.op ≢ o
    by_read (inl own) same = apart (sym own ∙ same)
    by_read (inr source) same =
        let here = valid.numbering.owned i n lt other in
        let home = valid.numbering.owned i o lt mine in
        let before = (source_precedes p n source.place t.op valid here.0 source.in_places source.source_is).event_before in
        let one : event_of p t.op ≡ event_of p o = ap (event_of p) same in
        let two = here.1 in let three = home.1 in
        omega (arith, before, one, two, three)

module _ (b : Board) (p : Plan) (i : ℕ) (valid : IsPlan p) (lt : i < event_count p) where
  pub grounds_none : (start : ℕ) → start ≡ (event_at p i).first → (h : Hand) → IsHandOf b h → (view_of h).claim ≡ None
      → HasFoundGrounds (call_on b h h) p i start Committed
  grounds_none start first_is h is free = record {
    hand = is;
    words = [];
    goes = record { adds = adds_none (view_of h) is.told.agree; free = free };
    none = λ t inside. absurd (not_inside t inside);
    stays = refl;
    tells = λ o inside high. absurd (let low = inside.from in omega (arith, low, high, first_is));
  }

  module _ {h g k : Hand} (n : ℕ) (within : InEvent p i n) (far : Decided) (next : Decided) (all : HasFoundGrounds (call_on b h g) p i n far) (here : IsWeighed (call_on b g k) p (cap_of b) n next) where
    grounds_with : (r : Decided) → GroundsTell (call_on b h k) p i (n + 1) (all.words ++ here.words) r → HasFoundGrounds (call_on b h k) p i (n + 1) r
    grounds_with r tells = record { hand = here.hand; words = all.words ++ here.words; goes = goes_then all.goes here.goes; none = none_then all.words here.words all.none here.none; stays = here.stays ∙ all.stays; tells = tells }

    -- the operation is not loaded while another one of the event is judged
    apart_from : (o : ℕ) → InEvent p i o → o < n → Elsewhere o here.words
    apart_from o inside less = apart_reads p i o n here.words valid lt inside within (λ same. omega (arith, same, less)) here.none here.reads

    -- the doubt about another operation of the event stays
    doubt_stays : (o : ℕ) → InEvent p i o → o < n → (at : ℕ) (w : OpWord) → IsDoubtful p (cap_of b) o (view_of h) (view_of g) all.words at w → IsDoubtful p (cap_of b) o (view_of h) (view_of k) (all.words ++ here.words) at w
    doubt_stays o inside less at w is = doubt_wider p (cap_of b) o (wider_more o all.words here.goes.adds (apart_from o inside less)) at w is

    in_doubt_stays : (o : ℕ) → InEvent p i o → o < n → IsInDoubt p (cap_of b) o (view_of h) (view_of g) all.words → IsInDoubt p (cap_of b) o (view_of h) (view_of k) (all.words ++ here.words)
    in_doubt_stays o inside less is = record {
      front = is.front;
      first = is.first;
      rest = is.rest ++ here.words;
      split = ap (λ zs. zs ++ here.words) is.split ∙ append_assoc is.front (loaded o is.first ∷ is.rest) here.words;
      at = is.at;
      word = is.word;
      doubt = doubt_wider p (cap_of b) o (wider_more o (loaded o is.first ∷ is.rest) here.goes.adds (apart_from o inside less)) is.at is.word is.doubt;
    }

    good_stays : (o : ℕ) → InEvent p i o → o < n → FindsGood (call_on b h g) p all.words o → FindsGood (call_on b h k) p (all.words ++ here.words) o
    good_stays o inside less is = good_more p (cap_of b) o all.words here.goes.adds (apart_from o inside less) is

    -- the operation itself, where it is not bad
    weighed_now : (c : Decided) → (c ≡ Aborted → ⊥) → WeighTells p (cap_of b) n (view_of g) (view_of k) here.words c
        → FindsNoFailure (call_on b h k) p (all.words ++ here.words) n
    weighed_now Committed fine now = inl (good_later p (cap_of b) n all.words now)
    weighed_now (Undecided at w) fine now =
        inr (record {
          front = all.words;
          first = here.first;
          rest = here.rest;
          split = ap (λ zs. all.words ++ zs) here.begins;
          at = at;
          word = w;
          doubt = subst (λ zs. IsDoubtful p (cap_of b) n (view_of h) (view_of k) zs at w) here.begins (doubt_wider p (cap_of b) n (wider_before n here.words all.goes.adds) at w now);
        })
    weighed_now Aborted fine now = absurd (fine refl)

    more_doubt : (at : ℕ) (w : OpWord) (c : Decided) → (c ≡ Aborted → ⊥) → HasDoubt (call_on b h g) p i n all.words (record { source = at; word = w }) → WeighTells p (cap_of b) n (view_of g) (view_of k) here.words c
        → HasDoubt (call_on b h k) p i (n + 1) (all.words ++ here.words) (record { source = at; word = w })
    more_doubt at w c fine is now = record {
      culprit = is.culprit;
      inside = is.inside;
      below = let less = is.below in omega (arith, less);
      doubt = doubt_stays is.culprit is.inside is.below at w is.doubt;
      before = λ o inside less. let lower : o < n = let high = is.below in omega (arith, high, less) in good_stays o inside lower (is.before o inside less);
      behind = λ o inside more less.
          elim (cases_lt o n) [
            | inl lower ↦
                elim (is.behind o inside more lower) [
                  | inl good ↦ inl (good_stays o inside lower good)
                  | inr doubt ↦ inr (in_doubt_stays o inside lower doubt)
                ]
            | inr same ↦
                let here_is : n ≡ o = omega (arith, same, less) in
                subst (FindsNoFailure (call_on b h k) p (all.words ++ here.words)) here_is (weighed_now c fine now)
          ];
    }

    tells_more : (a c : Decided) → (c ≡ Aborted → ⊥) → GroundsTell (call_on b h g) p i n all.words a → WeighTells p (cap_of b) n (view_of g) (view_of k) here.words c → (r : Decided)
        → (a ≡ Aborted → ⊥) → (a ≡ Committed → r ≡ c) → ((a ≡ Committed → ⊥) → r ≡ a) → GroundsTell (call_on b h k) p i (n + 1) (all.words ++ here.words) r
    tells_more Committed Committed fine before now r not_bad first doubt =
        subst (GroundsTell (call_on b h k) p i (n + 1) (all.words ++ here.words)) (sym (first refl))
        (λ o inside high.
        elim (cases_lt o n) [
          | inl less ↦ good_stays o inside less (before o inside less)
          | inr more ↦
              let same : n ≡ o = omega (arith, more, high) in
              subst (FindsGood (call_on b h k) p (all.words ++ here.words)) same (good_later p (cap_of b) n all.words now)
        ])
    tells_more Committed (Undecided at w) fine before now r not_bad first doubt =
        subst (GroundsTell (call_on b h k) p i (n + 1) (all.words ++ here.words)) (sym (first refl))
        (record {
          culprit = n;
          inside = within;
          below = omega arith;
          doubt = doubt_wider p (cap_of b) n (wider_later n here.words all.goes.adds) at w now;
          before = λ o inside less. good_stays o inside less (before o inside less);
          behind = λ o inside more less. absurd (omega (arith, more, less));
        })
    tells_more Committed Aborted fine before now r not_bad first doubt = absurd (fine refl)
    tells_more Aborted c fine before now r not_bad first doubt = absurd (not_bad refl)
    tells_more (Undecided at w) c fine before now r not_bad first doubt =
        subst (GroundsTell (call_on b h k) p i (n + 1) (all.words ++ here.words)) (sym (doubt (λ same. apart same))) (more_doubt at w c fine before now)
      where
        apart : Undecided at w ≡ Committed → ⊥
        apart same = cc

    pub grounds_more : (far ≡ Aborted → ⊥) → (next ≡ Aborted → ⊥) → (r : Decided) → (far ≡ Committed → r ≡ next) → ((far ≡ Committed → ⊥) → r ≡ far) → HasFoundGrounds (call_on b h k) p i (n + 1) r
    grounds_more fine good r first doubt = grounds_with r (tells_more far next good all.tells here.tells r fine first doubt)

    pub grounds_bad : next ≡ Aborted → (end : ℕ) → HasFoundGrounds (call_on b h k) p i end next
    grounds_bad bad end = record {
      hand = here.hand;
      words = all.words ++ here.words;
      goes = goes_then all.goes here.goes;
      none = none_then all.words here.words all.none here.none;
      stays = here.stays ∙ all.stays;
      tells = subst (GroundsTell (call_on b h k) p i end (all.words ++ here.words)) (sym bad) (n, within, subst (WeighTells p (cap_of b) n (view_of g) (view_of k) here.words) bad here.tells);
    }

-- neither of the answers that go on is the one that stops
pub and_fine : (far next r : Decided) → (far ≡ Aborted → ⊥) → (next ≡ Aborted → ⊥) → (far ≡ Committed → r ≡ next) → ((far ≡ Committed → ⊥) → r ≡ far) → r ≡ Aborted → ⊥
and_fine Committed next r fine good first doubt bad = good (sym (first refl) ∙ bad)
and_fine Aborted next r fine good first doubt bad = fine refl
and_fine (Undecided at w) next r fine good first doubt bad = fine (sym (doubt (λ same. apart same)) ∙ bad)
  where
    apart : Undecided at w ≡ Committed → ⊥
    apart same = cc

-- ---- the event

decided_tells : {p : Plan} {cap i : ℕ} {v u : View} {xs : List Item} (committed : Bool) → IsDecided p cap i v u xs committed → DecideTells p cap i v u xs (decided_as committed)
decided_tells true is = is
decided_tells false is = is

decide_steps : (i : ℕ) (v u : View) (committed : Bool) → MayHaveDecided i committed v u → DecideSteps i v u (decided_as committed)
decide_steps i v u true is = is
decide_steps i v u false is = is

decide_later : (i : ℕ) (committed : Bool) (v n u : View) → n.events ≡ v.events → MayHaveDecided i committed n u → MayHaveDecided i committed v u
decide_later i committed v n u stays is = elim is [ inl same ↦ inl (same ∙ stays) | inr more ↦ inr (more ∙ ap (λ (es : List CoreEvent). Decide i committed ∷ es) stays) ]

module _ (b : Board) (p : Plan) (i : ℕ) (plan : p ≡ plan_of b) (h g : Hand) (learned : Learned (call_on b h g) i None) (is : IsHandOf b h) where
  view_same : view_of g ≡ view_of h
  view_same = learned.view

  none_known : (committed : Bool) → None ≡ Some committed → ⊥
  none_known committed same = cc

  module _ (k : Hand) where
    -- it is not decided, and an operation is in doubt
    pub undecided : (at : ℕ) (w : OpWord) → HasFoundGrounds (call_on b g k) p i ((event_at p i).first + (event_at p i).count) (Undecided at w)
        → DecideDoes p (cap_of b) i (view_of h) (view_of k) (Undecided at w)
    undecided at w all = subst (λ (v : View). DecideDoes p (cap_of b) i v (view_of k) (Undecided at w)) view_same (record {
      words = all.words;
      goes = all.goes;
      none = all.none;
      steps = all.stays;
      tells = record {
        culprit = all.tells.culprit;
        inside = all.tells.inside;
        undecided = λ committed seen. none_known committed (learned.tells.known committed (subst (λ (v : View). IsDecisionSeen v i committed) view_same seen));
        none_settled = λ o inside seen. learned.tells.none_settled refl o (subst (λ (q : Plan). InEvent q i o) plan inside) (subst (λ (v : View). IsSettledSeen v o) view_same seen);
        cause = all.tells.doubt;
        before = all.tells.before;
        behind = λ o inside more. all.tells.behind o inside more inside.below;
      };
    })

  module _ (k : Hand) (end : ℕ) where
    -- a decision was made, or found
    module _ (m : Hand) where
      pub decided_now : (committed : Bool) (r : Decided) → HasFoundGrounds (call_on b g k) p i end r → ConcludeDoes p i (view_of k) (view_of m) committed → DecideDoes p (cap_of b) i (view_of h) (view_of m) (decided_as committed)
      decided_now committed r all stands = subst (λ (v : View). DecideDoes p (cap_of b) i v (view_of m) (decided_as committed)) view_same (record {
        words = all.words ++ [];
        goes = goes_then all.goes stands.goes;
        none = none_then all.words [] all.none (λ t inside. absurd (not_inside t inside));
        steps = decide_steps i (view_of g) (view_of m) committed (decide_later i committed (view_of g) (view_of k) (view_of m) all.stays stands.steps);
        tells = decided_tells committed (record { right = stands.right; known = stands.known });
      })

-- the decision was there
pub decided_before : (b : Board) (p : Plan) (cap i : ℕ) (h g : Hand) (committed : Bool) → p ≡ plan_of b → IsHandOf b h → (view_of h).claim ≡ None → Learned (call_on b h g) i (Some committed)
    → DecideDoes p cap i (view_of h) (view_of g) (decided_as committed)
decided_before b p cap i h g committed plan is free did =
    let walk = walk_learn b 0 is did in
    record {
      words = [];
      goes = record { adds = walk.adds; free = walk.claim ∙ free };
      none = λ t inside. absurd (not_inside t inside);
      steps = decide_steps i (view_of h) (view_of g) committed (inl walk.events);
      tells = decided_tells committed (record { right = ap (λ (q : Plan). verdict q i) plan ∙ did.tells.right committed refl; known = learned_seen b i h g committed did });
    }

-- what the grounds say
pub may_say : (b : Board) (p : Plan) (i : ℕ) (g k : Hand) (r : Decided) (committed : Bool) → r ≡ decided_as committed → HasFoundGrounds (call_on b g k) p i ((event_at p i).first + (event_at p i).count) r → MaySayOf p (view_of k) i committed
may_say b p i g k r true same all = λ o inside.
    let good = (subst (GroundsTell (call_on b g k) p i ((event_at p i).first + (event_at p i).count) all.words) same all.tells) o inside inside.below in
    (good.0, record { sources = λ j below. (_, good.1.judged.sources j below); answer_is = good.1.answer })
may_say b p i g k r false same all = subst (GroundsTell (call_on b g k) p i ((event_at p i).first + (event_at p i).count) all.words) same all.tells

pub within_event : (p : Plan) (i : ℕ) (e : PlanEvent) (o : ℕ) → e ≡ event_at p i → e.first ≤ o → o < e.first + e.count → InEvent p i o
within_event p i e o same low high = subst (λ (x : PlanEvent). IsWithin x.first x.count o) same (record { from = low; below = high })
