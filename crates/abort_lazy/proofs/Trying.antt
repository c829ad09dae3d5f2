-- What calls in turn keep of a runner, and why what it left stays true.
use Rattle.std.proofs.Common.{◌≡◌, ◌≢◌, ◌⊎◌, ℕ, ◌<◌, ◌≤◌, true, false, List, [], ◌∷◌, ◌++◌, sym, ap, ◌∙◌, subst, inl, inr, arith, None}
use Rattle.std.specs.Prelude.{Contains}
use Rattle.std.proofs.lemmas.Bool.{false≢true}
use Rattle.std.proofs.lemmas.List.Elements.{Contains-append_left, Contains-append_right, Contains-append_cases}
use Rattle.morph_base.specs.declared.plan.Plan.{Plan}
use Rattle.morph_base.specs.declared.word.OpWord.{OpWord}
use Rattle.morph_base.specs.Graphs.{IsGraph}
use Rattle.morph_base.specs.Plans.{IsPlan, InEvent, event_at, event_of, event_count, op_count}
use Rattle.morph_base.specs.Words.{is_settled}
use Rattle.morph_base.proofs.LevelLaws.{event_level-rises}
use Rattle.morph_base.proofs.OutcomeLaws.{source_precedes}
use Rattle.op_words.specs.declared.trail.Item.{Item}
use Rattle.op_words.specs.declared.trail.Place.{Place}
use Rattle.op_words.specs.declared.trail.View.{View}
use Rattle.op_words.specs.Counting.{place, times}
use Rattle.op_words.specs.Trails.{loaded, left, IsSourceOf, IsShaken, OwnIn}
use Rattle.op_words.specs.Views.{IsLone, IsTrailNoted, IsSettledSeen, AddsAndFrees}
use Rattle.op_words.proofs.Trailing.{disturbed_more, disturbed_later}
use Rattle.op_eval.specs.declared.answers.Left.{Left}
use Rattle.op_eval.specs.declared.runner.Runner.{Runner}
use Rattle.op_eval.specs.Running.{hand_view}
use Rattle.op_eval.proofs.Turns.{places_taken, places_hold, times_still}
use Rattle.op_eval.proofs.Elements.{contains_first, contains_later, contains_cases, contains_none}
use Rattle.op_eval.specs.Turns.{TakingCall, Took, Tried, TakesNumber}
use Rattle.abort_lazy.specs.declared.transaction.TxnAnswer.{TxnAnswer}
use Rattle.abort_lazy.specs.declared.transaction.TxnAnswer.TheVariants.{Settled as AllSettled, NotYet, Busy}
use Rattle.abort_lazy.specs.Transactions.{TxnDoes, IsSourceCause}
use Rattle.abort_lazy.specs.Sweeps.{left_of, HasTriedOne, MakesCalls}
use Rattle.abort_lazy.specs.Runs.{IsLeft, IsLeftBySource, Rising}
use Rattle.abort_lazy.proofs.Carrying.{load_is_settled}
use Rattle.abort_lazy.proofs.Ending.{in_range, of_event}

-- what was seen settled before a number was taken is so after it
pub seen_taken : (c n o : ℕ) (a b : Runner) → TakesNumber c n a b → IsSettledSeen (hand_view a) o → IsSettledSeen (hand_view b) o
seen_taken c n o a b taken seen =
    record { note = seen.note; inside = subst (λ (v : View). Contains v.notes seen.note) (sym taken.view) seen.inside; op_is = seen.op_is; settled = seen.settled }

-- ---- what calls keep of a runner

module _ (p : Plan) where
  pub calls_free : (cs : List TakingCall) (a b : Runner) → MakesCalls p cs a b → (hand_view a).claim ≡ None → (hand_view b).claim ≡ None
  calls_free [] a b calls free = ap (λ r. (hand_view r).claim) calls ∙ free
  calls_free (Took c n ∷ cs) a b calls free = ap (λ (v : View). v.claim) calls.2.view ∙ calls_free cs a calls.0 calls.1 free
  calls_free (Tried i ∷ cs) a b calls free = let does = calls.2.1.does in does.goes.free

  pub calls_tag : (cs : List TakingCall) (a b : Runner) → MakesCalls p cs a b → (hand_view b).tag ≡ (hand_view a).tag
  calls_tag [] a b calls = ap (λ r. (hand_view r).tag) calls
  calls_tag (Took c n ∷ cs) a b calls = ap (λ (v : View). v.tag) calls.2.view ∙ calls_tag cs a calls.0 calls.1
  calls_tag (Tried i ∷ cs) a b calls = let does = calls.2.1.does in does.goes.adds.tag ∙ calls_tag cs a calls.0 calls.1

  pub calls_made : (cs : List TakingCall) (a b : Runner) → MakesCalls p cs a b → (hand_view b).made ≡ (hand_view a).made
  calls_made [] a b calls = ap (λ r. (hand_view r).made) calls
  calls_made (Took c n ∷ cs) a b calls = ap (λ (v : View). v.made) calls.2.view ∙ calls_made cs a calls.0 calls.1
  calls_made (Tried i ∷ cs) a b calls = let does = calls.2.1.does in does.goes.adds.made ∙ calls_made cs a calls.0 calls.1

  pub calls_room : (cs : List TakingCall) (a b : Runner) → MakesCalls p cs a b → (hand_view b).room ≡ (hand_view a).room
  calls_room [] a b calls = ap (λ r. (hand_view r).room) calls
  calls_room (Took c n ∷ cs) a b calls = ap (λ (v : View). v.room) calls.2.view ∙ calls_room cs a calls.0 calls.1
  calls_room (Tried i ∷ cs) a b calls = let does = calls.2.1.does in does.goes.adds.room ∙ calls_room cs a calls.0 calls.1

  pub calls_joined : (cs : List TakingCall) (a b : Runner) → MakesCalls p cs a b → (hand_view b).joined ≡ (hand_view a).joined
  calls_joined [] a b calls = ap (λ r. (hand_view r).joined) calls
  calls_joined (Took c n ∷ cs) a b calls = ap (λ (v : View). v.joined) calls.2.view ∙ calls_joined cs a calls.0 calls.1
  calls_joined (Tried i ∷ cs) a b calls = let does = calls.2.1.does in does.goes.adds.joined ∙ calls_joined cs a calls.0 calls.1

  pub calls_lone : (cs : List TakingCall) (a b : Runner) → MakesCalls p cs a b → IsLone (hand_view a) → IsLone (hand_view b)
  calls_lone cs a b calls lone = record { root = calls_tag cs a b calls ∙ lone.root; alone = calls_made cs a b calls ∙ lone.alone }

  -- the places of a counter, where trying an event takes none
  calls_still : (i : ℕ) (a b : Runner) → (i < event_count p) × HasTriedOne p i a b → (hand_view b).places ≡ (hand_view a).places
  calls_still i a b tried = let does = tried.1.does in does.goes.adds.places

  pub calls_places : (cs : List TakingCall) (a b : Runner) → MakesCalls p cs a b → (c n : ℕ) → Contains (hand_view b).places (place c n) → Contains (hand_view a).places (place c n) ⊎ Contains cs (Took c n)
  calls_places = places_taken _ calls_still

  pub calls_hold : (cs : List TakingCall) (a b : Runner) → MakesCalls p cs a b → (x : Place) → Contains (hand_view a).places x → Contains (hand_view b).places x
  calls_hold = places_hold _ calls_still

  pub calls_times : (c l : ℕ) → c ≢ l → (cs : List TakingCall) (a b : Runner) → ((k n : ℕ) → Contains cs (Took k n) → k ≡ l) → MakesCalls p cs a b → times c (hand_view b).places ≡ times c (hand_view a).places
  calls_times = times_still _ calls_still

  pub calls_noted : (cs : List TakingCall) (a b : Runner) → MakesCalls p cs a b → IsTrailNoted (hand_view a) → IsTrailNoted (hand_view b)
  calls_noted [] a b calls noted = subst (λ r. IsTrailNoted (hand_view r)) (sym calls) noted
  calls_noted (Took c n ∷ cs) a b calls noted =
      subst IsTrailNoted (sym calls.2.view) (let before = calls_noted cs a calls.0 calls.1 noted in record { each = before.each })
  calls_noted (Tried i ∷ cs) a b calls noted = let does = calls.2.1.does in trail_noted does.goes (calls_noted cs a calls.0 calls.1 noted)
    where
      trail_noted : {v u : View} {xs : List Item} → AddsAndFrees v u xs → IsTrailNoted v → IsTrailNoted u
      trail_noted {v} {u} {xs} goes noted = record {
        each = λ t inside.
            subst (λ zs. Contains zs t) (sym goes.adds.notes)
            (elim (Contains-append_cases v.trail xs t (subst (λ zs. Contains zs t) goes.adds.trail inside)) [
              | inl found ↦ Contains-append_left v.notes xs t (noted.each t found)
              | inr found ↦ Contains-append_right v.notes xs t found
            ]);
      }

-- ---- levels of events

-- an operation of an event has it
pub one_home : (p : Plan) → IsPlan p → (i j o : ℕ) → i < event_count p → j < event_count p → InEvent p i o → InEvent p j o → i ≡ j
one_home p valid i j o first second here there = sym (of_event p i o valid first here) ∙ of_event p j o valid second there

-- a source is an operation of the plan, and its event is of a lower level
pub source_below : (p : Plan) → IsPlan p → IsGraph p → (i o s : ℕ) → i < event_count p → InEvent p i o → IsSourceOf p o s
    → (event_of p s < event_count p) × InEvent p (event_of p s) s × ((event_at p (event_of p s)).level < (event_at p i).level)
source_below p valid graph i o s lt inside source =
    let low : o < op_count p = in_range p i o valid lt inside in
    let home : event_of p o ≡ i = of_event p i o valid lt inside in
    let there = valid.numbering.placed s (source_precedes p o source.place s valid low source.in_places source.source_is).in_range in
    (there.0, there.1, subst (λ k. (event_at p (event_of p s)).level < (event_at p k).level) home (event_level-rises p valid graph o source.place s low source.in_places source.source_is))

-- ---- what is left

module _ (p : Plan) (valid : IsPlan p) (graph : IsGraph p) where
  -- a source of an event is not of an event of that level or above
  not_in : (i j o s : ℕ) → i < event_count p → j < event_count p → InEvent p i o → IsSourceOf p o s → InEvent p j s → (event_at p i).level ≤ (event_at p j).level → ⊥
  not_in i j o s lt less inside source there above =
      let is = source_below p valid graph i o s lt inside source in
      let same : event_of p s ≡ j = of_event p j s valid less there in
      let low = is.2 in
      let e : (event_at p (event_of p s)).level ≡ (event_at p j).level = ap (λ k. (event_at p k).level) same in
      absurd (omega arith)

  -- it stays true while the hand tries events of that level or above
  left_extends : (i j tag at : ℕ) (w : OpWord) (trail xs : List Item) → i < event_count p → j < event_count p → OwnIn p j xs → (event_at p i).level ≤ (event_at p j).level
      → IsLeft p i tag trail at w → IsLeft p i tag (trail ++ xs) at w
  left_extends i j tag at w trail xs lt less own above left =
      elim left [
        | inl source ↦
            inl (record {
              reader = source.reader;
              inside = source.inside;
              source = source.source;
              seen = Contains-append_left trail xs (loaded at w) source.seen;
              settled = source.settled;
              not_mine = λ t found mine here settled.
                  elim (Contains-append_cases trail xs t found) [
                    | inl old ↦ source.not_mine t old mine here settled
                    | inr new ↦ not_in i j source.reader at lt less source.inside source.source (subst (InEvent p j) here (own t new mine)) above
                  ];
            })
        | inr by ↦
            inr (record {
              inside = by.inside;
              seen = Contains-append_left trail xs (loaded at w) by.seen;
              cause = elim by.cause [ inl claimed ↦ inl claimed | inr shaken ↦ inr (shaken_more at shaken) ];
            })
      ]
    where
      shaken_more : (o : ℕ) → IsShaken p o trail → IsShaken p o (trail ++ xs)
      shaken_more o is = elim is [ inl here ↦ inl (disturbed_more xs here) | inr source ↦ inr (source.0, source.1, disturbed_more xs source.2) ]

  shaken_later : {o : ℕ} (xs ys : List Item) → IsShaken p o ys → IsShaken p o (xs ++ ys)
  shaken_later xs ys is = elim is [ inl here ↦ inl (disturbed_later xs here) | inr source ↦ inr (source.0, source.1, disturbed_later xs source.2) ]

  module _ (i : ℕ) (lt : i < event_count p) {v u : View} (noted : IsTrailNoted v) where
    -- the cause of an answer, in the hand's whole trail so far
    by_source : {at : ℕ} {w : OpWord} (does : TxnDoes p i v u (NotYet at w)) → IsSourceCause p i v u does.words at w → IsLeftBySource p i v.tag (v.trail ++ does.words) at w
    by_source {at} {w} does cause = record {
      reader = cause.reader;
      inside = cause.inside;
      source = cause.source;
      seen = Contains-append_right v.trail does.words (loaded at w) cause.seen;
      settled = cause.settled;
      not_mine = λ t found mine here settled.
          elim (Contains-append_cases v.trail does.words t found) [
            | inl old ↦
                let seen : IsSettledSeen v at = record { note = t; inside = noted.each t old; op_is = here; settled = settled } in
                false≢true (sym cause.settled ∙ ap (λ (x : OpWord). is_settled x.state) (load_is_settled does.goes seen cause.seen) ∙ settled)
            | inr new ↦ not_in i i cause.reader at lt lt cause.inside cause.source (subst (InEvent p i) here (does.own t new mine)) (same_level (event_at p i).level)
          ];
    }
      where
        same_level : (k : ℕ) → k ≤ k
        same_level k = omega arith

    left_fresh : (r : TxnAnswer) → (does : TxnDoes p i v u r) → (x : Left) → Contains (left_of i r) x → (x.event ≡ i) × IsLeft p i v.tag (v.trail ++ does.words) x.at x.word
    left_fresh (AllSettled committed) does x found = absurd (omega (arith, found.1))
    left_fresh (NotYet at w) does x found =
        elim (contains_cases (record { event = i; at = at; word = w; busy = false }) [] x found) [
          | inr none ↦ absurd (omega (arith, none.1))
          | inl same ↦ (
            ap (λ (y : Left). y.event) same,
            subst (λ (y : Left). IsLeft p i v.tag (v.trail ++ does.words) y.at y.word) (sym same)
                (elim does.tells.cause [
                  | inl source ↦ inl (by_source does source)
                  | inr shaken ↦
                      inr (record {
                        inside = shaken.inside;
                        seen = Contains-append_right v.trail does.words (loaded at w) shaken.seen;
                        cause = inr (shaken_later v.trail does.words shaken.shaken);
                      })
                ]),
          )
        ]
    left_fresh (Busy at w) does x found =
        elim (contains_cases (record { event = i; at = at; word = w; busy = true }) [] x found) [
          | inr none ↦ absurd (omega (arith, none.1))
          | inl same ↦ (
            ap (λ (y : Left). y.event) same,
            subst (λ (y : Left). IsLeft p i v.tag (v.trail ++ does.words) y.at y.word) (sym same)
                (let busy = does.tells.cause in
                inr (record {
                  inside = busy.inside;
                  seen = Contains-append_right v.trail does.words (loaded at w) busy.seen;
                  cause = inl (busy.claimed, busy.other);
                })),
          )
        ]

  pub calls_tried : (cs : List TakingCall) (a b : Runner) → MakesCalls p cs a b → (i : ℕ) → Contains cs (Tried i) → i < event_count p
  calls_tried [] a b calls i found = absurd (omega (arith, found.1))
  calls_tried (Took c n ∷ cs) a b calls i found =
      elim (contains_cases (Took c n) cs (Tried i) found) [
        | inl same ↦ absurd (apart same)
        | inr later ↦ calls_tried cs a calls.0 calls.1 i later
      ]
    where
      apart : Tried i ≡ Took c n → ⊥
      apart e = cc
  calls_tried (Tried j ∷ cs) a b calls i found =
      elim (contains_cases (Tried j) cs (Tried i) found) [
        | inl same ↦ subst (λ k. k < event_count p) (sym (event_is same)) calls.2.0
        | inr later ↦ calls_tried cs a calls.0 calls.1 i later
      ]
    where
      event_is : Tried i ≡ Tried j → i ≡ j
      event_is e = cc

  -- each cause that a runner kept is true of its trail in the end, if it tried events by rising level
  pub calls_left : (cs : List TakingCall) (a b : Runner) → IsTrailNoted (hand_view a) → a.kept.items ≡ [] → Rising p cs → MakesCalls p cs a b
      → (x : Left) → Contains b.kept.items x → Contains cs (Tried x.event) × IsLeft p x.event (hand_view b).tag (hand_view b).trail x.at x.word
  calls_left [] a b noted empty rising calls x found = absurd (contains_none x (subst (λ zs. Contains zs x) (ap (λ r. r.kept.items) calls ∙ empty) found))
  calls_left (Took c n ∷ cs) a b noted empty rising calls x found =
      let before = calls_left cs a calls.0 noted empty rising calls.1 x (subst (λ l. Contains l.items x) calls.2.kept found) in
      (contains_later (Took c n) cs (Tried x.event) before.0, subst (λ (v : View). IsLeft p x.event v.tag v.trail x.at x.word) (sym calls.2.view) before.1)
  calls_left (Tried j ∷ cs) a b noted empty rising calls x found =
      let does = calls.2.1.does in
      elim (Contains-append_cases calls.0.kept.items (left_of j calls.2.1.answer) x (subst (λ zs. Contains zs x) calls.2.1.kept found)) [
        | inl old ↦
            let before = calls_left cs a calls.0 noted empty rising.1 calls.1 x old in (
              contains_later (Tried j) cs (Tried x.event) before.0,
              subst (λ zs. IsLeft p x.event (hand_view b).tag zs x.at x.word) (sym does.goes.adds.trail)
                  (subst (λ t. IsLeft p x.event t ((hand_view calls.0).trail ++ does.words) x.at x.word) (sym does.goes.adds.tag)
                  (left_extends x.event j (hand_view calls.0).tag x.at x.word (hand_view calls.0).trail does.words (calls_tried cs a calls.0 calls.1 x.event before.0) calls.2.0 does.own (rising.0 x.event before.0) before.1)),
            )
        | inr new ↦
            let fresh = left_fresh j calls.2.0 (calls_noted p cs a calls.0 calls.1 noted) calls.2.1.answer does x new in (
              subst (λ k. Contains (Tried j ∷ cs) (Tried k)) (sym fresh.0) (contains_first (Tried j) cs),
              subst (λ k. IsLeft p k (hand_view b).tag (hand_view b).trail x.at x.word) (sym fresh.0)
                  (subst (λ t. IsLeft p j t (hand_view b).trail x.at x.word) (sym does.goes.adds.tag)
                  (subst (λ zs. IsLeft p j (hand_view calls.0).tag zs x.at x.word) (sym does.goes.adds.trail) fresh.1)),
            )
      ]
