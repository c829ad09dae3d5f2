-- How an event is settled as a whole.
use Rattle.std.proofs.Common.{◌≡◌, ◌≢◌, ◌⊎◌, ℕ, ◌+◌, ◌<◌, ◌≤◌, Bool, true, false, List, [], ◌++◌, refl, sym, ap, ◌∙◌, subst, inl, inr, arith, append_assoc, not-suc-le-zero, Option, Some, None, Result, Ok, Err}
use Rattle.std.specs.Prelude.{◌-◌, Contains, slice_index_or}
use Rattle.std.proofs.lemmas.Bool.{false≢true, cases_eq, cases_Bool}
use Rattle.std.proofs.lemmas.Option.{none-some, same_Some}
use Rattle.std.proofs.lemmas.List.Elements.{Contains-append_right, Contains-append_cases}
use Rattle.morph_base.specs.declared.limits.TheConstants.{EVENT_OPS}
use Rattle.morph_base.specs.declared.plan.Plan.{Plan}
use Rattle.morph_base.specs.declared.word.OpState.{OpState}
use Rattle.morph_base.specs.declared.word.OpWord.{OpWord}
use Rattle.morph_base.specs.Plans.{IsPlan, InEvent, event_at, op_count, event_count, event_of, verdict, final}
use Rattle.morph_base.specs.Clean.{outcome}
use Rattle.morph_base.specs.Words.{is_settled}
use Rattle.morph_base.proofs.OutcomeLaws.{source_precedes}
use Rattle.morph_base.proofs.KnownLaws.{final_committed}
use Rattle.interleaving_core.specs.Core.{has_run}
use Rattle.op_words.specs.declared.answers.SettleAnswer.TheVariants.{Done as HasSettledIt, Not as Unsettled}
use Rattle.op_words.specs.declared.answers.Decided.TheVariants.{Committed, Aborted, NotYet as Undecided}
use Rattle.op_words.specs.declared.trail.Item.{Item}
use Rattle.op_words.specs.declared.trail.View.{View}
use Rattle.op_words.specs.Trails.{loaded, left, HasLast, IsDisturbed, IsSourceOf, OwnOn, OwnIn, OwnOpen, NoneOwn, ComeFirst}
use Rattle.op_words.specs.Views.{Agrees, IsSettledSeen, IsLone, IsTrailNoted, AddsAndFrees}
use Rattle.op_words.specs.Calls.{IsSourceOpen}
use Rattle.op_words.specs.Judging.{IsOwnUnready, IsStaleWord, IsDone, IsOwnUnsettled, SettleDoes, DecideDoes, ConcludeDoes, IsOvertaken, SettleGoodDoes}
use Rattle.op_words.proofs.Trailing.{cases_word, calm_open, stays_or, disturbed_more, last_later, disturbed_later}
use Rattle.op_words.proofs.Adding.{adds_none, goes_then}
use Rattle.op_words.proofs.Judging.{run_unsettled}
use Rattle.op_eval.proofs.Following.{found_other, one_is_last, one_none, open_append, none_open}
use Rattle.abort_lazy.specs.declared.transaction.standing.Grounds.{Grounds}
use Rattle.abort_lazy.specs.declared.transaction.standing.Say.{Say}
use Rattle.abort_lazy.specs.declared.transaction.standing.Say.TheVariants.{Commit, Abort, Decided as IsDecidedNow}
use Rattle.abort_lazy.specs.declared.transaction.standing.Standing.{Standing}
use Rattle.abort_lazy.specs.declared.transaction.standing.Standing.TheVariants.{Good as StandsGood, Bad as StandsBad, Settled as IsSettledNow, Stopped}
use Rattle.abort_lazy.specs.declared.transaction.TxnAnswer.{TxnAnswer}
use Rattle.abort_lazy.specs.declared.transaction.TxnAnswer.TheVariants.{Settled as AllSettled, NotYet, Busy}
use Rattle.abort_lazy.specs.Transactions.{IsSettledOn, StopsAt, TxnDoes}
use Rattle.abort_lazy.specs.Progress.{no_word, word_at, LetsPass, HasHeard, SayTells, SaysSo, IsGoodLast, IsDealtWith, StopsWithCause, ReadyDoes, AllReadyDoes, IsReadyUpTo, DecidedDoes, DecidedTells, IsDecidedBy, IsReadyBy, CanBeSettledFrom, IsOneSettled, OneDoes, OneTells, RestDoes, IsSettledUpTo}
use Rattle.abort_lazy.proofs.Carrying.{seen_more, more_note, judged_more, good_at_more, answer_more, found_seen, found_note, lone_undisturbed}
use Rattle.abort_lazy.proofs.Stopping.{source_open_later, stop_source, stop_busy, stop_shaken, stops_later, ready_more, good_more, by_more, undecided_disturbed, unsettled_disturbed}
use Rattle.abort_lazy.proofs.Readying.{cases_claimed}

run_open : (s : OpState) → has_run s ≡ true → is_settled s ≡ true → ⊥
run_open s ran settled = false≢true (sym (run_unsettled s ran) ∙ settled)

pub come_first : (p : Plan) (o : ℕ) → IsPlan p → o < op_count p → ComeFirst p o
come_first p o valid lt s source = (source_precedes p o source.place s valid lt source.in_places source.source_is).number_before

pub in_range : (p : Plan) (i o : ℕ) → IsPlan p → i < event_count p → InEvent p i o → o < op_count p
in_range p i o valid lt inside = (valid.numbering.owned i o lt inside).0

pub of_event : (p : Plan) (i o : ℕ) → IsPlan p → i < event_count p → InEvent p i o → event_of p o ≡ i
of_event p i o valid lt inside = (valid.numbering.owned i o lt inside).1

pub few_ops : (p : Plan) (i : ℕ) → IsPlan p → i < event_count p → (event_at p i).count ≤ EVENT_OPS
few_ops p i valid lt = (valid.numbering.counts i lt).1

-- nothing yet
pub goes_none : {v : View} → v.claim ≡ None → Agrees v → AddsAndFrees v v []
goes_none {v} free agree = record { adds = adds_none v agree; free = free }

-- another operation is at most loaded while one is made ready
others_loaded : {p : Plan} {i op o : ℕ} {v u : View} {r : Standing} (does : ReadyDoes p i op v u r) → o ≢ op → (t : Item) → Contains does.words t → t.op ≡ o → t.own ≡ false
others_loaded {op = op} {o = o} does other t inside same = not_own t.own refl
  where
    not_own : (b : Bool) → t.own ≡ b → t.own ≡ false
    not_own true is = let op_is : t.op ≡ op = does.far.own t inside is in absurd (other (sym same ∙ op_is))
    not_own false is = is

-- one more operation is ready
pub all_ready_more : (p : Plan) (i first op : ℕ) {start v u : View} {xs : List Item} {r : Standing} → AddsAndFrees start v xs → ((o : ℕ) → first ≤ o → o < op → IsDealtWith p o v xs) → (does : ReadyDoes p i op v u r) → LetsPass r
    → (o : ℕ) → first ≤ o → o < op + 1 → IsDealtWith p o u (xs ++ does.words)
all_ready_more p i first op {start} {v} {u} {xs} goes ready does goes_on o from below =
    elim (cases_eq o op) [
      | inr other ↦ ready_more does.far.goes xs (others_loaded does other) (ready o from (omega arith))
      | inl same ↦ subst (λ n. IsDealtWith p n u (xs ++ does.words)) (sym same) (now (does.dealt goes_on))
    ]
  where
    now : IsDealtWith p op u does.words → IsDealtWith p op u (xs ++ does.words)
    now is =
        elim is [
          | inl seen ↦ inl seen
          | inr rest ↦
              elim rest [
                | inr there ↦ inr (inr (disturbed_later xs there))
                | inl judged ↦ inr (inl (record { word = judged.word; last = last_later xs judged.last; judged = judged.judged; fails = judged.fails }))
              ]
        ]

-- what the operations say, with one more of them
module _ (p : Plan) (i first op : ℕ) (begins : first ≡ (event_at p i).first) (from : first ≤ op) (inside : InEvent p i op) {start v u : View} {xs : List Item} (goes : AddsAndFrees start v xs) where
  good_now : {w : OpWord} (does : ReadyDoes p i op v u (StandsGood w)) → IsGoodLast p op u (xs ++ does.words) w
  good_now does = record {
    last = elim does.tells.last [ inl last ↦ inl (last_later xs last) | inr there ↦ inr (disturbed_later xs there) ];
    good = does.tells.good;
    answers = does.tells.answers;
  }

  says_good : {w : OpWord} (does : ReadyDoes p i op v u (StandsGood w)) (g h : Grounds) → slice_index_or h.words (op - first) no_word ≡ w
      → ((k : ℕ) → k ≢ op - first → slice_index_or h.words k no_word ≡ slice_index_or g.words k no_word) → (s : Say)
      → SayTells p i (λ o. (first ≤ o) × (o < op)) v xs g s → SayTells p i (λ o. (first ≤ o) × (o < op + 1)) u (xs ++ does.words) h s
  says_good does g h here others Commit says = λ o meant.
      elim (cases_eq o op) [
        | inl same ↦
            subst (λ n. IsGoodLast p n u (xs ++ does.words) (word_at p i h n)) (sym same)
            (subst (IsGoodLast p op u (xs ++ does.words)) (sym here ∙ ap (λ n. slice_index_or h.words (op - n) no_word) begins) (good_now does))
        | inr other ↦
            let low = meant.0 in let high = meant.1 in
            let apart : o - (event_at p i).first ≢ op - first = λ same. other (omega (arith, same, begins, low, from)) in
            subst (IsGoodLast p o u (xs ++ does.words)) (sym (others (o - (event_at p i).first) apart))
            (good_more does.far.goes xs (others_loaded does other) (says o (low, omega (arith, high, other))))
      ]
  says_good does g h here others Abort says = (says.0, says.1, answer_more does.far.goes says.2)
  says_good does g h here others IsDecidedNow says = tt

  says_more : (r : Standing) (does : ReadyDoes p i op v u r) (g h : Grounds) → HasHeard (op - first) r g h None
      → SayTells p i (λ o. (first ≤ o) × (o < op)) v xs g g.say → SayTells p i (λ o. (first ≤ o) × (o < op + 1)) u (xs ++ does.words) h h.say
  says_more (StandsGood w) does g h heard says =
      subst (SayTells p i (λ o. (first ≤ o) × (o < op + 1)) u (xs ++ does.words) h) (sym heard.1) (says_good does g h heard.3 heard.4 g.say says)
  says_more StandsBad does g h heard says = subst (SayTells p i (λ o. (first ≤ o) × (o < op + 1)) u (xs ++ does.words) h) (sym heard.1) (op, inside, does.tells)
  says_more IsSettledNow does g h heard says = subst (SayTells p i (λ o. (first ≤ o) × (o < op + 1)) u (xs ++ does.words) h) (sym heard.1) tt
  says_more (Stopped a) does g h heard says = absurd (none-some a heard)

-- a standing that was heard with no answer goes on, and one that stops is the answer
heard_on : (n : ℕ) (r : Standing) (g h : Grounds) → HasHeard n r g h None → LetsPass r
heard_on n (StandsGood w) g h heard = tt
heard_on n StandsBad g h heard = tt
heard_on n IsSettledNow g h heard = tt
heard_on n (Stopped a) g h heard = absurd (none-some a heard)

heard_stop : (n : ℕ) (r : Standing) (g h : Grounds) (a : TxnAnswer) → HasHeard n r g h (Some a) → r ≡ Stopped a
heard_stop n (StandsGood w) g h a heard = absurd (none-some a (sym heard.0))
heard_stop n StandsBad g h a heard = absurd (none-some a (sym heard.0))
heard_stop n IsSettledNow g h a heard = absurd (none-some a (sym heard.0))
heard_stop n (Stopped b) g h a heard = ap Stopped (sym (same_Some a b heard))

-- one operation of a decided event, settled as it is found
run_from : (p : Plan) (i : ℕ) (g : Grounds) (s : Say) (o : ℕ) (w : OpWord) → s ≢ Commit → CanBeSettledFrom p i g s o w → has_run w.state ≡ true
run_from p i g Commit o w other can = absurd (other refl)
run_from p i g Abort o w other can = can
run_from p i g IsDecidedNow o w other can = can

dealt_by : (p : Plan) (i : ℕ) (g : Grounds) (s : Say) (o : ℕ) (v : View) (xs : List Item) → s ≢ Commit → IsReadyBy p i g s o v xs → IsDealtWith p o v xs
dealt_by p i g Commit o v xs other ready = absurd (other refl)
dealt_by p i g Abort o v xs other ready = ready
dealt_by p i g IsDecidedNow o v xs other ready = ready

module _ (p : Plan) (cap i o : ℕ) (valid : IsPlan p) (lt : o < op_count p) (inside : InEvent p i o) (g : Grounds) (by_board : g.say ≢ Commit) {v u : View} where
  pub one_done : {x : ℕ} → SettleDoes p cap o v u (HasSettledIt x) → OneDoes p i g o v u None
  one_done does = record { words = does.words; goes = does.goes; own = does.own; tells = settled does.tells }
    where
      settled : {x : ℕ} → IsDone p cap o v u does.words x → IsOneSettled p i g o v u does.words
      settled is = record {
        seen = found_seen does.goes (left o is.word) is.inside refl is.settled;
        from = λ xs w last can.
            elim (cases_word w is.first) [
              | inl same ↦ inr (ap (λ (y : OpWord). y.attempt) (found_note does.goes (left o is.word) is.inside refl is.settled) ∙ is.kept ∙ ap (λ (y : OpWord). y.attempt) (sym same))
              | inr differs ↦ inl (record { before = xs; known = w; found = is.first; rest = is.rest; split = ap (λ zs. xs ++ zs) is.begins; last = last; differs = differs })
            ];
      }

  pub one_source : {at : ℕ} {w : OpWord} → at ≢ o → SettleDoes p cap o v u (Unsettled at w) → OneDoes p i g o v u (Some (NotYet at w))
  one_source {at} {w} other does =
      elim does.tells [
        | inl own ↦ absurd (other own.0)
        | inr source ↦
            record {
              words = does.words;
              goes = does.goes;
              own = does.own;
              tells = λ start xs far ready. stop_source p i (goes_then far does.goes) inside (source_open_later {start = start} xs source.1);
            }
      ]

  pub one_own : {at : ℕ} {w : OpWord} {r : Option TxnAnswer} → at ≡ o → SettleDoes p cap o v u (Unsettled at w) → StopsAt o w r → OneDoes p i g o v u r
  one_own {at} {w} {r} same does stops =
      elim does.tells [
        | inr source ↦ absurd (source.0 same)
        | inl own ↦
            record {
              words = does.words;
              goes = does.goes;
              own = does.own;
              tells =
                  elim (cases_Bool (is_settled w.state)) [
                    | inl settled ↦ subst (OneTells p i g o v u does.words) (sym (stops.settled settled)) (passed own.1 settled)
                    | inr open' ↦
                        elim (cases_claimed w.state) [
                          | inl claimed ↦
                              subst (OneTells p i g o v u does.words) (sym (stops.claimed claimed))
                              (λ start xs far ready.
                              stop_busy p i (goes_then far does.goes) inside (last_later xs own.1.last) (Contains-append_right xs does.words (loaded o w) own.1.seen) claimed)
                          | inr free ↦
                              subst (OneTells p i g o v u does.words) (sym (stops.other open' free))
                              (λ start xs far ready.
                              stop_shaken p i (goes_then far does.goes) inside (last_later xs own.1.last) (Contains-append_right xs does.words (loaded o w) own.1.seen) open'
                              (inl (unsettled_disturbed does.goes xs answers free open' (dealt_by p i g g.say o v xs by_board ready) own.1)))
                        ]
                  ];
            }
      ]
    where
      passed : IsOwnUnsettled p cap o v u does.words w → is_settled w.state ≡ true → IsOneSettled p i g o v u does.words
      passed own settled = record {
        seen = found_seen does.goes (loaded o w) own.seen refl settled;
        from = λ xs z last can.
            let ran = run_from p i g g.say o z by_board can in
            inl (found_other xs does.words last own.last (λ same. run_open w.state (sym (ap (λ (y : OpWord). has_run y.state) same) ∙ ran) settled) own.none);
      }

      answers : verdict p (event_of p o) ≡ true → outcome p (final p) o ≡ None → ⊥
      answers commits fails = none-some (final p o) (sym fails ∙ final_committed p valid o lt commits)

-- one operation of an event that commits by its grounds, settled from the word at which it was judged
word_is : (p : Plan) (i o : ℕ) (g : Grounds) → g.say ≡ Commit → (w z : OpWord) → w ≡ word_at p i g o → CanBeSettledFrom p i g g.say o z → w ≡ z
word_is p i o g commits w z judged_at can = judged_at ∙ sym (subst (λ s. CanBeSettledFrom p i g s o z) commits can)

module _ (p : Plan) (i o : ℕ) (inside : InEvent p i o) (g : Grounds) (commits : g.say ≡ Commit) (w : OpWord) (judged_at : w ≡ word_at p i g o) {v u : View} where
  pub one_good_done : {x : ℕ} → SettleGoodDoes p o v u w (HasSettledIt x) → OneDoes p i g o v u None
  one_good_done does = record {
    words = does.words;
    goes = does.goes;
    own = does.own;
    tells = record {
      seen = found_seen does.goes (left o does.tells.word) there refl does.tells.settled;
      from = λ xs z last can. inr (ap (λ (y : OpWord). y.attempt) (found_note does.goes (left o does.tells.word) there refl does.tells.settled) ∙ does.tells.kept ∙ ap (λ (y : OpWord). y.attempt) (word_is p i o g commits w z judged_at can));
    };
  }
    where
      there : Contains does.words (left o does.tells.word)
      there = subst (λ zs. Contains zs (left o does.tells.word)) (sym does.tells.words_are) (0, omega arith, refl)

  pub one_good_other : {at : ℕ} {z : OpWord} {r : Option TxnAnswer} → SettleGoodDoes p o v u w (Unsettled at z) → StopsAt o z r → OneDoes p i g o v u r
  one_good_other {at} {z} {r} does stops = record {
    words = does.words;
    goes = does.goes;
    own = does.own;
    tells =
        elim (cases_Bool (is_settled z.state)) [
          | inl settled ↦
              subst (OneTells p i g o v u does.words) (sym (stops.settled settled))
              (record {
                seen = found_seen does.goes (loaded o z) there refl settled;
                from = λ xs y before can. inl (found_other xs does.words before last (λ same. other.differs (sym (word_is p i o g commits w y judged_at can ∙ same))) none);
              })
          | inr open' ↦
              elim (cases_claimed z.state) [
                | inl claimed ↦
                    subst (OneTells p i g o v u does.words) (sym (stops.claimed claimed))
                    (λ start xs far ready. stop_busy p i (goes_then far does.goes) inside (last_later xs last) (Contains-append_right xs does.words (loaded o z) there) claimed)
                | inr free ↦
                    subst (OneTells p i g o v u does.words) (sym (stops.other open' free))
                    (λ start xs far ready. stop_shaken p i (goes_then far does.goes) inside (last_later xs last) (Contains-append_right xs does.words (loaded o z) there) open' (inl (disturbed xs ready)))
              ]
        ];
  }
    where
      other : IsOvertaken o does.words w z
      other = does.tells.1

      last : HasLast o does.words z
      last = subst (λ zs. HasLast o zs z) (sym other.words_are) (one_is_last (loaded o z))

      none : NoneOwn does.words
      none = subst NoneOwn (sym other.words_are) (one_none (loaded o z) refl)

      there : Contains does.words (loaded o z)
      there = subst (λ zs. Contains zs (loaded o z)) (sym other.words_are) (0, omega arith, refl)

      disturbed : (xs : List Item) → IsReadyBy p i g g.say o v xs → IsDisturbed o (xs ++ does.words)
      disturbed xs ready =
          elim (subst (λ s. IsReadyBy p i g s o v xs) commits ready) [
            | inl before ↦ found_other xs does.words before last (λ same. other.differs (sym (judged_at ∙ same))) none
            | inr shaken ↦ disturbed_more does.words shaken
          ]

-- own steps on one operation of the event are on the event's
event_own : (p : Plan) (i op : ℕ) → InEvent p i op → (xs ys : List Item) → OwnIn p i xs → OwnOn op ys → OwnIn p i (xs ++ ys)
event_own p i op inside xs ys first second t found is =
    elim (Contains-append_cases xs ys t found) [ inl early ↦ first t early is | inr late ↦ subst (InEvent p i) (sym (second t late is)) inside ]

in_append : (p : Plan) (i : ℕ) (xs ys : List Item) → OwnIn p i xs → OwnIn p i ys → OwnIn p i (xs ++ ys)
in_append p i xs ys first second t found is = elim (Contains-append_cases xs ys t found) [ inl early ↦ first t early is | inr late ↦ second t late is ]

in_none : (p : Plan) (i : ℕ) (xs : List Item) → NoneOwn xs → OwnIn p i xs
in_none p i xs none t found is = absurd (false≢true (sym (none t found) ∙ is))

-- ---- the loops

pub ready_none : (p : Plan) (i first : ℕ) (v : View) (g : Grounds) → g.say ≡ Commit → v.claim ≡ None → Agrees v → IsReadyUpTo p i first first v v g
ready_none p i first v g commits free agree = record {
  words = [];
  goes = goes_none free agree;
  open_own = λ t found is. absurd (not-suc-le-zero found.1);
  own = λ t found is. absurd (not-suc-le-zero found.1);
  ready = λ o from below. absurd (omega arith);
  says = subst (SayTells p i (λ o. (first ≤ o) × (o < first)) v [] g) (sym commits) (λ o meant. let low = meant.0 in let high = meant.1 in absurd (omega (arith, low, high)));
}

pub ready_up : (p : Plan) (i first op : ℕ) {start v u : View} {r : Standing} {g h : Grounds} → first ≡ (event_at p i).first → first ≤ op → InEvent p i op → IsReadyUpTo p i first op start v g → ReadyDoes p i op v u r
    → HasHeard (op - first) r g h None → IsReadyUpTo p i first (op + 1) start u h
ready_up p i first op {r = r} {g = g} {h = h} begins from inside up does heard = record {
  words = up.words ++ does.words;
  goes = goes_then up.goes does.far.goes;
  open_own = open_append up.words does.words up.open_own does.far.open_own;
  own = event_own p i op inside up.words does.words up.own does.far.own;
  ready = all_ready_more p i first op up.goes up.ready does (heard_on (op - first) r g h heard);
  says = says_more p i first op begins from inside up.goes r does g h heard up.says;
}

pub ready_stops : (p : Plan) (i first op n : ℕ) {start v u : View} {r : Standing} {g h : Grounds} {a : TxnAnswer} → InEvent p i op → IsReadyUpTo p i first op start v g → ReadyDoes p i op v u r → HasHeard n r g h (Some a)
    → AllReadyDoes p i start u h (Some a)
ready_stops p i first op n {v = v} {u = u} {r = r} {g = g} {h = h} {a = a} inside up does heard =
    let stops : ReadyDoes p i op v u (Stopped a) = subst (ReadyDoes p i op v u) (heard_stop n r g h a heard) does in
    record {
      words = up.words ++ stops.words;
      goes = goes_then up.goes stops.far.goes;
      open_own = open_append up.words stops.words up.open_own stops.far.open_own;
      own = event_own p i op inside up.words stops.words up.own stops.far.own;
      tells = stops_later up.goes stops.tells;
    }

pub ready_end : (p : Plan) (i first op : ℕ) {start u : View} {g : Grounds} → first ≡ (event_at p i).first → op ≡ (event_at p i).first + (event_at p i).count → IsReadyUpTo p i first op start u g
    → AllReadyDoes p i start u g None
ready_end p i first op {u = u} {g = g} begins ends up = record {
  words = up.words;
  goes = up.goes;
  open_own = up.open_own;
  own = up.own;
  tells = record { each = λ o inside. let m = meant o inside in up.ready o m.0 m.1; says = says_all g.say up.says };
}
  where
    meant : (o : ℕ) → InEvent p i o → (first ≤ o) × (o < op)
    meant o inside = let from = inside.from in let below = inside.below in (omega arith, omega arith)

    says_all : (s : Say) → SayTells p i (λ o. (first ≤ o) × (o < op)) u up.words g s → SayTells p i (InEvent p i) u up.words g s
    says_all Commit says = λ o inside. says o (meant o inside)
    says_all Abort says = says
    says_all IsDecidedNow says = says

-- what the hand has seen says so
pub says_so : (p : Plan) (i : ℕ) (u : View) (xs : List Item) (g : Grounds) (s : Say) → SayTells p i (InEvent p i) u xs g s → SaysSo p i u s
says_so p i u xs g Commit says = λ o inside. (says o inside).answers
says_so p i u xs g Abort says = says
says_so p i u xs g IsDecidedNow says = tt

pub settled_none : (p : Plan) (i first : ℕ) (v : View) (g : Grounds) → v.claim ≡ None → Agrees v → IsSettledUpTo p i g first first v v
settled_none p i first v g free agree = record { words = []; goes = goes_none free agree; settled = λ o from below. absurd (omega arith); own = λ t found. absurd (not-suc-le-zero found.1); within = λ t found is. absurd (not-suc-le-zero found.1) }

pub settled_up : (p : Plan) (i first op : ℕ) (g : Grounds) {begin v u : View} → InEvent p i op → IsSettledUpTo p i g first op begin v → OneDoes p i g op v u None → IsSettledUpTo p i g first (op + 1) begin u
settled_up p i first op g {begin} {v} {u} inside up does = record {
  within = event_own p i op inside up.words does.words up.within does.own;
  words = up.words ++ does.words;
  goes = goes_then up.goes does.goes;
  settled = λ o from below.
      elim (cases_eq o op) [
        | inl same ↦ subst (λ n. IsOneSettled p i g n begin u (up.words ++ does.words)) (sym same) (now does.tells)
        | inr other ↦ before o (up.settled o from (omega arith))
      ];
  own = λ t inside is.
      elim (Contains-append_cases up.words does.words t inside) [
        | inl found ↦ let less = up.own t found is in omega arith
        | inr found ↦ let same : t.op ≡ op = does.own t found is in omega arith
      ];
}
  where
    now : IsOneSettled p i g op v u does.words → IsOneSettled p i g op begin u (up.words ++ does.words)
    now is = record {
      seen = is.seen;
      from = λ xs w last can.
          subst (λ zs. IsDisturbed op zs ⊎ (is.seen.note.word.attempt ≡ w.attempt)) (append_assoc xs up.words does.words)
          (elim (stays_or xs up.words last (λ t found same. not_own t found same t.own refl)) [
            | inl still ↦ is.from (xs ++ up.words) w still can
            | inr there ↦ inl (disturbed_more does.words there)
          ]);
    }
      where
        not_own : (t : Item) → Contains up.words t → t.op ≡ op → (b : Bool) → t.own ≡ b → t.own ≡ false
        not_own t found same true is = let less = up.own t found is in absurd (omega arith)
        not_own t found same false is = is

    before : (o : ℕ) → IsOneSettled p i g o begin v up.words → IsOneSettled p i g o begin u (up.words ++ does.words)
    before o is = record {
      seen = seen_more does.goes is.seen;
      from = λ xs w last can.
          elim (is.from xs w last can) [
            | inr kept ↦ inr (more_note does.goes is.seen ∙ kept)
            | inl there ↦ inl (subst (IsDisturbed o) (append_assoc xs up.words does.words) (disturbed_more does.words there))
          ];
    }

-- an operation at or after `op` that was ready is ready still
pub settled_stops : (p : Plan) (i first op : ℕ) (g : Grounds) {begin v u : View} {r : TxnAnswer} → InEvent p i op → IsSettledUpTo p i g first op begin v → OneDoes p i g op v u (Some r) → RestDoes p i g begin u (Some r)
settled_stops p i first op g {begin} {v} {u} {r} inside up does = record {
  words = up.words ++ does.words;
  own = event_own p i op inside up.words does.words up.within does.own;
  goes = goes_then up.goes does.goes;
  tells = λ start xs far ready.
      subst (λ zs. StopsWithCause p i start u zs r) (append_assoc xs up.words does.words)
      (does.tells start (xs ++ up.words) (goes_then far up.goes)
      (by_more p i g g.say up.goes xs (λ t found here. not_own t found here t.own refl) (ready op inside)));
}
  where
    not_own : (t : Item) → Contains up.words t → t.op ≡ op → (b : Bool) → t.own ≡ b → t.own ≡ false
    not_own t found same true is = let less = up.own t found is in absurd (omega arith)
    not_own t found same false is = is

pub settled_end : (p : Plan) (i first op : ℕ) (g : Grounds) {begin u : View} → first ≡ (event_at p i).first → op ≡ (event_at p i).first + (event_at p i).count → IsSettledUpTo p i g first op begin u → RestDoes p i g begin u None
settled_end p i first op g begins ends up = record { words = up.words; goes = up.goes; own = up.within; tells = λ o inside. let from = inside.from in let below = inside.below in up.settled o (omega arith) (omega arith) }

-- what is known of a decided event stays known
pub decided_more : (p : Plan) (i : ℕ) (g : Grounds) {v u : View} {xs : List Item} → AddsAndFrees v u xs → IsDecidedBy p i v g → IsDecidedBy p i u g
decided_more p i g goes is = record {
  committed = is.committed;
  known = goes.adds.decisions _ is.known;
  commits = is.commits;
  good = λ commits o inside. good_at_more goes (is.good commits o inside);
}

-- ---- the decision

-- it was decided by its grounds
pub concluded : (p : Plan) (i : ℕ) {v u : View} {b : Bool} → ConcludeDoes p i v u b → DecidedDoes p i v u (Ok b)
concluded p i does = record { words = []; goes = does.goes; none = λ t found. absurd (not-suc-le-zero found.1); tells = record { right = sym does.right; known = does.known } }

module _ (p : Plan) (cap i : ℕ) {v u : View} where
  pub committed : DecideDoes p cap i v u Committed → DecidedDoes p i v u (Ok true)
  committed does = record { words = does.words; goes = does.goes; none = does.none; tells = record { right = sym does.tells.right; known = does.tells.known } }

  pub aborted : DecideDoes p cap i v u Aborted → DecidedDoes p i v u (Ok false)
  aborted does = record { words = does.words; goes = does.goes; none = does.none; tells = record { right = sym does.tells.right; known = does.tells.known } }

  -- an event that an operation was seen settled of is decided
  pub undecided_never : {at o : ℕ} {w : OpWord} → DecideDoes p cap i v u (Undecided at w) → InEvent p i o → IsSettledSeen v o → ⊥
  undecided_never {at} {o} does inside seen = does.tells.none_settled o inside seen

  -- it waits for a source
  pub waits_source : {at : ℕ} {w : OpWord} → IsPlan p → i < event_count p → at < (event_at p i).first → DecideDoes p cap i v u (Undecided at w) → DecidedDoes p i v u (Err (NotYet at w))
  waits_source {at} {w} valid lt before does = record {
    words = does.words;
    goes = does.goes;
    none = does.none;
    tells = λ start xs far ready.
        elim does.tells.cause [
          | inl own ↦ let from = does.tells.inside.from in let same : at ≡ does.tells.culprit = own.0 in absurd (omega arith)
          | inr source ↦ stop_source p i (goes_then far does.goes) does.tells.inside (source_open_later {start = start} xs source)
        ];
  }

  -- one of its own operations stopped it
  pub waits_own : {at : ℕ} {w : OpWord} {r : TxnAnswer} → IsPlan p → i < event_count p → (event_at p i).first ≤ at → DecideDoes p cap i v u (Undecided at w) → StopsAt at w (Some r) → DecidedDoes p i v u (Err r)
  waits_own {at} {w} {r} valid lt from does stops = record {
    words = does.words;
    goes = does.goes;
    none = does.none;
    tells = λ start xs far ready.
        elim does.tells.cause [
          | inr source ↦ absurd (not_source source.source)
          | inl own ↦
              let same : at ≡ does.tells.culprit = own.0 in
              let disturbed : IsDisturbed does.tells.culprit (xs ++ does.words) =
              undecided_disturbed does.goes xs does.none (does.tells.none_settled does.tells.culprit does.tells.inside) (ready does.tells.culprit does.tells.inside) own.1 in
              let here : InEvent p i at = subst (InEvent p i) (sym same) does.tells.inside in
              let last : HasLast at does.words w = subst (λ o. HasLast o does.words w) (sym same) (last_of own.1) in
              let whole = goes_then far does.goes in
              let there : Contains (xs ++ does.words) (loaded at w) = Contains-append_right xs does.words (loaded at w) (subst (λ o. Contains does.words (loaded o w)) (sym same) (seen_of own.1)) in
              elim (cases_Bool (is_settled w.state)) [
                | inl settled ↦ absurd (none-some r (sym (stops.settled settled)))
                | inr open' ↦
                    elim (cases_claimed w.state) [
                      | inl claimed ↦
                          subst (StopsWithCause p i start u (xs ++ does.words)) (sym (same_Some r (Busy at w) (stops.claimed claimed)))
                          (stop_busy p i whole here (last_later xs last) there claimed)
                      | inr free ↦
                          subst (StopsWithCause p i start u (xs ++ does.words)) (sym (same_Some r (NotYet at w) (stops.other open' free)))
                          (stop_shaken p i whole here (last_later xs last) there open' (inl (subst (λ o. IsDisturbed o (xs ++ does.words)) (sym same) disturbed)))
                    ]
              ]
        ];
  }
    where
      not_source : IsSourceOf p does.tells.culprit at → ⊥
      not_source source =
          let inside = does.tells.inside in
          let precedes = source_precedes p does.tells.culprit source.place at valid (in_range p i does.tells.culprit valid lt inside) source.in_places source.source_is in
          let event : event_of p does.tells.culprit ≡ i = (valid.numbering.owned i does.tells.culprit lt inside).1 in
          let below = inside.below in
          let number = precedes.number_before in
          let here : InEvent p i at = record { from = from; below = omega arith } in
          let own : event_of p at ≡ i = (valid.numbering.owned i at lt here).1 in
          let before = precedes.event_before in
          absurd (omega arith)

      last_of : IsOwnUnready p cap does.tells.culprit v u does.words w ⊎ IsStaleWord p cap does.tells.culprit v u does.words w
          → HasLast does.tells.culprit does.words w
      last_of is = elim is [ inl own ↦ own.last | inr stale ↦ stale.stale.last ]

      seen_of : IsOwnUnready p cap does.tells.culprit v u does.words w ⊎ IsStaleWord p cap does.tells.culprit v u does.words w
          → Contains does.words (loaded does.tells.culprit w)
      seen_of is = elim is [ inl own ↦ own.seen | inr stale ↦ stale.stale.seen ]

  -- one of them was found settled
  pub waits_settled : {at : ℕ} {w : OpWord} → IsPlan p → i < event_count p → (event_at p i).first ≤ at → DecideDoes p cap i v u (Undecided at w) → StopsAt at w None → (o : ℕ) × InEvent p i o × IsSettledSeen u o
  waits_settled {at} {w} valid lt from does stops = (does.tells.culprit, does.tells.inside, seen does.tells.cause)
    where
      settled : is_settled w.state ≡ true
      settled =
          elim (cases_Bool (is_settled w.state)) [
            | inl is ↦ is
            | inr open' ↦
                elim (cases_claimed w.state) [
                  | inl claimed ↦ absurd (none-some (Busy at w) (stops.claimed claimed))
                  | inr free ↦ absurd (none-some (NotYet at w) (stops.other open' free))
                ]
          ]

      seen : ((at ≡ does.tells.culprit) × (IsOwnUnready p cap does.tells.culprit v u does.words w ⊎ IsStaleWord p cap does.tells.culprit v u does.words w))
          ⊎ IsSourceOpen p cap does.tells.culprit v u does.words at w → IsSettledSeen u does.tells.culprit
      seen is =
          elim is [
            | inr source ↦ absurd (false≢true (sym source.settled ∙ settled))
            | inl own ↦
                elim own.1 [
                  | inl unready ↦ found_seen does.goes (loaded does.tells.culprit w) unready.seen refl settled
                  | inr stale ↦ absurd (run_open w.state stale.stale.ran settled)
                ]
          ]

-- deciding again
pub decided_then : (p : Plan) (i : ℕ) {v m u : View} {xs : List Item} {r : Result Bool TxnAnswer} → AddsAndFrees v m xs → NoneOwn xs → DecidedDoes p i m u r → DecidedDoes p i v u r
decided_then p i {v} {m} {u} {xs} {r} goes none does = record {
  words = xs ++ does.words;
  goes = goes_then goes does.goes;
  none = λ t inside. elim (Contains-append_cases xs does.words t inside) [ inl found ↦ none t found | inr found ↦ does.none t found ];
  tells = at r does.tells;
}
  where
    at : (r : Result Bool TxnAnswer) → DecidedTells p i m u does.words r → DecidedTells p i v u (xs ++ does.words) r
    at (Ok b) is = is
    at (Err a) is = λ start ys far ready.
        subst (λ zs. StopsWithCause p i start u zs a) (append_assoc ys xs does.words)
        (is start (ys ++ xs) (goes_then far goes) (λ o within. ready_more goes ys (λ t found same. none t found) (ready o within)))

-- ---- the whole

-- a lone root whose own steps settle nothing comes to see nothing settled
lone_unseen : {v u : View} {xs : List Item} → AddsAndFrees v u xs → IsLone v → IsTrailNoted v → OwnOpen xs → (o : ℕ) → (IsSettledSeen v o → ⊥) → IsSettledSeen u o → ⊥
lone_unseen {v} {u} {xs} goes alone trail open_own o unseen seen =
    elim (Contains-append_cases v.notes xs seen.note (subst (λ zs. Contains zs seen.note) goes.adds.notes seen.inside)) [
      | inl before ↦ unseen (record { note = seen.note; inside = before; op_is = seen.op_is; settled = seen.settled })
      | inr found ↦
          calm_open o v.trail xs (goes.adds.calm alone) (λ t inside own here. open_own t inside own) (λ t inside same is. unseen (record { note = t; inside = trail.each t inside; op_is = same; settled = is })) seen.note
          (Contains-append_right v.trail xs seen.note found) seen.op_is seen.settled
    ]

txn_stops : {p : Plan} {i : ℕ} {v u : View} (xs : List Item) {r : TxnAnswer} → AddsAndFrees v u xs → OwnIn p i xs → StopsWithCause p i v u xs r → TxnDoes p i v u r
txn_stops {p} {i} {v} {u} xs {r} goes own stops = record {
  words = xs;
  goes = goes;
  own = own;
  tells = record {
    cause = stops.cause;
    exact = ((λ is. absurd (false≢true (sym stops.stopped ∙ is))), λ all. absurd (stops.not_all all));
    lone = λ alone seen. absurd (stops.lone alone seen);
    agreed = λ alone is. absurd (false≢true (sym stops.stopped ∙ is));
  };
}

pub txn_unready : {p : Plan} {i : ℕ} {v u : View} {g : Grounds} {r : TxnAnswer} → AllReadyDoes p i v u g (Some r) → TxnDoes p i v u r
txn_unready does = txn_stops does.words does.goes does.own does.tells

pub txn_undecided : {p : Plan} {i : ℕ} {v m u : View} {g : Grounds} {r : TxnAnswer} → AllReadyDoes p i v m g None → DecidedDoes p i m u (Err r) → TxnDoes p i v u r
txn_undecided {p} {i} {v} ready does = txn_stops (ready.words ++ does.words) (goes_then ready.goes does.goes) (in_append p i ready.words does.words ready.own (in_none p i does.words does.none)) (does.tells v ready.words ready.goes ready.tells.each)

so_own : {p : Plan} {i : ℕ} {v m n : View} {g : Grounds} {b : Bool} (ready : AllReadyDoes p i v m g None) (decided : DecidedDoes p i m n (Ok b)) (ys : List Item) → OwnIn p i ys → OwnIn p i ((ready.words ++ decided.words) ++ ys)
so_own {p} {i} ready decided ys own = in_append p i (ready.words ++ decided.words) ys (in_append p i ready.words decided.words ready.own (in_none p i decided.words decided.none)) own

-- what is known of an operation once all are ready
ready_by : (p : Plan) (i : ℕ) (u : View) (xs : List Item) (g : Grounds) (s : Say) → SayTells p i (InEvent p i) u xs g s → ((o : ℕ) → InEvent p i o → IsDealtWith p o u xs) → (o : ℕ) → InEvent p i o → IsReadyBy p i g s o u xs
ready_by p i u xs g Commit says each o inside = (says o inside).last
ready_by p i u xs g Abort says each o inside = each o inside
ready_by p i u xs g IsDecidedNow says each o inside = each o inside

-- the word at which it was judged is one from which it can be settled
from_judged : (p : Plan) (i : ℕ) (v : View) (xs : List Item) (g : Grounds) (s : Say) (o : ℕ) (w : OpWord) → IsReadyBy p i g s o v xs → HasLast o xs w → has_run w.state ≡ true → (IsDisturbed o xs → ⊥) → CanBeSettledFrom p i g s o w
from_judged p i v xs g Commit o w ready last ran calm = elim ready [ inl here ↦ sym (last.is w) ∙ here.is w | inr there ↦ absurd (calm there) ]
from_judged p i v xs g Abort o w ready last ran calm = ran
from_judged p i v xs g IsDecidedNow o w ready last ran calm = ran

-- an answer that is the decision true
ok_true : (b : Bool) → ◌≡◌ {A = Result Bool TxnAnswer} (Ok b) (Ok true) → b ≡ true
ok_true true same = refl
ok_true false same = absurd (apart same)
  where
    truth : Result Bool TxnAnswer → Bool
    truth (Ok b) = b
    truth (Err a) = true

    apart : ◌≡◌ {A = Result Bool TxnAnswer} (Ok false) (Ok true) → ⊥
    apart is = false≢true (ap truth is)

module _ {p : Plan} {i : ℕ} {v m n : View} {g : Grounds} {b : Bool} (ready : AllReadyDoes p i v m g None) (decided : DecidedDoes p i m n (Ok b)) where
  goes_so_far : AddsAndFrees v n (ready.words ++ decided.words)
  goes_so_far = goes_then ready.goes decided.goes

  ready_so_far : (o : ℕ) → InEvent p i o → IsReadyBy p i g g.say o n (ready.words ++ decided.words)
  ready_so_far o inside = by_more p i g g.say decided.goes ready.words (λ t found same. decided.none t found) (ready_by p i m ready.words g g.say ready.tells.says ready.tells.each o inside)

  pub decided_by : (g.say ≡ Commit → ◌≡◌ {A = Result Bool TxnAnswer} (Ok b) (Ok true)) → IsDecidedBy p i n g
  decided_by commits = record {
    committed = b;
    known = decided.tells.known;
    commits = λ is. ok_true b (commits is);
    good = λ is o inside. good_at_more decided.goes ((subst (SayTells p i (InEvent p i) m ready.words g) is ready.tells.says) o inside).good;
  }

  module _ {u : View} where
    pub txn_unsettled : {r : TxnAnswer} → RestDoes p i g n u (Some r) → TxnDoes p i v u r
    txn_unsettled does =
        txn_stops ((ready.words ++ decided.words) ++ does.words) (goes_then goes_so_far does.goes) (so_own ready decided does.words does.own) (does.tells v (ready.words ++ decided.words) goes_so_far ready_so_far)

    pub txn_settled : IsTrailNoted v → RestDoes p i g n u None → TxnDoes p i v u (AllSettled b)
    txn_settled noted does = record {
      words = (ready.words ++ decided.words) ++ does.words;
      goes = whole;
      own = so_own ready decided does.words does.own;
      tells = record {
        cause = decided.tells.right;
        exact = ((λ is o inside. (does.tells o inside).seen), λ all. refl);
        lone = λ alone seen. refl;
        agreed = λ alone is o inside unseen. settled_on alone noted o inside unseen (ready_more decided.goes ready.words (λ t found same. decided.none t found) (ready.tells.each o inside)) (does.tells o inside);
      };
    }
      where
        whole : AddsAndFrees v u ((ready.words ++ decided.words) ++ does.words)
        whole = goes_then goes_so_far does.goes

        settled_on : IsLone v → IsTrailNoted v → (o : ℕ) → InEvent p i o → (IsSettledSeen v o → ⊥) → IsDealtWith p o n (ready.words ++ decided.words) → IsOneSettled p i g o n u does.words → IsSettledOn p u o
        settled_on alone trail o inside unseen is one =
            elim is [
              | inl seen ↦ absurd (lone_unseen goes_so_far alone trail (open_append ready.words decided.words ready.open_own (none_open decided.words decided.none)) o unseen seen)
              | inr rest ↦
                  elim rest [
                    | inr there ↦ absurd (lone_undisturbed goes_so_far alone there)
                    | inl known ↦
                        let can = from_judged p i n (ready.words ++ decided.words) g g.say o known.word (ready_so_far o inside) known.last known.judged.ran (λ there. lone_undisturbed goes_so_far alone there) in
                        elim (one.from (ready.words ++ decided.words) known.word known.last can) [
                          | inl there ↦ absurd (lone_undisturbed whole alone there)
                          | inr kept ↦ record { word = known.word; judged = judged_more does.goes known.judged; seen = one.seen; attempt_is = kept }
                        ]
                  ]
            ]
