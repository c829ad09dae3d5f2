-- The refused line is the first with a cause, and its cause is the least that applies.
use Rattle.std.proofs.Common.{◌≡◌, ℕ, ◌+◌, ◌-◌, ◌<◌, ◌≤◌, Bool, true, false, max, List, [], ◌∷◌, ◌++◌, length, take, drop, get_or, refl, sym, ◌∙◌, ap, subst, arith, append-nil, append_assoc, length-append, Option, Some, None, Result, Ok, Err, ◌⊎◌, inl, inr}
use Rattle.std.specs.Prelude.{◌==◌, if◌then◌else◌}
use Rattle.std.specs.List.{cons_option}
use Rattle.std.proofs.lemmas.Bool.{cases_lt, true≢false}
use Rattle.std.proofs.lemmas.List.{drop_all, drop_more, take_more, take_all, take-append-le, length-drop}
use Rattle.std.proofs.lemmas.List.Sums.{fold-append}
use Rattle.morph_base.specs.Transactions.{Transaction}
use Rattle.event_reader.specs.Limits.{longest_line}
use Rattle.event_reader.specs.declared.cause.Cause.{Cause}
use Rattle.event_reader.specs.declared.cause.Cause.TheVariants.{Long, Form, Range, Same, Late, Twice, Full}
use Rattle.event_reader.specs.Words.{words_of}
use Rattle.event_reader.specs.Steps.{Rules, Step, Ignored, Closes, Adds, Refuses, latest_with, has_time, said_by, is_ignored, is_punctuation, step_of}
use Rattle.event_reader.specs.Accepted.{Accepted, Ended, RefusedAt, with_batch, at_last, led_by, accepted_lines}
use Rattle.event_reader.specs.Reader.{IsOfWords}
use Rattle.event_reader.specs.LineEvents.{event_said, events_said}
use Rattle.event_reader.specs.FirstRefused.{rank, HasWordCauses, open_lines, closed_lines, closed_time, unfinished, Applies, NoneApplies, IsLeastCause, IsFirstRefused}
use Rattle.event_reader.proofs.StepCases.{SaysWords, Comes, is_long, passed_over, marks, says_none, is_late, is_twice, is_full, joins, comes}
use Rattle.event_reader.proofs.LineEvents.{none_ignored, none_marked, says_event, ignored_no_mark}

-- events of lines one after another
said_append : (m : Rules) (front back : List (List ℕ)) → events_said m.says (front ++ back) ≡ events_said m.says front ++ events_said m.says back
said_append m [] back = refl
said_append m (line ∷ front) back = by_said (event_said m.says line) (said_append m front back)
  where
    by_said : (o : Option Transaction) → events_said m.says (front ++ back) ≡ events_said m.says front ++ events_said m.says back
        → cons_option o (events_said m.says (front ++ back)) ≡ cons_option o (events_said m.says front) ++ events_said m.says back
    by_said None h = h
    by_said (Some e) h = ap (λ es. e ∷ es) h

-- the lines behind the last punctuation with a line more
open_marked : (lines : List (List ℕ)) (line : List ℕ) → is_punctuation line ≡ true → open_lines (lines ++ line ∷ []) ≡ []
open_marked lines line marked =
    fold-append (λ open_since line. if is_punctuation line then [] else open_since ++ line ∷ []) [] lines (line ∷ []) ∙ rw marked refl

open_unmarked : (lines : List (List ℕ)) (line : List ℕ) → is_punctuation line ≡ false → open_lines (lines ++ line ∷ []) ≡ open_lines lines ++ line ∷ []
open_unmarked lines line unmarked =
    fold-append (λ open_since line. if is_punctuation line then [] else open_since ++ line ∷ []) [] lines (line ∷ []) ∙ rw unmarked refl

-- what a reader has noted after lines
pub record Stands (m : Rules) (lines : List (List ℕ)) (closed : ℕ) (batch : List Transaction) : Type 0 where
  pub time : closed ≡ closed_time m.says lines
  pub events : batch ≡ unfinished m.says lines
  pub parts : closed_lines lines ++ open_lines lines ≡ lines

stands_first : (m : Rules) → Stands m [] 0 []
stands_first m = record { time = refl; events = refl; parts = refl }

-- with a line more
stands_unmarked : (m : Rules) (lines : List (List ℕ)) (closed : ℕ) (batch : List Transaction) (line : List ℕ) (o : Option Transaction) → Stands m lines closed batch
    → is_punctuation line ≡ false → event_said m.says line ≡ o → Stands m (lines ++ line ∷ []) closed (batch ++ cons_option o [])
stands_unmarked m lines closed batch line o h unmarked says = record {
  time = h.time ∙ ap (λ ls. latest_with (events_said m.says ls) 0) (sym same);
  events = ap (λ es. es ++ cons_option o []) h.events ∙ ap (λ s. unfinished m.says lines ++ cons_option s []) (sym says)
      ∙ sym (said_append m (open_lines lines) (line ∷ [])) ∙ ap (events_said m.says) (sym open_is);
  parts = ap (λ ls. ls ++ open_lines (lines ++ line ∷ [])) same ∙ ap (λ ls. closed_lines lines ++ ls) open_is
      ∙ sym (append_assoc (closed_lines lines) (open_lines lines) (line ∷ [])) ∙ ap (λ ls. ls ++ line ∷ []) h.parts;
}
  where
    open_is : open_lines (lines ++ line ∷ []) ≡ open_lines lines ++ line ∷ []
    open_is = open_unmarked lines line unmarked

    size : length (lines ++ line ∷ []) - length (open_lines (lines ++ line ∷ [])) ≡ length lines - length (open_lines lines)
    size =
        ap (λ n. n - length (open_lines (lines ++ line ∷ []))) (length-append lines (line ∷ []))
        ∙ ap (λ n. length lines + 1 - n) (ap length open_is ∙ length-append (open_lines lines) (line ∷ []))
        ∙ omega arith

    few : length lines - length (open_lines lines) ≤ length lines
    few = omega arith

    same : closed_lines (lines ++ line ∷ []) ≡ closed_lines lines
    same = ap (λ n. take n (lines ++ line ∷ [])) size ∙ take-append-le (length lines - length (open_lines lines)) lines (line ∷ []) few

stands_marked : (m : Rules) (lines : List (List ℕ)) (closed : ℕ) (batch : List Transaction) (line : List ℕ) → Stands m lines closed batch
    → is_punctuation line ≡ true → Stands m (lines ++ line ∷ []) (latest_with batch closed) []
stands_marked m lines closed batch line h marked = record {
  time = ap (λ es. latest_with es closed) h.events ∙ ap (latest_with (unfinished m.says lines)) h.time
      ∙ sym (fold-append (λ latest e. max latest e.ts) 0 (events_said m.says (closed_lines lines)) (unfinished m.says lines))
      ∙ ap (λ es. latest_with es 0) events
      ∙ ap (λ ls. latest_with (events_said m.says ls) 0) (sym all);
  events = ap (events_said m.says) (sym none);
  parts = ap (λ ls. closed_lines (lines ++ line ∷ []) ++ ls) none ∙ append-nil (closed_lines (lines ++ line ∷ [])) ∙ all;
}
  where
    none : open_lines (lines ++ line ∷ []) ≡ []
    none = open_marked lines line marked

    all : closed_lines (lines ++ line ∷ []) ≡ lines ++ line ∷ []
    all = take_all (length (lines ++ line ∷ []) - length (open_lines (lines ++ line ∷ []))) (lines ++ line ∷ [])
        (let zero : length (open_lines (lines ++ line ∷ [])) ≡ 0 = ap length none in omega arith)

    events : events_said m.says (closed_lines lines) ++ unfinished m.says lines ≡ events_said m.says (lines ++ line ∷ [])
    events =
        sym (said_append m (closed_lines lines) (open_lines lines)) ∙ ap (events_said m.says) h.parts ∙ sym (append-nil (events_said m.says lines))
        ∙ ap (λ o. events_said m.says lines ++ cons_option o []) (sym (none_marked m line marked))
        ∙ sym (said_append m lines (line ∷ []))

-- two events that one line says are the same
same_event : (o : Option Transaction) (e f : Transaction) → o ≡ Some e → o ≡ Some f → e ≡ f
same_event o e f is is' = cc

not_said : (m : Rules) (line : List ℕ) (e : Transaction) → event_said m.says line ≡ None → event_said m.says line ≡ Some e → ⊥
not_said m line e is is' = absurd (cc)

-- where the words say no event
says_nothing : (m : Rules) (line : List ℕ) (cause : Cause) → SaysWords m line (Err cause) → event_said m.says line ≡ None
says_nothing m line cause says = rw (says.counts, says.no_mark, says.says) refl

-- the cause that words say is one of theirs
of_words : (m : Rules) → HasWordCauses m.says → (words : Option (List (List ℕ))) (cause : Cause) → said_by m.says words ≡ Err cause → IsOfWords cause
of_words m h None cause is = form_is cause is
  where
    form_is : (cause : Cause) → said_by m.says None ≡ Err cause → IsOfWords cause
    form_is Form is = tt
    form_is Range is = tt
    form_is Same is = tt
    form_is Long is = absurd (cc)
    form_is Late is = absurd (cc)
    form_is Twice is = absurd (cc)
    form_is Full is = absurd (cc)
of_words m h (Some words) cause is = h words cause is

-- what a step says of the causes that apply
abbrev Judges : Rules → List (List ℕ) → List ℕ → Step → Type 0
Judges m before line (Refuses cause) = IsLeastCause m before line cause
Judges m before line _ = NoneApplies m before line

abbrev no_event : Rules → List ℕ → Type 0
no_event m line = (e : Transaction) → event_said m.says line ≡ Some e → ⊥

words_differ : (said : Result Transaction Cause) (e : Transaction) (cause : Cause) → said ≡ Ok e → said ≡ Err cause → ⊥
words_differ said e cause is is' = absurd (cc)

module _ (m : Rules) (words : HasWordCauses m.says) (before : List (List ℕ)) (closed : ℕ) (batch : List Transaction) (h : Stands m before closed batch) (line : List ℕ) where
  late_not : (e : Transaction) → event_said m.says line ≡ Some e → closed < e.ts → Applies m before line Late → ⊥
  late_not e is later (f, is', late) =
      let same : e.ts ≡ f.ts = ap (λ t. t.ts) (same_event (event_said m.says line) e f is is') in
      omega (arith, h.time, same, late)

  twice_not : (e : Transaction) → event_said m.says line ≡ Some e → has_time batch e.ts ≡ false → Applies m before line Twice → ⊥
  twice_not e is fresh (f, is', twice) =
      let same : e.ts ≡ f.ts = ap (λ t. t.ts) (same_event (event_said m.says line) e f is is') in
      true≢false (sym twice ∙ ap (λ es. has_time es f.ts) (sym h.events) ∙ ap (has_time batch) (sym same) ∙ fresh)

  full_not : length batch < m.most → Applies m before line Full → ⊥
  full_not few (f, is', full) = let same : length batch ≡ length (unfinished m.says before) = ap length h.events in omega (arith, same, full)

  -- no cause applies where none of them does
  none_applies : length line ≤ longest_line → ((cause : Cause) → is_ignored line ≡ false → is_punctuation line ≡ false → said_by m.says (words_of line) ≡ Err cause → ⊥)
      → (Applies m before line Late → ⊥) → (Applies m before line Twice → ⊥) → (Applies m before line Full → ⊥) → NoneApplies m before line
  none_applies short silent late twice full Long long = omega (arith, long)
  none_applies short silent late twice full Form (i, p, w) = silent Form i p w
  none_applies short silent late twice full Range (i, p, w) = silent Range i p w
  none_applies short silent late twice full Same (i, p, w) = silent Same i p w
  none_applies short silent late twice full Late is = late is
  none_applies short silent late twice full Twice is = twice is
  none_applies short silent late twice full Full is = full is

  -- a cause is the least where those before it do not apply
  least_by : (bound : ℕ) → bound ≤ 6 → length line ≤ longest_line
      → ((cause : Cause) → said_by m.says (words_of line) ≡ Err cause → bound ≤ rank cause)
      → (Applies m before line Late → bound ≤ 4) → (Applies m before line Twice → bound ≤ 5)
      → (other : Cause) → Applies m before line other → bound ≤ rank other
  least_by bound top short silent late twice Long long = omega (arith, long)
  least_by bound top short silent late twice Form (i, p, w) = silent Form w
  least_by bound top short silent late twice Range (i, p, w) = silent Range w
  least_by bound top short silent late twice Same (i, p, w) = silent Same w
  least_by bound top short silent late twice Late is = late is
  least_by bound top short silent late twice Twice is = twice is
  least_by bound top short silent late twice Full is = top

  words_apply : (cause : Cause) → IsOfWords cause → SaysWords m line (Err cause) → Applies m before line cause
  words_apply Form of says = (says.counts, says.no_mark, says.says)
  words_apply Range of says = (says.counts, says.no_mark, says.says)
  words_apply Same of says = (says.counts, says.no_mark, says.says)
  words_apply Long of says = absurd of
  words_apply Late of says = absurd of
  words_apply Twice of says = absurd of
  words_apply Full of says = absurd of

  words_rank : (cause : Cause) → IsOfWords cause → rank cause ≤ 4
  words_rank Form of = omega arith
  words_rank Range of = omega arith
  words_rank Same of = omega arith
  words_rank Long of = absurd of
  words_rank Late of = absurd of
  words_rank Twice of = absurd of
  words_rank Full of = absurd of

  same_words : (cause other : Cause) → said_by m.says (words_of line) ≡ Err cause → said_by m.says (words_of line) ≡ Err other → rank cause ≤ rank other
  same_words cause other is is' = let same : cause ≡ other = cc in let ranks : rank cause ≡ rank other = ap rank same in omega (arith, ranks)

  pub judges : (step : Step) → Comes m closed batch line step → Judges m before line step
  judges _ (passed_over short ignored) =
      none_applies short (λ cause i p w. true≢false (sym ignored ∙ i)) (λ (e, is, _). not_said m line e (none_ignored m line ignored) is)
      (λ (e, is, _). not_said m line e (none_ignored m line ignored) is) (λ (e, is, _). not_said m line e (none_ignored m line ignored) is)
  judges _ (marks short counts marked) =
      none_applies short (λ cause i p w. true≢false (sym marked ∙ p)) (λ (e, is, _). not_said m line e (none_marked m line marked) is)
      (λ (e, is, _). not_said m line e (none_marked m line marked) is) (λ (e, is, _). not_said m line e (none_marked m line marked) is)
  judges _ (joins e says later fresh few) =
      none_applies says.short (λ cause i p w. words_differ _ e cause says.says w) (late_not e (says_event m line e says) later)
      (twice_not e (says_event m line e says) fresh) (full_not few)
  judges _ (is_long long) = record { applies = long; least = λ other is. omega arith }
  judges _ (says_none cause says) =
      let of = of_words m words (words_of line) cause says.says in
      let low = words_rank cause of in
      let silent = says_nothing m line cause says in
      record {
        applies = words_apply cause of says;
        least = least_by (rank cause) (omega (arith, low)) says.short (λ other w. same_words cause other says.says w)
            (λ (e, is, _). absurd (not_said m line e silent is)) (λ (e, is, _). absurd (not_said m line e silent is));
      }
  judges _ (is_late e says late) = record {
    applies = (e, says_event m line e says, let same = h.time in omega (arith, same));
    least = least_by 4 (omega arith) says.short (λ other w. absurd (words_differ _ e other says.says w)) (λ is. omega arith) (λ is. omega arith);
  }
  judges _ (is_twice e says later twice) = record {
    applies = (e, says_event m line e says, ap (λ es. has_time es e.ts) (sym h.events) ∙ twice);
    least = least_by 5 (omega arith) says.short (λ other w. absurd (words_differ _ e other says.says w))
        (λ is. absurd (late_not e (says_event m line e says) later is)) (λ is. omega arith);
  }
  judges _ (is_full e says later fresh full) = record {
    applies = (e, says_event m line e says, let same : length batch ≡ length (unfinished m.says before) = ap length h.events in omega (arith, same, full));
    least = least_by 6 (omega arith) says.short (λ other w. absurd (words_differ _ e other says.says w))
        (λ is. absurd (late_not e (says_event m line e says) later is)) (λ is. absurd (twice_not e (says_event m line e says) fresh is));
  }

-- where a step leads, by what it is
StandsAfter : Rules → List (List ℕ) → (closed : ℕ) → List Transaction → Step → Type 0
StandsAfter m lines closed batch Ignored = Stands m lines closed batch
StandsAfter m lines closed batch Closes = Stands m lines (latest_with batch closed) []
StandsAfter m lines closed batch (Adds e) = Stands m lines closed (batch ++ e ∷ [])
StandsAfter m lines closed batch (Refuses cause) = Unit {0}

stands_after : (m : Rules) (before : List (List ℕ)) (closed : ℕ) (batch : List Transaction) (line : List ℕ) (step : Step) → Stands m before closed batch
    → Comes m closed batch line step → StandsAfter m (before ++ line ∷ []) closed batch step
unfolding StandsAfter
stands_after m before closed batch line _ h (passed_over short ignored) =
    subst (λ b. Stands m (before ++ line ∷ []) closed b) (append-nil batch)
    (stands_unmarked m before closed batch line None h (ignored_no_mark line ignored) (none_ignored m line ignored))
stands_after m before closed batch line _ h (marks short counts marked) = stands_marked m before closed batch line h marked
stands_after m before closed batch line _ h (joins e says later fresh few) =
    stands_unmarked m before closed batch line (Some e) h says.no_mark (says_event m line e says)
stands_after m before closed batch line _ h (is_long long) = tt
stands_after m before closed batch line _ h (says_none cause says) = tt
stands_after m before closed batch line _ h (is_late e says late) = tt
stands_after m before closed batch line _ h (is_twice e says later twice) = tt
stands_after m before closed batch line _ h (is_full e says later fresh full) = tt

-- a batch more leaves the ending
pub same_ending : (batch : List Transaction) (all : Accepted) → (with_batch batch all).ending ≡ all.ending
same_ending [] all = refl
same_ending (e ∷ es) all = refl

-- causes of one rank are the same
of_rank : ℕ → Cause
of_rank n = if n == 0 then Long else (if n == 1 then Form else (if n == 2 then Range else (if n == 3 then Same
    else (if n == 4 then Late else (if n == 5 then Twice else Full)))))

of_its_rank : (cause : Cause) → of_rank (rank cause) ≡ cause
unfolding of_rank
of_its_rank Long = refl
of_its_rank Form = refl
of_its_rank Range = refl
of_its_rank Same = refl
of_its_rank Late = refl
of_its_rank Twice = refl
of_its_rank Full = refl

same_rank : (a b : Cause) → rank a ≤ rank b → rank b ≤ rank a → a ≡ b
same_rank a b low high = let same : rank a ≡ rank b = omega (arith, low, high) in sym (of_its_rank a) ∙ ap of_rank same ∙ of_its_rank b

refused_at : (n k : ℕ) (c cause : Cause) → RefusedAt n c ≡ RefusedAt k cause → (n ≡ k) × (c ≡ cause)
refused_at n k c cause is = (cc, cc)

heads : (x y : List ℕ) (xs ys : List (List ℕ)) → x ∷ xs ≡ y ∷ ys → (x ≡ y) × (xs ≡ ys)
heads x y xs ys is = (cc, cc)

module _ (m : Rules) (words : HasWordCauses m.says) (all : List (List ℕ)) (cut : Bool) where
  -- the line behind the first n
  at_place : (n : ℕ) (line : List ℕ) (lines : List (List ℕ)) → drop n all ≡ line ∷ lines → (n < length all) × (get_or all n [] ≡ line) × (drop (n + 1) all ≡ lines)
  at_place n line lines is = by_length (cases_lt n (length all))
    where
      by_length : (n < length all) ⊎ (length all ≤ n) → (n < length all) × (get_or all n [] ≡ line) × (drop (n + 1) all ≡ lines)
      by_length (inl inside) =
          let both = heads (get_or all n []) line (drop (n + 1) all) lines (sym (drop_more all n [] inside) ∙ is) in
          (inside, both.0, both.1)
      by_length (inr out) = absurd (let none : drop n all ≡ [] = drop_all n all out in cc)

  abbrev Clean : ℕ → Type 0
  Clean n = (i : ℕ) → i < n → NoneApplies m (take i all) (get_or all i [])

  clean_more : (n : ℕ) → Clean n → NoneApplies m (take n all) (get_or all n []) → Clean (n + 1)
  clean_more n clean none i below = by_order (cases_lt i n)
    where
      by_order : (i < n) ⊎ (n ≤ i) → NoneApplies m (take i all) (get_or all i [])
      by_order (inl less) = clean i less
      by_order (inr more) = let same : n ≡ i = omega arith in subst (λ j. NoneApplies m (take j all) (get_or all j [])) same none

  abbrev Here : ℕ → ℕ → List Transaction → Type 0
  Here n closed batch = Stands m (take n all) closed batch

  here_after : (n closed : ℕ) (batch : List Transaction) (step : Step) → n < length all → Here n closed batch → Comes m closed batch (get_or all n []) step
      → StandsAfter m (take (n + 1) all) closed batch step
  here_after n closed batch step inside h is =
      subst (λ ls. StandsAfter m ls closed batch step) (sym (take_more all n [] inside)) (stands_after m (take n all) closed batch (get_or all n []) step h is)

  -- the refused line is the first with a cause
  first_led : (k : ℕ) (cause : Cause) (n closed : ℕ) (batch : List Transaction) (step : Step) → n < length all → Clean n
      → Judges m (take n all) (get_or all n []) step → StandsAfter m (take (n + 1) all) closed batch step
      → (after : ℕ → List Transaction → Accepted)
      → ((closed' : ℕ) (batch' : List Transaction) → Here (n + 1) closed' batch' → Clean (n + 1) → (after closed' batch').ending ≡ RefusedAt k cause → IsFirstRefused m all k cause)
      → (led_by step n closed batch after).ending ≡ RefusedAt k cause → IsFirstRefused m all k cause
  unfolding StandsAfter
  first_led k cause n closed batch Ignored inside clean judge stands after go is = go closed batch stands (clean_more n clean judge) is
  first_led k cause n closed batch Closes inside clean judge stands after go is =
      go (latest_with batch closed) [] stands (clean_more n clean judge) (sym (same_ending batch (after (latest_with batch closed) [])) ∙ is)
  first_led k cause n closed batch (Adds e) inside clean judge stands after go is = go closed (batch ++ e ∷ []) stands (clean_more n clean judge) is
  first_led k cause n closed batch (Refuses c) inside clean judge stands after go is =
      let both = refused_at (n + 1) k c cause is in
      record {
        place = n;
        counts = sym both.0;
        inside = inside;
        earlier = clean;
        refused = subst (λ c. IsLeastCause m (take n all) (get_or all n []) c) both.1 judge;
      }

  first_from : (k : ℕ) (cause : Cause) (n closed : ℕ) (batch : List Transaction) (lines : List (List ℕ)) → drop n all ≡ lines → Here n closed batch → Clean n
      → (accepted_lines m n closed batch lines cut).ending ≡ RefusedAt k cause → IsFirstRefused m all k cause
  unfolding accepted_lines
  first_from k cause n closed batch [] at h clean = λ is. absurd (not_at_last cut is)
    where
      not_at_last : (cut : Bool) → (at_last cut batch).ending ≡ RefusedAt k cause → ⊥
      not_at_last true is = absurd (cc)
      not_at_last false is = let same = same_ending batch (record { batches = []; ending = Ended }) in absurd (let e : Ended ≡ RefusedAt k cause = sym same ∙ is in cc)
  first_from k cause n closed batch (line ∷ lines) at h clean =
      let here = at_place n line lines at in
      subst
      (λ l. (led_by (step_of m closed batch l) n closed batch (λ closed' batch'. accepted_lines m (n + 1) closed' batch' lines cut)).ending ≡ RefusedAt k cause
      → IsFirstRefused m all k cause) here.1
      (first_led k cause n closed batch (step_of m closed batch (get_or all n [])) here.0 clean
      (judges m words (take n all) closed batch h (get_or all n []) (step_of m closed batch (get_or all n [])) (comes m closed batch (get_or all n [])))
      (here_after n closed batch (step_of m closed batch (get_or all n [])) here.0 h (comes m closed batch (get_or all n [])))
      (λ closed' batch'. accepted_lines m (n + 1) closed' batch' lines cut)
      (λ closed' batch' h' clean' is. first_from k cause (n + 1) closed' batch' lines here.2 h' clean' is))

  -- and the first line with a cause is refused
  reached_led : (k : ℕ) (cause : Cause) (f : IsFirstRefused m all k cause) (n closed : ℕ) (batch : List Transaction) (step : Step) → n ≤ f.place
      → Judges m (take n all) (get_or all n []) step → StandsAfter m (take (n + 1) all) closed batch step
      → (after : ℕ → List Transaction → Accepted)
      → ((closed' : ℕ) (batch' : List Transaction) → Here (n + 1) closed' batch' → n + 1 ≤ f.place → (after closed' batch').ending ≡ RefusedAt k cause)
      → (led_by step n closed batch after).ending ≡ RefusedAt k cause
  unfolding StandsAfter
  reached_led k cause f n closed batch step below judge stands after go = by_step step judge stands
    where
      not_yet : NoneApplies m (take n all) (get_or all n []) → n + 1 ≤ f.place
      not_yet none = by_order (cases_lt n f.place)
        where
          by_order : (n < f.place) ⊎ (f.place ≤ n) → n + 1 ≤ f.place
          by_order (inl less) = omega arith
          by_order (inr more) =
              let same : f.place ≡ n = omega arith in
              absurd (none cause (subst (λ j. Applies m (take j all) (get_or all j []) cause) same f.refused.applies))

      here_refused : (c : Cause) → IsLeastCause m (take n all) (get_or all n []) c → RefusedAt (n + 1) c ≡ RefusedAt k cause
      here_refused c judge = by_order (cases_lt n f.place)
        where
          by_order : (n < f.place) ⊎ (f.place ≤ n) → RefusedAt (n + 1) c ≡ RefusedAt k cause
          by_order (inl less) = absurd (f.earlier n less c judge.applies)
          by_order (inr more) =
              let same : f.place ≡ n = omega arith in
              let there : IsLeastCause m (take n all) (get_or all n []) cause
              = subst (λ j. IsLeastCause m (take j all) (get_or all j []) cause) same f.refused in
              ap (λ j. RefusedAt j c) (ap (λ j. j + 1) (sym same) ∙ sym f.counts)
              ∙ ap (RefusedAt k) (same_rank c cause (judge.least cause there.applies) (there.least c judge.applies))

      by_step : (step : Step) → Judges m (take n all) (get_or all n []) step → StandsAfter m (take (n + 1) all) closed batch step
          → (led_by step n closed batch after).ending ≡ RefusedAt k cause
      by_step Ignored judge stands = go closed batch stands (not_yet judge)
      by_step Closes judge stands =
          same_ending batch (after (latest_with batch closed) []) ∙ go (latest_with batch closed) [] stands (not_yet judge)
      by_step (Adds e) judge stands = go closed (batch ++ e ∷ []) stands (not_yet judge)
      by_step (Refuses c) judge stands = here_refused c judge

  reached_from : (k : ℕ) (cause : Cause) (f : IsFirstRefused m all k cause) (n closed : ℕ) (batch : List Transaction) (lines : List (List ℕ)) → drop n all ≡ lines
      → Here n closed batch → n ≤ f.place → (accepted_lines m n closed batch lines cut).ending ≡ RefusedAt k cause
  unfolding accepted_lines
  reached_from k cause f n closed batch [] at h below =
      absurd (let none : length (drop n all) ≡ 0 = ap length at in let inside = f.inside in omega (arith, none, inside, length-drop n all))
  reached_from k cause f n closed batch (line ∷ lines) at h below =
      let here = at_place n line lines at in
      subst
      (λ l. (led_by (step_of m closed batch l) n closed batch (λ closed' batch'. accepted_lines m (n + 1) closed' batch' lines cut)).ending ≡ RefusedAt k cause) here.1
      (reached_led k cause f n closed batch (step_of m closed batch (get_or all n [])) below
      (judges m words (take n all) closed batch h (get_or all n []) (step_of m closed batch (get_or all n [])) (comes m closed batch (get_or all n [])))
      (here_after n closed batch (step_of m closed batch (get_or all n [])) here.0 h (comes m closed batch (get_or all n [])))
      (λ closed' batch'. accepted_lines m (n + 1) closed' batch' lines cut)
      (λ closed' batch' h' below'. reached_from k cause f (n + 1) closed' batch' lines here.2 h' below'))

  pub refused_is_first : (k : ℕ) (cause : Cause) → (accepted_lines m 0 0 [] all cut).ending ≡ RefusedAt k cause → IsFirstRefused m all k cause
  refused_is_first k cause = first_from k cause 0 0 [] all refl (stands_first m) (λ i below. absurd (omega arith))

  pub first_is_refused : (k : ℕ) (cause : Cause) → IsFirstRefused m all k cause → (accepted_lines m 0 0 [] all cut).ending ≡ RefusedAt k cause
  first_is_refused k cause f = reached_from k cause f 0 0 [] all refl (stands_first m) (omega arith)
