-- The batches that lines close are the events in front of each punctuation.
use Rattle.std.proofs.Common.{◌≡◌, ℕ, zero, suc, ◌+◌, ◌-◌, ◌<◌, Bool, true, false, List, [], ◌∷◌, ◌++◌, length, map, take, refl, sym, ◌∙◌, ap, arith, append-nil, Some, None}
use Rattle.std.specs.Prelude.{filter}
use Rattle.std.specs.List.{slice_split}
use Rattle.morph_base.specs.Transactions.{Transaction}
use Rattle.event_reader.specs.declared.cause.Cause.{Cause}
use Rattle.event_reader.specs.Steps.{Rules, Step, Ignored, Closes, Adds, Refuses, latest_with, is_punctuation, step_of}
use Rattle.event_reader.specs.Accepted.{Accepted, Ending, Ended, RefusedAt, CutOff, led_by, accepted_lines}
use Rattle.event_reader.specs.LineEvents.{events_said, has_event, before_last, closed_said}
use Rattle.event_reader.proofs.StepCases.{Comes, passed_over, marks, joins, comes}
use Rattle.event_reader.proofs.FirstRefused.{same_ending}
use Rattle.event_reader.proofs.LineEvents.{ignored_no_mark, none_ignored, says_event, parts, onto, some_part, parts_marked, parts_unmarked, onto_more, onto_none, kept_batch}

before_more : {X : Type 0} (x y : X) (ys : List X) → before_last (x ∷ y ∷ ys) ≡ x ∷ before_last (y ∷ ys)
before_more x y ys =
    let first : length (x ∷ y ∷ ys) - 1 ≡ suc (length ys) = omega arith in
    let rest : length ys ≡ length (y ∷ ys) - 1 = omega arith in
    ap (λ n. take n (x ∷ y ∷ ys)) first ∙ ap (λ n. x ∷ take n (y ∷ ys)) rest

before_map : {X Y : Type 0} (f : X → Y) (xs : List X) → before_last (map f xs) ≡ map f (before_last xs)
before_map f [] = refl
before_map f (x ∷ []) = refl
before_map f (x ∷ y ∷ ys) = before_more (f x) (f y) (map f ys) ∙ ap (λ l. f x ∷ l) (before_map f (y ∷ ys)) ∙ ap (map f) (sym (before_more x y ys))

module _ (m : Rules) where
  -- the events in front of each punctuation, with more in front of the first
  abbrev closed_with : List Transaction → List (List ℕ) → List (List Transaction)
  closed_with batch lines = filter has_event (before_last (onto m batch (parts m lines)))

  closed_none : (lines : List (List ℕ)) → closed_with [] lines ≡ closed_said m.says lines
  closed_none lines = ap (λ ps. filter has_event (before_last ps)) (onto_none m lines) ∙ ap (filter has_event) (before_map (events_said m.says) (slice_split is_punctuation lines))

  closed_marked : (batch : List Transaction) (line : List ℕ) (lines : List (List ℕ)) → is_punctuation line ≡ true
      → closed_with batch (line ∷ lines) ≡ filter has_event (batch ∷ before_last (parts m lines))
  closed_marked batch line lines marked =
      let some = some_part m lines in
      ap (λ ps. filter has_event (before_last (onto m batch ps))) (parts_marked m line lines marked)
      ∙ ap (λ b. filter has_event (before_last (b ∷ parts m lines))) (append-nil batch)
      ∙ ap (λ ps. filter has_event (before_last (batch ∷ map (events_said m.says) ps))) some.2
      ∙ ap (filter has_event) (before_more batch (events_said m.says some.0) (map (events_said m.says) some.1))
      ∙ ap (λ ps. filter has_event (batch ∷ before_last (map (events_said m.says) ps))) (sym some.2)

  -- where a line leads, where the ending is one of what comes after it
  led_closed : (ending : Ending) (closed : ℕ) (batch : List Transaction) (line : List ℕ) (lines : List (List ℕ)) (step : Step) → Comes m closed batch line step
      → (n : ℕ) (after : ℕ → List Transaction → Accepted) → ((cause : Cause) → RefusedAt (n + 1) cause ≡ ending → ⊥)
      → ((closed' : ℕ) (batch' : List Transaction) → (after closed' batch').ending ≡ ending → (after closed' batch').batches ≡ closed_with batch' lines)
      → (led_by step n closed batch after).ending ≡ ending → (led_by step n closed batch after).batches ≡ closed_with batch (line ∷ lines)
  led_closed ending closed batch line lines Ignored (passed_over short ignored) n after never h is =
      h closed batch is
      ∙ ap (λ ps. filter has_event (before_last ps))
      (ap (λ b. onto m b (parts m lines)) (sym (append-nil batch)) ∙ sym (onto_more m batch [] lines)
      ∙ ap (onto m batch) (sym (parts_unmarked m line lines None (ignored_no_mark line ignored) (none_ignored m line ignored))))
  led_closed ending closed batch line lines Closes (marks short counts marked) n after never h is =
      kept_batch m batch (before_last (parts m lines)) (after (latest_with batch closed) [])
      (h (latest_with batch closed) [] (sym (same_ending batch (after (latest_with batch closed) [])) ∙ is)
      ∙ ap (λ ps. filter has_event (before_last ps)) (onto_none m lines))
      ∙ sym (closed_marked batch line lines marked)
  led_closed ending closed batch line lines (Adds e) (joins e' says later new few) n after never h is =
      h closed (batch ++ e ∷ []) is
      ∙ ap (λ ps. filter has_event (before_last ps))
      (sym (onto_more m batch (e ∷ []) lines)
      ∙ ap (onto m batch) (sym (parts_unmarked m line lines (Some e) says.no_mark (says_event m line e says))))
  led_closed ending closed batch line lines (Refuses cause) _ n after never h is = absurd (never cause is)

  -- lines that are cut off
  cut_from : (n closed : ℕ) (batch : List Transaction) (lines : List (List ℕ)) (cut : Bool) → (accepted_lines m n closed batch lines cut).ending ≡ CutOff
      → (accepted_lines m n closed batch lines cut).batches ≡ closed_with batch lines
  unfolding accepted_lines
  cut_from n closed batch [] true is = refl
  cut_from n closed batch [] false is = absurd (let e = sym (same_ending batch (record { batches = []; ending = Ended })) ∙ is in cc)
  cut_from n closed batch (line ∷ lines) cut is =
      led_closed CutOff closed batch line lines (step_of m closed batch line) (comes m closed batch line) n _ (λ cause e. absurd (cc))
      (λ closed' batch'. cut_from (n + 1) closed' batch' lines cut) is

  pub cut_are_said : (n closed : ℕ) (lines : List (List ℕ)) (cut : Bool) → (accepted_lines m n closed [] lines cut).ending ≡ CutOff
      → (accepted_lines m n closed [] lines cut).batches ≡ closed_said m.says lines
  cut_are_said n closed lines cut is = cut_from n closed [] lines cut is ∙ closed_none lines

  -- a line that is refused comes behind those before
  led_later : (closed : ℕ) (batch : List Transaction) (step : Step) (n k : ℕ) (cause : Cause) (after : ℕ → List Transaction → Accepted)
      → ((closed' : ℕ) (batch' : List Transaction) → (after closed' batch').ending ≡ RefusedAt k cause → n + 1 < k)
      → (led_by step n closed batch after).ending ≡ RefusedAt k cause → n < k
  led_later closed batch Ignored n k cause after h is = let l = h closed batch is in omega (arith, l)
  led_later closed batch Closes n k cause after h is =
      let l = h (latest_with batch closed) [] (sym (same_ending batch (after (latest_with batch closed) [])) ∙ is) in omega (arith, l)
  led_later closed batch (Adds e) n k cause after h is = let l = h closed (batch ++ e ∷ []) is in omega (arith, l)
  led_later closed batch (Refuses c) n k cause after h is = let same : n + 1 ≡ k = cc in omega (arith, same)

  later : (n closed : ℕ) (batch : List Transaction) (lines : List (List ℕ)) (cut : Bool) (k : ℕ) (cause : Cause)
      → (accepted_lines m n closed batch lines cut).ending ≡ RefusedAt k cause → n < k
  unfolding accepted_lines
  later n closed batch [] true k cause is = absurd (cc)
  later n closed batch [] false k cause is = absurd (let e = sym (same_ending batch (record { batches = []; ending = Ended })) ∙ is in cc)
  later n closed batch (line ∷ lines) cut k cause is =
      led_later closed batch (step_of m closed batch line) n k cause _ (λ closed' batch'. later (n + 1) closed' batch' lines cut k cause) is

  -- where the first line is refused, no batch is closed
  led_first : (closed : ℕ) (batch : List Transaction) (step : Step) (n : ℕ) (cause : Cause) (after : ℕ → List Transaction → Accepted)
      → ((closed' : ℕ) (batch' : List Transaction) → (after closed' batch').ending ≡ RefusedAt (n + 1) cause → n + 1 < n + 1)
      → (led_by step n closed batch after).ending ≡ RefusedAt (n + 1) cause → (led_by step n closed batch after).batches ≡ []
  led_first closed batch Ignored n cause after h is = absurd (let l = h closed batch is in omega (arith, l))
  led_first closed batch Closes n cause after h is =
      absurd (let l = h (latest_with batch closed) [] (sym (same_ending batch (after (latest_with batch closed) [])) ∙ is) in omega (arith, l))
  led_first closed batch (Adds e) n cause after h is = absurd (let l = h closed (batch ++ e ∷ []) is in omega (arith, l))
  led_first closed batch (Refuses c) n cause after h is = refl

  refused_from : (n closed : ℕ) (batch : List Transaction) (lines : List (List ℕ)) (cut : Bool) (k : ℕ) (cause : Cause)
      → (accepted_lines m n closed batch lines cut).ending ≡ RefusedAt (n + 1 + k) cause
      → (accepted_lines m n closed batch lines cut).batches ≡ closed_with batch (take k lines)
  unfolding accepted_lines
  refused_from n closed batch [] true k cause is = absurd (cc)
  refused_from n closed batch [] false k cause is = absurd (let e = sym (same_ending batch (record { batches = []; ending = Ended })) ∙ is in cc)
  refused_from n closed batch (line ∷ lines) cut zero cause is =
      let at : n + 1 + 0 ≡ n + 1 = omega arith in
      led_first closed batch (step_of m closed batch line) n cause _ (λ closed' batch'. later (n + 1) closed' batch' lines cut (n + 1) cause) (is ∙ ap (λ k. RefusedAt k cause) at)
  refused_from n closed batch (line ∷ lines) cut (suc k) cause is =
      let at : n + 1 + suc k ≡ n + 1 + 1 + k = omega arith in
      led_closed (RefusedAt (n + 1 + 1 + k) cause) closed batch line (take k lines) (step_of m closed batch line) (comes m closed batch line) n _
      (λ c e. (let same : n + 1 ≡ n + 1 + 1 + k = cc in omega (arith, same)))
      (λ closed' batch'. refused_from (n + 1) closed' batch' lines cut k cause) (is ∙ ap (λ k. RefusedAt k cause) at)

  pub refused_are_said : (n closed : ℕ) (lines : List (List ℕ)) (cut : Bool) (k : ℕ) (cause : Cause)
      → (accepted_lines m n closed [] lines cut).ending ≡ RefusedAt k cause
      → (n < k) × ((accepted_lines m n closed [] lines cut).batches ≡ closed_said m.says (take (k - 1 - n) lines))
  refused_are_said n closed lines cut k cause is =
      let some = later n closed [] lines cut k cause is in
      let at : k ≡ n + 1 + (k - 1 - n) = omega (arith, some) in
      (some, refused_from n closed [] lines cut (k - 1 - n) cause (is ∙ ap (λ k. RefusedAt k cause) at) ∙ closed_none (take (k - 1 - n) lines))
