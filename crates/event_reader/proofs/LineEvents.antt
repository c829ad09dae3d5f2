-- The batches of lines are the events between punctuations.
use Rattle.std.proofs.Common.{◌≡◌, ℕ, ◌+◌, Bool, true, false, if◌then◌else◌, List, [], ◌∷◌, ◌++◌, map, refl, sym, ◌∙◌, ap, arith, append_assoc, append-nil, Option, Some, None, Ok}
use Rattle.std.specs.Prelude.{◌==◌, ◌||◌, filter, flat_map}
use Rattle.std.specs.List.{slice_split, onto_first, cons_option}
use Rattle.std.proofs.lemmas.Bool.Decides.{nat_tests}
use Rattle.morph_base.specs.Transactions.{Transaction}
use Rattle.event_reader.specs.Steps.{Rules, Step, Ignored, Closes, Adds, Refuses, latest_with, is_ignored, is_punctuation, step_of}
use Rattle.event_reader.specs.Accepted.{Accepted, Ended, with_batch, led_by, accepted_lines}
use Rattle.event_reader.specs.LineEvents.{event_said, events_said, has_event, batches_said}
use Rattle.event_reader.proofs.StepCases.{SaysWords, Comes, passed_over, marks, joins, comes}

-- an ignored line is no punctuation
pub ignored_no_mark : (line : List ℕ) → is_ignored line ≡ true → is_punctuation line ≡ false
ignored_no_mark [] ignored = refl
ignored_no_mark (b ∷ line) ignored = by_test (b == 80) refl
  where
    by_test : (t : Bool) → (b == 80) ≡ t → is_punctuation (b ∷ line) ≡ false
    by_test true is = let first : b ≡ 80 = grind (arith, nat_tests) in absurd (grind (arith, nat_tests))
    by_test false is = rw is refl

or_true : (a : Bool) → (a || true) ≡ true
or_true true = refl
or_true false = refl

module _ (m : Rules) where
  -- what a line says, by what it is
  pub none_ignored : (line : List ℕ) → is_ignored line ≡ true → event_said m.says line ≡ None
  none_ignored line ignored = rw ignored refl

  pub none_marked : (line : List ℕ) → is_punctuation line ≡ true → event_said m.says line ≡ None
  none_marked line marked = rw (marked, or_true (is_ignored line)) refl

  pub says_event : (line : List ℕ) (e : Transaction) → SaysWords m line (Ok e) → event_said m.says line ≡ Some e
  says_event line e says = rw (says.counts, says.no_mark, says.says) refl

  -- the events between punctuations, with more in front of the first
  abbrev pub parts : List (List ℕ) → List (List Transaction)
  parts lines = map (events_said m.says) (slice_split is_punctuation lines)

  abbrev pub onto : List Transaction → List (List Transaction) → List (List Transaction)
  onto batch [] = batch ∷ []
  onto batch (part ∷ more) = (batch ++ part) ∷ more

  pub some_part : (lines : List (List ℕ)) → (part : List (List ℕ)) × (more : List (List (List ℕ))) × (slice_split is_punctuation lines ≡ part ∷ more)
  some_part [] = ([], [], refl)
  some_part (line ∷ lines) = found (is_punctuation line) (some_part lines)
    where
      found : (t : Bool) → (part : List (List ℕ)) × (more : List (List (List ℕ))) × (slice_split is_punctuation lines ≡ part ∷ more)
          → (part : List (List ℕ)) × (more : List (List (List ℕ)))
          × ((if t then [] ∷ slice_split is_punctuation lines else onto_first line (slice_split is_punctuation lines)) ≡ part ∷ more)
      found true (part, more, is) = ([], slice_split is_punctuation lines, refl)
      found false (part, more, is) = (line ∷ part, more, ap (onto_first line) is)

  pub parts_marked : (line : List ℕ) (lines : List (List ℕ)) → is_punctuation line ≡ true → parts (line ∷ lines) ≡ [] ∷ parts lines
  parts_marked line lines marked = rw marked refl

  pub parts_unmarked : (line : List ℕ) (lines : List (List ℕ)) (o : Option Transaction) → is_punctuation line ≡ false → event_said m.says line ≡ o
      → parts (line ∷ lines) ≡ onto (cons_option o []) (parts lines)
  parts_unmarked line lines o unmarked says =
      let some = some_part lines in
      ap (λ t. map (events_said m.says) (if t then [] ∷ slice_split is_punctuation lines else onto_first line (slice_split is_punctuation lines))) unmarked
      ∙ ap (λ ps. map (events_said m.says) (onto_first line ps)) some.2
      ∙ by_said o says some.0 some.1
      ∙ ap (λ ps. onto (cons_option o []) (map (events_said m.says) ps)) (sym some.2)
    where
      by_said : (o : Option Transaction) → event_said m.says line ≡ o → (part : List (List ℕ)) → (more : List (List (List ℕ)))
          → map (events_said m.says) ((line ∷ part) ∷ more) ≡ onto (cons_option o []) (map (events_said m.says) (part ∷ more))
      by_said None is part more = ap (λ o. cons_option o (events_said m.says part) ∷ map (events_said m.says) more) is
      by_said (Some e) is part more = ap (λ o. cons_option o (events_said m.says part) ∷ map (events_said m.says) more) is

  pub onto_more : (batch events : List Transaction) (lines : List (List ℕ)) → onto batch (onto events (parts lines)) ≡ onto (batch ++ events) (parts lines)
  onto_more batch events lines =
      let some = some_part lines in
      rw some.2 (ap (λ part. part ∷ map (events_said m.says) some.1) (sym (append_assoc batch events (events_said m.says some.0))))

  pub onto_none : (lines : List (List ℕ)) → onto [] (parts lines) ≡ parts lines
  onto_none lines = let some = some_part lines in rw some.2 refl

  -- a batch is kept where it has an event
  pub kept_batch : (batch : List Transaction) (rest : List (List Transaction)) (all : Accepted) → all.batches ≡ filter has_event rest
      → (with_batch batch all).batches ≡ filter has_event (batch ∷ rest)
  kept_batch [] rest all h = h
  kept_batch (e ∷ es) rest all h =
      let some : has_event (e ∷ es) ≡ true = grind (arith, nat_tests) in
      rw some (ap (λ bs. (e ∷ es) ∷ bs) h)

  ends_with : (batch : List Transaction) (all : Accepted) → (with_batch batch all).ending ≡ Ended → all.ending ≡ Ended
  ends_with [] all h = h
  ends_with (e ∷ es) all h = h

  -- where a line leads, its batches are those between punctuations
  led_batches : (closed : ℕ) (batch : List Transaction) (line : List ℕ) (lines : List (List ℕ)) (step : Step) → Comes m closed batch line step
      → (n : ℕ) (after : ℕ → List Transaction → Accepted)
      → ((closed' : ℕ) (batch' : List Transaction) → (after closed' batch').ending ≡ Ended → (after closed' batch').batches ≡ filter has_event (onto batch' (parts lines)))
      → (led_by step n closed batch after).ending ≡ Ended → (led_by step n closed batch after).batches ≡ filter has_event (onto batch (parts (line ∷ lines)))
  led_batches closed batch line lines Ignored (passed_over short ignored) n after h ended =
      h closed batch ended
      ∙ ap (filter has_event)
      (ap (λ b. onto b (parts lines)) (sym (append-nil batch)) ∙ sym (onto_more batch [] lines)
      ∙ ap (onto batch) (sym (parts_unmarked line lines None (ignored_no_mark line ignored) (none_ignored line ignored))))
  led_batches closed batch line lines Closes (marks short counts marked) n after h ended =
      kept_batch batch (parts lines) (after (latest_with batch closed) [])
      (h (latest_with batch closed) [] (ends_with batch (after (latest_with batch closed) []) ended) ∙ ap (filter has_event) (onto_none lines))
      ∙ ap (λ b. filter has_event (b ∷ parts lines)) (sym (append-nil batch))
      ∙ ap (λ ps. filter has_event (onto batch ps)) (sym (parts_marked line lines marked))
  led_batches closed batch line lines (Adds e) (joins e' says later new few) n after h ended =
      h closed (batch ++ e ∷ []) ended
      ∙ ap (filter has_event)
      (sym (onto_more batch (e ∷ []) lines)
      ∙ ap (onto batch) (sym (parts_unmarked line lines (Some e) says.no_mark (says_event line e says))))
  led_batches closed batch line lines (Refuses cause) is n after h ended = absurd (cc)

  batches_from : (n closed : ℕ) (batch : List Transaction) (lines : List (List ℕ)) → (accepted_lines m n closed batch lines false).ending ≡ Ended
      → (accepted_lines m n closed batch lines false).batches ≡ filter has_event (onto batch (parts lines))
  unfolding accepted_lines
  batches_from n closed batch [] ended =
      kept_batch batch [] (record { batches = []; ending = Ended }) refl ∙ ap (λ b. filter has_event (b ∷ [])) (sym (append-nil batch))
  batches_from n closed batch (line ∷ lines) ended =
      led_batches closed batch line lines (step_of m closed batch line) (comes m closed batch line) n _
      (λ closed' batch'. batches_from (n + 1) closed' batch' lines) ended

  pub batches_are_said : (n closed : ℕ) (lines : List (List ℕ)) → (accepted_lines m n closed [] lines false).ending ≡ Ended
      → (accepted_lines m n closed [] lines false).batches ≡ batches_said m.says lines
  batches_are_said n closed lines ended = batches_from n closed [] lines ended ∙ ap (filter has_event) (onto_none lines)

  -- one after another they are all events
  joined_kept : (batches : List (List Transaction)) → flat_map (λ batch. batch) (filter has_event batches) ≡ flat_map (λ batch. batch) batches
  joined_kept [] = refl
  joined_kept ([] ∷ batches) = joined_kept batches
  joined_kept ((e ∷ es) ∷ batches) =
      let some : has_event (e ∷ es) ≡ true = grind (arith, nat_tests) in
      rw some (ap (λ bs. (e ∷ es) ++ bs) (joined_kept batches))

  joined_parts : (lines : List (List ℕ)) → flat_map (λ batch. batch) (parts lines) ≡ events_said m.says lines
  joined_parts [] = refl
  joined_parts (line ∷ lines) = by_mark (is_punctuation line) refl (joined_parts lines)
    where
      by_said : (o : Option Transaction) → flat_map (λ batch. batch) (parts lines) ≡ events_said m.says lines
          → flat_map (λ batch. batch) (onto (cons_option o []) (parts lines)) ≡ cons_option o (events_said m.says lines)
      by_said None h = ap (flat_map (λ batch. batch)) (onto_none lines) ∙ h
      by_said (Some e) h = let some = some_part lines in rw some.2 (rw some.2 at (ap (λ es. e ∷ es) h))

      by_mark : (t : Bool) → is_punctuation line ≡ t → flat_map (λ batch. batch) (parts lines) ≡ events_said m.says lines
          → flat_map (λ batch. batch) (parts (line ∷ lines)) ≡ events_said m.says (line ∷ lines)
      by_mark true is h =
          ap (flat_map (λ batch. batch)) (parts_marked line lines is) ∙ h ∙ ap (λ o. cons_option o (events_said m.says lines)) (sym (none_marked line is))
      by_mark false is h =
          ap (flat_map (λ batch. batch)) (parts_unmarked line lines (event_said m.says line) is refl) ∙ by_said (event_said m.says line) h

  pub joined_are_said : (n closed : ℕ) (lines : List (List ℕ)) → (accepted_lines m n closed [] lines false).ending ≡ Ended
      → flat_map (λ batch. batch) (accepted_lines m n closed [] lines false).batches ≡ events_said m.says lines
  joined_are_said n closed lines ended =
      ap (flat_map (λ batch. batch)) (batches_are_said n closed lines ended) ∙ joined_kept (parts lines) ∙ joined_parts lines
