-- No line of a generated text is refused.
use Rattle.std.proofs.Common.{◌≡◌, ℕ, zero, suc, ◌+◌, ◌-◌, ◌*◌, ◌%◌, ◌<◌, ◌≤◌, Bool, true, false, nat_le, max, if◌then◌else◌, List, [], ◌∷◌, ◌++◌, length, refl, sym, ◌∙◌, ap, subst, arith, append_assoc, length-append}
use Rattle.std.specs.Prelude.{◌==◌, ◌≢◌, slice_index}
use Rattle.std.specs.List.{All, sum_by}
use Rattle.std.proofs.lemmas.Bool.Decides.{nat_tests}
use Rattle.std.proofs.lemmas.List.Elements.{All-nil, All-cons, All-get_or, All-weaker}
use Rattle.std.proofs.lemmas.List.Sums.{fold-append, sum_by-cons}
use Rattle.morph_base.specs.Transactions.{Transaction}
use Rattle.event_reader.specs.Limits.{generated_events, generated_batch, generated_bytes, input_bytes}
use Rattle.event_reader.specs.Accepted.{Accepted, Ended, with_batch, accepted, accepted_from, accepted_lines, accepted_within}
use Rattle.event_reader.specs.Generated.{Drawn, IsEventLine}
use Rattle.event_reader.specs.GeneratedText.{with_end, generated_from, generated_text}
use Rattle.event_reader.specs.Lines.{is_line_feed, lines_of, without_cr, last_if, whole, with_line, within}
use Rattle.event_reader.specs.declared.version.Version.TheVariants.{One}
use Rattle.event_reader.specs.Versions.{has_version_line}
use Rattle.event_reader.specs.Steps.{Rules, Meaning, rules_of, Adds, latest_with, has_time, joining}
use Rattle.event_reader.proofs.Pieces.{line_at}
use Rattle.event_reader.proofs.LineSteps.{leads_joined, leads_closed}

-- a line without control characters ends in no CR, and has no LF
no_cr : (line : List ℕ) → All (λ b. 32 ≤ b) line → (slice_index line (length line - 1) == 13) ≡ false
no_cr [] printable = refl
no_cr (b ∷ line) printable =
    let last = All-get_or (λ c. 32 ≤ c) (b ∷ line) (length (b ∷ line) - 1) 0 (omega arith) printable in
    grind (arith, nat_tests, last)

no_feed : (b : ℕ) → 32 ≤ b → is_line_feed b ≡ false
no_feed b printable = grind (arith, nat_tests)

-- it is the first line of what it begins
first_line : (line rest : List ℕ) → All (λ b. 32 ≤ b) line → whole (line ++ 10 ∷ rest) ≡ with_line line (whole rest)
first_line line rest printable =
    let same : without_cr line ≡ line = rw (no_cr line printable) refl in
    let lines : lines_of (line ++ 10 ∷ rest) ≡ line ∷ lines_of rest
    = line_at (λ piece. nat_le 1 (length piece)) line rest (All-weaker (λ b. 32 ≤ b) (λ b. is_line_feed b ≡ false) no_feed line printable)
    ∙ ap (λ l. l ∷ lines_of rest) same in
    ap (λ ls. record { lines = ls; cut = false }) lines

-- the greatest timestamp of batches
closed_le_latest : (batch : List Transaction) (closed : ℕ) → closed ≤ latest_with batch closed
closed_le_latest [] closed = omega arith
closed_le_latest (e ∷ batch) closed = omega (arith, closed_le_latest batch (max closed e.ts))

new_time : (batch : List Transaction) (closed t : ℕ) → latest_with batch closed < t → has_time batch t ≡ false
new_time [] closed t later = refl
new_time (e ∷ batch) closed t later =
    let here : (e.ts == t) ≡ false = (let early = closed_le_latest batch (max closed e.ts) in grind (arith, nat_tests)) in
    rw (here, new_time batch (max closed e.ts) t later) refl

latest_more : (batch : List Transaction) (closed : ℕ) (e : Transaction) → latest_with (batch ++ e ∷ []) closed ≡ max (latest_with batch closed) e.ts
latest_more batch closed e = fold-append (λ latest f. max latest f.ts) closed batch (e ∷ [])

-- what holds in front of event j + 1: all timestamps so far are at most j, and the batch has no event more than came after
-- the last punctuation
record IsBefore (j closed : ℕ) (batch : List Transaction) : Type 0 where
  latest : latest_with batch closed ≤ j
  few : length batch ≤ j % generated_batch

-- the event joins the batch
joins : (most j closed : ℕ) (batch : List Transaction) (e : Transaction) → generated_batch ≤ most → IsBefore j closed batch → e.ts ≡ j + 1 → joining most closed batch e ≡ Adds e
joins most j closed batch e many h time =
    let first = closed_le_latest batch closed in
    let not_late : nat_le e.ts closed ≡ false = (let latest = h.latest in grind (arith, nat_tests)) in
    let once = new_time batch closed e.ts (omega (arith, h.latest)) in
    let room : nat_le most (length batch) ≡ false = (let few : length batch < most = omega (arith, many, h.few) in grind (arith, nat_tests)) in
    rw (not_late, once, room) refl

after_line : (m : Rules) → generated_batch ≤ m.most → (j n closed : ℕ) (batch : List Transaction) (line rest : List ℕ) → (h : IsEventLine m.says (j + 1) line) → IsBefore j closed batch
    → accepted_from m n closed batch (whole (line ++ 10 ∷ rest)) ≡ accepted_from m (n + 1) closed (batch ++ h.event ∷ []) (whole rest)
after_line m many j n closed batch line rest h before =
    ap (accepted_from m n closed batch) (first_line line rest h.printable)
    ∙ leads_joined m closed batch line (omega (arith, h.short)) h.event (batch ++ h.event ∷ []) h.counts h.no_mark h.says (joins m.most j closed batch h.event many before h.time) refl n (whole rest)

-- a punctuation closes the batch
after_mark : (m : Rules) (n closed : ℕ) (batch : List Transaction) (rest : List ℕ)
    → accepted_from m n closed batch (whole (80 ∷ 10 ∷ rest)) ≡ with_batch batch (accepted_from m (n + 1) (latest_with batch closed) [] (whole rest))
after_mark m n closed batch rest =
    ap (accepted_from m n closed batch) (first_line (80 ∷ []) rest (All-cons (λ b. 32 ≤ b) 80 [] (omega arith) (All-nil (λ b. 32 ≤ b))))
    ∙ leads_closed m closed batch (80 ∷ []) (omega arith) (latest_with batch closed) refl refl refl n (whole rest)

-- batches that are those of an input read to its end, with so many events
record IsWhole (all : Accepted) (events : ℕ) : Type 0 where
  pub ends : all.ending ≡ Ended
  pub counted : sum_by (λ batch. length batch) all.batches ≡ events

-- a batch more
one_more : (batch : List Transaction) (all : Accepted) (n events : ℕ) → IsWhole all n → events ≡ length batch + n → IsWhole (with_batch batch all) events
one_more [] all n events h is = record { ends = h.ends; counted = omega (arith, h.counted, is) }
one_more (e ∷ batch) all n events h is = record {
  ends = h.ends;
  counted = sum_by-cons (λ b. length b) (e ∷ batch) all.batches ∙ omega (arith, h.counted, is);
}

-- where no line is left the input ends
nothing_left : (m : Rules) (n closed : ℕ) (batch : List Transaction) → IsWhole (accepted_from m n closed batch (whole [])) (length batch)
unfolding accepted_lines last_if
nothing_left m n closed batch = one_more batch (record { batches = []; ending = Ended }) 0 (length batch) (record { ends = refl; counted = refl }) (omega arith)

-- the event's line with its end, and then the lines of `count` events
after_event : (m : Rules) → generated_batch ≤ m.most → (j n closed count : ℕ) (batch : List Transaction) (line rest : List ℕ) → IsEventLine m.says (j + 1) line → IsBefore j closed batch
    → ((n' closed' : ℕ) (batch' : List Transaction) → IsBefore (j + 1) closed' batch' → IsWhole (accepted_from m n' closed' batch' (whole rest)) (length batch' + count))
    → IsWhole (accepted_from m n closed batch (whole (with_end (j + 1) line ++ rest))) (length batch + (count + 1))
after_event m many j n closed count batch line rest h before after = by_mark ((j + 1) % generated_batch == 0) refl
  where
    longer : List Transaction
    longer = batch ++ h.event ∷ []

    one : length longer ≡ length batch + 1
    one = length-append batch (h.event ∷ [])

    latest : latest_with longer closed ≤ j + 1
    latest = omega (arith, latest_more batch closed h.event, before.latest, h.time)

    by_mark : (ends : Bool) → ((j + 1) % generated_batch == 0) ≡ ends
        → IsWhole (accepted_from m n closed batch (whole ((line ++ 10 ∷ (if ends then 80 ∷ 10 ∷ [] else [])) ++ rest))) (length batch + (count + 1))
    by_mark true is =
        let leads =
        ap (λ text. accepted_from m n closed batch (whole text)) (append_assoc line (10 ∷ 80 ∷ 10 ∷ []) rest)
        ∙ after_line m many j n closed batch line (80 ∷ 10 ∷ rest) h before ∙ after_mark m (n + 1) closed longer rest in
        let next = after (n + 1 + 1) (latest_with longer closed) [] (record { latest = latest; few = omega arith }) in
        subst (λ all. IsWhole all (length batch + (count + 1))) (sym leads) (one_more longer _ (0 + count) (length batch + (count + 1)) next (omega (arith, one)))
    by_mark false is =
        let goes_on : (j + 1) % generated_batch ≢ 0 = grind (arith, nat_tests) in
        let leads =
        ap (λ text. accepted_from m n closed batch (whole text)) (append_assoc line (10 ∷ []) rest) ∙ after_line m many j n closed batch line rest h before in
        let next = after (n + 1) closed longer (record { latest = latest; few = omega (arith, one, before.few) }) in
        let total : length longer + count ≡ length batch + (count + 1) = omega (arith, one) in
        subst (λ all. IsWhole all (length batch + (count + 1))) (sym leads) (subst (λ k. IsWhole (accepted_from m (n + 1) closed longer (whole rest)) k) total next)

module _ (meaning : Meaning) (drawn : ℕ → ℕ → Drawn) (each : (i state : ℕ) → 0 < i → i ≤ generated_events → IsEventLine (meaning One) i (drawn i state).line) where
  abbrev m : Rules
  m = rules_of meaning One

  whole_from : (count j state n closed : ℕ) (batch : List Transaction) → j + count ≤ generated_events → IsBefore j closed batch
      → IsWhole (accepted_from m n closed batch (whole (generated_from drawn count (j + 1) state))) (length batch + count)
  unfolding generated_from
  whole_from zero j state n closed batch few before =
      let total : length batch ≡ length batch + 0 = omega arith in
      subst (λ k. IsWhole (accepted_from m n closed batch (whole [])) k) total (nothing_left m n closed batch)
  whole_from (suc count) j state n closed batch few before =
      let d : Drawn = drawn (j + 1) state in
      let rest : List ℕ = generated_from drawn count (j + 1 + 1) d.state in
      let all = after_event m (omega arith) j n closed count batch d.line rest (each (j + 1) state (omega arith) (omega arith)) before
      (λ n' closed' batch' before'. whole_from count (j + 1) d.state n' closed' batch' (omega arith) before') in
      let total : length batch + (count + 1) ≡ length batch + suc count = omega arith in
      subst (λ k. IsWhole (accepted_from m n closed batch (whole (with_end (j + 1) d.line ++ rest))) k) total all

  -- the first line is an event's, and not the version line
  no_version_text : (count state : ℕ) → has_version_line (lines_of (generated_from drawn count 1 state)) ≡ false
  unfolding generated_from last_if
  no_version_text zero state = refl
  no_version_text (suc count) state =
      let d : Drawn = drawn 1 state in
      let h = each 1 state (omega arith) (omega arith) in
      let rest : List ℕ = generated_from drawn count 2 d.state in
      let marks : List ℕ = if 1 % generated_batch == 0 then 80 ∷ 10 ∷ [] else [] in
      ap (λ text. has_version_line (lines_of text)) (append_assoc d.line (10 ∷ marks) rest)
      ∙ ap (λ r. has_version_line r.lines) (first_line d.line (marks ++ rest) h.printable) ∙ h.no_version

  generated_is_whole : (seed events : ℕ) → events ≤ generated_events → IsWhole (accepted meaning (generated_text drawn seed events)) (0 + events)
  generated_is_whole seed events few =
      rw (no_version_text events seed) (whole_from events 0 seed 0 0 [] (omega arith) (record { latest = omega arith; few = omega arith }))

  pub generated_ends : (seed events : ℕ) → events ≤ generated_events → (accepted meaning (generated_text drawn seed events)).ending ≡ Ended
  generated_ends seed events few = (generated_is_whole seed events few).ends

  pub generated_counted : (seed events : ℕ) → events ≤ generated_events → sum_by (λ batch. length batch) (accepted meaning (generated_text drawn seed events)).batches ≡ events
  generated_counted seed events few = omega (arith, (generated_is_whole seed events few).counted)

  -- a line with its end, and the whole text, are short
  length-with_end : (i : ℕ) (line : List ℕ) → length line ≤ generated_bytes → length (with_end i line) ≤ generated_bytes + 3
  length-with_end i line short = by_mark (i % generated_batch == 0)
    where
      by_mark : (ends : Bool) → length (line ++ 10 ∷ (if ends then 80 ∷ 10 ∷ [] else [])) ≤ generated_bytes + 3
      by_mark true = omega (arith, length-append line (10 ∷ 80 ∷ 10 ∷ []))
      by_mark false = omega (arith, length-append line (10 ∷ []))

  length-generated_from : (count i state : ℕ) → 0 < i → i + count ≤ generated_events + 1 → length (generated_from drawn count i state) ≤ (generated_bytes + 3) * count
  unfolding generated_from
  length-generated_from zero i state begun few = omega arith
  length-generated_from (suc count) i state begun few =
      let d : Drawn = drawn i state in
      let line = length-with_end i d.line (each i state begun (omega arith)).short in
      let rest = length-generated_from count (i + 1) d.state (omega arith) (omega arith) in
      omega (arith, length-append (with_end i d.line) (generated_from drawn count (i + 1) d.state), line, rest)

  pub generated_is_short : (seed events : ℕ) → events ≤ generated_events → length (generated_text drawn seed events) < input_bytes
  generated_is_short seed events few = omega (arith, length-generated_from events 1 seed (omega arith) (omega arith))

  pub generated_within : (seed events : ℕ) → events ≤ generated_events
      → accepted_within meaning input_bytes (generated_text drawn seed events) ≡ accepted meaning (generated_text drawn seed events)
  unfolding within
  generated_within seed events few =
      let short = generated_is_short seed events few in
      let all : nat_le (length (generated_text drawn seed events)) input_bytes ≡ true = grind (arith, nat_tests) in
      rw all refl
