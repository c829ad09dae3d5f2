-- What a line does, by its tests in their order.
use Rattle.std.proofs.Common.{All, ◌≡◌, ℕ, ◌+◌, ◌<◌, ◌≤◌, Bool, true, false, nat_le, if◌then◌else◌, List, [], ◌∷◌, ◌++◌, length, map, refl, sym, ◌∙◌, ap, arith, length-append, Result, Ok, Err}
use Rattle.std.specs.Prelude.{nat_lt, nat_eq, ◌==◌, ◌||◌}
use Rattle.std.specs.List.{IsDistinct, AllByRecursion}
use Rattle.std.proofs.lemmas.Bool.Decides.{nat_tests}
use Rattle.std.proofs.lemmas.List.{map_push}
use Rattle.std.proofs.lemmas.List.Elements.{All-push}
use Rattle.std.proofs.lemmas.List.Sorted.{IsPermutation-to_front, IsPermutation-sym}
use Rattle.std.proofs.lemmas.Map.Keys.{IsDistinct-cons, IsDistinct-IsPermutation}
use Rattle.morph_base.specs.declared.key.Layout.{Layout}
use Rattle.morph_base.specs.Transactions.{Transaction, time, IsTransaction, HasKeysIn, HasHigh}
use Rattle.morph_base.proofs.BoundLaws.{alike_all}
use Rattle.event_reader.specs.declared.version.Version.{Version}
use Rattle.event_reader.specs.Reader.{IsEventOf}
use Rattle.event_reader.specs.Versions.{greatest_of, most_events}
use Rattle.event_reader.specs.VersionLaws.{events_at_most}
use Rattle.event_reader.specs.Limits.{longest_line}
use Rattle.event_reader.specs.declared.cause.Cause.{Cause}
use Rattle.event_reader.specs.declared.cause.Cause.TheVariants.{Late, Twice, Full}
use Rattle.event_reader.specs.Lines.{Reading, with_line}
use Rattle.event_reader.specs.Words.{words_of}
use Rattle.event_reader.specs.Steps.{Rules, Step, Ignored, Closes, Adds, Refuses, latest_with, has_time, joining, event_step, said_by, is_ignored, is_punctuation, step_of}
use Rattle.event_reader.specs.Accepted.{RefusedAt, accepted_from, with_batch}
use Rattle.event_reader.specs.Pending.{IsSoundBatch}
use Rattle.event_reader.proofs.BatchAnswers.{leads}

module _ (m : Rules) (closed : ℕ) (batch : List Transaction) (line : List ℕ) (short : length line ≤ longest_line) where
  is_short : nat_lt longest_line (length line) ≡ false
  is_short = grind (arith, nat_tests)

  step_ignored : is_ignored line ≡ true → step_of m closed batch line ≡ Ignored
  unfolding step_of
  step_ignored ignored = rw (is_short, ignored) refl

  step_closes : is_ignored line ≡ false → is_punctuation line ≡ true → step_of m closed batch line ≡ Closes
  unfolding step_of
  step_closes taken closes = rw (is_short, taken, closes) refl

  step_event : is_ignored line ≡ false → is_punctuation line ≡ false → (said : Result Transaction Cause) → said_by m.says (words_of line) ≡ said
      → step_of m closed batch line ≡ event_step m.most closed batch said
  unfolding step_of
  step_event taken event said is = rw (is_short, taken, event) (ap (event_step m.most closed batch) is)

  -- where it leads
  pub leads_ignored : is_ignored line ≡ true → (n : ℕ) (r : Reading) → accepted_from m n closed batch (with_line line r) ≡ accepted_from m (n + 1) closed batch r
  leads_ignored ignored n r = leads m n closed batch line Ignored (step_ignored ignored) r

  pub leads_empty : is_ignored line ≡ false → is_punctuation line ≡ true → batch ≡ [] → (n : ℕ) (r : Reading)
      → accepted_from m n closed batch (with_line line r) ≡ accepted_from m (n + 1) closed batch r
  leads_empty taken closes none n r = leads m n closed batch line Closes (step_closes taken closes) r ∙ rw none refl

  pub leads_closed : (latest : ℕ) → latest ≡ latest_with batch closed → is_ignored line ≡ false → is_punctuation line ≡ true → (n : ℕ) (r : Reading)
      → accepted_from m n closed batch (with_line line r) ≡ with_batch batch (accepted_from m (n + 1) latest [] r)
  leads_closed latest is taken closes n r =
      leads m n closed batch line Closes (step_closes taken closes) r
      ∙ ap (λ l. with_batch batch (accepted_from m (n + 1) l [] r)) (sym is)

  pub leads_refused : (cause : Cause) → is_ignored line ≡ false → is_punctuation line ≡ false → said_by m.says (words_of line) ≡ Err cause → (n : ℕ) (r : Reading)
      → accepted_from m n closed batch (with_line line r) ≡ record { batches = []; ending = RefusedAt (n + 1) cause }
  leads_refused cause taken event is n r = leads m n closed batch line (Refuses cause) (step_event taken event (Err cause) is) r

  pub leads_event : (e : Transaction) (step : Step) → is_ignored line ≡ false → is_punctuation line ≡ false → said_by m.says (words_of line) ≡ Ok e
      → joining m.most closed batch e ≡ step → step_of m closed batch line ≡ step
  leads_event e step taken event is joins = step_event taken event (Ok e) is ∙ joins

  pub leads_joined : (e : Transaction) (batch' : List Transaction) → is_ignored line ≡ false → is_punctuation line ≡ false → said_by m.says (words_of line) ≡ Ok e
      → joining m.most closed batch e ≡ Adds e → batch' ≡ batch ++ e ∷ [] → (n : ℕ) (r : Reading)
      → accepted_from m n closed batch (with_line line r) ≡ accepted_from m (n + 1) closed batch' r
  leads_joined e batch' taken event is joins more n r =
      leads m n closed batch line (Adds e) (leads_event e (Adds e) taken event is joins) r
      ∙ ap (λ b. accepted_from m (n + 1) closed b r) (sym more)

  pub leads_not_joined : (e : Transaction) (cause : Cause) → is_ignored line ≡ false → is_punctuation line ≡ false → said_by m.says (words_of line) ≡ Ok e
      → joining m.most closed batch e ≡ Refuses cause → (n : ℕ) (r : Reading)
      → accepted_from m n closed batch (with_line line r) ≡ record { batches = []; ending = RefusedAt (n + 1) cause }
  leads_not_joined e cause taken event is joins n r = leads m n closed batch line (Refuses cause) (leads_event e (Refuses cause) taken event is joins) r

-- an event that joins a batch is the first of its time, and not one too many
joins_when : (e : Transaction) (late twice full : Bool)
    → (if late then Refuses Late else (if twice then Refuses Twice else (if full then Refuses Full else Adds e))) ≡ Adds e
    → (twice ≡ false) × (full ≡ false)
joins_when e true twice full is = absurd (cc)
joins_when e false true full is = absurd (cc)
joins_when e false false true is = absurd (cc)
joins_when e false false false is = (refl, refl)

nat_eq_flips : (a b : ℕ) → nat_eq a b ≡ nat_eq b a
nat_eq_flips a b = grind (arith, nat_tests)

or_parts : (a b : Bool) → (a || b) ≡ false → (a ≡ false) × (b ≡ false)
or_parts true b none = absurd (cc)
or_parts false b none = (refl, none)

-- a time that no event of a batch has differs from the time of each
differs : (batch : List Transaction) (ts : ℕ) → has_time batch ts ≡ false → AllByRecursion (λ t. nat_eq ts t ≡ false) (map time batch)
differs [] ts none = tt
differs (f ∷ batch) ts none =
    let parts = or_parts (f.ts == ts) (has_time batch ts) none in
    (nat_eq_flips ts f.ts ∙ parts.0, differs batch ts parts.1)

-- with an event of a new time the times of a batch still differ
pub distinct_more : (batch : List Transaction) (e : Transaction) → has_time batch e.ts ≡ false → IsDistinct nat_eq (map time batch)
    → IsDistinct nat_eq (map time (batch ++ e ∷ []))
distinct_more batch e fresh distinct =
    let apart : IsDistinct nat_eq (e.ts ∷ map time batch) = IsDistinct-cons nat_eq e.ts (map time batch) (differs batch e.ts fresh) distinct in
    rw map_push
    (IsDistinct-IsPermutation nat_eq nat_eq_flips (e.ts ∷ map time batch) (map time batch ++ e.ts ∷ [])
    (IsPermutation-sym _ _ (IsPermutation-to_front (map time batch) e.ts)) apart)

-- a batch with one event more stays sound
pub sound_more : (version : Version) (layout : Layout) (closed : ℕ) (batch : List Transaction) (e : Transaction) (batch' : List Transaction) → IsSoundBatch version layout batch
    → IsEventOf version layout e → joining (most_events version) closed batch e ≡ Adds e → batch' ≡ batch ++ e ∷ [] → IsSoundBatch version layout batch'
sound_more version layout closed batch e batch' h event joins more =
    let when = joins_when e (nat_le e.ts closed) (has_time batch e.ts) (nat_le (most_events version) (length batch)) joins in
    let few : length batch < most_events version = grind (arith, nat_tests, when.1) in
    let most = events_at_most version in
    let valid : All IsTransaction (batch ++ e ∷ []) = All-push IsTransaction batch e h.valid.valid event.0 in
    let limits : All (HasHigh (greatest_of version)) (batch ++ e ∷ []) = All-push (HasHigh (greatest_of version)) batch e h.limits event.2 in
    rw more record {
      valid = record {
        few = omega (arith, few, most, length-append batch (e ∷ []));
        valid = valid;
        times = distinct_more batch e when.0 h.valid.times;
        alike = alike_all (greatest_of version) (batch ++ e ∷ []) valid limits;
      };
      keys = All-push (HasKeysIn layout) batch e h.keys event.1;
      limits = limits;
    }

-- a list that is not empty has an item
pub some_item : {X : Type 0} (xs : List X) → (xs ≡ [] → ⊥) → 0 < length xs
some_item [] h = absurd (h refl)
some_item (x ∷ xs) h = omega arith
