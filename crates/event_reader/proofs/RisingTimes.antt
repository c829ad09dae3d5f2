-- Timestamps rise from batch to batch, and differ within one.
use Rattle.std.proofs.Common.{ℕ, ◌+◌, ◌<◌, ◌≤◌, Bool, true, false, max, List, [], ◌∷◌, ◌++◌, map, arith}
use Rattle.std.specs.Prelude.{nat_eq}
use Rattle.std.specs.List.{All, AllPairs, IsDistinct}
use Rattle.std.proofs.lemmas.List.Elements.{All-nil, All-cons, All-push, All-weaker}
use Rattle.std.proofs.lemmas.List.Kept.{AllPairs-cons}
use Rattle.morph_base.specs.Transactions.{Transaction, time}
use Rattle.event_reader.specs.Steps.{Rules, Step, Ignored, Closes, Adds, Refuses, latest_with, step_of}
use Rattle.event_reader.specs.Accepted.{Accepted, Ended, with_batch, led_by, accepted_lines}
use Rattle.event_reader.specs.LineEvents.{IsBefore}
use Rattle.event_reader.proofs.StepCases.{Comes, joins, comes}
use Rattle.event_reader.proofs.LineSteps.{distinct_more}

-- the greatest timestamp is at least what it was before, and at least each of the batch
pub latest_rises : (batch : List Transaction) (closed : ℕ) → closed ≤ latest_with batch closed
latest_rises [] closed = omega arith
latest_rises (e ∷ batch) closed = let rest = latest_rises batch (max closed e.ts) in omega (arith, rest)

pub latest_bounds : (batch : List Transaction) (closed : ℕ) → All (λ e. e.ts ≤ latest_with batch closed) batch
latest_bounds [] closed = All-nil (λ e. e.ts ≤ closed)
latest_bounds (e ∷ batch) closed =
    let rest = latest_rises batch (max closed e.ts) in
    All-cons (λ f. f.ts ≤ latest_with (e ∷ batch) closed) e batch (omega (arith, rest)) (latest_bounds batch (max closed e.ts))

-- each batch has other times, and comes after those closed before it
abbrev pub Rises : (closed : ℕ) → List (List Transaction) → Type 0
Rises closed [] = Unit {0}
Rises closed (batch ∷ more) = (All (λ e. closed < e.ts) batch) × (IsDistinct nat_eq (map time batch)) × Rises (latest_with batch closed) more

-- an unfinished batch
record Goes (closed : ℕ) (batch : List Transaction) : Type 0 where
  later : All (λ e. closed < e.ts) batch
  distinct : IsDistinct nat_eq (map time batch)

goes_new : (closed : ℕ) → Goes closed []
unfolding IsDistinct
goes_new closed = record { later = All-nil (λ e. closed < e.ts); distinct = tt }

rises_with : (closed : ℕ) (batch : List Transaction) (all : Accepted) → Goes closed batch → Rises (latest_with batch closed) all.batches
    → Rises closed (with_batch batch all).batches
rises_with closed [] all goes h = h
rises_with closed (e ∷ es) all goes h = (goes.later, goes.distinct, h)

led_rises : (m : Rules) (closed : ℕ) (batch : List Transaction) (line : List ℕ) (step : Step) → Comes m closed batch line step → Goes closed batch
    → (n : ℕ) (after : ℕ → List Transaction → Accepted) → ((closed' : ℕ) (batch' : List Transaction) → Goes closed' batch' → Rises closed' (after closed' batch').batches)
    → Rises closed (led_by step n closed batch after).batches
led_rises m closed batch line Ignored is goes n after h = h closed batch goes
led_rises m closed batch line Closes is goes n after h =
    rises_with closed batch (after (latest_with batch closed) []) goes (h (latest_with batch closed) [] (goes_new (latest_with batch closed)))
led_rises m closed batch line (Adds e) (joins e' says later fresh few) goes n after h =
    h closed (batch ++ e ∷ []) (record { later = All-push (λ f. closed < f.ts) batch e goes.later later; distinct = distinct_more batch e fresh goes.distinct })
led_rises m closed batch line (Refuses cause) is goes n after h = tt

rises_lines : (m : Rules) (n closed : ℕ) (batch : List Transaction) (lines : List (List ℕ)) (cut : Bool) → Goes closed batch
    → Rises closed (accepted_lines m n closed batch lines cut).batches
unfolding accepted_lines
rises_lines m n closed batch [] true goes = tt
rises_lines m n closed batch [] false goes = rises_with closed batch (record { batches = []; ending = Ended }) goes tt
rises_lines m n closed batch (line ∷ lines) cut goes =
    led_rises m closed batch line (step_of m closed batch line) (comes m closed batch line) goes n _
    (λ closed' batch' goes'. rises_lines m (n + 1) closed' batch' lines cut goes')

pub rises : (m : Rules) (n closed : ℕ) (lines : List (List ℕ)) (cut : Bool) → Rises closed (accepted_lines m n closed [] lines cut).batches
rises m n closed lines cut = rises_lines m n closed [] lines cut (goes_new closed)

-- so every batch comes after what was closed, and after each earlier batch
all_later : (closed low : ℕ) (batches : List (List Transaction)) → low ≤ closed → Rises closed batches → All (λ batch. All (λ e. low < e.ts) batch) batches
all_later closed low [] below h = All-nil (λ batch. All (λ e. low < e.ts) batch)
all_later closed low (batch ∷ more) below h =
    All-cons (λ batch. All (λ e. low < e.ts) batch) batch more
    (All-weaker (λ e. closed < e.ts) (λ e. low < e.ts) (λ e above. omega arith) batch h.0)
    (all_later (latest_with batch closed) low more (let up = latest_rises batch closed in omega (arith, up)) h.2)

pub before_later : (closed : ℕ) (batches : List (List Transaction)) → Rises closed batches → AllPairs IsBefore batches
before_later closed [] h = λ i j d before inside. absurd (omega arith)
before_later closed (batch ∷ more) h =
    AllPairs-cons IsBefore batch more
    (All-weaker (λ later. All (λ f. latest_with batch closed < f.ts) later) (IsBefore batch)
    (λ later above.
    All-weaker (λ e. e.ts ≤ latest_with batch closed) (λ e. All (λ f. e.ts < f.ts) later)
    (λ e below. All-weaker (λ f. latest_with batch closed < f.ts) (λ f. e.ts < f.ts) (λ f beyond. omega arith) later above)
    batch (latest_bounds batch closed))
    more (all_later (latest_with batch closed) (latest_with batch closed) more (omega arith) h.2))
    (before_later (latest_with batch closed) more h.2)

pub times_differ : (closed : ℕ) (batches : List (List Transaction)) → Rises closed batches → All (λ batch. IsDistinct nat_eq (map time batch)) batches
times_differ closed [] h = All-nil (λ batch. IsDistinct nat_eq (map time batch))
times_differ closed (batch ∷ more) h =
    All-cons (λ batch. IsDistinct nat_eq (map time batch)) batch more h.1 (times_differ (latest_with batch closed) more h.2)
