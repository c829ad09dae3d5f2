-- What lines say by themselves: their events, and the batches between punctuations
use Rattle.std.specs.Prelude.{ℕ, ◌-◌, ◌<◌, ◌||◌, nat_le, filter, filter_map, if◌then◌else◌, Bool, List, length, map, take, Option, Some, None, Result, Ok, Err}
use Rattle.std.specs.List.{All, slice_split}
use Rattle.morph_base.specs.Transactions.{Transaction}
use Rattle.event_reader.specs.declared.cause.Cause.{Cause}
use Rattle.event_reader.specs.Steps.{Saying, said_by, is_ignored, is_punctuation}
use Rattle.event_reader.specs.Words.{words_of}

-- The event of an answer, if it is one
abbrev pub event_if : Result Transaction Cause → Option Transaction
event_if (Ok e) = Some e
event_if (Err _) = None

-- The event that a line says. An ignored line and a punctuation say none
abbrev pub event_said : Saying → List ℕ → Option Transaction
event_said meaning line =
    if is_ignored line || is_punctuation line then None else event_if (said_by meaning (words_of line))

-- The events that lines say, in order
abbrev pub events_said : Saying → List (List ℕ) → List Transaction
events_said meaning lines = filter_map (event_said meaning) lines

-- The test whether a batch has an event
abbrev pub has_event : List Transaction → Bool
has_event batch = nat_le 1 (length batch)

-- The events between punctuations, wherever there are any
abbrev pub batches_said : Saying → List (List ℕ) → List (List Transaction)
batches_said meaning lines = filter has_event (map (events_said meaning) (slice_split is_punctuation lines))

-- Every event of the earlier batch comes before every one of the later batch
abbrev pub IsBefore : List Transaction → List Transaction → Type 0
IsBefore earlier later = All (λ e. All (λ f. e.ts < f.ts) later) earlier

-- All but the last of a list
abbrev pub before_last : {X : Type 0} → List X → List X
before_last xs = take (length xs - 1) xs

-- The events in front of each punctuation, wherever there are any: those of the batches that lines close
abbrev pub closed_said : Saying → List (List ℕ) → List (List Transaction)
closed_said meaning lines =
    filter has_event (map (events_said meaning) (before_last (slice_split is_punctuation lines)))
