-- The word of an operation in a shared table: its value, its attempt, its state and its worker, and how they are packed
-- in one number
use Rattle.std.specs.Prelude.{◌≡◌, ℕ, ◌+◌, ◌*◌, ◌≤◌, Bool, true, false, List, Option, Some, None, slice_index, slice_index_or}
use Rattle.morph_base.specs.declared.limits.TheConstants.{MAX}
use Rattle.morph_base.specs.declared.operation.Op.{Op}
use Rattle.morph_base.specs.declared.word.OpState.{OpState}
use Rattle.morph_base.specs.declared.word.OpState.TheVariants.{Blocked, Ready, Claimed, Executed, Failed, Spread, Settled, SettledAborted}
use Rattle.morph_base.specs.declared.word.OpWord.{OpWord}
use Rattle.morph_base.specs.Functions.{value_of}
use Rattle.morph_base.specs.Limits.{most_attempts, most_workers, value_room}

-- The number of a state in a packed word
abbrev pub code_of : OpState → ℕ
code_of Blocked = 0
code_of Ready = 1
code_of Claimed = 2
code_of Executed = 3
code_of Failed = 4
code_of Spread = 5
code_of Settled = 6
code_of SettledAborted = 7

-- The operation has no value at this attempt yet: it is blocked, ready or claimed
abbrev pub is_idle : OpState → Bool
is_idle Blocked = true
is_idle Ready = true
is_idle Claimed = true
is_idle Executed = false
is_idle Failed = false
is_idle Spread = false
is_idle Settled = false
is_idle SettledAborted = false

-- The operation has a value that may still be taken back: it is executed, failed or spread
abbrev pub is_evaluated : OpState → Bool
is_evaluated Blocked = false
is_evaluated Ready = false
is_evaluated Claimed = false
is_evaluated Executed = true
is_evaluated Failed = true
is_evaluated Spread = true
is_evaluated Settled = false
is_evaluated SettledAborted = false

-- The operation has its value for good: it is settled, or settled as aborted
abbrev pub is_settled : OpState → Bool
is_settled Blocked = false
is_settled Ready = false
is_settled Claimed = false
is_settled Executed = false
is_settled Failed = false
is_settled Spread = false
is_settled Settled = true
is_settled SettledAborted = true

-- The word names a worker, which holds the operation or settled it
abbrev pub has_worker : OpState → Bool
has_worker Blocked = false
has_worker Ready = false
has_worker Claimed = true
has_worker Executed = false
has_worker Failed = false
has_worker Spread = false
has_worker Settled = true
has_worker SettledAborted = true

-- The operation's function was run on its records: it is executed or failed
abbrev pub has_run : OpState → Bool
has_run Blocked = false
has_run Ready = false
has_run Claimed = false
has_run Executed = true
has_run Failed = true
has_run Spread = false
has_run Settled = false
has_run SettledAborted = false

-- The operation's value at this attempt was shown: it is executed, failed, spread or settled
abbrev pub is_shown : OpState → Bool
is_shown Blocked = false
is_shown Ready = false
is_shown Claimed = false
is_shown Executed = true
is_shown Failed = true
is_shown Spread = true
is_shown Settled = true
is_shown SettledAborted = false

-- The operation is failed
abbrev pub is_failed : OpState → Bool
is_failed Blocked = false
is_failed Ready = false
is_failed Claimed = false
is_failed Executed = false
is_failed Failed = true
is_failed Spread = false
is_failed Settled = false
is_failed SettledAborted = false

-- Nobody holds the operation, and it is not settled
abbrev pub is_open : OpState → Bool
is_open Blocked = true
is_open Ready = true
is_open Claimed = false
is_open Executed = true
is_open Failed = true
is_open Spread = true
is_open Settled = false
is_open SettledAborted = false

-- The word is one that occurs: its attempt is from 1 to `most_attempts`, it has no value while it is idle, its value is
-- at most MAX, and it names a worker exactly if its state has one
pub record IsWord (w : OpWord) : Type 0 where
  pub small : w.value ≤ MAX
  pub first : 1 ≤ w.attempt
  pub last : w.attempt ≤ most_attempts
  pub blank : is_idle w.state ≡ true → w.value ≡ 0
  pub by_worker : has_worker w.state ≡ true → (1 ≤ w.by) × (w.by ≤ most_workers)
  pub by_none : has_worker w.state ≡ false → w.by ≡ 0

-- The word as one number: 44 bits of value, 4 of attempt, 4 of state, and the worker above them
abbrev pub packed : OpWord → ℕ
packed w = w.value + value_room * (w.attempt + 16 * (code_of w.state + 16 * w.by))

-- ---- the words of an operation at an attempt

-- The word of a blocked operation at attempt a
abbrev pub blocked : ℕ → OpWord
blocked a = record { value = 0; attempt = a; state = Blocked; by = 0 }

-- The word of a ready operation at attempt a
abbrev pub ready : ℕ → OpWord
ready a = record { value = 0; attempt = a; state = Ready; by = 0 }

-- The word of an operation that worker t claimed at attempt a
abbrev pub claimed : ℕ → ℕ → OpWord
claimed a t = record { value = 0; attempt = a; state = Claimed; by = t }

-- The word of an operation that was executed at attempt a, with value v
abbrev pub executed : ℕ → ℕ → OpWord
executed a v = record { value = v; attempt = a; state = Executed; by = 0 }

-- The word of an operation that failed at attempt a, and carries the value v
abbrev pub failed : ℕ → ℕ → OpWord
failed a v = record { value = v; attempt = a; state = Failed; by = 0 }

-- The word of an operation at attempt a that carries the value v since another operation of its event failed: it is
-- spread
abbrev pub spread : ℕ → ℕ → OpWord
spread a v = record { value = v; attempt = a; state = Spread; by = 0 }

-- The word of an operation that worker t settled at attempt a, with value v, in a committed event
abbrev pub settled : ℕ → ℕ → ℕ → OpWord
settled a v t = record { value = v; attempt = a; state = Settled; by = t }

-- The word of an operation that worker t settled at attempt a, with value v, in an aborted event
abbrev pub settled_aborted : ℕ → ℕ → ℕ → OpWord
settled_aborted a v t = record { value = v; attempt = a; state = SettledAborted; by = t }

-- The word after an evaluation: executed with the answer, or failed with the value `before` if there is no answer
abbrev pub word_of : (attempt : ℕ) → (answer : Option ℕ) → (before : ℕ) → OpWord
word_of a (Some v) before = executed a v
word_of a None before = failed a before

-- The word after an evaluation with this answer, if the places read the values xs
abbrev pub ended : ℕ → List ℕ → Option ℕ → OpWord
ended a xs answer = word_of a answer (slice_index xs 0)

-- The word after the operation was evaluated on the values xs of its places
abbrev pub finished : Op → ℕ → List ℕ → OpWord
finished op a xs = ended a xs (value_of op xs)

-- The value of the word of operation o in a list of words
abbrev pub value_of_word : List OpWord → ℕ → ℕ
value_of_word words o = (slice_index_or words o (blocked 1)).value
