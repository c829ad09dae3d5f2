-- What contracts see of a pipe, and what a round of it does
use Rattle.std.specs.Prelude.{◌≡◌, ◌≢◌, ℕ, ◌+◌, ◌-◌, ◌≤◌, ◌⊎◌, Bool, List, [], ◌++◌, length, take, Option, None, Some, IsSome, IfSome}
use Rattle.morph_base.specs.Flat.{Kept, contents}
use Rattle.event_reader.specs.Steps.{Meaning}
use Rattle.event_reader.specs.Reader.{ReaderView}
use Rattle.decision_model.specs.declared.counts.Last.{Last}
use Rattle.batch_pipe.specs.declared.items.Sent.{Sent}
use Rattle.batch_pipe.specs.declared.items.Ran.{Ran}
use Rattle.batch_pipe.specs.declared.tail.Tail.{Tail}
use Rattle.batch_pipe.specs.declared.tail.Tail.TheVariants.{RunMemory, Untold}
use Rattle.batch_pipe.specs.GivenBatches.{stand}
use Rattle.batch_pipe.specs.PlannedBatches.{Plans, AreNumbered, plans_of}
use Rattle.batch_pipe.specs.Results.{AreTaken, AreRefused}
use Rattle.batch_pipe.specs.PlanRuns.{Manner, AreRun, state_after, last_after}
use Rattle.decision_model.specs.Choices.{no_last}

-- A pipe: its reader, the state of its engine, the plans that wait, how many plans were sent, the outcome of the batch
-- run before, the tail, and how many plans the ring can hold
pub record PipeView (App : Type 0) : Type 0 where
  pub reader : ReaderView App
  pub engine : Kept
  pub waiting : List Sent
  pub sent : ℕ
  pub last : Last
  pub tail : Option Tail
  pub ahead : ℕ

-- A new pipe
abbrev pub new_pipe : {App : Type 0} → ReaderView App → Kept → (ahead : ℕ) → PipeView App
new_pipe reader engine ahead =
    record { reader = reader; engine = engine; waiting = []; sent = 0; last = no_last; tail = None; ahead = ahead }

-- The runs were not cut off: the tail is neither that memory for a run was refused nor that a result was
abbrev pub IsUncut : Option Tail → Type 0
IsUncut tail = (tail ≢ Some RunMemory) × (tail ≢ Some Untold)

-- A plan waits or there is no tail, and the runs were not cut off
abbrev pub IsGoing : {App : Type 0} → PipeView App → Type 0
IsGoing v = ((v.tail ≡ None) ⊎ (v.waiting ≢ [])) × IsUncut v.tail

-- The tail that was met first
abbrev pub or_else : Option Tail → Option Tail → Option Tail
or_else None stop = stop
or_else (Some tail) stop = Some tail

-- The number of the last plan that does not wait
abbrev pub number_before : {App : Type 0} → PipeView App → ℕ
number_before v = v.sent - length v.waiting

-- A round of the pipe. The plans that it sent are of the next batches that the reader gives, in order and each once.
-- Those that it ran are the first of all that waited, and the others wait. The state, the numbers and the strategies go
-- on. The teller took the results of all that were run, in order, or refused the last one. If it refused none, and no
-- memory was refused, all that waited were run, and perhaps some that were sent meanwhile. At least as many plans were
-- sent as there were free places, unless a tail was met
pub record IsRound {App : Type 0} {Teller : Type 0} (event_of : App → ℕ → Meaning)
    (takes : Teller → Ran → Bool → Teller → Type 0) (m : Manner) (a : PipeView App) (left : Option (List ℕ))
    (teller : Teller) (b : PipeView App) (left' : Option (List ℕ)) (teller' : Teller) : Type 0 where
  -- The plans that the round sent, of the next batches that the reader gives, and the tail that it met
  pub more : List Sent
  pub stop : Option Tail
  pub plans : Plans event_of (stand a.reader left) (plans_of more) stop (stand b.reader left')
  -- The plans that the round ran, in order, and one for which memory was refused
  pub runs : List Sent
  pub lost : List Sent
  pub parts : a.waiting ++ more ≡ (runs ++ lost) ++ b.waiting
  -- The results of those that it ran, in order
  pub rans : List Ran
  pub run : AreRun m (contents a.engine) a.last runs rans
  pub state_is : contents b.engine ≡ state_after (contents a.engine) runs
  pub last_is : b.last ≡ last_after a.last rans
  -- The teller took them one after another, or it refused the last one, and then the tail is `Untold`
  pub told : b.tail ≢ Some Untold → AreTaken takes teller rans teller'
  pub untold : b.tail ≡ Some Untold → AreRefused takes teller rans teller'
  -- The numbers go on
  pub sent_is : b.sent ≡ a.sent + length more
  pub numbered : AreNumbered (number_before a) (a.waiting ++ more)
  -- Nothing is read after a tail. Without one, at least as many plans are sent as there were free places when the
  -- halves started
  pub idle : IsSome a.tail → (more ≡ []) × (stop ≡ None) × (b.reader ≡ a.reader) × (left' ≡ left)
  pub enough : a.tail ≡ None → stop ≡ None → a.ahead + (1 - length a.waiting) ≤ length a.waiting + length more
  pub stop_is : IfSome stop (λ tail. (tail ≢ RunMemory) × (tail ≢ Untold))
  -- If neither memory nor a result was refused, all that waited were run, or, if none did, the one that was read first,
  -- and behind them those that the runner took while others were planned
  pub later : List Sent
  pub whole : lost ≡ [] → b.tail ≢ Some Untold → runs ≡ (a.waiting ++ take (1 - length a.waiting) more) ++ later
  pub met : lost ≡ [] → b.tail ≢ Some Untold → b.tail ≡ or_else a.tail stop
  pub refused : lost ≢ [] → (length lost ≡ 1) × (b.tail ≡ Some RunMemory)
  -- The rest stays
  pub layout : b.engine.layout ≡ a.engine.layout
  pub ahead_is : b.ahead ≡ a.ahead
