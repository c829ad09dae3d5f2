-- What the rounds of a whole run do, one after another
use Rattle.std.specs.Prelude.{◌≡◌, ◌≢◌, ℕ, ◌+◌, ◌-◌, ◌*◌, ◌≤◌, List, [], ◌++◌, length, Option, None, Some}
use Rattle.morph_base.specs.Flat.{Kept, contents}
use Rattle.event_reader.specs.Accepted.{Ending, Ended, RefusedAt, CutOff}
use Rattle.event_reader.specs.Reader.{ReaderView}
use Rattle.event_reader.specs.Steps.{Meaning}
use Rattle.event_reader.specs.declared.fault.ReaderFault.TheVariants.{TooLong}
use Rattle.batch_pipe.specs.declared.items.Sent.{Sent}
use Rattle.batch_pipe.specs.declared.items.Ran.{Ran}
use Rattle.batch_pipe.specs.declared.tail.Tail.{Tail}
use Rattle.batch_pipe.specs.declared.tail.Tail.TheVariants.{End, Refused, Fault, RunMemory}
use Rattle.batch_pipe.specs.GivenBatches.{stand}
use Rattle.batch_pipe.specs.PlannedBatches.{Plans, AreNumbered, plans_of}
use Rattle.batch_pipe.specs.PlanRuns.{Manner, AreRun, state_after, last_after}
use Rattle.decision_model.specs.Choices.{no_last}
use Rattle.batch_pipe.specs.PipeRounds.{PipeView, IsGoing, IsUncut}

-- How a pipe begins: with this reader and this engine, while the source has these bytes left
pub record PipeStart (App : Type 0) : Type 0 where
  pub reader : ReaderView App
  pub engine : Kept
  pub left : Option (List ℕ)

-- The start with these parts
abbrev pub pipe_start : {App : Type 0} → ReaderView App → Kept → Option (List ℕ) → PipeStart App
pipe_start reader engine left = record { reader = reader; engine = engine; left = left }

-- A pipe between two rounds, and the bytes that the source has left
pub record PipePoint (App : Type 0) : Type 0 where
  pub pipe : PipeView App
  pub left : Option (List ℕ)

-- The point with these parts
abbrev pub pipe_point : {App : Type 0} → PipeView App → Option (List ℕ) → PipePoint App
pipe_point pipe left = record { pipe = pipe; left = left }

-- This many rounds of a new pipe, with this reader and engine, led to the pipe b. The plans that were sent, numbered
-- from 1, are those of the first batches that the reader gave, in order and each once. Those that were run are the
-- first of these, and `rans` are their results in order
pub record IsCourse {App : Type 0} (event_of : App → ℕ → Meaning) (m : Manner) (start : PipeStart App) (rounds : ℕ)
    (rans : List Ran) (now : PipePoint App) : Type 0 where
  pub more : List Sent
  pub stop : Option Tail
  pub plans : Plans event_of (stand start.reader start.left) (plans_of more) stop (stand now.pipe.reader now.left)
  pub runs : List Sent
  -- The plan for which memory was refused, if there is one
  pub lost : List Sent
  pub parts : more ≡ (runs ++ lost) ++ now.pipe.waiting
  pub run : AreRun m (contents start.engine) no_last runs rans
  pub state_is : contents now.pipe.engine ≡ state_after (contents start.engine) runs
  pub last_is : now.pipe.last ≡ last_after no_last rans
  pub sent_is : now.pipe.sent ≡ length more
  pub numbered : AreNumbered 0 more
  pub layout : now.pipe.engine.layout ≡ start.engine.layout
  -- If no memory was refused in running, no plan is lost. If no result was refused either, the tail is that of the
  -- planner
  pub whole : now.pipe.tail ≢ Some RunMemory → lost ≡ []
  pub met : now.pipe.tail ≡ None → stop ≡ None
  pub tail_is : IsUncut now.pipe.tail → now.pipe.tail ≡ stop
  -- Each round but the last took a plan
  pub few : rounds ≤ length runs + length lost + 1
  pub few_going : IsGoing now.pipe → rounds ≤ length runs

-- A bound on the rounds that reading can still need: one, and two for each line not yet read, which may be the one of a
-- batch; none after a tail
abbrev pub reads_left : Option Tail → (lines : ℕ) → ℕ
reads_left None lines = 1 + 2 * lines
reads_left (Some tail) lines = 0

-- A bound on the rounds that there can still be: one for each plan that waits, and those that reading can still need
abbrev pub steps_left : {App : Type 0} → PipeView App → ℕ
steps_left v = length v.waiting + reads_left v.tail (v.reader.lines.limit + 1 - v.reader.lines.number)

-- How an input with this tail ends; None if the tail does not say
abbrev pub ending_of : Tail → Option Ending
ending_of End = Some Ended
ending_of (Refused line cause) = Some (RefusedAt line cause)
ending_of (Fault TooLong) = Some CutOff
ending_of _ = None
