-- Plans that are made of the batches that a reader gives
use Rattle.std.specs.Prelude.{false, ◌≡◌, ◌≢◌, ℕ, ◌+◌, ◌≤◌, List, [], ◌∷◌, ◌++◌, length, map, All, Option, Some, None, Result, Ok, Err, IsTrue}
use Rattle.morph_base.specs.declared.key.Layout.{Layout}
use Rattle.morph_base.specs.declared.plan.Plan.{Plan}
use Rattle.morph_base.specs.Transactions.{Transaction, by_time}
use Rattle.morph_base.specs.Plans.{PlanKeysIn, high_of, transactions}
use Rattle.morph_base.specs.Graphs.{IsValidPlan}
use Rattle.event_reader.specs.Steps.{Meaning}
use Rattle.event_reader.specs.Limits.{input_bytes}
use Rattle.event_reader.specs.Versions.{greatest_of}
use Rattle.event_reader.specs.declared.answers.Next.{Next}
use Rattle.event_reader.specs.declared.answers.Next.TheVariants.{End as NoBatch, Refused as RefusedLine}
use Rattle.event_reader.specs.declared.fault.ReaderFault.{ReaderFault}
use Rattle.event_reader.specs.declared.fault.ReaderFault.TheVariants.{OutOfMemory, ReadFault}
use Rattle.event_reader.specs.Reader.{ReaderView, accepted_by, AnswersNext, ShowsNext, TakesBytes, SameReader}
use Rattle.rtrb.specs.Ring.{sent, known_free}
use Rattle.batch_pipe.specs.declared.items.Sent.{Sent}
use Rattle.batch_pipe.specs.declared.planner.Planner.{Planner}
use Rattle.batch_pipe.specs.declared.tail.Tail.{Tail}
use Rattle.batch_pipe.specs.declared.tail.Tail.TheVariants.{End, Refused, Fault, RunMemory, Untold}
use Rattle.batch_pipe.specs.GivenBatches.{Stand, stand, GivesBatches}

-- The answer of a reader that a tail stands for. For a tail that no reader meets it is `OutOfMemory`, which says
-- nothing
abbrev pub answer_of : Tail → Result Next ReaderFault
answer_of End = Ok NoBatch
answer_of (Refused line cause) = Ok (RefusedLine line cause)
answer_of (Fault fault) = Err fault
answer_of RunMemory = Err OutOfMemory
answer_of Untold = Err OutOfMemory

-- The plan is valid, has the greatest value `high`, and its keys are in the layout. Once its bases are filled in, it
-- can be run on a state of the layout with no value above `high`
pub record IsReadyPlan (layout : Layout) (high : ℕ) (p : Plan) : Type 0 where
  pub valid : IsValidPlan p
  pub keys : PlanKeysIn p layout
  pub high_is : high_of p ≡ high

-- The plans are those of these batches, in order
abbrev pub ArePlansOf : List (List Transaction) → List Plan → Type 0
ArePlansOf batches plans = map transactions plans ≡ map by_time batches

-- The plans that were sent
abbrev pub plans_of : List Sent → List Plan
plans_of sent = map (λ (x : Sent). x.plan) sent

-- A plan that is sent is what its parts say: ready for states of its layout with no value above its greatest one. Its
-- number is at most one more than the bytes of an input
pub record IsReadySent (x : Sent) : Type 0 where
  pub ready : IsReadyPlan x.layout x.greatest x.plan
  pub few : x.number ≤ input_bytes + 1

-- What was sent is numbered on, after `before` earlier numbers
unfoldable pub AreNumbered : ℕ → List Sent → Type 0
AreNumbered before [] = Unit {0}
AreNumbered before (x ∷ xs) = (x.number ≡ before + 1) × AreNumbered (before + 1) xs

-- The layout of the keys that a reader's events have
abbrev pub layout_by : {App : Type 0} → (table_count : App → ℕ) → ReaderView App → Layout
layout_by table_count r = record { tables = table_count r.app; size = r.size }

-- A planner between two batches: the stand of its reader, what it sent, and the number of the last plan that it made
pub record Bench (App : Type 0) : Type 0 where
  pub at : Stand App
  pub sent : List Sent
  pub number : ℕ

-- The bench of a planner whose source has `left`
abbrev pub bench : {App : Type 0} → Planner App → (left : Option (List ℕ)) → Bench App
bench p left = record { at = stand p.reader left; sent = sent p.ring; number = p.sent }

module _ {App : Type 0} (event_of : App → ℕ → Meaning) where
  -- The reader was asked and gave no batch, or its batch was not planned, and so this tail was met
  pub record StopsWithTail (tail : Tail) (a b : Stand App) : Type 0 where
    pub answers : AnswersNext (accepted_by event_of a.reader a.left) (answer_of tail) (accepted_by event_of b.reader b.left)
    pub shows : TakesBytes a.left b.left (ShowsNext event_of a.reader (answer_of tail) b.reader)
    pub asked : tail ≡ Fault ReadFault → a.reader.lines.ended ≡ false
    pub untold : tail ≢ Untold
    pub same : SameReader a.reader b.reader

  -- The reader met this tail, or there is no tail and it was not asked
  abbrev pub MayStop : Option Tail → Stand App → Stand App → Type 0
  MayStop None a b = b ≡ a
  MayStop (Some tail) a b = StopsWithTail tail a b

  -- Plans were made of the next batches that the reader gave, in order and each once, and then the tail was met, if
  -- there is one
  pub record Plans (a : Stand App) (plans : List Plan) (tail : Option Tail) (b : Stand App) : Type 0 where
    pub batches : List (List Transaction)
    pub middle : Stand App
    pub gives : GivesBatches event_of a batches middle
    pub plans_are : ArePlansOf batches plans
    pub stops : MayStop tail middle b

  -- Plans were made of the next batches that the reader gave, and sent behind those that were sent before, numbered on
  pub record PlansAhead (layout : Layout) (high : ℕ) (a : Bench App) (tail : Option Tail) (b : Bench App) : Type 0 where
    pub more : List Sent
    pub sent_is : b.sent ≡ a.sent ++ more
    pub plans : Plans a.at (plans_of more) tail b.at
    pub ready : All (λ (x : Sent). IsReadyPlan layout high x.plan) more
    pub numbered : AreNumbered a.number more
    pub number_is : b.number ≡ a.number + length more

  -- The planner read, planned, and sent what it planned over its ring, and then met the tail, if there is one
  abbrev pub HasPlanned : (table_count : App → ℕ) → Planner App → Option (List ℕ) → Option Tail → Planner App
      → Option (List ℕ) → Type 0
  HasPlanned table_count a left tail b left' =
      PlansAhead (layout_by table_count a.reader) (greatest_of b.reader.past.version) (bench a left) tail (bench b left')

-- The planner may go on, has the layout of its reader's keys, and has sent at most as many plans as its reader gave
-- lines
pub record CanPlan {App : Type 0} (table_count : App → ℕ) (p : Planner App) : Type 0 where
  pub live : IsTrue p.reader.live
  pub layout : p.layout ≡ layout_by table_count p.reader
  pub counted : p.sent ≤ p.reader.lines.number

-- All places that the planner knew to be free were filled
abbrev pub HasFilled : {App : Type 0} → Planner App → Planner App → Type 0
HasFilled a b = length (sent a.ring) + known_free a.ring ≤ length (sent b.ring)

-- The planner did nothing
abbrev pub IsIdlePlanner : {App : Type 0} → Planner App → Option (List ℕ) → Option Tail → Planner App → Option (List ℕ)
    → Type 0
IsIdlePlanner a left tail b left' = (tail ≡ None) × (sent b.ring ≡ sent a.ring) × (b.reader ≡ a.reader) × (left' ≡ left)
