-- The text that a generator writes, line by line
use Rattle.std.specs.Prelude.{ℕ, zero, suc, ◌+◌, ◌%◌, ◌==◌, if◌then◌else◌, List, [], ◌∷◌, ◌++◌}
use Rattle.event_reader.specs.Limits.{generated_batch}
use Rattle.event_reader.specs.Generated.{Drawn}

-- The line of event i with its LF. If the event is the last of a batch, the line of a punctuation follows. A batch has
-- `generated_batch` events
abbrev pub with_end : (i : ℕ) → List ℕ → List ℕ
with_end i line = line ++ 10 ∷ (if i % generated_batch == 0 then 80 ∷ 10 ∷ [] else [])

-- The lines of `count` events from event i on, each written from the state that the one before it left
unfoldable pub generated_from : (ℕ → ℕ → Drawn) → (count i state : ℕ) → List ℕ
generated_from drawn zero i state = []
generated_from drawn (suc count) i state =
    with_end i (drawn i state).line ++ generated_from drawn count (i + 1) (drawn i state).state

-- The whole text: the lines of the events from 1 on. The draws begin at the seed
abbrev pub generated_text : (ℕ → ℕ → Drawn) → (seed events : ℕ) → List ℕ
generated_text drawn seed events = generated_from drawn events 1 seed

-- A source of such a text: the application and the size of its tables, the bytes of the line that is being given, how
-- many events come after it and the number of the next, and the state of the draws
pub record GenView (App : Type 0) : Type 0 where
  pub app : App
  pub size : ℕ
  pub rest : List ℕ
  pub count : ℕ
  pub next : ℕ
  pub state : ℕ

-- A new source of a text
abbrev pub new_generator : {App : Type 0} → App → (seed events size : ℕ) → GenView App
new_generator app seed events size =
    record { app = app; size = size; rest = []; count = events; next = 1; state = seed }

-- The bytes that the source has left
abbrev pub generated_left : {App : Type 0} → (App → (size i state : ℕ) → Drawn) → GenView App → List ℕ
generated_left generated v = v.rest ++ generated_from (generated v.app v.size) v.count v.next v.state
