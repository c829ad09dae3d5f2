-- What lines say as events of a journal
use Rattle.std.specs.Prelude.{◌≡◌, ℕ, ◌+◌, ◌<◌, Bool, true, false, ◌&&◌, ◌==◌, nat_le, if◌then◌else◌, List, [], ◌∷◌, ◌++◌, length, map, option_map, Option, Some, None, Result, Ok, Err}
use Rattle.interleaving_core.specs.declared.event.CoreEvent.{CoreEvent}
use Rattle.interleaving_core.specs.declared.event.CoreEvent.TheVariants.{Ready, Claim, Fetch, Finish, GiveBack, Spread, RollBack, Decide, Settle}
use Rattle.morph_base.specs.Contents.{Contents}
use Rattle.event_reader.specs.Forms.{only}
use Rattle.event_reader.specs.Numbers.{is_number, value_of}
use Rattle.event_reader.specs.Words.{words_of}
use Rattle.run_checker.specs.declared.fault.JournalFault.{JournalFault}
use Rattle.run_checker.specs.declared.fault.JournalFault.TheVariants.{Form, OutOfMemory as NoMemory}
use Rattle.run_checker.specs.Lines.{greatest_id, greatest_small, greatest_value}

-- The number that a word says, if it is at most `greatest`; else None
abbrev pub number_up_to : (greatest : ℕ) → List ℕ → Option ℕ
number_up_to greatest word = if is_number word && nat_le (value_of word) greatest then Some (value_of word) else None

-- Whether an event commits, as the letter of its decision says
abbrev pub decision_by : Option ℕ → Option Bool
decision_by (Some letter) = if letter == 99 then Some true else (if letter == 97 then Some false else None)
decision_by None = None

-- Whether an event commits, as the word of its decision says
abbrev pub decision_said : List ℕ → Option Bool
decision_said word = decision_by (only word)

-- Two things, if both are there
abbrev pub both : {A B : Type 0} → Option A → Option B → Option (A × B)
both (Some a) (Some b) = Some (a, b)
both _ _ = None

-- The operation that words say, if there is one word
abbrev pub op_said : List (List ℕ) → Option ℕ
op_said (o ∷ []) = number_up_to greatest_id o
op_said _ = None

-- The operation that words say, and a number up to a greatest, if there are two words
abbrev pub pair_said : (greatest : ℕ) → List (List ℕ) → Option (ℕ × ℕ)
pair_said greatest (o ∷ n ∷ []) = both (number_up_to greatest_id o) (number_up_to greatest n)
pair_said greatest _ = None

-- What the words of a fetch say: an operation, a place, a worker and a value
abbrev pub fetch_said : List (List ℕ) → Option ((ℕ × ℕ) × (ℕ × ℕ))
fetch_said (o ∷ j ∷ t ∷ x ∷ []) =
    both (both (number_up_to greatest_id o) (number_up_to greatest_small j)) (both (number_up_to greatest_small t) (number_up_to greatest_value x))
fetch_said _ = None

-- What the words of a decision say: an event, and whether it commits
abbrev pub decide_said : List (List ℕ) → Option (ℕ × Bool)
decide_said (i ∷ word ∷ []) = both (number_up_to greatest_id i) (decision_said word)
decide_said _ = None

-- A kind of line: its letter, and the event that the words behind it say
pub record LineKind : Type 0 where
  pub letter : ℕ
  pub says : List (List ℕ) → Option CoreEvent

-- The nine kinds of line: R op, C op by, F op j by value, N op by, G op by, S op sibling, B op j, D event and c or a, T
-- op by
abbrev pub kinds : List LineKind
kinds = record { letter = 82; says = λ words. option_map Ready (op_said words) }
    ∷ record { letter = 67; says = λ words. option_map (λ r. Claim r.0 r.1) (pair_said greatest_small words) }
    ∷ record { letter = 70; says = λ words. option_map (λ r. Fetch r.0.0 r.0.1 r.1.0 r.1.1) (fetch_said words) }
    ∷ record { letter = 78; says = λ words. option_map (λ r. Finish r.0 r.1) (pair_said greatest_small words) }
    ∷ record { letter = 71; says = λ words. option_map (λ r. GiveBack r.0 r.1) (pair_said greatest_small words) }
    ∷ record { letter = 83; says = λ words. option_map (λ r. Spread r.0 r.1) (pair_said greatest_id words) }
    ∷ record { letter = 66; says = λ words. option_map (λ r. RollBack r.0 r.1) (pair_said greatest_small words) }
    ∷ record { letter = 68; says = λ words. option_map (λ r. Decide r.0 r.1) (decide_said words) }
    ∷ record { letter = 84; says = λ words. option_map (λ r. Settle r.0 r.1) (pair_said greatest_small words) }
    ∷ []

-- The event that words say behind a letter, by the kind of that letter
abbrev pub said_by : List LineKind → (letter : ℕ) → List (List ℕ) → Option CoreEvent
said_by [] letter words = None
said_by (kind ∷ more) letter words = if letter == kind.letter then kind.says words else said_by more letter words

-- The event that the words of a line say. The first word has one byte
abbrev pub words_say : List (List ℕ) → Option CoreEvent
words_say ((letter ∷ []) ∷ words) = said_by kinds letter words
words_say _ = None

-- The event that words say, if there are words
abbrev pub said_if : Option (List (List ℕ)) → Option CoreEvent
said_if (Some words) = words_say words
said_if None = None

-- The event that a line says, if it is a line of a journal
abbrev pub event_said : List ℕ → Option CoreEvent
event_said line = said_if (words_of line)

-- The lines as bytes, each ended by LF
unfoldable pub ended : List (List ℕ) → List ℕ
ended [] = []
ended (line ∷ lines) = line ++ 10 ∷ ended lines

-- The bytes are lines of a journal, each ended by LF, and `events` are what they say
pub record Says (bytes : List ℕ) (events : List CoreEvent) : Type 0 where
  pub lines : List (List ℕ)
  pub bytes_are : bytes ≡ ended lines
  pub events_are : map event_said lines ≡ map Some events

-- The bytes begin with a line of a journal, ended by LF: it says the event e, and `rest` follows it
pub record BeginsWith (bytes : List ℕ) (e : CoreEvent) (rest : List ℕ) : Type 0 where
  pub line : List ℕ
  pub bytes_are : bytes ≡ line ++ 10 ∷ rest
  pub says : event_said line ≡ Some e

-- The bytes do not begin with a line of a journal that is ended by LF
abbrev pub BeginsWithNone : List ℕ → Type 0
BeginsWithNone bytes = (line rest : List ℕ) → bytes ≡ line ++ 10 ∷ rest → event_said line ≡ None

-- The line of this number, counted from 1, is the first that is no line of a journal or is not ended by LF
pub record IsFirstWrong (bytes : List ℕ) (number : ℕ) : Type 0 where
  pub front : List ℕ
  pub rest : List ℕ
  pub parts : bytes ≡ front ++ rest
  pub before : List CoreEvent
  pub says : Says front before
  pub number_is : number ≡ length before + 1
  pub some : 0 < length rest
  pub wrong : BeginsWithNone rest

-- The answer is right for a text that is read as a journal. Only running out of memory is left free
abbrev pub Tells : List ℕ → Result (Contents CoreEvent) JournalFault → Type 0
Tells bytes (Ok events) = Says bytes events.items
Tells bytes (Err (Form line)) = IsFirstWrong bytes line
Tells bytes (Err NoMemory) = Unit {0}
