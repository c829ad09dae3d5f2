-- The lines of a journal, as they are written
use Rattle.std.specs.Prelude.{ℕ, ◌≤◌, Bool, true, false, List, [], ◌∷◌, ◌++◌, decimal}
use Rattle.std.specs.List.{join_with_byte}
use Rattle.interleaving_core.specs.declared.event.CoreEvent.{CoreEvent}
use Rattle.interleaving_core.specs.declared.event.CoreEvent.TheVariants.{Ready, Claim, Fetch, Finish, GiveBack, Spread, RollBack, Decide, Settle}

-- 4,294,967,295: the greatest number of an operation and of an event
abbrev pub greatest_id : ℕ
greatest_id = 4294967295

-- 255: the greatest number of a place and of a worker
abbrev pub greatest_small : ℕ
greatest_small = 255

-- 10^13: the greatest value
abbrev pub greatest_value : ℕ
greatest_value = 10000000000000

-- The event's numbers are ones that a line can have
abbrev pub HasLine : CoreEvent → Type 0
HasLine (Ready o) = o ≤ greatest_id
HasLine (Claim o t) = (o ≤ greatest_id) × (t ≤ greatest_small)
HasLine (Fetch o j t x) = (o ≤ greatest_id) × (j ≤ greatest_small) × (t ≤ greatest_small) × (x ≤ greatest_value)
HasLine (Finish o t) = (o ≤ greatest_id) × (t ≤ greatest_small)
HasLine (GiveBack o t) = (o ≤ greatest_id) × (t ≤ greatest_small)
HasLine (Spread o sibling) = (o ≤ greatest_id) × (sibling ≤ greatest_id)
HasLine (RollBack o j) = (o ≤ greatest_id) × (j ≤ greatest_small)
HasLine (Decide i committed) = i ≤ greatest_id
HasLine (Settle o t) = (o ≤ greatest_id) × (t ≤ greatest_small)

-- The letter of a decision: `c` if the event commits, `a` if it aborts
abbrev pub decision_letter : Bool → ℕ
decision_letter true = 99
decision_letter false = 97

-- The words of an event's line. The first one is its letter: R, C, F, N, G, S, B, D or T
abbrev pub words_written : CoreEvent → List (List ℕ)
words_written (Ready o) = (82 ∷ []) ∷ decimal o ∷ []
words_written (Claim o t) = (67 ∷ []) ∷ decimal o ∷ decimal t ∷ []
words_written (Fetch o j t x) = (70 ∷ []) ∷ decimal o ∷ decimal j ∷ decimal t ∷ decimal x ∷ []
words_written (Finish o t) = (78 ∷ []) ∷ decimal o ∷ decimal t ∷ []
words_written (GiveBack o t) = (71 ∷ []) ∷ decimal o ∷ decimal t ∷ []
words_written (Spread o sibling) = (83 ∷ []) ∷ decimal o ∷ decimal sibling ∷ []
words_written (RollBack o j) = (66 ∷ []) ∷ decimal o ∷ decimal j ∷ []
words_written (Decide i committed) = (68 ∷ []) ∷ decimal i ∷ (decision_letter committed ∷ []) ∷ []
words_written (Settle o t) = (84 ∷ []) ∷ decimal o ∷ decimal t ∷ []

-- The line of an event, without its LF: its words with one space between each two
abbrev pub line_of : CoreEvent → List ℕ
line_of e = join_with_byte 32 (words_written e)

-- The text of a journal: the line of each event, ended by LF
unfoldable pub text_of : List CoreEvent → List ℕ
text_of [] = []
text_of (e ∷ es) = line_of e ++ 10 ∷ text_of es
