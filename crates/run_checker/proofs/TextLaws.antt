-- Texts of lines, each ended by LF.
use Rattle.std.proofs.Common.{◌≡◌, ℕ, suc, ◌+◌, ◌<◌, ◌≤◌, true, false, List, [], ◌∷◌, ◌++◌, length, map, take, drop, get_or, refl, sym, ◌∙◌, ap, arith, subst, append_assoc, append-nil, length-append, Option, Some, None}
use Rattle.std.specs.Prelude.{slice_index}
use Rattle.std.specs.List.{All}
use Rattle.std.proofs.lemmas.List.{length-map, map-append}
use Rattle.std.proofs.lemmas.List.Elements.{All-nil, All-cons, All-head, All-tail, All-weaker}
use Rattle.std.proofs.lemmas.Bool.{true≢false}
use Rattle.std.proofs.lemmas.Bool.Decides.{nat_tests}
use Rattle.std.proofs.lemmas.Option.{none-some, same_Some}
use Rattle.interleaving_core.specs.declared.event.CoreEvent.{CoreEvent}
use Rattle.memchr.specs.Find.{NoneBefore, Passes}
use Rattle.event_reader.specs.Lines.{is_line_feed}
use Rattle.event_reader.proofs.Pieces.{none_pass_before, split_at_place}
use Rattle.run_checker.specs.Lines.{HasLine, words_written, line_of, text_of}
use Rattle.run_checker.specs.LineEvents.{event_said, ended, Says, BeginsWith, BeginsWithNone, IsFirstWrong}
use Rattle.run_checker.proofs.LineLaws.{parts_written, read_written, written_read}
use Rattle.run_checker.proofs.JoinedWords.{joined_bytes}

-- ---- one line

abbrev pub HasNoFeed : List ℕ → Type 0
HasNoFeed line = All (λ b. is_line_feed b ≡ false) line

-- a line that says an event has no LF
line_bytes : (line : List ℕ) (e : CoreEvent) → event_said line ≡ Some e → HasNoFeed line
line_bytes line e is =
    let written = written_read line e is in
    subst HasNoFeed written.0
    (All-weaker (λ b. 32 ≤ b) (λ b. is_line_feed b ≡ false) (λ b visible. grind (arith, nat_tests, visible)) (line_of e) (joined_bytes (words_written e) (parts_written e written.1)))

head_same : (b c : ℕ) (xs ys : List ℕ) → b ∷ xs ≡ c ∷ ys → b ≡ c
head_same b c xs ys is = ap (λ zs. get_or zs 0 0) is

tail_same : (b c : ℕ) (xs ys : List ℕ) → b ∷ xs ≡ c ∷ ys → xs ≡ ys
tail_same b c xs ys is = ap (drop 1) is

feed_apart : (b : ℕ) → b ≡ 10 → is_line_feed b ≡ false → ⊥
feed_apart b is none = true≢false (ap is_line_feed (sym is) ∙ none)

-- so the front of a text is cut in one way
cut_once : (l m rest more : List ℕ) → HasNoFeed l → HasNoFeed m → l ++ 10 ∷ rest ≡ m ++ 10 ∷ more → (l ≡ m) × (rest ≡ more)
cut_once [] [] rest more one other is = (refl, tail_same 10 10 rest more is)
cut_once [] (b ∷ m) rest more one other is =
    absurd (feed_apart b (sym (head_same 10 b rest (m ++ 10 ∷ more) is)) (All-head (λ c. is_line_feed c ≡ false) b m other))
cut_once (b ∷ l) [] rest more one other is =
    absurd (feed_apart b (head_same b 10 (l ++ 10 ∷ rest) more is) (All-head (λ c. is_line_feed c ≡ false) b l one))
cut_once (b ∷ l) (c ∷ m) rest more one other is =
    let tails = cut_once l m rest more (All-tail (λ d. is_line_feed d ≡ false) b l one) (All-tail (λ d. is_line_feed d ≡ false) c m other)
    (tail_same b c (l ++ 10 ∷ rest) (m ++ 10 ∷ more) is) in
    (ap (λ d. d ∷ l) (head_same b c (l ++ 10 ∷ rest) (m ++ 10 ∷ more) is) ∙ ap (λ xs. c ∷ xs) tails.0, tails.1)

-- where the first line says nothing, the text begins with none
pub none_begins : (bytes front rest : List ℕ) → bytes ≡ front ++ 10 ∷ rest → HasNoFeed front → event_said front ≡ None → BeginsWithNone bytes
none_begins bytes front rest is none said = λ line more other. by_said line more other (event_said line) refl
  where
    by_said : (line more : List ℕ) → bytes ≡ line ++ 10 ∷ more → (found : Option CoreEvent) → event_said line ≡ found → event_said line ≡ None
    by_said line more other None found = found
    by_said line more other (Some e) found =
        let same = cut_once line front more rest (line_bytes line e found) none (sym other ∙ is) in ap event_said same.0 ∙ said

-- the same, where the first LF stands at a place
pub none_begins_at : (bytes : List ℕ) (end : ℕ) → NoneBefore (Passes is_line_feed bytes) 0 (length bytes) end → is_line_feed (slice_index bytes end) ≡ true
    → event_said (take end bytes) ≡ None → BeginsWithNone bytes
none_begins_at bytes end first here said =
    let feed : slice_index bytes end ≡ 10 = grind (arith, nat_tests, here) in
    none_begins bytes (take end bytes) (drop (end + 1) bytes ++ [])
    (sym (append-nil bytes) ∙ split_at_place bytes [] end first.high ∙ ap (λ b. take end bytes ++ b ∷ (drop (end + 1) bytes ++ [])) feed)
    (none_pass_before is_line_feed bytes end first) said

-- and so does one without an LF
pub unended_begins : (bytes : List ℕ) → HasNoFeed bytes → BeginsWithNone bytes
unended_begins bytes none = λ line rest is. absurd (feed_apart 10 refl (at line rest (subst HasNoFeed is none)))
  where
    at : (line rest : List ℕ) → HasNoFeed (line ++ 10 ∷ rest) → is_line_feed 10 ≡ false
    at [] rest all = All-head (λ c. is_line_feed c ≡ false) 10 rest all
    at (b ∷ line) rest all = at line rest (All-tail (λ c. is_line_feed c ≡ false) b (line ++ 10 ∷ rest) all)

-- a text begins with one event, or with none
begins_once : (bytes rest more : List ℕ) (e f : CoreEvent) → BeginsWith bytes e rest → BeginsWith bytes f more → (e ≡ f) × (rest ≡ more)
begins_once bytes rest more e f one other =
    let cut = cut_once one.line other.line rest more (line_bytes one.line e one.says) (line_bytes other.line f other.says) (sym one.bytes_are ∙ other.bytes_are) in
    (same_Some e f (sym one.says ∙ ap event_said cut.0 ∙ other.says), cut.1)

begins_apart : (bytes rest : List ℕ) (e : CoreEvent) → BeginsWith bytes e rest → BeginsWithNone bytes → ⊥
begins_apart bytes rest e one none = none-some e (sym (none one.line rest one.bytes_are) ∙ one.says)

-- ---- lines

-- the lines say the events
abbrev AreSaid : List (List ℕ) → List CoreEvent → Type 0
AreSaid lines events = map event_said lines ≡ map Some events

said_head : (line : List ℕ) (lines : List (List ℕ)) (e : CoreEvent) (events : List CoreEvent) → AreSaid (line ∷ lines) (e ∷ events) → event_said line ≡ Some e
said_head line lines e events are = ap (λ xs. get_or xs 0 None) are

said_tail : (line : List ℕ) (lines : List (List ℕ)) (e : CoreEvent) (events : List CoreEvent) → AreSaid (line ∷ lines) (e ∷ events) → AreSaid lines events
said_tail line lines e events are = ap (drop 1) are

said_more : (line : List ℕ) (lines : List (List ℕ)) (e : CoreEvent) (events : List CoreEvent) → event_said line ≡ Some e → AreSaid lines events → AreSaid (line ∷ lines) (e ∷ events)
said_more line lines e events one are = ap (λ x. x ∷ map event_said lines) one ∙ ap (λ xs. Some e ∷ xs) are

-- as many as there are
said_count : (lines : List (List ℕ)) (events : List CoreEvent) → AreSaid lines events → length lines ≡ length events
said_count lines events are = sym (length-map lines event_said) ∙ ap length are ∙ length-map events Some

said_none : (line : List ℕ) (lines : List (List ℕ)) → AreSaid (line ∷ lines) [] → ⊥
said_none line lines are = let many : suc (length lines) ≡ 0 = said_count (line ∷ lines) [] are in absurd (omega (arith, many))

said_nothing : (e : CoreEvent) (events : List CoreEvent) → AreSaid [] (e ∷ events) → ⊥
said_nothing e events are = let many : 0 ≡ suc (length events) = said_count [] (e ∷ events) are in absurd (omega (arith, many))

-- lines in front of a text
ended_front : (line : List ℕ) (lines : List (List ℕ)) (rest : List ℕ) → ended (line ∷ lines) ++ rest ≡ line ++ 10 ∷ (ended lines ++ rest)
unfolding ended
ended_front line lines rest = append_assoc line (10 ∷ ended lines) rest

no_lines : (rest : List ℕ) → rest ≡ ended [] ++ rest
unfolding ended
no_lines rest = refl

starts : (line : List ℕ) (lines : List (List ℕ)) (rest : List ℕ) (e : CoreEvent) → event_said line ≡ Some e
    → BeginsWith (ended (line ∷ lines) ++ rest) e (ended lines ++ rest)
starts line lines rest e is = record { line = line; bytes_are = ended_front line lines rest; says = is }

-- what follows the lines that are said is told by the text, up to where a line is none
module _ (rest more : List ℕ) (wrong : BeginsWithNone rest) where
  reaches : (ls ms : List (List ℕ)) (es fs : List CoreEvent) → AreSaid ls es → AreSaid ms fs → ended ls ++ rest ≡ ended ms ++ more → length ms ≤ length ls
  reaches ls [] es fs one other is = omega arith
  reaches ls (m ∷ ms) es [] one other is = absurd (said_none m ms other)
  reaches [] (m ∷ ms) es (f ∷ fs) one other is = absurd (begins_apart rest (ended ms ++ more) f (subst (λ bytes. BeginsWith bytes f (ended ms ++ more)) (sym (no_lines rest ∙ is)) (starts m ms more f (said_head m ms f fs other))) wrong)
  reaches (l ∷ ls) (m ∷ ms) [] (f ∷ fs) one other is = absurd (said_none l ls one)
  reaches (l ∷ ls) (m ∷ ms) (e ∷ es) (f ∷ fs) one other is =
      let same = begins_once (ended (l ∷ ls) ++ rest) (ended ls ++ rest) (ended ms ++ more) e f (starts l ls rest e (said_head l ls e es one))
      (subst (λ bytes. BeginsWith bytes f (ended ms ++ more)) (sym is) (starts m ms more f (said_head m ms f fs other))) in
      let shorter = reaches ls ms es fs (said_tail l ls e es one) (said_tail m ms f fs other) same.1 in
      omega (arith, shorter)

-- ---- whole texts

nothing_begins : BeginsWithNone []
nothing_begins line rest is = let none : length (line ++ 10 ∷ rest) ≡ 0 = ap length (sym is) in absurd (omega (arith, length-append line (10 ∷ rest), none))

says_parts : (bytes : List ℕ) (events : List CoreEvent) (says : Says bytes events) → bytes ≡ ended says.lines ++ []
says_parts bytes events says = says.bytes_are ∙ sym (append-nil (ended says.lines))

-- events of the same text are the same
module _ (rest more : List ℕ) where
  same_front : (ls ms : List (List ℕ)) (es fs : List CoreEvent) → AreSaid ls es → AreSaid ms fs → length ls ≡ length ms → ended ls ++ rest ≡ ended ms ++ more → es ≡ fs
  same_front [] ms [] [] one other many is = refl
  same_front [] [] [] (f ∷ fs) one other many is = absurd (said_nothing f fs other)
  same_front [] (m ∷ ms) [] (f ∷ fs) one other many is = absurd (omega (arith, many))
  same_front [] ms (e ∷ es) fs one other many is = absurd (said_nothing e es one)
  same_front (l ∷ ls) ms [] fs one other many is = absurd (said_none l ls one)
  same_front (l ∷ ls) [] (e ∷ es) fs one other many is = absurd (omega (arith, many))
  same_front (l ∷ ls) (m ∷ ms) (e ∷ es) [] one other many is = absurd (said_none m ms other)
  same_front (l ∷ ls) (m ∷ ms) (e ∷ es) (f ∷ fs) one other many is =
      let same = begins_once (ended (l ∷ ls) ++ rest) (ended ls ++ rest) (ended ms ++ more) e f (starts l ls rest e (said_head l ls e es one))
      (subst (λ bytes. BeginsWith bytes f (ended ms ++ more)) (sym is) (starts m ms more f (said_head m ms f fs other))) in
      ap (λ x. x ∷ es) same.0 ∙ ap (λ xs. f ∷ xs) (same_front ls ms es fs (said_tail l ls e es one) (said_tail m ms f fs other) (omega (arith, many)) same.1)

pub says_once : (bytes : List ℕ) (es fs : List CoreEvent) → Says bytes es → Says bytes fs → es ≡ fs
says_once bytes es fs one other =
    let is = sym (says_parts bytes es one) ∙ says_parts bytes fs other in
    let more = reaches [] [] nothing_begins one.lines other.lines es fs one.events_are other.events_are is in
    let less = reaches [] [] nothing_begins other.lines one.lines fs es other.events_are one.events_are (sym is) in
    same_front [] [] one.lines other.lines es fs one.events_are other.events_are (omega (arith, more, less)) is

wrong_parts : (bytes : List ℕ) (number : ℕ) (w : IsFirstWrong bytes number) → bytes ≡ ended w.says.lines ++ w.rest
wrong_parts bytes number w = w.parts ∙ ap (λ front. front ++ w.rest) w.says.bytes_are

-- a text is read, or has a first wrong line, which has one number
pub says_apart : (bytes : List ℕ) (es : List CoreEvent) (number : ℕ) → Says bytes es → IsFirstWrong bytes number → ⊥
unfolding ended
says_apart bytes es number says w =
    let is = sym (says_parts bytes es says) ∙ wrong_parts bytes number w in
    let more = reaches [] w.rest nothing_begins says.lines w.says.lines es w.before says.events_are w.says.events_are is in
    let less = reaches w.rest [] w.wrong w.says.lines says.lines w.before es w.says.events_are says.events_are (sym is) in
    no_more w.rest says.lines w.says.lines es w.before says.events_are w.says.events_are (omega (arith, more, less)) is w.some
  where
    no_more : (rest : List ℕ) (ls ms : List (List ℕ)) (gs hs : List CoreEvent) → AreSaid ls gs → AreSaid ms hs → length ls ≡ length ms
        → ended ls ++ [] ≡ ended ms ++ rest → 0 < length rest → ⊥
    no_more rest [] [] gs hs one other many is some = let none : 0 ≡ length rest = ap length is in absurd (omega (arith, none, some))
    no_more rest [] (m ∷ ms) gs hs one other many is some = absurd (omega (arith, many))
    no_more rest (l ∷ ls) [] gs hs one other many is some = absurd (omega (arith, many))
    no_more rest (l ∷ ls) (m ∷ ms) [] hs one other many is some = absurd (said_none l ls one)
    no_more rest (l ∷ ls) (m ∷ ms) (g ∷ gs) [] one other many is some = absurd (said_none m ms other)
    no_more rest (l ∷ ls) (m ∷ ms) (g ∷ gs) (h ∷ hs) one other many is some =
        let same = begins_once (ended (l ∷ ls) ++ []) (ended ls ++ []) (ended ms ++ rest) g h (starts l ls [] g (said_head l ls g gs one))
        (subst (λ bytes. BeginsWith bytes h (ended ms ++ rest)) (sym is) (starts m ms rest h (said_head m ms h hs other))) in
        no_more rest ls ms gs hs (said_tail l ls g gs one) (said_tail m ms h hs other) (omega (arith, many)) same.1 some

pub wrong_once : (bytes : List ℕ) (a b : ℕ) → IsFirstWrong bytes a → IsFirstWrong bytes b → a ≡ b
wrong_once bytes a b one other =
    let is = sym (wrong_parts bytes a one) ∙ wrong_parts bytes b other in
    let more = reaches one.rest other.rest one.wrong one.says.lines other.says.lines one.before other.before one.says.events_are other.says.events_are is in
    let less = reaches other.rest one.rest other.wrong other.says.lines one.says.lines other.before one.before other.says.events_are one.says.events_are (sym is) in
    let count = said_count one.says.lines one.before one.says.events_are in
    let counts = said_count other.says.lines other.before other.says.events_are in
    omega (arith, more, less, count, counts, one.number_is, other.number_is)

-- ---- what is written, and what is read

pub text_read : (es : List CoreEvent) → All HasLine es → Says (text_of es) es
unfolding text_of ended
text_read es all = record { lines = map line_of es; bytes_are = lines_of es; events_are = said es all }
  where
    lines_of : (fs : List CoreEvent) → text_of fs ≡ ended (map line_of fs)
    lines_of [] = refl
    lines_of (f ∷ fs) = ap (λ rest. line_of f ++ 10 ∷ rest) (lines_of fs)

    said : (fs : List CoreEvent) → All HasLine fs → AreSaid (map line_of fs) fs
    said [] all = refl
    said (f ∷ fs) all = said_more (line_of f) (map line_of fs) f fs (read_written f (All-head HasLine f fs all)) (said fs (All-tail HasLine f fs all))

pub text_written : (bytes : List ℕ) (es : List CoreEvent) → Says bytes es → (text_of es ≡ bytes) × All HasLine es
unfolding text_of ended
text_written bytes es says = let all = written says.lines es says.events_are in (all.0 ∙ sym says.bytes_are, all.1)
  where
    written : (ls : List (List ℕ)) (fs : List CoreEvent) → AreSaid ls fs → (text_of fs ≡ ended ls) × All HasLine fs
    written [] [] are = (refl, All-nil HasLine)
    written [] (f ∷ fs) are = absurd (said_nothing f fs are)
    written (l ∷ ls) [] are = absurd (said_none l ls are)
    written (l ∷ ls) (f ∷ fs) are =
        let line = written_read l f (said_head l ls f fs are) in
        let rest = written ls fs (said_tail l ls f fs are) in
        (ap (λ front. front ++ 10 ∷ text_of fs) line.0 ∙ ap (λ back. l ++ 10 ∷ back) rest.0, All-cons HasLine f fs line.1 rest.1)

-- ---- a text that is read from the front

pub nothing_said : Says [] []
unfolding ended
nothing_said = record { lines = []; bytes_are = refl_of; events_are = refl }
  where
    refl_of : [] ≡ ended []
    refl_of = refl

-- one line more behind those that were read
pub says_more : (front line : List ℕ) (events : List CoreEvent) (e : CoreEvent) → Says front events → event_said line ≡ Some e → Says (front ++ (line ++ 10 ∷ [])) (events ++ e ∷ [])
unfolding ended
says_more front line events e says is = record {
  lines = says.lines ++ line ∷ [];
  bytes_are = ap (λ bytes. bytes ++ (line ++ 10 ∷ [])) says.bytes_are ∙ sym (ended_more says.lines);
  events_are = map-append event_said says.lines (line ∷ []) ∙ ap (λ xs. xs ++ event_said line ∷ []) says.events_are ∙ ap (λ x. map Some events ++ x ∷ []) is
      ∙ sym (map-append Some events (e ∷ []));
}
  where
    ended_more : (lines : List (List ℕ)) → ended (lines ++ line ∷ []) ≡ ended lines ++ (line ++ 10 ∷ [])
    ended_more [] = refl
    ended_more (l ∷ lines) = ap (λ rest. l ++ 10 ∷ rest) (ended_more lines) ∙ sym (append_assoc l (10 ∷ ended lines) (line ++ 10 ∷ []))

-- a text is read up to a place: the lines in front of it say the events, and so many lines begin there or before
pub record IsReadTo (bytes rest : List ℕ) (events : List CoreEvent) (line : ℕ) : Type 0 where
  pub front : List ℕ
  pub parts : bytes ≡ front ++ rest
  pub says : Says front events
  pub line_is : line ≡ length events + 1

pub read_none : (bytes : List ℕ) → IsReadTo bytes bytes [] 1
read_none bytes = record { front = []; parts = refl; says = nothing_said; line_is = refl }

pub read_more : (bytes rest more : List ℕ) (events longer : List CoreEvent) (e : CoreEvent) (line : ℕ) → IsReadTo bytes rest events line → BeginsWith rest e more
    → longer ≡ events ++ e ∷ [] → IsReadTo bytes more longer (line + 1)
read_more bytes rest more events longer e line read begins is = record {
  front = read.front ++ (begins.line ++ 10 ∷ []);
  parts = read.parts ∙ ap (λ back. read.front ++ back) (begins.bytes_are ∙ sym (append_assoc begins.line (10 ∷ []) more)) ∙ sym (append_assoc read.front (begins.line ++ 10 ∷ []) more);
  says = subst (Says (read.front ++ (begins.line ++ 10 ∷ []))) (sym is) (says_more read.front begins.line events e read.says begins.says);
  line_is = omega (arith, read.line_is, ap length is, length-append events (e ∷ []));
}
