-- Reads one after another.
use Rattle.std.proofs.Common.{◌≡◌, ℕ, ◌-◌, ◌<◌, ◌≤◌, Bool, true, false, List, [], ◌++◌, length, take, drop, refl, sym, ◌∙◌, ap, subst, arith, append_assoc, append-nil, Option, Result, Ok, Err, ◌⊎◌, inl, inr}
use Rattle.std.specs.Prelude.{◌==◌, ◌||◌, min, if◌then◌else◌}
use Rattle.std.proofs.lemmas.Bool.Decides.{nat_tests}
use Rattle.morph_io.specs.declared.source.ReadFailed.{ReadFailed}
use Rattle.event_reader.specs.Lines.{decided_lines}
use Rattle.event_reader.specs.declared.fault.ReaderFault.{ReaderFault}
use Rattle.event_reader.specs.Reader.{LinesView, is_line}
use Rattle.std.proofs.lemmas.List.{take-append-drop}
use Rattle.morph_io.specs.Told.{ahead, ahead_ahead}
use Rattle.event_reader.specs.declared.answers.LineNext.{LineNext}
use Rattle.event_reader.specs.declared.answers.LineNext.TheVariants.{Line, Long, End}
use Rattle.event_reader.specs.declared.fault.ReaderFault.TheVariants.{ReadFault, TooLong, OutOfMemory}
use Rattle.event_reader.specs.Decisions.{DecidesLine}
use Rattle.event_reader.proofs.LineAnswers.{GoesOn}
use Rattle.event_reader.specs.Limits.{buffer_bytes}
use Rattle.event_reader.specs.SourceReads.{line_state, read_piece, read_room, bytes_asked, is_last, CameWith, AsksOnce, ReadsInOrder, no_read, one_more, AsksForLine}
use Rattle.event_reader.specs.Refills.{KeepsRead, FillsBy}

module _ {S : Type 0} (left_of : S → Option (List ℕ)) (reads : S → ℕ → Result ℕ ReadFailed → S → Type 0) (before : LinesView) (source₀ : S) where
  -- it has read so far, and what it keeps decides nothing yet
  abbrev pub AskedSoFar : LinesView → S → Type 0
  AskedSoFar now source = ReadsInOrder left_of reads before.kept (before.limit - before.taken) before.ended source₀ now.kept (now.limit - now.taken) now.ended source

  pub asked_nothing : AskedSoFar before source₀
  asked_nothing = no_read

  -- a read more
  same_state : (kept kept' : List ℕ) (room room' : ℕ) (last last' : Bool) (source : S) → kept ≡ kept' → room ≡ room' → last ≡ last'
      → ReadsInOrder left_of reads before.kept (before.limit - before.taken) before.ended source₀ kept room last source
      → ReadsInOrder left_of reads before.kept (before.limit - before.taken) before.ended source₀ kept' room' last' source
  same_state kept kept' room room' last last' source e f g h = rw (e, f, g) at h

  pub asked_more : (now next : LinesView) (source source' : S) → AskedSoFar now source → now.ended ≡ false → decided_lines now.kept ≡ []
      → KeepsRead left_of reads now source next source' → AskedSoFar next source'
  asked_more now next source source' h unended none more =
      same_state (now.kept ++ more.bytes) next.kept (now.limit - now.taken - length more.bytes) (next.limit - next.taken) next.ended next.ended source'
      (sym more.kept) (sym more.room) refl
      (one_more now.kept more.bytes (now.limit - now.taken) next.ended source source'
      (same_state now.kept now.kept (now.limit - now.taken) (now.limit - now.taken) now.ended false source refl refl unended h) none more.asks)

  -- the bytes that it keeps are those from the start and those that it got
  asked_with : (now : LinesView) (source : S) (h : GoesOn before (left_of source₀) now (left_of source)) → AskedSoFar now source
      → ReadsInOrder left_of reads before.kept (before.limit - before.taken) before.ended source₀ (before.kept ++ h.got) (now.limit - now.taken) now.ended source
  asked_with now source h asked = same_state now.kept (before.kept ++ h.got) (now.limit - now.taken) (now.limit - now.taken) now.ended now.ended source h.kept refl refl asked

  -- a read that was the last of a call without an answer
  last_read : (now : LinesView) (source source' : S) (h : GoesOn before (left_of source₀) now (left_of source)) → AskedSoFar now source → now.ended ≡ false → decided_lines now.kept ≡ []
      → (bytes : List ℕ) → AsksOnce left_of reads (read_room (length now.kept) (now.limit - now.taken)) source (read_piece bytes true) source'
      → ReadsInOrder left_of reads before.kept (before.limit - before.taken) before.ended source₀ (before.kept ++ (h.got ++ bytes)) (now.limit - now.taken - length bytes) true source'
  last_read now source source' h asked unended none bytes once =
      same_state (now.kept ++ bytes) (before.kept ++ (h.got ++ bytes)) (now.limit - now.taken - length bytes) (now.limit - now.taken - length bytes) true true source'
      (ap (λ kept. kept ++ bytes) h.kept ∙ append_assoc before.kept h.got bytes) refl refl
      (one_more now.kept bytes (now.limit - now.taken) true source source'
      (same_state now.kept now.kept (now.limit - now.taken) (now.limit - now.taken) now.ended false source refl refl unended asked) none once)

  pub asked_last : (now next : LinesView) (source source' : S) (fault : ReaderFault) (h : GoesOn before (left_of source₀) now (left_of source)) → AskedSoFar now source
      → now.ended ≡ false → decided_lines now.kept ≡ [] → FillsBy left_of reads now source (Err fault) next source'
      → AsksForLine left_of reads (line_state before source₀) (Err fault) (line_state next source')
  asked_last now next source source' ReadFault h asked unended none once = record {
    got = h.got ++ [];
    taken = h.from ∙ ap (ahead h.got) once.gives ∙ ahead_ahead h.got [] (left_of source');
    shows = rw append-nil (rw (← h.kept) (ap (λ lines. record { lines = lines; cut = true }) none));
    room = now.limit - now.taken - 0;
    last = true;
    asks = last_read now source source' h asked unended none [] once;
    ends = tt;
    keeps = tt;
  }
  asked_last now next source source' TooLong h asked unended none (bytes, once) = record {
    got = h.got ++ bytes;
    taken = h.from ∙ ap (ahead h.got) once.gives ∙ ahead_ahead h.got bytes (left_of source');
    shows = tt;
    room = now.limit - now.taken - length bytes;
    last = true;
    asks = last_read now source source' h asked unended none bytes once;
    ends = tt;
    keeps = tt;
  }
  asked_last now next source source' OutOfMemory h asked unended none (bytes, once) = record {
    got = h.got ++ bytes;
    taken = h.from ∙ ap (ahead h.got) once.gives ∙ ahead_ahead h.got bytes (left_of source');
    shows = tt;
    room = now.limit - now.taken - length bytes;
    last = true;
    asks = last_read now source source' h asked unended none bytes once;
    ends = tt;
    keeps = tt;
  }

  -- a call that gave a line, or none
  pub asked_line : (now : LinesView) (source : S) (len used number : ℕ) (h : GoesOn before (left_of source₀) now (left_of source)) → AskedSoFar now source
      → DecidesLine now.kept now.ended len used
      → AsksForLine left_of reads (line_state before source₀) (Ok Line) (line_state (record now { kept = drop used now.kept; line = take len now.kept; number = number }) source)
  asked_line now source len used number h asked d = record {
    got = h.got;
    taken = h.from;
    shows = λ unended more.
        ap (λ lines. record { lines = lines; cut = true })
        (ap (λ kept. decided_lines (kept ++ more)) (sym h.kept) ∙ d.open_end unended more);
    room = now.limit - now.taken;
    last = now.ended;
    asks = asked_with now source h asked;
    ends = (refl, refl);
    keeps = λ unended. (take used now.kept, sym h.kept ∙ sym (take-append-drop used now.kept), d.whole unended);
  }

  pub asked_none : (now next : LinesView) (source : S) (h : GoesOn before (left_of source₀) now (left_of source)) → AskedSoFar now source → now.ended ≡ next.ended
      → now.limit - now.taken ≡ next.limit - next.taken → (answer : LineNext) → is_line (Ok answer) ≡ false → AsksForLine left_of reads (line_state before source₀) (Ok answer) (line_state next source)
  asked_none now next source h asked same same' Line no_line = absurd (cc)
  asked_none now next source h asked same same' Long no_line = record {
    got = h.got;
    taken = h.from;
    shows = tt;
    room = now.limit - now.taken;
    last = now.ended;
    asks = asked_with now source h asked;
    ends = (same, same');
    keeps = tt;
  }
  asked_none now next source h asked same same' End no_line = record {
    got = h.got;
    taken = h.from;
    shows = tt;
    room = now.limit - now.taken;
    last = now.ended;
    asks = asked_with now source h asked;
    ends = (same, same');
    keeps = tt;
  }

-- an answer was the last where no byte came, if none came beyond the limit
pub last_where_none : (got room : ℕ) → (0 < got → room ≡ 0 → ⊥) → (got == 0) ≡ (got == 0 || room == 0)
last_where_none got room within = grind (arith, nat_tests)

-- and where one came beyond the limit
pub last_beyond : (got room : ℕ) → room ≡ 0 → true ≡ (got == 0 || room == 0)
last_beyond got room none = by_test (got == 0) (room == 0) (grind (arith, nat_tests))
  where
    by_test : (a b : Bool) → b ≡ true → true ≡ (a || b)
    by_test true b is = refl
    by_test false b is = sym is

-- one read, by how many bytes were asked for
pub once : {S : Type 0} (left_of : S → Option (List ℕ)) (reads : S → ℕ → Result ℕ ReadFailed → S → Type 0) (asked kept size room : ℕ) (source : S) (answer : Result ℕ ReadFailed) (bytes : List ℕ) (last : Bool) (source' : S)
    → asked ≡ (if room == 0 then 1 else min (buffer_bytes - size) room) → kept ≡ size → reads source asked answer source'
    → CameWith answer bytes → left_of source ≡ ahead bytes (left_of source') → last ≡ is_last room answer
    → AsksOnce left_of reads (read_room kept room) source (read_piece bytes last) source'
once left_of reads asked kept size room source answer bytes last source' is same does came told ends = record {
  answer = answer;
  asks = subst (λ n. reads source n answer source') (is ∙ ap (λ k. bytes_asked k room) (sym same)) does;
  came = came;
  gives = told;
  ends = ends;
}

-- where bytes came, the limit was not reached
pub not_beyond : (got room : ℕ) → (0 < got × (room ≡ 0 → ⊥)) ⊎ (got ≤ 0) → 0 < got → room ≡ 0 → ⊥
not_beyond got room (inl (some, open_left)) more none = open_left none
not_beyond got room (inr few) more none = omega arith
