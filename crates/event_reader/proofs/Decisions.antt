-- What the bytes kept decide.
use Rattle.std.proofs.Common.{◌≡◌, ℕ, ◌+◌, ◌<◌, ◌≤◌, Bool, true, false, nat_le, if◌then◌else◌, List, [], ◌∷◌, ◌++◌, length, take, drop, refl, sym, ◌∙◌, ap, subst, arith, append-nil}
use Rattle.std.specs.List.{All}
use Rattle.std.specs.Prelude.{slice_index}
use Rattle.std.proofs.lemmas.Bool.{true≢false}
use Rattle.std.proofs.lemmas.Bool.Decides.{nat_tests}
use Rattle.std.proofs.lemmas.List.{take-take, length-take, drop_all, take_more}
use Rattle.std.proofs.lemmas.List.Sums.{fold-append}
use Rattle.memchr.specs.Find.{NoneBefore, Passes}
use Rattle.event_reader.specs.Limits.{deciding_bytes}
use Rattle.event_reader.specs.declared.decision.Decision.{Decision}
use Rattle.event_reader.specs.declared.decision.Decision.TheVariants.{Line, Long, End, Open}
use Rattle.event_reader.specs.Lines.{is_line_feed, behind_last_feed, without_cr, last_if, lines_of, decided_lines, IsLongFirst}
use Rattle.event_reader.specs.Decisions.{DecidesLine, DecidesLong, DecidesNone, Decides, DecidesPiece}
use Rattle.event_reader.proofs.Pieces.{none_pass_before, split_at_place, lines_by, line_at, lines_open, long_open}

abbrev has_bytes : List ℕ → Bool
has_bytes piece = nat_le 1 (length piece)

abbrev is_overlong : List ℕ → Bool
is_overlong piece = nat_le deciding_bytes (length piece)

-- the first line ends at the first LF
first_line : (test : List ℕ → Bool) (kept rest : List ℕ) (at : ℕ) → NoneBefore (Passes is_line_feed kept) 0 (length kept) at
    → slice_index kept at ≡ 10 → lines_by test (kept ++ rest) ≡ without_cr (take at kept) ∷ lines_by test (drop (at + 1) kept ++ rest)
first_line test kept rest at first is =
    ap (lines_by test) (rw is at (split_at_place kept rest at first.high))
    ∙ line_at test (take at kept) (drop (at + 1) kept ++ rest) (none_pass_before is_line_feed kept at first)

-- the LF at a place decides the line in front of it
pub decides_at : (kept : List ℕ) (ended : Bool) (at : ℕ) (d : Decision) → NoneBefore (Passes is_line_feed kept) 0 (length kept) at
    → slice_index kept at ≡ 10 → DecidesPiece (take at kept) (at + 1) d → Decides kept ended d
decides_at kept ended at (Line len used) first is d = subst (λ u. DecidesLine kept ended len u) (sym d.3) line
  where
    inside : len ≤ at
    inside = omega (arith, d.1, length-take at kept)

    text : take len kept ≡ without_cr (take at kept)
    text = sym (take-take len at kept inside) ∙ d.2

    line : DecidesLine kept ended len (at + 1)
    line = record {
      short = d.0;
      inside = omega (arith, inside);
      some = omega arith;
      held = omega (arith, first.high);
      whole = λ unended. ap behind_last_feed (take_more kept at 0 first.high ∙ ap (λ b. take at kept ++ b ∷ []) is)
          ∙ fold-append (λ behind b. if is_line_feed b then [] else behind ++ b ∷ []) [] (take at kept) (10 ∷ []);
      all = λ rest follows. rw text (first_line has_bytes kept rest at first is);
      open_end = λ unended rest. rw text (first_line is_overlong kept rest at first is);
    }
decides_at kept ended at Long first is d = record {
  some = omega (arith, first.high);
  all = λ rest follows. (without_cr (take at kept), lines_of (drop (at + 1) kept ++ rest), first_line has_bytes kept rest at first is, d);
  open_end = λ unended rest. (without_cr (take at kept), decided_lines (drop (at + 1) kept ++ rest), first_line is_overlong kept rest at first is, d);
}
decides_at kept ended at End first is d = absurd d
decides_at kept ended at Open first is d = absurd d

-- so many bytes without an LF are a line that is too long
pub decides_overlong : (kept : List ℕ) (ended : Bool) → All (λ b. is_line_feed b ≡ false) kept → deciding_bytes ≤ length kept → DecidesLong kept ended
decides_overlong kept ended none many = record {
  some = omega arith;
  all = λ rest follows. long_open has_bytes (λ piece h. grind (arith, nat_tests)) kept rest none many;
  open_end = λ unended rest. long_open is_overlong (λ piece h. grind (arith, nat_tests)) kept rest none many;
}

-- fewer decide nothing while more may follow
pub decides_none : (kept : List ℕ) (ended : Bool) → All (λ b. is_line_feed b ≡ false) kept → length kept < deciding_bytes → ended ≡ false → DecidesNone kept ended
decides_none kept ended none few unended =
    let short : is_overlong kept ≡ false = grind (arith, nat_tests) in
    record { goes_on = unended; few = few; none = lines_open is_overlong kept none ∙ rw short refl }

-- at the end of the input they are the last line
pub decides_last : (kept : List ℕ) (ended : Bool) (d : Decision) → All (λ b. is_line_feed b ≡ false) kept → 0 < length kept → ended ≡ true
    → DecidesPiece kept (length kept) d → Decides kept ended d
unfolding last_if
decides_last kept ended (Line len used) none some done is = subst (λ u. DecidesLine kept ended len u) (sym is.3) line
  where
    passes : has_bytes kept ≡ true
    passes = grind (arith, nat_tests)

    one : lines_of kept ≡ take len kept ∷ []
    one = lines_open has_bytes kept none ∙ rw passes (rw is.2 refl)

    nothing : drop (length kept) kept ++ [] ≡ []
    nothing = append-nil (drop (length kept) kept) ∙ drop_all (length kept) kept (omega arith)

    at_end : (rest : List ℕ) → rest ≡ [] → lines_of (kept ++ rest) ≡ take len kept ∷ lines_of (drop (length kept) kept ++ rest)
    at_end rest e = rw e (rw (append-nil kept, nothing) one)

    line : DecidesLine kept ended len (length kept)
    line = record {
      short = is.0;
      inside = is.1;
      some = some;
      held = omega arith;
      whole = λ unended. absurd (true≢false (sym done ∙ unended));
      all = λ rest follows. at_end rest (follows done);
      open_end = λ unended rest. absurd (true≢false (sym done ∙ unended));
    }
decides_last kept ended Long none some done is = record {
  some = some;
  all = λ rest follows. at_end rest (follows done);
  open_end = λ unended rest. absurd (true≢false (sym done ∙ unended));
}
  where
    passes : has_bytes kept ≡ true
    passes = grind (arith, nat_tests)

    at_end : (rest : List ℕ) → rest ≡ [] → IsLongFirst (lines_of (kept ++ rest))
    at_end rest e = rw e (rw append-nil (without_cr kept, [], lines_open has_bytes kept none ∙ rw passes refl, is))
decides_last kept ended End none some done is = absurd is
decides_last kept ended Open none some done is = absurd is
