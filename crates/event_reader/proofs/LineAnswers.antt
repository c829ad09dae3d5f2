-- How a reader of lines goes on, from call to call of its source.
use Rattle.std.proofs.Common.{◌≡◌, ℕ, ◌+◌, ◌-◌, ◌<◌, ◌≤◌, Bool, true, false, nat_le, List, [], ◌∷◌, ◌++◌, length, take, drop, refl, sym, ◌∙◌, ap, arith, append_assoc, append-nil, length-append, Option, Some, None, Err, ◌⊎◌, inl, inr}
use Rattle.std.specs.Prelude.{IsTrue, IfSome, option_map, if◌then◌else◌}
use Rattle.std.proofs.Math.Seq.{take-append-add}
use Rattle.std.proofs.lemmas.Bool.{cases_lt, true≢false}
use Rattle.std.proofs.lemmas.Bool.Decides.{nat_tests}
use Rattle.morph_io.specs.Told.{ahead, ahead_nil, ahead_ahead, IsAtEnd}
use Rattle.std.proofs.lemmas.List.{length-take}
use Rattle.event_reader.specs.Lines.{decided_lines, last_if, whole, front, within, with_line, IsLongFirst}
use Rattle.event_reader.specs.Decisions.{MayFollow, DecidesLine, DecidesLong, DecidesNone}
use Rattle.event_reader.specs.Limits.{longest_line}
use Rattle.event_reader.specs.declared.fault.ReaderFault.{ReaderFault}
use Rattle.event_reader.specs.declared.fault.ReaderFault.TheVariants.{ReadFault, TooLong, OutOfMemory}
use Rattle.event_reader.specs.Refills.{KeepsMore, KeepsAll, Fills}
use Rattle.event_reader.specs.Reader.{LinesView, room, left_for, reading_of, TakesBytes, AnswersLine, ShowsLine}

-- a reader that has gone on from `before`: it has taken `got` and decided nothing
pub record GoesOn (before : LinesView) (left : Option (List ℕ)) (now : LinesView) (left' : Option (List ℕ)) : Type 0 where
  pub got : List ℕ
  pub from : left ≡ ahead got left'
  pub told : left_for before left ≡ ahead got (left_for now left')
  pub kept : now.kept ≡ before.kept ++ got
  pub taken : now.taken ≡ before.taken + length got
  pub limit : now.limit ≡ before.limit
  pub number : now.number ≡ before.number
  pub live : IsTrue now.live
  pub at_end : before.ended ≡ false → IsTrue now.ended → IsAtEnd left'
  pub unended : now.ended ≡ false → before.ended ≡ false

-- what a reader may still be given: all that is left, but where it came to the end of its input nothing
left_unless : (ended : Bool) (left : Option (List ℕ)) → ended ≡ false → (if ended then option_map (λ _. []) left else left) ≡ left
left_unless true left unended = absurd (cc)
left_unless false left unended = refl

left_if_at_end : (ended : Bool) (left : Option (List ℕ)) → (IsTrue ended → IsAtEnd left)
    → (if ended then option_map (λ _. []) left else left) ≡ left
left_if_at_end true None at_end = refl
left_if_at_end true (Some rest) at_end = ap Some (sym (at_end refl))
left_if_at_end false left at_end = refl

at_end_if : (ended : Bool) (left : Option (List ℕ)) → IsTrue ended → IsAtEnd (if ended then option_map (λ _. []) left else left)
at_end_if true None done = tt
at_end_if true (Some rest) done = refl
at_end_if false left done = absurd (cc)

pub all_left_for : (v : LinesView) (left : Option (List ℕ)) → v.ended ≡ false → left_for v left ≡ left
all_left_for v left unended = left_unless v.ended left unended

pub left_for_at_end : (v : LinesView) (left : Option (List ℕ)) → (IsTrue v.ended → IsAtEnd left) → left_for v left ≡ left
left_for_at_end v left at_end = left_if_at_end v.ended left at_end

pub at_end_for : (v : LinesView) (left : Option (List ℕ)) → IsTrue v.ended → IsAtEnd (left_for v left)
at_end_for v left done = at_end_if v.ended left done

-- at the start it has gone nowhere
pub goes_nowhere : (v : LinesView) (left : Option (List ℕ)) → IsTrue v.live → GoesOn v left v left
goes_nowhere v left live = record {
  got = [];
  from = sym (ahead_nil left);
  told = sym (ahead_nil (left_for v left));
  kept = sym (append-nil v.kept);
  taken = omega arith;
  limit = refl;
  number = refl;
  live = live;
  at_end = λ unended done. absurd (true≢false (sym done ∙ unended));
  unended = λ e. e;
}

-- with more bytes kept it has gone further
pub goes_further : (before : LinesView) (left : Option (List ℕ)) (now : LinesView) (left' : Option (List ℕ)) (next : LinesView) (left'' : Option (List ℕ))
    → GoesOn before left now left' → now.ended ≡ false → KeepsMore now left' next left'' → GoesOn before left next left''
goes_further before left now left' next left'' h unended more = record {
  got = h.got ++ more.got;
  from = h.from ∙ ap (ahead h.got) more.told ∙ ahead_ahead h.got more.got left'';
  told = h.told
      ∙ ap (ahead h.got)
      (all_left_for now left' unended ∙ more.told ∙ ap (ahead more.got) (sym (left_for_at_end next left'' more.at_end)))
      ∙ ahead_ahead h.got more.got (left_for next left'');
  kept = more.kept ∙ ap (λ bytes. bytes ++ more.got) h.kept ∙ append_assoc before.kept h.got more.got;
  taken = omega (arith, more.taken, h.taken, length-append h.got more.got);
  limit = more.limit ∙ h.limit;
  number = more.number ∙ h.number;
  live = more.live ∙ h.live;
  at_end = λ _. more.at_end;
  unended = λ e. h.unended unended;
}

-- it has still the same bytes to give lines of
pub same_unread : (before : LinesView) (left : Option (List ℕ)) (now : LinesView) (left' : Option (List ℕ)) → GoesOn before left now left'
    → ahead before.kept (left_for before left) ≡ ahead now.kept (left_for now left')
same_unread before left now left' h =
    ap (ahead before.kept) h.told ∙ ahead_ahead before.kept h.got (left_for now left')
    ∙ ap (λ bytes. ahead bytes (left_for now left')) (sym h.kept)

pub same_room : (before : LinesView) (left : Option (List ℕ)) (now : LinesView) (left' : Option (List ℕ)) → GoesOn before left now left' → now.taken ≤ now.limit
    → room before ≡ room now
same_room before left now left' h bound =
    let long : length now.kept ≡ length before.kept + length h.got = ap length h.kept ∙ length-append before.kept h.got in
    omega (arith, h.taken, h.limit)

-- it has still the same lines to give
pub same_reading : (before : LinesView) (left : Option (List ℕ)) (now : LinesView) (left' : Option (List ℕ)) → GoesOn before left now left' → now.taken ≤ now.limit
    → reading_of before left ≡ reading_of now left'
same_reading before left now left' h bound =
    ap (λ n. option_map (within n) (ahead before.kept (left_for before left))) (same_room before left now left' h bound)
    ∙ ap (option_map (within (room now))) (same_unread before left now left' h)

-- of an input that is not cut off all lines are read, and of another those of its front
whole_within : (n : ℕ) (input : List ℕ) → length input ≤ n → within n input ≡ whole input
unfolding within
whole_within n input few = let passes : nat_le (length input) n ≡ true = grind (arith, nat_tests) in rw passes refl

front_within : (n : ℕ) (input : List ℕ) → n < length input → within n input ≡ front (take n input)
unfolding within
front_within n input many = let fails : nat_le (length input) n ≡ false = grind (arith, nat_tests) in rw fails refl

-- where bytes are left beyond those that may be read, the source has not come to its end
goes_on : (ended : Bool) (rest : List ℕ) (n : ℕ) → MayFollow ended rest → n < length rest → ended ≡ false
goes_on false rest n follows many = refl
goes_on true rest n follows many = absurd (let none : length rest ≡ 0 = ap length (follows refl) in omega arith)

-- the first line that is decided is the first of all that is read
pub line_within : (kept rest : List ℕ) (ended : Bool) (len used n : ℕ) → DecidesLine kept ended len used → MayFollow ended rest
    → within (length kept + n) (kept ++ rest) ≡ with_line (take len kept) (within (length (drop used kept) + n) (drop used kept ++ rest))
line_within kept rest ended len used n d follows = by_length (cases_lt n (length rest))
  where
    long : length (kept ++ rest) ≡ length kept + length rest
    long = length-append kept rest

    long' : length (drop used kept ++ rest) ≡ length (drop used kept) + length rest
    long' = length-append (drop used kept) rest

    by_length : (n < length rest) ⊎ (length rest ≤ n)
        → within (length kept + n) (kept ++ rest) ≡ with_line (take len kept) (within (length (drop used kept) + n) (drop used kept ++ rest))
    by_length (inr few) =
        whole_within (length kept + n) (kept ++ rest) (omega (arith, long))
        ∙ ap (λ lines. record { lines = lines; cut = false }) (d.all rest follows)
        ∙ ap (with_line (take len kept)) (sym (whole_within (length (drop used kept) + n) (drop used kept ++ rest) (omega (arith, long'))))
    by_length (inl many) =
        front_within (length kept + n) (kept ++ rest) (omega (arith, long))
        ∙ ap front (take-append-add kept rest n)
        ∙ ap (λ lines. record { lines = lines; cut = true }) (d.open_end (goes_on ended rest n follows many) (take n rest))
        ∙ ap (with_line (take len kept))
        (ap front (sym (take-append-add (drop used kept) rest n))
        ∙ sym (front_within (length (drop used kept) + n) (drop used kept ++ rest) (omega (arith, long'))))

-- so is one that is too long
pub long_within : (kept rest : List ℕ) (ended : Bool) (n : ℕ) → DecidesLong kept ended → MayFollow ended rest
    → IsLongFirst (within (length kept + n) (kept ++ rest)).lines
long_within kept rest ended n d follows = by_length (cases_lt n (length rest))
  where
    long : length (kept ++ rest) ≡ length kept + length rest
    long = length-append kept rest

    by_length : (n < length rest) ⊎ (length rest ≤ n) → IsLongFirst (within (length kept + n) (kept ++ rest)).lines
    by_length (inr few) = rw (whole_within (length kept + n) (kept ++ rest) (omega (arith, long))) (d.all rest follows)
    by_length (inl many) =
        rw (front_within (length kept + n) (kept ++ rest) (omega (arith, long)))
        (rw take-append-add (d.open_end (goes_on ended rest n follows many) (take n rest)))

-- where the source gives a byte beyond those that may be read, the lines are cut off
pub cut_within : (kept rest : List ℕ) → decided_lines kept ≡ [] → 0 < length rest
    → within (length kept + 0) (kept ++ rest) ≡ record { lines = []; cut = true }
cut_within kept rest none some =
    let long : length (kept ++ rest) ≡ length kept + length rest = length-append kept rest in
    front_within (length kept + 0) (kept ++ rest) (omega (arith, long))
    ∙ ap front (take-append-add kept rest 0 ∙ append-nil kept)
    ∙ ap (λ lines. record { lines = lines; cut = true }) none

-- the same of what a source tells
pub line_told : (kept : List ℕ) (ended : Bool) (left : Option (List ℕ)) (len used n : ℕ) → DecidesLine kept ended len used
    → (IsTrue ended → IsAtEnd left)
    → option_map (within (length kept + n)) (ahead kept left)
    ≡ option_map (with_line (take len kept)) (option_map (within (length (drop used kept) + n)) (ahead (drop used kept) left))
unfolding ahead
line_told kept ended None len used n d at_end = refl
line_told kept ended (Some rest) len used n d at_end = ap Some (line_within kept rest ended len used n d at_end)

pub long_told : (kept : List ℕ) (ended : Bool) (left : Option (List ℕ)) (n : ℕ) → DecidesLong kept ended → (IsTrue ended → IsAtEnd left)
    → IfSome (option_map (within (length kept + n)) (ahead kept left)) (λ reading. IsLongFirst reading.lines)
unfolding ahead
long_told kept ended None n d at_end = tt
long_told kept ended (Some rest) n d at_end = long_within kept rest ended n d at_end

pub end_told : (left : Option (List ℕ)) (n : ℕ) → IsAtEnd left
    → IfSome (option_map (within n) (ahead [] left)) (λ reading. reading ≡ record { lines = []; cut = false })
unfolding ahead last_if
end_told None n at_end = tt
end_told (Some rest) n at_end = rw at_end (whole_within n [] (omega arith))

pub cut_told : (kept : List ℕ) (left : Option (List ℕ)) (byte : ℕ) (more : List ℕ) → decided_lines kept ≡ []
    → IfSome (option_map (within (length kept + 0)) (ahead kept (ahead (byte ∷ more) left))) (λ reading. reading ≡ record { lines = []; cut = true })
unfolding ahead
cut_told kept None byte more none = tt
cut_told kept (Some rest) byte more none = cut_within kept (byte ∷ more ++ rest) none (omega (arith, length-append (byte ∷ more) rest))

-- where the source failed, it has still the same lines to give
same_kept : (now : LinesView) (next : LinesView) (left : Option (List ℕ)) → now.ended ≡ false → KeepsAll now next
    → reading_of now left ≡ reading_of next left
same_kept now next left unended same = rw (same.kept, same.taken, same.limit, unended, same.ended) refl

-- what it answers where bytes that decide nothing could not be added to
pub answers_fault : (before : LinesView) (left : Option (List ℕ)) (now : LinesView) (left' : Option (List ℕ)) (next : LinesView) (left'' : Option (List ℕ)) (fault : ReaderFault)
    → GoesOn before left now left' → now.taken ≤ now.limit → DecidesNone now.kept now.ended → Fills now left' (Err fault) next left''
    → AnswersLine (reading_of before left) (Err fault) next.line (reading_of next left'')
answers_fault before left now left' next left'' ReadFault h bound none fills =
    same_reading before left now left' h bound ∙ ap (reading_of now) fills.1 ∙ same_kept now next left'' none.goes_on fills.0
answers_fault before left now left' next left'' TooLong h bound none fills =
    let same = fills.0 in
    let more = fills.1 in
    let full : room now ≡ length now.kept + 0 = omega (arith, fills.2, same.taken, same.limit) in
    let cut : reading_of before left ≡ option_map (within (length now.kept + 0)) (ahead now.kept (ahead (more.byte ∷ more.more) left''))
    = same_reading before left now left' h bound
    ∙ ap (λ n. option_map (within n) (ahead now.kept (left_for now left'))) full
    ∙ ap (λ told. option_map (within (length now.kept + 0)) (ahead now.kept told)) (all_left_for now left' none.goes_on ∙ more.told) in
    rw cut (cut_told now.kept left'' more.byte more.more none.none)
answers_fault before left now left' next left'' OutOfMemory h bound none fills = fills

-- and what the bytes show that it took
pub shows_fault : (before : LinesView) (left : Option (List ℕ)) (now : LinesView) (left' : Option (List ℕ)) (next : LinesView) (left'' : Option (List ℕ)) (fault : ReaderFault)
    → GoesOn before left now left' → DecidesNone now.kept now.ended → Fills now left' (Err fault) next left''
    → TakesBytes left left'' (ShowsLine before (Err fault) next)
shows_fault before left now left' next left'' ReadFault h none fills = record {
  got = h.got;
  taken = h.from ∙ ap (ahead h.got) fills.1;
  shows = rw (← h.kept) (ap (λ lines. record { lines = lines; cut = true }) none.none);
}
shows_fault before left now left' next left'' TooLong h none fills = record {
  got = h.got ++ (fills.1.byte ∷ fills.1.more);
  taken = h.from ∙ ap (ahead h.got) fills.1.told ∙ ahead_ahead h.got (fills.1.byte ∷ fills.1.more) left'';
  shows = tt;
}
shows_fault before left now left' next left'' OutOfMemory h none fills = absurd fills

-- what it answers where a line is decided
pub answers_line : (before : LinesView) (left : Option (List ℕ)) (now : LinesView) (left' : Option (List ℕ)) (len used : ℕ)
    → GoesOn before left now left' → now.taken ≤ now.limit → DecidesLine now.kept now.ended len used
    → (reading_of before left
    ≡ option_map (with_line (take len now.kept))
    (option_map (within (length (drop used now.kept) + (now.limit - now.taken))) (ahead (drop used now.kept) (left_for now left'))))
    × (length (take len now.kept) ≤ longest_line)
answers_line before left now left' len used h bound d = (
  same_reading before left now left' h bound ∙ line_told now.kept now.ended (left_for now left') len used (now.limit - now.taken) d (at_end_for now left'),
  omega (arith, d.short, length-take len now.kept),
)

pub answers_long : (before : LinesView) (left : Option (List ℕ)) (now : LinesView) (left' : Option (List ℕ))
    → GoesOn before left now left' → now.taken ≤ now.limit → DecidesLong now.kept now.ended
    → IfSome (reading_of before left) (λ reading. IsLongFirst reading.lines)
answers_long before left now left' h bound d =
    rw (same_reading before left now left' h bound) (long_told now.kept now.ended (left_for now left') (now.limit - now.taken) d (at_end_for now left'))

pub answers_end : (before : LinesView) (left : Option (List ℕ)) (now : LinesView) (left' : Option (List ℕ))
    → GoesOn before left now left' → now.taken ≤ now.limit → now.kept ≡ [] → IsTrue now.ended
    → (reading_of before left ≡ reading_of now left') × IfSome (reading_of before left) (λ reading. reading ≡ record { lines = []; cut = false })
answers_end before left now left' h bound none done =
    let same : reading_of before left ≡ option_map (within (room now)) (ahead [] (left_for now left'))
    = same_reading before left now left' h bound ∙ ap (λ kept. option_map (within (room now)) (ahead kept (left_for now left'))) none in
    (same_reading before left now left' h bound, rw same (end_told (left_for now left') (room now) (at_end_for now left' done)))
