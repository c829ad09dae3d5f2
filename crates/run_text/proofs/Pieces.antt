-- Texts that are put and written one after another.
use Rattle.std.proofs.Common.{◌≡◌, ℕ, ◌+◌, ◌<◌, ◌≤◌, List, [], ◌++◌, Option, Result, Ok, Err, drop, length, get_or, ap, subst, sym, refl, ◌∙◌, arith}
use Rattle.std.specs.Result.{OnErr, IsErr}
use Rattle.std.specs.List.{flat_map, range_with_len}
use Rattle.std.proofs.lemmas.List.{drop_more, drop_all}
use Rattle.std.proofs.lemmas.List.FromFn.{get_or-range_with_len, length-range_with_len}
use Rattle.std.proofs.lemmas.Bool.{true≢false}
use Rattle.std.proofs.lemmas.Result.{on_ok_weaker, on_err_weaker}
use Rattle.std.proofs.Common.{append-nil, append_assoc}
use Rattle.morph_io.specs.Told.{behind, HasRisen}
use Rattle.morph_io.specs.SinkWrites.{AppendsPart}
use Rattle.morph_io.proofs.BufferPuts.{puts_nothing, puts_next, puts_cut, part_more}
use Rattle.morph_io.specs.declared.sink.WriteFailed.{WriteFailed}
use Rattle.run_text.specs.Calls.{buffered, PutsText, WritesText}
use Rattle.version_table.proofs.Summing.{inside_range}

-- what holds, holds where there is an error
pub on_err : {T E P : Type 0} (r : Result T E) → P → OnErr r P
on_err (Ok x) p = tt
on_err (Err e) p = p

-- ---- calls that put texts, one after another

pub put_nothing : {S : Type 0} {w : S → Option (List ℕ)} {f : S → ℕ} {x : Unit {0}} (sink : S) (kept : List ℕ) → PutsText w f [] (Ok x) (buffered sink kept) (buffered sink kept)
put_nothing {w = w} sink kept = record { puts = puts_nothing (w sink) kept; prefix = tt; never_falls = omega arith; steady = refl; cause = tt }

pub put_then : {S : Type 0} {w : S → Option (List ℕ)} {f : S → ℕ} {front back : List ℕ} {x : Unit {0}} {answer : Result (Unit {0}) WriteFailed} {s s1 s2 : S} {k k1 k2 : List ℕ} →
    PutsText w f front (Ok x) (buffered s k) (buffered s1 k1) → PutsText w f back answer (buffered s1 k1) (buffered s2 k2) → PutsText w f (front ++ back) answer (buffered s k) (buffered s2 k2)
put_then {w = w} {f = f} {front = front} {back = back} {answer = answer} {s = s} {s1 = s1} {s2 = s2} {k = k} {k1 = k1} {k2 = k2} first then = record {
  puts = on_ok_weaker answer (λ more. puts_next (w s) (w s1) (w s2) k k1 k2 front back first.puts more) then.puts;
  prefix = on_err_weaker answer (λ cut. puts_cut (w s) (w s1) (w s2) k k1 front back first.puts cut) then.prefix;
  never_falls = (let a = first.never_falls in let b = then.never_falls in omega (arith, a, b));
  steady = on_ok_weaker answer (λ same. same ∙ first.steady) then.steady;
  cause = on_err_weaker answer (λ risen. subst (λ n. HasRisen n (f s2)) first.steady risen) then.cause;
}

-- the same text in other words
pub put_as : {S : Type 0} {w : S → Option (List ℕ)} {f : S → ℕ} {text text' : List ℕ} {answer : Result (Unit {0}) WriteFailed} {s s1 : S} {k k1 : List ℕ} → text ≡ text' → PutsText w f text answer (buffered s k) (buffered s1 k1) → PutsText w f text' answer (buffered s k) (buffered s1 k1)
put_as {w = w} {f = f} {answer = answer} {s = s} {s1 = s1} {k = k} {k1 = k1} is put = subst (λ l. PutsText w f l answer (buffered s k) (buffered s1 k1)) is put

-- a call that fails, and what is no more put behind its text
pub put_stop : {S : Type 0} {w : S → Option (List ℕ)} {f : S → ℕ} {front : List ℕ} {e : WriteFailed} {s s1 : S} {k k1 k' : List ℕ} (answer : Result (Unit {0}) WriteFailed) (back : List ℕ) →
    IsErr answer → PutsText w f front (Err e) (buffered s k) (buffered s1 k1) → PutsText w f (front ++ back) answer (buffered s k) (buffered s1 k')
put_stop (Ok x) back is cut = absurd (true≢false (sym is))
put_stop {w = w} {front = front} {s = s} {s1 = s1} {k = k} (Err e) back is cut = record {
  puts = tt;
  prefix = part_more (w s) (w s1) (k ++ front) back (k ++ (front ++ back)) (sym (append_assoc k front back)) cut.prefix;
  never_falls = cut.never_falls;
  steady = tt;
  cause = cut.cause;
}

pub put_failed : {S : Type 0} {w : S → Option (List ℕ)} {f : S → ℕ} {text : List ℕ} {e : WriteFailed} {s s1 : S} {k k1 k' : List ℕ} (answer : Result (Unit {0}) WriteFailed) →
    IsErr answer → PutsText w f text (Err e) (buffered s k) (buffered s1 k1) → PutsText w f text answer (buffered s k) (buffered s1 k')
put_failed {text = text} answer failed cut = put_as (append-nil text) (put_stop answer [] failed cut)

-- the pieces from one on are this one, and those behind it
from_piece : {X : Type 0} (text : X → List ℕ) (xs : List X) (i : ℕ) (d : X) → i < length xs → flat_map text (drop i xs) ≡ text (get_or xs i d) ++ flat_map text (drop (i + 1) xs)
from_piece text xs i d lt = ap (flat_map text) (drop_more xs i d lt)

pub piece_then : {S X : Type 0} {w : S → Option (List ℕ)} {f : S → ℕ} {piece : List ℕ} {x : Unit {0}} {answer : Result (Unit {0}) WriteFailed} {s s1 s2 : S} {k k1 k2 : List ℕ} (text : X → List ℕ) (xs : List X) (i : ℕ) (d : X) →
    i < length xs → text (get_or xs i d) ≡ piece → PutsText w f piece (Ok x) (buffered s k) (buffered s1 k1) → PutsText w f (flat_map text (drop (i + 1) xs)) answer (buffered s1 k1) (buffered s2 k2)
    → PutsText w f (flat_map text (drop i xs)) answer (buffered s k) (buffered s2 k2)
piece_then text xs i d lt is first then =
    put_as (ap (λ l. l ++ flat_map text (drop (i + 1) xs)) (sym is) ∙ sym (from_piece text xs i d lt)) (put_then first then)

pub piece_stop : {S X : Type 0} {w : S → Option (List ℕ)} {f : S → ℕ} {piece : List ℕ} {e : WriteFailed} {s s1 : S} {k k1 : List ℕ} (text : X → List ℕ) (xs : List X) (i : ℕ) (d : X) (answer : Result (Unit {0}) WriteFailed) →
    i < length xs → text (get_or xs i d) ≡ piece → IsErr answer → PutsText w f piece (Err e) (buffered s k) (buffered s1 k1) → PutsText w f (flat_map text (drop i xs)) answer (buffered s k) (buffered s1 k1)
piece_stop text xs i d answer lt is failed cut =
    put_as (ap (λ l. l ++ flat_map text (drop (i + 1) xs)) (sym is) ∙ sym (from_piece text xs i d lt)) (put_stop answer (flat_map text (drop (i + 1) xs)) failed cut)

pub pieces_end : {S X : Type 0} {w : S → Option (List ℕ)} {f : S → ℕ} {x : Unit {0}} (text : X → List ℕ) (xs : List X) (i : ℕ) (s : S) (k : List ℕ) → length xs ≤ i → PutsText w f (flat_map text (drop i xs)) (Ok x) (buffered s k) (buffered s k)
pieces_end text xs i s k all = put_as (ap (flat_map text) (sym (drop_all i xs all))) (put_nothing s k)

-- whatever puts the rest puts the whole
abbrev pub Completes : {S : Type 0} (w : S → Option (List ℕ)) (f : S → ℕ) (rest whole : List ℕ) (s : S) (k : List ℕ) (s1 : S) (k1 : List ℕ) → Type 0
Completes {S} w f rest whole s k s1 k1 = (answer : Result (Unit {0}) WriteFailed) (s2 : S) (k2 : List ℕ) → PutsText w f rest answer (buffered s1 k1) (buffered s2 k2) → PutsText w f whole answer (buffered s k) (buffered s2 k2)

-- ---- numbered pieces

abbrev pub from_number : (text : ℕ → List ℕ) (n i : ℕ) → List ℕ
from_number text n i = flat_map text (drop i (range_with_len 0 n))

number_is : (text : ℕ → List ℕ) (n i : ℕ) (piece : List ℕ) → i < n → text i ≡ piece → text (get_or (range_with_len 0 n) i 0) ≡ piece
number_is text n i piece lt is = ap text (get_or-range_with_len 0 n i 0 lt ∙ omega arith) ∙ is

pub number_then : {S : Type 0} {w : S → Option (List ℕ)} {f : S → ℕ} {piece : List ℕ} {x : Unit {0}} {answer : Result (Unit {0}) WriteFailed} {s s1 s2 : S} {k k1 k2 : List ℕ} (text : ℕ → List ℕ) (n i : ℕ) →
    i < n → text i ≡ piece → PutsText w f piece (Ok x) (buffered s k) (buffered s1 k1) → PutsText w f (from_number text n (i + 1)) answer (buffered s1 k1) (buffered s2 k2) → PutsText w f (from_number text n i) answer (buffered s k) (buffered s2 k2)
number_then {piece = piece} text n i lt is = piece_then text (range_with_len 0 n) i 0 (inside_range n i lt) (number_is text n i piece lt is)

pub number_stop : {S : Type 0} {w : S → Option (List ℕ)} {f : S → ℕ} {piece : List ℕ} {e : WriteFailed} {s s1 : S} {k k1 : List ℕ} (text : ℕ → List ℕ) (n i : ℕ) (answer : Result (Unit {0}) WriteFailed) →
    i < n → text i ≡ piece → IsErr answer → PutsText w f piece (Err e) (buffered s k) (buffered s1 k1) → PutsText w f (from_number text n i) answer (buffered s k) (buffered s1 k1)
number_stop {piece = piece} text n i answer lt is = piece_stop text (range_with_len 0 n) i 0 answer (inside_range n i lt) (number_is text n i piece lt is)

-- the pieces from one on are this one, and those behind it
pub number_more : (text : ℕ → List ℕ) (n i : ℕ) → i < n → from_number text n i ≡ text i ++ from_number text n (i + 1)
number_more text n i lt =
    from_piece text (range_with_len 0 n) i 0 (inside_range n i lt)
    ∙ ap (λ l. l ++ from_number text n (i + 1)) (number_is text n i (text i) lt refl)

pub numbers_none : (text : ℕ → List ℕ) (n i : ℕ) → n ≤ i → from_number text n i ≡ []
numbers_none text n i all = ap (flat_map text) (drop_all i (range_with_len 0 n) (rw length-range_with_len (omega (arith, all))))

pub numbers_end : {S : Type 0} {w : S → Option (List ℕ)} {f : S → ℕ} {x : Unit {0}} (text : ℕ → List ℕ) (n i : ℕ) (s : S) (k : List ℕ) → n ≤ i → PutsText w f (from_number text n i) (Ok x) (buffered s k) (buffered s k)
numbers_end text n i s k all = put_as (sym (numbers_none text n i all)) (put_nothing s k)

-- ---- texts that are written

pub as_put : {S : Type 0} {w : S → Option (List ℕ)} {f : S → ℕ} {text : List ℕ} {answer : Result (Unit {0}) WriteFailed} {s s1 : S} → WritesText w f text answer s s1 → PutsText w f text answer (buffered s []) (buffered s1 [])
as_put {text = text} {answer = answer} write = record {
  puts = on_ok_weaker answer (λ all. record { done = text; written = all; parts = append-nil text }) write.all;
  prefix = write.prefix;
  never_falls = write.never_falls;
  steady = write.steady;
  cause = write.cause;
}

pub as_written : {S : Type 0} {w : S → Option (List ℕ)} {f : S → ℕ} {text : List ℕ} {answer : Result (Unit {0}) WriteFailed} {s s1 : S} {k : List ℕ} → k ≡ [] → PutsText w f text answer (buffered s k) (buffered s1 []) → WritesText w f text answer s s1
as_written {w = w} {text = text} {answer = answer} {s = s} {s1 = s1} {k = k} none put = record {
  all = on_ok_weaker answer (λ puts. puts.written ∙ ap (behind (w s)) (sym (append-nil puts.done) ∙ puts.parts ∙ ap (λ k. k ++ text) none)) put.puts;
  prefix = on_err_weaker answer (subst (λ k. AppendsPart (w s) (k ++ text) (w s1)) none) put.prefix;
  never_falls = put.never_falls;
  steady = put.steady;
  cause = put.cause;
}

pub write_nothing : {S : Type 0} {w : S → Option (List ℕ)} {f : S → ℕ} {x : Unit {0}} (s : S) → WritesText w f [] (Ok x) s s
write_nothing s = as_written refl (put_nothing s [])

pub write_as : {S : Type 0} {w : S → Option (List ℕ)} {f : S → ℕ} {text text' : List ℕ} {answer : Result (Unit {0}) WriteFailed} {s s1 : S} → text ≡ text' → WritesText w f text answer s s1 → WritesText w f text' answer s s1
write_as {w = w} {f = f} {answer = answer} {s = s} {s1 = s1} is write = subst (λ l. WritesText w f l answer s s1) is write

pub write_then : {S : Type 0} {w : S → Option (List ℕ)} {f : S → ℕ} {front back : List ℕ} {x : Unit {0}} {answer : Result (Unit {0}) WriteFailed} {s s1 s2 : S} →
    WritesText w f front (Ok x) s s1 → WritesText w f back answer s1 s2 → WritesText w f (front ++ back) answer s s2
write_then first then = as_written refl (put_then (as_put first) (as_put then))

pub write_stop : {S : Type 0} {w : S → Option (List ℕ)} {f : S → ℕ} {front : List ℕ} {e : WriteFailed} {s s1 : S} (answer : Result (Unit {0}) WriteFailed) (back : List ℕ) →
    IsErr answer → WritesText w f front (Err e) s s1 → WritesText w f (front ++ back) answer s s1
write_stop answer back failed cut = as_written refl (put_stop answer back failed (as_put cut))

-- what a buffer keeps, written
flush_puts : {S : Type 0} {w : S → Option (List ℕ)} {f : S → ℕ} {answer : Result (Unit {0}) WriteFailed} {s s1 : S} {k : List ℕ} → WritesText w f k answer s s1 → PutsText w f [] answer (buffered s k) (buffered s1 [])
flush_puts {w = w} {answer = answer} {s = s} {s1 = s1} {k = k} flush = record {
  puts = on_ok_weaker answer (λ all. record { done = k; written = all; parts = refl }) flush.all;
  prefix = on_err_weaker answer (subst (λ l. AppendsPart (w s) l (w s1)) (sym (append-nil k))) flush.prefix;
  never_falls = flush.never_falls;
  steady = flush.steady;
  cause = flush.cause;
}

pub flushed : {S : Type 0} {w : S → Option (List ℕ)} {f : S → ℕ} {text : List ℕ} {x : Unit {0}} {answer : Result (Unit {0}) WriteFailed} {s s1 s2 : S} {k k1 : List ℕ} →
    k ≡ [] → PutsText w f text (Ok x) (buffered s k) (buffered s1 k1) → WritesText w f k1 answer s1 s2 → WritesText w f text answer s s2
flushed {text = text} none put flush = as_written none (put_as (append-nil text) (put_then put (flush_puts flush)))
