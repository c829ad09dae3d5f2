-- A line that is given again and again, from a place in it on.
use Rattle.std.proofs.Common.{◌≡◌, ℕ, zero, suc, ◌+◌, ◌-◌, ◌≤◌, ◌<◌, List, [], ◌∷◌, ◌++◌, length, take, drop, refl, ap, sym, ◌∙◌, arith, append_assoc}
use Rattle.std.proofs.lemmas.List.{drop_all, drop-drop, take_at, length-take-le, take-append-drop}
use Rattle.morph_io.specs.InMemory.{repeated, left_from}

repeated_nothing : (times : ℕ) → repeated times [] ≡ []
unfolding repeated
repeated_nothing zero = refl
repeated_nothing (suc times) = repeated_nothing times

-- an empty line gives nothing, however often
pub left_from_empty : (line : List ℕ) (times : ℕ) → 0 ≡ length line → left_from line 0 times ≡ []
left_from_empty [] times e = repeated_nothing times
left_from_empty (b ∷ line) times e = absurd (omega arith)

-- at the line's end the next time begins
pub left_from_next : (line : List ℕ) (at times : ℕ) → at ≡ length line → 0 < times → left_from line 0 (times - 1) ≡ left_from line at times
unfolding repeated
left_from_next line at zero end more = absurd (omega arith)
left_from_next line at (suc times) end more =
    let past : length line ≤ at = omega arith in
    let one : suc times - 1 ≡ times = omega arith in
    ap (λ n. line ++ repeated n line) one ∙ ap (λ front. front ++ (line ++ repeated times line)) (sym (drop_all at line past))

-- nothing is left at the line's end with no times to come
pub left_from_last : (line : List ℕ) (at times : ℕ) → at ≡ length line → times ≡ 0 → left_from line at times ≡ []
unfolding repeated
left_from_last line at times end none =
    let past : length line ≤ at = omega arith in
    ap (λ n. drop at line ++ repeated n line) none ∙ ap (λ front. front ++ []) (drop_all at line past)

-- the first of the bytes from a place in a line on are given
pub given_parts : (line buf given : List ℕ) (at n : ℕ) → n ≤ length (drop at line) → given ≡ take n (drop at line) ++ buf
    → drop at line ≡ take n given ++ drop (at + n) line
given_parts line buf given at n short e =
    let front : take n given ≡ take n (drop at line) =
    ap (take n) e ∙ take_at (take n (drop at line)) buf n (length-take-le n (drop at line) short) in
    sym (take-append-drop n (drop at line)) ∙ ap (λ bytes. bytes ++ drop n (drop at line)) (sym front)
    ∙ ap (λ bytes. take n given ++ bytes) (drop-drop n at line)

-- the same with the line's times to come
pub left_from_given : (line buf given : List ℕ) (at times n : ℕ) → n ≤ length (drop at line) → given ≡ take n (drop at line) ++ buf
    → left_from line at times ≡ take n given ++ left_from line (at + n) times
left_from_given line buf given at times n short e =
    ap (λ bytes. bytes ++ repeated times line) (given_parts line buf given at n short e)
    ∙ append_assoc (take n given) (drop (at + n) line) (repeated times line)
