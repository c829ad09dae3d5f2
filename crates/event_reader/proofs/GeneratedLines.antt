-- A generated text that is given line by line.
use Rattle.std.proofs.Common.{◌≡◌, ℕ, zero, suc, ◌+◌, ◌-◌, ◌<◌, ◌≤◌, List, [], ◌++◌, length, take, drop, refl, sym, ◌∙◌, ap, arith, append_assoc}
use Rattle.std.proofs.lemmas.List.{length-drop}
use Rattle.morph_io.proofs.RepeatedLine.{given_parts}
use Rattle.event_reader.specs.Generated.{Drawn}
use Rattle.event_reader.specs.GeneratedText.{with_end, generated_from}

-- the next line is written
pub line_begun : (drawn : ℕ → ℕ → Drawn) (rest line : List ℕ) (count i state state' : ℕ) → rest ≡ [] → 0 < count
    → line ≡ with_end i (drawn i state).line → state' ≡ (drawn i state).state
    → line ++ generated_from drawn (count - 1) (i + 1) state' ≡ rest ++ generated_from drawn count i state
unfolding generated_from
line_begun drawn rest line zero i state state' none more is is' = absurd (omega arith)
line_begun drawn rest line (suc count) i state state' none more is is' =
    let one : suc count - 1 ≡ count = omega arith in
    ap (λ n. line ++ generated_from drawn n (i + 1) state') one
    ∙ ap (λ l. l ++ generated_from drawn count (i + 1) state') is
    ∙ ap (λ s. with_end i (drawn i state).line ++ generated_from drawn count (i + 1) s) is'
    ∙ ap (λ r. r ++ (with_end i (drawn i state).line ++ generated_from drawn count (i + 1) (drawn i state).state)) (sym none)

-- no line comes
nothing_comes : (drawn : ℕ → ℕ → Drawn) (count i state : ℕ) → count ≡ 0 → generated_from drawn count i state ≡ []
unfolding generated_from
nothing_comes drawn zero i state none = refl
nothing_comes drawn (suc count) i state none = absurd (omega arith)

-- a part of the line is given
pub part_given : (line buf given tail : List ℕ) (at n : ℕ) → n ≤ length (drop at line) → given ≡ take n (drop at line) ++ buf
    → drop at line ++ tail ≡ take n given ++ (drop (at + n) line ++ tail)
part_given line buf given tail at n short e =
    ap (λ bytes. bytes ++ tail) (given_parts line buf given at n short e) ∙ append_assoc (take n given) (drop (at + n) line) tail

-- nothing is left behind a line that was given whole
pub all_given : (drawn : ℕ → ℕ → Drawn) (rest : List ℕ) (count i state : ℕ) → rest ≡ [] → count ≡ 0 → rest ++ generated_from drawn count i state ≡ []
all_given drawn rest count i state end none = ap (λ r. r ++ generated_from drawn count i state) end ∙ nothing_comes drawn count i state none

-- a line that is not given whole has bytes left
pub not_at_end : (line : List ℕ) (at : ℕ) → at ≤ length line → (at ≡ length line → ⊥) → drop at line ≡ [] → ⊥
not_at_end line at inside before end = before (omega (arith, length-drop at line, ap length end))
