-- Bytes that are moved to the front of a buffer, one by one.
use Rattle.std.proofs.Common.{◌≡◌, ℕ, ◌+◌, ◌<◌, List, [], ◌∷◌, ◌++◌, length, take, drop, get_or, set, sym, ◌∙◌, ap, arith, add-zero}
use Rattle.std.proofs.lemmas.List.{take_more, take_more_set, get_or-drop, drop-set-lt, drop-drop, length-drop}

-- the byte at a place, where the bytes from there on are as they were
same_byte : (xs before : List ℕ) (start i : ℕ) → drop (start + i) xs ≡ drop (start + i) before → get_or xs (start + i) 0 ≡ get_or (drop start before) i 0
same_byte xs before start i kept =
    sym (get_or-drop (start + i) xs 0 0 ∙ ap (λ n. get_or xs n 0) (add-zero (start + i)))
    ∙ ap (λ ys. get_or ys 0 0) kept
    ∙ (get_or-drop (start + i) before 0 0 ∙ ap (λ n. get_or before n 0) (add-zero (start + i)))
    ∙ sym (get_or-drop start before i 0)

pub moved_more : (xs before : List ℕ) (start i : ℕ) → start + i < length xs → length xs ≡ length before
    → take i xs ≡ take i (drop start before) → drop (start + i) xs ≡ drop (start + i) before
    → take (i + 1) (set xs i (get_or xs (start + i) 0)) ≡ take (i + 1) (drop start before)
moved_more xs before start i inside same moved kept =
    let here : i < length xs = omega arith in
    let there : i < length (drop start before) = omega (arith, length-drop start before) in
    take_more_set xs i (get_or xs (start + i) 0) here
    ∙ ap (λ ys. ys ++ get_or xs (start + i) 0 ∷ []) moved
    ∙ ap (λ b. take i (drop start before) ++ b ∷ []) (same_byte xs before start i kept)
    ∙ sym (take_more (drop start before) i 0 there)

pub kept_more : (xs before : List ℕ) (start i y : ℕ) → drop (start + i) xs ≡ drop (start + i) before
    → drop (start + (i + 1)) (set xs i y) ≡ drop (start + (i + 1)) before
kept_more xs before start i y kept =
    let past : i < start + (i + 1) = omega arith in
    let next : start + i + 1 ≡ start + (i + 1) = omega arith in
    drop-set-lt (start + (i + 1)) xs i y past
    ∙ sym (drop-drop 1 (start + i) xs ∙ ap (λ n. drop n xs) next)
    ∙ ap (drop 1) kept
    ∙ (drop-drop 1 (start + i) before ∙ ap (λ n. drop n before) next)
