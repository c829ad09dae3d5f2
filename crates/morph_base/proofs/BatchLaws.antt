-- A batch whose list of operations grows: its events stay, and one more comes.
use Rattle.std.proofs.Common.{◌≡◌, ℕ, ◌+◌, ◌-◌, ◌<◌, ◌≤◌, List, [], ◌∷◌, ◌++◌, length, take, drop, map, get_or, refl, sym, subst, ◌∙◌, ap, arith, All, Result, Ok, Err, OnErr}
use Rattle.std.proofs.Math.Seq.{drop-append_seam, take-append_seam}
use Rattle.std.proofs.lemmas.List.{take-append-drop, take-append-le, drop-append-le, length-drop, length-append, map-append, take_all, take_more}
use Rattle.std.proofs.lemmas.List.Elements.{All-head, All-tail, All-push}
use Rattle.morph_base.specs.declared.batch.EventHead.{EventHead}
use Rattle.morph_base.specs.declared.operation.Op.{Op}
use Rattle.morph_base.specs.EventHeads.{IsHeadInside, AreInside}
use Rattle.morph_base.specs.Transactions.{transaction, transaction_by}

one_stays : (ops more : List Op) (head : EventHead) → IsHeadInside ops head → transaction_by (ops ++ more) head ≡ transaction_by ops head
one_stays ops more head inside =
    ap (transaction head.ts)
    (ap (take head.count) (drop-append-le head.first ops more (omega (arith, inside)))
    ∙ take-append-le head.count (drop head.first ops) more (omega (arith, inside, length-drop head.first ops)))

stay : (ops more : List Op) (heads : List EventHead) → AreInside ops heads → map (transaction_by (ops ++ more)) heads ≡ map (transaction_by ops) heads
stay ops more [] inside = refl
stay ops more (head ∷ heads) inside =
    rw (one_stays ops more head (All-head (IsHeadInside ops) head heads inside), stay ops more heads (All-tail (IsHeadInside ops) head heads inside)) refl

-- operations that were appended change no event
pub events_stay : (ops new : List Op) (heads : List EventHead) → take (length ops) new ≡ ops → AreInside ops heads
    → map (transaction_by new) heads ≡ map (transaction_by ops) heads
events_stay ops new heads front inside =
    let is : new ≡ ops ++ drop (length ops) new = sym (take-append-drop (length ops) new) ∙ ap (λ xs. xs ++ drop (length ops) new) front in
    ap (λ xs. map (transaction_by xs) heads) is ∙ stay ops (drop (length ops) new) heads inside

-- a refused head behind them changes nothing either
pub events_kept : (ops new : List Op) (heads put : List EventHead) → take (length ops) new ≡ ops → AreInside ops heads → put ≡ heads
    → map (transaction_by new) put ≡ map (transaction_by ops) heads
events_kept ops new heads put front inside same = ap (map (transaction_by new)) same ∙ events_stay ops new heads front inside

pub front_of : (ops new more : List Op) → new ≡ ops ++ more → take (length ops) new ≡ ops
front_of ops new more is = ap (take (length ops)) is ∙ take-append_seam ops more

-- the event that has them: its head was put behind the others
pub event_more : (ops new more : List Op) (heads put : List EventHead) (ts first count : ℕ) → new ≡ ops ++ more
    → put ≡ heads ++ record { ts = ts; first = first; count = count } ∷ [] → first ≡ length ops → count ≡ length new - first → AreInside ops heads
    → map (transaction_by new) put ≡ map (transaction_by ops) heads ++ transaction ts more ∷ []
event_more ops new more heads put ts first count is told from many inside =
    let head : EventHead = record { ts = ts; first = first; count = count } in
    let long = ap (λ (xs : List Op). length xs) is ∙ length-append ops more in
    let all : count ≡ length more = omega (arith, long) in
    let own : take count (drop first new) ≡ more
    = ap (λ n. take count (drop n new)) from ∙ ap (λ xs. take count (drop (length ops) xs)) is ∙ ap (take count) (drop-append_seam ops more)
    ∙ take_all count more (omega (arith, all)) in
    ap (map (transaction_by new)) told
    ∙ map-append (transaction_by new) heads (head ∷ [])
    ∙ ap (λ es. es ++ transaction_by new head ∷ []) (ap (λ xs. map (transaction_by xs) heads) is ∙ stay ops more heads inside)
    ∙ ap (λ xs. map (transaction_by ops) heads ++ transaction ts xs ∷ []) own

-- what holds in any case
pub on_err : {T E P : Type 0} (r : Result T E) → P → OnErr r P
on_err (Ok v) p = tt
on_err (Err e) p = p

-- nothing comes of nothing alone
pub map_empty : {X Y : Type 0} (f : X → Y) (xs : List X) → map f xs ≡ [] → xs ≡ []
map_empty f [] none = refl
map_empty f (x ∷ xs) none = absurd (cc)

-- what holds of all so far, and of the next, holds of one more
pub all_more : {X : Type 0} (P : X → Type 0) (xs : List X) (i : ℕ) (d : X) → i < length xs → All P (take i xs) → P (get_or xs i d) → All P (take (i + 1) xs)
all_more P xs i d inside so_far here = subst (All P) (sym (take_more xs i d inside)) (All-push P (take i xs) (get_or xs i d) so_far here)

pub all_of_them : {X : Type 0} (P : X → Type 0) (xs : List X) (i : ℕ) → length xs ≤ i → All P (take i xs) → All P xs
all_of_them P xs i past so_far = subst (All P) (take_all i xs past) so_far
