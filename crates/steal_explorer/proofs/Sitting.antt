-- Runners are put beside their deques one after the other, the last first.
use Rattle.std.proofs.Common.{◌≡◌, ◌≢◌, ℕ, ◌+◌, ◌-◌, ◌<◌, List, [], ◌∷◌, ◌++◌, length, map, refl, sym, ap, ◌∙◌, subst, inl, inr, arith, length-append, append_assoc}
use Rattle.std.specs.Prelude.{All, reverse, slice_index_or}
use Rattle.std.proofs.lemmas.Bool.{cases_eq}
use Rattle.std.proofs.lemmas.List.{reverse-append, reverse-reverse, length-reverse, get_or-reverse}
use Rattle.std.proofs.lemmas.List.Elements.{All-push}
use Rattle.std.proofs.Math.ListN.{get_or-append}
use Rattle.std.proofs.Math.Seq.{get_or-append_seam}
use Rattle.op_words.proofs.Rows.{no_more}
use Rattle.op_eval.specs.declared.explored.RunEnd.TheVariants.{Spent}
use Rattle.op_eval.specs.declared.runner.Runner.{Runner}
use Rattle.steal_explorer.specs.declared.deques.Seat.{Seat}
use Rattle.steal_explorer.specs.declared.member.Member.{Member}
use Rattle.steal_explorer.specs.Seating.{runner_of, seat_of, AreSeatedBy}

map-snoc : {X : Type 0} (f : Member → X) (ms : List Member) (m : Member) → map f (ms ++ m ∷ []) ≡ map f ms ++ f m ∷ []
map-snoc f [] m = refl
map-snoc f (x ∷ xs) m = ap (λ l. f x ∷ l) (map-snoc f xs m)

map_reversed : {X : Type 0} (f : Member → X) (ms : List Member) → map f (reverse ms) ≡ reverse (map f ms)
map_reversed f [] = refl
map_reversed f (m ∷ ms) = ap (map f) (reverse-append (m ∷ []) ms) ∙ map-snoc f (reverse ms) m ∙ ap (λ l. l ++ f m ∷ []) (map_reversed f ms) ∙ sym (reverse-append (f m ∷ []) (map f ms))

-- what is not yet seated comes before what is
later : {X : Type 0} (f : Member → X) (all front old : List X) (x : X) (ms : List Member) (m : Member) → all ≡ old ++ reverse (map f ms) → old ≡ front ++ x ∷ [] → f m ≡ x → all ≡ front ++ reverse (map f (ms ++ m ∷ []))
later f all front old x ms m is last same =
    is
    ∙ ap (λ l. l ++ reverse (map f ms)) last
    ∙ append_assoc front (x ∷ []) (reverse (map f ms))
    ∙ ap (λ y. front ++ y ∷ reverse (map f ms)) (sym same)
    ∙ ap (λ l. front ++ l) (sym (ap reverse (map-snoc f ms m) ∙ reverse-append (map f ms) (f m ∷ [])))

pub record IsSeating (rs : List Runner) (ss : List Seat) (count seated : ℕ) (front : List Runner) (seats : List Seat) (ms : List Member) : Type 0 where
  pub runners : rs ≡ front ++ reverse (map runner_of ms)
  pub seats_are : ss ≡ seats ++ reverse (map seat_of ms)
  pub many : length ms ≡ seated
  pub left : length front + seated ≡ count
  pub left_seats : length seats + seated ≡ count
  pub numbers : (k : ℕ) (m : Member) → k < length ms → (slice_index_or ms k m).number + k + 1 ≡ count
  pub unstolen : All (λ m. m.stolen ≡ 0) ms
  pub ends : All (λ m. m.end ≡ Spent) ms

pub seating_none : (rs : List Runner) (ss : List Seat) (count : ℕ) (ms : List Member) → length rs ≡ length ss → length ss ≡ count → ms ≡ [] → IsSeating rs ss count 0 rs ss ms
seating_none rs ss count ms len is none = subst (IsSeating rs ss count 0 rs ss) (sym none) (record {
  runners = no_more rs;
  seats_are = no_more ss;
  many = refl;
  left = omega arith;
  left_seats = omega arith;
  numbers = λ k m lt. absurd (omega arith);
  unstolen = λ k d lt. absurd (omega arith);
  ends = λ k d lt. absurd (omega arith);
})

module _ (rs : List Runner) (ss : List Seat) (count seated : ℕ) (front : List Runner) (seats : List Seat) (ms : List Member) (is : IsSeating rs ss count seated front seats ms)
    (r : Runner) (front' : List Runner) (last : front ≡ front' ++ r ∷ []) (s : Seat) (seats' : List Seat) (last_seat : seats ≡ seats' ++ s ∷ []) (number : ℕ) (number_is : number + seated + 1 ≡ count) where
  abbrev new : Member
  new = record { runner = r; number = number; owner = s.owner; tickets = s.tickets; handed = s.handed; stolen = 0; end = Spent }

  pub seating_more : (m : Member) → m ≡ new → IsSeating rs ss count (seated + 1) front' seats' (ms ++ m ∷ [])
  seating_more m m_is = subst (λ n. IsSeating rs ss count (seated + 1) front' seats' (ms ++ n ∷ [])) (sym m_is) (record {
    runners = later runner_of rs front' front r ms new is.runners last refl;
    seats_are = later seat_of ss seats' seats s ms new is.seats_are last_seat refl;
    many = let e : length (ms ++ new ∷ []) ≡ length ms + 1 = length-append ms (new ∷ []) in let f = is.many in omega arith;
    left = let e : length front ≡ length (front' ++ r ∷ []) = ap length last in let f : length (front' ++ r ∷ []) ≡ length front' + 1 = length-append front' (r ∷ []) in let old = is.left in omega arith;
    left_seats = let e : length seats ≡ length (seats' ++ s ∷ []) = ap length last_seat in let f : length (seats' ++ s ∷ []) ≡ length seats' + 1 = length-append seats' (s ∷ []) in let old = is.left_seats in omega arith;
    numbers = numbered;
    unstolen = All-push (λ m. m.stolen ≡ 0) ms new is.unstolen refl;
    ends = All-push (λ m. m.end ≡ Spent) ms new is.ends refl;
  })
    where
      numbered : (k : ℕ) (d : Member) → k < length (ms ++ new ∷ []) → (slice_index_or (ms ++ new ∷ []) k d).number + k + 1 ≡ count
      numbered k d lt =
          let e : length (ms ++ new ∷ []) ≡ length ms + 1 = length-append ms (new ∷ []) in
          let f = is.many in
          elim (cases_eq k (length ms)) [
            | inl same ↦
                let at : (slice_index_or (ms ++ new ∷ []) k d).number ≡ number = ap (λ n. (slice_index_or (ms ++ new ∷ []) n d).number) same ∙ ap (λ (m : Member). m.number) (get_or-append_seam ms new [] d) in
                omega arith
            | inr other ↦
                let low : k < length ms = lower k (subst (λ n. k < n) e lt) other in
                let at : (slice_index_or (ms ++ new ∷ []) k d).number ≡ (slice_index_or ms k d).number = ap (λ (m : Member). m.number) (get_or-append ms (new ∷ []) d k low) in
                let old = is.numbers k d low in
                omega arith
          ]
        where
          lower : (k : ℕ) → k < length ms + 1 → k ≢ length ms → k < length ms
          lower k lt other = grind arith

all_reversed : (P : Member → Type 0) (ms : List Member) → All P ms → All P (reverse ms)
all_reversed P ms all k d lt =
    let less : k < length ms = subst (λ n. k < n) (length-reverse ms) lt in
    subst P (sym (get_or-reverse ms k d less)) (all (length ms - 1 - k) d (omega arith))

-- all are seated, and the list is turned round
pub seated_all : (rs : List Runner) (ss : List Seat) (count : ℕ) (seated : ℕ) (front : List Runner) (seats : List Seat) (ms back : List Member) → IsSeating rs ss count seated front seats ms → seated ≡ count → back ≡ reverse ms
    → AreSeatedBy rs ss back × (front ≡ [])
seated_all rs ss count seated front seats ms back is all turned = (
  subst (AreSeatedBy rs ss) (sym turned) (record {
    runners = map_reversed runner_of ms ∙ sym (is.runners ∙ ap (λ l. l ++ reverse (map runner_of ms)) (none front (let e = is.left in omega arith)));
    seats = map_reversed seat_of ms ∙ sym (is.seats_are ∙ ap (λ l. l ++ reverse (map seat_of ms)) (none seats (let e = is.left_seats in omega arith)));
    numbers = λ k m lt.
        let less : k < length ms = subst (λ n. k < n) (length-reverse ms) lt in
        let e : (slice_index_or (reverse ms) k m).number ≡ (slice_index_or ms (length ms - 1 - k) m).number = ap (λ (n : Member). n.number) (get_or-reverse ms k m less) in
        let f = is.numbers (length ms - 1 - k) m (omega arith) in
        let g = is.many in
        omega arith;
    unstolen = all_reversed (λ m. m.stolen ≡ 0) ms is.unstolen;
    ends = all_reversed (λ m. m.end ≡ Spent) ms is.ends;
  }),
  none front (let e = is.left in omega arith),
)
  where
    none : {X : Type 0} (xs : List X) → length xs ≡ 0 → xs ≡ []
    none [] e = refl
    none (x ∷ xs) e = absurd (omega arith)

-- ---- and taken back

-- what was put back, and those that are still with their deques, in order
pub put_back : (all rs : List Runner) (r : Runner) (ms front : List Member) (m : Member) → all ≡ rs ++ map runner_of (reverse ms) → ms ≡ front ++ m ∷ [] → r ≡ m.runner → all ≡ (rs ++ r ∷ []) ++ map runner_of (reverse front)
put_back all rs r ms front m is last same =
    is
    ∙ ap (λ l. rs ++ map runner_of (reverse l)) last
    ∙ ap (λ l. rs ++ map runner_of l) (reverse-append front (m ∷ []))
    ∙ ap (λ x. rs ++ x ∷ map runner_of (reverse front)) (sym same)
    ∙ sym (append_assoc rs (r ∷ []) (map runner_of (reverse front)))

pub back_none : (ms back : List Member) (rs : List Runner) → back ≡ reverse ms → rs ≡ [] → map runner_of ms ≡ rs ++ map runner_of (reverse back)
back_none ms back rs turned none = ap (map runner_of) (sym (ap reverse turned ∙ reverse-reverse ms)) ∙ ap (λ l. l ++ map runner_of (reverse back)) (sym none)

pub back_all : (all rs : List Runner) (ms : List Member) → all ≡ rs ++ map runner_of (reverse ms) → length ms ≡ 0 → rs ≡ all
back_all all rs [] is none = no_more rs ∙ sym is
back_all all rs (m ∷ ms) is none = absurd (omega arith)
