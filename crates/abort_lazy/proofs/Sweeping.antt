-- Bursts of numbers that a runner takes at one part of a level, and the events that it tries.
use Rattle.std.proofs.Common.{◌≡◌, ℕ, ◌+◌, ◌-◌, ◌<◌, ◌≤◌, Bool, eqb, false, true, List, [], ◌∷◌, ◌++◌, length, get_or, refl, sym, ap, ◌∙◌, subst, inl, inr, arith}
use Rattle.std.specs.Prelude.{All, Contains, nat_lt, reverse, slice_index_or, sum_by}
use Rattle.std.proofs.lemmas.Bool.{false≢true, cases_eq, cond-true, cond-false, eq-eqb, le-ltb, lt-ltb}
use Rattle.std.proofs.lemmas.List.{get_or-reverse, length-append, length-reverse, reverse-append, reverse-reverse}
use Rattle.std.proofs.lemmas.List.Elements.{Contains-append_cases, Contains-append_left, Contains-append_right}
use Rattle.std.proofs.lemmas.List.Sums.{sum_by-append, sum_by-cons, sum_by_push}
use Rattle.morph_base.specs.declared.plan.Plan.{Plan}
use Rattle.morph_base.specs.Plans.{event_count}
use Rattle.op_words.specs.declared.trail.View.{View}
use Rattle.op_words.specs.Counting.{place, times, taking}
use Rattle.op_words.specs.Rule.{of_counter, one}
use Rattle.op_words.specs.Views.{IsLone}
use Rattle.op_eval.specs.declared.runner.Runner.{Runner}
use Rattle.op_eval.specs.Bursts.{BurstView, TakesBurst, TakesNumbers}
use Rattle.op_eval.specs.Exploring.{Unused}
use Rattle.op_eval.specs.Running.{hand_view}
use Rattle.op_eval.proofs.Elements.{contains_first, contains_later, contains_cases, contains_none}
use Rattle.op_eval.specs.Turns.{TakingCall, Took, Tried, TakesNumber}
use Rattle.op_eval.proofs.Turns.{times_one}
use Rattle.abort_lazy.specs.Transactions.{TxnDoes, counted_all}
use Rattle.abort_lazy.specs.Sweeps.{left_of, HasTriedOne, IsSweeping, IsThrough, Swept, tried_by, taken_by, weight_at}
use Rattle.abort_lazy.proofs.Trying.{calls_lone}

pub times_taking : (c n : ℕ) (v : View) → times c (taking c n v).places ≡ times c v.places + 1
times_taking c n v = sum_by-append (of_counter c one) v.places (place c n ∷ []) ∙ ap (λ k. times c v.places + k) (times_one c n)

took_now : (c : ℕ) (events : List ℕ) (weight : ℕ → ℕ) (n : ℕ) (cs : List TakingCall)
    → sum_by (taken_by c (weight_at events weight)) (Took c n ∷ cs) ≡ weight_at events weight n + sum_by (taken_by c (weight_at events weight)) cs
took_now c events weight n cs =
    sum_by-cons (taken_by c (weight_at events weight)) (Took c n) cs
    ∙ ap (λ k. k + sum_by (taken_by c (weight_at events weight)) cs) (cond-true (eqb c c) (weight_at events weight n) 0 (eq-eqb c c refl))

-- the numbers of a list, in whatever order
reversed_low : (many : ℕ) (xs : List ℕ) → All (λ n. n < many) xs → (n : ℕ) → Contains (reverse xs) n → n < many
reversed_low many xs all n found =
    let len = length-reverse xs in
    let less = found.1 in
    let lt : found.0 < length xs = omega (arith, len, less) in
    subst (λ k. k < many) (sym (get_or-reverse xs found.0 n lt) ∙ found.2) (all (length xs - 1 - found.0) n (omega (arith, lt)))

-- an event was tried after its runner had waited for its sources
pub waited_tried : (p : Plan) (i : ℕ) (a m b : Runner) → hand_view m ≡ hand_view a → m.answers ≡ a.answers → m.kept ≡ a.kept → HasTriedOne p i m b → HasTriedOne p i a b
waited_tried p i a m b view answers kept tried = record {
  answer = tried.answer;
  does = subst (λ (v : View). TxnDoes p i v (hand_view b) tried.answer) view tried.does;
  evaluations = tried.evaluations;
  few = tried.few;
  counts = tried.counts ∙ ap (counted_all tried.evaluations) answers;
  kept = tried.kept ∙ ap (λ l. l.items ++ left_of i tried.answer) kept;
  room = subst (λ n. n ≤ b.kept.room + 1) (ap (λ l. l.room) kept) tried.room;
}

-- who took nothing
pub swept_none : (p : Plan) (c : ℕ) (events : List ℕ) (a : Runner) → Unused c a → Swept p c events a a
swept_none p c events a unused = record {
  calls = [];
  made = refl;
  only = λ k n found. absurd (contains_none (Took k n) found);
  tried = λ n found lt. absurd (contains_none (Took c n) found);
  inside = λ i found. absurd (contains_none (Tried i) found);
  turns = λ weight. refl;
  room = omega arith;
  whole = λ lone n below. absurd (omega (arith, below, unused));
}

-- ---- a runner in the middle of a part

number_is : (k c q n : ℕ) → Took k q ≡ Took c n → (k ≡ c) × (q ≡ n)
number_is k c q n e = (cc, cc)

tried_apart : (i c n : ℕ) → Tried i ≡ Took c n → ⊥
tried_apart i c n e = cc

took_apart : (k q i : ℕ) → Took k q ≡ Tried i → ⊥
took_apart k q i e = cc

tried_is : (k i : ℕ) → Tried k ≡ Tried i → k ≡ i
tried_is k i e = cc

module _ (p : Plan) (c : ℕ) (events : List ℕ) (a : Runner) where
  pub sweeping_none : Unused c a → IsSweeping p c events 0 0 [] a a
  sweeping_none unused = record {
    calls = [];
    made = refl;
    only = λ k n found. absurd (contains_none (Took k n) found);
    tried = λ n found lt. absurd (contains_none (Took c n) found);
    inside = λ i found. absurd (contains_none (Tried i) found);
    pending = λ n found. absurd (contains_none n found);
    turns = λ weight. refl;
    count = unused;
    last = inl refl;
    risen = omega arith;
    room = omega arith;
    alone = λ lone. refl;
    whole = λ lone n below. absurd (omega (arith, below));
  }

  module _ (taken next n : ℕ) (rest : List ℕ) (m r : Runner) (sweeping : IsSweeping p c events taken next rest a m) (took : TakesNumber c n m r) where
    above : next ≤ n
    above =
        elim sweeping.last [
          | inl none ↦ omega arith
          | inr last ↦ let rises = took.takes.rises (place c last.0) last.1 refl in let high = last.2 in omega arith
        ]

    turned : times c (hand_view r).places ≡ taken + 1
    turned = ap (λ (v : View). times c v.places) took.view ∙ times_taking c n (hand_view m) ∙ ap (λ k. k + 1) sweeping.count

    got : Contains (hand_view r).places (place c n)
    got = subst (λ (v : View). Contains v.places (place c n)) (sym took.view) (Contains-append_right (hand_view m).places (place c n ∷ []) (place c n) (contains_first (place c n) []))

    only_now : (k q : ℕ) → Contains (Took c n ∷ sweeping.calls) (Took k q) → k ≡ c
    only_now k q found = elim (contains_cases (Took c n) sweeping.calls (Took k q) found) [ inl same ↦ (number_is k c q n same).0 | inr later ↦ sweeping.only k q later ]

    inside_now : (i : ℕ) → Contains (Took c n ∷ sweeping.calls) (Tried i) → (q : ℕ) × (q < length events) × (slice_index_or events q 0 ≡ i) × Contains (Took c n ∷ sweeping.calls) (Took c q)
    inside_now i found =
        elim (contains_cases (Took c n) sweeping.calls (Tried i) found) [
          | inl same ↦ absurd (tried_apart i c n same)
          | inr later ↦ let is = sweeping.inside i later in (is.0, is.1, is.2, contains_later (Took c n) sweeping.calls (Took c is.0) is.3)
        ]

    -- a lone root took the numbers from 0 on
    in_turn : IsLone (hand_view a) → n ≡ taken
    in_turn lone = took.takes.lone (calls_lone p sweeping.calls a m sweeping.made lone) ∙ sweeping.count

    whole_now : IsLone (hand_view a) → (q : ℕ) → q < taken + 1 → Contains (Took c n ∷ sweeping.calls) (Took c q)
    whole_now lone q below =
        elim (cases_eq q taken) [
          | inl same ↦ subst (λ k. Contains (Took c n ∷ sweeping.calls) (Took c k)) (in_turn lone ∙ sym same) (contains_first (Took c n) sweeping.calls)
          | inr other ↦ contains_later (Took c n) sweeping.calls (Took c q) (sweeping.whole lone q (omega (arith, below, other)))
        ]

    kept_room : r.kept.room ≡ m.kept.room
    kept_room = ap (λ l. l.room) took.kept

    -- a number that names an event is still to be tried
    took_one : n < length events → IsSweeping p c events (taken + 1) (n + 1) (rest ++ n ∷ []) a r
    took_one lt = record {
      calls = Took c n ∷ sweeping.calls;
      made = (m, sweeping.made, took);
      only = only_now;
      tried = λ q found less.
          elim (contains_cases (Took c n) sweeping.calls (Took c q) found) [
            | inl same ↦ inl (subst (λ k. Contains (rest ++ n ∷ []) k) (sym (number_is c c q n same).1) (Contains-append_right rest (n ∷ []) n (contains_first n [])))
            | inr later ↦
                elim (sweeping.tried q later less) [
                  | inl waits ↦ inl (Contains-append_left rest (n ∷ []) q waits)
                  | inr there ↦ inr (contains_later (Took c n) sweeping.calls (Tried (slice_index_or events q 0)) there)
                ]
          ];
      inside = inside_now;
      pending = λ q found.
          elim (Contains-append_cases rest (n ∷ []) q found) [
            | inl old ↦ contains_later (Took c n) sweeping.calls (Took c q) (sweeping.pending q old)
            | inr new ↦
                elim (contains_cases n [] q new) [
                  | inl same ↦ subst (λ k. Contains (Took c n ∷ sweeping.calls) (Took c k)) (sym same) (contains_first (Took c n) sweeping.calls)
                  | inr none ↦ absurd (contains_none q none)
                ]
          ];
      turns = λ weight.
          let old = sweeping.turns weight in
          let tried = sum_by-cons (tried_by weight) (Took c n) sweeping.calls in
          let waits = sum_by_push (weight_at events weight) rest n in
          let now = took_now c events weight n sweeping.calls in
          omega (arith, old, tried, waits, now);
      count = turned;
      last = inr (n, got, refl);
      risen = let low = above in let risen = sweeping.risen in omega (arith, low, risen);
      room =
          let more = length-append rest (n ∷ []) in
          let low = above in
          let risen = sweeping.risen in
          let room = sweeping.room in
          let same = kept_room in
          omega (arith, more, low, risen, room, same, lt);
      alone = λ lone. ap (λ k. k + 1) (in_turn lone);
      whole = whole_now;
    }

    -- a number past the last event
    took_past : length events ≤ n → IsSweeping p c events (taken + 1) (n + 1) rest a r
    took_past past = record {
      calls = Took c n ∷ sweeping.calls;
      made = (m, sweeping.made, took);
      only = only_now;
      tried = λ q found less.
          elim (contains_cases (Took c n) sweeping.calls (Took c q) found) [
            | inl same ↦ let e = (number_is c c q n same).1 in absurd (omega (arith, e, less, past))
            | inr later ↦
                elim (sweeping.tried q later less) [
                  | inl waits ↦ inl waits
                  | inr there ↦ inr (contains_later (Took c n) sweeping.calls (Tried (slice_index_or events q 0)) there)
                ]
          ];
      inside = inside_now;
      pending = λ q found. contains_later (Took c n) sweeping.calls (Took c q) (sweeping.pending q found);
      turns = λ weight.
          let none : weight_at events weight n ≡ 0 = cond-false (nat_lt n (length events)) (weight (get_or events n 0)) 0 (le-ltb n (length events) past) in
          let old = sweeping.turns weight in
          let tried = sum_by-cons (tried_by weight) (Took c n) sweeping.calls in
          let now = took_now c events weight n sweeping.calls in
          omega (arith, none, old, tried, now);
      count = turned;
      last = inr (n, got, refl);
      risen = let low = above in let risen = sweeping.risen in omega (arith, low, risen);
      room = let room = sweeping.room in let same = kept_room in omega (arith, room, same);
      alone = λ lone. ap (λ k. k + 1) (in_turn lone);
      whole = whole_now;
    }

  -- the event of the first number that is still to come is tried
  pub tried_one : (taken next n : ℕ) (rest : List ℕ) (m e : Runner) → IsSweeping p c events taken next (n ∷ rest) a m → n < length events
      → slice_index_or events n 0 < event_count p → HasTriedOne p (slice_index_or events n 0) m e → IsSweeping p c events taken next rest a e
  tried_one taken next n rest m e sweeping lt in_range tries =
      let i : ℕ = slice_index_or events n 0 in
      let does = tries.does in
      let same_places : (hand_view e).places ≡ (hand_view m).places = does.goes.adds.places in
      record {
        calls = Tried i ∷ sweeping.calls;
        made = (m, sweeping.made, (in_range, tries));
        only = λ k q found. elim (contains_cases (Tried i) sweeping.calls (Took k q) found) [ inl same ↦ absurd (took_apart k q i same) | inr later ↦ sweeping.only k q later ];
        tried = λ q found less.
            elim (contains_cases (Tried i) sweeping.calls (Took c q) found) [
              | inl same ↦ absurd (took_apart c q i same)
              | inr later ↦
                  elim (sweeping.tried q later less) [
                    | inl waits ↦
                        elim (contains_cases n rest q waits) [
                          | inl same ↦ inr (subst (λ k. Contains (Tried i ∷ sweeping.calls) (Tried (slice_index_or events k 0))) (sym same) (contains_first (Tried i) sweeping.calls))
                          | inr still ↦ inl still
                        ]
                    | inr there ↦ inr (contains_later (Tried i) sweeping.calls (Tried (slice_index_or events q 0)) there)
                  ]
            ];
        inside = λ k found.
            elim (contains_cases (Tried i) sweeping.calls (Tried k) found) [
              | inl same ↦ (n, lt, sym (tried_is k i same), contains_later (Tried i) sweeping.calls (Took c n) (sweeping.pending n (contains_first n rest)))
              | inr later ↦ let is = sweeping.inside k later in (is.0, is.1, is.2, contains_later (Tried i) sweeping.calls (Took c is.0) is.3)
            ];
        pending = λ q found. contains_later (Tried i) sweeping.calls (Took c q) (sweeping.pending q (contains_later n rest q found));
        turns = λ weight.
            let is : weight_at events weight n ≡ weight i = cond-true (nat_lt n (length events)) (weight (get_or events n 0)) 0 (lt-ltb n (length events) lt) in
            let old = sweeping.turns weight in
            let tried = sum_by-cons (tried_by weight) (Tried i) sweeping.calls in
            let waits = sum_by-cons (weight_at events weight) n rest in
            let took = sum_by-cons (taken_by c (weight_at events weight)) (Tried i) sweeping.calls in
            omega (arith, is, old, tried, waits, took);
        count = ap (times c) same_places ∙ sweeping.count;
        last =
            elim sweeping.last [
              | inl none ↦ inl none
              | inr last ↦ inr (last.0, subst (λ xs. Contains xs (place c last.0)) (sym same_places) last.1, last.2)
            ];
        risen = sweeping.risen;
        room = let room = sweeping.room in let used = tries.room in omega (arith, room, used);
        alone = sweeping.alone;
        whole = λ lone q below. contains_later (Tried i) sweeping.calls (Took c q) (sweeping.whole lone q below);
      }

  -- all numbers of the part were taken, and none is left to be tried
  pub all_swept : (taken next : ℕ) (r : Runner) → IsSweeping p c events taken next [] a r → length events ≤ next → Swept p c events a r × IsThrough c events a r
  all_swept taken next r sweeping past = (
    record {
      calls = sweeping.calls;
      made = sweeping.made;
      only = sweeping.only;
      tried = λ n found lt. elim (sweeping.tried n found lt) [ inl waits ↦ absurd (contains_none n waits) | inr there ↦ there ];
      inside = sweeping.inside;
      turns = λ weight. let turns = sweeping.turns weight in omega (arith, turns);
      room = let room = sweeping.room in omega (arith, room);
      whole = λ lone n below. sweeping.whole lone n (subst (λ k. n < k) sweeping.count below);
    },
    record {
      enough = elim sweeping.last [ inl none ↦ inl (omega (arith, none, past)) | inr last ↦ inr (last.0, last.1, (let high = last.2 in omega (arith, high, past))) ];
      alone = λ lone. let count = sweeping.count in let same = sweeping.alone lone in omega (arith, count, same, past);
    },
  )

  -- ---- a burst of numbers

  -- as many numbers as there are in the list, whose last one was taken first
  took_all : (xs : List ℕ) (taken next : ℕ) (m r : Runner) → ((n : ℕ) → Contains xs n → n < length events) → TakesNumbers c xs m r → IsSweeping p c events taken next [] a m
      → (last : ℕ) × IsSweeping p c events (taken + length xs) last (reverse xs) a r
  took_all [] taken next m r low takes sweeping =
      let same : taken + 0 ≡ taken = omega arith in
      (next, subst (λ q. IsSweeping p c events (taken + 0) next [] a q) (sym takes) (subst (λ t. IsSweeping p c events t next [] a m) (sym same) sweeping))
  took_all (x ∷ xs) taken next m r low takes sweeping =
      let before = took_all xs taken next m takes.0 (λ n found. low n (contains_later x xs n found)) takes.1 sweeping in
      let now = took_one (taken + length xs) before.0 x (reverse xs) takes.0 r before.1 takes.2 (low x (contains_first x xs)) in
      let count : taken + length xs + 1 ≡ taken + length (x ∷ xs) = omega arith in
      (x + 1, subst (λ ys. IsSweeping p c events (taken + length (x ∷ xs)) (x + 1) ys a r) (sym (reverse-append (x ∷ []) xs)) (subst (λ t. IsSweeping p c events t (x + 1) (reverse xs ++ x ∷ []) a r) count now))

  module _ (taken next : ℕ) (m : Runner) (sweeping : IsSweeping p c events taken next [] a m) where
    took_numbers : (numbers : List ℕ) (r : Runner) → All (λ n. n < length events) numbers → TakesNumbers c (reverse numbers) m r
        → (last : ℕ) × IsSweeping p c events (taken + length numbers) last numbers a r
    took_numbers numbers r inside takes =
        let all = took_all (reverse numbers) taken next m r (reversed_low (length events) numbers inside) takes sweeping in
        (all.0, subst (λ t. IsSweeping p c events t all.0 numbers a r) (ap (λ k. taken + k) (length-reverse numbers)) (subst (λ ys. IsSweeping p c events (taken + length (reverse numbers)) all.0 ys a r) (reverse-reverse numbers) all.1))

    -- the burst's numbers are still to be tried. If it is over, a number past the last event was taken too
    pub burst_taken : (most : ℕ) (v : BurstView) (r : Runner) → TakesBurst c (length events) most v m r
        → (count : ℕ) × (last : ℕ) × IsSweeping p c events count last v.numbers a r × (v.over ≡ false → count ≡ taken + most) × (v.over ≡ true → length events ≤ last)
    burst_taken most v r took = at v.over refl
      where
        at : (b : Bool) → v.over ≡ b → (count : ℕ) × (last : ℕ) × IsSweeping p c events count last v.numbers a r × (v.over ≡ false → count ≡ taken + most) × (v.over ≡ true → length events ≤ last)
        at false going =
            let all = took_numbers v.numbers r took.inside (subst (λ ps. TakesNumbers c (ps ++ reverse v.numbers) m r) (took.going going).0 took.takes) in
            (taken + length v.numbers, all.0, all.1, (λ e. ap (λ k. taken + k) (took.going going).1), λ over. absurd (false≢true (sym going ∙ over)))
        at true over =
            let past = took.ended over in
            let takes = subst (λ ps. TakesNumbers c (ps ++ reverse v.numbers) m r) past.1 took.takes in
            let all = took_numbers v.numbers takes.0 took.inside takes.1 in (
              taken + length v.numbers + 1,
              past.0 + 1,
              took_past (taken + length v.numbers) all.0 past.0 v.numbers takes.0 r all.1 takes.2 past.2,
              (λ going. absurd (false≢true (sym going ∙ over))),
              λ e. (let high = past.2 in omega (arith, high)),
            )
