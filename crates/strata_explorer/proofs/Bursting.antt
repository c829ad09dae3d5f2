-- Bursts of numbers, and the walks behind them.
use Rattle.std.proofs.Common.{◌≡◌, ℕ, zero, suc, ◌+◌, ◌-◌, ◌<◌, ◌≤◌, ◌⊎◌, Bool, true, false, cond, eqb, List, [], ◌∷◌, ◌++◌, map, reverse, length, refl, sym, ap, ◌∙◌, subst, inl, inr, arith}
use Rattle.std.specs.Prelude.{Contains, All, count_by, slice_index_or, nat_lt}
use Rattle.std.proofs.lemmas.List.{get_or-reverse, length-reverse}
use Rattle.std.proofs.lemmas.List.Elements.{All-append, Contains-append_left, Contains-append_right, Contains-append_cases}
use Rattle.std.proofs.lemmas.List.Sums.{sum_by-append}
use Rattle.op_words.specs.declared.trail.Place.{Place}
use Rattle.op_words.specs.declared.trail.View.{View}
use Rattle.op_words.specs.Counting.{times, place}
use Rattle.op_eval.specs.declared.runner.Runner.{Runner}
use Rattle.op_eval.specs.Bursts.{BurstView, TakesNumbers, TakesBurst}
use Rattle.op_eval.specs.Exploring.{Unused, RunRules}
use Rattle.op_eval.specs.Running.{hand_view}
use Rattle.op_eval.specs.Turns.{TakingCall, Took, Tried, IsEnough, TakesNumber}
use Rattle.op_eval.proofs.Elements.{contains_first, contains_later, contains_cases}
use Rattle.op_eval.proofs.Turns.{in_turn_append, times_one}
use Rattle.abort_eager.specs.Sweeps.{Attempts}
use Rattle.abort_eager.specs.Walks.{WalksUnit}
use Rattle.strata_explorer.specs.Calls.{MakesPassCalls, MakesPassCall}
use Rattle.strata_explorer.specs.Passes.{is_tried, names, Worked, IsWorking}
use Rattle.strata_explorer.specs.Walks.{WalksNumbers, WalksAll}
use Rattle.strata_explorer.proofs.Turning.{walked_calls, count_first, no_take, tried_places, tried_names, one_tried}

-- ---- lists that are turned round

all_reverse : (P : ℕ → Type 0) (xs : List ℕ) → All P xs → All P (reverse xs)
all_reverse P xs all k d lt =
    let many : length (reverse xs) ≡ length xs = length-reverse xs in
    let less : k < length xs = omega arith in
    subst P (sym (get_or-reverse xs k d less)) (all (length xs - 1 - k) d (omega arith))

contains_reverse : (xs : List ℕ) (x : ℕ) → Contains (reverse xs) x → Contains xs x
contains_reverse xs x found =
    let many : length (reverse xs) ≡ length xs = length-reverse xs in
    let lt : found.0 < length (reverse xs) = found.1 in
    let less : found.0 < length xs = omega arith in
    (length xs - 1 - found.0, omega arith, sym (get_or-reverse xs found.0 x less) ∙ found.2)

-- ---- numbers that are taken one after another

module _ (c many : ℕ) where
  -- as many numbers were taken from the counter as turns, each below the limit
  pub record HasTaken (turn : ℕ) (r : Runner) : Type 0 where
    pub turns : times c (hand_view r).places ≡ turn
    pub last : (turn ≡ 0) ⊎ ((n : ℕ) × Contains (hand_view r).places (place c n) × (turn ≤ n + 1) × (n < many))

  pub got : (n : ℕ) (m b : Runner) → TakesNumber c n m b → Contains (hand_view b).places (place c n)
  got n m b takes = subst (λ (v : View). Contains v.places (place c n)) (sym takes.view) (Contains-append_right (hand_view m).places (place c n ∷ []) (place c n) (contains_first (place c n) []))

  above : (turn n : ℕ) (m b : Runner) → HasTaken turn m → TakesNumber c n m b → turn ≤ n
  above turn n m b taken takes =
      elim taken.last [
        | inl none ↦ omega arith
        | inr last ↦ let rises = takes.takes.rises (place c last.0) last.1 refl in let high = last.2 in omega arith
      ]

  taken_one : (turn n : ℕ) (m b : Runner) → HasTaken turn m → TakesNumber c n m b → n < many → HasTaken (turn + 1) b
  taken_one turn n m b taken takes lt = record {
    turns =
        ap (λ (v : View). times c v.places) takes.view
        ∙ sum_by-append (λ (x : Place). cond (eqb x.counter c) 1 0) (hand_view m).places (place c n ∷ [])
        ∙ ap (λ k. k + times c (place c n ∷ [])) taken.turns
        ∙ ap (λ k. turn + k) (times_one c n);
    last = inr (n, got n m b takes, (let most = above turn n m b taken takes in omega arith), lt);
  }

  pub taken_all : (ns : List ℕ) (turn : ℕ) (m b : Runner) → All (λ n. n < many) ns → HasTaken turn m → TakesNumbers c ns m b → HasTaken (turn + length ns) b
  taken_all [] turn m b inside taken same = subst (λ r. HasTaken (turn + 0) r) (sym same) (subst (λ k. HasTaken k m) (none turn) taken)
    where
      none : (k : ℕ) → k ≡ k + 0
      none k = omega arith
  taken_all (n ∷ ns) turn m b inside taken takes =
      subst (λ k. HasTaken k b) (more turn (length ns))
      (taken_one (turn + length ns) n takes.0 b (taken_all ns turn m takes.0 (λ k d lt. inside (suc k) d (omega arith)) taken takes.1) takes.2 (inside zero n (omega arith)))
    where
      more : (j k : ℕ) → j + k + 1 ≡ j + suc k
      more j k = omega arith

-- a hand that takes numbers holds what it held before
pub takes_claim : (c : ℕ) (ns : List ℕ) (a b : Runner) → TakesNumbers c ns a b → (hand_view b).claim ≡ (hand_view a).claim
takes_claim c [] a b same = ap (λ r. (hand_view r).claim) same
takes_claim c (n ∷ ns) a b takes = ap (λ (v : View). v.claim) takes.2.view ∙ takes_claim c ns a takes.0 takes.1

-- ---- the calls of numbers

abbrev took : ℕ → List ℕ → List TakingCall
took c = map (Took c)

took_made : (rules : RunRules) (c : ℕ) (ns : List ℕ) (a b : Runner) → TakesNumbers c ns a b → MakesPassCalls rules (took c ns) a b
took_made rules c [] a b same = same
took_made rules c (n ∷ ns) a b takes = (takes.0, took_made rules c ns a takes.0 takes.1, takes.2)

number_of : (c k q n : ℕ) → Took k q ≡ Took c n → (k ≡ c) × (q ≡ n)
number_of c k q n e = (cc, cc)

took_is : (c : ℕ) (ns : List ℕ) (k q : ℕ) → Contains (took c ns) (Took k q) → (k ≡ c) × Contains ns q
took_is c [] k q found = absurd (omega (arith, found.1))
took_is c (n ∷ ns) k q found =
    elim (contains_cases (Took c n) (took c ns) (Took k q) found) [
      | inl same ↦ let is = number_of c k q n same in (is.0, subst (Contains (n ∷ ns)) (sym is.1) (contains_first n ns))
      | inr later ↦ let is = took_is c ns k q later in (is.0, contains_later n ns q is.1)
    ]

-- those that name operations are at most all of them, and none of those past the last place
took_few : (c len : ℕ) (past ns : List ℕ) → ((n : ℕ) → Contains past n → len ≤ n) → count_by (names len) (took c (past ++ ns)) ≤ length ns
took_few c len [] [] high = omega arith
took_few c len [] (n ∷ ns) high =
    let rest = took_few c len [] ns (λ k found. absurd (omega (arith, found.1))) in
    subst (λ k. k ≤ suc (length ns)) (sym (count_first (names len) (Took c n) (took c ns))) (one (nat_lt n len) rest)
  where
    one : (t : Bool) → count_by (names len) (took c ns) ≤ length ns → (0 + cond t 1 0) + count_by (names len) (took c ns) ≤ suc (length ns)
    one true le = omega arith
    one false le = omega arith
took_few c len (x ∷ past) ns high =
    let rest = took_few c len past ns (λ k found. high k (contains_later x past k found)) in
    let e : count_by (names len) (took c (x ∷ past ++ ns)) ≡ (0 + cond (nat_lt x len) 1 0) + count_by (names len) (took c (past ++ ns)) = count_first (names len) (Took c x) (took c (past ++ ns)) in
    let none : (0 + cond (nat_lt x len) 1 0) + count_by (names len) (took c (past ++ ns)) ≡ (0 + cond false 1 0) + count_by (names len) (took c (past ++ ns)) = ap (λ t. (0 + cond t 1 0) + count_by (names len) (took c (past ++ ns))) (not_lt x len (high x (contains_first x past))) in
    omega arith
  where
    not_lt : (j k : ℕ) → k ≤ j → nat_lt j k ≡ false
    not_lt j k le = grind arith

-- ---- the walks of numbers

-- the runner tried operations, those of the numbers among them, and did nothing else
pub record WalkedNumbers (rules : RunRules) (ops ns : List ℕ) (a b : Runner) : Type 0 where
  pub calls : List TakingCall
  pub made : MakesPassCalls rules calls a b
  pub tried : (n : ℕ) → Contains ns n → Contains calls (Tried (slice_index_or ops n 0))
  pub only : All (λ c. is_tried c ≡ true) calls
  pub many : length ns ≤ count_by is_tried calls

pub walked_numbers : (rules : RunRules) (ops ns : List ℕ) (a b : Runner) → WalksNumbers rules ops ns a b → WalkedNumbers rules ops ns a b
walked_numbers rules ops [] a b same = record {
  calls = [];
  made = same;
  tried = λ n found. absurd (omega (arith, found.1));
  only = λ k d lt. absurd (omega arith);
  many = omega arith;
}
walked_numbers rules ops (n ∷ ns) a b walks =
    let here = walked_calls rules (slice_index_or ops n 0) a walks.0 walks.1 in
    let rest = walked_numbers rules ops ns walks.0 b walks.2 in
    record {
      calls = rest.calls ++ here.calls;
      made = in_turn_append (MakesPassCall rules) rest.calls here.calls a walks.0 b here.made rest.made;
      tried = λ q found.
          elim (contains_cases n ns q found) [
            | inl same ↦ Contains-append_right rest.calls here.calls (Tried (slice_index_or ops q 0)) (subst (λ k. Contains here.calls (Tried (slice_index_or ops k 0))) (sym same) here.tried)
            | inr later ↦ Contains-append_left rest.calls here.calls (Tried (slice_index_or ops q 0)) (rest.tried q later)
          ];
      only = All-append (λ c. is_tried c ≡ true) rest.calls here.calls rest.only here.only;
      many =
          let one = one_tried here.calls (slice_index_or ops n 0) here.tried in
          let others = rest.many in
          let all : count_by is_tried (rest.calls ++ here.calls) ≡ count_by is_tried rest.calls + count_by is_tried here.calls = sum_by-append (λ x. cond (is_tried x) 1 0) rest.calls here.calls in
          omega arith;
    }

-- a number more
pub walks_one_more : (rules : RunRules) (ops ns : List ℕ) (n : ℕ) (a m b : Runner) → WalksNumbers rules ops ns a m → WalksUnit (Attempts rules) rules.units (slice_index_or ops n 0) m b → WalksNumbers rules ops (ns ++ n ∷ []) a b
walks_one_more rules ops [] n a m b same walks = (b, subst (λ r. WalksUnit (Attempts rules) rules.units (slice_index_or ops n 0) r b) same walks, refl)
walks_one_more rules ops (k ∷ ns) n a m b first walks = (first.0, first.1, walks_one_more rules ops ns n first.0 m b first.2 walks)

-- ---- a burst

module _ (rules : RunRules) (c : ℕ) (ops : List ℕ) (most : ℕ) (v : BurstView) (a m t b : Runner) (takes : TakesBurst c (length ops) most v m t) (walks : WalksNumbers rules ops v.numbers t b) where
  past_high : (n : ℕ) → Contains takes.past n → length ops ≤ n
  past_high n found = by v.over refl
    where
      by : (over : Bool) → v.over ≡ over → length ops ≤ n
      by true is =
          let end = takes.ended is in
          elim (contains_cases end.0 [] n (subst (λ xs. Contains xs n) end.1 found)) [
            | inl same ↦ let high = end.2 in omega arith
            | inr none ↦ absurd (omega (arith, none.1))
          ]
      by false is = let none = subst (λ xs. Contains xs n) (takes.going is).0 found in absurd (omega (arith, none.1))

  abbrev numbers : List ℕ
  numbers = takes.past ++ reverse v.numbers

  walked : WalkedNumbers rules ops v.numbers t b
  walked = walked_numbers rules ops v.numbers t b walks

  same_places : (hand_view b).places ≡ (hand_view t).places
  same_places = tried_places rules walked.calls t b walked.made walked.only

  module _ (worked : Worked rules c ops a m) where
    abbrev earlier : List TakingCall
    earlier = took c numbers ++ worked.calls

    -- a number that was taken is that of a place before, of the burst, or of no place
    taken_of : (k n : ℕ) → Contains (walked.calls ++ earlier) (Took k n) → ((k ≡ c) × Contains numbers n) ⊎ Contains worked.calls (Took k n)
    taken_of k n found =
        elim (Contains-append_cases walked.calls earlier (Took k n) found) [
          | inl none ↦ absurd (no_take walked.calls walked.only k n none)
          | inr there ↦ elim (Contains-append_cases (took c numbers) worked.calls (Took k n) there) [ inl now ↦ inl (took_is c numbers k n now) | inr before ↦ inr before ]
        ]

    tried_then : (n : ℕ) → Contains (walked.calls ++ earlier) (Took c n) → n < length ops → Contains (walked.calls ++ earlier) (Tried (slice_index_or ops n 0))
    tried_then n found lt =
        elim (taken_of c n found) [
          | inl now ↦
              elim (Contains-append_cases takes.past (reverse v.numbers) n now.1) [
                | inl past ↦ let high = past_high n past in absurd (omega arith)
                | inr inside ↦ Contains-append_left walked.calls earlier (Tried (slice_index_or ops n 0)) (walked.tried n (contains_reverse v.numbers n inside))
              ]
          | inr before ↦
              Contains-append_right walked.calls earlier (Tried (slice_index_or ops n 0))
              (Contains-append_right (took c numbers) worked.calls (Tried (slice_index_or ops n 0)) (worked.tried n before lt))
        ]

    counts : count_by (names (length ops)) (walked.calls ++ earlier) ≤ count_by is_tried (walked.calls ++ earlier)
    counts =
        let few = took_few c (length ops) takes.past (reverse v.numbers) past_high in
        let many : length (reverse v.numbers) ≡ length v.numbers = length-reverse v.numbers in
        let all = walked.many in
        let none : count_by (names (length ops)) walked.calls ≡ 0 = tried_names (length ops) walked.calls walked.only in
        let kept = worked.counted in
        let a : count_by (names (length ops)) (walked.calls ++ earlier) ≡ count_by (names (length ops)) walked.calls + count_by (names (length ops)) earlier = sum_by-append (λ x. cond (names (length ops) x) 1 0) walked.calls earlier in
        let b : count_by (names (length ops)) earlier ≡ count_by (names (length ops)) (took c numbers) + count_by (names (length ops)) worked.calls = sum_by-append (λ x. cond (names (length ops) x) 1 0) (took c numbers) worked.calls in
        let d : count_by is_tried (walked.calls ++ earlier) ≡ count_by is_tried walked.calls + count_by is_tried earlier = sum_by-append (λ x. cond (is_tried x) 1 0) walked.calls earlier in
        let e : count_by is_tried earlier ≡ count_by is_tried (took c numbers) + count_by is_tried worked.calls = sum_by-append (λ x. cond (is_tried x) 1 0) (took c numbers) worked.calls in
        omega arith

    pub burst_worked : Worked rules c ops a b
    burst_worked = record {
      calls = walked.calls ++ earlier;
      made = in_turn_append (MakesPassCall rules) walked.calls earlier a t b (in_turn_append (MakesPassCall rules) (took c numbers) worked.calls a m t worked.made (took_made rules c numbers m t takes.takes)) walked.made;
      only = λ k n found. elim (taken_of k n found) [ inl now ↦ now.0 | inr before ↦ worked.only k n before ];
      tried = tried_then;
      counted = counts;
    }

  -- all numbers name operations
  pub burst_more : (turn : ℕ) → IsWorking rules c ops turn a m → v.over ≡ false → IsWorking rules c ops (turn + length v.numbers) a b
  burst_more turn working going =
      let all : TakesNumbers c (reverse v.numbers) m t = subst (λ past. TakesNumbers c (past ++ reverse v.numbers) m t) (takes.going going).0 takes.takes in
      let taken : HasTaken c (length ops) (turn + length (reverse v.numbers)) t = taken_all c (length ops) (reverse v.numbers) turn m t (all_reverse (λ n. n < length ops) v.numbers takes.inside) (record { turns = working.turns; last = working.last }) all in
      let now : HasTaken c (length ops) (turn + length v.numbers) t = subst (λ n. HasTaken c (length ops) (turn + n) t) (length-reverse v.numbers) taken in
      record {
        worked = burst_worked working.worked;
        turns = ap (times c) same_places ∙ now.turns;
        last = elim now.last [ inl none ↦ inl none | inr last ↦ inr (last.0, subst (λ xs. Contains xs (place c last.0)) (sym same_places) last.1, last.2, last.3) ];
      }

  -- the last number names none
  pub burst_ended : Worked rules c ops a m → v.over ≡ true → Worked rules c ops a b × IsEnough c (length ops) b
  burst_ended worked over =
      let end = takes.ended over in
      let all : TakesNumbers c (end.0 ∷ reverse v.numbers) m t = subst (λ past. TakesNumbers c (past ++ reverse v.numbers) m t) end.1 takes.takes in
      let there = got c (length ops) end.0 all.0 t all.2 in
      let high = end.2 in
      (burst_worked worked, inr (end.0, subst (λ xs. Contains xs (place c end.0)) (sym same_places) there, omega arith))

  pub walks_more : 1 ≤ most → most ≤ 16 → WalksAll rules c ops a m → WalksAll rules c ops a b
  walks_more some few all = record { bursts = v ∷ all.bursts; walks = (m, t, most, all.walks, some, few, takes, walks) }

-- ---- the turns of a worker

module _ (rules : RunRules) (c : ℕ) (ops : List ℕ) (a : Runner) where
  pub working_none : Unused c a → IsWorking rules c ops 0 a a
  working_none unused = record {
    worked = record {
      calls = [];
      made = refl;
      only = λ k n found. absurd (omega (arith, found.1));
      tried = λ n found. absurd (omega (arith, found.1));
      counted = omega arith;
    };
    turns = unused;
    last = inl refl;
  }

  pub walks_none : WalksAll rules c ops a a
  walks_none = record { bursts = []; walks = refl }

  -- there are no more turns than places
  pub few_turns : (turn : ℕ) (b : Runner) → IsWorking rules c ops turn a b → turn ≤ length ops
  few_turns turn b working = elim working.last [ inl none ↦ omega arith | inr last ↦ let most = last.2 in let low = last.3 in omega arith ]

  -- all turns were made
  pub all_turns : (turn : ℕ) (b : Runner) → IsWorking rules c ops turn a b → length ops ≤ turn → IsEnough c (length ops) b
  all_turns turn b working past = elim working.last [ inl none ↦ inl (omega arith) | inr last ↦ inr (last.0, last.1, (let most = last.2 in omega arith)) ]
