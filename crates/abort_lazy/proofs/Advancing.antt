-- One part of a level after another, by one runner.
use Rattle.std.proofs.Common.{◌≡◌, ℕ, ◌+◌, ◌<◌, ◌≤◌, false, eqb, List, [], ◌∷◌, ◌++◌, length, refl, sym, ap, ◌∙◌, subst, inl, inr, arith}
use Rattle.std.specs.Prelude.{Contains, All, sum_by}
use Rattle.std.proofs.lemmas.Bool.{ne_eqb, cond-false}
use Rattle.std.proofs.lemmas.List.Elements.{Contains-append_cases, Contains-append_right, Contains-append_left}
use Rattle.std.proofs.lemmas.List.Sums.{sum_by-append, sum_by-cons}
use Rattle.morph_base.specs.declared.plan.Plan.{Plan}
use Rattle.morph_base.specs.declared.limits.TheConstants.{EVENTS}
use Rattle.morph_base.specs.Graphs.{below, IsGraph}
use Rattle.morph_base.specs.Plans.{IsPlan, event_at, event_count}
use Rattle.op_words.specs.declared.board.Board.{Board}
use Rattle.op_words.specs.Counting.{place}
use Rattle.op_words.specs.Hands.{IsHandOf}
use Rattle.op_words.specs.Views.{IsTrailNoted}
use Rattle.op_words.proofs.Sizes.{sum_above}
use Rattle.op_eval.specs.declared.runner.Runner.{Runner}
use Rattle.op_eval.specs.Running.{hand_view}
use Rattle.op_eval.proofs.Elements.{contains_first, contains_later, contains_none}
use Rattle.op_eval.proofs.Turns.{in_turn_append}
use Rattle.op_eval.specs.Turns.{TakingCall, Took, Tried, IsEnough}
use Rattle.worker_gate.specs.declared.parts.Shares.{Shares}
use Rattle.worker_gate.specs.Parts.{part_counter, part_items}
use Rattle.worker_gate.proofs.Cutting.{part_inside, part_short}
use Rattle.worker_gate.proofs.Ordering.{counter_fits}
use Rattle.abort_lazy.specs.Levels.{FitsLevels}
use Rattle.abort_lazy.specs.Sweeps.{MakesCalls, MakesCall, Swept, FitsBoard, tried_by, taken_by, weight_at}
use Rattle.abort_lazy.specs.Runs.{Rising, HasTriedParts, IsSettlingParts, events_of, parted_event, parted_events, settling_counters}
use Rattle.abort_lazy.proofs.Levelling.{events_inside, events_few}
use Rattle.abort_lazy.proofs.Summing.{below_same, sum_plus, sum_single}
use Rattle.abort_lazy.proofs.Trying.{calls_free, calls_tag, calls_made, calls_room, calls_joined, calls_hold, calls_times, calls_left}

module _ (p : Plan) where
  rising_append : (ds cs : List TakingCall) → Rising p cs → Rising p ds → ((i j : ℕ) → Contains cs (Tried i) → Contains ds (Tried j) → (event_at p i).level ≤ (event_at p j).level) → Rising p (ds ++ cs)
  rising_append [] cs first second above = first
  rising_append (Took c n ∷ ds) cs first second above = rising_append ds cs first second (λ i j low high. above i j low (contains_later (Took c n) ds (Tried j) high))
  rising_append (Tried k ∷ ds) cs first second above = (
    λ i found.
        elim (Contains-append_cases ds cs (Tried i) found) [
          | inl now ↦ second.0 i now
          | inr before ↦ above i k before (contains_first (Tried k) ds)
        ],
    rising_append ds cs first second.1 (λ i j low high. above i j low (contains_later (Tried k) ds (Tried j) high)),
  )

  -- all of one level
  rising_level : (level : ℕ) (cs : List TakingCall) → ((i : ℕ) → Contains cs (Tried i) → (event_at p i).level ≡ level) → Rising p cs
  rising_level level [] all = tt
  rising_level level (Took c n ∷ cs) all = rising_level level cs (λ i found. all i (contains_later (Took c n) cs (Tried i) found))
  rising_level level (Tried k ∷ cs) all = (
    λ i found.
        let low = all i (contains_later (Tried k) cs (Tried i) found) in
        let high = all k (contains_first (Tried k) cs) in
        omega arith,
    rising_level level cs (λ i found. all i (contains_later (Tried k) cs (Tried i) found)),
  )

-- no number was taken from the counter
took_none : (c : ℕ) (weight : ℕ → ℕ) (cs : List TakingCall) → ((n : ℕ) → Contains cs (Took c n) → ⊥) → sum_by (taken_by c weight) cs ≡ 0
took_none c weight [] none = refl
took_none c weight (Took k n ∷ cs) none =
    let rest = took_none c weight cs (λ m found. none m (contains_later (Took k n) cs (Took c m) found)) in
    let first = sum_by-cons (taken_by c weight) (Took k n) cs in
    let other : eqb k c ≡ false = ne_eqb k c (λ same. none n (subst (λ j. Contains (Took k n ∷ cs) (Took j n)) same (contains_first (Took k n) cs))) in
    let here = cond-false (eqb k c) (weight n) 0 other in
    omega (arith, rest, first, here)
took_none c weight (Tried i ∷ cs) none =
    let rest = took_none c weight cs (λ m found. none m (contains_later (Tried i) cs (Took c m) found)) in
    let first = sum_by-cons (taken_by c weight) (Tried i) cs in
    omega (arith, rest, first)

-- nothing was tried yet
pub tried_none : (p : Plan) (from parts level : ℕ) (Done : ℕ → Type 0) (a : Runner) → HasTriedParts p from parts level Done a a
tried_none p from parts level Done a = record {
  calls = [];
  made = refl;
  turns = λ weight. sym (sum_above (λ k. 0) (settling_counters p) (λ k lt. refl));
  rising = tt;
  below = λ i found. absurd (contains_none (Tried i) found);
  only = λ c n found. absurd (contains_none (Took c n) found);
  tried = λ k n found lt. absurd (contains_none (Took (from + k) n) found);
  inside = λ i found. absurd (contains_none (Tried i) found);
  left = λ x empty found. absurd (contains_none x (subst (λ zs. Contains zs x) empty found));
}

module _ (b : Board) (p : Plan) (from parts : ℕ) where
  -- a runner that is about to go on, as one that begins
  pub settling_again : (level : ℕ) (Done : ℕ → Type 0) (room_for : ℕ) (a r : Runner) → IsSettlingParts b p from parts level Done room_for a r → IsSettlingParts b p from parts level Done room_for r r
  settling_again level Done room_for a r old = record {
    tried = tried_none p from parts level Done r;
    hand = old.hand;
    free = old.free;
    unused = old.unused;
    room = old.room;
    tag = refl;
    made = refl;
    journal_room = refl;
    joined = refl;
  }

  -- more counters are done, or less is to come
  pub settling_wider : (level high : ℕ) (Done More : ℕ → Type 0) (room_for less : ℕ) → level ≤ high → ((k : ℕ) → Done k → More k) → less ≤ room_for → (a r : Runner)
      → IsSettlingParts b p from parts level Done room_for a r → IsSettlingParts b p from parts high More less a r
  settling_wider level high Done More room_for less le within fewer a r old = record {
    tried = record {
      calls = old.tried.calls;
      made = old.tried.made;
      turns = old.tried.turns;
      rising = old.tried.rising;
      below = λ i found. let low = old.tried.below i found in omega (arith, low, le);
      only = λ c n found. let is = old.tried.only c n found in (is.0, within is.0 is.1, is.2);
      tried = old.tried.tried;
      inside = λ i found. let is = old.tried.inside i found in (is.0, is.1, within is.0 is.2, is.3, is.4, is.5);
      left = old.tried.left;
    };
    hand = old.hand;
    free = old.free;
    unused = λ k none. old.unused k (λ done. none (within k done));
    room = let room = old.room in omega (arith, room, fewer);
    tag = old.tag;
    made = old.made;
    journal_room = old.journal_room;
    joined = old.joined;
  }

module _ (p : Plan) (valid : IsPlan p) (graph : IsGraph p) (from parts level : ℕ) (Done More : ℕ → Type 0) (within : (k : ℕ) → Done k → More k) (counter : ℕ) (lt : counter < settling_counters p) (here_done : More counter)
    (a m b : Runner) (noted : IsTrailNoted (hand_view a)) (before : HasTriedParts p from parts level Done a m) (swept : Swept p (from + counter) (parted_events p parts counter) m b)
    (now : (i : ℕ) → Contains swept.calls (Tried i) → (event_at p i).level ≡ level) where
  in_new : (x : TakingCall) → Contains swept.calls x → Contains (swept.calls ++ before.calls) x
  in_new x found = Contains-append_left swept.calls before.calls x found

  in_old : (x : TakingCall) → Contains before.calls x → Contains (swept.calls ++ before.calls) x
  in_old x found = Contains-append_right swept.calls before.calls x found

  made_all : MakesCalls p (swept.calls ++ before.calls) a b
  made_all = in_turn_append (MakesCall p) swept.calls before.calls a m b before.made swept.made

  rising_all : Rising p (swept.calls ++ before.calls)
  rising_all =
      rising_append p swept.calls before.calls before.rising (rising_level p level swept.calls now)
      (λ i j low high. let l = before.below i low in let h = now j high in omega (arith, l, h))

  turns_all : (weight : ℕ → ℕ)
      → sum_by (tried_by weight) (swept.calls ++ before.calls)
      ≡ sum_by (λ k. sum_by (taken_by (from + k) (weight_at (parted_events p parts k) weight)) (swept.calls ++ before.calls)) (below (settling_counters p))
  turns_all weight =
      let tried = sum_by-append (tried_by weight) swept.calls before.calls in
      let new = swept.turns weight in
      let old = before.turns weight in
      let each =
      below_same (λ k. sum_by (of_counter k) (swept.calls ++ before.calls)) (λ k. sum_by (of_counter k) swept.calls + sum_by (of_counter k) before.calls) (settling_counters p)
      (λ k less. sum_by-append (of_counter k) swept.calls before.calls) in
      let both = sum_plus (λ k. sum_by (of_counter k) swept.calls) (λ k. sum_by (of_counter k) before.calls) (below (settling_counters p)) in
      let single =
      sum_single (λ k. sum_by (of_counter k) swept.calls) counter (settling_counters p) lt
      (λ k less other. took_none (from + k) (weight_at (parted_events p parts k) weight) swept.calls (λ n found. let is = swept.only (from + k) n found in other (omega (arith, is)))) in
      omega (arith, tried, new, old, each, both, single)
    where
      of_counter : ℕ → TakingCall → ℕ
      of_counter k = taken_by (from + k) (weight_at (parted_events p parts k) weight)

  -- a part more
  pub tried_more : HasTriedParts p from parts level More a b
  tried_more = record {
    calls = swept.calls ++ before.calls;
    made = made_all;
    turns = turns_all;
    rising = rising_all;
    below = λ i found.
        elim (Contains-append_cases swept.calls before.calls (Tried i) found) [
          | inl here ↦ let h = now i here in omega (arith, h)
          | inr old ↦ before.below i old
        ];
    only = λ c n found.
        elim (Contains-append_cases swept.calls before.calls (Took c n) found) [
          | inl here ↦ (counter, here_done, swept.only c n here)
          | inr old ↦ let is = before.only c n old in (is.0, within is.0 is.1, is.2)
        ];
    tried = λ k n found less.
        elim (Contains-append_cases swept.calls before.calls (Took (from + k) n) found) [
          | inl here ↦
              let is = swept.only (from + k) n here in
              let same : k ≡ counter = omega (arith, is) in
              in_new (Tried (parted_event p parts k n)) (subst (λ j. Contains swept.calls (Tried (parted_event p parts j n))) (sym same)
              (swept.tried n (subst (λ j. Contains swept.calls (Took j n)) is here) (subst (λ j. n < length (parted_events p parts j)) same less)))
          | inr old ↦ in_old (Tried (parted_event p parts k n)) (before.tried k n old less)
        ];
    inside = λ i found.
        elim (Contains-append_cases swept.calls before.calls (Tried i) found) [
          | inl here ↦ let is = swept.inside i here in (counter, is.0, here_done, is.1, is.2, in_new (Took (from + counter) is.0) is.3)
          | inr old ↦ let is = before.inside i old in (is.0, is.1, within is.0 is.2, is.3, is.4, in_old (Took (from + is.0) is.1) is.5)
        ];
    left = λ x empty found. calls_left p valid graph (swept.calls ++ before.calls) a b noted empty rising_all made_all x found;
  }

  pub settling_more : (board : Board) (room_for less : ℕ) → less + length (parted_events p parts counter) ≤ room_for → IsHandOf board b.hand
      → IsSettlingParts board p from parts level Done room_for a m → IsSettlingParts board p from parts level More less a b
  settling_more board room_for less fits hand old = record {
    tried = tried_more;
    hand = hand;
    free = calls_free p swept.calls m b swept.made old.free;
    unused = λ k none.
        calls_times p (from + k) (from + counter) (λ same. none (subst More (omega (arith, same)) here_done)) swept.calls m b swept.only swept.made ∙ old.unused k (λ done. none (within k done));
    room = let had = old.room in let used = swept.room in omega (arith, fits, had, used);
    tag = calls_tag p swept.calls m b swept.made ∙ old.tag;
    made = calls_made p swept.calls m b swept.made ∙ old.made;
    journal_room = calls_room p swept.calls m b swept.made ∙ old.journal_room;
    joined = calls_joined p swept.calls m b swept.made ∙ old.joined;
  }

-- ---- before a part is begun

pub fits_part : (b : Board) (p : Plan) (from : ℕ) (s : Shares) → FitsLevels b p from s → (level part : ℕ) → level < length p.event_levels.items → part < s.parts → (events : List ℕ)
    → events ≡ part_items (events_of p level) s.parts part → FitsBoard b p (from + part_counter s.parts level part) events
fits_part b p from s fits level part lt less events same = record {
  plan = fits.plan;
  counter =
      let counters = fits.counters in
      let here = counter_fits s.parts level (length p.event_levels.items) part fits.shares.few lt less in
      omega (arith, counters, here);
  inside = subst (All (λ i. i < event_count p)) (sym same) (part_inside (events_of p level) (λ i. i < event_count p) s.parts part (events_inside p fits.valid.graph level lt));
  few =
      let len = ap length same in
      let short = part_short (events_of p level) s.parts part in
      let few = events_few p fits.valid.graph level lt in
      let most : event_count p ≤ EVENTS = fits.valid.plan.numbering.few in
      omega (arith, len, short, few, most);
}

-- the numbers of its last counter stay the last ones
pub enough_holds : (p : Plan) (c many : ℕ) (calls : List TakingCall) (m b : Runner) → MakesCalls p calls m b → IsEnough c many m → IsEnough c many b
enough_holds p c many calls m b made is =
    elim is [ inl none ↦ inl none | inr last ↦ inr (last.0, calls_hold p calls m b made (place c last.0) last.1, last.2) ]
