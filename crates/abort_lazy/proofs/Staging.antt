-- All levels of events, where each runner goes over them by itself, part by part.
use Rattle.std.proofs.Common.{◌≡◌, ◌⊎◌, ℕ, suc, ◌+◌, ◌-◌, ◌*◌, ◌/◌, ◌%◌, ◌<◌, ◌≤◌, List, length, max, refl, sym, ap, ◌∙◌, subst, inl, inr, arith}
use Rattle.std.specs.Prelude.{All, slice_index_or}
use Rattle.std.proofs.lemmas.Bool.{cases_lt}
use Rattle.morph_base.specs.declared.plan.Plan.{Plan}
use Rattle.morph_base.specs.Plans.{event_at}
use Rattle.op_words.specs.declared.board.Board.{Board}
use Rattle.op_words.specs.Hands.{IsHandOf}
use Rattle.op_words.specs.Views.{IsLone, IsTrailNoted}
use Rattle.op_words.proofs.Sizes.{sum_below}
use Rattle.op_eval.specs.declared.runner.Runner.{Runner}
use Rattle.op_eval.specs.Exploring.{Unused}
use Rattle.op_eval.specs.Running.{hand_view}
use Rattle.op_eval.specs.Turns.{IsEnough}
use Rattle.worker_gate.specs.declared.parts.Shares.{Shares}
use Rattle.worker_gate.specs.Parts.{part_at, part_counter, part_items}
use Rattle.worker_gate.specs.Sharing.{shared_from}
use Rattle.worker_gate.specs.Stages.{InStages}
use Rattle.worker_gate.proofs.Cutting.{one_part}
use Rattle.worker_gate.proofs.Ordering.{at_apart, at_inside, counter_again, counter_apart, counter_fits, counter_inside, counter_next, stage_below, turn_for}
use Rattle.worker_gate.proofs.Stages.{stages_keep, stages_make, stages_rise, stages_single}
use Rattle.abort_lazy.specs.Levels.{FitsLevels, IsAmid, IsCounterPassed, length_at}
use Rattle.abort_lazy.specs.Runs.{AreSettling, HasSettledAlone, IsSettling, WasAtLevel, WasAtTurn, counter_at, events_at, events_of, parted_events, to_come}
use Rattle.abort_lazy.specs.Sweeps.{CanSweep, IsThrough, Swept}
use Rattle.abort_lazy.proofs.Advancing.{enough_holds, settling_more, settling_wider}
use Rattle.abort_lazy.proofs.Alone.{alone_begins, settled_alone}
use Rattle.abort_lazy.proofs.Levelling.{next_room, part_level, parted_level, turns_short}
use Rattle.abort_lazy.proofs.Trying.{calls_times}

module _ (b : Board) (p : Plan) (from : ℕ) (s : Shares) (fits : FitsLevels b p from s) where
  -- ---- a runner amid a level

  module _ (number level : ℕ) (lt : level < length p.event_levels.items) where
    -- no turn was made yet
    pub amid_begins : (a r : Runner) → IsSettling b p from s.parts level a r → IsAmid b p from s number level 0 a r
    amid_begins a r old =
        settling_wider b p from s.parts level (level + 1) (λ k. k < level * s.parts) (IsCounterPassed s number level 0) (to_come p level)
        (to_come p (level + 1) + (length (events_of p level) - length_at p s number level 0)) (omega arith) (λ k less. inl less)
        (let next = next_room p fits.valid.graph level lt in omega (arith, next)) a r old

    -- a turn was made for each part
    pub amid_ends : (a r : Runner) → IsAmid b p from s number level s.parts a r → IsSettling b p from s.parts (level + 1) a r
    amid_ends a r old =
        settling_wider b p from s.parts (level + 1) (level + 1) (IsCounterPassed s number level s.parts) (λ k. k < (level + 1) * s.parts)
        (to_come p (level + 1) + (length (events_of p level) - length_at p s number level s.parts)) (to_come p (level + 1)) (omega arith)
        (λ k passed.
        elim passed [
          | inl lower ↦ let more = row level in omega (arith, lower, more)
          | inr at ↦
              let next = counter_next s.parts level (part_at s number at.0) (at_inside s fits.shares number at.0) in
              let is = at.2 in
              omega (arith, next, is)
        ]) (omega arith) a r old
      where
        row : (l : ℕ) → (l + 1) * s.parts ≡ l * s.parts + s.parts
        row l = grind arith

    module _ (turn : ℕ) (less : turn < s.parts) where
      -- the counter of this turn is that of no turn before
      new_counter : IsCounterPassed s number level turn (counter_at s number level turn) → ⊥
      new_counter passed =
          elim passed [
            | inl lower ↦ absurd (omega (arith, lower))
            | inr at ↦
                let before = at.1 in
                let apart = counter_apart s.parts level (part_at s number turn) level (part_at s number at.0) (at_inside s fits.shares number turn) (at_inside s fits.shares number at.0) at.2 in
                let same = at_apart s fits.shares number turn at.0 less (omega (arith, before, less)) apart.1 in
                absurd (omega (arith, before, same))
          ]

      lengths : length_at p s number level (suc turn) ≡ length_at p s number level turn + length (events_at p s number level turn)
      lengths = sum_below (λ t. length (events_at p s number level t)) turn

      short : length_at p s number level (suc turn) ≤ length (events_of p level)
      short = turns_short s fits.shares number p level (suc turn) (omega (arith, less))

      pub can_turn : (a r : Runner) → IsAmid b p from s number level turn a r → CanSweep b (from + counter_at s number level turn) (events_at p s number level turn) r
      can_turn a r old = record {
        hand = old.hand;
        free = old.free;
        unused = old.unused (counter_at s number level turn) new_counter;
        room = let room = old.room in let more = lengths in let most = short in omega (arith, room, more, most);
      }

      passed_on : (k : ℕ) → IsCounterPassed s number level turn k → IsCounterPassed s number level (suc turn) k
      passed_on k passed = elim passed [ inl lower ↦ inl lower | inr at ↦ inr (at.0, (let before = at.1 in omega (arith, before)), at.2) ]

      turn_swept : (a m r : Runner) → IsTrailNoted (hand_view a) → IsAmid b p from s number level turn a m → IsHandOf b r.hand → Swept p (from + counter_at s number level turn) (events_at p s number level turn) m r
          → IsAmid b p from s number level (suc turn) a r
      turn_swept a m r noted old hand swept =
          settling_more p fits.valid.plan fits.valid.graph from s.parts (level + 1) (IsCounterPassed s number level turn) (IsCounterPassed s number level (suc turn)) passed_on (counter_at s number level turn)
          (counter_fits s.parts level (length p.event_levels.items) (part_at s number turn) fits.shares.few lt inside) (inr (turn, omega arith, refl)) a m r noted old.tried sweeps
          (λ i found. let is = sweeps.inside i found in ap (λ k. (event_at p k).level) (sym is.2) ∙ of_level is.0 is.1) b
          (to_come p (level + 1) + (length (events_of p level) - length_at p s number level turn)) (to_come p (level + 1) + (length (events_of p level) - length_at p s number level (suc turn)))
          (let same = ap length parted in let more = lengths in let most = short in omega (arith, same, more, most)) hand old
        where
          inside : part_at s number turn < s.parts
          inside = at_inside s fits.shares number turn

          parted : parted_events p s.parts (counter_at s number level turn) ≡ events_at p s number level turn
          parted = parted_level p s.parts level (part_at s number turn) inside

          sweeps : Swept p (from + counter_at s number level turn) (parted_events p s.parts (counter_at s number level turn)) m r
          sweeps = subst (λ events. Swept p (from + counter_at s number level turn) events m r) (sym parted) swept

          of_level : (n : ℕ) → n < length (parted_events p s.parts (counter_at s number level turn)) → (event_at p (slice_index_or (parted_events p s.parts (counter_at s number level turn)) n 0)).level ≡ level + 1
          of_level =
              subst (λ (events : List ℕ). (n : ℕ) → n < length events → (event_at p (slice_index_or events n 0)).level ≡ level + 1) (sym parted)
              (λ n under. part_level p fits.valid.graph s.parts level (part_at s number turn) n lt under)

      -- whether the runner went over the part or passed over it
      pub turn_on : (a m r : Runner) → IsTrailNoted (hand_view a) → IsAmid b p from s number level turn a m → WasAtTurn b p from s number level turn m r → IsAmid b p from s number level (suc turn) a r
      turn_on a m r noted old was =
          elim (cases_lt 0 number) [
            | inr first ↦ turn_swept a m r noted old was.hand (was.swept (inl (omega (arith, first)))).0
            | inl above ↦
                elim (cases_lt (length (events_of p level)) shared_from) [
                  | inl few ↦
                      subst (IsAmid b p from s number level (suc turn) a) (sym (was.passed above few))
                      (settling_wider b p from s.parts (level + 1) (level + 1) (IsCounterPassed s number level turn) (IsCounterPassed s number level (suc turn))
                      (to_come p (level + 1) + (length (events_of p level) - length_at p s number level turn)) (to_come p (level + 1) + (length (events_of p level) - length_at p s number level (suc turn)))
                      (omega arith) passed_on (let more = lengths in omega (arith, more)) a m old)
                  | inr many ↦ turn_swept a m r noted old was.hand (was.swept (inr many)).0
                ]
          ]

    -- one runner after one level more
    pub level_on : (a m r : Runner) → IsTrailNoted (hand_view a) → IsSettling b p from s.parts level a m → WasAtLevel b p from s number level m r → IsSettling b p from s.parts (level + 1) a r
    level_on a m r noted old was =
        amid_ends a r
        (stages_rise (WasAtTurn b p from s number level) (λ turn. IsAmid b p from s number level turn a) s.parts (λ turn x y less amid did. turn_on turn less a x y noted amid did) m r (amid_begins a m old) was)

  -- all levels
  pub levels_on : (number : ℕ) (a r : Runner) → IsSettling b p from s.parts 0 a a → InStages (WasAtLevel b p from s number) (length p.event_levels.items) a r
      → IsSettling b p from s.parts (length p.event_levels.items) a r
  levels_on number a r ready went =
      stages_rise (WasAtLevel b p from s number) (λ level. IsSettling b p from s.parts level a) (length p.event_levels.items)
      (λ level x y lt old was. subst (λ n. IsSettling b p from s.parts n a y) (next level) (level_on number level lt a x y ready.hand.told.noted old was)) a r ready went
    where
      next : (l : ℕ) → l + 1 ≡ suc l
      next l = omega arith

  -- ---- the counters of the parts

  -- what a turn keeps, if going over its part keeps it
  turn_keeps : (P : Runner → Type 0) (number level turn : ℕ) (m r : Runner)
      → ((number ≡ 0) ⊎ (shared_from ≤ length (events_of p level)) → Swept p (from + counter_at s number level turn) (events_at p s number level turn) m r → P r)
      → P m → WasAtTurn b p from s number level turn m r → P r
  turn_keeps P number level turn m r keeps had was =
      elim (cases_lt 0 number) [
        | inr first ↦ keeps (inl (omega (arith, first))) (was.swept (inl (omega (arith, first)))).0
        | inl above ↦
            elim (cases_lt (length (events_of p level)) shared_from) [
              | inl few ↦ subst P (sym (was.passed above few)) had
              | inr many ↦ keeps (inr many) (was.swept (inr many)).0
            ]
      ]

  -- a worker that goes over the parts of a level sees each of their counters run out
  pub counter_enough : (number level part : ℕ) → level < length p.event_levels.items → part < s.parts → (number ≡ 0) ⊎ (shared_from ≤ length (events_of p level)) → (a r : Runner)
      → InStages (WasAtLevel b p from s number) (length p.event_levels.items) a r → IsEnough (from + part_counter s.parts level part) (length (part_items (events_of p level) s.parts part)) r
  counter_enough number level part lt less takes a r went =
      stages_make (WasAtLevel b p from s number) Enough (length p.event_levels.items) level lt
      (λ x y was.
      stages_make (WasAtTurn b p from s number level) Enough s.parts at.0 at.1
      (λ m e did. let through = (did.swept takes).1 in subst (λ q. IsEnough (from + part_counter s.parts level q) (length (part_items (events_of p level) s.parts q)) e) at.2 through.enough) (turn_holds level) x y was)
      (λ l x y under had was. stages_keep (WasAtTurn b p from s number l) Enough s.parts (turn_holds l) x y had was) a r went
    where
      Enough : Runner → Type 0
      Enough q = IsEnough (from + part_counter s.parts level part) (length (part_items (events_of p level) s.parts part)) q

      at : (turn : ℕ) × (turn < s.parts) × (part_at s number turn ≡ part)
      at = turn_for s fits.shares number part less

      turn_holds : (l turn : ℕ) (x y : Runner) → turn < s.parts → Enough x → WasAtTurn b p from s number l turn x y → Enough y
      turn_holds l turn x y under had did =
          turn_keeps Enough number l turn x y
          (λ part_in swept. enough_holds p (from + part_counter s.parts level part) (length (part_items (events_of p level) s.parts part)) swept.calls x y swept.made had) had did

  -- a worker that passes over a level takes no number from the counters of its parts
  pub counter_unused : (number level part : ℕ) → part < s.parts → 0 < number → length (events_of p level) < shared_from → (a r : Runner) → Unused (from + part_counter s.parts level part) a
      → InStages (WasAtLevel b p from s number) (length p.event_levels.items) a r → Unused (from + part_counter s.parts level part) r
  counter_unused number level part less above few a r unused went =
      stages_keep (WasAtLevel b p from s number) None_taken (length p.event_levels.items) (λ l x y under had was. stages_keep (WasAtTurn b p from s number l) None_taken s.parts (turn_holds l) x y had was) a r unused went
    where
      None_taken : Runner → Type 0
      None_taken q = Unused (from + part_counter s.parts level part) q

      other_level : (l turn : ℕ) → (number ≡ 0) ⊎ (shared_from ≤ length (events_of p l)) → from + part_counter s.parts level part ≡ from + counter_at s number l turn → ⊥
      other_level l turn takes same =
          let apart = counter_apart s.parts level part l (part_at s number turn) less (at_inside s fits.shares number turn) (omega (arith, same)) in
          elim takes [
            | inl first ↦ absurd (omega (arith, first, above))
            | inr many ↦ let len = ap (λ k. length (events_of p k)) apart.0 in absurd (omega (arith, len, many, few))
          ]

      turn_holds : (l turn : ℕ) (x y : Runner) → turn < s.parts → None_taken x → WasAtTurn b p from s number l turn x y → None_taken y
      turn_holds l turn x y under had did =
          turn_keeps None_taken number l turn x y
          (λ takes swept. calls_times p (from + part_counter s.parts level part) (from + counter_at s number l turn) (other_level l turn takes) swept.calls x y swept.only swept.made ∙ had) had did

  -- ---- a lone root

  module _ (single : s.parts ≡ 1) (a : Runner) (lone : IsLone (hand_view a)) (ready : IsSettling b p from s.parts 0 a a) where
    alone_on : (level : ℕ) → level < length p.event_levels.items → (x y : Runner) → IsSettling b p from s.parts level a x × HasSettledAlone p level a x → WasAtLevel b p from s 0 level x y
        → IsSettling b p from s.parts (suc level) a y × HasSettledAlone p (suc level) a y
    alone_on level lt x y old was = (
      subst (λ n. IsSettling b p from s.parts n a y) next (level_on 0 level lt a x y ready.hand.told.noted old.0 was),
      subst (λ n. HasSettledAlone p n a y) next
          (settled_alone p fits.valid.plan fits.valid.graph (from + counter_at s 0 level 0) level a x y lt (record { root = old.0.tag ∙ lone.root; alone = old.0.made ∙ lone.alone }) old.1
          (subst (λ events. Swept p (from + counter_at s 0 level 0) events x y) whole did.0) (subst (λ events. IsThrough (from + counter_at s 0 level 0) events x y) whole did.1)),
    )
      where
        next : level + 1 ≡ suc level
        next = omega arith

        turned : WasAtTurn b p from s 0 level 0 x y
        turned = stages_single (WasAtTurn b p from s 0 level) x y (subst (λ n. InStages (WasAtTurn b p from s 0 level) n x y) single was)

        did : Swept p (from + counter_at s 0 level 0) (events_at p s 0 level 0) x y × IsThrough (from + counter_at s 0 level 0) (events_at p s 0 level 0) x y
        did = turned.swept (inl refl)

        first_part : part_at s 0 0 ≡ 0
        first_part = let low = at_inside s fits.shares 0 0 in omega (arith, low, single)

        whole : events_at p s 0 level 0 ≡ events_of p level
        whole = ap (λ part. part_items (events_of p level) s.parts part) first_part ∙ ap (λ n. part_items (events_of p level) n 0) single ∙ one_part (events_of p level)

    pub levels_alone : (r : Runner) → InStages (WasAtLevel b p from s 0) (length p.event_levels.items) a r → HasSettledAlone p (length p.event_levels.items) a r
    levels_alone r went =
        (stages_rise (WasAtLevel b p from s 0) (λ level x. IsSettling b p from s.parts level a x × HasSettledAlone p level a x) (length p.event_levels.items)
        (λ level x y lt old was. alone_on level lt x y old was) a r (ready, alone_begins p fits.valid.plan fits.valid.graph a) went).1

  -- ---- all runners

  -- what all of them are in the end, by what each of them was by itself
  pub settling_stages : (start rs : List Runner) → 0 < length start → s.parts ≤ max 1 (length start) → All (λ r. IsSettling b p from s.parts 0 r r) start → length rs ≡ length start
      → ((k : ℕ) (d : Runner) → k < length start → InStages (WasAtLevel b p from s k) (length p.event_levels.items) (slice_index_or start k d) (slice_index_or rs k d)) → AreSettling b p from start rs
  settling_stages start rs some most ready len goes = record {
    shares = s;
    are = fits.shares;
    most = most;
    counters = fits.counters;
    len = len;
    each = λ k d lt. levels_on k (slice_index_or start k d) (slice_index_or rs k d) (ready k d (before k lt)) (goes k d (before k lt));
    goes = goes;
    enough = λ k less. (
      0,
      subst (λ n. 0 < n) (sym len) some,
      λ d.
          subst (λ c. IsEnough (from + c) (length (parted_events p s.parts k)) (slice_index_or rs 0 d)) (counter_again s.parts k)
          (counter_enough 0 (k / s.parts) (k % s.parts) (stage_below s.parts k (length p.event_levels.items) fits.shares.some less) (counter_inside s.parts k fits.shares.some) (inl refl) (slice_index_or start 0 d)
          (slice_index_or rs 0 d) (goes 0 d some)),
    );
    first = λ l part lt less few k d above under.
        let one = ready k d (before k under) in
        counter_unused k l part less above few (slice_index_or start k d) (slice_index_or rs k d) (one.unused (part_counter s.parts l part) (λ low. absurd (none_below (part_counter s.parts l part) low))) (goes k d (before k under));
    shared = λ l part lt less many k d under. counter_enough k l part lt less (inr many) (slice_index_or start k d) (slice_index_or rs k d) (goes k d (before k under));
    alone = λ only d lone.
        levels_alone
        (let some = fits.shares.some in let one : max 1 (length start) ≡ 1 = ap (max 1) only in omega (arith, some, most, one)) (slice_index_or start 0 d) lone (ready 0 d some) (slice_index_or rs 0 d)
        (goes 0 d some);
  }
    where
      before : (k : ℕ) → k < length rs → k < length start
      before k lt = subst (λ n. k < n) len lt

      none_below : (k : ℕ) → k < 0 * s.parts → ⊥
      none_below k low = absurd (let none = zero_times s.parts in omega (arith, low, none))
        where
          zero_times : (n : ℕ) → 0 * n ≡ 0
          zero_times n = grind arith
