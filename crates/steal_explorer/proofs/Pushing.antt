-- Workers only push more, so what lies in the deques at first is among what was pushed in the end.
use Rattle.std.proofs.Common.{◌≡◌, ℕ, suc, ◌+◌, ◌<◌, ◌≤◌, List, [], ◌∷◌, ◌++◌, length, map, refl, sym, ap, ◌∙◌, inl, inr, arith, zero-lt-suc, suc-le-suc}
use Rattle.std.specs.Prelude.{sum_by, slice_index_or}
use Rattle.std.proofs.lemmas.Bool.{cases_lt}
use Rattle.std.proofs.lemmas.List.Sums.{sum_by-cons, sum_by-append}
use Rattle.crossbeam_deque.specs.Handles.{worker_view}
use Rattle.morph_base.specs.Plans.{op_count}
use Rattle.op_eval.specs.declared.runner.Runner.{Runner}
use Rattle.steal_explorer.specs.declared.deques.Deques.{Deques}
use Rattle.steal_explorer.specs.declared.deques.Seat.{Seat}
use Rattle.steal_explorer.specs.declared.exploration.Handed.{Handed}
use Rattle.steal_explorer.specs.declared.find.Found.{Found}
use Rattle.steal_explorer.specs.declared.find.Found.TheVariants.{Item, Nothing, Retry}
use Rattle.steal_explorer.specs.declared.deque_rule.Log.{Log}
use Rattle.steal_explorer.specs.declared.member.Member.{Member}
use Rattle.steal_explorer.specs.Handed.{workers_of, pushed_by, pushed_of, HasTurns}
use Rattle.steal_explorer.specs.HandingOut.{HasHandedOut}
use Rattle.steal_explorer.specs.Members.{Thief}
use Rattle.steal_explorer.specs.Seating.{seat_of}
use Rattle.steal_explorer.specs.Serving.{ServesOn}
use Rattle.steal_explorer.specs.Turns.{After, Turns, HasTakenTurns}
use Rattle.steal_explorer.proofs.Closing.{sum_flat}
use Rattle.op_eval.specs.Exploring.{RunRules}

-- over what a worker pushed, and over what lay in a seat's deque
abbrev pushes : (ℕ → ℕ) → Member → ℕ
pushes h m = sum_by h (pushed_by m)

abbrev laid : (ℕ → ℕ) → Seat → ℕ
laid h s = sum_by h (worker_view s.owner).pushed

module _ (rules : RunRules) (h : ℕ → ℕ) where
  goes_more : (a b : Member) → ServesOn rules a b → pushes h a ≤ pushes h b
  goes_more a b goes =
      let is : pushes h b ≡ sum_by h (pushed_by a ++ goes.pushed) = ap (λ (v : Log). sum_by h v.pushed) goes.puts in
      let both = sum_by-append h (pushed_by a) goes.pushed in
      omega arith

  after_more : (f : Found) (a b : Member) → After rules f a b → pushes h a ≤ pushes h b
  after_more (Item x) a b after =
      elim (cases_lt x (op_count rules.plan)) [
        | inl lt ↦ goes_more a b (after.0 lt).goes
        | inr past ↦ let same : pushes h b ≡ pushes h a = ap (pushes h) (after.1 past) in omega arith
      ]
  after_more Nothing a b after = let same : pushes h b ≡ pushes h a = ap (pushes h) after in omega arith
  after_more Retry a b after = let same : pushes h b ≡ pushes h a = ap (pushes h) after in omega arith

  turns_more : (ts : List Thief) (a : Member) (fs : List Found) (b : Member) → Turns rules ts a fs b → pushes h a ≤ pushes h b
  turns_more ts a [] b made = let same : pushes h b ≡ pushes h a = ap (pushes h) made in omega arith
  turns_more ts a (f ∷ fs) b made =
      let before = turns_more ts a fs made.0 made.1 in
      let found : pushes h made.2.found ≡ pushes h made.0 = ap (sum_by h) made.2.finds.pushed in
      let after = after_more f made.2.found b made.2.after in
      omega arith

  run_more : (ts : List Thief) (a b : Member) → HasTakenTurns rules ts a b → pushes h a ≤ pushes h b
  run_more ts a b run =
      let turns = turns_more ts a run.ran.turns run.stopped run.ran.made in
      let same : pushes h b ≡ pushes h run.stopped = ap (pushes h) run.noted in
      omega arith

  all_more : (ms ns : List Member) → length ns ≡ length ms → ((k : ℕ) (m : Member) → k < length ms → pushes h (slice_index_or ms k m) ≤ pushes h (slice_index_or ns k m)) → sum_by (pushes h) ms ≤ sum_by (pushes h) ns
  all_more [] [] len each = omega arith
  all_more [] (n ∷ ns) len each = absurd (omega arith)
  all_more (m ∷ ms) [] len each = absurd (omega arith)
  all_more (m ∷ ms) (n ∷ ns) len each =
      let here : pushes h m ≤ pushes h n = each 0 m (zero-lt-suc (length ms)) in
      let rest = all_more ms ns (omega arith) (λ k d lt. each (suc k) d (suc-le-suc lt)) in
      let a = sum_by-cons (pushes h) m ms in
      let b = sum_by-cons (pushes h) n ns in
      omega arith

  handed_more : (ts : List Thief) (ms ns : List Member) → HasHandedOut rules ts ms ns → sum_by (pushes h) ms ≤ sum_by (pushes h) ns
  handed_more ts ms ns law =
      all_more ms ns law.len
      (λ k m lt.
      let run = run_more ts (slice_index_or ms k m) (slice_index_or law.returned k m) (law.ran k m lt) in
      let same : pushes h (slice_index_or ns k m) ≡ pushes h (slice_index_or law.returned k m) = ap (sum_by h) (law.pushed k m lt) in
      omega arith)

seats_laid : (h : ℕ → ℕ) (ms : List Member) → sum_by (laid h) (map seat_of ms) ≡ sum_by (pushes h) ms
seats_laid h [] = refl
seats_laid h (m ∷ ms) = sum_by-cons (laid h) (seat_of m) (map seat_of ms) ∙ ap (λ n. pushes h m + n) (seats_laid h ms) ∙ sym (sum_by-cons (pushes h) m ms)

-- whatever items weigh
pub pushed_least : (rules : RunRules) (d : Deques) (rs : List Runner) (handed : Handed) → HasTurns rules d rs handed → (h : ℕ → ℕ) → sum_by (λ (s : Seat). sum_by h (worker_view s.owner).pushed) d.seats.items ≤ sum_by h (pushed_of handed)
pushed_least rules d rs handed turns h =
    let first : sum_by (laid h) d.seats.items ≡ sum_by (pushes h) turns.begun = sym (ap (sum_by (laid h)) turns.seats) ∙ seats_laid h turns.begun in
    let more = handed_more rules h d.thieves.items turns.begun (workers_of handed) turns.handed_out in
    let all : sum_by h (pushed_of handed) ≡ sum_by (pushes h) (workers_of handed) = sum_flat h pushed_by (workers_of handed) in
    omega arith
