-- What the root's view has of each runner once they are gathered.
use Rattle.std.proofs.Common.{◌≡◌, ℕ, zero, suc, ◌<◌, List, [], ◌∷◌, length, map, refl, sym, subst, inl, inr, arith}
use Rattle.std.specs.Prelude.{Contains, drop, slice_index_or}
use Rattle.std.proofs.lemmas.List.{length-map, get_or-map}
use Rattle.std.proofs.lemmas.List.Elements.{Contains-append_left, Contains-append_right, Contains-push}
use Rattle.op_words.specs.declared.trail.Item.{Item}
use Rattle.op_words.specs.declared.trail.Joined.{Joined}
use Rattle.op_words.specs.declared.trail.View.{View}
use Rattle.op_words.specs.Closing.{HasTrail}
use Rattle.op_words.specs.Views.{merged, joined_of, IsSettledSeen}
use Rattle.op_eval.specs.declared.runner.Runner.{Runner}
use Rattle.op_eval.specs.Gathering.{gathered}
use Rattle.op_eval.specs.Running.{hand_view}
use Rattle.abort_lazy.specs.Runs.{root_view}
use Rattle.abort_lazy.proofs.Idle.{idled_notes, idled_trail_of}

-- ---- what stays of the root's own

pub gathered_made : (v : View) (ws : List View) → (gathered v ws).made ≡ v.made
unfolding gathered
gathered_made v [] = refl
gathered_made v (w ∷ ws) = gathered_made (merged v w) ws

pub gathered_tag : (v : View) (ws : List View) → (gathered v ws).tag ≡ v.tag
unfolding gathered
gathered_tag v [] = refl
gathered_tag v (w ∷ ws) = gathered_tag (merged v w) ws

pub gathered_room : (v : View) (ws : List View) → (gathered v ws).room ≡ v.room
unfolding gathered
gathered_room v [] = refl
gathered_room v (w ∷ ws) = gathered_room (merged v w) ws

pub gathered_trail : (v : View) (ws : List View) → (gathered v ws).trail ≡ v.trail
unfolding gathered
gathered_trail v [] = refl
gathered_trail v (w ∷ ws) = gathered_trail (merged v w) ws

pub gathered_joined : (v : View) (ws : List View) (x : Joined) → Contains v.joined x → Contains (gathered v ws).joined x
unfolding gathered
gathered_joined v [] x found = found
gathered_joined v (w ∷ ws) x found = gathered_joined (merged v w) ws x (Contains-append_left v.joined (joined_of w ∷ []) x found)

gathered_notes : (v : View) (ws : List View) (t : Item) → Contains v.notes t → Contains (gathered v ws).notes t
unfolding gathered
gathered_notes v [] t found = found
gathered_notes v (w ∷ ws) t found = gathered_notes (merged v w) ws t (Contains-append_left v.notes w.notes t found)

-- ---- what comes of the others

less-from : {k n : ℕ} → suc k < suc n → k < n
less-from lt = omega (arith, lt)

pub gathered_has : (v : View) (ws : List View) (k : ℕ) (d : View) → k < length ws → Contains (gathered v ws).joined (joined_of (slice_index_or ws k d))
unfolding gathered
gathered_has v [] k d lt = absurd (omega (arith, lt))
gathered_has v (w ∷ ws) zero d lt = gathered_joined (merged v w) ws (joined_of w) (Contains-push v.joined (joined_of w))
gathered_has v (w ∷ ws) (suc k) d lt = gathered_has (merged v w) ws k d (less-from lt)

gathered_noted : (v : View) (ws : List View) (k : ℕ) (d : View) (t : Item) → k < length ws → Contains (slice_index_or ws k d).notes t → Contains (gathered v ws).notes t
unfolding gathered
gathered_noted v [] k d t lt found = absurd (omega (arith, lt))
gathered_noted v (w ∷ ws) zero d t lt found = gathered_notes (merged v w) ws t (Contains-append_right v.notes w.notes t found)
gathered_noted v (w ∷ ws) (suc k) d t lt found = gathered_noted (merged v w) ws k d t (less-from lt) found

-- ---- the runners

abbrev gathered_view : Runner → List Runner → View
gathered_view d rs = gathered (hand_view (slice_index_or rs 0 d)) (map hand_view (drop 1 rs))

-- each has its trail there, by its tag
trail_there : (d : Runner) (rs : List Runner) (k : ℕ) → k < length rs → HasTrail (gathered_view d rs) (hand_view (slice_index_or rs k d)).tag (hand_view (slice_index_or rs k d)).trail
trail_there d [] k lt = absurd (omega (arith, lt))
trail_there d (r ∷ rs) zero lt = inl (gathered_tag (hand_view r) (map hand_view rs), gathered_trail (hand_view r) (map hand_view rs))
trail_there d (r ∷ rs) (suc k) lt =
    inr (
      joined_of (hand_view (slice_index_or rs k d)),
      subst (λ w. Contains (gathered_view d (r ∷ rs)).joined (joined_of w)) (get_or-map hand_view rs k d (hand_view d) (less-from lt))
          (gathered_has (hand_view r) (map hand_view rs) k (hand_view d) (subst (λ n. k < n) (sym (length-map rs hand_view)) (less-from lt))),
      refl,
      refl,
    )

pub root_trail : (n : ℕ) (d : Runner) (rs : List Runner) (k : ℕ) → k < length rs → HasTrail (root_view n d rs) (hand_view (slice_index_or rs k d)).tag (hand_view (slice_index_or rs k d)).trail
root_trail n d rs k lt = idled_trail_of n (gathered_view d rs) (trail_there d rs k lt)

-- what one has seen settled
seen_there : (d : Runner) (rs : List Runner) (k : ℕ) → k < length rs → (o : ℕ) → IsSettledSeen (hand_view (slice_index_or rs k d)) o → IsSettledSeen (gathered_view d rs) o
seen_there d [] k lt o seen = absurd (omega (arith, lt))
seen_there d (r ∷ rs) zero lt o seen =
    record { note = seen.note; inside = gathered_notes (hand_view r) (map hand_view rs) seen.note seen.inside; op_is = seen.op_is; settled = seen.settled }
seen_there d (r ∷ rs) (suc k) lt o seen =
    record {
      note = seen.note;
      inside =
          gathered_noted (hand_view r) (map hand_view rs) k (hand_view d) seen.note (subst (λ n. k < n) (sym (length-map rs hand_view)) (less-from lt))
          (subst (λ (w : View). Contains w.notes seen.note) (sym (get_or-map hand_view rs k d (hand_view d) (less-from lt))) seen.inside);
      op_is = seen.op_is;
      settled = seen.settled;
    }

pub root_seen : (n : ℕ) (d : Runner) (rs : List Runner) (k : ℕ) → k < length rs → (o : ℕ) → IsSettledSeen (hand_view (slice_index_or rs k d)) o → IsSettledSeen (root_view n d rs) o
root_seen n d rs k lt o seen =
    let there = seen_there d rs k lt o seen in
    record { note = there.note; inside = idled_notes n (gathered_view d rs) there.note there.inside; op_is = there.op_is; settled = there.settled }
