-- A hand stays one of its board's.
use Rattle.std.proofs.Common.{◌≡◌, ◌≢◌, ℕ, ◌+◌, ◌-◌, ◌^◌, ◌<◌, ◌≤◌, Bool, false, List, [], ◌∷◌, ◌++◌, refl, sym, ap, ◌∙◌, subst, inl, inr, arith, Option, Some, None, zero-add, take, length}
use Rattle.std.specs.Prelude.{cond, min, count_by, All}
use Rattle.std.proofs.lemmas.List.Elements.{All-nil}
use Rattle.morph_base.specs.declared.limits.TheConstants.{MAX}
use Rattle.std.proofs.lemmas.Option.{none-some, same_Some}
use Rattle.std.proofs.lemmas.List.{length-append}
use Rattle.std.proofs.lemmas.List.Sums.{sum_by-append, sum_by-cons}
use Rattle.std.specs.declared.snapshot.Snapshot.{Snapshot}
use Rattle.morph_base.specs.Limits.{most_attempts, most_workers}
use Rattle.morph_base.specs.declared.plan.Plan.{Plan}
use Rattle.morph_base.specs.declared.word.OpWord.{OpWord}
use Rattle.morph_base.specs.Words.{IsWord, packed}
use Rattle.morph_base.proofs.WordLaws.{one_word}
use Rattle.interleaving_core.specs.declared.entry.Held.{Held}
use Rattle.interleaving_core.specs.declared.event.CoreEvent.{CoreEvent}
use Rattle.interleaving_core.specs.declared.event.CoreEvent.TheVariants.{Finish}
use Rattle.interleaving_core.specs.Counts.{is_finish, is_spread, is_roll}
use Rattle.interleaving_core.specs.Core.{blocked, start}
use Rattle.interleaving_core.specs.Steps.{IsWorker}
use Rattle.morph_base.specs.Plans.{IsPlan}
use Rattle.op_words.specs.declared.answers.Counts.{Counts}
use Rattle.op_words.specs.declared.board.Board.{Board}
use Rattle.op_words.specs.declared.board.Hand.{Hand}
use Rattle.op_words.specs.declared.board.Holding.{Holding}
use Rattle.op_words.specs.declared.trail.Item.{Item}
use Rattle.op_words.specs.declared.trail.Joined.{Joined}
use Rattle.op_words.specs.declared.trail.View.{View}
use Rattle.op_words.specs.Trails.{left}
use Rattle.op_words.specs.Views.{Holds, looked, finishing, parent, child, joined_of, merged}
use Rattle.op_words.specs.Plays.{Sat, IsTold, Looks, Leaves, Swaps}
use Rattle.op_words.specs.Stepping.{Looked, Left}
use Rattle.op_words.specs.Rule.{first_view}
use Rattle.op_words.specs.Journals.{room_in, steps_in, IsJournal}
use Rattle.op_words.specs.Hands.{plan_of, cap_of, view_in, view_of, fetched_of, held_of, up_to, counts_of, call_on, HasHeldValues, IsBegun, IsHandOf}
use Rattle.op_words.proofs.Journaling.{HasNoted, journal_same, journal_step, journal_other}
use Rattle.op_words.proofs.Rows.{not_inside}
use Rattle.op_words.proofs.Trailing.{last-none}

-- what the hand keeps while it runs is what view u says
pub record IsKept (g : Hand) (u : View) : Type 0 where
  pub worker : IsWorker u.tag
  pub counted : u.tag ≡ 1 → 1 ≤ u.made
  pub tag : g.tag ≡ u.tag
  pub made : g.made ≡ u.made
  pub held : held_of g.held ≡ u.claim
  pub fits : (k : Holding) → g.held ≡ Some k → HasHeldValues k
  pub counts : g.counts ≡ counts_of u.events
  pub journal : IsJournal u g.journal

pub kept : {b : Board} {h : Hand} → IsHandOf b h → IsKept h (view_of h)
kept is = record { worker = is.worker; counted = is.counted; tag = is.tag; made = is.made; held = is.held; fits = is.fits; counts = is.counts; journal = is.journal }

-- after a step to view u
pub still : (b : Board) (h g : Hand) (u : View) → IsHandOf b h → g.seat.table_id ≡ h.seat.table_id → g.seat.me ≡ (Some u, []) → u.plan ≡ (view_of h).plan → u.cap ≡ (view_of h).cap
    → IsKept g u → IsTold u → IsHandOf b g
still b h g u is table me plan cap keeps told =
    let same : view_of g ≡ u = ap (λ (m : Sat). view_in m.0) me in
    record {
      table = table ∙ is.table;
      seat = me ∙ ap (λ (v : View). (Some v, [])) (sym same);
      plan = ap (λ (v : View). v.plan.value) same ∙ ap (λ s. s.value) plan ∙ is.plan;
      cap = ap (λ (v : View). v.cap) same ∙ cap ∙ is.cap;
      valid = is.valid;
      small = is.small;
      worker = subst (λ (v : View). IsWorker v.tag) (sym same) keeps.worker;
      counted = subst (λ (v : View). v.tag ≡ 1 → 1 ≤ v.made) (sym same) keeps.counted;
      tag = keeps.tag ∙ sym (ap (λ (v : View). v.tag) same);
      made = keeps.made ∙ sym (ap (λ (v : View). v.made) same);
      held = keeps.held ∙ sym (ap (λ (v : View). v.claim) same);
      fits = keeps.fits;
      counts = keeps.counts ∙ sym (ap (λ (v : View). counts_of v.events) same);
      journal = subst (λ (v : View). IsJournal v g.journal) (sym same) keeps.journal;
      told = subst IsTold (sym same) told;
    }

-- ---- hands made and joined

pub parent_kept : (h g : Hand) → IsKept h (view_of h) → (view_of h).tag ≡ 1 → g.tag ≡ h.tag → g.made ≡ h.made + 1 → g.held ≡ h.held → g.counts ≡ h.counts → g.journal ≡ h.journal → IsKept g (parent (view_of h))
parent_kept h g is root tag made held counts journal = record {
  worker = is.worker;
  counted = λ e. omega arith;
  tag = tag ∙ is.tag;
  made = made ∙ ap (λ (n : ℕ). n + 1) is.made;
  held = ap held_of held ∙ is.held;
  fits = λ k e. is.fits k (sym held ∙ e);
  counts = counts ∙ is.counts;
  journal = journal_same (parent (view_of h)) is.journal journal refl (λ none. elim none [ inl one ↦ absurd (let some = is.counted root in omega (arith, some, one)) | inr empty ↦ inr empty ]) refl refl;
}

pub parent_told : (v : View) → (v.tag ≡ 1 → 1 ≤ v.made) → IsTold v → IsTold (parent v)
parent_told v counted told = record {
  agree = told.agree;
  noted = record { each = told.noted.each };
  done = λ lone. let some = counted lone.root in let more = lone.alone in absurd (omega (arith, some, more));
}

pub child_told : (v : View) → IsTold v → IsTold (child v)
child_told v told = record {
  agree = told.agree;
  noted = record { each = λ t inside. absurd (not_inside t inside) };
  done = λ lone. let none = lone.alone in absurd (omega (arith, none));
}

-- ---- counts

capped : (a b : ℕ) → min (min a (2 ^ 64 - 1) + min b (2 ^ 64 - 1)) (2 ^ 64 - 1) ≡ min (a + b) (2 ^ 64 - 1)
capped a b = omega arith

same_counts : (a b : Counts) → a.evaluated ≡ b.evaluated → a.spread ≡ b.spread → a.rolled ≡ b.rolled → a ≡ b
same_counts a b first second third =
    ap (λ n. record a { evaluated = n }) first ∙ ap (λ n. record b { spread = n; rolled = a.rolled }) second ∙ ap (λ n. record b { rolled = n }) third

pub counts_append : (k a b : Counts) (es fs : List CoreEvent) → a ≡ counts_of es → b ≡ counts_of fs
    → k.evaluated ≡ min (a.evaluated + b.evaluated) (2 ^ 64 - 1) → k.spread ≡ min (a.spread + b.spread) (2 ^ 64 - 1) → k.rolled ≡ min (a.rolled + b.rolled) (2 ^ 64 - 1)
    → k ≡ counts_of (es ++ fs)
counts_append k a b es fs first second e s r =
    same_counts k (counts_of (es ++ fs)) (part (λ (c : Counts). c.evaluated) is_finish e refl refl) (part (λ (c : Counts). c.spread) is_spread s refl refl) (part (λ (c : Counts). c.rolled) is_roll r refl refl)
  where
    part : (f : Counts → ℕ) (q : CoreEvent → Bool) {n : ℕ} → n ≡ min (f a + f b) (2 ^ 64 - 1) → f (counts_of es) ≡ up_to (count_by q es) → f (counts_of fs) ≡ up_to (count_by q fs) → n ≡ up_to (count_by q (es ++ fs))
    part f q is one two =
        is ∙ ap (λ (z : ℕ × ℕ). min (z.0 + z.1) (2 ^ 64 - 1)) (λ i. ((ap f first ∙ one) i, (ap f second ∙ two) i)) ∙ capped (count_by q es) (count_by q fs)
        ∙ ap up_to (sym (sum_by-append (λ x. cond (q x) 1 0) es fs))

-- the root has what a hand that was joined left
pub more_joined : (v w : View) → (merged v w).joined ≡ [] → ⊥
more_joined v w none =
    let len = length-append v.joined (joined_of w ∷ []) in
    let same = ap (λ (l : List Joined). length l) none in
    omega (arith, len, same)

pub joined_kept : (h o g : Hand) → IsKept h (view_of h) → IsKept o (view_of o) → g.tag ≡ h.tag → g.made ≡ h.made → g.held ≡ h.held
    → g.counts.evaluated ≡ min (h.counts.evaluated + o.counts.evaluated) (2 ^ 64 - 1) → g.counts.spread ≡ min (h.counts.spread + o.counts.spread) (2 ^ 64 - 1)
    → g.counts.rolled ≡ min (h.counts.rolled + o.counts.rolled) (2 ^ 64 - 1) → g.journal ≡ h.journal → ((view_of h).made ≡ 1 → ⊥) → IsKept g (merged (view_of h) (view_of o))
joined_kept h o g is its tag made held e s r journal more = record {
  worker = is.worker;
  counted = is.counted;
  tag = tag ∙ is.tag;
  made = made ∙ is.made;
  held = ap held_of held ∙ is.held;
  fits = λ k same. is.fits k (sym held ∙ same);
  counts = counts_append g.counts h.counts o.counts (view_of h).events (view_of o).events is.counts its.counts e s r;
  journal = journal_other (merged (view_of h) (view_of o)) is.journal journal refl refl (λ none. elim none [ inl one ↦ more one | inr empty ↦ more_joined (view_of h) (view_of o) empty ]);
}

-- ---- new hands

pub child_hand : (b : Board) (h g : Hand) → IsHandOf b h → (view_of h).tag ≡ 1 → (view_of h).made < most_workers → g.seat.table_id ≡ h.seat.table_id → g.seat.me ≡ (Some (child (view_of h)), [])
    → g.tag ≡ h.made + 1 → g.made ≡ 0 → g.held ≡ None → g.counts ≡ counts_of [] → g.journal ≡ None → IsHandOf b g
child_hand b h g is root few table me tag made held counts journal =
    still b h g (child (view_of h)) is table me refl refl
    (record {
      worker = record { first = omega arith; last = omega (arith, few) };
      counted = λ e. absurd (is_one e);
      tag = tag ∙ ap (λ (n : ℕ). n + 1) is.made;
      made = made;
      held = ap held_of held;
      fits = λ k e. absurd (none-some k (sym held ∙ e));
      counts = counts;
      journal = record { room = ap room_in journal; steps = ap steps_in journal; alone = λ none. refl };
    })
    (child_told (view_of h) is.told)
  where
    is_one : (view_of h).made + 1 ≡ 1 → ⊥
    is_one e = let some = is.counted root in omega (arith, e, some)

pub first_told : (plan : Snapshot Plan) (cap : ℕ) → IsTold (first_view plan cap)
first_told plan cap = record {
  agree = λ m n inside other same one two. absurd (not_inside m inside);
  noted = record { each = λ t inside. absurd (not_inside t inside) };
  done = λ lone. record { core = start; run = refl; present = record { each = λ o lt. sym (last-none o (blocked 1)) } };
}

pub first_hand : (b : Board) (g : Hand) → g.seat.table_id ≡ b.table.shared.table_id → g.seat.me ≡ (Some (first_view b.table.shared.key.plan b.table.shared.key.cap), [])
    → IsPlan (plan_of b) → cap_of b < most_attempts → g.tag ≡ 1 → g.made ≡ 1 → g.held ≡ None → g.counts ≡ counts_of [] → g.journal ≡ None → IsHandOf b g
first_hand b g table me valid small tag made held counts journal =
    let u : View = first_view b.table.shared.key.plan b.table.shared.key.cap in
    let same : view_of g ≡ u = ap (λ (m : Sat). view_in m.0) me in
    record {
      table = table;
      seat = me ∙ ap (λ (v : View). (Some v, [])) (sym same);
      plan = ap (λ (v : View). v.plan.value) same;
      cap = ap (λ (v : View). v.cap) same;
      valid = valid;
      small = small;
      worker = subst (λ (v : View). IsWorker v.tag) (sym same) (record { first = omega arith; last = omega arith });
      counted = subst (λ (v : View). v.tag ≡ 1 → 1 ≤ v.made) (sym same) (λ e. omega arith);
      tag = tag ∙ sym (ap (λ (v : View). v.tag) same);
      made = made ∙ sym (ap (λ (v : View). v.made) same);
      held = ap held_of held ∙ sym (ap (λ (v : View). v.claim) same);
      fits = λ k e. absurd (none-some k (sym held ∙ e));
      counts = counts ∙ sym (ap (λ (v : View). counts_of v.events) same);
      journal = subst (λ (v : View). IsJournal v g.journal) (sym same) (record { room = ap room_in journal; steps = ap steps_in journal; alone = λ none. refl });
      told = subst IsTold (sym same) (first_told b.table.shared.key.plan b.table.shared.key.cap);
    }

-- ---- steps

-- a step that evaluates, spreads and rolls back nothing
pub counts_quiet : (e : CoreEvent) (es : List CoreEvent) → is_finish e ≡ false → is_spread e ≡ false → is_roll e ≡ false → counts_of (e ∷ es) ≡ counts_of es
counts_quiet e es f s r = same_counts (counts_of (e ∷ es)) (counts_of es) (ap up_to (none is_finish f)) (ap up_to (none is_spread s)) (ap up_to (none is_roll r))
  where
    none : (q : CoreEvent → Bool) → q e ≡ false → count_by q (e ∷ es) ≡ count_by q es
    none q is = sum_by-cons (λ x. cond (q x) 1 0) e es ∙ ap (λ b. cond b 1 0 + count_by q es) is ∙ zero-add (count_by q es)

-- a hand that holds what it held, after a load
pub kept_looked : (h g : Hand) (o : ℕ) (w : OpWord) → IsKept h (view_of h) → g.tag ≡ h.tag → g.made ≡ h.made → g.held ≡ h.held → g.counts ≡ h.counts → g.journal ≡ h.journal → IsKept g (looked o w (view_of h))
kept_looked h g o w is tag made held counts journal = record {
  worker = is.worker;
  counted = is.counted;
  tag = tag ∙ is.tag;
  made = made ∙ is.made;
  held = ap held_of held ∙ is.held;
  fits = λ k e. is.fits k (sym held ∙ e);
  counts = counts ∙ is.counts;
  journal = journal_same (looked o w (view_of h)) is.journal journal refl (λ none. none) refl refl;
}

-- and after a quiet step, with what it holds then
pub kept_step : (h g : Hand) (u : View) (e : CoreEvent) → IsKept h (view_of h) → g.tag ≡ h.tag → g.made ≡ h.made → g.counts ≡ h.counts → HasNoted h.journal g.journal e → u.room ≡ (view_of h).room
    → u.tag ≡ (view_of h).tag → u.made ≡ (view_of h).made → u.joined ≡ (view_of h).joined → u.events ≡ e ∷ (view_of h).events → u.own ≡ e ∷ (view_of h).own → is_finish e ≡ false → is_spread e ≡ false → is_roll e ≡ false
    → held_of g.held ≡ u.claim → ((k : Holding) → g.held ≡ Some k → HasHeldValues k) → IsKept g u
kept_step h g u e is tag made counts noted same_room same_tag same_made same_joined events own f s r held fits = record {
  worker = subst IsWorker (sym same_tag) is.worker;
  counted = λ root. subst (λ n. 1 ≤ n) (sym same_made) (is.counted (sym same_tag ∙ root));
  tag = tag ∙ is.tag ∙ sym same_tag;
  made = made ∙ is.made ∙ sym same_made;
  held = held;
  fits = fits;
  counts = counts ∙ is.counts ∙ sym (ap counts_of events ∙ counts_quiet e (view_of h).events f s r);
  journal = journal_step u e is.journal noted same_room same_made same_joined events own;
}

module _ (b : Board) (h g : Hand) (is : IsHandOf b h) (table : g.seat.table_id ≡ h.seat.table_id) where
  -- what a seat shows after a step
  me_after : {u : View} → g.seat.me ≡ (Some u, h.seat.me.1) → g.seat.me ≡ (Some u, [])
  me_after {u} me = me ∙ ap (λ (m : Sat). (Some u, m.1)) is.seat

  pub left_hand : (u : View) (t : Item) → g.seat.me ≡ (Some u, h.seat.me.1) → u.plan ≡ (view_of h).plan → u.cap ≡ (view_of h).cap → IsKept g u → Leaves (view_of h) u t → Left (call_on b h g) u t
  left_hand u t me plan cap keeps tells = record { hand = still b h g u is table (me_after me) plan cap keeps tells.told; view = ap (λ (m : Sat). view_in m.0) (me_after me); tells = tells }

  module _ (o n first : ℕ) (u : View) (w : OpWord) (swaps : Swaps o n first (view_of h) u w h.seat.me g.seat.me) where
    pub swap_left : n ≡ first → u.plan ≡ (view_of h).plan → u.cap ≡ (view_of h).cap → IsKept g u → Left (call_on b h g) u (left o w)
    swap_left same plan cap keeps =
        elim swaps [
          | inl done ↦ left_hand u (left o w) done.1 plan cap keeps done.2
          | inr missed ↦ absurd (missed.0 same)
        ]

    -- the word that was found in its place
    pub swap_word : n ≢ first → (z : OpWord) × IsWord z × (packed z ≡ n)
    swap_word other =
        elim swaps [
          | inl done ↦ absurd (other done.0)
          | inr missed ↦ (missed.1, missed.3.is_word, sym missed.3.found)
        ]

    pub swap_found : n ≢ first → (z expected : OpWord) → IsWord z → packed z ≡ n → first ≡ packed expected
        → g.tag ≡ h.tag → g.made ≡ h.made → g.held ≡ h.held → g.counts ≡ h.counts → g.journal ≡ h.journal → (z ≢ expected) × Looked (call_on b h g) o z
    swap_found other z expected is_word n_is first_is tag made held counts journal =
        elim swaps [
          | inl done ↦ absurd (other done.0)
          | inr missed ↦
              let same : missed.1 ≡ z = one_word missed.1 z missed.3.is_word is_word (sym missed.3.found ∙ sym n_is) in
              let me : g.seat.me ≡ (Some (looked o z (view_of h)), []) = me_after (missed.2 ∙ ap (λ (x : OpWord). (Some (looked o x (view_of h)), h.seat.me.1)) same) in
              let tells : Looks o (packed z) (view_of h) z = subst (λ (y : ℕ × OpWord). Looks o y.0 (view_of h) y.1) (λ i. (sym n_is i, same i)) missed.3 in (
                (λ e. other (sym n_is ∙ ap packed e ∙ sym first_is)),
                record {
                  hand = still b h g (looked o z (view_of h)) is table me refl refl (kept_looked h g o z (kept is) tag made held counts journal) tells.told;
                  view = ap (λ (m : Sat). view_in m.0) me;
                  tells = tells;
                },
              )
        ]

-- what a hand keeps of an operation that it holds
pub held_parts : (h : Hand) (k : Holding) (o a : ℕ) (xs : List ℕ) → IsKept h (view_of h) → h.held ≡ Some k → Holds (view_of h) o a xs → (k.op ≡ o) × (k.attempt ≡ a) × (take k.count k.values ≡ xs)
held_parts h k o a xs is some holds =
    let same = same_Some (record { op = k.op; attempt = k.attempt; values = take k.count k.values }) (record { op = o; attempt = a; values = xs }) (ap held_of (sym some) ∙ is.held ∙ holds) in
    (ap (λ (x : Held). x.op) same, ap (λ (x : Held). x.attempt) same, ap (λ (x : Held). x.values) same)

-- so it holds it as it keeps it
pub holds_kept : (h : Hand) (k : Holding) (o a : ℕ) (xs : List ℕ) → IsKept h (view_of h) → h.held ≡ Some k → Holds (view_of h) o a xs → Holds (view_of h) o k.attempt xs
holds_kept h k o a xs is some holds = holds ∙ ap (λ (n : ℕ). Some (record { op = o; attempt = n; values = xs })) (sym (held_parts h k o a xs is some holds).1)

-- what was just claimed
module _ (o a : ℕ) (held : Option Holding) (begun : (k : Holding) × (held ≡ Some k) × IsBegun o a k) where
  none_yet : fetched_of begun.0 ≡ []
  none_yet = ap (λ n. take n begun.0.values) begun.2.count

  pub begun_held : held_of held ≡ Some (record { op = o; attempt = a; values = [] })
  begun_held = ap held_of begun.1
      ∙ ap (λ (z : ℕ × ℕ × List ℕ). Some (record { op = z.0; attempt = z.1; values = z.2 })) (λ i. (begun.2.op i, begun.2.attempt i, none_yet i))

  pub begun_fits : 1 ≤ a → a ≤ most_attempts → (k : Holding) → held ≡ Some k → HasHeldValues k
  begun_fits first last k is = subst HasHeldValues (same_Some begun.0 k (sym begun.1 ∙ is)) (record {
    first = omega (arith, begun.2.attempt, first);
    last = omega (arith, begun.2.attempt, last);
    count = omega (arith, begun.2.count);
    len = begun.2.len;
    small = subst (All (λ x. x ≤ MAX)) (sym none_yet) (All-nil (λ (x : ℕ). x ≤ MAX));
  })

-- the end of a claim counts one evaluation more
pub counts_finish : (k a : Counts) (o t : ℕ) (es : List CoreEvent) → a ≡ counts_of es
    → k.evaluated ≡ min (a.evaluated + 1) (2 ^ 64 - 1) → k.spread ≡ min (a.spread + 0) (2 ^ 64 - 1) → k.rolled ≡ min (a.rolled + 0) (2 ^ 64 - 1) → k ≡ counts_of (Finish o t ∷ es)
counts_finish k a o t es is e s r =
    counts_append k (record { evaluated = 1; spread = 0; rolled = 0 }) a (Finish o t ∷ []) es refl is (e ∙ swap a.evaluated 1) (s ∙ swap a.spread 0) (r ∙ swap a.rolled 0)
  where
    swap : (m n : ℕ) → min (m + n) (2 ^ 64 - 1) ≡ min (n + m) (2 ^ 64 - 1)
    swap m n = omega arith

-- a hand that let go what it held
pub kept_end : (h g : Hand) (o : ℕ) (w : OpWord) (xs : List ℕ) → IsKept h (view_of h) → g.tag ≡ h.tag → g.made ≡ h.made → g.held ≡ None
    → g.counts.evaluated ≡ min (h.counts.evaluated + 1) (2 ^ 64 - 1) → g.counts.spread ≡ min (h.counts.spread + 0) (2 ^ 64 - 1) → g.counts.rolled ≡ min (h.counts.rolled + 0) (2 ^ 64 - 1)
    → HasNoted h.journal g.journal (Finish o (view_of h).tag) → IsKept g (finishing o w xs (view_of h))
kept_end h g o w xs is tag made held e s r noted = record {
  worker = is.worker;
  counted = is.counted;
  tag = tag ∙ is.tag;
  made = made ∙ is.made;
  held = ap held_of held;
  fits = λ k same. absurd (none-some k (sym held ∙ same));
  counts = counts_finish g.counts h.counts o (view_of h).tag (view_of h).events is.counts e s r;
  journal = journal_step (finishing o w xs (view_of h)) (Finish o (view_of h).tag) is.journal noted refl refl refl refl refl;
}
