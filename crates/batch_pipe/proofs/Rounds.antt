-- A round, over plain values.
use Rattle.std.proofs.Common.{◌≡◌, ◌⊎◌, inl, inr, ℕ, zero, suc, ◌+◌, ◌*◌, ◌-◌, ◌<◌, ◌≤◌, Bool, true, false, List, [], ◌∷◌, ◌++◌, length, take, map, Option, Some, None, Result, Ok, Err, refl, ap, sym, subst, ◌∙◌, arith, append-nil, append_assoc}
use Rattle.std.specs.Prelude.{All, IsSome, IfSome, IfNone, IsTrue, ◌≢◌, ◌↔◌, is_some, not}
use Rattle.std.proofs.lemmas.List.{length-append, map-append, append_cancel_left}
use Rattle.std.proofs.lemmas.List.Elements.{All-nil, All-cons, All-head, All-tail}
use Rattle.morph_base.specs.declared.key.Layout.{Layout}
use Rattle.std.specs.Prelude.{sum_by}
use Rattle.std.proofs.Math.ListN.{length-map}
use Rattle.std.proofs.lemmas.List.Sums.{sum_by-cons}
use Rattle.morph_base.specs.declared.plan.Plan.{Plan}
use Rattle.morph_base.specs.Transactions.{Transaction, by_time}
use Rattle.morph_base.specs.Plans.{transactions}
use Rattle.morph_base.specs.Flat.{Kept, contents}
use Rattle.morph_base.specs.States.{State, after_all}
use Rattle.decision_model.specs.declared.counts.Last.{Last}
use Rattle.event_reader.specs.Steps.{Meaning}
use Rattle.event_reader.specs.Reader.{ReaderView}
use Rattle.batch_pipe.specs.declared.items.Sent.{Sent}
use Rattle.batch_pipe.specs.declared.items.Ran.{Ran}
use Rattle.batch_pipe.specs.declared.tail.Tail.{Tail}
use Rattle.batch_pipe.specs.declared.tail.Tail.TheVariants.{End, Refused, Fault, RunMemory, Untold}
use Rattle.batch_pipe.specs.declared.runner.RunEnd.{RunEnd}
use Rattle.batch_pipe.specs.declared.runner.RunEnd.TheVariants.{Whole, NoMemory, Untold as NotTold}
use Rattle.batch_pipe.specs.GivenBatches.{Stand, stand}
use Rattle.batch_pipe.specs.PlannedBatches.{AreNumbered, Plans, PlansAhead, StopsWithTail, MayStop, plans_of}
use Rattle.batch_pipe.specs.Results.{IsResult, AreTaken, AreRefused, AreTold}
use Rattle.batch_pipe.specs.PlanRuns.{Manner, AreRun, RunsWaiting, Desk, one_or_none, is_told, lost_count, state_after, last_after, came_of}
use Rattle.batch_pipe.specs.Courses.{reads_left, steps_left}
use Rattle.batch_pipe.specs.PipeRounds.{PipeView, IsRound, IsGoing, IsUncut, number_before, or_else}
use Rattle.batch_pipe.proofs.GivenBatches.{plans_nothing, plans_both, plans_stop}
use Rattle.batch_pipe.proofs.Ahead.{numbered-append, numbered-front, numbered-back}
use Rattle.batch_pipe.proofs.Desks.{empty_is, can_go_on}

swap : {T : Type 0} (xs ys zs : List T) → length ys ≡ 1 - length xs → xs ++ (ys ++ zs) ≡ ys ++ (xs ++ zs)
swap [] ys zs e = refl
swap (x ∷ xs) [] zs e = refl
swap (x ∷ xs) (y ∷ ys) zs e = absurd (omega arith)

whole_is : {T : Type 0} (xs first more : List T) → length first ≡ 1 - length xs → first ++ xs ≡ xs ++ take (1 - length xs) (first ++ more)
whole_is [] [] more e = absurd (omega arith)
whole_is [] (x ∷ []) more e = refl
whole_is [] (x ∷ y ∷ first) more e = absurd (omega arith)
whole_is (x ∷ xs) [] more e =
    let none : 1 - length (x ∷ xs) ≡ 0 = omega arith in
    sym (append-nil (x ∷ xs)) ∙ ap (λ n. x ∷ (xs ++ take n more)) (sym none)
whole_is (x ∷ xs) (y ∷ first) more e = absurd (omega arith)

pub if_none : {T : Type 0} (o : Option T) (P : Type 0) → o ≡ None → IfNone o P → P
if_none None P e h = h
if_none (Some x) P e h = absurd (cc)

pub bool_cases : (b : Bool) → (b ≡ true) ⊎ (b ≡ false)
bool_cases true = inl refl
bool_cases false = inr refl

pub some_is : (first : Option Sent) (P : Sent → Type 0) → All P (one_or_none first) → IfSome first P
some_is None P h = tt
some_is (Some x) P h = h 0 x (omega arith)

pub some_then : (first : Option Sent) (P Q : Sent → Type 0) → ((x : Sent) → P x → Q x) → IfSome first P → IfSome first Q
some_then None P Q then h = tt
some_then (Some x) P Q then h = then x h

-- the desk of the runner of a pipe, with this teller
abbrev pub desk_at : {App Teller : Type 0} → PipeView App → Teller → Desk Teller
desk_at v teller = record { state = contents v.engine; last = v.last; teller = teller }

-- a tail is that a result was refused only where the runs end so
not_untold : (before stop : Option Tail) → before ≢ Some Untold → IfSome stop (λ tail. (tail ≢ RunMemory) × (tail ≢ Untold)) → or_else before stop ≡ Some Untold → ⊥
not_untold None None told_before stop_is is = absurd (cc)
not_untold None (Some tail) told_before stop_is is = stop_is.1 (cc)
not_untold (Some tail) stop told_before stop_is is = told_before is

module _ {App : Type 0} (event_of : App → ℕ → Meaning) (layout : Layout) (m : Manner) where
  -- what the runner took over the ring and what waits after a round: what waited before it, and what the planner sent
  pub waiting_is : (received0 received1 waiting0 waiting1 sent0 sent1 popped more : List Sent) → received0 ++ waiting0 ≡ sent0 → received1 ++ waiting1 ≡ sent1 →
      sent1 ≡ sent0 ++ more → received1 ≡ received0 ++ popped → popped ++ waiting1 ≡ waiting0 ++ more
  waiting_is received0 received1 waiting0 waiting1 sent0 sent1 popped more before after sent received =
      append_cancel_left received0 (popped ++ waiting1) (waiting0 ++ more)
      (sym (append_assoc received0 popped waiting1) ∙ ap (λ l. l ++ waiting1) (sym received) ∙ after ∙ sent ∙ ap (λ l. l ++ more) (sym before) ∙ append_assoc received0 waiting0 more)

  -- the tail that a planner met is not one of the runs
  stop_of_planner : (stop : Option Tail) (middle at : Stand App) → MayStop event_of stop middle at → IfSome stop (λ tail. tail ≢ RunMemory) → IfSome stop (λ tail. (tail ≢ RunMemory) × (tail ≢ Untold))
  stop_of_planner None middle at stops planner = tt
  stop_of_planner (Some tail) middle at stops planner = (planner, stops.untold)

  pub round_is : {Teller : Type 0} {takes : Teller → Ran → Bool → Teller → Type 0} {teller teller' : Teller} {high high' : ℕ} {a b : PipeView App} {left left1 left2 : Option (List ℕ)}
      {r1 : ReaderView App} {n1 : ℕ} {stop : Option Tail} {end : RunEnd} {sent0 sent1 received0 received1 : List Sent} (free : ℕ) (first : Option Sent) →
      PlansAhead event_of layout high (record { at = stand a.reader left; sent = []; number = a.sent }) None (record { at = stand r1 left1; sent = one_or_none first; number = n1 }) →
      PlansAhead event_of layout high' (record { at = stand r1 left1; sent = sent0; number = n1 }) stop (record { at = stand b.reader left2; sent = sent1; number = b.sent }) →
      RunsWaiting takes m (record { desk = desk_at a teller; received = received0 }) (one_or_none first) a.waiting end (record { desk = desk_at b teller'; received = received1 }) →
      received0 ++ a.waiting ≡ sent0 → received1 ++ b.waiting ≡ sent1 →
      AreNumbered (number_before a) a.waiting → length a.waiting ≤ a.sent → a.ahead ≤ free + length a.waiting → length (one_or_none first) ≡ 1 - length a.waiting →
      (IsSome a.tail → (stop ≡ None) × (sent1 ≡ sent0) × (b.reader ≡ a.reader) × (left2 ≡ left)) → IfSome stop (λ tail. tail ≢ RunMemory) → (a.tail ≡ None → IfNone stop (length sent0 + free ≤ length sent1)) → (IsSome a.tail → 0 < length a.waiting) →
      a.tail ≢ Some Untold → (end ≡ Whole → b.tail ≡ or_else a.tail stop) → (end ≡ NoMemory → b.tail ≡ Some RunMemory) → (end ≡ NotTold → b.tail ≡ Some Untold) → b.engine.layout ≡ a.engine.layout → b.ahead ≡ a.ahead →
      IsRound event_of takes m a left teller b left2 teller'
  round_is {Teller} {takes} {teller} {teller'} {high} {high'} {a} {b} {left} {left1} {left2} {r1} {n1} {stop} {end} {sent0} {sent1} {received0} {received1} free first f h r
      before after numbers count room one idle planner enough going told_before met memory untold layout_is ahead_is =
      let more : List Sent = f.more ++ h.more in
      let first_is : one_or_none first ≡ f.more = f.sent_is in
      let lf = ap length first_is in
      let lm = length-append f.more h.more in
      let ls = ap length h.sent_is in
      let ls2 = length-append sent0 h.more in
      let waits : r.popped ++ b.waiting ≡ a.waiting ++ h.more = waiting_is received0 received1 a.waiting b.waiting sent0 sent1 r.popped h.more before after h.sent_is r.received_is in
      record {
        more = more;
        stop = stop;
        plans = subst (λ (l : List Plan). Plans event_of (stand a.reader left) l stop (stand b.reader left2)) (sym (map-append (λ (x : Sent). x.plan) f.more h.more))
            (plans_both event_of (plans_of f.more) (plans_of h.more) f.plans h.plans);
        runs = r.plans.runs;
        lost = r.plans.lost;
        parts =
            ap (λ l. a.waiting ++ (l ++ h.more)) (sym first_is)
            ∙ swap a.waiting (one_or_none first) h.more one
            ∙ ap (λ l. one_or_none first ++ l) (sym waits)
            ∙ sym (append_assoc (one_or_none first) r.popped b.waiting)
            ∙ ap (λ l. l ++ b.waiting) r.plans.parts;
        rans = r.plans.run.rans;
        run = r.plans.run.run;
        state_is = r.plans.run.state_is;
        last_is = r.plans.run.last_is;
        told = taken end refl;
        untold = not_taken end refl;
        sent_is = omega (arith, f.number_is, h.number_is, lm);
        numbered =
            let at : a.sent ≡ number_before a + length a.waiting = omega (arith, count) in
            let tail_numbered = numbered-append a.sent f.more h.more f.numbered (subst (λ n. AreNumbered n h.more) f.number_is h.numbered) in
            numbered-append (number_before a) a.waiting more numbers (subst (λ n. AreNumbered n more) at tail_numbered);
        idle = λ some.
            let i = idle some in
            let g = going some in
            let l1 = ap length i.1 in
            (empty_is more (omega (arith, lm, lf, one, g, l1, ls, ls2)), i.0, i.2, i.3);
        stop_is = stop_is;
        enough = λ none no_stop.
            let e = if_none stop (length sent0 + free ≤ length sent1) no_stop (enough none) in
            omega (arith, e, room, one, lf, lm, ls, ls2);
        later = r.later;
        whole = whole end refl;
        met = meets end refl;
        refused = refused end refl;
        layout = layout_is;
        ahead_is = ahead_is;
      }
    where
      stop_is : IfSome stop (λ tail. (tail ≢ RunMemory) × (tail ≢ Untold))
      stop_is = stop_of_planner stop h.plans.middle (stand b.reader left2) h.plans.stops planner

      told_so : (e : RunEnd) → end ≡ e → AreTold takes teller r.plans.run.rans (is_told e) teller'
      told_so e is = subst (λ x. AreTold takes teller r.plans.run.rans (is_told x) teller') is r.plans.run.told

      lost_so : (e : RunEnd) → end ≡ e → length r.plans.lost ≡ lost_count e
      lost_so e is = r.plans.lost_is ∙ ap lost_count is

      taken : (e : RunEnd) → end ≡ e → b.tail ≢ Some Untold → AreTaken takes teller r.plans.run.rans teller'
      taken Whole is other = told_so Whole is
      taken NoMemory is other = told_so NoMemory is
      taken NotTold is other = absurd (other (untold is))

      not_taken : (e : RunEnd) → end ≡ e → b.tail ≡ Some Untold → AreRefused takes teller r.plans.run.rans teller'
      not_taken Whole is tail = absurd (not_untold a.tail stop told_before stop_is (sym (met is) ∙ tail))
      not_taken NoMemory is tail = absurd (let both = sym (memory is) ∙ tail in cc)
      not_taken NotTold is tail = told_so NotTold is

      meets : (e : RunEnd) → end ≡ e → r.plans.lost ≡ [] → b.tail ≢ Some Untold → b.tail ≡ or_else a.tail stop
      meets Whole is nothing other = met is
      meets NoMemory is nothing other = absurd (let l = ap length nothing in let one_lost = lost_so NoMemory is in omega (arith, l, one_lost))
      meets NotTold is nothing other = absurd (other (untold is))

      refused : (e : RunEnd) → end ≡ e → r.plans.lost ≢ [] → (length r.plans.lost ≡ 1) × (b.tail ≡ Some RunMemory)
      refused Whole is some = absurd (some (empty_is r.plans.lost (lost_so Whole is)))
      refused NoMemory is some = (lost_so NoMemory is, memory is)
      refused NotTold is some = absurd (some (empty_is r.plans.lost (lost_so NotTold is)))

      whole : (e : RunEnd) → end ≡ e → r.plans.lost ≡ [] → b.tail ≢ Some Untold → r.plans.runs ≡ (a.waiting ++ take (1 - length a.waiting) (f.more ++ h.more)) ++ r.later
      whole Whole is nothing other =
          let waited : one_or_none first ++ a.waiting ≡ a.waiting ++ take (1 - length a.waiting) (f.more ++ h.more) =
          whole_is a.waiting (one_or_none first) h.more one ∙ ap (λ l. a.waiting ++ take (1 - length a.waiting) (l ++ h.more)) f.sent_is in
          sym (append-nil r.plans.runs) ∙ ap (λ l. r.plans.runs ++ l) (sym nothing) ∙ sym r.plans.parts ∙ ap (λ l. one_or_none first ++ l) (r.whole is)
          ∙ sym (append_assoc (one_or_none first) a.waiting r.later) ∙ ap (λ l. l ++ r.later) waited
      whole NoMemory is nothing other = absurd (let l = ap length nothing in let one_lost = lost_so NoMemory is in omega (arith, l, one_lost))
      whole NotTold is nothing other = absurd (other (untold is))

  -- where the first batch is not planned, nothing runs
  pub round_stopped : {Teller : Type 0} {takes : Teller → Ran → Bool → Teller → Type 0} {a b : PipeView App} {left left' : Option (List ℕ)} (teller : Teller) (tail : Tail) →
      StopsWithTail event_of tail (stand a.reader left) (stand b.reader left') → a.tail ≡ None → a.waiting ≡ [] → b.waiting ≡ a.waiting → b.engine ≡ a.engine → b.last ≡ a.last → b.sent ≡ a.sent → b.tail ≡ Some tail →
      b.ahead ≡ a.ahead → tail ≢ RunMemory → AreNumbered (number_before a) a.waiting → IsRound event_of takes m a left teller b left' teller
  unfolding AreRun AreTaken state_after last_after
  round_stopped {Teller} {takes} {a} {b} {left} {left'} teller tail stops told_before waits waits' engine last sent tail' ahead planner numbers = record {
    more = [];
    stop = Some tail;
    plans = plans_stop event_of [] tail (plans_nothing event_of (stand a.reader left)) stops;
    runs = [];
    lost = [];
    parts = append-nil a.waiting ∙ sym waits';
    rans = [];
    run = tt;
    state_is = ap contents engine;
    last_is = last;
    told = λ other. refl;
    untold = λ is. absurd (stops.untold (let same : Some tail ≡ Some Untold = sym tail' ∙ is in cc));
    sent_is = omega (arith, sent);
    numbered = subst (AreNumbered (number_before a)) (sym (append-nil a.waiting)) numbers;
    idle = λ some. absurd (let no = subst IsSome told_before some in cc);
    stop_is = (planner, stops.untold);
    enough = λ no_tail no_stop. absurd (cc);
    later = [];
    whole = λ nothing other. ap (λ (l : List Sent). (l ++ take (1 - length l) []) ++ []) (sym waits);
    met = λ nothing other. tail' ∙ ap (λ t. or_else t (Some tail)) (sym told_before);
    refused = λ some. absurd (some refl);
    layout = ap (λ (k : Kept). k.layout) engine;
    ahead_is = ahead;
  }

  -- the numbers of what waits after a round
  pub next_numbered : {Teller : Type 0} {takes : Teller → Ran → Bool → Teller → Type 0} {teller teller' : Teller} {a b : PipeView App} {left left' : Option (List ℕ)} →
      IsRound event_of takes m a left teller b left' teller' → length a.waiting ≤ a.sent → AreNumbered (number_before b) b.waiting × (length b.waiting ≤ b.sent)
  next_numbered {a = a} {b = b} q few =
      let back = numbered-back (number_before a) (q.runs ++ q.lost) b.waiting (subst (AreNumbered (number_before a)) q.parts q.numbered) in
      let l0 = ap length q.parts in
      let l1 = length-append a.waiting q.more in
      let l2 = length-append (q.runs ++ q.lost) b.waiting in
      let at : number_before a + length (q.runs ++ q.lost) ≡ number_before b = omega (arith, l0, l1, l2, q.sent_is, few) in
      (subst (λ n. AreNumbered n b.waiting) at back, omega (arith, l0, l1, l2, q.sent_is, few))

-- of what holds of all, the part at the back
pub all_front : {T : Type 0} (P : T → Type 0) (xs ys : List T) → All P (xs ++ ys) → All P xs
all_front P [] ys h = All-nil P
all_front P (x ∷ xs) ys h = All-cons P x xs (All-head P x (xs ++ ys) h) (all_front P xs ys (All-tail P x (xs ++ ys) h))

pub all_back : {T : Type 0} (P : T → Type 0) (xs ys : List T) → All P (xs ++ ys) → All P ys
all_back P [] ys h = h
all_back P (x ∷ xs) ys h = all_back P xs ys (All-tail P x (xs ++ ys) h)

pub zero_or : (n : ℕ) → (n ≡ 0) ⊎ (0 < n)
zero_or zero = inl refl
zero_or (suc n) = inr (omega arith)

pub planning_is : (o : Option Tail) (p : Bool) → is_some o ≡ not p → o ≡ None → p ≡ true
planning_is None true e n = refl
planning_is None false e n = absurd (cc)
planning_is (Some x) p e n = absurd (cc)

pub not_planning : (o : Option Tail) (p : Bool) → is_some o ≡ not p → IsSome o → p ≡ false
not_planning None p e n = absurd (cc)
not_planning (Some x) false e n = refl
not_planning (Some x) true e n = absurd (cc)

pub untold : (o : Option Tail) (p : Bool) → is_some o ≡ not p → p ≡ true → o ≡ None
untold None p e t = refl
untold (Some x) true e t = absurd (cc)
untold (Some x) false e t = absurd (cc)

pub some_waits : {App : Type 0} (v : PipeView App) → IsGoing v → IsSome v.tail → 0 < length v.waiting
some_waits v going some = by going.0 (zero_or (length v.waiting))
  where
    by : (v.tail ≡ None) ⊎ (v.waiting ≢ []) → (length v.waiting ≡ 0) ⊎ (0 < length v.waiting) → 0 < length v.waiting
    by _ (inr lt) = lt
    by (inl none) (inl z) = absurd (let no = subst IsSome none some in cc)
    by (inr ne) (inl z) = absurd (ne (empty_is v.waiting z))

-- a plan is read first exactly where none waits
pub one_first : {App : Type 0} (v : PipeView App) (first : Option Sent) (asked planning : Bool) (count : ℕ) → IsGoing v → count ≡ length v.waiting → is_some v.tail ≡ not planning →
    IsTrue asked ↔ (IsTrue planning × (count ≡ 0)) → (IsTrue asked → length (one_or_none first) ≡ 1) → (asked ≡ false → first ≡ None) → length (one_or_none first) ≡ 1 - length v.waiting
one_first v first asked planning count going many tail asks some none = by (bool_cases asked) (zero_or (length v.waiting))
  where
    by : (asked ≡ true) ⊎ (asked ≡ false) → (length v.waiting ≡ 0) ⊎ (0 < length v.waiting) → length (one_or_none first) ≡ 1 - length v.waiting
    by (inl e) w = let l = some e in let z = (asks.0 e).1 in omega (arith, l, z, many)
    by (inr e) (inr lt) = let l = ap (λ f. length (one_or_none f)) (none e) in omega (arith, l, lt)
    by (inr e) (inl z) = absurd (by_plan (bool_cases planning))
      where
        by_plan : (planning ≡ true) ⊎ (planning ≡ false) → ⊥
        by_plan (inl p) = let yes_asked = asks.1 (p, omega (arith, z, many)) in cc
        by_plan (inr p) = (let s : is_some v.tail ≡ true = tail ∙ ap not p in let lt = some_waits v going (s) in omega (arith, lt, z))

pub by_both : (before stop : Option Tail) → or_else before stop ≡ None → (before ≡ None) × (stop ≡ None)
by_both None stop e = (refl, e)
by_both (Some x) stop e = absurd (cc)

-- where there is no tail after a round, there was none before it, and it met none
pub open_after : (t before stop : Option Tail) (end : RunEnd) → (end ≡ Whole → t ≡ or_else before stop) → (end ≡ NoMemory → t ≡ Some RunMemory) → (end ≡ NotTold → t ≡ Some Untold) → t ≡ None → (before ≡ None) × (stop ≡ None)
open_after t before stop Whole met memory untold none = by_both before stop (sym (met refl) ∙ none)
open_after t before stop NoMemory met memory untold none = absurd (let e = sym (memory refl) ∙ none in cc)
open_after t before stop NotTold met memory untold none = absurd (let e = sym (untold refl) ∙ none in cc)

-- what an answer gives, if it gives it
abbrev pub given : {T E : Type 0} → Result (Option T) E → Option T
given (Ok x) = x
given (Err e) = None

pub not_asked : (asked planning : Bool) (count : ℕ) → IsTrue asked ↔ (IsTrue planning × (count ≡ 0)) → planning ≡ false → asked ≡ false
not_asked false planning count asks off = refl
not_asked true planning count asks off = absurd (let on = (asks.0 refl).0 in cc)

take_one : {T : Type 0} (xs : List T) → 0 < length xs → length (take 1 xs) ≡ 1
take_one [] lt = absurd (omega arith)
take_one (x ∷ xs) lt = refl

all_sum : (xs : List (List Transaction)) → All (λ (batch : List Transaction). 0 < length batch) xs → length xs ≤ sum_by (λ (batch : List Transaction). length batch) xs
all_sum [] h = omega arith
all_sum (x ∷ xs) h =
    let one : 0 < length x = h 0 x (omega arith) in
    let rest = all_sum xs (All-tail (λ (batch : List Transaction). 0 < length batch) x xs h) in
    let s = sum_by-cons (λ (batch : List Transaction). length batch) x xs in
    omega (arith, one, rest, s)

run_length : (m : Manner) (s : State) (last : Last) (xs : List Sent) (rs : List Ran) → AreRun m s last xs rs → length rs ≡ length xs
unfolding AreRun
run_length m s last [] [] run = refl
run_length m s last [] (r ∷ rs) run = absurd run
run_length m s last (x ∷ xs) [] run = absurd run
run_length m s last (x ∷ xs) (r ∷ rs) run = let rest = run_length m (after_all s (transactions x.plan)) (came_of r) xs rs run.1 in omega (arith, rest)

module _ {App : Type 0} {event_of : App → ℕ → Meaning} {a b : Stand App} {stop : Option Tail} (more : List Sent) (p : Plans event_of a (plans_of more) stop b) where
  -- as many batches were read as plans were made of them, and each has an event
  plans_many : length more ≤ sum_by (λ (batch : List Transaction). length batch) p.batches
  plans_many =
      let made = ap length p.plans_are in
      let l0 : length (plans_of more) ≡ length more = simp length-map in
      let l1 : length (map transactions (plans_of more)) ≡ length (plans_of more) = simp length-map in
      let l2 : length (map by_time p.batches) ≡ length p.batches = simp length-map in
      let s = all_sum p.batches p.gives.some in
      omega (arith, made, l0, l1, l2, s)

  -- each plan took a line at least
  pub plans_counted : a.reader.lines.number + length more ≤ b.reader.lines.number
  plans_counted = by stop p.stops
    where
      by : (o : Option Tail) → MayStop event_of o p.middle b → a.reader.lines.number + length more ≤ b.reader.lines.number
      by None stops = (let same = ap (λ (s : Stand App). s.reader.lines.number) stops in let many = plans_many in let counted = p.gives.counted in omega (arith, same, many, counted))
      by (Some tail) stops = (let rises = stops.same.3.numbered in let many = plans_many in let counted = p.gives.counted in omega (arith, rises, many, counted))

-- whether a result was refused
pub told_or : (t : Option Tail) → (t ≡ Some Untold) ⊎ (t ≢ Some Untold)
told_or None = inr (λ is. (cc))
told_or (Some Untold) = inl refl
told_or (Some End) = inr (λ is. (cc))
told_or (Some (Refused line cause)) = inr (λ is. (cc))
told_or (Some (Fault fault)) = inr (λ is. (cc))
told_or (Some RunMemory) = inr (λ is. (cc))

-- where there is no tail, no result was refused
pub not_refused : (t : Option Tail) → t ≡ None → t ≢ Some Untold
not_refused t none is = absurd (let both = sym none ∙ is in cc)

module _ {App Teller : Type 0} {event_of : App → ℕ → Meaning} {takes : Teller → Ran → Bool → Teller → Type 0} {m : Manner} {a b : PipeView App} {left left' : Option (List ℕ)} {teller teller' : Teller}
    (q : IsRound event_of takes m a left teller b left' teller') (going : IsGoing a) where
  many_more : length q.more ≤ sum_by (λ (batch : List Transaction). length batch) q.plans.batches
  many_more = plans_many q.more q.plans

  lengths : length a.waiting + length q.more ≡ length q.runs + length q.lost + length b.waiting
  lengths =
      let l0 = ap length q.parts in
      let l1 = length-append a.waiting q.more in
      let l2 = length-append (q.runs ++ q.lost) b.waiting in
      let l3 = length-append q.runs q.lost in
      omega (arith, l0, l1, l2, l3)

  rans_many : length q.rans ≡ length q.runs
  rans_many = run_length m (contents a.engine) a.last q.runs q.rans q.run

  -- where a plan waits, one at least is taken
  takes_one : 0 < length a.waiting → 0 < length q.runs + length q.lost
  takes_one some = by (zero_or (length q.lost))
    where
      by : (length q.lost ≡ 0) ⊎ (0 < length q.lost) → 0 < length q.runs + length q.lost
      by (inr lt) = omega (arith, lt)
      by (inl z) = by_told z (told_or b.tail)
        where
          by_told : length q.lost ≡ 0 → (b.tail ≡ Some Untold) ⊎ (b.tail ≢ Some Untold) → 0 < length q.runs + length q.lost
          by_told z (inl untold) =
              let refused = q.untold untold in
              let l0 = ap length refused.parts in
              let l1 = length-append refused.taken (refused.last ∷ []) in
              omega (arith, l0, l1, rans_many)
          by_told z (inr told) =
              let l0 = ap length (q.whole (empty_is q.lost z) told) in
              let l1 = length-append (a.waiting ++ take (1 - length a.waiting) q.more) q.later in
              let l2 = length-append a.waiting (take (1 - length a.waiting) q.more) in
              omega (arith, l0, l1, l2, some)

  no_stop : a.tail ≡ None → b.tail ≡ None → (length q.lost ≡ 0) ⊎ (0 < length q.lost) → q.stop ≡ None
  no_stop e f (inl z) = (by_both a.tail q.stop (sym (q.met (empty_is q.lost z) (not_refused b.tail f)) ∙ f)).1
  no_stop e f (inr lt) = absurd (let r = (q.refused (λ nothing. (let l = ap length nothing in omega (arith, l, lt)))).1 in cc)

  -- a round leaves fewer that there can be, also where what came of each of its batches counts half a one
  pub turns_fall : a.reader.lines.number ≤ a.reader.lines.limit + 1 → length q.rans + 2 * steps_left b < 2 * steps_left a
  turns_fall few = by a.tail b.tail refl refl
    where
      ends : (t : Tail) → a.tail ≡ Some t → b.tail ≡ None → ⊥
      ends t e f = by_lost (zero_or (length q.lost))
        where
          by_lost : (length q.lost ≡ 0) ⊎ (0 < length q.lost) → ⊥
          by_lost (inl z) = (let m = sym (q.met (empty_is q.lost z) (not_refused b.tail f)) ∙ f in let o = ap (λ (x : Option Tail). or_else x q.stop) (sym e) ∙ m in cc)
          by_lost (inr lt) = (let r = (q.refused (λ nothing. (let l = ap length nothing in omega (arith, l, lt)))).1 in cc)

      by : (t u : Option Tail) → a.tail ≡ t → b.tail ≡ u → length q.rans + 2 * (length b.waiting + reads_left u (b.reader.lines.limit + 1 - b.reader.lines.number)) < 2 * (length a.waiting + reads_left t (a.reader.lines.limit + 1 - a.reader.lines.number))
      by (Some t) None e f = absurd (ends t e f)
      by (Some t) (Some u) e f =
          let some : IsSome a.tail = subst IsSome (sym e) refl in
          let i = q.idle some in
          let l = ap length i.0 in
          let one = takes_one (some_waits a going some) in
          omega (arith, rans_many, lengths, l, one)
      by None (Some u) e f =
          let g = q.plans.gives in
          let top = g.bound few in
          let limit = g.same.2 in
          omega (arith, rans_many, lengths, many_more, g.counted, top, limit)
      by None None e f =
          let g = q.plans.gives in
          let stop_none = no_stop e f (zero_or (length q.lost)) in
          let here = subst (λ (o : Option Tail). MayStop event_of o q.plans.middle (stand b.reader left')) stop_none q.plans.stops in
          let number = ap (λ (s : Stand App). s.reader.lines.number) here in
          let limit = ap (λ (s : Stand App). s.reader.lines.limit) here in
          let top = g.bound few in
          let enough = q.enough e stop_none in
          at (zero_or (length a.waiting)) number limit top g.same.2 g.counted enough
        where
          at : (length a.waiting ≡ 0) ⊎ (0 < length a.waiting) → b.reader.lines.number ≡ q.plans.middle.reader.lines.number → b.reader.lines.limit ≡ q.plans.middle.reader.lines.limit →
              q.plans.middle.reader.lines.number ≤ q.plans.middle.reader.lines.limit + 1 → q.plans.middle.reader.lines.limit ≡ a.reader.lines.limit →
              a.reader.lines.number + sum_by (λ (batch : List Transaction). length batch) q.plans.batches ≤ q.plans.middle.reader.lines.number →
              a.ahead + (1 - length a.waiting) ≤ length a.waiting + length q.more →
              length q.rans + 2 * (length b.waiting + (1 + 2 * (b.reader.lines.limit + 1 - b.reader.lines.number))) < 2 * (length a.waiting + (1 + 2 * (a.reader.lines.limit + 1 - a.reader.lines.number)))
          at (inl z) number limit top same counted enough = omega (arith, z, number, limit, top, same, counted, enough, rans_many, lengths, many_more)
          at (inr lt) number limit top same counted enough = let one = takes_one lt in omega (arith, one, number, limit, top, same, counted, rans_many, lengths, many_more)

  -- every round but the last takes a plan
  pub takes_going : IsGoing b → 0 < length q.runs + length q.lost
  takes_going after = by (zero_or (length a.waiting)) (zero_or (length q.more)) (zero_or (length q.lost)) (zero_or (length q.runs))
    where
      by : (length a.waiting ≡ 0) ⊎ (0 < length a.waiting) → (length q.more ≡ 0) ⊎ (0 < length q.more) → (length q.lost ≡ 0) ⊎ (0 < length q.lost) → (length q.runs ≡ 0) ⊎ (0 < length q.runs) →
          0 < length q.runs + length q.lost
      by (inr lt) m l r = takes_one lt
      by (inl z) m (inr lost) r = omega (arith, lost)
      by (inl z) m (inl lost) (inr runs) = omega (arith, runs)
      by (inl z) (inr more) (inl lost) (inl runs) =
          let w = ap length (q.whole (empty_is q.lost lost) after.1.1) in
          let l1 = length-append a.waiting (take (1 - length a.waiting) q.more) in
          let l4 = length-append (a.waiting ++ take (1 - length a.waiting) q.more) q.later in
          let one : 1 - length a.waiting ≡ 1 = omega (arith, z) in
          let l2 = ap (λ n. length (take n q.more)) one in
          let l3 = take_one q.more more in
          absurd (omega (arith, w, l1, l2, l3, l4, z, runs))
      by (inl z) (inl more) (inl lost) (inl runs) = absurd (stuck a.tail q.stop refl refl going.0 after.0)
        where
          ended : length b.waiting ≡ 0
          ended = omega (arith, lengths, z, more, lost, runs)

          told : b.tail ≡ or_else a.tail q.stop
          told = q.met (empty_is q.lost lost) after.1.1

          tails : (t s : Option Tail) → a.tail ≡ t → q.stop ≡ s → b.tail ≡ or_else t s
          tails t s e f = told ∙ ap (λ x. or_else x q.stop) e ∙ ap (or_else t) f

          stuck : (t s : Option Tail) → a.tail ≡ t → q.stop ≡ s → (a.tail ≡ None) ⊎ (a.waiting ≢ []) → (b.tail ≡ None) ⊎ (b.waiting ≢ []) → ⊥
          stuck t s e f (inr some) later = some (empty_is a.waiting z)
          stuck t s e f (inl none) (inr some) = some (empty_is b.waiting ended)
          stuck (Some t) s e f (inl none) (inl open_later) = (let n = sym e ∙ none in cc)
          stuck None None e f (inl none) (inl open_later) = (let enough = q.enough none f in omega (arith, enough, z, more))
          stuck None (Some s) e f (inl none) (inl open_later) = (let n = sym (tails None (Some s) e f) ∙ open_later in cc)

  -- no more plans were sent than lines were read
  pub counted_on : a.sent ≤ a.reader.lines.number → b.sent ≤ b.reader.lines.number
  counted_on few = let counted = plans_counted q.more q.plans in omega (arith, few, counted, q.sent_is)

  -- where the runs were not cut off, the teller can take the result that comes next
  pub can_after : (can_take : Teller → ℕ → Type 0) → ((old new : Teller) (ran : Ran) → can_take old ran.number → IsResult ran → takes old ran true new → can_take new (ran.number + 1)) →
      length a.waiting ≤ a.sent → can_take teller (number_before a + 1) → IsUncut b.tail → can_take teller' (number_before b + 1)
  can_after can_take goes_on few can uncut =
      let numbers = numbered-front (number_before a) q.runs q.lost (numbered-front (number_before a) (q.runs ++ q.lost) b.waiting (subst (AreNumbered (number_before a)) q.parts q.numbered)) in
      let none = none_lost (zero_or (length q.lost)) in
      let at : number_before a + length q.runs + 1 ≡ number_before b + 1 = omega (arith, none, lengths, few, q.sent_is) in
      subst (can_take teller') at (can_go_on takes m can_take goes_on (contents a.engine) a.last (number_before a) q.runs q.rans teller teller' q.run numbers (q.told uncut.1) can)
    where
      none_lost : (length q.lost ≡ 0) ⊎ (0 < length q.lost) → length q.lost ≡ 0
      none_lost (inl z) = z
      none_lost (inr lt) = absurd (uncut.0 (q.refused (λ nothing. (let l = ap length nothing in omega (arith, l, lt)))).1)
