-- Rounds one after another, from a new pipe on.
use Rattle.std.proofs.Common.{◌≡◌, ◌⊎◌, inl, inr, Bool, ℕ, ◌+◌, ◌<◌, ◌≤◌, List, [], ◌∷◌, ◌++◌, length, map, Option, Some, None, refl, ap, sym, subst, ◌∙◌, arith, append-nil, append_assoc}
use Rattle.std.specs.Prelude.{IsSome, IfSome, option_map, ◌≢◌}
use Rattle.std.proofs.lemmas.List.{length-append, map-append}
use Rattle.std.proofs.Math.ListN.{length-map}
use Rattle.std.proofs.Math.Path.{ap₂}
use Rattle.morph_base.specs.Transactions.{Transaction, by_time}
use Rattle.morph_base.specs.Plans.{transactions}
use Rattle.morph_base.specs.declared.plan.Plan.{Plan}
use Rattle.morph_base.specs.Flat.{Kept, contents}
use Rattle.morph_base.specs.States.{State}
use Rattle.morph_io.specs.Told.{ahead, ahead_ahead}
use Rattle.event_reader.specs.Accepted.{Accepted, Ending, Ended, RefusedAt, CutOff, accepted_first, closed_batches}
use Rattle.event_reader.specs.Reader.{ReaderView, new_reader, accepted_by, accepted_after, AnswersNext, TakesBytes}
use Rattle.event_reader.specs.Lines.{front}
use Rattle.event_reader.specs.Steps.{Meaning}
use Rattle.event_reader.specs.declared.fault.ReaderFault.TheVariants.{ReadFault, TooLong, OutOfMemory}
use Rattle.decision_model.specs.declared.counts.Last.{Last}
use Rattle.batch_pipe.specs.declared.items.Sent.{Sent}
use Rattle.batch_pipe.specs.declared.items.Ran.{Ran}
use Rattle.batch_pipe.specs.declared.tail.Tail.{Tail}
use Rattle.batch_pipe.specs.declared.tail.Tail.TheVariants.{End, Refused, Fault, RunMemory, Untold}
use Rattle.batch_pipe.specs.GivenBatches.{Stand, stand, with_batches}
use Rattle.batch_pipe.specs.PlannedBatches.{Plans, StopsWithTail, MayStop, ArePlansOf, AreNumbered, answer_of, plans_of}
use Rattle.batch_pipe.specs.PlanRuns.{Manner, AreRun, state_after, last_after}
use Rattle.decision_model.specs.Choices.{no_last}
use Rattle.batch_pipe.specs.PipeRounds.{PipeView, IsRound, IsGoing, IsUncut, new_pipe, number_before, or_else}
use Rattle.batch_pipe.specs.Courses.{pipe_point, pipe_start, IsCourse, ending_of}
use Rattle.batch_pipe.proofs.Ahead.{numbered-append, numbered-back}
use Rattle.batch_pipe.proofs.GivenBatches.{plans_nothing, plans_both}
use Rattle.batch_pipe.proofs.Desks.{state_after-append, last_after-append, AreRun-append, empty_is}
use Rattle.batch_pipe.proofs.Rounds.{by_both, zero_or, not_refused, takes_going}

some_same : {T : Type 0} (x y : T) → Some x ≡ Some y → x ≡ y
some_same x y e = cc

-- what has the images of some first ones, in order, is cut as they are
split_front : {X Y Z : Type 0} (f : X → Z) (g : Y → Z) (xs more : List X) (ys : List Y) → map f (xs ++ more) ≡ map g ys →
    (done : List Y) × (rest : List Y) × (ys ≡ done ++ rest) × (map f xs ≡ map g done)
split_front f g [] more ys e = ([], ys, refl, refl)
split_front f g (x ∷ xs) more [] e = absurd (cc)
split_front f g (x ∷ xs) more (y ∷ ys) e =
    let heads : f x ≡ g y = cc in
    let tails : map f (xs ++ more) ≡ map g ys = cc in
    let r = split_front f g xs more ys tails in
    (y ∷ r.0, r.1, ap (λ l. y ∷ l) r.2, ap₂ (λ h t. h ∷ t) heads r.3)

module _ {App : Type 0} (event_of : App → ℕ → Meaning) (m : Manner) where
  pub course_start : (reader : ReaderView App) (engine : Kept) (ahead : ℕ) (left : Option (List ℕ)) →
      IsCourse event_of m (pipe_start reader engine left) 0 [] (pipe_point (new_pipe reader engine ahead) left)
  unfolding AreRun state_after last_after AreNumbered
  course_start reader engine ahead left = record {
    more = [];
    stop = None;
    plans = plans_nothing event_of (stand reader left);
    runs = [];
    lost = [];
    parts = refl;
    run = tt;
    state_is = refl;
    last_is = refl;
    sent_is = refl;
    numbered = tt;
    layout = refl;
    whole = λ fine. refl;
    met = λ none. refl;
    tail_is = λ fine. refl;
    few = omega arith;
    few_going = λ going. omega arith;
  }

  pub course_round : {Teller : Type 0} {takes : Teller → Ran → Bool → Teller → Type 0} {teller teller' : Teller} {reader : ReaderView App} {engine : Kept} {left left1 left2 : Option (List ℕ)} {rounds : ℕ}
      {rans : List Ran} {b c : PipeView App} → IsCourse event_of m (pipe_start reader engine left) rounds rans (pipe_point b left1) → IsGoing b →
      (q : IsRound event_of takes m b left1 teller c left2 teller') → IsCourse event_of m (pipe_start reader engine left) (rounds + 1) (rans ++ q.rans) (pipe_point c left2)
  course_round {Teller} {takes} {teller} {teller'} {reader} {engine} {left} {left1} {left2} {rounds} {rans} {b} {c} p going q = record {
    more = p.more ++ q.more;
    stop = or_else p.stop q.stop;
    plans = plans_are b.tail refl;
    runs = p.runs ++ q.runs;
    lost = q.lost;
    parts =
        ap (λ l. l ++ q.more) p.parts
        ∙ ap (λ l. ((p.runs ++ l) ++ b.waiting) ++ q.more) none
        ∙ ap (λ l. (l ++ b.waiting) ++ q.more) (append-nil p.runs)
        ∙ append_assoc p.runs b.waiting q.more
        ∙ ap (λ l. p.runs ++ l) q.parts
        ∙ sym (append_assoc p.runs (q.runs ++ q.lost) c.waiting)
        ∙ ap (λ l. l ++ c.waiting) (sym (append_assoc p.runs q.runs q.lost));
    run = AreRun-append m (contents engine) no_last p.runs q.runs rans q.rans p.run
        (subst (λ (s : State). AreRun m s (last_after no_last rans) q.runs q.rans) p.state_is (subst (λ (l : Last). AreRun m (contents b.engine) l q.runs q.rans) p.last_is q.run));
    state_is = q.state_is ∙ ap (λ s. state_after s q.runs) p.state_is ∙ sym (state_after-append (contents engine) p.runs q.runs);
    last_is = q.last_is ∙ ap (λ l. last_after l q.rans) p.last_is ∙ sym (last_after-append no_last rans q.rans);
    sent_is = (let l = length-append p.more q.more in omega (arith, l, p.sent_is, q.sent_is));
    numbered = numbered-append 0 p.more q.more p.numbered (subst (λ n. AreNumbered n q.more) at (numbered-back (number_before b) b.waiting q.more q.numbered));
    layout = q.layout ∙ p.layout;
    whole = λ fine. lost_none fine (zero_or (length q.lost));
    met = λ no_tail. (let o = open_all no_tail (zero_or (length q.lost)) in ap (λ s. or_else s q.stop) (p.met o.0) ∙ o.1);
    tail_is = λ fine. q.met (lost_none fine.0 (zero_or (length q.lost))) fine.1 ∙ ap (λ t. or_else t q.stop) (p.tail_is going.1);
    few = (let l = length-append p.runs q.runs in let f = p.few_going going in omega (arith, l, f));
    few_going = λ after.
        let l = length-append p.runs q.runs in
        let f = p.few_going going in
        let z = ap length (lost_none after.1.0 (zero_or (length q.lost))) in
        let takes = takes_going q going after in
        omega (arith, l, f, z, takes);
  }
    where
      none : p.lost ≡ []
      none = p.whole going.1.0

      at : number_before b + length b.waiting ≡ 0 + length p.more
      at =
          let l0 = ap length p.parts in
          let l1 = length-append (p.runs ++ p.lost) b.waiting in
          omega (arith, l0, l1, p.sent_is)

      lost_none : c.tail ≢ Some RunMemory → (length q.lost ≡ 0) ⊎ (0 < length q.lost) → q.lost ≡ []
      lost_none fine (inl z) = empty_is q.lost z
      lost_none fine (inr lt) = absurd (fine (q.refused (λ nothing. (let l = ap length nothing in omega (arith, l, lt)))).1)

      open_all : c.tail ≡ None → (length q.lost ≡ 0) ⊎ (0 < length q.lost) → (b.tail ≡ None) × (q.stop ≡ None)
      open_all e (inl z) = by_both b.tail q.stop (sym (q.met (empty_is q.lost z) (not_refused c.tail e)) ∙ e)
      open_all e (inr lt) = absurd (let r = (q.refused (λ nothing. (let l = ap length nothing in omega (arith, l, lt)))).1 in cc)

      made : (ps qs : List Sent) → plans_of (ps ++ qs) ≡ plans_of ps ++ plans_of qs
      made ps qs = map-append (λ (x : Sent). x.plan) ps qs

      plans_are : (t : Option Tail) → b.tail ≡ t → Plans event_of (stand reader left) (plans_of (p.more ++ q.more)) (or_else p.stop q.stop) (stand c.reader left2)
      plans_are None e =
          let first = subst (λ (o : Option Tail). Plans event_of (stand reader left) (plans_of p.more) o (stand b.reader left1)) (p.met e) p.plans in
          let both = plans_both event_of (plans_of p.more) (plans_of q.more) first q.plans in
          subst (λ (l : List Plan). Plans event_of (stand reader left) l (or_else p.stop q.stop) (stand c.reader left2)) (sym (made p.more q.more))
          (subst (λ (o : Option Tail). Plans event_of (stand reader left) (plans_of p.more ++ plans_of q.more) o (stand c.reader left2)) (sym (ap (λ s. or_else s q.stop) (p.met e))) both)
      plans_are (Some t) e =
          let some : IsSome b.tail = subst IsSome (sym e) refl in
          let i = q.idle some in
          let same_more : p.more ≡ p.more ++ q.more = sym (append-nil p.more) ∙ ap (λ l. p.more ++ l) (sym i.0) in
          let same_stop : p.stop ≡ or_else p.stop q.stop = sym (no_more p.stop) ∙ ap (or_else p.stop) (sym i.1) in
          let same_stand : stand b.reader left1 ≡ stand c.reader left2 = ap (λ r. stand r left1) (sym i.2) ∙ ap (stand c.reader) (sym i.3) in
          subst (λ (l : List Sent). Plans event_of (stand reader left) (plans_of l) (or_else p.stop q.stop) (stand c.reader left2)) same_more
          (subst (λ (o : Option Tail). Plans event_of (stand reader left) (plans_of p.more) o (stand c.reader left2)) same_stop
          (subst (λ (s : Stand App). Plans event_of (stand reader left) (plans_of p.more) p.stop s) same_stand p.plans))
        where
          no_more : (o : Option Tail) → or_else o None ≡ o
          no_more None = refl
          no_more (Some x) = refl

  module _ {reader : ReaderView App} {engine : Kept} {left left' : Option (List ℕ)} {rounds : ℕ} {rans : List Ran} {b : PipeView App}
      (p : IsCourse event_of m (pipe_start reader engine left) rounds rans (pipe_point b left')) where
    -- once the pipe isn't going, and the runs were not cut off, all plans that were sent were run
    pub course_whole : (IsGoing b → ⊥) → IsUncut b.tail → (p.runs ≡ p.more) × (b.waiting ≡ [])
    course_whole done fine = by (zero_or (length b.waiting))
      where
        by : (length b.waiting ≡ 0) ⊎ (0 < length b.waiting) → (p.runs ≡ p.more) × (b.waiting ≡ [])
        by (inr lt) = absurd (done (inr (λ none. (let l = ap length none in omega (arith, l, lt))), fine))
        by (inl z) =
            let none : b.waiting ≡ [] = empty_is b.waiting z in (
              sym (append-nil p.runs) ∙ ap (λ l. p.runs ++ l) (sym (p.whole fine.0)) ∙ sym (append-nil (p.runs ++ p.lost)) ∙ ap (λ l. (p.runs ++ p.lost) ++ l) (sym none) ∙ sym p.parts,
              none,
            )

    -- what was run are the plans of some first ones of the batches that were read
    pub course_parts : (done : List (List Transaction)) × (rest : List (List Transaction)) × (p.plans.batches ≡ done ++ rest) × ArePlansOf done (plans_of p.runs)
    course_parts =
        split_front transactions by_time (plans_of p.runs) (plans_of (p.lost ++ b.waiting)) p.plans.batches
        (sym (ap (map transactions) (ap plans_of (p.parts ∙ append_assoc p.runs p.lost b.waiting) ∙ map-append (λ (x : Sent). x.plan) p.runs (p.lost ++ b.waiting))) ∙ p.plans.plans_are)

    -- the batches that were read are the first ones that are accepted
    pub course_front : IfSome (accepted_by event_of reader left) (λ all. (rest : List (List Transaction)) × (all.batches ≡ p.plans.batches ++ rest))
    course_front = at (accepted_by event_of reader left) (accepted_by event_of p.plans.middle.reader p.plans.middle.left) p.plans.gives.next
      where
        at : (o n : Option Accepted) → o ≡ option_map (with_batches p.plans.batches) n → IfSome o (λ all. (rest : List (List Transaction)) × (all.batches ≡ p.plans.batches ++ rest))
        at None n e = tt
        at (Some all) None e = absurd (cc)
        at (Some all) (Some rest) e = (rest.batches, ap (λ (x : Accepted). x.batches) (some_same all (with_batches p.plans.batches rest) e))

    -- where the reader told how its input ends, the batches that were read are all that are accepted
    pub course_ends : (tail : Tail) (ending : Ending) → p.stop ≡ Some tail → ending_of tail ≡ Some ending →
        IfSome (accepted_by event_of reader left) (λ all. (all.ending ≡ ending) × (all.batches ≡ p.plans.batches))
    course_ends tail ending ends told =
        let stops : StopsWithTail event_of tail p.plans.middle (stand b.reader left') = subst (λ (o : Option Tail). MayStop event_of o p.plans.middle (stand b.reader left')) ends p.plans.stops in
        at (accepted_by event_of reader left) (accepted_by event_of p.plans.middle.reader p.plans.middle.left) p.plans.gives.next
        (answered tail (accepted_by event_of p.plans.middle.reader p.plans.middle.left) (accepted_by event_of b.reader left') told stops.answers)
      where
        answered : (t : Tail) (n after : Option Accepted) → ending_of t ≡ Some ending → AnswersNext n (answer_of t) after → IfSome n (λ all. all ≡ record { batches = []; ending = ending })
        answered End None after e h = tt
        answered End (Some all) after e h = h ∙ ap (λ x. record { batches = []; ending = x }) (some_same Ended ending e)
        answered (Refused line cause) None after e h = tt
        answered (Refused line cause) (Some all) after e h = h ∙ ap (λ x. record { batches = []; ending = x }) (some_same (RefusedAt line cause) ending e)
        answered (Fault TooLong) None after e h = tt
        answered (Fault TooLong) (Some all) after e h = h ∙ ap (λ x. record { batches = []; ending = x }) (some_same CutOff ending e)
        answered (Fault ReadFault) n after e h = absurd (cc)
        answered (Fault OutOfMemory) n after e h = absurd (cc)
        answered RunMemory n after e h = absurd (cc)
        answered Untold n after e h = absurd (cc)

        at : (o n : Option Accepted) → o ≡ option_map (with_batches p.plans.batches) n → IfSome n (λ all. all ≡ record { batches = []; ending = ending }) →
            IfSome o (λ all. (all.ending ≡ ending) × (all.batches ≡ p.plans.batches))
        at None n e h = tt
        at (Some all) None e h = absurd (cc)
        at (Some all) (Some rest) e h =
            let all_is : all ≡ with_batches p.plans.batches rest = some_same all (with_batches p.plans.batches rest) e in (
              ap (λ (x : Accepted). x.ending) all_is ∙ ap (λ (x : Accepted). x.ending) h,
              ap (λ (x : Accepted). x.batches) all_is ∙ ap (λ (x : Accepted). p.plans.batches ++ x.batches) h ∙ append-nil p.plans.batches,
            )

    -- where a new reader's source failed, the batches that were read are those that are closed within the bytes taken
    pub course_cut : (app : App) (size limit : ℕ) → reader ≡ new_reader app size limit → p.stop ≡ Some (Fault ReadFault) →
        TakesBytes left left' (λ got. closed_batches (event_of app size) got ≡ p.plans.batches)
    course_cut app size limit new ends =
        let n = p.plans.middle in
        let stops : StopsWithTail event_of (Fault ReadFault) n (stand b.reader left') = subst (λ (o : Option Tail). MayStop event_of o n (stand b.reader left')) ends p.plans.stops in
        let first = p.plans.gives.shows in
        let last = stops.shows in
        let shown = first.shows (stops.asked refl) last.got in
        let all_is : accepted_first (event_of app size) 0 [] (front (first.got ++ last.got)) ≡ with_batches p.plans.batches (record { batches = []; ending = CutOff }) =
        ap (λ r. accepted_after event_of r (front (r.lines.kept ++ first.got ++ last.got))) (sym new) ∙ shown ∙ ap (with_batches p.plans.batches) last.shows in
        record {
          got = first.got ++ last.got;
          taken = first.taken ∙ ap (ahead first.got) last.taken ∙ ahead_ahead first.got last.got left';
          shows = ap (λ (x : Accepted). x.batches) all_is ∙ append-nil p.plans.batches;
        }

    pub course_few : rounds ≤ length p.plans.batches + 1
    course_few =
        let made = ap length p.plans.plans_are in
        let l0 : length (plans_of p.more) ≡ length p.more = simp length-map in
        let l1 : length (map transactions (plans_of p.more)) ≡ length (plans_of p.more) = simp length-map in
        let l2 : length (map by_time p.plans.batches) ≡ length p.plans.batches = simp length-map in
        let l3 = ap length p.parts in
        let l4 = length-append (p.runs ++ p.lost) b.waiting in
        let l5 = length-append p.runs p.lost in
        omega (arith, made, l0, l1, l2, l3, l4, l5, p.few)
