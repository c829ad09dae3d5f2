-- What holds of a run that reads ahead, between what is told of one batch and of the next, over plain values.
use Rattle.run_text.specs.Checks.{is_checked}
use Rattle.std.proofs.Common.{◌≡◌, ℕ, ◌+◌, ◌<◌, ◌≤◌, ◌⊎◌, inl, inr, Bool, true, List, [], ◌∷◌, ◌++◌, length, map, sum_by, Option, Some, None, Result, Err, refl, ap, sym, subst, ◌∙◌, arith, append-nil, append_assoc, false}
use Rattle.std.specs.Prelude.{IsSome, IsTrue, option_map, ◌≢◌}
use Rattle.std.proofs.lemmas.List.{map-append}
use Rattle.std.proofs.lemmas.List.Sorted.{length_permutation}
use Rattle.std.proofs.lemmas.List.Sums.{sum_by-append, sum_by-cons}
use Rattle.morph_base.specs.declared.plan.Plan.{Plan}
use Rattle.morph_base.specs.Transactions.{Transaction, by_time}
use Rattle.morph_base.specs.States.{State, opening_state, after_all}
use Rattle.morph_base.specs.Outcomes.{Fate, fates}
use Rattle.morph_base.specs.Flat.{contents}
use Rattle.morph_base.specs.Plans.{transactions}
use Rattle.morph_base.proofs.FateLaws.{length-fates}
use Rattle.morph_base.proofs.TimeLaws.{by_time-permutes}
use Rattle.decision_model.specs.declared.counts.Last.{Last}
use Rattle.morph_engine.specs.Accounts.{account_of}
use Rattle.morph_engine.specs.Fates.{settled_fates}
use Rattle.event_reader.specs.Accepted.{Accepted, with_batch}
use Rattle.event_reader.specs.Reader.{new_reader, accepted_by, accepted_after, accepted_next, TakesBytes, ShowsBatch, SameReader}
use Rattle.batch_pipe.specs.declared.items.Sent.{Sent}
use Rattle.batch_pipe.specs.declared.items.Ran.{Ran}
use Rattle.batch_pipe.specs.declared.tail.Tail.{Tail}
use Rattle.batch_pipe.specs.declared.tail.Tail.TheVariants.{RunMemory, Untold, Fault as Unread}
use Rattle.event_reader.specs.declared.fault.ReaderFault.{ReaderFault}
use Rattle.event_reader.specs.declared.fault.ReaderFault.TheVariants.{ReadFault, TooLong as LongInput, OutOfMemory as NoMemory}
use Rattle.event_reader.specs.Steps.{Meaning}
use Rattle.morph_io.specs.Told.{HasRisen}
use Rattle.std.proofs.lemmas.Bool.{cases_lt}
use Rattle.morph_cli.specs.Faults.{fault_of}
use Rattle.event_reader.specs.Lines.{front as front_lines}
use Rattle.batch_pipe.specs.GivenBatches.{Stand, stand, GivesBatches, with_batches}
use Rattle.batch_pipe.specs.PlannedBatches.{StopsWithTail, MayStop, ArePlansOf, plans_of}
use Rattle.batch_pipe.specs.PlanRuns.{Manner, IsSentRun, AreRun, picked, state_after, came_of, last_after as pipe_last}
use Rattle.batch_pipe.specs.PipeRounds.{PipeView, IsGoing, IsRound, IsUncut, new_pipe, or_else}
use Rattle.batch_pipe.proofs.Desks.{empty_is, all_middle}
use Rattle.batch_pipe.proofs.GivenBatches.{gives_nothing, gives_both}
use Rattle.batch_pipe.proofs.Rounds.{zero_or, told_or}
use Rattle.batch_pipe.specs.Results.{AreTaken, AreRefused}
use Rattle.run_text.specs.declared.choices.Settings.{Settings}
use Rattle.run_text.specs.declared.tally.Tally.{Tally}
use Rattle.run_text.specs.Reports.{report_of}
use Rattle.run_text.specs.Counts.{CountsBatch, no_tally}
use Rattle.run_text.specs.Text.{told_lines}
use Rattle.morph_cli.specs.declared.fault.Fault.{Fault}
use Rattle.morph_cli.specs.declared.fault.Fault.TheVariants.{Read, Write}
use Rattle.morph_cli.specs.declared.run.Finish.{Finish}
use Rattle.morph_cli.specs.Outputs.{Outputs, with_both, IsCutIn}
use Rattle.morph_cli.specs.Status.{status_of}
use Rattle.morph_cli.specs.Strategies.{strategy_by}
use Rattle.morph_cli.specs.Tallies.{IsMadeOf, IsSoundAccount}
use Rattle.morph_cli.specs.Batches.{lines_of_batch, note_of_batch}
use Rattle.morph_cli.specs.Tellers.{TellerView, teller_view, IsTallyBefore, CanTell, TellsRan}
use Rattle.morph_cli.proofs.RunPoints.{meaning_is}
use Rattle.morph_cli.proofs.TakenBytes.{TakesOn}
use Rattle.morph_cli.proofs.OutputLaws.{cut_text}
use Rattle.morph_cli.proofs.RunEnds.{Course, Goes, Ends, IsTold, meaning_in, accepted_in, ends_read, ends_long, ends_memory, given_at_start, goes_start, goes_batch, ends_batch_cut, told_in_batch, IsChosen}
use Rattle.morph_cli.proofs.NoteLaws.{told_note, unseen}
use Rattle.morph_cli.proofs.RunTexts.{RunsOn, fronts, option_map-same, option_map-twice, with_batch-fronts}
use Rattle.morph_cli.proofs.TallyLaws.{last_after, last_is, last_start}

-- batches put in front of some, behind others
fronts_both : (xs ys : List (List Transaction)) (all : Accepted) → fronts xs (fronts ys all) ≡ fronts (xs ++ ys) all
fronts_both xs ys all =
    let at : List (List Transaction) → Accepted = λ l. record { batches = l; ending = all.ending } in
    ap at (sym (append_assoc xs ys all.batches))

fronts_one : (batch : List Transaction) (more : List (List Transaction)) (all : Accepted) → 0 < length batch → with_batch batch (fronts more all) ≡ fronts (batch ∷ more) all
fronts_one batch more all some = with_batch-fronts [] batch (fronts more all) some ∙ fronts_both (batch ∷ []) more all

-- what has the images of two lists, one behind the other, is cut as they are
split_both : {X Y Z : Type 0} (f : X → Z) (g : Y → Z) (xs more : List X) (ys : List Y) → map f (xs ++ more) ≡ map g ys →
    (done : List Y) × (rest : List Y) × (ys ≡ done ++ rest) × (map f xs ≡ map g done) × (map f more ≡ map g rest)
split_both f g [] more ys e = ([], ys, refl, refl, e)
split_both f g (x ∷ xs) more [] e = absurd (cc)
split_both f g (x ∷ xs) more (y ∷ ys) e =
    let heads : f x ≡ g y = cc in
    let tails : map f (xs ++ more) ≡ map g ys = cc in
    let r = split_both f g xs more ys tails in
    let cons : (h h' : _) (t t' : List _) → h ≡ h' → t ≡ t' → (h ∷ t) ≡ (h' ∷ t') = λ h h' t t' a b. cc in
    (y ∷ r.0, r.1, ap (λ l. y ∷ l) r.2, cons (f x) (g y) (map f xs) (map g r.0) heads r.3, r.4)

-- no plans were run where nothing came of any, and they are of no batches
runs_none : (m : Manner) (s : State) (last : Last) (xs : List Sent) (rs : List Ran) → AreRun m s last xs rs → rs ≡ [] → xs ≡ []
unfolding AreRun
runs_none m s last [] rs run none = refl
runs_none m s last (x ∷ xs) [] run none = absurd run
runs_none m s last (x ∷ xs) (r ∷ rs) run none = absurd (cc)

of_none : (batches : List (List Transaction)) (plans : List Plan) → ArePlansOf batches plans → plans ≡ [] → batches ≡ []
of_none [] plans are none = refl
of_none (batch ∷ batches) [] are none = absurd (cc)
of_none (batch ∷ batches) (p ∷ plans) are none = absurd (cc)

-- a count of faults, over what comes later and what came before
risen_after : (old mid now : ℕ) → old ≤ mid → mid ≤ now → HasRisen mid now → HasRisen old now
risen_after old mid now first later risen few = elim (cases_lt mid 18446744073709551615) [
  | inl lt ↦ let r = risen lt in omega (arith, first, r)
  | inr ge ↦ omega (arith, few, ge, later)
]

-- the first batch can be told, where nothing is counted
pub can_tell_first : (s : Settings) (out : List ℕ) (tally : Tally) (outputs : Outputs) (sink_faults notes_faults number : ℕ) → 1 ≤ number → out ≡ [] → is_checked s.check ≡ false → tally ≡ no_tally →
    CanTell number (teller_view s out tally outputs sink_faults notes_faults)
can_tell_first s out tally outputs sink_faults notes_faults number some empty off none = record {
  empty = empty;
  unchecked = off;
  few = subst (IsTallyBefore number) (sym none) record {
    batches = omega (arith, some);
    events = omega arith;
    both = refl;
    ops = omega arith;
    evaluated = omega arith;
    rolled = omega arith;
    settled = refl;
    workers = refl;
  };
}

module _ {App : Type 0} where
  -- the batches that are still to be told: these, and those that the reader gives from where it stands
  abbrev pub from_there : Course App → List (List Transaction) → Stand App → Option Accepted
  from_there c batches at = option_map (fronts batches) (accepted_by c.event_of at.reader at.left)

  -- the pipe stands where its last batch ended, or met its tail behind that
  abbrev pub HasStopped : Course App → Option Tail → (middle at : Stand App) → Type 0
  HasStopped c None middle at = at ≡ middle
  HasStopped c (Some tail) middle at = tail ≢ RunMemory → tail ≢ Untold → StopsWithTail c.event_of tail middle at

  abbrev pub start_of : Course App → Stand App
  start_of c = stand (new_reader c.app c.size c.limit) c.input

  -- `rans` are the results of batches that were run and not yet told
  pub record Piped (c : Course App) (m : Manner) (b : PipeView App) (rans : List Ran) (left : Option (List ℕ)) (new : Outputs) (tally : Tally) (out : List ℕ) : Type 0 where
    pub middle : Stand App
    -- the batches that were run and not told, and those that were sent and not run
    pub front : List (List Transaction)
    pub behind : List (List Transaction)
    -- the state, and what came of the last batch, after those that were told
    pub state : State
    pub last : Last
    pub goes : Goes c (from_there c (front ++ behind) middle) new state tally
    pub read : GivesBatches c.event_of (start_of c) ((goes.done ++ front) ++ behind) middle
    pub stops : HasStopped c b.tail middle (stand b.reader left)
    pub runs : List Sent
    pub front_are : ArePlansOf front (plans_of runs)
    pub run : AreRun m state last runs rans
    pub others : List Sent
    pub behind_are : ArePlansOf behind (plans_of others)
    pub others_wait : b.tail ≢ Some RunMemory → others ≡ b.waiting
    pub state_is : contents b.engine ≡ state_after state runs
    pub last_is : b.last ≡ pipe_last last rans
    pub last_told : last ≡ last_after goes.done
    pub layout : b.engine.layout ≡ c.telling.layout
    pub kept : out ≡ []
    pub counted : tally.committed + tally.aborted + sum_by (λ (batch : List Transaction). length batch) (front ++ behind) ≤ middle.reader.lines.number
    pub bound : middle.reader.lines.number ≤ c.limit + 1

  -- a pipe that is new
  from_start : (c : Course App) → accepted_in c ≡ from_there c ([] ++ []) (start_of c)
  from_start c = given_at_start c.event_of c.app c.size c.limit c.input ∙ sym (option_map-same (fronts []) (λ all. refl) (accepted_by c.event_of (new_reader c.app c.size c.limit) c.input))

  pub piped_start : (c : Course App) (m : Manner) (b : PipeView App) (ahead : ℕ) (tally : Tally) (out : List ℕ) → b ≡ new_pipe (new_reader c.app c.size c.limit) b.engine ahead →
      contents b.engine ≡ opening_state → b.engine.layout ≡ c.telling.layout → tally ≡ no_tally → out ≡ [] → Piped c m b [] c.input c.old tally out
  unfolding goes_start AreRun state_after pipe_last
  piped_start c m b ahead tally out new opening layout none empty =
      subst (λ (v : PipeView App). Piped c m v [] c.input c.old tally out) (sym new) record {
        middle = start_of c;
        front = [];
        behind = [];
        state = contents b.engine;
        last = (new_pipe (new_reader c.app c.size c.limit) b.engine ahead).last;
        goes = goes_start c (from_there c ([] ++ []) (start_of c)) (contents b.engine) tally (from_start c) opening none;
        read = gives_nothing c.event_of (start_of c);
        stops = refl;
        runs = [];
        front_are = refl;
        run = tt;
        others = [];
        behind_are = refl;
        others_wait = λ fine. refl;
        state_is = refl;
        last_is = refl;
        last_told = last_start;
        layout = layout;
        kept = empty;
        counted = let committed = ap (λ (t : Tally). t.committed) none in let aborted = ap (λ (t : Tally). t.aborted) none in omega (arith, committed, aborted);
        bound = omega arith;
      }

  -- ---- a round

  module _ {Teller : Type 0} {takes : Teller → Ran → Bool → Teller → Type 0} {teller teller' : Teller} {c : Course App} {m : Manner} {b b' : PipeView App} {left left' : Option (List ℕ)} {new : Outputs}
      {tally : Tally} {out : List ℕ} (p : Piped c m b [] left new tally out) (going : IsGoing b) (q : IsRound c.event_of takes m b left teller b' left' teller') where
    runs_are : p.runs ≡ []
    runs_are = runs_none m p.state p.last p.runs [] p.run refl

    front_is : p.front ≡ []
    front_is = of_none p.front (plans_of p.runs) p.front_are (ap plans_of runs_are)

    made : (xs ys : List Sent) → plans_of (xs ++ ys) ≡ plans_of xs ++ plans_of ys
    made xs ys = map-append (λ (x : Sent). x.plan) xs ys

    -- all batches of which plans were sent and not run before it
    all_are : map transactions (plans_of q.runs ++ plans_of (q.lost ++ b'.waiting)) ≡ map by_time (p.behind ++ q.plans.batches)
    all_are =
        ap (map transactions) (sym (made q.runs (q.lost ++ b'.waiting)) ∙ ap plans_of (sym (append_assoc q.runs q.lost b'.waiting) ∙ sym q.parts) ∙ made b.waiting q.more)
        ∙ map-append transactions (plans_of b.waiting) (plans_of q.more)
        ∙ ap (λ l. map transactions (plans_of l) ++ map transactions (plans_of q.more)) (sym (p.others_wait going.1.0))
        ∙ ap (λ l. l ++ map transactions (plans_of q.more)) p.behind_are
        ∙ ap (λ l. map by_time p.behind ++ l) q.plans.plans_are
        ∙ sym (map-append by_time p.behind q.plans.batches)

    cut : (done : List (List Transaction)) × (rest : List (List Transaction)) × (p.behind ++ q.plans.batches ≡ done ++ rest)
        × (map transactions (plans_of q.runs) ≡ map by_time done) × (map transactions (plans_of (q.lost ++ b'.waiting)) ≡ map by_time rest)
    cut = split_both transactions by_time (plans_of q.runs) (plans_of (q.lost ++ b'.waiting)) (p.behind ++ q.plans.batches) all_are

    lost_or : (length q.lost ≡ 0) ⊎ (0 < length q.lost) → (q.lost ≡ []) ⊎ (b'.tail ≡ Some RunMemory)
    lost_or (inl z) = inl (empty_is q.lost z)
    lost_or (inr lt) = inr (q.refused (λ is. (let l = ap length is in omega (arith, l, lt)))).1

    -- what the pipe met in the round, or that its runs were cut off
    met_or : (tail : Option Tail) → (q.lost ≡ [] → b'.tail ≢ Some Untold → b'.tail ≡ tail) → (b'.tail ≡ tail) ⊎ (b'.tail ≡ Some RunMemory) ⊎ (b'.tail ≡ Some Untold)
    met_or tail met = by_lost (told_or b'.tail) (lost_or (zero_or (length q.lost)))
      where
        by_lost : (b'.tail ≡ Some Untold) ⊎ (b'.tail ≢ Some Untold) → (q.lost ≡ []) ⊎ (b'.tail ≡ Some RunMemory) → (b'.tail ≡ tail) ⊎ (b'.tail ≡ Some RunMemory) ⊎ (b'.tail ≡ Some Untold)
        by_lost (inl untold) lost = inr (inr untold)
        by_lost (inr told) (inl none) = inl (met none told)
        by_lost (inr told) (inr memory) = inr (inl memory)

    others_are : b'.tail ≢ Some RunMemory → q.lost ++ b'.waiting ≡ b'.waiting
    others_are fine = by_lost (lost_or (zero_or (length q.lost)))
      where
        by_lost : (q.lost ≡ []) ⊎ (b'.tail ≡ Some RunMemory) → q.lost ++ b'.waiting ≡ b'.waiting
        by_lost (inl is) = ap (λ l. l ++ b'.waiting) is
        by_lost (inr memory) = absurd (fine memory)

    -- where the pipe stands after it, and what it has read
    record Onward : Type 0 where
      middle : Stand App
      read : GivesBatches c.event_of (start_of c) (((p.goes.done ++ p.front) ++ p.behind) ++ q.plans.batches) middle
      next : GivesBatches c.event_of p.middle q.plans.batches middle
      stops : HasStopped c b'.tail middle (stand b'.reader left')

    stopped_by : (tail : Option Tail) (middle at : Stand App) → b'.tail ≡ tail → HasStopped c tail middle at → HasStopped c b'.tail middle at
    stopped_by tail middle at is stops = subst (λ (t : Option Tail). HasStopped c t middle at) (sym is) stops

    no_matter : (middle at : Stand App) → HasStopped c (Some RunMemory) middle at
    no_matter middle at = λ other told. absurd (other refl)

    untold_so : (middle at : Stand App) → HasStopped c (Some Untold) middle at
    untold_so middle at = λ other told. absurd (told refl)

    may : (tail : Option Tail) (middle at : Stand App) → MayStop c.event_of tail middle at → HasStopped c tail middle at
    may None middle at stops = stops
    may (Some tail) middle at stops = λ other told. stops

    stops_so : (tail : Option Tail) (middle : Stand App) → (q.lost ≡ [] → b'.tail ≢ Some Untold → b'.tail ≡ tail) → HasStopped c tail middle (stand b'.reader left') → HasStopped c b'.tail middle (stand b'.reader left')
    stops_so tail middle met there = by (met_or tail met)
      where
        by : (b'.tail ≡ tail) ⊎ (b'.tail ≡ Some RunMemory) ⊎ (b'.tail ≡ Some Untold) → HasStopped c b'.tail middle (stand b'.reader left')
        by (inl is) = stopped_by tail middle (stand b'.reader left') is there
        by (inr (inl memory)) = stopped_by (Some RunMemory) middle (stand b'.reader left') memory (no_matter middle (stand b'.reader left'))
        by (inr (inr untold)) = stopped_by (Some Untold) middle (stand b'.reader left') untold (untold_so middle (stand b'.reader left'))

    onward : (t : Option Tail) → b.tail ≡ t → Onward
    onward None is =
        let here : stand b.reader left ≡ p.middle = subst (λ (t : Option Tail). HasStopped c t p.middle (stand b.reader left)) is p.stops in
        let next = subst (λ (s : Stand App). GivesBatches c.event_of s q.plans.batches q.plans.middle) here q.plans.gives in
        record {
          middle = q.plans.middle;
          read = gives_both c.event_of ((p.goes.done ++ p.front) ++ p.behind) q.plans.batches p.read next;
          next = next;
          stops = stops_so q.stop q.plans.middle (λ none_lost told. q.met none_lost told ∙ ap (λ t. or_else t q.stop) is) (may q.stop q.plans.middle (stand b'.reader left') q.plans.stops);
        }
    onward (Some tail) is =
        let some : IsSome b.tail = subst IsSome (sym is) refl in
        let idle = q.idle some in
        let nothing : q.plans.batches ≡ [] = of_none q.plans.batches (plans_of q.more) q.plans.plans_are (ap plans_of idle.0) in
        let same : stand b.reader left ≡ stand b'.reader left' = ap (λ r. stand r left) (sym idle.2) ∙ ap (stand b'.reader) (sym idle.3) in
        let there : HasStopped c (Some tail) p.middle (stand b'.reader left') =
        subst (λ (s : Stand App). HasStopped c (Some tail) p.middle s) same (subst (λ (t : Option Tail). HasStopped c t p.middle (stand b.reader left)) is p.stops) in
        record {
          middle = p.middle;
          read = subst (λ l. GivesBatches c.event_of (start_of c) l p.middle) (sym (append-nil ((p.goes.done ++ p.front) ++ p.behind)) ∙ ap (λ l. ((p.goes.done ++ p.front) ++ p.behind) ++ l) (sym nothing)) p.read;
          next = subst (λ l. GivesBatches c.event_of p.middle l p.middle) (sym nothing) (gives_nothing c.event_of p.middle);
          stops = stops_so (Some tail) p.middle (λ none_lost told. q.met none_lost told ∙ ap (λ t. or_else t q.stop) is) there;
        }

    -- the batches that are to be told, in other words
    parts_are : (done : List (List Transaction)) → ((done ++ p.front) ++ p.behind) ++ q.plans.batches ≡ (done ++ cut.0) ++ cut.1
    parts_are done =
        ap (λ l. ((done ++ l) ++ p.behind) ++ q.plans.batches) front_is
        ∙ ap (λ l. (l ++ p.behind) ++ q.plans.batches) (append-nil done)
        ∙ append_assoc done p.behind q.plans.batches
        ∙ ap (λ l. done ++ l) cut.2
        ∙ sym (append_assoc done cut.0 cut.1)

    still_there : (o : Onward) → from_there c (p.front ++ p.behind) p.middle ≡ from_there c (cut.0 ++ cut.1) o.middle
    still_there o =
        let given = accepted_by c.event_of o.middle.reader o.middle.left in
        ap (option_map (fronts (p.front ++ p.behind))) o.next.next
        ∙ option_map-twice (fronts (p.front ++ p.behind)) (with_batches q.plans.batches) (fronts ((p.front ++ p.behind) ++ q.plans.batches)) (λ all. fronts_both (p.front ++ p.behind) q.plans.batches all) given
        ∙ ap (λ l. option_map (fronts l) given) (parts_are [])

    pub piped_round : Piped c m b' q.rans left' new tally out
    unfolding state_after pipe_last
    piped_round =
        let o = onward b.tail refl in
        let state : contents b.engine ≡ p.state = p.state_is ∙ ap (state_after p.state) runs_are in
        let last : b.last ≡ p.last = p.last_is in
        record {
          middle = o.middle;
          front = cut.0;
          behind = cut.1;
          state = p.state;
          last = p.last;
          goes = record {
            done = p.goes.done;
            accounts = p.goes.accounts;
            tallied = p.goes.tallied;
            runs = subst (λ now. RunsOn c.telling (accepted_in c) now c.old.sink new.sink p.state tally p.goes.done) (still_there o) p.goes.runs;
            audits = p.goes.audits;
            checked = p.goes.checked;
            audited = p.goes.audited;
            noted = p.goes.noted;
          };
          read = subst (λ l. GivesBatches c.event_of (start_of c) l o.middle) (parts_are p.goes.done) o.read;
          stops = o.stops;
          runs = q.runs;
          front_are = cut.3;
          run = subst (λ (s : State). AreRun m s p.last q.runs q.rans) state (subst (λ (l : Last). AreRun m (contents b.engine) l q.runs q.rans) last q.run);
          others = q.lost ++ b'.waiting;
          behind_are = cut.4;
          others_wait = others_are;
          state_is = q.state_is ∙ ap (λ s. state_after s q.runs) state;
          last_is = q.last_is ∙ ap (λ l. pipe_last l q.rans) last;
          last_told = p.last_told;
          layout = q.layout ∙ p.layout;
          kept = p.kept;
          counted =
              let sums = sum_by-append (λ (batch : List Transaction). length batch) (p.front ++ p.behind) q.plans.batches in
              let same = ap (sum_by (λ (batch : List Transaction). length batch)) (parts_are []) in
              omega (arith, sums, same, p.counted, o.next.counted);
          bound =
              let limit = o.next.same.2 in
              let limits = p.read.same.2 in
              let top = o.next.bound in
              let at : p.middle.reader.lines.number ≤ p.middle.reader.lines.limit + 1 = let before = p.bound in omega (arith, limits, before) in
              let after = top at in
              omega (arith, after, limit, limits);
        }

  -- ---- what came of a batch

  -- the batch that is told next, with what came of it and what is behind it
  pub record IsNext (c : Course App) (m : Manner) (p_front : List (List Transaction)) (p_runs : List Sent) (s : State) (last : Last) (r : Ran) (rs : List Ran) : Type 0 where
    pub batch : List Transaction
    pub rest : List (List Transaction)
    pub x : Sent
    pub xs : List Sent
    pub front_is : p_front ≡ batch ∷ rest
    pub runs_is : p_runs ≡ x ∷ xs
    pub of_batch : transactions x.plan ≡ by_time batch
    pub rest_are : ArePlansOf rest (plans_of xs)
    pub run : IsSentRun m s last x r
    pub later : AreRun m (after_all s (transactions x.plan)) (came_of r) xs rs

  next_of : (c : Course App) (m : Manner) (front : List (List Transaction)) (runs : List Sent) (s : State) (last : Last) (r : Ran) (rs : List Ran) →
      ArePlansOf front (plans_of runs) → AreRun m s last runs (r ∷ rs) → IsNext c m front runs s last r rs
  unfolding AreRun
  next_of c m front [] s last r rs are run = absurd run
  next_of c m [] (x ∷ xs) s last r rs are run = absurd (cc)
  next_of c m (batch ∷ rest) (x ∷ xs) s last r rs are run = record {
    batch = batch;
    rest = rest;
    x = x;
    xs = xs;
    front_is = refl;
    runs_is = refl;
    of_batch = cc;
    rest_are = cc;
    run = run.0;
    later = run.1;
  }

  module _ {c : Course App} {m : Manner} {b : PipeView App} {left : Option (List ℕ)} {new : Outputs} {tally : Tally} {out : List ℕ}
      (picks : (last : Last) (plan : Plan) → picked m.pick last plan ≡ strategy_by c.settings.planning plan last) (workers : m.workers ≡ c.settings.workers)
      {r : Ran} {rs : List Ran} (p : Piped c m b (r ∷ rs) left new tally out) where
    pub next : IsNext c m p.front p.runs p.state p.last r rs
    next = next_of c m p.front p.runs p.state p.last r rs p.front_are p.run

    abbrev pub told : List Fate
    told = settled_fates r.end.plan r.end.settled

    pub told_is : told ≡ fates p.state (by_time next.batch)
    told_is = next.run.fates_are ∙ ap (fates p.state) next.of_batch

    pub is_made : IsMadeOf p.state next.batch r.end.plan
    is_made = record { valid = next.run.valid; events = next.run.events ∙ next.of_batch; bases = next.run.bases }

    pub is_sound : IsSoundAccount c.settings.workers (account_of r.end)
    is_sound = subst (λ n. IsSoundAccount n (account_of r.end)) workers next.run.account

    pub is_chosen : IsChosen c p.goes.done (account_of r.end)
    is_chosen = next.run.run_by ∙ next.run.strategy ∙ picks p.last r.end.plan ∙ ap (strategy_by c.settings.planning r.end.plan) p.last_told

    all_is : (done : List (List Transaction)) → (done ++ p.front) ++ p.behind ≡ done ++ next.batch ∷ (next.rest ++ p.behind)
    all_is done = ap (λ l. (done ++ l) ++ p.behind) next.front_is ∙ append_assoc done (next.batch ∷ next.rest) p.behind

    pub some_events : 0 < length next.batch
    some_events =
        all_middle (λ (batch : List Transaction). 0 < length batch) ((p.goes.done ++ p.front) ++ p.behind) p.goes.done (next.rest ++ p.behind) next.batch p.read.some (all_is p.goes.done)

    pub told_many : length told ≡ length next.batch
    told_many = ap length told_is ∙ length-fates p.state (by_time next.batch) ∙ length_permutation next.batch (by_time next.batch) (by_time-permutes next.batch)

    pub some_told : 0 < length told
    some_told = let many = told_many in let some = some_events in omega (arith, many, some)

    -- the batches that are to be told behind it
    abbrev pub after : Option Accepted
    after = from_there c (next.rest ++ p.behind) p.middle

    pub was : from_there c (p.front ++ p.behind) p.middle ≡ option_map (with_batch next.batch) after
    was =
        let given = accepted_by c.event_of p.middle.reader p.middle.left in
        ap (λ l. option_map (fronts (l ++ p.behind)) given) next.front_is
        ∙ sym (option_map-twice (with_batch next.batch) (fronts (next.rest ++ p.behind)) (fronts ((next.batch ∷ next.rest) ++ p.behind))
        (λ all. fronts_one next.batch (next.rest ++ p.behind) all some_events) given)

    -- a write failed in it
    pub ends_in_run : {x : Result Finish Fault} (left' : Option (List ℕ)) (newer : Outputs) (note : List ℕ) → x ≡ Err Write → IsCutIn new (told_lines c.telling.report told) note newer → Ends c left' x newer
    ends_in_run left' newer note failed cut_there =
        ends_batch_cut after left' newer next.batch told failed p.goes some_events was told_is (cut_text new (told_lines c.telling.report told) note newer cut_there)

    pub told_in_run : {x : Result Finish Fault} (newer : Outputs) (tally' : Tally) → is_checked c.settings.check ≡ false → x ≡ Err Write → CountsBatch tally tally' (account_of r.end) told →
        IsCutIn new (told_lines c.telling.report told) (told_note c.settings tally'.batches None (account_of r.end)) newer → IsTold c (status_of x) tally' newer
    told_in_run newer tally' off failed adds cut_there =
        told_in_batch after newer next.batch None failed p.goes was some_events told_is adds is_sound is_made is_chosen some_told (unseen c.settings p.state tally.batches (account_of r.end) off) cut_there

    -- it was written
    pub piped_told : (newer : Outputs) (tally' : Tally) (out' : List ℕ) → is_checked c.settings.check ≡ false →
        newer ≡ with_both new (told_lines c.telling.report told) (told_note c.settings tally'.batches None (account_of r.end)) → out' ≡ [] →
        CountsBatch tally tally' (account_of r.end) told → Piped c m b rs left newer tally' out'
    unfolding goes_batch state_after pipe_last
    piped_told newer tally' out' off written empty adds =
        record {
          middle = p.middle;
          front = next.rest;
          behind = p.behind;
          state = after_all p.state (transactions next.x.plan);
          last = came_of r;
          goes = goes_batch c (from_there c (p.front ++ p.behind) p.middle) after new newer p.state (after_all p.state (transactions next.x.plan)) tally tally' next.batch told (account_of r.end) None p.goes
              some_events was (ap (after_all p.state) next.of_batch) told_is written (unseen c.settings p.state tally.batches (account_of r.end) off) adds is_sound is_made is_chosen some_told;
          read = subst (λ l. GivesBatches c.event_of (start_of c) l p.middle)
              (all_is p.goes.done ∙ sym (append_assoc p.goes.done (next.batch ∷ []) (next.rest ++ p.behind)) ∙ sym (append_assoc (p.goes.done ++ next.batch ∷ []) next.rest p.behind)) p.read;
          stops = p.stops;
          runs = next.xs;
          front_are = next.rest_are;
          run = next.later;
          others = p.others;
          behind_are = p.behind_are;
          others_wait = p.others_wait;
          state_is = p.state_is ∙ ap (state_after p.state) next.runs_is;
          last_is = p.last_is;
          last_told = last_is p.goes.done next.batch told (told_is ∙ ap (λ s. fates s (by_time next.batch)) p.goes.runs.state);
          layout = p.layout;
          kept = empty;
          counted =
              let sums = ap (sum_by (λ (batch : List Transaction). length batch)) (all_is []) in
              let one = sum_by-cons (λ (batch : List Transaction). length batch) next.batch (next.rest ++ p.behind) in
              let many = told_many in
              let both = adds.both in
              let counted = p.counted in
              omega (arith, sums, one, many, both, counted);
          bound = p.bound;
        }

  -- ---- what came of the batches of a round

  -- the results before these were told: where the teller stands then, from where it stood
  pub record ToldTo (c : Course App) (m : Manner) (b : PipeView App) (left : Option (List ℕ)) (v : TellerView) (rest : List Ran) (v' : TellerView) : Type 0 where
    pub run : Piped c m b rest left v'.outputs v'.tally v'.out
    pub settings : v'.settings ≡ c.settings
    pub sink_steady : v'.sink_faults ≡ v.sink_faults
    pub notes_steady : v'.notes_faults ≡ v.notes_faults

  -- a write failed in the last one that was told
  pub record IsToldShort (c : Course App) (x : Result Finish Fault) (v v' : TellerView) : Type 0 where
    pub ends : (left : Option (List ℕ)) → Ends c left x v'.outputs
    pub told : IsTold c (status_of x) v'.tally v'.outputs
    pub sink_faults : v.sink_faults ≤ v'.sink_faults
    pub notes_faults : v.notes_faults ≤ v'.notes_faults
    pub cause : HasRisen v.sink_faults v'.sink_faults ⊎ (IsTrue c.settings.notes × HasRisen v.notes_faults v'.notes_faults)

  lines_are : (c : Course App) (s : Settings) (r : Ran) → c.telling.report ≡ report_of c.settings → s ≡ c.settings → lines_of_batch s r.end ≡ told_lines c.telling.report (settled_fates r.end.plan r.end.settled)
  lines_are c s r report same = ap (λ x. lines_of_batch x r.end) same ∙ ap (λ l. told_lines l (settled_fates r.end.plan r.end.settled)) (sym report)

  note_is : (c : Course App) (s : Settings) (number : ℕ) (r : Ran) → s ≡ c.settings → note_of_batch s number None r.end ≡ told_note c.settings number None (account_of r.end)
  note_is c s number r same = ap (λ x. note_of_batch x number None r.end) same

  module _ {c : Course App} {m : Manner} {b : PipeView App} {left : Option (List ℕ)} (picks : (last : Last) (plan : Plan) → picked m.pick last plan ≡ strategy_by c.settings.planning plan last)
      (workers : m.workers ≡ c.settings.workers) (report : c.telling.report ≡ report_of c.settings) (off : is_checked c.settings.check ≡ false) where
    told_to : (rs rest : List Ran) (v v' : TellerView) → v.settings ≡ c.settings → Piped c m b (rs ++ rest) left v.outputs v.tally v.out → AreTaken TellsRan v rs v' → ToldTo c m b left v rest v'
    unfolding AreTaken
    told_to [] rest v v' same p taken = subst (λ w. ToldTo c m b left v rest w) (sym taken) record { run = p; settings = same; sink_steady = refl; notes_steady = refl }
    told_to (r ∷ rs) rest v v' same p taken =
        let u : TellerView = taken.0 in
        let t : TellsRan v r true u = taken.1 in
        let steady = t.steady refl in
        let written = t.written ∙ ap (λ l. with_both v.outputs l (note_of_batch v.settings u.tally.batches None r.end)) (lines_are c v.settings r report same)
        ∙ ap (with_both v.outputs (told_lines c.telling.report (settled_fates r.end.plan r.end.settled))) (note_is c v.settings u.tally.batches r same) in
        let next = piped_told picks workers p u.outputs u.tally u.out off written (t.empty refl) t.adds in
        let on = told_to rs rest u v' (t.settings ∙ same) next taken.2 in
        record { run = on.run; settings = on.settings; sink_steady = on.sink_steady ∙ steady.0; notes_steady = on.notes_steady ∙ steady.1 }

    pub told_whole : (rs : List Ran) (v v' : TellerView) → v.settings ≡ c.settings → Piped c m b rs left v.outputs v.tally v.out → AreTaken TellsRan v rs v' → ToldTo c m b left v [] v'
    told_whole rs v v' same p taken = told_to rs [] v v' same (subst (λ l. Piped c m b l left v.outputs v.tally v.out) (sym (append-nil rs)) p) taken

    pub told_short : {x : Result Finish Fault} (rs : List Ran) (v v' : TellerView) → x ≡ Err Write → v.settings ≡ c.settings → Piped c m b rs left v.outputs v.tally v.out → AreRefused TellsRan v rs v' →
        IsToldShort c x v v'
    told_short rs v v' failed same p q =
        let r = q.last in
        let u : TellerView = q.between in
        let on = told_to q.taken (r ∷ []) v u same (subst (λ l. Piped c m b l left v.outputs v.tally v.out) q.parts p) q.before in
        let t : TellsRan u r false v' = q.refused in
        let cut = subst (λ l. IsCutIn u.outputs l (told_note c.settings v'.tally.batches None (account_of r.end)) v'.outputs) (lines_are c u.settings r report on.settings)
        (subst (λ l. IsCutIn u.outputs (lines_of_batch u.settings r.end) l v'.outputs) (note_is c u.settings v'.tally.batches r on.settings) t.written) in
        record {
          ends = λ left'. ends_in_run picks workers on.run left' v'.outputs (told_note c.settings v'.tally.batches None (account_of r.end)) failed cut;
          told = told_in_run picks workers on.run v'.outputs v'.tally off failed t.adds cut;
          sink_faults = subst (λ n. n ≤ v'.sink_faults) on.sink_steady t.sink_faults;
          notes_faults = subst (λ n. n ≤ v'.notes_faults) on.notes_steady t.notes_faults;
          cause = subst (λ n. HasRisen n v'.sink_faults ⊎ (IsTrue c.settings.notes × HasRisen v.notes_faults v'.notes_faults)) on.sink_steady
              (subst (λ n. HasRisen u.sink_faults v'.sink_faults ⊎ (IsTrue c.settings.notes × HasRisen n v'.notes_faults)) on.notes_steady
              (subst (λ (s : Settings). HasRisen u.sink_faults v'.sink_faults ⊎ (IsTrue s.notes × HasRisen u.notes_faults v'.notes_faults)) on.settings (t.cause refl)));
        }

  -- ---- the end

  -- the run is over: no batch is left to tell, and this is where the reader stopped
  pub record IsOverAt (c : Course App) (tail : Tail) (middle at : Stand App) (new : Outputs) (s : State) (tally : Tally) : Type 0 where
    pub goes : Goes c (accepted_by c.event_of middle.reader middle.left) new s tally
    pub read : GivesBatches c.event_of (start_of c) goes.done middle
    pub stops : StopsWithTail c.event_of tail middle at

  module _ {c : Course App} {m : Manner} {b : PipeView App} {left : Option (List ℕ)} {new : Outputs} {tally : Tally} {out : List ℕ}
      (p : Piped c m b [] left new tally out) where
    no_runs : p.runs ≡ []
    no_runs = runs_none m p.state p.last p.runs [] p.run refl

    no_front : p.front ≡ []
    no_front = of_none p.front (plans_of p.runs) p.front_are (ap plans_of no_runs)

    pub state_there : contents b.engine ≡ p.state
    unfolding state_after
    state_there = p.state_is ∙ ap (state_after p.state) no_runs

    no_waiting : (IsGoing b → ⊥) → IsUncut b.tail → (length b.waiting ≡ 0) ⊎ (0 < length b.waiting) → b.waiting ≡ []
    no_waiting over fine (inl z) = empty_is b.waiting z
    no_waiting over fine (inr lt) = absurd (over (inr (λ is. (let l = ap length is in omega (arith, l, lt))), fine))

    some_fine : (tail : Tail) → b.tail ≡ Some tail → tail ≢ RunMemory → tail ≢ Untold → IsUncut b.tail
    some_fine tail is other told =
        (λ memory. other (let same : Some tail ≡ Some RunMemory = sym is ∙ memory in cc), λ untold. told (let same : Some tail ≡ Some Untold = sym is ∙ untold in cc))

    pub piped_over : (tail : Tail) → (IsGoing b → ⊥) → b.tail ≡ Some tail → tail ≢ RunMemory → tail ≢ Untold → IsOverAt c tail p.middle (stand b.reader left) new p.state tally
    piped_over tail over is other told =
        let fine = some_fine tail is other told in
        let others : p.others ≡ [] = p.others_wait fine.0 ∙ no_waiting over fine (zero_or (length b.waiting)) in
        let behind : p.behind ≡ [] = of_none p.behind (plans_of p.others) p.behind_are (ap plans_of others) in
        let all : p.front ++ p.behind ≡ [] = ap (λ l. l ++ p.behind) no_front ∙ behind in
        let given = accepted_by c.event_of p.middle.reader p.middle.left in
        let now : from_there c (p.front ++ p.behind) p.middle ≡ given = ap (λ l. option_map (fronts l) given) all ∙ option_map-same (fronts []) (λ x. refl) given in
        let done : (p.goes.done ++ p.front) ++ p.behind ≡ p.goes.done = append_assoc p.goes.done p.front p.behind ∙ ap (λ l. p.goes.done ++ l) all ∙ append-nil p.goes.done in
        record {
          goes = record {
            done = p.goes.done;
            accounts = p.goes.accounts;
            tallied = p.goes.tallied;
            runs = subst (λ n. RunsOn c.telling (accepted_in c) n c.old.sink new.sink p.state tally p.goes.done) now p.goes.runs;
            audits = p.goes.audits;
            checked = p.goes.checked;
            audited = p.goes.audited;
            noted = p.goes.noted;
          };
          read = subst (λ l. GivesBatches c.event_of (start_of c) l p.middle) done p.read;
          stops = (subst (λ (t : Option Tail). HasStopped c t p.middle (stand b.reader left)) is p.stops) other told;
        }

  -- the source failed behind the batches that were told
  pub takes_over : (c : Course App) (tail : Tail) (middle at : Stand App) (new : Outputs) (s : State) (tally : Tally) (o : IsOverAt c tail middle at new s tally) →
      TakesOn (meaning_in c) c.input middle.left middle.reader.past middle.reader.lines o.goes.done
  takes_over c tail middle at new s tally o =
      let taken = o.read.shows in
      record {
        taken = taken.got;
        parts = taken.taken;
        shows = λ unended more. taken.shows unended more ∙ ap (λ r. fronts o.goes.done r) (meaning_along c middle o.read.same more);
      }
    where
      meaning_along : (c : Course App) (middle : Stand App) → SameReader (new_reader c.app c.size c.limit) middle.reader → (more : List ℕ) →
          accepted_after c.event_of middle.reader (front_lines (middle.reader.lines.kept ++ more)) ≡ accepted_next (meaning_in c) middle.reader.past middle.reader.lines (front_lines (middle.reader.lines.kept ++ more))
      meaning_along c middle same more =
          ap (λ m. accepted_next m middle.reader.past middle.reader.lines (front_lines (middle.reader.lines.kept ++ more))) (meaning_is c middle.reader same.0 same.1)

  pub ends_unread : {x : Result Finish Fault} (c : Course App) (middle : Stand App) (at : Stand App) (new : Outputs) (s : State) (tally : Tally) → x ≡ Err Read →
      IsOverAt c (Unread ReadFault) middle at new s tally → Ends c at.left x new
  ends_unread {x} c middle at new s tally failed o =
      subst (λ y. Ends c at.left y new) (sym failed)
      (ends_read c (accepted_by c.event_of middle.reader middle.left) new s tally middle.left at.left middle.reader.past middle.reader.lines o.goes
      (takes_over c (Unread ReadFault) middle at new s tally o) (o.stops.asked refl)
      (subst (λ m. TakesBytes middle.left at.left (ShowsBatch m middle.reader.past middle.reader.lines (Err ReadFault) at.reader.past at.reader.lines)) (meaning_is c middle.reader o.read.same.0 o.read.same.1) o.stops.shows))

  -- ---- the ends of a run

  -- the reader failed
  pub ends_by : {c : Course App} {m : Manner} {b : PipeView App} {left : Option (List ℕ)} {new : Outputs} {tally : Tally} {out : List ℕ} {x : Result Finish Fault}
      (fault : ReaderFault) → x ≡ Err (fault_of fault) → Piped c m b [] left new tally out → (IsGoing b → ⊥) → b.tail ≡ Some (Unread fault) → Ends c left x new
  ends_by {c} {m} {b} {left} {new} {tally} {out} {x} ReadFault failed p over is =
      ends_unread c p.middle (stand b.reader left) new p.state tally failed (piped_over p (Unread ReadFault) over is (λ e. absurd (cc)) (λ e. absurd (cc)))
  ends_by {c} {m} {b} {left} {new} {tally} {out} {x} LongInput failed p over is =
      let o = piped_over p (Unread LongInput) over is (λ e. absurd (cc)) (λ e. absurd (cc)) in
      subst (λ y. Ends c left y new) (sym failed) (ends_long c (accepted_by c.event_of p.middle.reader p.middle.left) new p.state tally left o.goes o.stops.answers)
  ends_by {c} {m} {b} {left} {new} {tally} {out} {x} NoMemory failed p over is = ends_memory left failed p.goes

  -- where the source failed in a round, or before it
  pub read_in_round : {Teller : Type 0} {takes : Teller → Ran → Bool → Teller → Type 0} {teller teller' : Teller} {event_of : App → ℕ → Meaning} {m : Manner} {b b' : PipeView App} {left left' : Option (List ℕ)}
      (old mid now : ℕ) → IsRound event_of takes m b left teller b' left' teller' → old ≤ mid → mid ≤ now → (b.tail ≡ Some (Unread ReadFault) → HasRisen old mid) → (b.tail ≡ None → b'.tail ≡ Some (Unread ReadFault) → HasRisen mid now) →
      b'.tail ≡ Some (Unread ReadFault) → HasRisen old now
  read_in_round {event_of = event_of} {m = m} {b = b} {b' = b'} {left = left} {left' = left'} old mid now q first later before in_round is = by_tail b.tail refl
    where
      by_lost : (tail : Tail) → b.tail ≡ Some tail → (length q.lost ≡ 0) ⊎ (0 < length q.lost) → HasRisen old now
      by_lost tail e (inr lt) = absurd (let memory = (q.refused (λ nothing. (let l = ap length nothing in omega (arith, l, lt)))).1 in cc)
      by_lost tail e (inl z) =
          let met : b'.tail ≡ Some tail = q.met (empty_is q.lost z) (λ untold. (let both = sym is ∙ untold in cc)) ∙ ap (λ t. or_else t q.stop) e in
          let same : Some tail ≡ Some (Unread ReadFault) = sym met ∙ is in
          let risen = before (e ∙ same) in
          λ few. (let r = risen few in omega (arith, r, later))

      by_tail : (t : Option Tail) → b.tail ≡ t → HasRisen old now
      by_tail None e = risen_after old mid now first later (in_round e is)
      by_tail (Some tail) e = by_lost tail e (zero_or (length q.lost))
