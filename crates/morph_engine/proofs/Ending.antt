-- A batch from its runners at the start to its closed board.
use Rattle.std.proofs.Common.{◌≡◌, ℕ, ◌+◌, ◌-◌, ◌<◌, ◌≤◌, true, List, [], ◌∷◌, ◌++◌, append-nil, length, map, replicate, refl, sym, ap, ◌∙◌, subst, inl, inr, arith}
use Rattle.std.specs.Prelude.{Contains, drop, slice_index, slice_index_or}
use Rattle.std.proofs.lemmas.Bool.{cond-true}
use Rattle.std.proofs.lemmas.List.{length-append, length-map, length-replicate}
use Rattle.morph_base.specs.Contents.{Contents}
use Rattle.morph_base.specs.declared.plan.Plan.{Plan}
use Rattle.morph_base.specs.declared.strategy.Abort.TheVariants.{Lazy}
use Rattle.morph_base.specs.declared.strategy.Explore.{Explore}
use Rattle.morph_base.specs.declared.strategy.Explore.TheVariants.{Strata, Steal}
use Rattle.morph_base.specs.declared.word.OpWord.{OpWord}
use Rattle.morph_base.specs.Graphs.{IsValidPlan}
use Rattle.morph_base.specs.Guesses.{stale_count}
use Rattle.morph_base.specs.Limits.{most_workers}
use Rattle.morph_base.specs.Plans.{op_count}
use Rattle.morph_base.specs.Words.{is_settled}
use Rattle.interleaving_core.specs.Core.{places}
use Rattle.interleaving_core.specs.Counts.{evaluated, rolled}
use Rattle.op_words.specs.declared.board.Board.{Board}
use Rattle.op_words.specs.declared.closed.Closed.{Closed}
use Rattle.op_words.specs.declared.trail.View.{View}
use Rattle.op_words.specs.Closing.{EndsSound, IsClosed, words_of}
use Rattle.op_words.specs.Hands.{plan_of, cap_of}
use Rattle.op_words.specs.Trails.{IsCalm}
use Rattle.op_words.specs.Views.{IsLone, IsSettledSeen}
use Rattle.op_words.proofs.Noting.{noted_present}
use Rattle.op_words.proofs.Trailing.{calm_open}
use Rattle.op_eval.specs.declared.answers.Left.{Left}
use Rattle.op_eval.specs.declared.explored.Explored.{Explored}
use Rattle.op_eval.specs.declared.runner.Runner.{Runner}
use Rattle.op_eval.specs.Exploring.{MayExplore}
use Rattle.op_eval.specs.Gathering.{gathered, runners_of}
use Rattle.op_eval.specs.Running.{hand_view}
use Rattle.op_eval.specs.Alone.{IsNewRoot, HasRunAll}
use Rattle.op_eval.specs.Further.{IsFurther, HaveGoneOn}
use Rattle.strata_explorer.specs.Levels.{counters_for}
use Rattle.abort_lazy.specs.Ended.{AddsEmpty, AreAtStart, AreCauses, causes}
use Rattle.abort_lazy.specs.Finishing.{settler}
use Rattle.abort_lazy.specs.Runs.{AreAllHands, AreSettling, HasSettledAll, IsSettledByRoot, idled, root_view}
use Rattle.abort_lazy.proofs.Causing.{settler_within}
use Rattle.abort_lazy.proofs.Idle.{idled_made, idled_room, lists_are}
use Rattle.abort_lazy.proofs.Gathered.{gathered_made, gathered_room}
use Rattle.abort_lazy.proofs.Made.{places_some}
use Rattle.morph_engine.specs.declared.prepared.Prepared.{Prepared}
use Rattle.morph_engine.specs.Caps.{cap_for}
use Rattle.morph_engine.specs.Exploring.{HavePassed, HaveHanded, HasExploredBy}
use Rattle.morph_engine.specs.Runs.{run_outcome, workers_of, AreFirstRunners, IsPrepared, HasJournalRoom, HavePassedLevels, IsHandedOut, HasRunAlone, HasRun, HasHand, HaveTakenPart, IsJournalledRun}
use Rattle.morph_engine.proofs.Alone.{IsLoneRun, evaluated_alone, rolled_alone}
use Rattle.morph_engine.proofs.Passing.{named_few}
use Rattle.morph_engine.proofs.Reaching.{item_reached, places_reached, root_hand}

-- ---- runners

-- the first one
pub some_runner : (rs : List Runner) → 0 < length rs → Runner
some_runner [] some = absurd (omega (arith, some))
some_runner (r ∷ rs) some = r

-- the root's view of so many hands
root_made : (n : ℕ) (d : Runner) (rs : List Runner) → (root_view n d rs).made ≡ (hand_view (slice_index_or rs 0 d)).made + n
root_made n d rs =
    idled_made n (gathered (hand_view (slice_index_or rs 0 d)) (map hand_view (drop 1 rs))) ∙ ap (λ k. k + n) (gathered_made (hand_view (slice_index_or rs 0 d)) (map hand_view (drop 1 rs)))

-- one that was alone is the root
single_root : (n : ℕ) (d : Runner) (rs : List Runner) → n ≡ 0 → length rs ≡ 1 → root_view n d rs ≡ hand_view (slice_index_or rs 0 d)
unfolding gathered idled
single_root n d rs none one = ap (λ k. root_view k d rs) none ∙ single rs one
  where
    single : (rs : List Runner) → length rs ≡ 1 → root_view 0 d rs ≡ hand_view (slice_index_or rs 0 d)
    single [] one = absurd (omega (arith, one))
    single (r ∷ []) one = refl
    single (r ∷ q ∷ rs) one = absurd (omega (arith, one))

-- how many lists there are, with an empty one for each idle worker
lists_many : (n : ℕ) (rs : List Runner) (left : List (Contents Left)) → AddsEmpty n (map (λ r. r.kept) rs) left → length (map (λ (l : Contents Left). l.items) left) ≡ length rs + n
lists_many n rs left kept =
    let are = ap length (lists_are n rs left kept) in
    let parts = length-append (map (λ (l : Contents Left). l.items) (map (λ r. r.kept) rs)) (replicate n []) in
    let first = length-map (map (λ r. r.kept) rs) (λ (l : Contents Left). l.items) in
    let runners = length-map rs (λ r. r.kept) in
    let more : length (replicate n none) ≡ n = length-replicate n none in
    omega (arith, are, parts, first, runners, more)
  where
    none : List Left
    none = []

single_kept : (rs : List Runner) → length rs ≡ 1 → ((d : Runner) → (slice_index_or rs 0 d).kept.items ≡ []) → causes (map (λ (l : Contents Left). l.items) (map (λ r. r.kept) rs)) ≡ 0
single_kept [] one none = refl
single_kept (r ∷ []) one none = ap (λ l. causes (l ∷ [])) (none r)
single_kept (r ∷ q ∷ rs) one none = absurd (omega (arith, one))

-- a board that was made for the plan with this cap
pub closed_at : (p : Plan) (cap : ℕ) (b : Board) (n : ℕ) (v : View) (c : Closed) → plan_of b ≡ p → cap_of b ≡ cap → IsClosed (plan_of b) (cap_of b) n v c → IsClosed p cap n v c
closed_at p cap b n v c plan same is = subst (λ (z : Plan × ℕ). IsClosed z.0 z.1 n v c) (λ a. (plan a, same a)) is

-- ---- hands that further hands come from

further_first : (before rs : List Runner) → HaveGoneOn before rs → AreFirstRunners before → (k : ℕ) (d : Runner) → k < length rs → (hand_view (slice_index_or rs k d)).tag ≡ k + 1
further_first before rs further first k d lt =
    let less : k < length before = subst (λ n. k < n) further.len lt in
    (further.each k d less).tag ∙ first.tags k d less

further_all : (before rs : List Runner) → 0 < length before → HaveGoneOn before rs → AreFirstRunners before → AreAllHands rs
further_all before rs some further first t d above most =
    let made = (further.each 0 d some).made ∙ first.made d in
    let less : t - 1 < length rs = (let many = further.len in omega arith) in
    inr (t - 1, omega arith, less, further_first before rs further first (t - 1) d less ∙ omega arith)

-- a root that loaded and left nothing before has seen nothing settled
further_unseen : (a b : Runner) → IsFurther a b → (hand_view a).trail ≡ [] → (hand_view a).notes ≡ [] → IsLone (hand_view a) → (o : ℕ) → IsSettledSeen (hand_view b) o → ⊥
further_unseen a b further no_trail no_notes lone o seen =
    let inside : Contains ([] ++ further.words) seen.note = subst (λ l. Contains l seen.note) (further.notes ∙ ap (λ l. l ++ further.words) no_notes) seen.inside in
    calm_open o [] further.words (subst (λ l. IsCalm l further.words) no_trail (further.calm lone)) (λ t found own here. further.open_own t found own)
    (λ t found here settled. absurd (omega (arith, found.1))) seen.note inside seen.op_is seen.settled

module _ (p : Plan) (valid : IsValidPlan p) (x : Prepared) (prepared : IsPrepared p x) (e : Explored) (rs : List Runner) (explored : MayExplore e.board e.next_counter e.runners)
    (same_plan : plan_of e.board ≡ plan_of x.board) (same_cap : cap_of e.board ≡ cap_of x.board) (further : HaveGoneOn (runners_of x.runners) (runners_of e.runners))
    (ran : x.abort ≡ Lazy → IsNewRoot (runners_of x.runners) → HasRunAll p (runners_of e.runners))
    (settling : AreSettling e.board p e.next_counter (runners_of e.runners) rs) (by_root : IsSettledByRoot p (runners_of e.runners) rs) where
  abbrev before : List Runner
  before = runners_of x.runners

  abbrev mid : List Runner
  mid = runners_of e.runners

  some_before : 0 < length before
  some_before = prepared.ready.rest.some

  -- one worker takes part if there is one in all
  one_before : workers_of x ≡ 1 → length before ≡ 1
  one_before one = let some = some_before in omega (arith, one, some)

  none_idle : workers_of x ≡ 1 → x.idle ≡ 0
  none_idle one = let some = some_before in omega (arith, one, some)

  some_mid : 0 < length mid
  some_mid = subst (λ n. 0 < n) (sym further.len) some_before

  pub some_after : 0 < length rs
  some_after = subst (λ n. 0 < n) (sym settling.len) some_mid

  pub all_made : AreAllHands mid
  all_made = further_all before mid some_before further prepared.first

  pub begun : AreAtStart e.next_counter mid
  begun = record {
    unused = explored.unused;
    none_kept = λ k d lt. (explored.exploring k d lt).kept;
    none_joined = λ d. (further.each 0 d some_before).joined ∙ prepared.first.joined d;
    tags = further_first before mid further prepared.first;
  }

  many : length rs ≡ length before
  many = settling.len ∙ further.len

  made_is : (d : Runner) → (hand_view (slice_index_or rs 0 d)).made ≡ length before
  made_is d = (settling.each 0 d some_after).made ∙ (further.each 0 d some_before).made ∙ prepared.first.made d

  pub made_all : (d : Runner) → (root_view 0 d rs).made + x.idle ≤ most_workers
  made_all d = let all = root_made 0 d rs in let first = made_is d in let few = prepared.few in omega (arith, all, first, few)

  pub places_all : length rs + x.idle ≤ most_workers
  places_all = let few = prepared.few in let same = many in omega (arith, few, same)

  none_joined : (d : Runner) → (hand_view (slice_index_or rs 0 d)).joined ≡ []
  none_joined d = (settling.each 0 d some_after).joined ∙ begun.none_joined d

  -- ---- one worker

  module _ (one : length before ≡ 1) (d : Runner) where
    first_lone : IsLone (hand_view (slice_index_or before 0 d))
    first_lone = record { root = prepared.first.tags 0 d some_before; alone = prepared.first.made d ∙ one }

    new_root : IsNewRoot before
    new_root = record {
      one = one;
      lone = λ q. record { root = prepared.first.tags 0 q some_before; alone = prepared.first.made q ∙ one };
      fresh = prepared.first.trail;
    }

    mid_lone : IsLone (hand_view (slice_index_or mid 0 d))
    mid_lone = let more = further.each 0 d some_before in record { root = more.tag ∙ first_lone.root; alone = more.made ∙ first_lone.alone }

    settled_all : HasSettledAll p (slice_index_or rs 0 d)
    settled_all = by_root (further.len ∙ one) d mid_lone

    lone_run : x.abort ≡ Lazy → IsLoneRun p (slice_index_or mid 0 d) (slice_index_or rs 0 d)
    lone_run lazy =
        let hand = explored.rest.hands 0 d some_mid in
        let here = settling.each 0 d some_after in
        record {
          lone = mid_lone;
          told = hand.told;
          plan = hand.plan ∙ same_plan ∙ prepared.plan;
          cap = hand.cap ∙ same_cap ∙ prepared.cap ∙ ap cap_for lazy;
          ran = ran lazy new_root d;
          unseen = further_unseen (slice_index_or before 0 d) (slice_index_or mid 0 d) (further.each 0 d some_before) (prepared.first.trail d) (prepared.first.notes d) first_lone;
          calls = here.tried.calls;
          made = here.tried.made;
          none = settled_all.none;
          settled = settled_all.settled;
          alone = made_is d ∙ one;
        }

  -- ---- the closed board

  abbrev pub any : Runner
  any = some_runner rs some_after

  all_hands : (root_view x.idle any rs).made ≡ workers_of x
  all_hands = let all = root_made x.idle any rs in let first = made_is any in omega (arith, all, first)

  -- what a root that was alone settled
  all_settled : workers_of x ≡ 1 → (counters : ℕ) (closed : Closed) (is : IsClosed p (cap_for x.abort) counters (root_view x.idle any rs) closed) → (o : ℕ) → o < op_count p → is_settled (is.ends.core.word o).state ≡ true
  all_settled one counters closed is o lt =
      let seen = (settled_all (one_before one) any).settled o lt in
      let present : IsSettledSeen (root_view x.idle any rs) o = subst (λ v. IsSettledSeen v o) (sym (single_root x.idle any rs (none_idle one) (many ∙ one_before one))) seen in
      ap (λ (w : OpWord). is_settled w.state) (noted_present is.ends.noted present) ∙ present.settled

  -- the journal that it kept
  pub kept_run : (room : ℕ) → HasJournalRoom room x → workers_of x ≡ 1 → (counters : ℕ) (closed : Closed) → IsClosed p (cap_for x.abort) counters (root_view x.idle any rs) closed → IsJournalledRun p x.abort room closed
  kept_run room fits one counters closed is = record {
    counters = counters;
    view = root_view x.idle any rs;
    ended = is;
    alone = all_hands ∙ one;
    room_is =
        idled_room x.idle (gathered (hand_view (slice_index_or rs 0 any)) (map hand_view (drop 1 rs))) ∙ gathered_room (hand_view (slice_index_or rs 0 any)) (map hand_view (drop 1 rs)) ∙ (settling.each 0 any some_after).journal_room ∙ (further.each 0 any some_before).room ∙ fits any;
    settled = all_settled one counters closed is;
  }

  module _ (counters : ℕ) (fits : counters_for p ≤ counters) (closed : Closed) (is : IsClosed p (cap_for x.abort) counters (root_view x.idle any rs) closed) (left : List (Contents Left)) (kept : AddsEmpty x.idle (map (λ r. r.kept) rs) left)
      (why : AreCauses p is.ends.core (root_view x.idle any rs) (map (λ (l : Contents Left). l.items) left)) (by : List ℕ) (tags : (o : ℕ) → o < op_count p → slice_index by o ≡ settler (is.ends.core.word o)) where
    settled_by_one : workers_of x ≡ 1 → (o : ℕ) → o < op_count p → slice_index by o ≡ 1
    settled_by_one one o lt =
        let now = all_settled one counters closed is o lt in
        let within = settler_within is.ends o lt now in
        let made = all_hands ∙ one in
        let least = within.0 in
        let most = within.1 in
        tags o lt ∙ cond-true (is_settled (is.ends.core.word o).state) (is.ends.core.word o).by 0 now ∙ omega (arith, least, most, made)

    some_places : (o : ℕ) → o < op_count p → 0 < places p o
    some_places o lt = (places_some p o valid.plan lt).0

    module _ (one : workers_of x ≡ 1) (lazy : x.abort ≡ Lazy) where
      run : IsLoneRun p (slice_index_or mid 0 any) (slice_index_or rs 0 any)
      run = lone_run (one_before one) any lazy

      -- the closed board as that of the only hand, with the cap of lazy abort
      abbrev At : ((cap : ℕ) (v : View) → EndsSound p cap counters (words_of closed) v → Type 0) → ℕ × View → Type 0
      At Of z = (end : EndsSound p z.0 counters (words_of closed) z.1) → Of z.0 z.1 end

      own : ◌≡◌ {A = ℕ × View} (1, hand_view (slice_index_or rs 0 any)) (cap_for x.abort, root_view x.idle any rs)
      own a = (sym (ap cap_for lazy) a, sym (single_root x.idle any rs (none_idle one) (many ∙ one_before one)) a)

      lone_evaluated : evaluated is.ends.history ≡ op_count p + rolled is.ends.history
      lone_evaluated =
          subst (At (λ cap v end. evaluated end.history ≡ op_count p + rolled end.history)) own
          (evaluated_alone p valid.plan some_places (slice_index_or mid 0 any) (slice_index_or rs 0 any) run) is.ends

      lone_rolled : rolled is.ends.history ≡ stale_count p
      lone_rolled =
          subst (At (λ cap v end. rolled end.history ≡ stale_count p)) own
          (rolled_alone p valid.plan some_places (slice_index_or mid 0 any) (slice_index_or rs 0 any) run) is.ends

    alone : workers_of x ≡ 1 → HasRunAlone p x.abort is.ends.history (map (λ (l : Contents Left). l.items) left) by
    alone one = record {
      none =
          ap causes (lists_are x.idle rs left kept) ∙ ap (λ n. causes (map (λ (q : Contents Left). q.items) (map (λ r. r.kept) rs) ++ replicate n [])) (none_idle one)
          ∙ ap causes (append-nil (map (λ (q : Contents Left). q.items) (map (λ r. r.kept) rs))) ∙ single_kept rs (many ∙ one_before one) (λ d. (settled_all (one_before one) d).none);
      mine = settled_by_one one;
      evaluated_is = lone_evaluated one;
      rolled_is = lone_rolled one;
    }

    -- each runner took a number from the counter of each part that is shared
    took_part : HaveTakenPart p (root_view x.idle any rs) (length before) e.next_counter
    took_part = record {
      parts = settling.shares.parts;
      some = settling.are.some;
      few = settling.are.few;
      taken = λ l i k lt many_events part some_event inside.
          let there : k < length rs = (let same = many in omega (arith, inside, same)) in
          let tag = (settling.each k any there).tag ∙ begun.tags k any (subst (λ n. k < n) settling.len there) in
          elim (settling.shared l i lt part many_events k any there) [
            | inl none ↦ absurd (omega (arith, none, some_event))
            | inr took ↦
                record {
                  trail = (hand_view (slice_index_or rs k any)).trail;
                  places = (hand_view (slice_index_or rs k any)).places;
                  hand =
                      subst (λ t. HasHand (root_view x.idle any rs) t (hand_view (slice_index_or rs k any)).trail (hand_view (slice_index_or rs k any)).places) tag
                      (root_hand x.idle any rs k there);
                  number = took.0;
                  taken = took.1;
                }
          ];
    }

    module _ (explore : Explore) (handed stolen : ℕ) (way : HasExploredBy explore p x.abort before e handed stolen) where
      by_strata : explore ≡ Strata → HavePassed p x.abort e handed stolen
      by_strata same = subst (λ by. HasExploredBy by p x.abort before e handed stolen) same way

      by_deques : explore ≡ Steal → HaveHanded p x.abort before e handed stolen
      by_deques same = subst (λ by. HasExploredBy by p x.abort before e handed stolen) same way

      all_places : HavePassed p x.abort e handed stolen → HavePassedLevels p x.abort (root_view x.idle any rs)
      all_places out =
          let fewer : e.next_counter ≤ counters = (let few = named_few p x.abort e.next_counter out.list out.named in omega (arith, few, fits)) in
          record {
            counters = e.next_counter;
            list = out.list;
            named = out.named;
            places = places_reached e.board p e.next_counter out.list mid rs settling out.reached x.idle any is.ends fewer some_after (none_joined any);
          }

      all_items : HaveHanded p x.abort before e handed stolen → IsHandedOut p x.abort (workers_of x) (root_view x.idle any rs) handed stolen
      all_items out = record {
        items = out.items;
        balanced = out.balanced;
        reached = λ o found.
            let at = out.reached o found in
            item_reached e.board p e.next_counter mid rs settling x.idle any o (out.inside o found) at.0 at.1 at.2;
        alone = λ one. out.alone (new_root (one_before one) any);
      }

      pub has_run : HasRun p explore x.abort (workers_of x) closed (run_outcome (map (λ (l : Contents Left). l.items) left) by handed stolen)
      unfolding all_places by_strata
      has_run = record {
        counters = counters;
        view = root_view x.idle any rs;
        ended = is;
        hands = all_hands;
        team = length before;
        team_is = prepared.team;
        from = e.next_counter;
        took_part = took_part;
        len = lists_many x.idle rs left kept ∙ ap (λ n. n + x.idle) many;
        tags = tags;
        left = why;
        places = λ same. all_places (by_strata same);
        unhanded = λ same. let passed = by_strata same in (passed.none_handed, passed.none_stolen);
        handed_out = λ same. all_items (by_deques same);
        passes = λ same. refl;
        no_passes = λ same. (by_deques same).unused;
        alone = alone;
      }
