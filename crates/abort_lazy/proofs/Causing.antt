-- Why events were left, as a closed board shows it.
use Rattle.std.proofs.Common.{◌≡◌, ◌⊎◌, ℕ, ◌+◌, ◌<◌, ◌≤◌, Bool, true, false, cond, eqb, List, [], ◌∷◌, length, map, refl, sym, ap, ◌∙◌, subst, inl, inr, arith}
use Rattle.std.specs.Prelude.{Contains, All, count_by, ◌&&◌, slice_index_or, sum_by}
use Rattle.std.proofs.lemmas.Bool.{false≢true, and_from, and_parts, cond-true, cond-false, eq-eqb, eqb-true}
use Rattle.std.proofs.lemmas.List.{length-map, get_or-map}
use Rattle.std.proofs.lemmas.List.Elements.{All-contains_itself, All-weaker}
use Rattle.std.proofs.lemmas.List.Sums.{sum_by-append, sum_by-cons, get_or-le-sum_by}
use Rattle.morph_base.specs.Contents.{Contents}
use Rattle.morph_base.specs.declared.plan.Plan.{Plan}
use Rattle.morph_base.specs.declared.word.OpWord.{OpWord}
use Rattle.morph_base.specs.Graphs.{below, IsValidPlan}
use Rattle.morph_base.specs.Plans.{event_count, event_of, op_count, InEvent}
use Rattle.morph_base.specs.Words.{is_settled}
use Rattle.interleaving_core.specs.declared.entry.Settling.{Settling}
use Rattle.interleaving_core.specs.Soundness.{IsBooked}
use Rattle.interleaving_core.proofs.Basics.{count_some}
use Rattle.op_words.specs.declared.board.Board.{Board}
use Rattle.op_words.specs.declared.trail.Item.{Item}
use Rattle.op_words.specs.declared.trail.View.{View}
use Rattle.op_words.specs.Closing.{HasTrail, EndsSound}
use Rattle.op_words.specs.Hands.{counters_of}
use Rattle.op_words.specs.Trails.{left}
use Rattle.op_words.specs.Views.{HasSettled, IsSettledSeen}
use Rattle.op_words.proofs.Closing.{is_it, range_once}
use Rattle.op_words.proofs.Noting.{noted_present}
use Rattle.op_words.proofs.Sizes.{sum_inside}
use Rattle.op_words.proofs.Tagging.{trail_alone, own_within, joined_within}
use Rattle.op_eval.specs.declared.answers.Left.{Left}
use Rattle.op_eval.specs.declared.runner.Runner.{Runner}
use Rattle.op_eval.specs.Running.{hand_view}
use Rattle.op_eval.proofs.Elements.{contains_first, contains_later, contains_cases, contains_none}
use Rattle.op_eval.specs.Turns.{TakingCall, Took, Tried}
use Rattle.abort_lazy.specs.declared.transaction.TxnAnswer.{TxnAnswer}
use Rattle.abort_lazy.specs.declared.transaction.TxnAnswer.TheVariants.{Settled as AllSettled, NotYet, Busy}
use Rattle.abort_lazy.specs.Ended.{AreAtStart, AreCauses, IsKept, causes_of}
use Rattle.abort_lazy.specs.Runs.{IsLeft, IsSettling, AreSettling, root_view}
use Rattle.abort_lazy.specs.Sweeps.{MakesCalls, left_of, tried_by}
use Rattle.abort_lazy.specs.Transactions.{TxnDoes, is_all_settled}
use Rattle.abort_lazy.proofs.Carrying.{seen_more}
use Rattle.abort_lazy.proofs.Ending.{in_range}
use Rattle.abort_lazy.proofs.Gathered.{root_seen, root_trail}
use Rattle.abort_lazy.proofs.Once.{calls_made, made_of, tried_once}
use Rattle.abort_lazy.proofs.Summing.{below_has, below_least, below_some, sum_map, sum_places}
use Rattle.abort_lazy.proofs.Trying.{calls_tried, seen_taken, source_below}

-- ---- what calls keep

-- how many causes of event i are kept
abbrev pub kept_of : ℕ → List Left → ℕ
kept_of i xs = count_by (λ (x : Left). eqb x.event i) xs

kept_single : (i : ℕ) (x : Left) → kept_of i (x ∷ []) ≡ is_it i x.event
kept_single i x = sum_by-cons (λ (y : Left). cond (eqb y.event i) 1 0) x [] ∙ none_more (is_it i x.event)
  where
    none_more : (n : ℕ) → n + 0 ≡ n
    none_more n = omega arith

kept_one : (i j : ℕ) (r : TxnAnswer) → is_all_settled r ≡ false → kept_of i (left_of j r) ≡ is_it i j
kept_one i j (AllSettled committed) open_is = absurd (false≢true (sym open_is))
kept_one i j (NotYet at w) open_is = kept_single i (record { event = j; at = at; word = w; busy = false })
kept_one i j (Busy at w) open_is = kept_single i (record { event = j; at = at; word = w; busy = true })

kept_most : (i j : ℕ) (r : TxnAnswer) → kept_of i (left_of j r) ≤ is_it i j
kept_most i j (AllSettled committed) = omega arith
kept_most i j (NotYet at w) = let e = kept_one i j (NotYet at w) refl in omega (arith, e)
kept_most i j (Busy at w) = let e = kept_one i j (Busy at w) refl in omega (arith, e)

module _ (p : Plan) (i : ℕ) where
  -- no more than the event was tried
  calls_kept : (cs : List TakingCall) (a b : Runner) → MakesCalls p cs a b → kept_of i b.kept.items ≤ kept_of i a.kept.items + sum_by (tried_by (is_it i)) cs
  calls_kept [] a b calls = let same = ap (λ r. kept_of i r.kept.items) calls in omega (arith, same)
  calls_kept (Took c n ∷ cs) a b calls =
      let before = calls_kept cs a calls.0 calls.1 in
      let same = ap (λ l. kept_of i l.items) calls.2.kept in
      let first = sum_by-cons (tried_by (is_it i)) (Took c n) cs in
      omega (arith, before, same, first)
  calls_kept (Tried j ∷ cs) a b calls =
      let before = calls_kept cs a calls.0 calls.1 in
      let tries = calls.2.1 in
      let more = ap (kept_of i) tries.kept ∙ sum_by-append (λ (x : Left). cond (eqb x.event i) 1 0) calls.0.kept.items (left_of j tries.answer) in
      let most = kept_most i j tries.answer in
      let first = sum_by-cons (tried_by (is_it i)) (Tried j) cs in
      omega (arith, before, more, most, first)

  -- an event that was tried was seen settled, or a cause of it was kept
  abbrev IsAnswered : Runner → Type 0
  IsAnswered b = ((o : ℕ) → InEvent p i o → IsSettledSeen (hand_view b) o) ⊎ (1 ≤ kept_of i b.kept.items)

  answer_told : (v u : View) (r : TxnAnswer) → TxnDoes p i v u r → ((o : ℕ) → InEvent p i o → IsSettledSeen u o) ⊎ (1 ≤ kept_of i (left_of i r))
  answer_told v u (AllSettled committed) does = let tells = does.tells in inl (tells.exact.0 refl)
  answer_told v u (NotYet at w) does = let e = kept_one i i (NotYet at w) refl in let is : is_it i i ≡ 1 = cond-true (eqb i i) 1 0 (eq-eqb i i refl) in inr (omega (arith, e, is))
  answer_told v u (Busy at w) does = let e = kept_one i i (Busy at w) refl in let is : is_it i i ≡ 1 = cond-true (eqb i i) 1 0 (eq-eqb i i refl) in inr (omega (arith, e, is))

  calls_answered : (cs : List TakingCall) (a b : Runner) → MakesCalls p cs a b → Contains cs (Tried i) → IsAnswered b
  calls_answered [] a b calls found = absurd (contains_none (Tried i) found)
  calls_answered (Took c n ∷ cs) a b calls found =
      elim (contains_cases (Took c n) cs (Tried i) found) [
        | inl same ↦ absurd (apart same)
        | inr later ↦ elim (calls_answered cs a calls.0 calls.1 later) [
          | inl seen ↦ inl (λ o inside. seen_taken c n o calls.0 b calls.2 (seen o inside))
          | inr kept ↦ inr (let same = ap (λ l. kept_of i l.items) calls.2.kept in omega (arith, kept, same))
        ]
      ]
    where
      apart : Tried i ≡ Took c n → ⊥
      apart e = cc
  calls_answered (Tried j ∷ cs) a b calls found =
      let tries = calls.2.1 in
      let does = tries.does in
      let more = ap (kept_of i) tries.kept ∙ sum_by-append (λ (x : Left). cond (eqb x.event i) 1 0) calls.0.kept.items (left_of j tries.answer) in
      elim (contains_cases (Tried j) cs (Tried i) found) [
        | inl same ↦ elim (answer_told (hand_view calls.0) (hand_view b) tries.answer (subst (λ k. TxnDoes p k (hand_view calls.0) (hand_view b) tries.answer) (sym (event_is same)) does)) [
          | inl seen ↦ inl seen
          | inr kept ↦ inr (let e = ap (λ k. kept_of i (left_of k tries.answer)) (event_is same) in omega (arith, kept, more, e))
        ]
        | inr later ↦ elim (calls_answered cs a calls.0 calls.1 later) [
          | inl seen ↦ inl (λ o inside. seen_more does.goes (seen o inside))
          | inr kept ↦ inr (omega (arith, kept, more))
        ]
      ]
    where
      event_is : Tried i ≡ Tried j → i ≡ j
      event_is e = cc

has_tried : (i : ℕ) (cs : List TakingCall) → 1 ≤ sum_by (tried_by (is_it i)) cs → Contains cs (Tried i)
has_tried i [] some = absurd (omega (arith, some))
has_tried i (Took c n ∷ cs) some =
    let first = sum_by-cons (tried_by (is_it i)) (Took c n) cs in
    contains_later (Took c n) cs (Tried i) (has_tried i cs (omega (arith, some, first)))
has_tried i (Tried j ∷ cs) some =
    let first = sum_by-cons (tried_by (is_it i)) (Tried j) cs in
    split (eqb j i) refl first (has_tried i cs)
  where
    split : (b : Bool) → eqb j i ≡ b → sum_by (tried_by (is_it i)) (Tried j ∷ cs) ≡ is_it i j + sum_by (tried_by (is_it i)) cs
        → (1 ≤ sum_by (tried_by (is_it i)) cs → Contains cs (Tried i)) → Contains (Tried j ∷ cs) (Tried i)
    split true is first rest = subst (λ k. Contains (Tried j ∷ cs) (Tried k)) (eqb-true j i is) (contains_first (Tried j) cs)
    split false is first rest = contains_later (Tried j) cs (Tried i) (rest (let none : is_it i j ≡ 0 = cond-false (eqb j i) 1 0 is in omega (arith, some, first, none)))

-- ---- who settled an operation

count_has : {X : Type 0} (q : X → Bool) (xs : List X) → 1 ≤ count_by q xs → (x : X) × Contains xs x × (q x ≡ true)
count_has q [] some = absurd (omega (arith, some))
count_has {X} q (x ∷ xs) some = split (q x) refl (count_has q xs)
  where
    split : (b : Bool) → q x ≡ b → (1 ≤ count_by q xs → (y : X) × Contains xs y × (q y ≡ true)) → (y : X) × Contains (x ∷ xs) y × (q y ≡ true)
    split true is rest = (x, contains_first x xs, is)
    split false is rest =
        let first = sum_by-cons (λ (y : X). cond (q y) 1 0) x xs in
        let none = cond-false {A = ℕ} (q x) 1 0 is in
        let found = rest (omega (arith, some, first, none)) in
        (found.0, contains_later x xs found.0 found.1, found.2)

module _ {p : Plan} {cap counters : ℕ} {ws : List ℕ} {v : View} (end : EndsSound p cap counters ws v) where
  -- the root has the settling of a settled word, by the worker of that word
  pub settling_of : (o : ℕ) → o < op_count p → is_settled (end.core.word o).state ≡ true → (x : Settling) × Contains v.settlings x × (x.op ≡ o) × (x.by ≡ (end.core.word o).by)
  settling_of o lt now = (mine.0, mine.1, eqb-true mine.0.op o theirs.0, eqb-true mine.0.by (end.core.word o).by theirs.1)
    where
      booked : IsBooked end.core.settlings o (end.core.word o)
      booked = (end.sound.each_op o lt).booked

      it : (x : Settling) × Contains end.core.settlings x × (eqb x.op o ≡ true)
      it = count_has (λ (x : Settling). eqb x.op o) end.core.settlings (let one = booked.count ∙ cond-true (is_settled (end.core.word o).state) 1 0 now in omega (arith, one))

      is_ours : Settling → Bool
      is_ours x = eqb x.op o && eqb x.by (end.core.word o).by

      ours : is_ours it.0 ≡ true
      ours = and_from (eqb it.0.op o) (eqb it.0.by (end.core.word o).by) it.2 (eq-eqb it.0.by (end.core.word o).by (booked.by_word it.0 it.1 (eqb-true it.0.op o it.2)))

      mine : (x : Settling) × Contains v.settlings x × (is_ours x ≡ true)
      mine =
          count_has is_ours v.settlings
          (let all = end.settlings (λ x. cond (is_ours x) 1 0) in
          let some = count_some is_ours end.core.settlings it.0 it.1 ours in
          omega (arith, all, some))

      theirs : (eqb mine.0.op o ≡ true) × (eqb mine.0.by (end.core.word o).by ≡ true)
      theirs = and_parts (eqb mine.0.op o) (eqb mine.0.by (end.core.word o).by) mine.2

  -- that worker left it settled in its trail
  settled_there : (o worker : ℕ) (trail : List Item) → o < op_count p → is_settled (end.core.word o).state ≡ true → (end.core.word o).by ≡ worker → HasTrail v worker trail → HasSettled trail o
  settled_there o worker trail lt now by_is of_worker =
      let mine = settling_of o lt now in
      let theirs = mine.3 ∙ by_is in
      subst (HasSettled trail) mine.2
      (elim (end.booked mine.0 mine.1) [
        | inl own ↦ subst (λ zs. HasSettled zs mine.0.op) (trail_alone end worker v.trail trail (inl (own.0 ∙ theirs, refl)) of_worker) own.1
        | inr joined ↦
            subst (λ zs. HasSettled zs mine.0.op) (trail_alone end worker joined.of_tag.trail trail (inr (joined.of_tag, joined.inside, joined.tag_is ∙ theirs, refl)) of_worker)
            joined.settled
      ])

  -- and is one of those that had a hand
  pub settler_within : (o : ℕ) → o < op_count p → is_settled (end.core.word o).state ≡ true → (1 ≤ (end.core.word o).by) × ((end.core.word o).by ≤ v.made)
  settler_within o lt now =
      let mine = settling_of o lt now in
      elim (end.booked mine.0 mine.1) [
        | inl own ↦ subst (λ t. (1 ≤ t) × (t ≤ v.made)) (own.0 ∙ mine.3) (own_within end)
        | inr joined ↦ subst (λ t. (1 ≤ t) × (t ≤ v.made)) (joined.tag_is ∙ mine.3) (joined_within end joined.of_tag joined.inside)
      ]

-- ---- all runners

module _ (p : Plan) (valid : IsValidPlan p) (b : Board) (from : ℕ) (start rs : List Runner) (idle : ℕ) (d : Runner) (begun : AreAtStart from start)
    (settling : AreSettling b p from start rs) (some : 0 < length rs) {cap : ℕ} {ws : List ℕ} (end : EndsSound p cap (counters_of b) ws (root_view idle d rs)) where
  abbrev calls : ℕ → List TakingCall
  calls = calls_made p valid b from start rs idle d begun settling some end

  made : (k : ℕ) → k < length rs → MakesCalls p (calls k) (slice_index_or start k d) (slice_index_or rs k d)
  made = made_of p b from start rs d settling

  before : (k : ℕ) → k < length rs → k < length start
  before k lt = subst (λ n. k < n) settling.len lt

  -- what a runner kept is a cause
  kept_is : (k : ℕ) → k < length rs → (x : Left) → Contains (slice_index_or rs k d).kept.items x → IsKept p end.core (root_view idle d rs) (k + 1) x
  kept_is k lt x found = (
    (hand_view (slice_index_or rs k d)).trail,
    record {
      trail_is = of_worker;
      seen = elim left_is [ inl source ↦ source.seen | inr by_own ↦ by_own.seen ];
      cause =
          elim left_is [
            | inl source ↦
                let event_lt = calls_tried p valid.plan valid.graph one.tried.calls (slice_index_or start k d) (slice_index_or rs k d) one.tried.made x.event left_tried in
                let home = source_below p valid.plan valid.graph x.event source.reader x.at event_lt source.inside source.source in
                inl (record {
                  reader = source.reader;
                  inside = source.inside;
                  source = source.source;
                  settled = source.settled;
                  not_mine = λ now mine.
                      let its = settled_there end x.at (k + 1) (hand_view (slice_index_or rs k d)).trail (in_range p (event_of p x.at) x.at valid.plan home.0 home.1) now mine of_worker in
                      source.not_mine (left x.at its.word) its.inside refl refl its.settled;
                })
            | inr by_own ↦
                inr (record {
                  inside = by_own.inside;
                  cause = elim by_own.cause [ inl claimed ↦ inl (claimed.0, λ e. claimed.1 (e ∙ sym tag)) | inr shaken ↦ inr shaken ];
                })
          ];
    },
  )
    where
      one : IsSettling b p from settling.shares.parts (length p.event_levels.items) (slice_index_or start k d) (slice_index_or rs k d)
      one = settling.each k d lt

      tag : (hand_view (slice_index_or rs k d)).tag ≡ k + 1
      tag = one.tag ∙ begun.tags k d (before k lt)

      of_worker : HasTrail (root_view idle d rs) (k + 1) (hand_view (slice_index_or rs k d)).trail
      of_worker = subst (λ t. HasTrail (root_view idle d rs) t (hand_view (slice_index_or rs k d)).trail) tag (root_trail idle d rs k lt)

      left_tried : Contains one.tried.calls (Tried x.event)
      left_tried = (one.tried.left x (begun.none_kept k d (before k lt)) found).0

      left_is : IsLeft p x.event (hand_view (slice_index_or rs k d)).tag (hand_view (slice_index_or rs k d)).trail x.at x.word
      left_is = (one.tried.left x (begun.none_kept k d (before k lt)) found).1

  -- each event has one at most
  kept_once : (i : ℕ) → sum_by (λ r. kept_of i r.kept.items) rs ≤ 1
  kept_once i =
      let places = sum_places (λ r. kept_of i r.kept.items) rs d in
      let all = tried_once p valid b from start rs idle d begun settling some end (is_it i) in
      let most = range_once i 0 (event_count p) in
      let each =
      below_least (λ k. kept_of i (slice_index_or rs k d).kept.items) (λ k. sum_by (tried_by (is_it i)) (calls k)) (length rs)
      (λ k lt.
      let kept = calls_kept p i (calls k) (slice_index_or start k d) (slice_index_or rs k d) (made k lt) in
      let none = ap (kept_of i) (begun.none_kept k d (before k lt)) in
      omega (arith, kept, none)) in
      omega (arith, places, all, most, each)

  -- where an operation was not settled there is one
  kept_some : (o : ℕ) → o < op_count p → is_settled (end.core.word o).state ≡ false → 1 ≤ sum_by (λ r. kept_of (event_of p o) r.kept.items) rs
  kept_some o lt open_is =
      elim (calls_answered p i (calls who.0) (slice_index_or start who.0 d) (slice_index_or rs who.0 d) (made who.0 who.1) (has_tried i (calls who.0) who.2)) [
        | inl seen ↦
            let note = root_seen idle d rs who.0 who.1 o (seen o home.1) in
            absurd (false≢true (sym open_is ∙ ap (λ (w : OpWord). is_settled w.state) (noted_present end.noted note) ∙ note.settled))
        | inr kept ↦ let part = get_or-le-sum_by (λ r. kept_of i r.kept.items) rs who.0 d who.1 in omega (arith, kept, part)
      ]
    where
      i : ℕ
      i = event_of p o

      home : (event_of p o < event_count p) × InEvent p (event_of p o) o
      home = valid.plan.numbering.placed o lt

      who : (k : ℕ) × (k < length rs) × (1 ≤ sum_by (tried_by (is_it i)) (calls k))
      who =
          below_some (λ k. sum_by (tried_by (is_it i)) (calls k)) (length rs)
          (let all = tried_once p valid b from start rs idle d begun settling some end (is_it i) in
          let has = sum_inside (is_it i) (below (event_count p)) i (below_has (event_count p) i home.0) in
          let is : is_it i i ≡ 1 = cond-true (eqb i i) 1 0 (eq-eqb i i refl) in
          omega (arith, all, has, is))

  abbrev kept_lists : List (List Left)
  kept_lists = map (λ (r : Runner). r.kept.items) rs

  causes_are : (i : ℕ) → causes_of i kept_lists ≡ sum_by (λ r. kept_of i r.kept.items) rs
  causes_are i = sum_map (kept_of i) (λ (r : Runner). r.kept.items) rs

  pub are_causes : AreCauses p end.core (root_view idle d rs) kept_lists
  are_causes = record {
    each = λ k e lt.
        let less : k < length rs = subst (λ n. k < n) (length-map rs (λ (r : Runner). r.kept.items)) lt in
        subst (All (IsKept p end.core (root_view idle d rs) (k + 1))) (sym (get_or-map (λ (r : Runner). r.kept.items) rs k d e less))
        (All-weaker (Contains (slice_index_or rs k d).kept.items) (IsKept p end.core (root_view idle d rs) (k + 1)) (kept_is k less) (slice_index_or rs k d).kept.items
        (All-contains_itself (slice_index_or rs k d).kept.items));
    once = λ i. let same = causes_are i in let once = kept_once i in omega (arith, same, once);
    some = λ o lt open_is. let same = causes_are (event_of p o) in let once = kept_once (event_of p o) in let one = kept_some o lt open_is in omega (arith, same, once, one);
  }

-- the lists as they were gathered
pub gathered_lists : (ls : List (Contents Left)) (rs : List Runner) → ls ≡ map (λ r. r.kept) rs → map (λ (l : Contents Left). l.items) ls ≡ map (λ (r : Runner). r.kept.items) rs
gathered_lists ls rs same = ap (map (λ (l : Contents Left). l.items)) same ∙ twice rs
  where
    twice : (qs : List Runner) → map (λ (l : Contents Left). l.items) (map (λ r. r.kept) qs) ≡ map (λ (r : Runner). r.kept.items) qs
    twice [] = refl
    twice (q ∷ qs) = ap (λ zs. q.kept.items ∷ zs) (twice qs)
