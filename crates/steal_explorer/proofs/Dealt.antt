-- Items are dealt to deques in turn.
use Rattle.std.proofs.Common.{◌≡◌, ◌≢◌, ℕ, zero, suc, ◌+◌, ◌*◌, ◌%◌, ◌<◌, ◌≤◌, Bool, true, false, not, cond, eqb, List, [], ◌∷◌, ◌++◌, length, map, filter, take, set, get_or, refl, sym, ap, ◌∙◌, subst, inl, inr, arith, length-append, add-one, add-zero, zero-add, append_assoc, zero-lt-suc, suc-le-suc}
use Rattle.std.specs.Prelude.{All, sum_by, slice_index, slice_index_or}
use Rattle.std.specs.List.{range_with_len}
use Rattle.std.proofs.lemmas.Bool.{cases_eq, eq-eqb, ne_eqb}
use Rattle.std.proofs.lemmas.List.{length-map, length-set, map-append, take_more, take_all, get_or_push, get_or_default, length-take-le}
use Rattle.std.proofs.lemmas.List.Elements.{All-map, All-filter, filter-append}
use Rattle.std.proofs.lemmas.List.Filters.{length-filter_both}
use Rattle.std.proofs.lemmas.List.FromFn.{length-range_with_len}
use Rattle.std.proofs.lemmas.List.Sums.{sum_by-cons, sum_by_push, sum_by-le}
use Rattle.std.proofs.Math.ListN.{get_or-append}
use Rattle.std.proofs.Math.Seq.{get_or-append_seam}
use Rattle.crossbeam_deque.specs.Handles.{worker_view, SameWorker}
use Rattle.interleaving_core.proofs.Bounds.{sum_below, sum_equal}
use Rattle.morph_base.specs.Graphs.{below}
use Rattle.morph_base.proofs.LevelLaws.{below_more}
use Rattle.morph_base.proofs.OutcomeLaws.{map-agree}
use Rattle.op_words.proofs.Rows.{no_more}
use Rattle.op_words.specs.Hands.{up_to}
use Rattle.steal_explorer.specs.declared.deques.Seat.{Seat}
use Rattle.steal_explorer.specs.declared.deque_rule.Log.{Log}
use Rattle.steal_explorer.specs.Dealing.{dealt_to, pushed_on, IsOpenedSeat, AreOpened, CanTake, HasGot, HaveGot}
use Rattle.steal_explorer.specs.Handing.{log, parts_of, put}
use Rattle.steal_explorer.specs.Members.{Owner, Thief}
use Rattle.abort_eager.proofs.Listing.{below_inside}
use Rattle.steal_explorer.proofs.Places.{set_at}

-- ---- what is dealt

module _ (many k : ℕ) where
  abbrev turn : ℕ → Bool
  turn i = eqb (i % many) k

  -- one more item goes to the deque whose turn it is
  pub dealt_more : (xs : List ℕ) (x : ℕ) → dealt_to many k (xs ++ x ∷ []) ≡ dealt_to many k xs ++ cond (turn (length xs)) (x ∷ []) []
  dealt_more xs x =
      let n : ℕ = length xs in
      let ys : List ℕ = xs ++ x ∷ [] in
      ap (λ m. map (slice_index ys) (filter turn (below m))) (length-append xs (x ∷ []))
      ∙ ap (λ l. map (slice_index ys) (filter turn l)) (below_more n)
      ∙ ap (map (slice_index ys)) (filter-append turn (below n) (n ∷ []))
      ∙ map-append (slice_index ys) (filter turn (below n)) (filter turn (n ∷ []))
      ∙ ap (λ l. l ++ map (slice_index ys) (filter turn (n ∷ []))) front
      ∙ ap (λ l. dealt_to many k xs ++ l) (last (turn n))
    where
      inside : All (λ i. i < length xs) (filter turn (below (length xs)))
      inside = All-filter turn (λ i. i < length xs) (below (length xs)) (below_inside (length xs))

      front : map (slice_index (xs ++ x ∷ [])) (filter turn (below (length xs))) ≡ dealt_to many k xs
      front =
          map-agree (slice_index (xs ++ x ∷ [])) (slice_index xs) (filter turn (below (length xs))) 0
          (λ j lt. get_or-append xs (x ∷ []) 0 (get_or (filter turn (below (length xs))) j 0) (inside j 0 lt))

      last : (b : Bool) → map (slice_index (xs ++ x ∷ [])) (cond b (length xs ∷ []) []) ≡ cond b (x ∷ []) []
      last true = ap (λ y. y ∷ []) (get_or-append_seam xs x [] 0)
      last false = refl

  pub dealt_few : (xs : List ℕ) → length (dealt_to many k xs) ≤ length xs
  dealt_few xs =
      let a : length (dealt_to many k xs) ≡ length (filter turn (below (length xs))) = length-map (filter turn (below (length xs))) (slice_index xs) in
      let b = length-filter_both turn (λ i. not (turn i)) (λ i. refl) (below (length xs)) in
      let c : length (below (length xs)) ≡ length xs = length-range_with_len 0 (length xs) in
      omega arith

  pub dealt_all : (P : ℕ → Type 0) (xs : List ℕ) → All P xs → All P (dealt_to many k xs)
  dealt_all P xs all = All-map P (slice_index xs) (filter turn (below (length xs))) (All-filter turn (λ i. P (slice_index xs i)) (below (length xs)) each)
    where
      each : All (λ i. P (slice_index xs i)) (below (length xs))
      each j d lt = let less = below_inside (length xs) j d lt in all (get_or (below (length xs)) j d) 0 less

-- ---- all is dealt

-- one number of those that are added is greater
bump : (f g : ℕ → ℕ) (r v n : ℕ) → r < n → g r ≡ f r + v → ((k : ℕ) → k < n → k ≢ r → g k ≡ f k) → sum_by g (below n) ≡ sum_by f (below n) + v
bump f g r v zero lt here there = absurd (omega arith)
bump f g r v (suc n) lt here there =
    let one = sum_below f n in
    let two = sum_below g n in
    elim (cases_eq r n) [
      | inl same ↦
          let last : g n ≡ f n + v = subst (λ m. g m ≡ f m + v) same here in
          let before : sum_by g (below n) ≡ sum_by f (below n) = sum_equal g f n (λ k less. there k (omega arith) (λ e. absurd (omega arith))) in
          omega arith
      | inr other ↦
          let last : g n ≡ f n = there n (omega arith) (λ e. other (sym e)) in
          let before : sum_by g (below n) ≡ sum_by f (below n) + v = bump f g r v n (less r n lt other) here (λ k low. there k (omega arith)) in
          omega arith
    ]
  where
    less : (r n : ℕ) → r < suc n → r ≢ n → r < n
    less r n lt other = grind arith

-- whatever items weigh, those that were dealt weigh as much as all
module _ (h : ℕ → ℕ) (many : ℕ) (some : 0 < many) where
  abbrev share : List ℕ → ℕ → ℕ
  share xs k = sum_by h (dealt_to many k xs)

  share_more : (xs : List ℕ) (x : ℕ) → sum_by (share (xs ++ x ∷ [])) (below many) ≡ sum_by (share xs) (below many) + h x
  share_more xs x = bump (share xs) (share (xs ++ x ∷ [])) (length xs % many) (h x) many (mod_less (length xs)) here there
    where
      mod_less : (n : ℕ) → n % many < many
      mod_less n = omega arith

      here : share (xs ++ x ∷ []) (length xs % many) ≡ share xs (length xs % many) + h x
      here =
          ap (sum_by h) (dealt_more many (length xs % many) xs x)
          ∙ ap (λ b. sum_by h (dealt_to many (length xs % many) xs ++ cond b (x ∷ []) [])) (eq-eqb (length xs % many) (length xs % many) refl)
          ∙ sum_by_push h (dealt_to many (length xs % many) xs) x

      there : (k : ℕ) → k < many → k ≢ length xs % many → share (xs ++ x ∷ []) k ≡ share xs k
      there k lt other =
          ap (sum_by h) (dealt_more many k xs x)
          ∙ ap (λ b. sum_by h (dealt_to many k xs ++ cond b (x ∷ []) [])) (ne_eqb (length xs % many) k (λ e. other (sym e)))
          ∙ ap (sum_by h) (sym (no_more (dealt_to many k xs)))

  pub dealt_sum : (xs : List ℕ) → sum_by (share xs) (below many) ≡ sum_by h xs
  dealt_sum xs = ap (λ l. sum_by (share l) (below many)) (sym all) ∙ upto (length xs) (omega arith) ∙ ap (sum_by h) all
    where
      all : take (length xs) xs ≡ xs
      all = take_all (length xs) xs (omega arith)

      none : sum_by (share []) (below many) ≡ 0
      none = let e : sum_by (share []) (below many) ≤ length (below many) * 0 = sum_by-le (share []) 0 (below many) (λ k d lt. omega arith) in omega arith

      upto : (n : ℕ) → n ≤ length xs → sum_by (share (take n xs)) (below many) ≡ sum_by h (take n xs)
      upto zero le = none
      upto (suc n) le =
          let next : take (suc n) xs ≡ take n xs ++ get_or xs n 0 ∷ [] = ap (λ m. take m xs) (sym (add-one n)) ∙ take_more xs n 0 (omega arith) in
          let before : sum_by (share (take n xs)) (below many) ≡ sum_by h (take n xs) = upto n (omega arith) in
          let one = share_more (take n xs) (get_or xs n 0) in
          let two : sum_by h (take n xs ++ get_or xs n 0 ∷ []) ≡ sum_by h (take n xs) + h (get_or xs n 0) = sum_by_push h (take n xs) (get_or xs n 0) in
          ap (λ l. sum_by (share l) (below many)) next ∙ omega (arith, before, one, two) ∙ sym (ap (sum_by h) next)

-- a sum over seats as one over their numbers
sum_placed : (f : Seat → ℕ) (g : ℕ → ℕ) (ss : List Seat) (first : ℕ) → ((k : ℕ) (s : Seat) → k < length ss → f (slice_index_or ss k s) ≡ g (first + k)) → sum_by f ss ≡ sum_by g (range_with_len first (length ss))
sum_placed f g [] first each = refl
sum_placed f g (s ∷ ss) first each =
    let a : sum_by f (s ∷ ss) ≡ f s + sum_by f ss = sum_by-cons f s ss in
    let b : sum_by g (first ∷ range_with_len (first + 1) (length ss)) ≡ g first + sum_by g (range_with_len (first + 1) (length ss)) = sum_by-cons g first (range_with_len (first + 1) (length ss)) in
    let here : f s ≡ g first = each 0 s (zero-lt-suc (length ss)) ∙ ap g (add-zero first) in
    let rest : sum_by f ss ≡ sum_by g (range_with_len (first + 1) (length ss)) = sum_placed f g ss (first + 1) (λ k d lt. each (suc k) d (suc-le-suc lt) ∙ ap g (later first k)) in
    omega arith
  where
    later : (first k : ℕ) → first + suc k ≡ first + 1 + k
    later first k = omega arith

-- the items of all deques are those that were dealt, each once
pub dealt_once : (xs : List ℕ) (ss : List Seat) → 0 < length ss → ((k : ℕ) (s : Seat) → k < length ss → pushed_on (slice_index_or ss k s) ≡ dealt_to (length ss) k xs) → (h : ℕ → ℕ)
    → sum_by (λ s. sum_by h (pushed_on s)) ss ≡ sum_by h xs
dealt_once xs ss some each h =
    sum_placed (λ s. sum_by h (pushed_on s)) (share h (length ss) some xs) ss 0 (λ k s lt. ap (sum_by h) (each k s lt) ∙ ap (share h (length ss) some xs) (sym (zero-add k)))
    ∙ dealt_sum h (length ss) some xs

-- ---- a deque is opened

pub opened_more : (capacity many : ℕ) (ts : List Thief) (ss : List Seat) (t : Thief) (s : Seat) → AreOpened capacity many ts ss → IsOpenedSeat capacity many t s → AreOpened capacity many (ts ++ t ∷ []) (ss ++ s ∷ [])
opened_more capacity many ts ss t s are is = record {
  len = let a = length-append ss (s ∷ []) in let b = length-append ts (t ∷ []) in let e = are.len in omega arith;
  each = λ k d e lt.
      elim (cases_eq k (length ss)) [
        | inl same ↦
            subst (λ (x : Thief). IsOpenedSeat capacity many x (slice_index_or (ss ++ s ∷ []) k e)) (sym (get_or_push ts t d k (sym are.len ∙ sym same)))
            (subst (IsOpenedSeat capacity many t) (sym (get_or_push ss s e k (sym same))) is)
        | inr other ↦
            let less : k < length ss = lower k (length ss) (let a = length-append ss (s ∷ []) in omega arith) other in
            subst (λ (x : Thief). IsOpenedSeat capacity many x (slice_index_or (ss ++ s ∷ []) k e)) (sym (get_or-append ts (t ∷ []) d k (subst (λ n. k < n) are.len less)))
            (subst (IsOpenedSeat capacity many (slice_index_or ts k d)) (sym (get_or-append ss (s ∷ []) e k less)) (are.each k d e less))
      ];
}
  where
    lower : (k n : ℕ) → k < n + 1 → k ≢ n → k < n
    lower k n lt other = grind arith

-- ---- a deque gets items

pub same_worker : (a b c : Owner) → SameWorker a b → SameWorker b c → SameWorker a c
same_worker a b c first second = (second.0 ∙ first.0, second.1 ∙ first.1, second.2 ∙ first.2, let low = first.3 in let high = second.3 in omega arith)

got_none : (a : Seat) → HasGot [] a a
got_none a = let v : Log = worker_view a.owner in record {
  same = (refl, refl, refl, omega arith);
  puts = ap (λ l. log v.parts l v.popped v.stolen v.left) (no_more v.pushed);
  index = omega arith;
  handed = λ n is. is ∙ ap up_to (sym (add-zero n));
  tickets = refl;
}

got_then : (xs ys : List ℕ) (a b c : Seat) → HasGot xs a b → HasGot ys b c → HasGot (xs ++ ys) a c
got_then xs ys a b c first second = let v : Log = worker_view a.owner in record {
  same = same_worker a.owner b.owner c.owner first.same second.same;
  puts = second.puts ∙ ap (λ (w : Log). put w ys) first.puts ∙ ap (λ l. log v.parts l v.popped v.stolen v.left) (append_assoc v.pushed xs ys);
  index = let e = length-append xs ys in let f = first.index in let g = second.index in omega arith;
  handed = λ n is. second.handed (n + length xs) (first.handed n is) ∙ ap up_to (let e = length-append xs ys in omega arith);
  tickets = second.tickets ∙ first.tickets;
}

-- ---- deques get items in turn

-- where there is nothing to deal
pub have_none : (xs : List ℕ) (ss : List Seat) → xs ≡ [] → HaveGot xs ss ss
have_none xs ss none = subst (λ l. HaveGot l ss ss) (sym none) (record { len = refl; each = λ k s lt. got_none (slice_index_or ss k s) })

pub take_fewer : (many few : ℕ) (ss : List Seat) → few ≤ many → All (CanTake many) ss → All (CanTake few) ss
take_fewer many few ss less all k s lt = let is = all k s lt in record { part = is.part; room = let room = is.room in omega arith }

module _ (ops : List ℕ) (ss qs : List Seat) (i at : ℕ) (have : HaveGot (take i ops) ss qs) (lt : i < length ops) (some : 0 < length ss) (at_is : at ≡ i % length ss) where
  at_small : at < length ss
  at_small = omega arith

  long : length (take i ops) ≡ i
  long = length-take-le i ops (omega arith)

  pub turn_inside : at < length qs
  turn_inside = subst (λ n. at < n) (sym have.len) at_small

  -- whoever's turn it is has room for one more
  pub can_take : All (CanTake (length ops)) ss → (s : Seat) → CanTake 1 (slice_index_or qs at s)
  can_take all s =
      let old = all at s at_small in
      let got = have.each at s at_small in
      let few = dealt_few (length ss) at (take i ops) in
      let many = long in
      let index = got.index in
      let room = old.room in
      let capacity = got.same.3 in
      let parts : (worker_view (slice_index_or qs at s).owner).parts ≡ (worker_view (slice_index_or ss at s).owner).parts = ap parts_of got.puts in
      let part = old.part in
      record { part = omega arith; room = omega arith }

  pub have_more : (s b : Seat) (op d : ℕ) → op ≡ get_or ops i d → HasGot (op ∷ []) (slice_index_or qs at s) b → HaveGot (take (i + 1) ops) ss (set qs at b)
  have_more s b op d op_is gets = record {
    len = length-set qs at b ∙ have.len;
    each = λ k e less.
        set_at (λ k q. HasGot (dealt_to (length ss) k (take (i + 1) ops)) (slice_index_or ss k e) q) qs at b k e (subst (λ n. k < n) (sym (length-set qs at b ∙ have.len)) less) turn_inside
        (λ same. subst (λ l. HasGot l (slice_index_or ss k e) b) (sym (here k same)) (got_then (dealt_to (length ss) k (take i ops)) (op ∷ []) (slice_index_or ss k e) (slice_index_or qs at s) b (before k e less same) gets))
        (λ other. subst (λ l. HasGot l (slice_index_or ss k e) (slice_index_or qs k e)) (sym (there k other)) (have.each k e less));
  }
    where
      next : take (i + 1) ops ≡ take i ops ++ op ∷ []
      next = take_more ops i d lt ∙ ap (λ x. take i ops ++ x ∷ []) (sym op_is)

      goes : (k : ℕ) → dealt_to (length ss) k (take (i + 1) ops) ≡ dealt_to (length ss) k (take i ops) ++ cond (eqb at k) (op ∷ []) []
      goes k = ap (dealt_to (length ss) k) next ∙ dealt_more (length ss) k (take i ops) op ∙ ap (λ n. dealt_to (length ss) k (take i ops) ++ cond (eqb n k) (op ∷ []) []) (ap (λ n. n % length ss) long ∙ sym at_is)

      here : (k : ℕ) → k ≡ at → dealt_to (length ss) k (take (i + 1) ops) ≡ dealt_to (length ss) k (take i ops) ++ op ∷ []
      here k same = goes k ∙ ap (λ t. dealt_to (length ss) k (take i ops) ++ cond t (op ∷ []) []) (eq-eqb at k (sym same))

      there : (k : ℕ) → k ≢ at → dealt_to (length ss) k (take (i + 1) ops) ≡ dealt_to (length ss) k (take i ops)
      there k other = goes k ∙ ap (λ t. dealt_to (length ss) k (take i ops) ++ cond t (op ∷ []) []) (ne_eqb at k (λ e. other (sym e))) ∙ sym (no_more (dealt_to (length ss) k (take i ops)))

      before : (k : ℕ) (e : Seat) → k < length ss → k ≡ at → HasGot (dealt_to (length ss) k (take i ops)) (slice_index_or ss k e) (slice_index_or qs at s)
      before k e less same =
          subst (HasGot (dealt_to (length ss) k (take i ops)) (slice_index_or ss k e)) (get_or_default qs k e s (subst (λ n. k < n) (sym have.len) less) ∙ ap (λ n. slice_index_or qs n s) same)
          (have.each k e less)
