-- Workers give back their tickets.
use Rattle.std.proofs.Common.{◌≡◌, ◌≢◌, ◌⊎◌, ℕ, ◌+◌, ◌<◌, ◌≤◌, List, [], ◌∷◌, ◌++◌, length, map, set, get_or, refl, sym, ap, ◌∙◌, subst, inl, inr, arith, length-append}
use Rattle.std.specs.Prelude.{sum_by, slice_index_or}
use Rattle.std.proofs.lemmas.Bool.{cases_eq}
use Rattle.std.proofs.lemmas.List.{get_or-set_same, get_or-set_other, get_or_default, length-set}
use Rattle.std.proofs.lemmas.List.Sums.{sum_by-set, sum_by-append, sum_by_push}
use Rattle.std.proofs.Math.ListN.{get_or-append}
use Rattle.std.proofs.Math.Seq.{get_or-append_seam, map-set_same}
use Rattle.crossbeam_deque.specs.Handles.{view, IsPassOf, worker_deque, worker_flavor}
use Rattle.op_words.proofs.Rows.{no_more}
use Rattle.steal_explorer.specs.declared.deque_rule.Log.{Log}
use Rattle.steal_explorer.specs.declared.member.Member.{Member}
use Rattle.steal_explorer.specs.Handing.{whole, log, both, gone, parts_of}
use Rattle.steal_explorer.specs.Members.{Thief, Ticket, own, tickets_of, stolen_by, SitsAt}
use Rattle.steal_explorer.proofs.Places.{first_of, set_at}
use Rattle.steal_explorer.specs.Gathering.{Regains, HasStill, AreHolding, AreRegaining, out, KeptByWorker, kept_of, AreTotals}

-- ---- a ticket leaves a worker

module _ (ts : List Thief) (k i : ℕ) (a b : Member) (x : Ticket) (is : HasStill ts (k + 1) i a) (last : tickets_of a ≡ tickets_of b ++ x ∷ []) (same : b ≡ record a { tickets = b.tickets }) where
  front_long : length (tickets_of b) ≡ k
  front_long =
      let e : length (tickets_of a) ≡ length (tickets_of b ++ x ∷ []) = ap length last in
      let f : length (tickets_of b ++ x ∷ []) ≡ length (tickets_of b) + 1 = length-append (tickets_of b) (x ∷ []) in
      let g : length (tickets_of a) ≡ k + 1 = is.len in
      omega arith

  front_at : (j : ℕ) (d : Ticket) → j < k → slice_index_or (tickets_of a) j d ≡ slice_index_or (tickets_of b) j d
  front_at j d lt = ap (λ l. get_or l j d) last ∙ get_or-append (tickets_of b) (x ∷ []) d j (subst (λ n. j < n) (sym front_long) lt)

  -- it was the ticket of deque k
  pub last_at : (d : Ticket) → slice_index_or (tickets_of a) k d ≡ x
  last_at d = ap (λ l. get_or l k d) last ∙ ap (λ n. get_or (tickets_of b ++ x ∷ []) n d) (sym front_long) ∙ get_or-append_seam (tickets_of b) x [] d

  pub given_still : HasStill ts k i b
  given_still = record {
    number = ap (λ (m : Member). m.number) same ∙ is.number;
    fifo = ap (λ (m : Member). worker_flavor m.owner) same ∙ is.fifo;
    deque = λ t. ap (λ (m : Member). worker_deque m.owner) same ∙ is.deque t;
    len = front_long;
    seated = λ j t d lt other. subst (SitsAt (slice_index_or ts j t)) (front_at j d lt) (is.seated j t d (omega arith) other);
    guest = λ d lt. ap (λ (y : Ticket). view y) (sym (front_at i d lt)) ∙ is.guest d (omega arith);
  }

  pub own_is : own b ≡ own a
  own_is = ap own same

  -- it is of that deque
  pub sits_there : (t : Thief) → k ≢ i → SitsAt (slice_index_or ts k t) x
  sits_there t other = subst (SitsAt (slice_index_or ts k t)) (last_at x) (is.seated k t x (omega arith) other)

  pub guest_there : i ≡ k → view x ≡ log 0 [] [] [] []
  guest_there own_one = ap (λ (y : Ticket). view y) (sym (last_at x) ∙ ap (λ j. slice_index_or (tickets_of a) j x) (sym own_one)) ∙ is.guest x (omega arith)

  pub out_less : (h : ℕ → ℕ) → out h b + sum_by h (view x).stolen ≡ out h a
  out_less h =
      let e : stolen_by h (tickets_of a) ≡ stolen_by h (tickets_of b ++ x ∷ []) = ap (stolen_by h) last in
      let f : stolen_by h (tickets_of b ++ x ∷ []) ≡ stolen_by h (tickets_of b) + sum_by h (view x).stolen = sum_by_push (λ (y : Ticket). sum_by h (view y).stolen) (tickets_of b) x in
      let g : gone h (own b) ≡ gone h (own a) = ap (gone h) own_is in
      omega arith

  pub kept_less : kept_of b ≡ kept_of a
  kept_less = ap kept_of same

-- ---- a worker takes a ticket back

abbrev keeping : Member → Log → KeptByWorker
keeping m v = record { runner = m.runner; number = m.number; end = m.end; handed = m.handed; stolen = m.stolen; pushed = v.pushed; popped = v.popped; left = v.left }

module _ (ts : List Thief) (t : Thief) (many i : ℕ) (x : Ticket) (a b : Member) (sits : SitsAt t x) (regains : Regains x a b) where
  one_more : (own b).parts ≡ (own a).parts + 1
  one_more = let e : (own b).parts ≡ (own a).parts + (view x).parts = ap parts_of regains.both_is in let f : (view x).parts ≡ 1 = ap parts_of sits.view_is in omega arith

  pub regained_still : HasStill ts many i a → HasStill ts many i b
  regained_still is = record {
    number = ap (λ (m : Member). m.number) regains.is ∙ is.number;
    fifo = ap (λ (m : Member). worker_flavor m.owner) regains.is ∙ regains.same.1 ∙ is.fifo;
    deque = λ d. ap (λ (m : Member). worker_deque m.owner) regains.is ∙ regains.same.0 ∙ is.deque d;
    len = ap (λ (m : Member). length (tickets_of m)) regains.is ∙ is.len;
    seated = λ j u d lt other. subst (λ (l : List Ticket). SitsAt (slice_index_or ts j u) (slice_index_or l j d)) (ap tickets_of (sym regains.is)) (is.seated j u d lt other);
    guest = λ d lt. ap (λ (m : Member). view (slice_index_or (tickets_of m) i d)) regains.is ∙ is.guest d lt;
  }

  pub out_more : (h : ℕ → ℕ) → out h b ≡ out h a + sum_by h (view x).stolen
  out_more h =
      let e : gone h (own b) ≡ gone h (both (own a) (view x)) = ap (gone h) regains.both_is in
      let f : sum_by h ((own a).popped ++ (view x).popped) ≡ sum_by h (own a).popped + sum_by h (view x).popped = sum_by-append h (own a).popped (view x).popped in
      let g : sum_by h ((own a).stolen ++ (view x).stolen) ≡ sum_by h (own a).stolen + sum_by h (view x).stolen = sum_by-append h (own a).stolen (view x).stolen in
      let i : sum_by h ((own a).left ++ (view x).left) ≡ sum_by h (own a).left + sum_by h (view x).left = sum_by-append h (own a).left (view x).left in
      let j : sum_by h (view x).popped ≡ 0 = ap (λ (v : Log). sum_by h v.popped) sits.view_is in
      let k : sum_by h (view x).left ≡ 0 = ap (λ (v : Log). sum_by h v.left) sits.view_is in
      let l : stolen_by h (tickets_of b) ≡ stolen_by h (tickets_of a) = ap (λ (m : Member). stolen_by h (tickets_of m)) regains.is in
      omega arith

  nothing_more : (xs ys : List ℕ) → ys ≡ [] → xs ++ ys ≡ xs
  nothing_more xs ys none = ap (λ l. xs ++ l) none ∙ sym (no_more xs)

  pub kept_more : kept_of b ≡ kept_of a
  kept_more = ap (λ (m : Member). keeping m (own b)) regains.is ∙ ap (keeping a) regains.both_is
      ∙ ap (λ l. keeping a (log 0 l ((own a).popped ++ (view x).popped) [] ((own a).left ++ (view x).left))) (nothing_more (own a).pushed (view x).pushed (ap (λ (v : Log). v.pushed) sits.view_is))
      ∙ ap (λ l. keeping a (log 0 (own a).pushed l [] ((own a).left ++ (view x).left))) (nothing_more (own a).popped (view x).popped (ap (λ (v : Log). v.popped) sits.view_is))
      ∙ ap (λ l. keeping a (log 0 (own a).pushed (own a).popped [] l)) (nothing_more (own a).left (view x).left (ap (λ (v : Log). v.left) sits.view_is))

-- ---- totals

pub totals_none : (ms : List Member) → AreTotals ms ms
totals_none ms = record { out_is = λ h. refl; kept = refl }

pub totals_then : (ms ns qs : List Member) → AreTotals ms ns → AreTotals ns qs → AreTotals ms qs
totals_then ms ns qs first second = record { out_is = λ h. second.out_is h ∙ first.out_is h; kept = second.kept ∙ first.kept }

-- ---- one ticket is moved

pub still_of : (ts : List Thief) (k j : ℕ) (ms : List Member) → AreRegaining ts k j ms → j < length ms → (a : Member) → a ≡ slice_index_or ms j a → HasStill ts (k + 1) j a
still_of ts k j ms is inside a a_is = subst (HasStill ts (k + 1) j) (sym a_is) (is.still j a (omega arith) inside)

module _ (ts : List Thief) (k j : ℕ) (ms : List Member) (is : AreRegaining ts k j ms) (inside : j < length ms) (deque : k < length ms)
    (a b : Member) (x : Ticket) (a_is : a ≡ slice_index_or ms j a) (last : tickets_of a ≡ tickets_of b ++ x ∷ []) (same : b ≡ record a { tickets = b.tickets }) where
  abbrev still_a : HasStill ts (k + 1) j a
  still_a = still_of ts k j ms is inside a a_is

  abbrev ns : List Member
  ns = set ms j b

  long : length ns ≡ length ms
  long = length-set ms j b

  own_kept : (i : ℕ) (m : Member) → i < length ms → own (slice_index_or ns i m) ≡ own (slice_index_or ms i m)
  own_kept i m lt =
      set_at (λ i n. own n ≡ own (slice_index_or ms i m)) ms j b i m (subst (λ n. i < n) (sym long) lt) inside
      (λ here. own_is ts k j a b x still_a last same ∙ ap own (a_is ∙ get_or_default ms j a m inside) ∙ ap (λ n. own (slice_index_or ms n m)) (sym here))
      (λ _. refl)

  given_ns : (i : ℕ) (m : Member) → i < j + 1 → i < length ns → HasStill ts k i (slice_index_or ns i m)
  given_ns i m lt less =
      set_at (HasStill ts k) ms j b i m less inside
      (λ here. subst (λ n. HasStill ts k n b) (sym here) (given_still ts k j a b x still_a last same))
      (λ other. is.given i m (lower i lt other) (subst (λ n. i < n) long less))
    where
      lower : (i : ℕ) → i < j + 1 → i ≢ j → i < j
      lower i lt other = grind arith

  still_ns : (i : ℕ) (m : Member) → j + 1 ≤ i → i < length ns → HasStill ts (k + 1) i (slice_index_or ns i m)
  still_ns i m high less =
      set_at (HasStill ts (k + 1)) ms j b i m less inside
      (λ here. absurd (omega arith))
      (λ _. is.still i m (omega arith) (subst (λ n. i < n) long less))

  parts_ns : (i : ℕ) (m : Member) → i < length ns → (own (slice_index_or ns i m)).parts ≡ (own (slice_index_or ms i m)).parts
  parts_ns i m less = ap parts_of (own_kept i m (subst (λ n. i < n) long less))

  out_ns : (h : ℕ → ℕ) → sum_by (out h) ns + sum_by h (view x).stolen ≡ sum_by (out h) ms
  out_ns h =
      let e : sum_by (out h) (set ms j b) + out h (get_or ms j a) ≡ sum_by (out h) ms + out h b = sum_by-set (out h) ms j b a inside in
      let f : out h b + sum_by h (view x).stolen ≡ out h a = out_less ts k j a b x still_a last same h in
      let g : out h a ≡ out h (get_or ms j a) = ap (out h) a_is in
      omega arith

  kept_ns : map kept_of ns ≡ map kept_of ms
  kept_ns = map-set_same kept_of ms j b a (kept_less ts k j a b x still_a last same ∙ ap kept_of a_is)

  -- it was that of its own deque, with no part
  pub dropped : j ≡ k → AreRegaining ts k (j + 1) ns × AreTotals ms ns
  dropped own_one = (
    record {
      len = long ∙ is.len;
      few = is.few;
      given = given_ns;
      still = still_ns;
      all = λ i m high less. parts_ns i m less ∙ is.all i m high (subst (λ n. i < n) long less);
      lent = λ i m low less. ap (λ n. n + length ts) (parts_ns i m less) ∙ is.lent i m low (subst (λ n. i < n) long less);
      before = λ m low. absurd (omega arith);
      past = λ m high.
          let e : (own (slice_index_or ns k m)).parts ≡ (own (slice_index_or ms k m)).parts = parts_ns k m (subst (λ n. k < n) (sym long) deque) in
          let f : (own (slice_index_or ms k m)).parts + length ts ≡ whole + 1 + j = is.before m (omega arith) in
          omega arith;
    },
    record {
      out_is = λ h.
          let e = out_ns h in
          let f : sum_by h (view x).stolen ≡ 0 = ap (λ (v : Log). sum_by h v.stolen) (guest_there ts k j a b x still_a last same own_one) in
          omega arith;
      kept = kept_ns;
    },
  )

  -- what the worker of deque k needs to take it back
  module _ (other : j ≢ k) (c : Member) (c_is : c ≡ slice_index_or ns k c) where
    deque_ns : k < length ns
    deque_ns = subst (λ n. k < n) (sym long) deque

    c_was : c ≡ slice_index_or ms k c
    c_was = c_is ∙ get_or-set_other ms j k b c (λ e. other (sym e))

    -- it has given or will give its own
    still_c : ((n : ℕ) → HasStill ts n k c → IsPassOf (worker_deque c.owner) x)
    still_c n has = subst (λ d. IsPassOf d x) (sym (has.deque first)) (sits_there ts k j a b x still_a last same first (λ e. other (sym e))).of
      where
        first : Thief
        first = first_of ts (subst (λ n. k < n) is.len deque)

    cases_le : (n m : ℕ) → (n ≤ m) ⊎ (m < n)
    cases_le n m = grind arith

    pub of_deque : IsPassOf (worker_deque c.owner) x
    of_deque =
        elim (cases_le j k) [
          | inl low ↦ still_c (k + 1) (subst (HasStill ts (k + 1) k) (sym c_was) (is.still k c low deque))
          | inr high ↦ still_c k (subst (HasStill ts k k) (sym c_was) (is.given k c high deque))
        ]

    parts_c : (own c).parts ≡ (own (slice_index_or ms k c)).parts
    parts_c = ap (λ (m : Member). (own m).parts) c_was

    pub has_part : 0 < (own c).parts
    has_part =
        let e = parts_c in
        let few = is.few in
        elim (cases_le j k) [
          | inl low ↦ (let f : (own (slice_index_or ms k c)).parts + length ts ≡ whole + 1 + j = is.before c low in omega arith)
          | inr high ↦ (let f : (own (slice_index_or ms k c)).parts + length ts ≡ whole + j = is.past c high in omega arith)
        ]

    -- and it took it back
    module _ (e : Member) (regains : Regains x c e) where
      abbrev es : List Member
      es = set ns k e

      long_es : length es ≡ length ms
      long_es = length-set ns k e ∙ long

      a_thief : Thief
      a_thief = first_of ts (subst (λ n. k < n) is.len deque)

      sits_k : SitsAt (slice_index_or ts k a_thief) x
      sits_k = sits_there ts k j a b x still_a last same a_thief (λ e. other (sym e))

      parts_e : (own e).parts ≡ (own (slice_index_or ms k c)).parts + 1
      parts_e = one_more ts (slice_index_or ts k a_thief) k k x c e sits_k regains ∙ ap (λ n. n + 1) parts_c

      given_es : (i : ℕ) (m : Member) → i < j + 1 → i < length es → HasStill ts k i (slice_index_or es i m)
      given_es i m lt less =
          set_at (HasStill ts k) ns k e i m less deque_ns
          (λ here.
          subst (λ n. HasStill ts k n e) (sym here)
          (regained_still ts (slice_index_or ts k a_thief) k k x c e sits_k regains
          (subst (HasStill ts k k) (sym c_is) (given_ns k c (subst (λ n. n < j + 1) here lt) deque_ns))))
          (λ _. given_ns i m lt (subst (λ n. i < n) (length-set ns k e) less))

      still_es : (i : ℕ) (m : Member) → j + 1 ≤ i → i < length es → HasStill ts (k + 1) i (slice_index_or es i m)
      still_es i m high less =
          set_at (HasStill ts (k + 1)) ns k e i m less deque_ns
          (λ here.
          subst (λ n. HasStill ts (k + 1) n e) (sym here)
          (regained_still ts (slice_index_or ts k a_thief) (k + 1) k x c e sits_k regains
          (subst (HasStill ts (k + 1) k) (sym c_is) (still_ns k c (subst (λ n. j + 1 ≤ n) here high) deque_ns))))
          (λ _. still_ns i m high (subst (λ n. i < n) (length-set ns k e) less))

      -- the other deques
      parts_es : (i : ℕ) (m : Member) → i ≢ k → i < length es → (own (slice_index_or es i m)).parts ≡ (own (slice_index_or ms i m)).parts
      parts_es i m apart less = ap (λ (n : Member). (own n).parts) (get_or-set_other ns k i e m apart) ∙ parts_ns i m (subst (λ n. i < n) (length-set ns k e) less)

      parts_k : (m : Member) → (own (slice_index_or es k m)).parts ≡ (own (slice_index_or ms k m)).parts + 1
      parts_k m =
          ap (λ (n : Member). (own n).parts) (get_or-set_same ns k e m deque_ns)
          ∙ parts_e
          ∙ ap (λ (n : Member). (own n).parts + 1) (get_or_default ms k c m deque)

      pub regained : AreRegaining ts k (j + 1) es × AreTotals ms es
      regained = (
        record {
          len = long_es ∙ is.len;
          few = is.few;
          given = given_es;
          still = still_es;
          all = λ i m high less. parts_es i m (λ e. absurd (omega arith)) less ∙ is.all i m high (subst (λ n. i < n) long_es less);
          lent = λ i m low less. ap (λ n. n + length ts) (parts_es i m (λ e. absurd (omega arith)) less) ∙ is.lent i m low (subst (λ n. i < n) long_es less);
          before = λ m low.
              let e = parts_k m in
              let f : (own (slice_index_or ms k m)).parts + length ts ≡ whole + 1 + j = is.before m (omega arith) in
              omega arith;
          past = λ m high. past_es m (cases_le j k) high;
        },
        record {
          out_is = λ h.
              let p : sum_by (out h) (set ns k e) + out h (get_or ns k c) ≡ sum_by (out h) ns + out h e = sum_by-set (out h) ns k e c deque_ns in
              let q : out h c ≡ out h (get_or ns k c) = ap (out h) c_is in
              let r : out h e ≡ out h c + sum_by h (view x).stolen = out_more ts (slice_index_or ts k a_thief) k k x c e sits_k regains h in
              let s = out_ns h in
              omega arith;
          kept = map-set_same kept_of ns k e c (kept_more ts (slice_index_or ts k a_thief) k k x c e sits_k regains ∙ ap kept_of c_is) ∙ kept_ns;
        },
      )
        where
          past_es : (m : Member) → (j ≤ k) ⊎ (k < j) → k < j + 1 → (own (slice_index_or es k m)).parts + length ts ≡ whole + (j + 1)
          past_es m (inl low) high = absurd (other (omega arith))
          past_es m (inr above) high =
              let e = parts_k m in
              let f : (own (slice_index_or ms k m)).parts + length ts ≡ whole + j = is.past m above in
              omega arith

-- ---- one deque after the other

pub regaining_none : (ts : List Thief) (k : ℕ) (ms : List Member) → k < length ms → AreHolding ts (k + 1) ms → AreRegaining ts k 0 ms
regaining_none ts k ms deque is = record {
  len = is.len;
  few = is.few;
  given = λ i m lt. absurd (omega arith);
  still = λ i m _ lt. is.still i m lt;
  all = λ i m high lt. is.all i m (omega arith) lt;
  lent = λ i m low lt. is.lent i m (omega arith) lt;
  before = λ m _. let e = is.lent k m (omega arith) deque in omega arith;
  past = λ m high. absurd (omega arith);
}

pub regaining_all : (ts : List Thief) (k : ℕ) (ms : List Member) → k < length ms → (j : ℕ) → j ≡ length ms → AreRegaining ts k j ms → AreHolding ts k ms
regaining_all ts k ms deque j all is = record {
  len = is.len;
  few = is.few;
  still = λ i m lt. is.given i m (omega arith) lt;
  all = λ i m high lt.
      elim (cases_eq i k) [
        | inl same ↦ subst (λ n. (own (slice_index_or ms n m)).parts ≡ whole) (sym same) (let e = is.past m (omega arith) in let f = is.len in omega arith)
        | inr other ↦ is.all i m (higher i high other) lt
      ];
  lent = λ i m low lt. is.lent i m low lt;
}
  where
    higher : (i : ℕ) → k ≤ i → i ≢ k → k < i
    higher i high other = grind arith
