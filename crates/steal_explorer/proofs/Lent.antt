-- Workers get tickets of one another's deques.
use Rattle.std.proofs.Common.{◌≡◌, ◌≢◌, ℕ, ◌+◌, ◌<◌, ◌≤◌, List, [], ◌∷◌, ◌++◌, length, set, get_or, refl, sym, ap, ◌∙◌, subst, inl, inr, arith, length-append}
use Rattle.std.specs.Prelude.{sum_by, slice_index_or}
use Rattle.std.proofs.lemmas.Bool.{cases_eq, cases_lt}
use Rattle.std.proofs.lemmas.List.{get_or-set_same, get_or-set_other, get_or_default, length-set, get_or_push}
use Rattle.std.proofs.lemmas.List.Sums.{sum_by_push}
use Rattle.std.proofs.Math.ListN.{get_or-append}
use Rattle.crossbeam_deque.specs.Handles.{view, IsPassOf, worker_deque, stealer_deque, worker_view}
use Rattle.steal_explorer.specs.declared.deques.Seat.{Seat}
use Rattle.steal_explorer.specs.declared.deque_rule.Log.{Log}
use Rattle.steal_explorer.specs.Handing.{whole, log}
use Rattle.steal_explorer.specs.Lending.{LendsPart, Gets, HasFirstTickets, AreLending}
use Rattle.steal_explorer.specs.Members.{Owner, Thief, Ticket, stolen_by, SitsAt}
use Rattle.steal_explorer.proofs.Places.{set_at}

abbrev parts : Seat → ℕ
parts s = (worker_view s.owner).parts

one_lower : (i n : ℕ) → i < n + 1 → i ≢ n → i < n
one_lower i n lt other = grind arith

-- ---- tickets of a worker

gave_first : (ts : List Thief) (many i : ℕ) (x : Ticket) (a b : Seat) → LendsPart x a b → HasFirstTickets ts many i a → HasFirstTickets ts many i b
gave_first ts many i x a b gives is = subst (HasFirstTickets ts many i) (sym gives.is) (record {
  deque = λ t. gives.same.0 ∙ is.deque t;
  len = is.len;
  room = is.room;
  seated = is.seated;
  guest = is.guest;
  unstolen = is.unstolen;
})

module _ (ts : List Thief) (k i : ℕ) (x : Ticket) (a b : Seat) (gets : Gets x a b) (is : HasFirstTickets ts k i a) where
  front_at : (j : ℕ) (d : Ticket) → j < k → slice_index_or b.tickets.items j d ≡ slice_index_or a.tickets.items j d
  front_at j d lt = ap (λ l. get_or l j d) gets.items ∙ get_or-append a.tickets.items (x ∷ []) d j (subst (λ n. j < n) (sym is.len) lt)

  last_at : (d : Ticket) → slice_index_or b.tickets.items k d ≡ x
  last_at d = ap (λ l. get_or l k d) gets.items ∙ get_or_push a.tickets.items x d k is.len

  got_first : (k ≢ i → (t : Thief) → SitsAt (slice_index_or ts k t) x) → (i ≡ k → view x ≡ log 0 [] [] [] []) → (view x).stolen ≡ [] → HasFirstTickets ts (k + 1) i b
  got_first sits bare none = record {
    deque = λ t. ap worker_deque gets.owner ∙ is.deque t;
    len = ap length gets.items ∙ length-append a.tickets.items (x ∷ []) ∙ ap (λ n. n + 1) is.len;
    room = let e = gets.room in let f = is.room in omega arith;
    seated = λ j t d lt apart.
        elim (cases_eq j k) [
          | inl same ↦
              subst (λ n. SitsAt (slice_index_or ts n t) (slice_index_or b.tickets.items n d)) (sym same)
              (subst (SitsAt (slice_index_or ts k t)) (sym (last_at d)) (sits (subst (λ n. n ≢ i) same apart) t))
          | inr other ↦ subst (SitsAt (slice_index_or ts j t)) (sym (front_at j d (one_lower j k lt other))) (is.seated j t d (one_lower j k lt other) apart)
        ];
    guest = λ d lt.
        elim (cases_eq i k) [
          | inl same ↦ ap (λ (n : ℕ). view (slice_index_or b.tickets.items n d)) same ∙ ap (λ (y : Ticket). view y) (last_at d) ∙ bare same
          | inr other ↦ ap (λ (y : Ticket). view y) (front_at i d (one_lower i k lt other)) ∙ is.guest d (one_lower i k lt other)
        ];
    unstolen = λ h.
        let e : stolen_by h b.tickets.items ≡ stolen_by h (a.tickets.items ++ x ∷ []) = ap (stolen_by h) gets.items in
        let f : stolen_by h (a.tickets.items ++ x ∷ []) ≡ stolen_by h a.tickets.items + sum_by h (view x).stolen = sum_by_push (λ (y : Ticket). sum_by h (view y).stolen) a.tickets.items x in
        let g : sum_by h (view x).stolen ≡ 0 = ap (sum_by h) none in
        let old = is.unstolen h in
        omega arith;
  }

-- ---- worker j gets its ticket of deque k

module _ (ts : List Thief) (k j : ℕ) (ss : List Seat) (is : AreLending ts k j ss) (inside : j < length ss) (deque : k < length ss) where
  few : length ss ≤ whole
  few = subst (λ n. n ≤ whole) (sym is.thieves.len) is.thieves.few

  -- there is room for it
  pub has_room : (c : Seat) → c ≡ slice_index_or ss j c → 0 < c.tickets.room
  has_room c c_is = let e : c.tickets.room + k ≡ length ts = (subst (HasFirstTickets ts k j) (sym c_is) (is.still j c (omega arith) inside)).room in let f = is.thieves.len in omega arith

  -- and a part to be lent
  pub has_parts : j ≢ k → (a : Seat) → a ≡ slice_index_or ss k a → 1 < parts a
  has_parts apart a a_is = let e : parts a ≡ parts (slice_index_or ss k a) = ap parts a_is in let max = few in
      elim (cases_lt k j) [
        | inl high ↦ (let f = is.past a high in omega arith)
        | inr low ↦ (let f = is.before a low in let less : j < k = one_lower j k (omega arith) apart in omega arith)
      ]

  -- its own, with no part
  module _ (same : j ≡ k) (x : Ticket) (bare : view x ≡ log 0 [] [] [] []) (a b : Seat) (a_is : a ≡ slice_index_or ss j a) (gets : Gets x a b) where
    abbrev ns : List Seat
    ns = set ss j b

    long : length ns ≡ length ss
    long = length-set ss j b

    parts_ns : (i : ℕ) (s : Seat) → i < length ns → parts (slice_index_or ns i s) ≡ parts (slice_index_or ss i s)
    parts_ns i s lt =
        set_at (λ i q. parts q ≡ parts (slice_index_or ss i s)) ss j b i s lt inside
        (λ here. ap (λ (o : Owner). (worker_view o).parts) gets.owner ∙ ap parts (a_is ∙ get_or_default ss j a s inside ∙ ap (λ n. slice_index_or ss n s) (sym here)))
        (λ other. refl)

    pub lent_own : AreLending ts k (j + 1) ns
    lent_own = record {
      thieves = record { len = long ∙ is.thieves.len; few = is.thieves.few; fifo = is.thieves.fifo };
      given = λ i s lt less.
          set_at (HasFirstTickets ts (k + 1)) ss j b i s less inside
          (λ here.
          subst (λ n. HasFirstTickets ts (k + 1) n b) (sym here)
          (got_first ts k j x a b gets (subst (HasFirstTickets ts k j) (sym a_is) (is.still j a (omega arith) inside)) (λ other t. absurd (other (sym same))) (λ _. bare) (ap (λ (v : Log). v.stolen) bare)))
          (λ other. is.given i s (one_lower i j lt other) (subst (λ n. i < n) long less));
      still = λ i s high less.
          set_at (HasFirstTickets ts k) ss j b i s less inside (λ here. absurd (omega arith)) (λ other. is.still i s (omega arith) (subst (λ n. i < n) long less));
      all = λ i s high less. parts_ns i s less ∙ is.all i s high (subst (λ n. i < n) long less);
      lent = λ i s low less. ap (λ n. n + length ts) (parts_ns i s less) ∙ is.lent i s low (subst (λ n. i < n) long less);
      before = λ s low. absurd (omega arith);
      past = λ s high.
          let e = parts_ns k s (subst (λ n. k < n) (sym long) deque) in
          let f = is.before s (omega arith) in
          omega arith;
    }

  -- one of another's deque
  module _ (apart : j ≢ k) (x : Ticket) (a b : Seat) (a_is : a ≡ slice_index_or ss k a) (gives : LendsPart x a b) where
    abbrev ms : List Seat
    ms = set ss k b

    long_ms : length ms ≡ length ss
    long_ms = length-set ss k b

    first_ms : (many i : ℕ) (s : Seat) → i < length ms → HasFirstTickets ts many i (slice_index_or ss i s) → HasFirstTickets ts many i (slice_index_or ms i s)
    first_ms many i s lt has =
        set_at (λ i q. HasFirstTickets ts many i (slice_index_or ss i s) → HasFirstTickets ts many i q) ss k b i s lt deque
        (λ here old.
        gave_first ts many i x a b gives
        (subst (HasFirstTickets ts many i) (sym (a_is ∙ get_or_default ss k a s deque ∙ ap (λ n. slice_index_or ss n s) (sym here))) old))
        (λ other old. old) has

    -- whose deque it is
    deque_a : (t : Thief) → worker_deque a.owner ≡ stealer_deque (slice_index_or ts k t)
    deque_a t =
        elim (cases_lt k j) [
          | inl high ↦ (subst (HasFirstTickets ts (k + 1) k) (sym a_is) (is.given k a high deque)).deque t
          | inr low ↦ (subst (HasFirstTickets ts k k) (sym a_is) (is.still k a low deque)).deque t
        ]

    sits : (t : Thief) → SitsAt (slice_index_or ts k t) x
    sits t = record {
      of = subst (λ d. IsPassOf d x) (deque_a t) gives.of;
      fifo = is.thieves.fifo k t (subst (λ n. k < n) is.thieves.len deque);
      view_is = gives.lent ∙ ap (λ l. log 1 [] [] l []) (sym (ap (λ (v : Log). v.stolen) gives.lent));
    }

    pub inside_ms : j < length ms
    inside_ms = subst (λ n. j < n) (sym long_ms) inside

    module _ (c : Seat) (c_is : c ≡ slice_index_or ms j c) where
      c_was : c ≡ slice_index_or ss j c
      c_was = c_is ∙ get_or-set_other ss k j b c apart

      pub has_room_still : 0 < c.tickets.room
      has_room_still = has_room c c_was

      module _ (e : Seat) (gets : Gets x c e) where
        abbrev es : List Seat
        es = set ms j e

        long_es : length es ≡ length ss
        long_es = length-set ms j e ∙ long_ms

        parts_es : (i : ℕ) (s : Seat) → i ≢ k → i < length es → parts (slice_index_or es i s) ≡ parts (slice_index_or ss i s)
        parts_es i s other lt =
            set_at (λ i q. parts q ≡ parts (slice_index_or ms i s)) ms j e i s lt inside_ms
            (λ here. ap (λ (o : Owner). (worker_view o).parts) gets.owner ∙ ap parts (c_is ∙ get_or_default ms j c s inside_ms ∙ ap (λ n. slice_index_or ms n s) (sym here)))
            (λ _. refl)
            ∙ ap parts (get_or-set_other ss k i b s other)

        parts_k : (s : Seat) → parts (slice_index_or es k s) + 1 ≡ parts (slice_index_or ss k s)
        parts_k s =
            ap (λ (q : Seat). parts q + 1) (get_or-set_other ms j k e s (λ same. apart (sym same)) ∙ get_or-set_same ss k b s deque)
            ∙ ap (λ (q : Seat). parts q + 1) gives.is
            ∙ gives.less
            ∙ ap parts (a_is ∙ get_or_default ss k a s deque)

        pub lent_one : AreLending ts k (j + 1) es
        lent_one = record {
          thieves = record { len = long_es ∙ is.thieves.len; few = is.thieves.few; fifo = is.thieves.fifo };
          given = λ i s lt less.
              set_at (HasFirstTickets ts (k + 1)) ms j e i s less inside_ms
              (λ here.
              subst (λ n. HasFirstTickets ts (k + 1) n e) (sym here)
              (got_first ts k j x c e gets (subst (HasFirstTickets ts k j) (sym c_was) (is.still j c (omega arith) inside)) (λ _ t. sits t) (λ same. absurd (apart same)) (ap (λ (v : Log). v.stolen) gives.lent)))
              (λ other. first_ms (k + 1) i s (subst (λ n. i < n) (length-set ms j e) less) (is.given i s (one_lower i j lt other) (subst (λ n. i < n) long_es less)));
          still = λ i s high less.
              set_at (HasFirstTickets ts k) ms j e i s less inside_ms
              (λ here. absurd (omega arith))
              (λ other. first_ms k i s (subst (λ n. i < n) (length-set ms j e) less) (is.still i s (omega arith) (subst (λ n. i < n) long_es less)));
          all = λ i s high less. parts_es i s (λ same. absurd (omega arith)) less ∙ is.all i s high (subst (λ n. i < n) long_es less);
          lent = λ i s low less. ap (λ n. n + length ts) (parts_es i s (λ same. absurd (omega arith)) less) ∙ is.lent i s low (subst (λ n. i < n) long_es less);
          before = λ s low.
              let p = parts_k s in
              let q = is.before s (omega arith) in
              omega arith;
          past = λ s high.
              let p = parts_k s in
              let q = is.past s (one_lower k j high (λ e. apart (sym e))) in
              omega arith;
        }
