-- Deques that were opened, dealt and lent.
use Rattle.std.proofs.Common.{◌≡◌, ℕ, ◌<◌, ◌≤◌, List, [], length, sym, ap, ◌∙◌, subst, arith, zero-add}
use Rattle.std.specs.Prelude.{All, sum_by, slice_index_or}
use Rattle.crossbeam_deque.specs.Handles.{worker_view}
use Rattle.morph_base.specs.Contents.{Contents}
use Rattle.morph_base.specs.declared.plan.Plan.{Plan}
use Rattle.morph_base.specs.Plans.{op_count}
use Rattle.op_words.specs.Hands.{up_to}
use Rattle.steal_explorer.specs.declared.deques.Deques.{Deques}
use Rattle.steal_explorer.specs.declared.deques.Seat.{Seat}
use Rattle.steal_explorer.specs.declared.deque_rule.Log.{Log}
use Rattle.steal_explorer.specs.Dealing.{level_one, dealt_to, pushed_on, LieIn, IsOpenedSeat, AreOpened, CanTake, HaveGot}
use Rattle.steal_explorer.specs.Handing.{whole, log, put, parts_of}
use Rattle.steal_explorer.specs.Lending.{with_parts, HasFirstTickets, AreLent, KeepsSeats}
use Rattle.steal_explorer.specs.Members.{Thief, Ticket, stolen_by}
use Rattle.steal_explorer.specs.Seating.{IsSeat, AreReady}
use Rattle.steal_explorer.proofs.Beginning.{level_one_inside}
use Rattle.steal_explorer.proofs.Dealt.{dealt_all, dealt_once}
use Rattle.steal_explorer.proofs.Places.{first_of}

-- as they were opened, they can take the operations
pub can_take_all : (many n : ℕ) (ts : List Thief) (ss : List Seat) → AreOpened many n ts ss → All (CanTake many) ss
can_take_all many n ts ss are k s lt =
    let is = are.each k (first_of ts (subst (λ m. k < m) are.len lt)) s lt in
    record {
      part = let e : (worker_view (slice_index_or ss k s).owner).parts ≡ whole = ap parts_of is.bare in omega arith;
      room = let e = is.index in let f = is.capacity_is in omega arith;
    }

module _ (p : Plan) (ts : List Thief) (ss ds : List Seat) (few : length ts ≤ whole) (opened : AreOpened (op_count p) (length ts) ts ss) (got : HaveGot (level_one p) ss ds) where
  in_ts : (k : ℕ) → k < length ss → k < length ts
  in_ts k lt = subst (λ n. k < n) opened.len lt

  thief_at : (k : ℕ) → k < length ss → Thief
  thief_at k lt = slice_index_or ts k (first_of ts (in_ts k lt))

  opened_at : (k : ℕ) (s : Seat) → (lt : k < length ss) → IsOpenedSeat (op_count p) (length ts) (slice_index_or ts k (first_of ts (in_ts k lt))) (slice_index_or ss k s)
  opened_at k s lt = opened.each k (first_of ts (in_ts k lt)) s lt

  -- none is lent yet
  pub none_lent : AreLent ts 0 ds
  none_lent = record {
    thieves =
        record {
          len = got.len ∙ opened.len;
          few = few;
          fifo = λ k t lt. let inside : k < length ss = subst (λ n. k < n) (sym opened.len) lt in (opened.each k t (first_of ss inside) inside).flavor;
        };
    first = λ i s lt. first i s (subst (λ n. i < n) got.len lt);
    all = λ i s _ lt. let inside : i < length ss = subst (λ n. i < n) got.len lt in ap parts_of (got.each i s inside).puts ∙ ap parts_of (opened_at i s inside).bare;
    lent = λ i s low lt. absurd (omega arith);
  }
    where
      first : (i : ℕ) (s : Seat) → i < length ss → HasFirstTickets ts 0 i (slice_index_or ds i s)
      first i s inside =
          let got_at = got.each i s inside in
          let was = opened_at i s inside in
          let none : (slice_index_or ds i s).tickets.items ≡ [] = ap (λ (l : Contents Ticket). l.items) got_at.tickets ∙ was.none in
          record {
            deque = λ t. got_at.same.0 ∙ (opened.each i t s inside).deque;
            len = ap length none;
            room = let e : (slice_index_or ds i s).tickets.room ≡ length ts = ap (λ (l : Contents Ticket). l.room) got_at.tickets ∙ was.room in omega arith;
            seated = λ j t x low. absurd (omega arith);
            guest = λ x low. absurd (omega arith);
            unstolen = λ h. ap (stolen_by h) none;
          }

  -- all is lent
  module _ (ls : List Seat) (lent : AreLent ts (length ts) ls) (kept : KeepsSeats ds ls) where
    in_ss : (k : ℕ) → k < length ls → k < length ss
    in_ss k lt = subst (λ n. k < n) (kept.len ∙ got.len) lt

    abbrev dealt : ℕ → List ℕ
    dealt k = dealt_to (length ss) k (level_one p)

    view_is : (k : ℕ) (s : Seat) → k < length ls → worker_view (slice_index_or ls k s).owner ≡ log (worker_view (slice_index_or ls k s).owner).parts (dealt k) [] [] []
    view_is k s lt =
        let inside = in_ss k lt in
        (kept.each k s (subst (λ n. k < n) (sym got.len) inside)).still
        ∙ ap (λ (v : Log). with_parts (worker_view (slice_index_or ls k s).owner).parts v) ((got.each k s inside).puts ∙ ap (λ (v : Log). put v (dealt k)) (opened_at k s inside).bare)

    pub seat_is : (k : ℕ) (s : Seat) → k < length ls → IsSeat p ts k (slice_index_or ls k s)
    seat_is k s lt =
        let inside = in_ss k lt in
        let was = opened_at k s inside in
        let gets = got.each k s inside in
        let keeps = kept.each k s (subst (λ n. k < n) (sym got.len) inside) in
        let has = lent.first k s lt in
        let is = view_is k s lt in
        let low : k < length ts = in_ts k inside in
        let pushed : (worker_view (slice_index_or ls k s).owner).pushed ≡ dealt k = ap (λ (v : Log). v.pushed) is in
        record {
          fifo = keeps.same.1 ∙ gets.same.1 ∙ was.fifo;
          deque = has.deque;
          parts = lent.lent k s low lt;
          popped = ap (λ (v : Log). v.popped) is;
          stolen = ap (λ (v : Log). v.stolen) is;
          left = ap (λ (v : Log). v.left) is;
          below = subst (All (λ x. x < op_count p)) (sym pushed) (dealt_all (length ss) k (λ x. x < op_count p) (level_one p) (level_one_inside p));
          handed = keeps.handed ∙ gets.handed 0 was.handed ∙ ap up_to (zero-add (length (dealt k)) ∙ sym (ap length pushed));
          len = has.len;
          under = λ j t x _ less. has.seated j t x (omega arith) (λ same. absurd (omega arith));
          above = λ j t x more less. has.seated j t x less (λ same. absurd (omega arith));
          guest = λ x. has.guest x low;
          unstolen = has.unstolen;
          capacity = let a = was.capacity_is in let b = gets.same.3 in let c = keeps.same.3 in omega arith;
          index = let a = was.index in let b = gets.index in let c = keeps.index in let d = ap length pushed in omega arith;
        }

    pub lie_in : LieIn p ls
    lie_in k s lt = ap (λ (v : Log). v.pushed) (view_is k s lt) ∙ ap (λ n. dealt_to n k (level_one p)) (sym (kept.len ∙ got.len))

-- all deques, with the list for exploring
pub ready : (p : Plan) (d : Deques) (ts : List Thief) (ls : List Seat) → d.thieves.items ≡ ts → d.seats.items ≡ ls → 0 < length ls → length ls ≡ length ts → length ts ≤ whole
    → ((k : ℕ) (s : Seat) → k < length ls → IsSeat p ts k (slice_index_or ls k s)) → LieIn p ls → d.members.items ≡ [] → length ls ≤ d.members.room → AreReady p d
ready p d ts ls ts_is ls_is some len few seats lie none room = record {
  len = ap length ls_is ∙ len ∙ sym (ap length ts_is);
  few = subst (λ l. length l ≤ whole) (sym ts_is) few;
  each = subst (λ l. (k : ℕ) (s : Seat) → k < length l → IsSeat p d.thieves.items k (slice_index_or l k s)) (sym ls_is)
      (subst (λ l. (k : ℕ) (s : Seat) → k < length ls → IsSeat p l k (slice_index_or ls k s)) (sym ts_is) seats);
  none = none;
  room = subst (λ l. length l ≤ d.members.room) (sym ls_is) room;
  dealt = subst (λ l. (h : ℕ → ℕ) → sum_by (λ (s : Seat). sum_by h (pushed_on s)) l ≡ sum_by h (level_one p)) (sym ls_is) (dealt_once (level_one p) ls some lie);
}
