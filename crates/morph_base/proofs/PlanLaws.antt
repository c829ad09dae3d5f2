-- The transactions of a plan against its numbered operations, and the state after one more event.
use Rattle.std.proofs.Common.{◌≡◌, ℕ, suc, ◌+◌, ◌-◌, ◌<◌, ◌≤◌, List, [], ◌∷◌, ◌++◌, length, take, drop, get_or, sym, ap, ◌∙◌, subst, inl, inr, arith, unwrap_or, add-sub_of_le, All}
use Rattle.std.proofs.Math.Seq.{take-suc, take_all}
use Rattle.std.proofs.lemmas.List.{length-take, length-drop, length-map, get_or-map, get_or-take, get_or-drop}
use Rattle.std.proofs.lemmas.Bool.{cases_lt}
use Rattle.morph_base.specs.declared.key.Key.{Key}
use Rattle.morph_base.specs.declared.operation.Op.{Op}
use Rattle.morph_base.specs.declared.plan.PlanOp.{PlanOp}
use Rattle.morph_base.specs.declared.plan.Plan.{Plan}
use Rattle.morph_base.specs.Transactions.{Transaction}
use Rattle.morph_base.specs.States.{State, answer, with_answers, after, after_all}
use Rattle.morph_base.specs.Plans.{IsPlan, event_count, op_count, event_at, op_at, event_of, target, InEvent, no_op, no_plan_op, no_event, transaction_in, transactions, transaction_at, state_at}
use Rattle.morph_base.proofs.StateLaws.{ChangesNone, with_answers-first, after-none, after_all-nil, after_all-push}

-- ---- an event's operations

module _ (p : Plan) (valid : IsPlan p) where
  -- the last of an event's numbers is in range, so that all are
  pub end_in_range : (i : ℕ) → i < event_count p → (event_at p i).first + (event_at p i).count ≤ op_count p
  end_in_range i lt =
      let some = (valid.numbering.counts i lt).0 in
      let within : InEvent p i ((event_at p i).first + ((event_at p i).count - 1)) = record { from = omega arith; below = omega arith } in
      let last = (valid.numbering.owned i _ lt within).0 in
      omega arith

  pub length-transaction : (i : ℕ) → i < event_count p → length (transaction_at p i).ops ≡ (event_at p i).count
  length-transaction i lt =
      let room = end_in_range i lt in
      let ops : List PlanOp = p.ops.items in
      simp (length-map, length-take, length-drop) (omega arith)

  -- its operation at place j
  pub transaction_op : (i j : ℕ) (d : Op) → i < event_count p → j < (event_at p i).count → get_or (transaction_at p i).ops j d ≡ (op_at p ((event_at p i).first + j)).op
  transaction_op i j d lt below =
      let room = end_in_range i lt in
      let first : ℕ = (event_at p i).first in
      let count : ℕ = (event_at p i).count in
      let part : List PlanOp = take count (drop first p.ops.items) in
      let inside : j < length part = simp (length-take, length-drop) (omega arith) in
      get_or-map (λ q. q.op) part j no_plan_op d inside
      ∙ ap (λ q. q.op) (get_or-take count (drop first p.ops.items) j no_plan_op below ∙ get_or-drop first p.ops.items j no_plan_op)

  -- an operation's place in its event
  pub op_at_place : (i o : ℕ) (d : Op) → i < event_count p → InEvent p i o → get_or (transaction_at p i).ops (o - (event_at p i).first) d ≡ (op_at p o).op
  op_at_place i o d lt within =
      let from = within.from in
      let below = within.below in
      transaction_op i (o - (event_at p i).first) d lt (omega arith) ∙ ap (λ n. (op_at p n).op) (add-sub_of_le from)

  -- a place of an event is the number of one of its operations
  pub place_within : (i j : ℕ) → j < (event_at p i).count → InEvent p i ((event_at p i).first + j)
  place_within i j below = record { from = omega arith; below = omega arith }

  -- no operation of event i changes the key
  pub changes_none : (i : ℕ) (key : Key) → i < event_count p → ((t : ℕ) → InEvent p i t → target p t ≡ key → ⊥) → ChangesNone (transaction_at p i).ops key
  changes_none i key lt none j d below same =
      let inside : j < (event_at p i).count = rw (length-transaction i lt) at below in
      none ((event_at p i).first + j) (place_within i j inside) (ap (λ op. op.key) (sym (transaction_op i j d lt inside)) ∙ same)

  -- what an event's answers are at the target of one of its operations
  pub with_answers-at : (s : State) (o : ℕ) → o < op_count p
      → with_answers s (transaction_at p (event_of p o)).ops (target p o) ≡ unwrap_or (answer s (op_at p o).op) (s (target p o))
  with_answers-at s o lt =
      let i : ℕ = event_of p o in
      let home = valid.numbering.placed o lt in
      let within : InEvent p i o = home.1 in
      let from = within.from in
      let below = within.below in
      let j : ℕ = o - (event_at p i).first in
      let small : j < (event_at p i).count = omega arith in
      let found : get_or (transaction_at p i).ops j no_op ≡ (op_at p o).op = op_at_place i o no_op home.0 within in
      let inside : j < length (transaction_at p i).ops = rw (length-transaction i home.0) small in
      let before : (k : ℕ) → k < j → (get_or (transaction_at p i).ops k no_op).key ≡ target p o → ⊥ = λ k less same.
      let t : ℕ = (event_at p i).first + k in
      let fits : k < (event_at p i).count = omega arith in
      let owned = valid.numbering.owned i t home.0 (place_within i k fits) in
      let is_o : t ≡ o = valid.numbering.distinct t o owned.0 lt owned.1 (ap (λ op. op.key) (sym (transaction_op i k no_op home.0 fits)) ∙ same) in
      absurd (omega arith) in
      with_answers-first s (transaction_at p i).ops (target p o) j no_op inside (ap (λ op. op.key) found) before
      ∙ ap (λ op. unwrap_or (answer s op) (s (target p o))) found

-- ---- the state after one more event

pub length-transactions : (p : Plan) → length (transactions p) ≡ event_count p
length-transactions p = length-map p.events.items (transaction_in p.ops.items)

-- what holds of all operations of all transactions holds of each operation
pub op_of_all : (P : Op → Type 0) (p : Plan) → IsPlan p → All (λ (e : Transaction). All P e.ops) (transactions p) → (o : ℕ) → o < op_count p → P (op_at p o).op
op_of_all P p valid all o lt =
    let i : ℕ = event_of p o in
    let home = valid.numbering.placed o lt in
    let from = home.1.from in
    let below = home.1.below in
    let inside : i < length (transactions p) = (let len = length-transactions p in let event = home.0 in omega arith) in
    let its : All P (transaction_at p i).ops =
    subst (λ (e : Transaction). All P e.ops) (get_or-map (transaction_in p.ops.items) p.events.items i no_event (transaction_at p i) home.0) (all i (transaction_at p i) inside) in
    let place : ℕ = o - (event_at p i).first in
    let within : place < length (transaction_at p i).ops = (let len = length-transaction p valid i home.0 in omega arith) in
    subst P (op_at_place p valid i o no_op home.0 home.1) (its place no_op within)

pub state_at-zero : (p : Plan) (s : State) → state_at p s 0 ≡ s
unfolding state_at
state_at-zero p s = after_all-nil s

pub state_at-suc : (p : Plan) (s : State) (i : ℕ) → i < event_count p → state_at p s (suc i) ≡ after (state_at p s i) (transaction_at p i)
unfolding state_at
state_at-suc p s i lt =
    let found : get_or (transactions p) i (transaction_at p i) ≡ transaction_at p i = get_or-map (transaction_in p.ops.items) p.events.items i no_event (transaction_at p i) lt in
    let inside : i < length (transactions p) = rw (length-transactions p) lt in
    ap (after_all s) (take-suc (transactions p) i (transaction_at p i) inside ∙ ap (λ e. take i (transactions p) ++ e ∷ []) found)
    ∙ after_all-push s (take i (transactions p)) (transaction_at p i)

pub state_at-past : (p : Plan) (s : State) (i : ℕ) → event_count p ≤ i → state_at p s i ≡ after_all s (transactions p)
unfolding state_at
state_at-past p s i past = ap (after_all s) (take_all i (transactions p) (rw (length-transactions p) past))

-- an event leaves the keys alone that none of its operations changes
pub state_at-kept : (p : Plan) (s : State) (i : ℕ) (key : Key) → IsPlan p → ((t : ℕ) → t < op_count p → event_of p t ≡ i → target p t ≡ key → ⊥)
    → state_at p s (suc i) key ≡ state_at p s i key
state_at-kept p s i key valid none =
    elim (cases_lt i (event_count p)) [
      | inl lt ↦
          ap (λ after_i. after_i key) (state_at-suc p s i lt)
          ∙ after-none (state_at p s i) (transaction_at p i) key
          (changes_none p valid i key lt (λ t within. let owned = valid.numbering.owned i t lt within in none t owned.0 owned.1))
      | inr past ↦
          ap (λ after_i. after_i key) (state_at-past p s (suc i) (omega arith) ∙ sym (state_at-past p s i past))
    ]
