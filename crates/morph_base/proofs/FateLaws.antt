-- The fate of each event of a plan, from the values of its operations and its verdict.
use Rattle.std.proofs.Common.{◌≡◌, ℕ, zero, suc, Bool, ◌+◌, ◌<◌, List, [], ◌∷◌, map, length, take, get_or, not-suc-le-zero, le_of_suc-le-suc, refl, sym, ap, ◌∙◌, arith, zero-add, add-one}
use Rattle.std.proofs.Math.Path.{ap₂}
use Rattle.std.proofs.lemmas.List.{length-map, get_or-map, ext_get_or, same_lists}
use Rattle.std.proofs.lemmas.List.FromFn.{length-range_with_len, get_or-range_with_len, length-map-range_with_len, get_or-map-range_with_len}
use Rattle.morph_base.specs.declared.plan.Plan.{Plan}
use Rattle.morph_base.specs.Operations.{no_key}
use Rattle.morph_base.specs.Transactions.{Transaction, targets}
use Rattle.morph_base.specs.States.{State, after, after_all}
use Rattle.morph_base.specs.Outcomes.{Fate, fate, fates}
use Rattle.morph_base.specs.Plans.{IsPlan, event_count, op_count, event_at, event_of, target, HasBases, no_op, no_event, transaction_in, transactions, transaction_at, state_at, commits_at, value_at, final, verdict}
use Rattle.morph_base.specs.Graphs.{ops_in, below}
use Rattle.morph_base.proofs.OutcomeLaws.{map-agree}
use Rattle.morph_base.proofs.CleanLaws.{value_at-final, commits_at-verdict}
use Rattle.morph_base.proofs.PlanLaws.{length-transaction, length-transactions, transaction_op, place_within, state_at-suc}

pub length-fates : (s : State) (es : List Transaction) → length (fates s es) ≡ length es
unfolding fates
length-fates s [] = refl
length-fates s (e ∷ es) = ap suc (length-fates (after s e) es)

-- the fate at a place is that of its transaction in the state after those before it
pub fates-at : (s : State) (es : List Transaction) (i : ℕ) (d : Fate) (e : Transaction) → i < length es → get_or (fates s es) i d ≡ fate (after_all s (take i es)) (get_or es i e)
unfolding fates after_all
fates-at s [] i d e lt = absurd (not-suc-le-zero lt)
fates-at s (f ∷ es) zero d e lt = refl
fates-at s (f ∷ es) (suc i) d e lt = fates-at (after s f) es i d e (le_of_suc-le-suc lt)

-- the fate of an event of a plan
abbrev pub plan_fate : Plan → State → ℕ → Fate
plan_fate p s i = record { ts = (event_at p i).ts; committed = commits_at p s i; values = map (value_at p s) (ops_in p i) }

-- the values of an event's operations are those of its targets after it
pub values-after : (p : Plan) (s : State) (i : ℕ) → IsPlan p → i < event_count p → map (after (state_at p s i) (transaction_at p i)) (targets (transaction_at p i)) ≡ map (value_at p s) (ops_in p i)
unfolding value_at
values-after p s i valid lt =
    let e : Transaction = transaction_at p i in
    let after_it : State = after (state_at p s i) e in
    let len : length (map after_it (targets e)) ≡ (event_at p i).count =
    length-map (targets e) after_it ∙ length-map e.ops (λ op. op.key) ∙ length-transaction p valid i lt in
    ext_get_or 0 (map after_it (targets e)) (map (value_at p s) (ops_in p i))
    (len ∙ sym (length-map-range_with_len (value_at p s) (event_at p i).first (event_at p i).count))
    (λ j below.
    let small : j < (event_at p i).count = omega arith in
    let o : ℕ = (event_at p i).first + j in
    let inside : j < length e.ops = (let all = length-transaction p valid i lt in omega arith) in
    let its_key : get_or (targets e) j no_key ≡ target p o = get_or-map (λ op. op.key) e.ops j no_op no_key inside ∙ ap (λ op. op.key) (transaction_op p valid i j no_op lt small) in
    let in_targets : j < length (targets e) = (let all = length-map e.ops (λ op. op.key) in omega arith) in
    let its_event : event_of p o ≡ i = (valid.numbering.owned i o lt (place_within p valid i j small)).1 in
    get_or-map after_it (targets e) j no_key 0 in_targets
    ∙ ap after_it its_key
    ∙ ap (λ st. st (target p o)) (sym (state_at-suc p s i lt))
    ∙ ap (λ n. state_at p s n (target p o)) (sym (add-one (event_of p o) ∙ ap suc its_event))
    ∙ sym (get_or-map-range_with_len (value_at p s) (event_at p i).first (event_at p i).count j o 0 small refl))

pub plan_fate-is : (p : Plan) (s : State) (i : ℕ) → IsPlan p → i < event_count p → fate (state_at p s i) (transaction_at p i) ≡ plan_fate p s i
unfolding commits_at
plan_fate-is p s i valid lt =
    let with_values : List ℕ → Fate = λ values. record { ts = (event_at p i).ts; committed = commits_at p s i; values = values } in
    ap with_values (values-after p s i valid lt)

-- at each place
pub fate_at : (p : Plan) (s : State) (i : ℕ) (d : Fate) → IsPlan p → i < event_count p → get_or (fates s (transactions p)) i d ≡ plan_fate p s i
unfolding state_at
fate_at p s i d valid lt =
    let inside : i < length (transactions p) = (let all = length-transactions p in omega arith) in
    fates-at s (transactions p) i d (transaction_at p i) inside
    ∙ ap (fate (after_all s (take i (transactions p)))) (get_or-map (transaction_in p.ops.items) p.events.items i no_event (transaction_at p i) lt)
    ∙ plan_fate-is p s i valid lt

-- all at once
pub fates_all : (p : Plan) (s : State) → IsPlan p → fates s (transactions p) ≡ map (plan_fate p s) (below (event_count p))
fates_all p s valid =
    let len : length (fates s (transactions p)) ≡ event_count p = length-fates s (transactions p) ∙ length-transactions p in
    same_lists (fates s (transactions p)) (map (plan_fate p s) (below (event_count p)))
    (len ∙ sym (length-map-range_with_len (plan_fate p s) 0 (event_count p)))
    (λ i d inside.
    let lt : i < event_count p = omega arith in
    fate_at p s i d valid lt ∙ sym (get_or-map-range_with_len (plan_fate p s) 0 (event_count p) i i d lt (zero-add i)))

-- ---- from a state with the plan's bases: by the plan's own values and verdicts

abbrev pub final_fate : Plan → ℕ → Fate
final_fate p i = record { ts = (event_at p i).ts; committed = verdict p i; values = map (final p) (ops_in p i) }

pub final_values : (p : Plan) (s : State) (i : ℕ) → IsPlan p → HasBases p s → i < event_count p → map (value_at p s) (ops_in p i) ≡ map (final p) (ops_in p i)
final_values p s i valid based lt =
    let first : ℕ = (event_at p i).first in
    let count : ℕ = (event_at p i).count in
    map-agree (value_at p s) (final p) (ops_in p i) 0
    (λ j inside.
    let small : j < count = (let all = length-range_with_len first count in omega arith) in
    let found : get_or (ops_in p i) j 0 ≡ first + j = get_or-range_with_len first count j 0 small in
    let in_range : first + j < op_count p = (valid.numbering.owned i (first + j) lt (place_within p valid i j small)).0 in
    ap (value_at p s) found ∙ value_at-final p s (first + j) valid based in_range ∙ ap (final p) (sym found))

pub final_fate-is : (p : Plan) (s : State) (i : ℕ) → IsPlan p → HasBases p s → i < event_count p → plan_fate p s i ≡ final_fate p i
final_fate-is p s i valid based lt =
    let made : Bool → List ℕ → Fate = λ committed values. record { ts = (event_at p i).ts; committed = committed; values = values } in
    ap₂ made (commits_at-verdict p s i valid based lt) (final_values p s i valid based lt)

pub final_fates : (p : Plan) (s : State) → IsPlan p → HasBases p s → fates s (transactions p) ≡ map (final_fate p) (below (event_count p))
final_fates p s valid based =
    fates_all p s valid
    ∙ map-agree (plan_fate p s) (final_fate p) (below (event_count p)) 0
    (λ i inside.
    let lt : i < event_count p = (let all = length-range_with_len 0 (event_count p) in omega arith) in
    let found : get_or (below (event_count p)) i 0 ≡ i = get_or-range_with_len 0 (event_count p) i 0 lt ∙ zero-add i in
    ap (plan_fate p s) found ∙ final_fate-is p s i valid based lt ∙ ap (final_fate p) (sym found))
