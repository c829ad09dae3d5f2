-- The operations of an event, by their place in it.
use Rattle.std.proofs.Common.{◌≡◌, ℕ, ◌+◌, ◌-◌, ◌*◌, ◌<◌, ◌≤◌, List, length, get_or, take, sym, ap, ◌∙◌, subst, arith}
use Rattle.std.proofs.lemmas.List.{length-take, get_or-take}
use Rattle.morph_base.specs.declared.limits.TheConstants.{EVENT_OPS, EVENTS}
use Rattle.morph_base.specs.declared.plan.Plan.{Plan}
use Rattle.morph_base.specs.Functions.{value_of}
use Rattle.morph_base.specs.Plans.{IsPlan, event_count, op_count, event_at, op_at}
use Rattle.morph_base.specs.Clean.{source, outcome}
use Rattle.morph_base.proofs.NumberLaws.{op_count-small}
use Rattle.interleaving_core.specs.Core.{Core, places}
use Rattle.interleaving_core.specs.Steps.{AnswersOnSettled, FailsOnSettled, AllAnswer, OneFails}
use Rattle.interleaving_core.proofs.Sources.{sources_are}

pub event_op : (p : Plan) (i m first count : ℕ) → IsPlan p → i < event_count p → first ≡ (event_at p i).first → count ≡ (event_at p i).count → m < count → first + m < op_count p
event_op p i m first count valid lt first_is count_is below =
    (valid.numbering.owned i (first + m) lt (record { from = omega arith; below = omega arith })).0

-- the numbers of operations are small
pub op_small : (p : Plan) (o : ℕ) → IsPlan p → o < op_count p → o < 4294967296
op_small p o valid lt = let few : op_count p ≤ EVENT_OPS * EVENTS = op_count-small p valid in omega arith

pub all_from : (p : Plan) (c : Core) (i first count k : ℕ) → first ≡ (event_at p i).first → count ≡ (event_at p i).count → count ≤ k
    → ((m : ℕ) → m < k → AnswersOnSettled p c (first + m)) → AllAnswer p c i
all_from p c i first count k first_is count_is all each = record {
  each = λ o within.
      let from_first : first + (o - first) ≡ o = (let low = within.from in omega arith) in
      let below : o - first < k = (let low = within.from in let high = within.below in omega arith) in
      subst (AnswersOnSettled p c) from_first (each (o - first) below);
}

pub none_from : (p : Plan) (c : Core) (i first count k : ℕ) → first ≡ (event_at p i).first → count ≡ (event_at p i).count → count ≤ k
    → ((m : ℕ) → m < k → FailsOnSettled p c (first + m) → ⊥) → OneFails p c i → ⊥
none_from p c i first count k first_is count_is all none one =
    let o : ℕ = one.culprit in
    let from_first : first + (o - first) ≡ o = (let low = one.inside.from in omega arith) in
    let below : o - first < k = (let low = one.inside.from in let high = one.inside.below in omega arith) in
    none (o - first) below (subst (FailsOnSettled p c) (sym from_first) one.fails)

-- the values of sources that were read into the front of a list
pub read_sources : (p : Plan) (u : ℕ → ℕ) (o n k : ℕ) (values : List ℕ) → IsPlan p → o < op_count p → n ≡ places p o → n ≤ k → n ≤ length values
    → ((j : ℕ) → j < k → get_or values j 0 ≡ source p u o j) → value_of (op_at p o).op (take n values) ≡ outcome p u o
read_sources p u o n k values valid lt n_is all long each =
    ap (value_of (op_at p o).op)
    (sym (sources_are p u o (take n values) valid lt (length-take n values ∙ omega arith)
    (λ j below.
    let in_front : j < n = omega arith in
    get_or-take n values j 0 in_front ∙ each j (omega arith))))
