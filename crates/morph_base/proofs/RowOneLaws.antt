-- How many keys are kept of an operation, and its row alone.
use Rattle.std.proofs.Common.{◌≡◌, ℕ, suc, ◌+◌, ◌-◌, ◌<◌, ◌≤◌, ◌⊎◌, Bool, true, false, ◌&&◌, List, [], ◌∷◌, ◌++◌, length, get_or, take, drop, replicate, inl, inr, refl, sym, ap, subst, ◌∙◌, arith, ltb-true, lt-ltb, le-ltb}
use Rattle.std.specs.Prelude.{nat_lt, if◌then◌else◌}
use Rattle.std.specs.List.{list_all, sum_by}
use Rattle.std.proofs.lemmas.Bool.{and_parts, and_from, cases_Bool}
use Rattle.std.proofs.lemmas.List.{get_or-drop, length-drop, length-take-le, take_all}
use Rattle.std.proofs.lemmas.List.Sums.{AllPass-from_list_all, sum_by_push}
use Rattle.morph_base.specs.declared.limits.TheConstants.{PARAMS, READS}
use Rattle.morph_base.specs.declared.key.Key.{Key}
use Rattle.morph_base.specs.declared.operation.Op.{Op}
use Rattle.morph_base.specs.declared.op_rows.OpHead.{OpHead}
use Rattle.morph_base.specs.declared.op_rows.OpLimits.{OpLimits}
use Rattle.morph_base.specs.Operations.{no_key, same_key}
use Rattle.morph_base.specs.OpRows.{has_blank_rest, keys_kept, all_keys}
use Rattle.morph_base.specs.RowViews.{row_head_at, row_limits_at, op_made, row_op, row_ops, width_in, AreKeyRows}
use Rattle.morph_base.proofs.KeyLaws.{same_key-true}
use Rattle.morph_base.proofs.OpPushLaws.{front_and_blank}

-- the test on the places behind the parameters
abbrev blank_behind : Op → Bool
blank_behind op = list_all (same_key no_key) (drop op.n_params op.params)

-- how many keys are kept, by the test
by_test : (op : Op) (b : Bool) → has_blank_rest op ≡ b → keys_kept op ≡ (if b then op.n_params + 1 else READS)
unfolding keys_kept
by_test op b is = ap (λ (x : Bool). if x then op.n_params + 1 else READS) is

pub kept_short : (op : Op) → op.n_params < READS → list_all (same_key no_key) (drop op.n_params op.params) ≡ true
    → keys_kept op ≡ op.n_params + 1
kept_short op few blank =
    by_test op true (and_from (nat_lt op.n_params READS) (blank_behind op) (lt-ltb op.n_params READS few) blank)

pub kept_many : (op : Op) → READS ≤ op.n_params → keys_kept op ≡ READS
kept_many op many = by_test op false (ap (λ (b : Bool). b && blank_behind op) (le-ltb op.n_params READS many))

pub kept_all : (op : Op) → list_all (same_key no_key) (drop op.n_params op.params) ≡ false → keys_kept op ≡ READS
kept_all op filled =
    elim (cases_Bool (nat_lt op.n_params READS)) [
      | inl few ↦ by_test op false (ap (λ (b : Bool). b && blank_behind op) few ∙ filled)
      | inr many ↦ by_test op false (ap (λ (b : Bool). b && blank_behind op) many)
    ]

-- an operation of which all its keys are kept, or those that it reads, since no others are there
pub kept_cases : (op : Op) → ((keys_kept op ≡ op.n_params + 1) × (op.n_params < READS)
    × (list_all (same_key no_key) (drop op.n_params op.params) ≡ true)) ⊎ (keys_kept op ≡ READS)
kept_cases op =
    elim (cases_Bool (has_blank_rest op)) [
      | inl e ↦ (
          let parts = and_parts (nat_lt op.n_params READS) (blank_behind op) e in
          inl (by_test op true e, ltb-true op.n_params READS parts.0, parts.1))
      | inr e ↦ inr (by_test op false e)
    ]

pub kept_some : (op : Op) → 0 < keys_kept op
kept_some op = elim (kept_cases op) [ inl w ↦ omega (arith, w.0) | inr w ↦ omega (arith, w) ]

pub kept_few : (op : Op) → keys_kept op ≤ READS
kept_few op = elim (kept_cases op) [ inl w ↦ omega (arith, w.0, w.1) | inr w ↦ omega (arith, w) ]

-- the parameters that are not kept are blank
kept_blank : (op : Op) → length op.params ≡ PARAMS → (j : ℕ) (d : Key) → keys_kept op - 1 ≤ j → j < length op.params
    → get_or op.params j d ≡ no_key
kept_blank op long j d from lt =
    elim (kept_cases op) [
      | inl w ↦ (
          let n : ℕ = op.n_params in
          let place : n + (j - n) ≡ j = omega (arith, w.0) in
          let inside : j - n < length (drop n op.params) = omega (arith, w.0, length-drop n op.params) in
          let passes : same_key no_key (get_or (drop n op.params) (j - n) d) ≡ true
          = AllPass-from_list_all (same_key no_key) (drop n op.params) w.2 (j - n) d inside in
          ap (λ (i : ℕ). get_or op.params i d) (sym place) ∙ sym (get_or-drop n op.params (j - n) d)
          ∙ sym (same_key-true no_key (get_or (drop n op.params) (j - n) d) passes))
      | inr w ↦ absurd (omega (arith, w))
    ]

module _ (op : Op) (long : length op.params ≡ PARAMS) where
  abbrev pub one_head : OpHead
  one_head = record { c = op.c; place = 0; func = op.func; n_params = op.n_params; width = keys_kept op }

  abbrev pub one_row : List Key
  one_row = take (keys_kept op) (all_keys op)

  abbrev pub own_limits : OpLimits
  own_limits = record { low = op.low; high = op.high }

  count : length (take (keys_kept op - 1) op.params) ≡ keys_kept op - 1
  count = length-take-le (keys_kept op - 1) op.params (omega (arith, kept_few op))

  row_length : length one_row ≡ keys_kept op
  row_length = length-take-le (keys_kept op) (all_keys op) (omega (arith, kept_few op))

  made_whole : op_made own_limits one_head one_row ≡ op
  made_whole =
      let n : ℕ = keys_kept op - 1 in
      let more : keys_kept op ≡ suc n = omega (arith, kept_some op) in
      let rest : take n op.params ++ replicate (PARAMS - n) no_key ≡ op.params
      = front_and_blank op.params n PARAMS no_key (omega (arith, kept_few op)) long (kept_blank op long) in
      ap (λ (k : ℕ). op_made own_limits one_head (take k (all_keys op))) more ∙ rw (count, rest) refl

  module _ (limits : List OpLimits) (short : length limits ≤ 1) (own : row_limits_at limits 0 ≡ own_limits) where
    one_op : row_op (one_head ∷ []) one_row limits 0 ≡ op
    unfolding row_op
    one_op =
        ap (λ (l : OpLimits). op_made l one_head (take (keys_kept op) one_row)) own
        ∙ ap (op_made own_limits one_head) (take_all (keys_kept op) one_row (omega (arith, row_length)))
        ∙ made_whole

    pub one_ops : row_ops (one_head ∷ []) one_row limits ≡ op ∷ []
    unfolding row_ops
    one_ops = ap (λ (x : Op). x ∷ []) one_op

    at_first : (P : ℕ → Type 0) → P 0 → (o : ℕ) → o < length (one_head ∷ []) → P o
    at_first P first o lt = let none : 0 ≡ o = omega arith in subst P none first

    pub one_are : AreKeyRows (one_head ∷ []) one_row limits
    one_are =
        let head = row_head_at (one_head ∷ []) in
        record {
          limited = omega arith;
          some = at_first (λ o. 0 < (head o).width) (kept_some op);
          few = at_first (λ o. (head o).width ≤ READS) (kept_few op);
          inside = at_first (λ o. (head o).place + (head o).width ≤ length one_row) (omega (arith, row_length));
          begins = at_first (λ o. (head o).place ≡ sum_by width_in (take o (one_head ∷ []))) refl;
          whole = omega (arith, row_length, sum_by_push width_in [] one_head);
          tight = at_first (λ o. (head o).width ≡ keys_kept (row_op (one_head ∷ []) one_row limits o))
              (ap keys_kept (sym one_op));
        }
