-- The operations of an event in their arrays, and one more of them.
use Rattle.std.proofs.Common.{◌≡◌, ℕ, ◌+◌, ◌-◌, ◌<◌, ◌≤◌, List, [], ◌∷◌, ◌++◌, length, set, take, drop, map, replicate, inl, inr, refl, sym, ap, ◌∙◌, arith, length-append, length-take, length-drop}
use Rattle.std.proofs.lemmas.Bool.{cases_lt}
use Rattle.std.proofs.lemmas.List.{length-set, length-take-le, length-replicate, get_or-drop, get_or-replicate, get_or_append_left, get_or-append_right, get_or_past, get_or_push, take_more_set}
use Rattle.morph_base.specs.declared.limits.TheConstants.{EVENT_OPS, FIRST_MAX, PARAMS}
use Rattle.morph_base.specs.declared.event_ops.TheConstants.{EVENT_KEYS}
use Rattle.morph_base.specs.declared.event_ops.EventOps.TheInside.{Inside}
use Rattle.morph_base.specs.declared.key.Key.{Key}
use Rattle.morph_base.specs.declared.operation.Op.{Op}
use Rattle.morph_base.specs.declared.op_rows.OpHead.{OpHead}
use Rattle.morph_base.specs.declared.op_rows.OpLimits.{OpLimits}
use Rattle.morph_base.specs.Operations.{no_op}
use Rattle.morph_base.specs.OpRows.{all_keys, keys_kept}
use Rattle.morph_base.specs.RowViews.{first_limits, row_limits_at, shifted}
use Rattle.morph_base.specs.EventViews.{ops_of_event, AreEventOps}
use Rattle.morph_base.proofs.RowViewLaws.{count_rows}
use Rattle.morph_base.proofs.RowAppendLaws.{appended_view, appended_are}
use Rattle.morph_base.proofs.RowOneLaws.{kept_few, one_head, one_row, own_limits, one_ops, one_are}

-- the limits that are put at a place behind others, with those of version 1 between
module _ (limits now : List OpLimits) (n : ℕ) (one : OpLimits) (short : length limits ≤ n)
    (put : now ≡ limits ++ replicate (n - length limits) first_limits ++ one ∷ []) where
  abbrev filled : List OpLimits
  filled = limits ++ replicate (n - length limits) first_limits

  filled_length : length filled ≡ n
  filled_length =
      length-append limits (replicate (n - length limits) first_limits)
      ∙ omega (arith, length-replicate (n - length limits) first_limits)

  pub limits_before : (k : ℕ) → k < n → row_limits_at now k ≡ row_limits_at limits k
  limits_before k lt =
      ap (λ (l : List OpLimits). row_limits_at l k) put
      ∙ get_or_append_left filled (one ∷ []) first_limits k (omega (arith, filled_length))
      ∙ (elim (cases_lt k (length limits)) [
        | inl front ↦ get_or_append_left limits (replicate (n - length limits) first_limits) first_limits k front
        | inr back ↦ (
            get_or-append_right limits (replicate (n - length limits) first_limits) (length limits) k first_limits
            refl back
            ∙ get_or-replicate (n - length limits) (k - length limits) first_limits first_limits (omega arith)
            ∙ sym (get_or_past limits k first_limits back))
      ])

  pub limits_own : row_limits_at now n ≡ one
  limits_own =
      ap (λ (l : List OpLimits). row_limits_at l n) put ∙ get_or_push filled one first_limits n filled_length

module _ (s : Inside) (are : AreEventOps s) where
  limits_length : length (take s.limited s.limits) ≡ s.limited
  limits_length = length-take-le s.limited s.limits (omega (arith, are.limits, are.limited, are.count))

  pub event_count : (ops : List Op) → ops_of_event s ≡ ops → length ops ≡ s.count
  event_count ops is =
      ap length (sym is) ∙ count_rows (take s.count s.heads) (take s.used s.keys) (take s.limited s.limits)
      ∙ length-take-le s.count s.heads (omega (arith, are.heads, are.count))

  -- the limits of the operation that comes next, and those before it
  module _ (limits : List OpLimits) (one : OpLimits)
      (put : take (s.count + 1) limits
      ≡ take s.limited s.limits ++ replicate (s.count - s.limited) first_limits ++ one ∷ []) where
    put_so : take (s.count + 1) limits ≡ take s.limited s.limits
        ++ replicate (s.count - length (take s.limited s.limits)) first_limits ++ one ∷ []
    put_so =
        put ∙ ap (λ (n : ℕ). take s.limited s.limits ++ replicate (s.count - n) first_limits ++ one ∷ [])
        (sym limits_length)

    pub put_before : (k : ℕ) → k < s.count
        → row_limits_at (take (s.count + 1) limits) k ≡ row_limits_at (take s.limited s.limits) k
    put_before =
        limits_before (take s.limited s.limits) (take (s.count + 1) limits) s.count one
        (omega (arith, limits_length, are.limited)) put_so

    pub put_own : row_limits_at (take (s.count + 1) limits) s.count ≡ one
    put_own =
        limits_own (take s.limited s.limits) (take (s.count + 1) limits) s.count one
        (omega (arith, limits_length, are.limited)) put_so

  -- those of version 1 are not kept
  pub unkept_own : (low high : ℕ) → low ≤ 0 → high ≡ FIRST_MAX
      → row_limits_at (take s.limited s.limits) s.count ≡ record { low = low; high = high }
  unkept_own low high none first =
      let zero_low : 0 ≡ low = omega arith in
      let limits : ℕ → ℕ → OpLimits = λ l h. record { low = l; high = h } in
      get_or_past (take s.limited s.limits) s.count first_limits (omega (arith, limits_length, are.limited))
      ∙ ap (λ (l : ℕ). limits l FIRST_MAX) zero_low ∙ ap (λ (h : ℕ). limits low h) (sym first)

-- how many keys are kept hangs on the parameters alone
pub same_width : (op : Op) (n : ℕ) → n ≡ op.n_params → (width : ℕ)
    → width ≡ keys_kept (record no_op { n_params = n; params = op.params }) → width ≡ keys_kept op
unfolding keys_kept
same_width op n same width is =
    is ∙ ap (λ (m : ℕ). keys_kept (record no_op { n_params = m; params = op.params })) same

module _ (s : Inside) (are : AreEventOps s) (op : Op) (long : length op.params ≡ PARAMS) (room : s.count < EVENT_OPS)
    (width : ℕ) (kept : width ≡ keys_kept op) where
  pub keys_fit : s.used + width ≤ EVENT_KEYS
  keys_fit = omega (arith, kept, kept_few op, are.used)

  abbrev head : OpHead
  head = record { c = op.c; place = s.used; func = op.func; n_params = op.n_params; width = width }

  -- with these keys and these limits
  module _ (keys : List Key) (limits : List OpLimits) (limited : ℕ)
      (row : take (s.used + width) keys ≡ take s.used s.keys ++ take width (all_keys op))
      (keys_long : length keys ≡ EVENT_KEYS) (limits_long : length limits ≡ EVENT_OPS) (short : limited ≤ s.count + 1)
      (before : (k : ℕ) → k < s.count → row_limits_at (take limited limits) k ≡ row_limits_at
      (take s.limited s.limits) k)
      (own : row_limits_at (take limited limits) s.count ≡ own_limits op long) where
    abbrev pub with_one : Inside
    with_one = record {
      heads = set s.heads s.count head;
      keys = keys;
      limits = limits;
      count = s.count + 1;
      used = s.used + width;
      limited = limited;
    }

    abbrev old_heads : List OpHead
    old_heads = take s.count s.heads

    abbrev old_keys : List Key
    old_keys = take s.used s.keys

    abbrev all_limits : List OpLimits
    all_limits = take limited limits

    heads_count : length old_heads ≡ s.count
    heads_count = length-take-le s.count s.heads (omega (arith, are.heads))

    keys_count : length old_keys ≡ s.used
    keys_count = length-take-le s.used s.keys (omega (arith, are.keys, are.used, are.count))

    heads_are : take (s.count + 1) (set s.heads s.count head)
        ≡ old_heads ++ map (shifted s.used) (one_head op long ∷ [])
    heads_are =
        let same : head ≡ shifted s.used (one_head op long)
        = ap (λ (n : ℕ). record head { width = n }) kept
        ∙ ap (λ (n : ℕ). record head { place = n; width = keys_kept op }) (omega arith) in
        take_more_set s.heads s.count head (omega (arith, are.heads)) ∙ ap (λ (h : OpHead). old_heads ++ h ∷ []) same

    keys_are : take (s.used + width) keys ≡ old_keys ++ one_row op long
    keys_are = row ∙ ap (λ (n : ℕ). old_keys ++ take n (all_keys op)) kept

    limits_short : length all_limits ≤ s.count + 1
    limits_short = omega (arith, length-take limited limits)

    last_short : length (drop (length old_heads) all_limits) ≤ 1
    last_short = omega (arith, length-drop (length old_heads) all_limits, limits_short, heads_count)

    last_own : row_limits_at (drop (length old_heads) all_limits) 0 ≡ own_limits op long
    last_own =
        let place : length old_heads + 0 ≡ s.count = omega (arith, heads_count) in
        get_or-drop (length old_heads) all_limits 0 first_limits
        ∙ ap (λ (k : ℕ). row_limits_at all_limits k) place ∙ own

    pub event_view : ops_of_event with_one ≡ ops_of_event s ++ op ∷ []
    event_view =
        appended_view old_heads (one_head op long ∷ []) old_keys (one_row op long) (take s.limited s.limits)
        (drop (length old_heads) all_limits) all_limits are.rows
        (one_are op long (drop (length old_heads) all_limits) last_short last_own)
        (omega (arith, limits_short, heads_count))
        (λ k lt. before k (omega (arith, heads_count)))
        (λ k. sym (get_or-drop (length old_heads) all_limits k first_limits))
        (take (s.count + 1) (set s.heads s.count head)) (take (s.used + width) keys) s.used (sym keys_count) heads_are
        keys_are
        ∙ ap (λ (l : List Op). ops_of_event s ++ l)
        (one_ops op long (drop (length old_heads) all_limits) last_short last_own)

    pub event_are : AreEventOps with_one
    event_are = record {
      rows = appended_are old_heads (one_head op long ∷ []) old_keys (one_row op long) (take s.limited s.limits)
          (drop (length old_heads) all_limits) all_limits are.rows
          (one_are op long (drop (length old_heads) all_limits) last_short last_own)
          (omega (arith, limits_short, heads_count))
          (λ k lt. before k (omega (arith, heads_count)))
          (λ k. sym (get_or-drop (length old_heads) all_limits k first_limits))
          (take (s.count + 1) (set s.heads s.count head)) (take (s.used + width) keys) s.used (sym keys_count) heads_are
          keys_are;
      count = omega arith;
      used = omega (arith, are.used, kept, kept_few op);
      limited = short;
      heads = length-set s.heads s.count head ∙ are.heads;
      keys = keys_long;
      limits = limits_long;
    }
