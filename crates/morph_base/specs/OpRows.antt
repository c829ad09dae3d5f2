-- What is kept of an operation where operations stand in rows: how many of its keys, and how many stand before it
use Rattle.std.specs.Prelude.{ℕ, ◌+◌, Bool, ◌&&◌, List, ◌∷◌, take, drop, nat_lt, if◌then◌else◌}
use Rattle.std.specs.List.{list_all, sum_by}
use Rattle.morph_base.specs.declared.limits.TheConstants.{READS}
use Rattle.morph_base.specs.declared.key.Key.{Key}
use Rattle.morph_base.specs.declared.operation.Op.{Op}
use Rattle.morph_base.specs.Operations.{no_key, same_key}

-- The test whether the number of an operation's parameters is at most PARAMS, and its places behind them hold `no_key`
abbrev pub has_blank_rest : Op → Bool
has_blank_rest op = nat_lt op.n_params READS && list_all (same_key no_key) (drop op.n_params op.params)

-- How many keys a row keeps of an operation: those that it reads, if the places behind them are blank, and else all
unfoldable pub keys_kept : Op → ℕ
keys_kept op = if has_blank_rest op then op.n_params + 1 else READS

-- The keys of an operation, its target's first
abbrev pub all_keys : Op → List Key
all_keys op = op.key ∷ op.params

-- How many keys are kept of the operations before o
abbrev pub keys_before : List Op → ℕ → ℕ
keys_before ops o = sum_by keys_kept (take o ops)
