-- Events of one operation and another for each of some keys.
use Rattle.std.proofs.Common.{◌≡◌, ℕ, ◌<◌, ◌≤◌, true, List, [], ◌∷◌, length, map, take, drop, get_or, refl, sym, ◌∙◌, ap, subst, arith}
use Rattle.std.specs.List.{All, IsDistinct}
use Rattle.std.proofs.lemmas.List.{length-map, take_all}
use Rattle.std.proofs.lemmas.List.Elements.{All-cons, All-map, All-weaker}
use Rattle.morph_base.specs.declared.limits.TheConstants.{EVENT_OPS}
use Rattle.morph_base.specs.Limits.{latest_time}
use Rattle.morph_base.specs.declared.key.Key.{Key}
use Rattle.morph_base.specs.declared.key.Layout.{Layout}
use Rattle.morph_base.specs.declared.operation.Func.{Func}
use Rattle.morph_base.specs.declared.operation.Op.{Op}
use Rattle.morph_base.specs.Operations.{IsShaped, InLayout, least_params, reads, same_key}
use Rattle.morph_base.specs.Transactions.{Transaction}
use Rattle.morph_base.proofs.ShapeLaws.{all_of}
use Rattle.event_reader.specs.declared.version.Version.{Version}
use Rattle.event_reader.specs.Keys.{key_of, are_distinct}
use Rattle.event_reader.specs.Reader.{IsEventOf}
use Rattle.event_reader.specs.VersionLaws.{op_in-shaped}
use Rattle.event_reader.specs.Versions.{greatest_of, op_in}
use Rattle.event_reader.proofs.LineKeys.{differ}

-- an operation of an event: its shape, its keys and its greatest value
abbrev ReadsIn : Layout → Op → Type 0
ReadsIn layout op = All (InLayout layout) (reads op)

abbrev HasGreatest : Version → Op → Type 0
HasGreatest version op = op.high ≡ greatest_of version

pub record IsOpOf (version : Version) (layout : Layout) (op : Op) : Type 0 where
  pub shaped : IsShaped op
  pub inside : ReadsIn layout op
  pub greatest : HasGreatest version op

-- a time and operations of the version that change different keys are an event
pub ops_valid : (version : Version) (layout : Layout) (ts : ℕ) (ops : List Op) → 0 < ts → ts ≤ latest_time → 0 < length ops → length ops ≤ EVENT_OPS
    → All (IsOpOf version layout) ops → IsDistinct same_key (map (λ op. op.key) ops) → IsEventOf version layout (record { ts = ts; ops = ops })
ops_valid version layout ts ops start end some few all apart = (
  record {
    after_start = start;
    latest = end;
    some = some;
    few = few;
    shaped = All-weaker (IsOpOf version layout) IsShaped (λ op is. is.shaped) ops all;
    distinct = apart;
  },
  All-weaker (IsOpOf version layout) (ReadsIn layout) (λ op is. is.inside) ops all,
  All-weaker (IsOpOf version layout) (HasGreatest version) (λ op is. is.greatest) ops all,
)

-- an operation that reads its target alone
pub plain_op : (version : Version) (layout : Layout) (func : Func) (key : Key) (c : ℕ) → least_params func ≤ 0 → c ≤ greatest_of version → InLayout layout key
    → IsOpOf version layout (op_in version func key [] c)
plain_op version layout func key c none small inside = record {
  shaped = op_in-shaped version func key [] c none (omega arith) small;
  inside = all_of (InLayout layout) (key ∷ []) (inside, tt);
  greatest = refl;
}

abbrev pub headed : (ts : ℕ) → (first : Op) → (of : Key → Op) → (keys : List Key) → Transaction
headed ts first of keys = record { ts = ts; ops = first ∷ map of keys }

-- each of the others changes the key that it is made of
targets : (of : Key → Op) → ((key : Key) → (of key).key ≡ key) → (keys : List Key) → map (λ op. op.key) (map of keys) ≡ keys
targets of on [] = refl
targets of on (key ∷ keys) = ap (λ k. k ∷ map (λ op. op.key) (map of keys)) (on key) ∙ ap (λ ks. key ∷ ks) (targets of on keys)

-- so the event is valid where its keys differ
pub headed_valid : (version : Version) (layout : Layout) (ts : ℕ) (first : Op) (of : Key → Op) (keys : List Key) → 0 < ts → ts ≤ latest_time → length keys < EVENT_OPS
    → IsOpOf version layout first → ((key : Key) → InLayout layout key → IsOpOf version layout (of key)) → ((key : Key) → (of key).key ≡ key)
    → All (InLayout layout) keys → are_distinct (first.key ∷ keys) ≡ true
    → IsEventOf version layout (headed ts first of keys)
headed_valid version layout ts first of keys start end few head each on all apart = (
  record {
    after_start = start;
    latest = end;
    some = omega arith;
    few = omega (arith, few, length-map keys of);
    shaped = All-cons IsShaped first (map of keys) head.shaped (All-map IsShaped of keys (λ k d here. (each (get_or keys k d) (all k d here)).shaped));
    distinct = subst (IsDistinct same_key) (ap (λ ks. first.key ∷ ks) (sym (targets of on keys))) (differ (first.key ∷ keys) apart);
  },
  All-cons (ReadsIn layout) first (map of keys) head.inside (All-map (ReadsIn layout) of keys (λ k d here. (each (get_or keys k d) (all k d here)).inside)),
  All-cons (HasGreatest version) first (map of keys) head.greatest (All-map (HasGreatest version) of keys (λ k d here. (each (get_or keys k d) (all k d here)).greatest)),
)

-- what a line says by its time, an amount, and the keys of its ids: one in a place of its own, and those behind the places
pub said_by_keys : {R : Type 0} (says : (ts amount : ℕ) → Key → List Key → R) (table : ℕ) (ns first : List ℕ) (key : Key) (keys : List Key)
    → ((i : ℕ) → i < 3 → get_or first i 0 ≡ get_or ns i 0) → key ≡ key_of table (get_or first 1 0) → keys ≡ map (key_of table) (drop 3 ns)
    → says (get_or ns 0 0) (get_or ns 2 0) (key_of table (get_or ns 1 0)) (map (key_of table) (drop 3 ns)) ≡ says (get_or first 0 0) (get_or first 2 0) key keys
said_by_keys says table ns first key keys at one others =
    rw (others, one, at 0 (omega arith), at 1 (omega arith), at 2 (omega arith)) refl

-- it is made once each key has its operation
pub headed_ops : (ts : ℕ) (first : Op) (of : Key → Op) (keys : List Key) (i : ℕ) (ops : List Op) → length keys ≤ i
    → ops ≡ first ∷ map of (take i keys) → headed ts first of keys ≡ record { ts = ts; ops = ops }
headed_ops ts first of keys i ops past is =
    let all : ops ≡ first ∷ map of keys = is ∙ ap (λ ks. first ∷ map of ks) (take_all i keys past) in
    ap (made ts) (sym all)
  where
    made : ℕ → List Op → Transaction
    made t os = record { ts = t; ops = os }
