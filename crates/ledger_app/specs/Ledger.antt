-- What the words of a ledger's line say
use Rattle.std.specs.Prelude.{ℕ, ◌-◌, ◌*◌, not, ◌||◌, ◌==◌, nat_lt, if◌then◌else◌, List, [], ◌∷◌, length, map, drop, slice_index, Result, Ok, Err}
use Rattle.morph_base.specs.declared.key.Key.{Key}
use Rattle.morph_base.specs.declared.limits.TheConstants.{EVENT_OPS}
use Rattle.morph_base.specs.declared.operation.Func.{Func}
use Rattle.morph_base.specs.declared.operation.Func.TheVariants.{Add, Sub, MoveIn}
use Rattle.morph_base.specs.declared.operation.Op.{Op}
use Rattle.morph_base.specs.Operations.{limited_to, op_of}
use Rattle.morph_base.specs.Transactions.{Transaction}
use Rattle.event_reader.specs.declared.cause.Cause.{Cause}
use Rattle.event_reader.specs.declared.cause.Cause.TheVariants.{Range}
use Rattle.event_reader.specs.declared.version.Version.{Version}
use Rattle.event_reader.specs.declared.version.Version.TheVariants.{One, Two}
use Rattle.event_reader.specs.Forms.{Form, Kind, form_of, unless, event_by}
use Rattle.event_reader.specs.Keys.{key_of, are_distinct}
use Rattle.event_reader.specs.Ranges.{times, ids, amounts}
use Rattle.event_reader.specs.Steps.{Meaning}
use Rattle.event_reader.specs.Versions.{greatest_of}

-- The key of an account
abbrev pub account : ℕ → Key
account id = key_of 0 id

-- The key of an asset
abbrev pub asset : ℕ → Key
asset id = key_of 1 id

-- An operation that reads its target alone. It leaves at least `floor` there if it takes from it
abbrev pub change : Version → Func → Key → (c floor : ℕ) → Op
change version func key c floor = limited_to floor (greatest_of version) (op_of func key [] c)

-- The operation that adds c to a key, if as much can be taken from another key and at least `floor` is left there
abbrev pub move_in : Version → (key from : Key) → (c floor : ℕ) → Op
move_in version key from c floor = limited_to floor (greatest_of version) (op_of MoveIn key (from ∷ []) c)

-- The event of a deposit, `D ts acct asset a b`: a is added to the account, b to the asset
abbrev pub deposit : Version → (ts acct ast a b : ℕ) → Transaction
deposit version ts acct ast a b =
    record { ts = ts; ops = change version Add (account acct) a 0 ∷ change version Add (asset ast) b 0 ∷ [] }

-- The event of a transfer, `X ts src dst asrc adst a b [f]`: a goes from account src to account dst, f has to stay on
-- account src, and b goes from asset asrc to asset adst. It has two `Sub`, and two `MoveIn` with the source as
-- parameter; those of the accounts have the floor f
abbrev pub moving : Version → (ts src dst asrc adst a b f : ℕ) → Transaction
moving version ts src dst asrc adst a b f = record {
  ts = ts;
  ops = change version Sub (account src) a f ∷ change version Sub (asset asrc) b 0 ∷ move_in version (account dst) (account src) a f
      ∷ move_in version (asset adst) (asset asrc) b 0 ∷ [];
}

-- What a transfer says: its event, or the cause same if its two accounts, or its two assets, are one
abbrev pub transfer : Version → (ts src dst asrc adst a b f : ℕ) → Result Transaction Cause
transfer version ts src dst asrc adst a b f =
    unless (src == dst || asrc == adst) (moving version ts src dst asrc adst a b f)

-- The operation that moves the amount of a payout to one account
abbrev pub receipt : Version → (src : Key) → (a : ℕ) → (dst : Key) → Op
receipt version src a dst = move_in version dst src a 0

-- The event of a payout: one `Sub` of the amount for each account named, and a `MoveIn` of it to each, in order
abbrev pub paying : Version → (ts a : ℕ) → (src : Key) → (accounts : List Key) → Transaction
paying version ts a src accounts =
    record { ts = ts; ops = change version Sub src (length accounts * a) 0 ∷ map (receipt version src a) accounts }

-- What a payout, `M ts src a dst1 [dst2 ..]` of version 2, says: its event; the cause range if all of it is above the
-- greatest value; and else the cause same if two of the accounts are one
abbrev pub payout : Version → (ts a : ℕ) → (src : Key) → (accounts : List Key) → Result Transaction Cause
payout version ts a src accounts =
    if nat_lt (greatest_of version) (length accounts * a) then Err Range
    else unless (not (are_distinct (src ∷ accounts))) (paying version ts a src accounts)

-- What the numbers of a deposit say, in their places
abbrev pub deposit_of : Version → List ℕ → Result Transaction Cause
deposit_of version ns =
    Ok (deposit version (slice_index ns 0) (slice_index ns 1) (slice_index ns 2) (slice_index ns 3) (slice_index ns 4))

-- What the numbers of a transfer say, in their places. If no f is given, it is 0
abbrev pub transfer_of : Version → List ℕ → Result Transaction Cause
transfer_of version ns =
    transfer version (slice_index ns 0) (slice_index ns 1) (slice_index ns 2) (slice_index ns 3) (slice_index ns 4) (slice_index ns 5) (slice_index ns 6) (slice_index ns 7)

-- What the numbers of a payout say, in their places
abbrev pub payout_of : Version → List ℕ → Result Transaction Cause
payout_of version ns =
    payout version (slice_index ns 0) (slice_index ns 2) (account (slice_index ns 1)) (map account (drop 3 ns))

-- 15, the most accounts that one payout names: with the one that pays, as many as an event has operations
abbrev pub most_paid : ℕ
most_paid = EVENT_OPS - 1

-- How many numbers of a transfer may say what has to stay: none in version 1, one in version 2
abbrev pub most_floors : Version → ℕ
most_floors One = 0
most_floors Two = 1

-- The kind of a deposit: it begins with `D` and has five numbers
abbrev pub deposits : Version → (size : ℕ) → Kind
deposits version size = record { form = form_of 68 (times ∷ ids size ∷ ids size ∷ amounts version ∷ amounts version ∷ []); says = deposit_of version }

-- The form of a transfer: it begins with `X` and has seven numbers, and in version 2 one more if it has a floor
abbrev pub transfer_form : Version → (size : ℕ) → Form
transfer_form version size = record {
  letter = 88;
  places = times ∷ ids size ∷ ids size ∷ ids size ∷ ids size ∷ amounts version ∷ amounts version ∷ [];
  more = amounts version;
  least = 0;
  most = most_floors version;
}

-- The kind of a transfer
abbrev pub transfers : Version → (size : ℕ) → Kind
transfers version size = record { form = transfer_form version size; says = transfer_of version }

-- The form of a payout: it begins with `M` and has three numbers, followed by one to `most_paid` accounts
abbrev pub payout_form : Version → (size : ℕ) → Form
payout_form version size = record { letter = 77; places = times ∷ ids size ∷ amounts version ∷ []; more = ids size; least = 1; most = most_paid }

-- The kind of a payout
abbrev pub payouts : Version → (size : ℕ) → Kind
payouts version size = record { form = payout_form version size; says = payout_of version }

-- The kinds of event lines in an input of a version: deposits and transfers, and in version 2 also payouts
abbrev pub ledger_kinds : Version → (size : ℕ) → List Kind
ledger_kinds One size = deposits One size ∷ transfers One size ∷ []
ledger_kinds Two size = deposits Two size ∷ transfers Two size ∷ payouts Two size ∷ []

-- What the words of a line say by these kinds, in an input of each version
abbrev pub ledger_event : (size : ℕ) → Meaning
ledger_event size version = event_by (ledger_kinds version size)
