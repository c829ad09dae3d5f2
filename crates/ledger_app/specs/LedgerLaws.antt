-- Every event of the ledger is valid, and its refusals are form, range and same
use Rattle.std.proofs.Common.{◌≡◌, ℕ, ◌*◌, ◌-◌, ◌<◌, ◌≤◌, Bool, true, false, not, ◌||◌, List, [], ◌∷◌, length, map, drop, get_or, refl, subst, arith, zero-le, Result, Ok, Err}
use Rattle.std.specs.Prelude.{◌==◌, nat_lt, if◌then◌else◌, slice_index}
use Rattle.std.specs.List.{All, IsDistinct}
use Rattle.std.proofs.lemmas.Bool.{not-false}
use Rattle.std.proofs.lemmas.Bool.Decides.{nat_tests}
use Rattle.std.proofs.lemmas.List.{get_or-drop, length-drop, length-map}
use Rattle.std.proofs.lemmas.List.Elements.{All-map}
use Rattle.morph_base.specs.Limits.{latest_time}
use Rattle.morph_base.specs.declared.key.Key.{Key}
use Rattle.morph_base.specs.declared.key.Layout.{Layout}
use Rattle.morph_base.specs.declared.operation.Func.TheVariants.{Add, Sub, MoveIn}
use Rattle.morph_base.specs.declared.operation.Op.{Op}
use Rattle.morph_base.specs.Operations.{IsShaped, InLayout, reads}
use Rattle.morph_base.specs.Transactions.{Transaction}
use Rattle.morph_base.proofs.ShapeLaws.{all_of, op_of-limited}
use Rattle.event_reader.specs.declared.version.Version.{Version}
use Rattle.event_reader.specs.declared.version.Version.TheVariants.{One, Two}
use Rattle.event_reader.specs.Versions.{greatest_of}
use Rattle.event_reader.specs.VersionLaws.{limit_of, op_in-shaped}
use Rattle.event_reader.specs.declared.cause.Cause.{Cause}
use Rattle.event_reader.specs.declared.cause.Cause.TheVariants.{Range}
use Rattle.event_reader.specs.Keys.{are_distinct}
use Rattle.event_reader.specs.Ranges.{times, ids, amounts}
use Rattle.event_reader.specs.Reader.{IsOfWords, IsEventOf}
use Rattle.event_reader.proofs.Forms.{Fits, IsInRange, IsSound, AreSound, place, count_of, rest_in, neither, unless_ok, unless_err, events_valid, events_causes}
use Rattle.event_reader.proofs.Heads.{IsOpOf, headed_valid}
use Rattle.ledger_app.specs.Ledger.{account, asset, change, receipt, deposit, moving, paying, deposit_of, transfer_of, payout_of, most_paid, deposits, transfers, payouts, ledger_kinds, ledger_event}

-- The layout of the ledger
abbrev ledger_layout : (size : ℕ) → Layout
ledger_layout size = record { tables = 2; size = size }

account_in : (size id : ℕ) → id < size → InLayout (ledger_layout size) (account id)
account_in size id inside = record { table = omega arith; id = inside }

asset_in : (size id : ℕ) → id < size → InLayout (ledger_layout size) (asset id)
asset_in size id inside = record { table = omega arith; id = inside }

-- The keys that an operation reads are in the layout
abbrev LedgerReadsIn : (size : ℕ) → Op → Type 0
LedgerReadsIn size op = All (InLayout (ledger_layout size)) (reads op)

-- A deposit is valid if its numbers are in range
deposit_is_valid : (version : Version) (size ts acct ast a b : ℕ) → 0 < ts → ts ≤ latest_time → acct < size → ast < size → a ≤ greatest_of version → b ≤ greatest_of version
    → IsEventOf version (ledger_layout size) (deposit version ts acct ast a b)
unfolding IsDistinct
deposit_is_valid version size ts acct ast a b start end inside inside' small small' = (
  record {
    after_start = start;
    latest = end;
    some = omega arith;
    few = omega arith;
    shaped = all_of IsShaped (deposit version ts acct ast a b).ops (
      op_in-shaped version Add (account acct) [] a (omega arith) (omega arith) small,
      (op_in-shaped version Add (asset ast) [] b (omega arith) (omega arith) small', tt),
    );
    distinct = ((refl, tt), (tt, tt));
  },
  all_of (LedgerReadsIn size) (deposit version ts acct ast a b).ops (
    all_of (InLayout (ledger_layout size)) (account acct ∷ []) (account_in size acct inside, tt),
    (all_of (InLayout (ledger_layout size)) (asset ast ∷ []) (asset_in size ast inside', tt), tt),
  ),
  all_of (λ op. op.high ≡ greatest_of version) (deposit version ts acct ast a b).ops (refl, (refl, tt)),
)

-- A transfer is valid if its numbers are in range, and its accounts and assets differ
transfer_is_valid : (version : Version) (size ts src dst asrc adst a b f : ℕ) → 0 < ts → ts ≤ latest_time → src < size → dst < size → asrc < size → adst < size → a ≤ greatest_of version → b ≤ greatest_of version → f ≤ greatest_of version
    → (src == dst) ≡ false → (asrc == adst) ≡ false
    → IsEventOf version (ledger_layout size) (moving version ts src dst asrc adst a b f)
unfolding IsDistinct
transfer_is_valid version size ts src dst asrc adst a b f start end i1 i2 i3 i4 small small' stays differ differ' = (
  record {
    after_start = start;
    latest = end;
    some = omega arith;
    few = omega arith;
    shaped = all_of IsShaped (moving version ts src dst asrc adst a b f).ops (
      op_of-limited Sub (account src) [] a f (greatest_of version) (omega arith) (omega arith) stays small (limit_of version),
      (
        op_in-shaped version Sub (asset asrc) [] b (omega arith) (omega arith) small',
        (
          op_of-limited MoveIn (account dst) (account src ∷ []) a f (greatest_of version) (omega arith) (omega arith) stays small (limit_of version),
          (op_in-shaped version MoveIn (asset adst) (asset asrc ∷ []) b (omega arith) (omega arith) small', tt),
        ),
      ),
    );
    distinct = ((refl, (differ, (refl, tt))), ((refl, (differ', tt)), ((refl, tt), (tt, tt))));
  },
  all_of (LedgerReadsIn size) (moving version ts src dst asrc adst a b f).ops (
    all_of (InLayout (ledger_layout size)) (account src ∷ []) (account_in size src i1, tt),
    (
      all_of (InLayout (ledger_layout size)) (asset asrc ∷ []) (asset_in size asrc i3, tt),
      (
        all_of (InLayout (ledger_layout size)) (account dst ∷ account src ∷ []) (account_in size dst i2, (account_in size src i1, tt)),
        (all_of (InLayout (ledger_layout size)) (asset adst ∷ asset asrc ∷ []) (asset_in size adst i4, (asset_in size asrc i3, tt)), tt),
      ),
    ),
  ),
  all_of (λ op. op.high ≡ greatest_of version) (moving version ts src dst asrc adst a b f).ops (refl, (refl, (refl, (refl, tt)))),
)

-- The numbers in the places of a deposit
deposit_numbers : (version : Version) (size : ℕ) (ns : List ℕ) (e : Transaction) → Fits (deposits version size).form ns → deposit_of version ns ≡ Ok e
    → IsEventOf version (ledger_layout size) e
deposit_numbers version size ns e fits is =
    let ts = place (deposits version size).form ns 0 times fits (omega arith) refl in
    let acct = place (deposits version size).form ns 1 (ids size) fits (omega arith) refl in
    let ast = place (deposits version size).form ns 2 (ids size) fits (omega arith) refl in
    let a = place (deposits version size).form ns 3 (amounts version) fits (omega arith) refl in
    let b = place (deposits version size).form ns 4 (amounts version) fits (omega arith) refl in
    let same : deposit version (slice_index ns 0) (slice_index ns 1) (slice_index ns 2) (slice_index ns 3) (slice_index ns 4) ≡ e = cc in
    subst (λ t. IsEventOf version (ledger_layout size) t) same
    (deposit_is_valid version size _ _ _ _ _ ts.0 ts.1 (omega (arith, acct.0, acct.1)) (omega (arith, ast.0, ast.1)) a.1 b.1)

deposit_sound : (version : Version) (size : ℕ) → IsSound version (ledger_layout size) (deposits version size)
deposit_sound version size = record {
  valid = λ ns e fits is. deposit_numbers version size ns e fits is;
  causes = λ ns cause is. absurd (cc);
}

-- What has to stay is an amount, if it is given
floor_fits : (version : Version) (size : ℕ) (ns : List ℕ) → Fits (transfers version size).form ns → slice_index ns 7 ≤ greatest_of version
floor_fits version size ns fits = subst (λ f. f ≤ greatest_of version) (get_or-drop 7 ns 0 0) (first_fits (drop 7 ns) (rest_in (transfers version size).form ns fits))
  where
    first_fits : (fs : List ℕ) → All (IsInRange (amounts version)) fs → slice_index fs 0 ≤ greatest_of version
    first_fits [] inside = zero-le
    first_fits (f ∷ fs) inside = (inside 0 0 (omega arith)).1

-- The numbers in the places of a transfer
transfer_numbers : (version : Version) (size : ℕ) (ns : List ℕ) (e : Transaction) → Fits (transfers version size).form ns → transfer_of version ns ≡ Ok e
    → IsEventOf version (ledger_layout size) e
transfer_numbers version size ns e fits is =
    let parts = unless_ok (slice_index ns 1 == slice_index ns 2 || slice_index ns 3 == slice_index ns 4) _ e is in
    let differ = neither (slice_index ns 1 == slice_index ns 2) (slice_index ns 3 == slice_index ns 4) parts.0 in
    let ts = place (transfers version size).form ns 0 times fits (omega arith) refl in
    let src = place (transfers version size).form ns 1 (ids size) fits (omega arith) refl in
    let dst = place (transfers version size).form ns 2 (ids size) fits (omega arith) refl in
    let asrc = place (transfers version size).form ns 3 (ids size) fits (omega arith) refl in
    let adst = place (transfers version size).form ns 4 (ids size) fits (omega arith) refl in
    let a = place (transfers version size).form ns 5 (amounts version) fits (omega arith) refl in
    let b = place (transfers version size).form ns 6 (amounts version) fits (omega arith) refl in
    subst (λ t. IsEventOf version (ledger_layout size) t) parts.1
    (transfer_is_valid version size _ _ _ _ _ _ _ (slice_index ns 7) ts.0 ts.1 (omega (arith, src.0, src.1)) (omega (arith, dst.0, dst.1)) (omega (arith, asrc.0, asrc.1)) (omega (arith, adst.0, adst.1)) a.1 b.1 (floor_fits version size ns fits) differ.0 differ.1)

transfer_sound : (version : Version) (size : ℕ) → IsSound version (ledger_layout size) (transfers version size)
transfer_sound version size = record {
  valid = λ ns e fits is. transfer_numbers version size ns e fits is;
  causes = λ ns cause is. subst IsOfWords (unless_err (slice_index ns 1 == slice_index ns 2 || slice_index ns 3 == slice_index ns 4) _ cause is) tt;
}

-- A payout is valid if all of it is at most the greatest value and the accounts differ
pays_op : (version : Version) (size c : ℕ) (src : Key) → c ≤ greatest_of version → InLayout (ledger_layout size) src → IsOpOf version (ledger_layout size) (change version Sub src c 0)
pays_op version size c src small inside = record {
  shaped = op_in-shaped version Sub src [] c (omega arith) (omega arith) small;
  inside = all_of (InLayout (ledger_layout size)) (src ∷ []) (inside, tt);
  greatest = refl;
}

gets_op : (version : Version) (size a : ℕ) (src dst : Key) → a ≤ greatest_of version → InLayout (ledger_layout size) src → InLayout (ledger_layout size) dst
    → IsOpOf version (ledger_layout size) (receipt version src a dst)
gets_op version size a src dst small from inside = record {
  shaped = op_in-shaped version MoveIn dst (src ∷ []) a (omega arith) (omega arith) small;
  inside = all_of (InLayout (ledger_layout size)) (dst ∷ src ∷ []) (inside, (from, tt));
  greatest = refl;
}

payout_is_valid : (version : Version) (size ts a : ℕ) (src : Key) (accounts : List Key) → 0 < ts → ts ≤ latest_time → a ≤ greatest_of version → length accounts * a ≤ greatest_of version → length accounts ≤ most_paid
    → InLayout (ledger_layout size) src → All (InLayout (ledger_layout size)) accounts → are_distinct (src ∷ accounts) ≡ true
    → IsEventOf version (ledger_layout size) (paying version ts a src accounts)
payout_is_valid version size ts a src accounts start end small whole few inside all apart =
    headed_valid version (ledger_layout size) ts (change version Sub src (length accounts * a) 0) (receipt version src a) accounts start end (omega (arith, few))
    (pays_op version size (length accounts * a) src whole inside) (λ dst here. gets_op version size a src dst small inside here) (λ dst. refl) all apart

-- Ids in range name accounts of the layout
accounts_in : (size : ℕ) (ns : List ℕ) → All (IsInRange (ids size)) ns → All (InLayout (ledger_layout size)) (map account ns)
accounts_in size ns inside =
    All-map (InLayout (ledger_layout size)) account ns
    (λ i d here. let bounds = inside i d here in account_in size (get_or ns i d) (omega (arith, bounds.0, bounds.1)))

-- What is refused because it is too much
within_ok : (over : Bool) (r : Result Transaction Cause) (e : Transaction) → (if over then Err Range else r) ≡ Ok e → (over ≡ false) × (r ≡ Ok e)
within_ok true r e is = absurd (cc)
within_ok false r e is = (refl, is)

within_err : (over : Bool) (r : Result Transaction Cause) (cause : Cause) → (if over then Err Range else r) ≡ Err cause → (r ≡ Err cause → IsOfWords cause) → IsOfWords cause
within_err true r cause is other = let same : Range ≡ cause = cc in subst IsOfWords same tt
within_err false r cause is other = other is

-- The numbers in the places of a payout
payout_numbers : (version : Version) (size : ℕ) (ns : List ℕ) (e : Transaction) → Fits (payouts version size).form ns → payout_of version ns ≡ Ok e
    → IsEventOf version (ledger_layout size) e
payout_numbers version size ns e fits is =
    let accounts : List Key = map account (drop 3 ns) in
    let ts = place (payouts version size).form ns 0 times fits (omega arith) refl in
    let src = place (payouts version size).form ns 1 (ids size) fits (omega arith) refl in
    let a = place (payouts version size).form ns 2 (amounts version) fits (omega arith) refl in
    let counts = count_of (payouts version size).form (length ns) fits.count in
    let many : length accounts ≡ length ns - 3 = omega (arith, length-map (drop 3 ns) account, length-drop 3 ns) in
    let whole = within_ok (nat_lt (greatest_of version) (length accounts * slice_index ns 2)) _ e is in
    let parts = unless_ok (not (are_distinct (account (slice_index ns 1) ∷ accounts))) _ e whole.1 in
    subst (λ t. IsEventOf version (ledger_layout size) t) parts.1
    (payout_is_valid version size (slice_index ns 0) (slice_index ns 2) (account (slice_index ns 1)) accounts ts.0 ts.1 a.1 (grind (arith, nat_tests, whole.0))
    (omega (arith, many, counts.1)) (account_in size (slice_index ns 1) (omega (arith, src.0, src.1)))
    (accounts_in size (drop 3 ns) (rest_in (payouts version size).form ns fits)) (not-false (are_distinct (account (slice_index ns 1) ∷ accounts)) parts.0))

payout_sound : (version : Version) (size : ℕ) → IsSound version (ledger_layout size) (payouts version size)
payout_sound version size = record {
  valid = λ ns e fits is. payout_numbers version size ns e fits is;
  causes = λ ns cause is. within_err (nat_lt (greatest_of version) (length (map account (drop 3 ns)) * slice_index ns 2)) _ cause is
      (λ other. subst IsOfWords (unless_err (not (are_distinct (account (slice_index ns 1) ∷ map account (drop 3 ns)))) _ cause other) tt);
}

kinds_sound : (version : Version) (size : ℕ) → AreSound version (ledger_layout size) (ledger_kinds version size)
kinds_sound One size = (deposit_sound One size, (transfer_sound One size, tt))
kinds_sound Two size = (deposit_sound Two size, (transfer_sound Two size, (payout_sound Two size, tt)))

-- Each event that words say is valid, with its keys in the tables and with the greatest value of the version
pub ledger_is_valid : (size : ℕ) (version : Version) (words : List (List ℕ)) (e : Transaction) → ledger_event size version words ≡ Ok e → IsEventOf version (record { tables = 2; size = size }) e
ledger_is_valid size version words e is = events_valid version (ledger_layout size) (ledger_kinds version size) (kinds_sound version size) words e is

-- Words have no other causes than form, range and same
pub ledger_causes : (size : ℕ) (version : Version) (words : List (List ℕ)) (cause : Cause) → ledger_event size version words ≡ Err cause → IsOfWords cause
ledger_causes size version words cause is = events_causes version (ledger_layout size) (ledger_kinds version size) (kinds_sound version size) words cause is
