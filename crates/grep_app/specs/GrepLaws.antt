-- Every event of GrepSum is valid, and its refusals are form, range and same
use Rattle.std.proofs.Common.{◌≡◌, ℕ, ◌-◌, ◌<◌, ◌≤◌, true, not, List, [], ◌∷◌, length, map, drop, get_or, refl, sym, subst, arith, zero-le, Ok, Err}
use Rattle.std.specs.Prelude.{slice_index}
use Rattle.std.specs.List.{All, IsDistinct}
use Rattle.std.proofs.lemmas.Bool.{not-false}
use Rattle.std.proofs.lemmas.List.{length-drop, length-map}
use Rattle.std.proofs.lemmas.List.Elements.{All-nil, All-cons, All-map}
use Rattle.morph_base.specs.declared.limits.TheConstants.{PARAMS}
use Rattle.morph_base.specs.Limits.{latest_time}
use Rattle.morph_base.specs.declared.key.Key.{Key}
use Rattle.morph_base.specs.declared.key.Layout.{Layout}
use Rattle.morph_base.specs.declared.operation.Func.TheVariants.{Keep, Sum, Set}
use Rattle.morph_base.specs.declared.operation.Op.{Op}
use Rattle.morph_base.specs.Operations.{IsShaped, InLayout, reads}
use Rattle.morph_base.specs.Transactions.{Transaction}
use Rattle.morph_base.proofs.ShapeLaws.{all_of, reads-op_of}
use Rattle.event_reader.specs.declared.version.Version.{Version}
use Rattle.event_reader.specs.declared.version.Version.TheVariants.{One, Two}
use Rattle.event_reader.specs.Versions.{greatest_of, op_in}
use Rattle.event_reader.specs.VersionLaws.{op_in-shaped}
use Rattle.event_reader.specs.declared.cause.Cause.{Cause}
use Rattle.event_reader.specs.Keys.{are_distinct}
use Rattle.event_reader.specs.Ranges.{times, ids, amounts}
use Rattle.event_reader.specs.Reader.{IsOfWords, IsEventOf}
use Rattle.event_reader.proofs.Heads.{IsOpOf, headed_valid}
use Rattle.event_reader.proofs.Forms.{Fits, IsInRange, IsSound, place, count_of, rest_in, unless_ok, unless_err, events_valid, events_causes}
use Rattle.grep_app.specs.Grep.{cell, setting, setting_of, keep, most_cells, gathering, gather_of, settings, sums, grep_kinds, grep_event}

-- The layout of GrepSum
abbrev grep_layout : (size : ℕ) → Layout
grep_layout size = record { tables = 1; size = size }

cell_in : (size id : ℕ) → id < size → InLayout (grep_layout size) (cell id)
cell_in size id inside = record { table = omega arith; id = inside }

-- The keys that an operation reads are in the layout
abbrev GrepReadsIn : (size : ℕ) → Op → Type 0
GrepReadsIn size op = All (InLayout (grep_layout size)) (reads op)

-- A line that sets a cell is valid if its numbers are in range
setting_is_valid : (version : Version) (size ts k v : ℕ) → 0 < ts → ts ≤ latest_time → k < size → v ≤ greatest_of version
    → IsEventOf version (grep_layout size) (setting version ts k v)
unfolding IsDistinct
setting_is_valid version size ts k v start end inside small = (
  record {
    after_start = start;
    latest = end;
    some = omega arith;
    few = omega arith;
    shaped = all_of IsShaped (setting version ts k v).ops (op_in-shaped version Set (cell k) [] v (omega arith) (omega arith) small, tt);
    distinct = (tt, tt);
  },
  All-cons (GrepReadsIn size) (op_in version Set (cell k) [] v) []
      (All-cons (InLayout (grep_layout size)) (cell k) [] (cell_in size k inside) (All-nil (InLayout (grep_layout size)))) (All-nil (GrepReadsIn size)),
  all_of (λ op. op.high ≡ greatest_of version) (setting version ts k v).ops (refl, tt),
)

-- A line that sums is valid if its numbers are in range and its cells differ
sum_op : (version : Version) (size limit : ℕ) (target : Key) (cells : List Key) → limit ≤ greatest_of version → 0 < length cells → length cells ≤ PARAMS → InLayout (grep_layout size) target
    → All (InLayout (grep_layout size)) cells → IsOpOf version (grep_layout size) (op_in version Sum target cells limit)
sum_op version size limit target cells small some few inside all = record {
  shaped = op_in-shaped version Sum target cells limit some few small;
  inside = subst (All (InLayout (grep_layout size))) (sym (reads-op_of Sum target cells limit)) (All-cons (InLayout (grep_layout size)) target cells inside all);
  greatest = refl;
}

keep_op : (version : Version) (size : ℕ) (key : Key) → InLayout (grep_layout size) key → IsOpOf version (grep_layout size) (keep version key)
keep_op version size key inside = record {
  shaped = op_in-shaped version Keep key [] 0 (omega arith) (omega arith) zero-le;
  inside = All-cons (InLayout (grep_layout size)) key [] inside (All-nil (InLayout (grep_layout size)));
  greatest = refl;
}

gathering_is_valid : (version : Version) (size ts limit : ℕ) (target : Key) (cells : List Key) → 0 < ts → ts ≤ latest_time → limit ≤ greatest_of version → 0 < length cells → length cells ≤ PARAMS
    → InLayout (grep_layout size) target → All (InLayout (grep_layout size)) cells → are_distinct (target ∷ cells) ≡ true
    → IsEventOf version (grep_layout size) (gathering version ts limit target cells)
gathering_is_valid version size ts limit target cells start end small some few inside all apart =
    headed_valid version (grep_layout size) ts (op_in version Sum target cells limit) (keep version) cells start end (omega (arith, few)) (sum_op version size limit target cells small some few inside all)
    (keep_op version size) (λ key. refl) all apart

-- Ids in range name cells of the layout
cells_in : (size : ℕ) (cells : List ℕ) → All (IsInRange (ids size)) cells → All (InLayout (grep_layout size)) (map cell cells)
cells_in size cells inside =
    All-map (InLayout (grep_layout size)) cell cells
    (λ i d here. let bounds = inside i d here in cell_in size (get_or cells i d) (omega (arith, bounds.0, bounds.1)))

-- The numbers in the places of a line that sets a cell
setting_numbers : (version : Version) (size : ℕ) (ns : List ℕ) (e : Transaction) → Fits (settings version size).form ns → setting_of version ns ≡ Ok e
    → IsEventOf version (grep_layout size) e
setting_numbers version size ns e fits is =
    let ts = place (settings version size).form ns 0 times fits (omega arith) refl in
    let k = place (settings version size).form ns 1 (ids size) fits (omega arith) refl in
    let v = place (settings version size).form ns 2 (amounts version) fits (omega arith) refl in
    let same : setting version (slice_index ns 0) (slice_index ns 1) (slice_index ns 2) ≡ e = cc in
    subst (λ t. IsEventOf version (grep_layout size) t) same
    (setting_is_valid version size _ _ _ ts.0 ts.1 (omega (arith, k.0, k.1)) v.1)

setting_sound : (version : Version) (size : ℕ) → IsSound version (grep_layout size) (settings version size)
setting_sound version size = record {
  valid = λ ns e fits is. setting_numbers version size ns e fits is;
  causes = λ ns cause is. absurd (cc);
}

-- A line sums at most as many cells as an operation has parameters
pub cells_at_most : (version : Version) → most_cells version ≤ PARAMS
cells_at_most One = omega arith
cells_at_most Two = omega arith

-- The numbers in the places of a line that sums
gather_numbers : (version : Version) (size : ℕ) (ns : List ℕ) (e : Transaction) → Fits (sums version size).form ns → gather_of version ns ≡ Ok e
    → IsEventOf version (grep_layout size) e
gather_numbers version size ns e fits is =
    let ts = place (sums version size).form ns 0 times fits (omega arith) refl in
    let k = place (sums version size).form ns 1 (ids size) fits (omega arith) refl in
    let limit = place (sums version size).form ns 2 (amounts version) fits (omega arith) refl in
    let counts = count_of (sums version size).form (length ns) fits.count in
    let many : length (map cell (drop 3 ns)) ≡ length ns - 3 = omega (arith, length-map (drop 3 ns) cell, length-drop 3 ns) in
    let parts = unless_ok (not (are_distinct (cell (slice_index ns 1) ∷ map cell (drop 3 ns)))) _ e is in
    subst (λ t. IsEventOf version (grep_layout size) t) parts.1
    (gathering_is_valid version size (slice_index ns 0) (slice_index ns 2) (cell (slice_index ns 1)) (map cell (drop 3 ns)) ts.0 ts.1 limit.1
    (omega (arith, many, counts.0)) (let most = cells_at_most version in omega (arith, many, most, counts.1)) (cell_in size (slice_index ns 1) (omega (arith, k.0, k.1)))
    (cells_in size (drop 3 ns) (rest_in (sums version size).form ns fits)) (not-false (are_distinct (cell (slice_index ns 1) ∷ map cell (drop 3 ns))) parts.0))

gather_sound : (version : Version) (size : ℕ) → IsSound version (grep_layout size) (sums version size)
gather_sound version size = record {
  valid = λ ns e fits is. gather_numbers version size ns e fits is;
  causes = λ ns cause is. subst IsOfWords (unless_err (not (are_distinct (cell (slice_index ns 1) ∷ map cell (drop 3 ns)))) _ cause is) tt;
}

-- Each event that words say is valid, with its keys in the tables and with the greatest value of the version
pub grep_is_valid : (size : ℕ) (version : Version) (words : List (List ℕ)) (e : Transaction) → grep_event size version words ≡ Ok e → IsEventOf version (record { tables = 1; size = size }) e
grep_is_valid size version words e is = events_valid version (grep_layout size) (grep_kinds version size) (setting_sound version size, (gather_sound version size, tt)) words e is

-- Words have no other causes than form, range and same
pub grep_causes : (size : ℕ) (version : Version) (words : List (List ℕ)) (cause : Cause) → grep_event size version words ≡ Err cause → IsOfWords cause
grep_causes size version words cause is = events_causes version (grep_layout size) (grep_kinds version size) (setting_sound version size, (gather_sound version size, tt)) words cause is
