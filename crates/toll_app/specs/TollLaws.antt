-- Every event of Toll Processing is valid, and its refusals are form and range
use Rattle.std.proofs.Common.{◌≡◌, ℕ, ◌+◌, ◌*◌, ◌<◌, ◌≤◌, List, [], ◌∷◌, refl, subst, arith, Ok, Err}
use Rattle.std.specs.Prelude.{slice_index}
use Rattle.std.specs.List.{All, IsDistinct}
use Rattle.morph_base.specs.declared.limits.TheConstants.{FIRST_MAX}
use Rattle.morph_base.specs.Limits.{latest_time}
use Rattle.morph_base.specs.declared.key.Key.{Key}
use Rattle.morph_base.specs.declared.key.Layout.{Layout}
use Rattle.morph_base.specs.declared.operation.Func.TheVariants.{Blend, Set, Enter, Charge}
use Rattle.morph_base.specs.declared.operation.Op.{Op}
use Rattle.morph_base.specs.Operations.{IsShaped, InLayout, reads}
use Rattle.morph_base.specs.Transactions.{Transaction}
use Rattle.morph_base.proofs.ShapeLaws.{all_of}
use Rattle.event_reader.specs.declared.version.Version.{Version}
use Rattle.event_reader.specs.Versions.{greatest_of}
use Rattle.event_reader.specs.VersionLaws.{first_at_most, op_in-shaped}
use Rattle.event_reader.specs.declared.cause.Cause.{Cause}
use Rattle.event_reader.specs.Ranges.{times, ids}
use Rattle.event_reader.specs.Reader.{IsOfWords, IsEventOf}
use Rattle.event_reader.proofs.Forms.{Fits, IsSound, place, events_valid, events_causes}
use Rattle.toll_app.specs.Toll.{key, speed_of, place_of, count_of, bill_of, segments, miles, report, report_of, reports, toll_kinds, toll_event}

-- The layout of the tables
abbrev toll_layout : (size : ℕ) → Layout
toll_layout size = record { tables = 4; size = size }

abbrev IsTollKey : (size : ℕ) → Key → Type 0
IsTollKey size = InLayout (toll_layout size)

key_in : (size table id : ℕ) → table < 4 → id < size → IsTollKey size (key table id)
key_in size table id known inside = record { table = known; id = inside }

-- The keys that an operation reads are in the layout
abbrev TollReadsIn : (size : ℕ) → Op → Type 0
TollReadsIn size op = All (IsTollKey size) (reads op)

-- A report is valid if its numbers are in range
report_is_valid : (version : Version) (size ts vehicle segment speed : ℕ) → 0 < ts → ts ≤ latest_time → vehicle < size → segment < size → segment < FIRST_MAX → speed ≤ 100
    → IsEventOf version (toll_layout size) (report version ts vehicle segment speed)
unfolding IsDistinct
report_is_valid version size ts vehicle segment speed start end inside inside' small slow =
    let most = first_at_most version in
    let average = key_in size 0 segment (omega arith) inside' in
    let place = key_in size 1 vehicle (omega arith) inside in
    let count = key_in size 2 segment (omega arith) inside' in
    let bill = key_in size 3 vehicle (omega arith) inside in (
      record {
        after_start = start;
        latest = end;
        some = omega arith;
        few = omega arith;
        shaped = all_of IsShaped (report version ts vehicle segment speed).ops (
          op_in-shaped version Blend (speed_of segment) [] (100 * speed) (omega arith) (omega arith) (omega (arith, most)),
          (
            op_in-shaped version Set (place_of vehicle) [] (segment + 1) (omega arith) (omega arith) (omega (arith, most)),
            (
              op_in-shaped version Enter (count_of segment) (place_of vehicle ∷ []) (segment + 1) (omega arith) (omega arith) (omega (arith, most)),
              (op_in-shaped version Charge (bill_of vehicle) (speed_of segment ∷ count_of segment ∷ []) 1000000 (omega arith) (omega arith) (omega (arith, most)), tt),
            ),
          ),
        );
        distinct = ((refl, (refl, (refl, tt))), ((refl, (refl, tt)), ((refl, tt), (tt, tt))));
      },
      all_of (TollReadsIn size) (report version ts vehicle segment speed).ops (
        all_of (IsTollKey size) (speed_of segment ∷ []) (average, tt),
        (
          all_of (IsTollKey size) (place_of vehicle ∷ []) (place, tt),
          (
            all_of (IsTollKey size) (count_of segment ∷ place_of vehicle ∷ []) (count, (place, tt)),
            (all_of (IsTollKey size) (bill_of vehicle ∷ speed_of segment ∷ count_of segment ∷ []) (bill, (average, (count, tt))), tt),
          ),
        ),
      ),
      all_of (λ op. op.high ≡ greatest_of version) (report version ts vehicle segment speed).ops (refl, (refl, (refl, (refl, tt)))),
    )

report_numbers : (version : Version) (size : ℕ) (ns : List ℕ) (e : Transaction) → Fits (reports version size).form ns → report_of version ns ≡ Ok e
    → IsEventOf version (toll_layout size) e
report_numbers version size ns e fits is =
    let ts = place (reports version size).form ns 0 times fits (omega arith) refl in
    let vehicle = place (reports version size).form ns 1 (ids size) fits (omega arith) refl in
    let segment = place (reports version size).form ns 2 (segments size) fits (omega arith) refl in
    let speed = place (reports version size).form ns 3 miles fits (omega arith) refl in
    let same : report version (slice_index ns 0) (slice_index ns 1) (slice_index ns 2) (slice_index ns 3) ≡ e = cc in
    subst (λ t. IsEventOf version (toll_layout size) t) same
    (report_is_valid version size _ _ _ _ ts.0 ts.1 (omega (arith, vehicle.0, vehicle.1)) (omega (arith, segment.0, segment.1)) (omega (arith, segment.0, segment.1)) speed.1)

report_sound : (version : Version) (size : ℕ) → IsSound version (toll_layout size) (reports version size)
report_sound version size = record {
  valid = λ ns e fits is. report_numbers version size ns e fits is;
  causes = λ ns cause is. absurd (cc);
}

-- Each event that words say is valid, with its keys in the tables and with the greatest value of the version
pub toll_is_valid : (size : ℕ) (version : Version) (words : List (List ℕ)) (e : Transaction) → toll_event size version words ≡ Ok e → IsEventOf version (record { tables = 4; size = size }) e
toll_is_valid size version words e is = events_valid version (toll_layout size) (toll_kinds version size) (report_sound version size, tt) words e is

-- Words have no other causes than form, range and same
pub toll_causes : (size : ℕ) (version : Version) (words : List (List ℕ)) (cause : Cause) → toll_event size version words ≡ Err cause → IsOfWords cause
toll_causes size version words cause is = events_causes version (toll_layout size) (toll_kinds version size) (report_sound version size, tt) words cause is
