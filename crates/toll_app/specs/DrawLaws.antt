-- Each line that the generator of Toll Processing writes is an event's
use Rattle.std.proofs.Common.{ℕ, ◌<◌, ◌≤◌, [], ◌∷◌, min, refl, arith}
use Rattle.event_reader.specs.Forms.{IsForm}
use Rattle.event_reader.specs.Limits.{generated_events, generated_ids}
use Rattle.event_reader.specs.Draws.{draw_at}
use Rattle.event_reader.specs.declared.version.Version.TheVariants.{One}
use Rattle.event_reader.specs.Generated.{IsEventLine}
use Rattle.event_reader.specs.Numbers.{are_in}
use Rattle.event_reader.specs.PlainLines.{plain_line}
use Rattle.event_reader.specs.Ranges.{times, ids}
use Rattle.event_reader.proofs.DrawBound.{draw_below}
use Rattle.event_reader.proofs.NumberLists.{in_range}
use Rattle.event_reader.proofs.Forms.{Fits, is_form, kind_line}
use Rattle.toll_app.specs.Toll.{segments, miles, report, reports, toll_kinds, toll_event}
use Rattle.toll_app.specs.TollDraws.{toll_drawn}

-- The line of a report
report_form : (size : ℕ) → size ≤ generated_ids → IsForm (reports One size).form
report_form size few =
    is_form (reports One size).form (omega arith) (omega arith) (omega arith, (omega arith, (omega arith, (omega arith, tt)))) (omega arith)

report_fits : (size i vehicle segment speed : ℕ) → size ≤ generated_ids → 0 < i → i ≤ generated_events → vehicle < size → segment < min size 100 → speed ≤ 100
    → Fits (reports One size).form (i ∷ vehicle ∷ segment ∷ speed ∷ [])
unfolding are_in
report_fits size i vehicle segment speed few start last inside inside' slow = record {
  count = refl;
  inside = rw (
    in_range times i (omega arith) (omega arith),
    in_range (ids size) vehicle (omega arith) (omega arith),
    in_range (segments size) segment (omega arith) (omega arith),
    in_range miles speed (omega arith) slow,
  ) refl;
}

report_line : (size i vehicle segment speed : ℕ) → size ≤ generated_ids → 0 < i → i ≤ generated_events → vehicle < size → segment < min size 100 → speed ≤ 100
    → IsEventLine (toll_event size One) i (plain_line 84 (i ∷ vehicle ∷ segment ∷ speed ∷ []))
report_line size i vehicle segment speed few start last inside inside' slow =
    kind_line (toll_kinds One size) (reports One size) i (i ∷ vehicle ∷ segment ∷ speed ∷ []) (report One i vehicle segment speed) (report_form size few)
    (report_fits size i vehicle segment speed few start last inside inside' slow) (omega arith) (omega arith) refl refl refl

-- Each line that the generator writes is an event's, at the time of its number
pub toll_generates : (size i state : ℕ) → 0 < size → size ≤ generated_ids → 0 < i → i ≤ generated_events
    → IsEventLine (toll_event size One) i (toll_drawn size i state).line
toll_generates size i state some few start last =
    let slow : draw_at state 3 101 ≤ 100 = omega (arith, draw_below state 3 101 (omega arith)) in
    report_line size i _ _ _ few start last (draw_below state 1 size some) (draw_below state 2 (min size 100) (omega arith)) slow
