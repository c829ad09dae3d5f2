-- The lines that the generator of Toll Processing writes
use Rattle.std.specs.Prelude.{ℕ, min, List, [], ◌∷◌}
use Rattle.event_reader.specs.Draws.{after_draws, draw_at}
use Rattle.event_reader.specs.Generated.{Drawn}
use Rattle.event_reader.specs.PlainLines.{plain_line}

-- The numbers of a report at time i: its time, then a vehicle, one of at most 100 segments, and a speed in miles per
-- hour, drawn in this order
abbrev pub drawn_report : (size i state : ℕ) → List ℕ
drawn_report size i state = i ∷ draw_at state 1 size ∷ draw_at state 2 (min size 100) ∷ draw_at state 3 101 ∷ []

-- The line of event i, which is a report, and the state of the draws after it
abbrev pub toll_drawn : (size i state : ℕ) → Drawn
toll_drawn size i state = record { line = plain_line 84 (drawn_report size i state); state = after_draws state 3 }
