-- The lines that the generator of GrepSum writes
use Rattle.std.specs.Prelude.{ℕ, ◌+◌, ◌%◌, ◌||◌, ◌==◌, Bool, nat_lt, if◌then◌else◌, List, [], ◌∷◌, take}
use Rattle.event_reader.specs.Draws.{after_draws, draw_at}
use Rattle.event_reader.specs.Generated.{Drawn}
use Rattle.event_reader.specs.PlainLines.{plain_line}

-- The numbers of a line that sets a cell at time i: its time, then a cell and a value, drawn in this order
abbrev pub drawn_setting : (size i state : ℕ) → List ℕ
drawn_setting size i state = i ∷ draw_at state 1 size ∷ draw_at state 2 1000 ∷ []

-- The first `many` of the three cells after cell k. Cell 0 comes after the last
abbrev pub cells_after : (size k many : ℕ) → List ℕ
cells_after size k many = take many ((k + 1) % size ∷ (k + 2) % size ∷ (k + 3) % size ∷ [])

-- The numbers of a line at time i that sums the first `many` cells after cell k into it
abbrev pub summed : (size i k many limit : ℕ) → List ℕ
summed size i k many limit = i ∷ k ∷ limit ∷ cells_after size k many

-- The numbers of a line that sums cells at time i: the cell of the sum, how many cells are summed, and the limit are
-- drawn in this order
abbrev pub drawn_sum : (size i state : ℕ) → List ℕ
drawn_sum size i state = summed size i (draw_at state 1 size) (draw_at state 2 3 + 1) (draw_at state 3 4000)

-- The test whether a line sets a cell: in one of two draws, and always if there are fewer than four cells, which are
-- too few for three others
abbrev pub sets : (size state : ℕ) → Bool
sets size state = draw_at state 1 2 == 0 || nat_lt size 4

-- The line of event i, which sets a cell or sums cells, and the state of the draws after it
abbrev pub grep_drawn : (size i state : ℕ) → Drawn
grep_drawn size i state =
    if sets size state then record { line = plain_line 87 (drawn_setting size i (after_draws state 1)); state = after_draws state 3 }
    else record { line = plain_line 71 (drawn_sum size i (after_draws state 1)); state = after_draws state 4 }
