-- The lines that the ledger's generator writes
use Rattle.std.specs.Prelude.{ℕ, ◌+◌, ◌%◌, ◌||◌, ◌==◌, Bool, nat_lt, if◌then◌else◌, List, [], ◌∷◌}
use Rattle.event_reader.specs.Draws.{after_draws, draw_at}
use Rattle.event_reader.specs.Generated.{Drawn}
use Rattle.event_reader.specs.PlainLines.{plain_line}

-- 1,000: the amounts that are drawn are below this number
abbrev pub drawn_amounts : ℕ
drawn_amounts = 1000

-- The second of two ids, or the id after the first if they are the same. Id 0 comes after the last
abbrev pub apart : (size first second : ℕ) → ℕ
apart size first second = if first == second then (first + 1) % size else second

-- The numbers of a deposit at time i: its time, then an account, an asset and two amounts, drawn in this order
abbrev pub drawn_deposit : (size i state : ℕ) → List ℕ
drawn_deposit size i state =
    i ∷ draw_at state 1 size ∷ draw_at state 2 size ∷ draw_at state 3 drawn_amounts ∷ draw_at state 4 drawn_amounts ∷ []

-- The numbers of a transfer at time i, with the two accounts and the two assets brought apart
abbrev pub moved : (size i src dst asrc adst a b : ℕ) → List ℕ
moved size i src dst asrc adst a b = i ∷ src ∷ apart size src dst ∷ asrc ∷ apart size asrc adst ∷ a ∷ b ∷ []

-- The numbers of a transfer at time i whose two accounts, two assets and two amounts are drawn in this order
abbrev pub drawn_transfer : (size i state : ℕ) → List ℕ
drawn_transfer size i state =
    moved size i (draw_at state 1 size) (draw_at state 2 size) (draw_at state 3 size) (draw_at state 4 size) (draw_at state 5 drawn_amounts) (draw_at state 6 drawn_amounts)

-- The test whether a line is a deposit: in two of four draws, and always if there is only one id, which has nothing
-- apart from it
abbrev pub is_deposit : (size state : ℕ) → Bool
is_deposit size state = nat_lt (draw_at state 1 4) 2 || nat_lt size 2

-- The line of event i, a deposit or a transfer, and the state after it
abbrev pub ledger_drawn : (size i state : ℕ) → Drawn
ledger_drawn size i state =
    if is_deposit size state then record { line = plain_line 68 (drawn_deposit size i (after_draws state 1)); state = after_draws state 5 }
    else record { line = plain_line 88 (drawn_transfer size i (after_draws state 1)); state = after_draws state 7 }
