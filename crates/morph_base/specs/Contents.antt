-- What contracts see of a `List`: its items, and the room that its memory has for more of them
use Rattle.std.specs.Prelude.{ℕ, slice_set, List, ◌++◌, length, take, drop, refl}
use Rattle.std.specs.Coded.{Coded, code_by, coded×, coded_ℕ, coded_list}

-- The items of a list in order, and its room: how many pushes cannot run out of memory
pub record Contents (T : Type 0) : Type 0 where
  pub items : List T
  pub room : ℕ

-- Contents are stored as the pair of their items and their room, as a generic type needs it
abbrev pub contents_code : {T : Type 0} → Coded T → Coded (Contents T)
contents_code {T} code =
    code_by (List T × ℕ) (coded× (coded_list code) coded_ℕ) (λ c. (c.items, c.room)) (λ p. record { items = p.0; room = p.1 }) (λ _. refl)

-- The contents c after a loan of its items that ended with `items`. A slice keeps its length: if `items` were shorter,
-- the old items beyond them would stay, and if they were longer, they are cut
abbrev pub with_items : {T : Type 0} → Contents T → List T → Contents T
with_items c items =
    record { items = take (length c.items) (items ++ drop (length items) c.items); room = c.room }

-- The contents c after a loan of its item at place i that ended with `item`
abbrev pub with_item : {T : Type 0} → Contents T → ℕ → T → Contents T
with_item c i item = record { items = slice_set c.items i item; room = c.room }
