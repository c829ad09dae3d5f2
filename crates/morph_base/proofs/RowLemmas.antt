-- How many rows there are, and what one of them is.
use Rattle.std.proofs.Common.{◌≡◌, ℕ, ◌<◌, List, length, get_or, arith}
use Rattle.std.proofs.lemmas.List.FromFn.{length-map-range_with_len, get_or-map-range_with_len}
use Rattle.morph_base.specs.Rows.{row_at, rows_of}

pub count_rows : (ends items : List ℕ) → length (rows_of ends items) ≡ length ends
count_rows ends items = length-map-range_with_len (row_at ends items) 0 (length ends)

pub row_is : (ends items : List ℕ) (i : ℕ) (d : List ℕ) → i < length ends → get_or (rows_of ends items) i d ≡ row_at ends items i
row_is ends items i d inside = get_or-map-range_with_len (row_at ends items) 0 (length ends) i i d inside (omega arith)
