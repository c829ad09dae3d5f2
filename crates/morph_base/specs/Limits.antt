-- The limits that the definitions own. The code's constants are checked against them. A definition may cite a constant
-- of the code in place of its number, since the law `limits` says that the two are the same
use Rattle.std.specs.Prelude.{ℕ}

-- 10^13, the greatest value of a key and the greatest constant of an operation in version 2
abbrev pub greatest_value : ℕ
greatest_value = 10000000000000

-- 10^12, the greatest value of a key and the greatest constant of an operation in version 1
abbrev pub first_greatest_value : ℕ
first_greatest_value = 1000000000000

-- 8, the most places that an operation reads: its target and its parameters
abbrev pub most_reads : ℕ
most_reads = 8

-- 7, the most parameters of an operation
abbrev pub most_parameters : ℕ
most_parameters = 7

-- 16, the most operations of an event
abbrev pub most_event_ops : ℕ
most_event_ops = 16

-- 65,536, the most events of a batch
abbrev pub most_batch_events : ℕ
most_batch_events = 65536

-- 10^12, the greatest time of an event
abbrev pub latest_time : ℕ
latest_time = 1000000000000

-- 16, the most workers
abbrev pub most_workers : ℕ
most_workers = 16

-- 8, the most attempts at an operation
abbrev pub most_attempts : ℕ
most_attempts = 8

-- 2^44, the number of values that a packed word has room for: a value takes 44 bits
abbrev pub value_room : ℕ
value_room = 17592186044416
