-- What contracts see of the sources and sinks in memory
use Rattle.std.specs.Prelude.{◌≡◌, ℕ, zero, suc, ◌+◌, ◌-◌, ◌≤◌, ◌⊎◌, ◌↔◌, min, nat_lt, if◌then◌else◌, List, [], ◌++◌, length, take, drop, Contains, Result, IsOk, IsErr, IfOk, OnErr}
use Rattle.morph_io.specs.declared.sink.WriteFailed.{WriteFailed}
use Rattle.morph_io.specs.declared.source.ReadFailed.{ReadFailed}

-- A source of given bytes, which gives at most `piece` of them in one call
pub record Supply : Type 0 where
  -- The bytes that are still to be read
  pub left : List ℕ
  pub piece : ℕ
  -- The numbers of the calls that fail. The first call has number 1
  pub fail : List ℕ
  -- The number of calls so far, and of those that failed
  pub calls : ℕ
  pub faults : ℕ

-- A sink that keeps the bytes, and takes at most `piece` of them in one call
pub record Store : Type 0 where
  -- The bytes that were written
  pub written : List ℕ
  -- The number of further bytes that there is room for
  pub room : ℕ
  pub piece : ℕ
  -- The numbers of the calls that fail, and of those that stall. The first call has number 1
  pub fail : List ℕ
  pub stall : List ℕ
  -- The number of calls so far, and of those that failed
  pub calls : ℕ
  pub faults : ℕ

-- One more than n, in a count that stops at the last u64
abbrev pub counted : ℕ → ℕ
counted n = if nat_lt n 18446744073709551615 then n + 1 else n

-- One read of a source in memory. It fails exactly if the number of the call is among those that fail. Else it gives as
-- many bytes as were asked for, at most a piece and at most those left
pub record SupplyReads (old : Supply) (asked : ℕ) (answer : Result ℕ ReadFailed) (new : Supply) : Type 0 where
  pub fails : IsErr answer ↔ Contains old.fail (old.calls + 1)
  pub failed : OnErr answer (new ≡ record old { calls = counted old.calls; faults = counted old.faults })
  pub count : IfOk answer (λ n. n ≡ min (min (length old.left) old.piece) asked)
  pub given : IfOk answer (λ n. new ≡ record old { left = drop n old.left; calls = counted old.calls })

-- One read of a source that never fails, by the bytes left before and after. It gives some of the bytes, at most as
-- many as were asked for, and none only at the end
pub record GivesBytes (old : List ℕ) (asked : ℕ) (answer : Result ℕ ReadFailed) (new : List ℕ) : Type 0 where
  pub never_fails : IsOk answer
  pub bound : IfOk answer (λ n. n ≤ asked)
  pub given : IfOk answer (λ n. (bytes : List ℕ) × (length bytes ≡ n) × (old ≡ bytes ++ new))
  pub end : IfOk answer (λ n. n ≡ 0 → new ≡ [])

-- The sink's next call fails and appends nothing
abbrev pub IsRefused : Store → Type 0
IsRefused s = (s.room ≡ 0) ⊎ (Contains s.fail (s.calls + 1) ⊎ Contains s.stall (s.calls + 1))

-- One write to a sink in memory. It fails exactly if the sink's next call is refused. Else it takes as many bytes as a
-- piece and the room allow
pub record StoreWrites (old : Store) (piece : List ℕ) (answer : Result ℕ WriteFailed) (new : Store) : Type 0 where
  pub fails : IsErr answer ↔ IsRefused old
  pub failed : OnErr answer (new ≡ record old { calls = counted old.calls; faults = counted old.faults })
  pub count : IfOk answer (λ n. n ≡ min (min (length piece) old.piece) old.room)
  pub taken : IfOk answer (λ n. new ≡ record old { written = old.written ++ take n piece; room = old.room - n; calls = counted old.calls })

-- The line, repeated `times` times
unfoldable pub repeated : ℕ → List ℕ → List ℕ
repeated zero line = []
repeated (suc times) line = line ++ repeated times line

-- The line from place `at` on, and then the line `times` times
abbrev pub left_from : List ℕ → ℕ → ℕ → List ℕ
left_from line at times = drop at line ++ repeated times line
