-- How bytes are handed to a sink
use Rattle.std.specs.Prelude.{◌≡◌, ℕ, ◌<◌, ◌≤◌, Bool, true, false, is_err, List, [], ◌++◌, length, take, drop, Option, Result, Ok, Err, OnOk}
use Rattle.morph_io.specs.Limits.{out_bytes}
use Rattle.morph_io.specs.Told.{behind, AppendsPrefix}
use Rattle.morph_io.specs.declared.sink.WriteFailed.{WriteFailed}

-- Some bytes are written by calls one after another. Each call offers all bytes that are left, no call comes after one
-- that failed, and the bytes that the sink took are no longer left
pub data Writes {S : Type 0} (writes : S → List ℕ → Result ℕ WriteFailed → S → Type 0) (bytes : List ℕ) (sink₀ : S) :
    (left : List ℕ) → (failed : Bool) → (sink : S) → Type 0 where
  no_write : Writes writes bytes sink₀ bytes false sink₀
  one_more : (left : List ℕ) (count : ℕ) (sink sink' : S) → Writes writes bytes sink₀ left false sink → 0 < length left
      → writes sink left (Ok count) sink' → Writes writes bytes sink₀ (drop count left) false sink'
  last_one : (left : List ℕ) (fault : WriteFailed) (sink sink' : S) → Writes writes bytes sink₀ left false sink
      → 0 < length left
      → writes sink left (Err fault) sink' → Writes writes bytes sink₀ left true sink'

-- The writes of one call of a buffer: they leave nothing if the call succeeds, and the last of them failed if it fails
pub record WritesAll {S T E : Type 0} (writes : S → List ℕ → Result ℕ WriteFailed → S → Type 0) (bytes : List ℕ)
    (sink : S) (answer : Result T E) (sink' : S) : Type 0 where
  pub left : List ℕ
  pub made : Writes writes bytes sink left (is_err answer) sink'
  pub all : OnOk answer (left ≡ [])

-- The writes of a call that puts bytes behind those that a buffer keeps: none if the buffer is not full, and else those
-- of the full buffer
pub record WritesFull {S T E : Type 0} (writes : S → List ℕ → Result ℕ WriteFailed → S → Type 0) (bytes : List ℕ)
    (sink : S) (answer : Result T E) (sink' : S) : Type 0 where
  pub none : length bytes < out_bytes → sink' ≡ sink
  pub full : out_bytes ≤ length bytes → WritesAll writes (take out_bytes bytes) sink answer sink'

-- The sink has grown by some first part of `bytes`, and the rest of them is missing
pub record AppendsPart (old : Option (List ℕ)) (bytes : List ℕ) (new : Option (List ℕ)) : Type 0 where
  pub done : List ℕ
  pub rest : List ℕ
  pub missing : 0 < length rest
  pub parts : bytes ≡ done ++ rest
  pub appended : new ≡ behind old done

-- A sink that has grown by a part has grown by a prefix
pub part_is_prefix : (old new : Option (List ℕ)) (bytes : List ℕ) → AppendsPart old bytes new
    → AppendsPrefix old bytes new
part_is_prefix old new bytes p = record { done = p.done; rest = p.rest; parts = p.parts; appended = p.appended }
