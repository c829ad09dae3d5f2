-- What a call that has a text to write does to a sink, by its answer
use Rattle.std.specs.Prelude.{◌≡◌, ℕ, ◌≤◌, List, ◌++◌, Option, Result, OnOk, OnErr}
use Rattle.morph_io.specs.Told.{behind, HasRisen, Puts}
use Rattle.morph_io.specs.SinkWrites.{AppendsPart}
use Rattle.morph_io.specs.declared.sink.WriteFailed.{WriteFailed}

-- A sink, and what a buffer in front of it keeps
pub record Buffered (S : Type 0) : Type 0 where
  pub sink : S
  pub kept : List ℕ

-- The sink with a buffer that keeps these bytes
abbrev pub buffered : {S : Type 0} → S → List ℕ → Buffered S
buffered sink kept = record { sink = sink; kept = kept }

-- The call puts a text into a buffer in front of a sink. If it succeeds, the whole text was put, and there was no
-- fault. If it fails, there was a fault, and the sink has grown by a part of what the buffer kept and of the text
pub record PutsText {S : Type 0} (written : S → Option (List ℕ)) (faults : S → ℕ) (text : List ℕ)
    (answer : Result (Unit {0}) WriteFailed) (before after : Buffered S) : Type 0 where
  pub puts : OnOk answer (Puts (written before.sink) before.kept text (written after.sink) after.kept)
  pub prefix : OnErr answer (AppendsPart (written before.sink) (before.kept ++ text) (written after.sink))
  pub never_falls : faults before.sink ≤ faults after.sink
  pub steady : OnOk answer (faults after.sink ≡ faults before.sink)
  pub cause : OnErr answer (HasRisen (faults before.sink) (faults after.sink))

-- The call writes a text to a sink. If it succeeds, the whole text was written, and there was no fault. If it fails,
-- there was a fault, and the sink has grown by a part of the text
pub record WritesText {S : Type 0} (written : S → Option (List ℕ)) (faults : S → ℕ) (text : List ℕ)
    (answer : Result (Unit {0}) WriteFailed) (sink sink' : S) : Type 0 where
  pub all : OnOk answer (written sink' ≡ behind (written sink) text)
  pub prefix : OnErr answer (AppendsPart (written sink) text (written sink'))
  pub never_falls : faults sink ≤ faults sink'
  pub steady : OnOk answer (faults sink' ≡ faults sink)
  pub cause : OnErr answer (HasRisen (faults sink) (faults sink'))
