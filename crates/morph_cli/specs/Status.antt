-- The statuses, and the last line of the notes
use Rattle.std.specs.Prelude.{◌≡◌, ℕ, ◌≤◌, ◌⊎◌, ◌==◌, if◌then◌else◌, List, [], codes, Option, Result, Ok, Err}
use Rattle.morph_cli.specs.declared.fault.Fault.{Fault}
use Rattle.morph_cli.specs.declared.fault.Fault.TheVariants.{Read, Write, OutOfMemory, TooLong}
use Rattle.morph_cli.specs.declared.run.Finish.{Finish}
use Rattle.morph_cli.specs.declared.run.Finish.TheVariants.{Complete, Refused}
use Rattle.morph_io.specs.Told.{behind, HasRisen}
use Rattle.morph_io.specs.SinkWrites.{AppendsPart}
use Rattle.run_text.specs.Text.{line}

-- The status of a run, by its answer
abbrev pub status_of : Result Finish Fault → ℕ
status_of (Ok Complete) = 0
status_of (Ok Refused) = 3
status_of (Err Read) = 4
status_of (Err Write) = 5
status_of (Err OutOfMemory) = 6
status_of (Err TooLong) = 7

-- The last line of the notes, by the status. At 0 and 3 there is none
abbrev pub note_at : (status : ℕ) → List ℕ
note_at status =
    if status == 2 then line (codes "usage: morph app=ledger|grep|toll [name=value ...]")
    else (if status == 4 then line (codes "morph: read failed")
    else (if status == 5 then line (codes "morph: write failed")
    else (if status == 6 then line (codes "morph: out of memory")
    else (if status == 7 then line (codes "morph: input too long") else []))))

-- The notes end with this last line behind what stood there, and none of its writes failed; or one failed, and a part
-- of the line stands there
abbrev pub EndsWith : (line : List ℕ) → (old new : Option (List ℕ)) → (faults faults' : ℕ) → Type 0
EndsWith line old new faults faults' =
    ((new ≡ behind old line) × (faults' ≡ faults)) ⊎ (AppendsPart old line new × HasRisen faults faults')

-- The notes end with the last line of the status
abbrev pub EndsNotes : (status : ℕ) → (old new : Option (List ℕ)) → (faults faults' : ℕ) → Type 0
EndsNotes status old new faults faults' = EndsWith (note_at status) old new faults faults'

-- The number is a status: 0, or from 2 to 7
abbrev pub IsStatus : ℕ → Type 0
IsStatus status = (status ≤ 7) × (status ≡ 1 → ⊥)

-- The number is a status of a run over an input that the program makes: 0, 5 or 6
abbrev pub IsMadeStatus : ℕ → Type 0
IsMadeStatus status = (status ≡ 0) ⊎ (status ≡ 5) ⊎ (status ≡ 6)
