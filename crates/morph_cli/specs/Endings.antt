-- Inside the crate: how a run that reads ahead ends, by the tail that its pipe met
use Rattle.std.specs.Prelude.{◌≡◌, ℕ, List, Option, Some, None, Result, Ok, Err}
use Rattle.batch_pipe.specs.declared.tail.Tail.{Tail}
use Rattle.batch_pipe.specs.declared.tail.Tail.TheVariants.{End, Refused as RefusedLine, Fault as Unread, RunMemory, Untold}
use Rattle.run_text.specs.Text.{refused_text}
use Rattle.morph_cli.specs.declared.fault.Fault.{Fault}
use Rattle.morph_cli.specs.declared.fault.Fault.TheVariants.{Write, OutOfMemory}
use Rattle.morph_cli.specs.declared.run.Finish.{Finish}
use Rattle.morph_cli.specs.declared.run.Finish.TheVariants.{Complete, Refused}
use Rattle.morph_cli.specs.Faults.{fault_of}
use Rattle.morph_cli.specs.Outputs.{Outputs, with_both, IsCutIn}

-- A text and a note were written, and the answer is `finish`; or one of the two writes failed
abbrev pub FinishesWith : Finish → Result Finish Fault → Outputs → (text note : List ℕ) → Outputs → Type 0
FinishesWith finish (Ok answer) old text note new = (answer ≡ finish) × (new ≡ with_both old text note)
FinishesWith finish (Err fault) old text note new = (fault ≡ Write) × IsCutIn old text note new

-- At the end of the input the closing text is written, and at a refused line its text. Else nothing is written, and the
-- answer is the fault
abbrev pub EndsBy : Option Tail → Result Finish Fault → Outputs → (closing note : List ℕ) → Outputs → Type 0
EndsBy None answer old closing note new = (answer ≡ Err OutOfMemory) × (new ≡ old)
EndsBy (Some RunMemory) answer old closing note new = (answer ≡ Err OutOfMemory) × (new ≡ old)
EndsBy (Some Untold) answer old closing note new = (answer ≡ Err Write) × (new ≡ old)
EndsBy (Some (Unread fault)) answer old closing note new = (answer ≡ Err (fault_of fault)) × (new ≡ old)
EndsBy (Some End) answer old closing note new = FinishesWith Complete answer old closing note new
EndsBy (Some (RefusedLine line cause)) answer old closing note new =
    FinishesWith Refused answer old (refused_text line cause) note new
