-- Lines that stand behind one more have numbers that are one more.
use Rattle.std.proofs.Common.{◌≡◌, ℕ, ◌+◌, ◌-◌, Bool, true, false, List, [], ◌∷◌, ◌++◌, refl, sym, ap, ◌∙◌, arith}
use Rattle.morph_base.specs.Transactions.{Transaction}
use Rattle.event_reader.specs.declared.cause.Cause.{Cause}
use Rattle.event_reader.specs.Steps.{Rules, Step, Ignored, Closes, Adds, Refuses, latest_with, step_of}
use Rattle.event_reader.specs.Accepted.{Accepted, Ending, Ended, RefusedAt, CutOff, led_by, accepted_lines}
use Rattle.event_reader.proofs.FirstRefused.{same_ending}

abbrev pub one_later : Ending → Ending
one_later (RefusedAt line cause) = RefusedAt (line + 1) cause
one_later Ended = Ended
one_later CutOff = CutOff

led_later : (step : Step) (n closed : ℕ) (batch : List Transaction) (after after' : ℕ → List Transaction → Accepted)
    → ((closed' : ℕ) (batch' : List Transaction) → (after' closed' batch').ending ≡ one_later (after closed' batch').ending)
    → (led_by step (n + 1) closed batch after').ending ≡ one_later (led_by step n closed batch after).ending
led_later Ignored n closed batch after after' h = h closed batch
led_later Closes n closed batch after after' h =
    same_ending batch (after' (latest_with batch closed) []) ∙ h (latest_with batch closed) [] ∙ ap one_later (sym (same_ending batch (after (latest_with batch closed) [])))
led_later (Adds e) n closed batch after after' h = h closed (batch ++ e ∷ [])
led_later (Refuses cause) n closed batch after after' h = refl

pub ends_later : (m : Rules) (n closed : ℕ) (batch : List Transaction) (lines : List (List ℕ)) (cut : Bool)
    → (accepted_lines m (n + 1) closed batch lines cut).ending ≡ one_later (accepted_lines m n closed batch lines cut).ending
unfolding accepted_lines
ends_later m n closed batch [] true = refl
ends_later m n closed batch [] false =
    same_ending batch (record { batches = []; ending = Ended }) ∙ ap one_later (sym (same_ending batch (record { batches = []; ending = Ended })))
ends_later m n closed batch (line ∷ lines) cut =
    led_later (step_of m closed batch line) n closed batch _ _ (λ closed' batch'. ends_later m (n + 1) closed' batch' lines cut)

-- so a line is refused where the one before it would be
pub refused_before : (ending : Ending) (line : ℕ) (cause : Cause) → one_later ending ≡ RefusedAt line cause → ending ≡ RefusedAt (line - 1) cause
refused_before (RefusedAt l c) line cause is =
    let same : l + 1 ≡ line = cc in
    let cause_is : c ≡ cause = cc in
    let at : l ≡ line - 1 = omega (arith, same) in
    ap (λ k. RefusedAt k c) at ∙ ap (RefusedAt (line - 1)) cause_is
refused_before Ended line cause is = absurd (cc)
refused_before CutOff line cause is = absurd (cc)
