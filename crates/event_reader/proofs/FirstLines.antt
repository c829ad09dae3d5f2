-- What holds of lines of one version holds of an input by its first line.
use Rattle.std.proofs.Common.{◌≡◌, ℕ, zero, suc, ◌+◌, ◌-◌, Bool, true, false, List, [], ◌∷◌, take, drop, flat_map, refl, sym, ap, ◌∙◌, subst, arith}
use Rattle.event_reader.specs.declared.cause.Cause.{Cause}
use Rattle.event_reader.specs.declared.version.Version.TheVariants.{One, Two}
use Rattle.event_reader.specs.Lines.{Reading, lines_of}
use Rattle.event_reader.specs.Steps.{Meaning, rules_of}
use Rattle.event_reader.specs.Versions.{has_version_line, lines_read, version_of}
use Rattle.event_reader.specs.Accepted.{Accepted, Ended, RefusedAt, CutOff, accepted, accepted_first, accepted_lines}
use Rattle.event_reader.specs.LineEvents.{batches_said, closed_said, events_said}
use Rattle.event_reader.specs.FirstRefused.{HasCauses, IsFirstRefused, IsFirstRefusedIn}
use Rattle.event_reader.proofs.ClosedBatches.{refused_are_said, cut_are_said}
use Rattle.event_reader.proofs.LineEvents.{batches_are_said, joined_are_said}
use Rattle.event_reader.proofs.RisingTimes.{Rises, rises}
use Rattle.event_reader.proofs.FirstRefused.{refused_is_first, first_is_refused}
use Rattle.event_reader.proofs.LineNumbers.{one_later, ends_later, refused_before}

-- the lines in front of a number are read as the input's are, where that one stands behind the version line
front_read : (lines : List (List ℕ)) (k : ℕ) → has_version_line lines ≡ true → lines_read (take (suc k) lines) ≡ take k (drop 1 lines)
front_read [] k is = absurd (cc)
front_read (line ∷ lines) k is = rw is refl

front_unread : (lines : List (List ℕ)) (k : ℕ) → has_version_line lines ≡ false → lines_read (take k lines) ≡ take k lines
front_unread [] zero is = refl
front_unread [] (suc k) is = refl
front_unread (line ∷ lines) zero is = refl
front_unread (line ∷ lines) (suc k) is = rw is refl

module _ (m : Meaning) (reading : Reading) where
  abbrev all : Accepted
  all = accepted_first m 0 [] reading

  pub first_rises : Rises 0 all.batches
  first_rises = by_test (has_version_line reading.lines) refl
    where
      by_test : (t : Bool) → has_version_line reading.lines ≡ t → Rises 0 all.batches
      by_test true is = rw is (rises (rules_of m Two) 1 0 (drop 1 reading.lines) reading.cut)
      by_test false is = rw is (rises (rules_of m One) 0 0 reading.lines reading.cut)

  pub first_cut : all.ending ≡ CutOff → all.batches ≡ closed_said (m (version_of reading.lines)) (lines_read reading.lines)
  first_cut = by_test (has_version_line reading.lines) refl
    where
      by_test : (t : Bool) → has_version_line reading.lines ≡ t → all.ending ≡ CutOff → all.batches ≡ closed_said (m (version_of reading.lines)) (lines_read reading.lines)
      by_test true is = rw is (cut_are_said (rules_of m Two) 1 0 (drop 1 reading.lines) reading.cut)
      by_test false is = rw is (cut_are_said (rules_of m One) 0 0 reading.lines reading.cut)

  pub first_refused : (line : ℕ) (cause : Cause) → all.ending ≡ RefusedAt line cause
      → all.batches ≡ closed_said (m (version_of reading.lines)) (lines_read (take (line - 1) reading.lines))
  first_refused line cause = by_test (has_version_line reading.lines) refl
    where
      second : (has_version_line reading.lines ≡ true) → (accepted_lines (rules_of m Two) 1 0 [] (drop 1 reading.lines) reading.cut).ending ≡ RefusedAt line cause
          → (accepted_lines (rules_of m Two) 1 0 [] (drop 1 reading.lines) reading.cut).batches ≡ closed_said (m Two) (lines_read (take (line - 1) reading.lines))
      second is ends =
          let told = refused_are_said (rules_of m Two) 1 0 (drop 1 reading.lines) reading.cut line cause ends in
          let at : line - 1 ≡ suc (line - 1 - 1) = (let some = told.0 in omega (arith, some)) in
          told.1 ∙ ap (closed_said (m Two)) (sym (ap (λ n. lines_read (take n reading.lines)) at ∙ front_read reading.lines (line - 1 - 1) is))

      first : (has_version_line reading.lines ≡ false) → (accepted_lines (rules_of m One) 0 0 [] reading.lines reading.cut).ending ≡ RefusedAt line cause
          → (accepted_lines (rules_of m One) 0 0 [] reading.lines reading.cut).batches ≡ closed_said (m One) (lines_read (take (line - 1) reading.lines))
      first is ends =
          let told = refused_are_said (rules_of m One) 0 0 reading.lines reading.cut line cause ends in
          let at : line - 1 - 0 ≡ line - 1 = omega arith in
          told.1 ∙ ap (closed_said (m One)) (ap (λ n. take n reading.lines) at ∙ sym (front_unread reading.lines (line - 1) is))

      by_test : (t : Bool) → has_version_line reading.lines ≡ t → all.ending ≡ RefusedAt line cause
          → all.batches ≡ closed_said (m (version_of reading.lines)) (lines_read (take (line - 1) reading.lines))
      by_test true is = rw is (second is)
      by_test false is = rw is (first is)

  unchanged : {n : ℕ} → n ≡ n - 0
  unchanged {n} = omega arith

  pub refused_first : (line : ℕ) (cause : Cause) → HasCauses m → all.ending ≡ RefusedAt line cause → IsFirstRefusedIn m reading.lines line cause
  refused_first line cause words = by_test (has_version_line reading.lines) refl
    where
      second : (accepted_lines (rules_of m Two) 1 0 [] (drop 1 reading.lines) reading.cut).ending ≡ RefusedAt line cause → IsFirstRefused (rules_of m Two) (drop 1 reading.lines) (line - 1) cause
      second ends =
          refused_is_first (rules_of m Two) (words Two) (drop 1 reading.lines) reading.cut (line - 1) cause
          (refused_before (accepted_lines (rules_of m Two) 0 0 [] (drop 1 reading.lines) reading.cut).ending line cause (sym (ends_later (rules_of m Two) 0 0 [] (drop 1 reading.lines) reading.cut) ∙ ends))

      by_test : (t : Bool) → has_version_line reading.lines ≡ t → all.ending ≡ RefusedAt line cause → IsFirstRefusedIn m reading.lines line cause
      by_test true is = rw is second
      by_test false is = rw is (λ ends. subst (λ k. IsFirstRefused (rules_of m One) reading.lines k cause) unchanged (refused_is_first (rules_of m One) (words One) reading.lines reading.cut line cause ends))

  pub first_so_refused : (line : ℕ) (cause : Cause) → HasCauses m → IsFirstRefusedIn m reading.lines line cause → all.ending ≡ RefusedAt line cause
  first_so_refused line cause words = by_test (has_version_line reading.lines) refl
    where
      second : IsFirstRefused (rules_of m Two) (drop 1 reading.lines) (line - 1) cause → (accepted_lines (rules_of m Two) 1 0 [] (drop 1 reading.lines) reading.cut).ending ≡ RefusedAt line cause
      second f =
          let at : line - 1 + 1 ≡ line = (let counts = f.counts in omega (arith, counts)) in
          ends_later (rules_of m Two) 0 0 [] (drop 1 reading.lines) reading.cut
          ∙ ap one_later (first_is_refused (rules_of m Two) (words Two) (drop 1 reading.lines) reading.cut (line - 1) cause f)
          ∙ ap (λ k. RefusedAt k cause) at

      by_test : (t : Bool) → has_version_line reading.lines ≡ t → IsFirstRefusedIn m reading.lines line cause → all.ending ≡ RefusedAt line cause
      by_test true is = rw is second
      by_test false is = rw is (λ f. first_is_refused (rules_of m One) (words One) reading.lines reading.cut line cause (subst (λ k. IsFirstRefused (rules_of m One) reading.lines k cause) (sym unchanged) f))

-- the batches of an input of which no line is refused
module _ (m : Meaning) (input : List ℕ) where
  abbrev lines : List (List ℕ)
  lines = lines_of input

  pub first_between : (accepted m input).ending ≡ Ended → (accepted m input).batches ≡ batches_said (m (version_of lines)) (lines_read lines)
  first_between = by_test (has_version_line lines) refl
    where
      by_test : (t : Bool) → has_version_line lines ≡ t → (accepted m input).ending ≡ Ended → (accepted m input).batches ≡ batches_said (m (version_of lines)) (lines_read lines)
      by_test true is = rw is (batches_are_said (rules_of m Two) 1 0 (drop 1 lines))
      by_test false is = rw is (batches_are_said (rules_of m One) 0 0 lines)

  pub first_joined : (accepted m input).ending ≡ Ended → flat_map (λ batch. batch) (accepted m input).batches ≡ events_said (m (version_of lines)) (lines_read lines)
  first_joined = by_test (has_version_line lines) refl
    where
      by_test : (t : Bool) → has_version_line lines ≡ t → (accepted m input).ending ≡ Ended
          → flat_map (λ batch. batch) (accepted m input).batches ≡ events_said (m (version_of lines)) (lines_read lines)
      by_test true is = rw is (joined_are_said (rules_of m Two) 1 0 (drop 1 lines))
      by_test false is = rw is (joined_are_said (rules_of m One) 0 0 lines)
