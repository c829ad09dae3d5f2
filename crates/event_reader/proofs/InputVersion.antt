-- The version of an input is that of its first line, once that was given, and stays.
use Rattle.std.proofs.Common.{◌≡◌, ℕ, zero, suc, ◌<◌, ◌≤◌, le_refl, le_trans, false, if◌then◌else◌, List, refl, sym, ap, ◌∙◌, subst, arith, Option, Some, None}
use Rattle.std.specs.Prelude.{IfSome, option_map}
use Rattle.event_reader.specs.declared.version.Version.{Version}
use Rattle.event_reader.specs.declared.version.Version.TheVariants.{One, Two}
use Rattle.event_reader.specs.Lines.{Reading, with_line, IsLongFirst}
use Rattle.event_reader.specs.Reader.{KeepsVersion, KnowsVersion, ReaderView, SameReader}
use Rattle.event_reader.specs.Versions.{greatest_of, is_version_line, has_version_line, version_of}
use Rattle.event_reader.specs.VersionLaws.{first_at_most, long_plain}

abbrev IsVersionOf : Version → Option Reading → Type 0
IsVersionOf v told = IfSome told (λ reading. v ≡ version_of reading.lines)

known_by_line : (told : Option Reading) (line : List ℕ) (rest : Option Reading) (v : Version) → told ≡ option_map (with_line line) rest
    → v ≡ (if is_version_line line then Two else One) → IsVersionOf v told
known_by_line told line None v is same = rw is tt
known_by_line told line (Some r) v is same = rw is same

module _ (told : Option Reading) (before now next : ℕ) (v : Version) (known : KnowsVersion before told now v) where
  -- where no line was given, it is as it was
  pub known_still : next ≡ now → KnowsVersion before told next v
  known_still same first more = known first (omega (arith, same, more))

  -- after a line more
  pub known_after : (v' : Version) (line : List ℕ) (rest at_now : Option Reading) → at_now ≡ option_map (with_line line) rest → (now ≡ before → at_now ≡ told)
      → (now ≡ 0 → v' ≡ (if is_version_line line then Two else One)) → (0 < now → v' ≡ v) → KnowsVersion before told next v'
  known_after v' line rest at_now is start opens stays first more = by_number now refl
    where
      by_number : (n : ℕ) → now ≡ n → IsVersionOf v' told
      by_number zero none = known_by_line told line rest v' (sym (start (none ∙ sym first)) ∙ is) (opens none)
      by_number (suc k) some = (let later : 0 < now = omega (arith, some) in subst (λ w. IsVersionOf w told) (sym (stays later)) (known first later))

  -- after a line that is too long, which is not the version line
  pub known_long : (at_now : Option Reading) → IfSome at_now (λ r. IsLongFirst r.lines) → (now ≡ before → at_now ≡ told) → (now ≡ 0 → v ≡ One) → KnowsVersion before told next v
  known_long at_now long start opens first more = by_number now refl
    where
      of_long : (o : Option Reading) → IfSome o (λ r. IsLongFirst r.lines) → v ≡ One → IsVersionOf v o
      of_long None long is = tt
      of_long (Some r) (line, rest, lines, many) is =
          let plain : has_version_line r.lines ≡ false = ap has_version_line lines ∙ long_plain line many in rw plain is

      by_number : (n : ℕ) → now ≡ n → IsVersionOf v told
      by_number zero none = of_long told (subst (λ o. IfSome o (λ r. IsLongFirst r.lines)) (start (none ∙ sym first)) long) (opens none)
      by_number (suc k) some = known first (omega (arith, some))

-- a reader that is left alone, and two calls one after another
pub keeps_same : {App : Type 0} (a : ReaderView App) → KeepsVersion a a
keeps_same a = record { numbered = le_refl a.lines.number; stays = λ more. refl; rises = le_refl (greatest_of a.past.version) }

pub keeps_both : {App : Type 0} (a b c : ReaderView App) → KeepsVersion a b → KeepsVersion b c → KeepsVersion a c
keeps_both a b c p q = record {
  numbered = le_trans p.numbered q.numbered;
  stays = λ more. q.stays (let on = p.numbered in omega (arith, more, on)) ∙ p.stays more;
  rises = le_trans p.rises q.rises;
}

pub same_both : {App : Type 0} (a b c : ReaderView App) → SameReader a b → SameReader b c → SameReader a c
same_both a b c p q = (q.0 ∙ p.0, q.1 ∙ p.1, q.2 ∙ p.2, keeps_both a b c p.3 q.3)

-- the greatest value never falls, where before the first line the version is 1
pub rises_by : (n : ℕ) (v v' : Version) → (n ≡ 0 → v ≡ One) → (0 < n → v' ≡ v) → greatest_of v ≤ greatest_of v'
rises_by zero v v' opens stays = subst (λ w. greatest_of w ≤ greatest_of v') (sym (opens refl)) (first_at_most v')
rises_by (suc n) v v' opens stays = subst (λ w. greatest_of v ≤ greatest_of w) (sym (stays (omega arith))) (le_refl (greatest_of v))
