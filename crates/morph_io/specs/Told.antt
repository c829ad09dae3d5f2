-- The bytes that an outside object may reveal, and counts of faults
--
-- A source reveals the bytes that it has left, and a sink the bytes that were written to it, as `Some` of a list. An
-- object for a stream of the system reveals nothing, and is `None`. Each read or write is one equation between the
-- bytes revealed before and after
use Rattle.std.specs.Prelude.{◌≡◌, ℕ, ◌<◌, nat_lt, if◌then◌else◌, List, [], ◌++◌, length, drop, Option, Some, None, refl}
use Rattle.std.proofs.Common.{ap, append_assoc, append-nil}

-- The bytes revealed, with `bytes` in front of them; None if nothing is revealed
unfoldable pub ahead : List ℕ → Option (List ℕ) → Option (List ℕ)
ahead bytes None = None
ahead bytes (Some told) = Some (bytes ++ told)

-- The bytes revealed, with `bytes` after them; None if nothing is revealed
unfoldable pub behind : Option (List ℕ) → List ℕ → Option (List ℕ)
behind None bytes = None
behind (Some told) bytes = Some (told ++ bytes)

-- No bytes are left, if they are revealed at all
abbrev pub IsAtEnd : Option (List ℕ) → Type 0
IsAtEnd None = Unit {0}
IsAtEnd (Some told) = told ≡ []

-- The count of faults has risen from `old` to `new`. A count at the last u64 is taken to have risen in every call
abbrev pub HasRisen : ℕ → ℕ → Type 0
HasRisen old new = old < 18446744073709551615 → old < new

-- The bytes were put into a buffer in front of a sink. The bytes that the sink got, followed by those that the buffer
-- keeps now, are those that the buffer kept before, followed by the new ones
pub record Puts (old : Option (List ℕ)) (kept bytes : List ℕ) (new : Option (List ℕ)) (kept' : List ℕ) : Type 0 where
  pub done : List ℕ
  pub written : new ≡ behind old done
  pub parts : done ++ kept' ≡ kept ++ bytes

-- What is kept of `bytes` by a buffer that is written when it holds `size` of them
unfoldable pub kept_of : ℕ → List ℕ → List ℕ
kept_of size bytes = if nat_lt (length bytes) size then bytes else drop size bytes

-- The sink has grown by a prefix of `bytes`
pub record AppendsPrefix (old : Option (List ℕ)) (bytes : List ℕ) (new : Option (List ℕ)) : Type 0 where
  pub done : List ℕ
  pub rest : List ℕ
  pub parts : bytes ≡ done ++ rest
  pub appended : new ≡ behind old done

-- No bytes in front change nothing
pub ahead_nil : (told : Option (List ℕ)) → ahead [] told ≡ told
unfolding ahead
ahead_nil None = refl
ahead_nil (Some told) = refl

-- Two pieces of bytes in front are one
pub ahead_ahead : (front back : List ℕ) (told : Option (List ℕ))
    → ahead front (ahead back told) ≡ ahead (front ++ back) told
unfolding ahead
ahead_ahead front back None = refl
ahead_ahead front back (Some told) = rw append_assoc refl

-- Bytes in front of revealed ones are revealed with them
pub ahead_some : (front told : List ℕ) → ahead front (Some told) ≡ Some (front ++ told)
unfolding ahead
ahead_some front told = refl

-- No bytes behind change nothing
pub behind_nil : (told : Option (List ℕ)) → behind told [] ≡ told
unfolding behind
behind_nil None = refl
behind_nil (Some told) = ap Some (append-nil told)

-- Two pieces of bytes behind are one
pub behind_behind : (told : Option (List ℕ)) (front back : List ℕ)
    → behind (behind told front) back ≡ behind told (front ++ back)
unfolding behind
behind_behind None front back = refl
behind_behind (Some told) front back = rw append_assoc refl

-- Bytes behind revealed ones are revealed with them
pub behind_some : (told back : List ℕ) → behind (Some told) back ≡ Some (told ++ back)
unfolding behind
behind_some told back = refl
