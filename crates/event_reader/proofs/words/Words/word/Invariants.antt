use Rattle.std.proofs.Common.{◌≡◌, drop}
use Rattle.event_reader.specs.Words.{parts_of}
use Rattle.event_reader.proofs.words.Words.word.Given as goal

-- the parts of the rest are those from this place on
abbrev pub invariant-places : goal.invariant-places
invariant-places l = parts_of l.rest ≡ drop l.place l.self
