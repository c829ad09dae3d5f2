use Rattle.std.proofs.Common.{◌≡◌, ◌≤◌, true, length, take, drop}
use Rattle.std.specs.List.{list_all}
use Rattle.event_reader.specs.LineParts.{parts_after}
use Rattle.event_reader.specs.Words.{is_word}
use Rattle.event_reader.proofs.words.count_words.Given as goal

-- the parts so far are words, and the others are those of the rest
abbrev pub invariant-parts : goal.invariant-parts
invariant-parts l = record {
  inside : l.i ≤ length (parts_after l.parts);
  words : list_all is_word (take l.i (parts_after l.parts)) ≡ true;
  rest : parts_after l.rest ≡ drop l.i (parts_after l.parts);
}
