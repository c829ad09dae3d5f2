use Rattle.std.proofs.Common.{ap, ◌∙◌, sym, ◌∷◌, take, ◌+◌}
use Rattle.std.proofs.lemmas.List.{take_rest}
use Rattle.event_reader.specs.Words.{is_space, parts_of}
use Rattle.event_reader.proofs.Pieces.{first_split, no_split}
use Rattle.event_reader.proofs.words.first_part.Goals as goal

pub returns-in-Some : goal.returns-in-Some
returns-in-Some c =
    first_split is_space c.args.line.now c.in-Some.at (sym c.first_space.ensures ∙ c.in-Some.is)
    ∙ ap (λ rest. take c.in-Some.at c.args.line.now ∷ parts_of rest) (sym (take_rest c.args.line.now (c.in-Some.at + 1)))

pub returns-in-None : goal.returns-in-None
returns-in-None c = no_split is_space c.args.line.now (sym c.first_space.ensures ∙ c.in-None.is)
