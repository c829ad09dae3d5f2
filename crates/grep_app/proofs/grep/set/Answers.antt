use Rattle.std.proofs.Common.{[], ◌∷◌, refl, ◌∙◌, ap, arith}
use Rattle.event_reader.specs.Forms.{form_of}
use Rattle.event_reader.specs.Ranges.{times, ids}
use Rattle.event_reader.proofs.Forms.{id_at}
use Rattle.grep_app.specs.Grep.{settings}
use Rattle.grep_app.proofs.grep.set.Goals as goal

pub key_of-requires : goal.key_of-requires
key_of-requires c =
    id_at (settings c.args.version c.args.size).form c.new.result c.args.words.now c.read.result c.in_ok-numbers.numbers c.first.result
    (c.new.ensures ∙ ap (λ r. form_of 87 (times ∷ r ∷ c.amounts.result ∷ [])) c.ids.ensures ∙ ap (λ r. form_of 87 (times ∷ ids c.args.size ∷ r ∷ [])) c.amounts.ensures) c.read.ensures c.in_ok-numbers.was c.first.ensures 1 c.args.size (omega arith) refl
    c.ranges.size.fits
