use Rattle.std.proofs.Common.{◌≡◌, ℕ, [], ◌∷◌, refl, ◌∙◌, ap, arith}
use Rattle.event_reader.specs.declared.ranges.Range.{Range}
use Rattle.event_reader.specs.declared.version.Version.{Version}
use Rattle.event_reader.specs.Forms.{Form, form_of}
use Rattle.event_reader.specs.Ranges.{times, ids, amounts}
use Rattle.event_reader.proofs.Forms.{id_at}
use Rattle.stock_app.specs.Stock.{restocks}
use Rattle.stock_app.proofs.stock.restock.Goals as goal

-- the form is that of the kind
made : (version : Version) (size : ℕ) (id amount : Range) (form : Form) → form ≡ form_of 82 (times ∷ id ∷ amount ∷ []) → id ≡ ids size → amount ≡ amounts version
    → form ≡ (restocks version size).form
made version size id amount form is same most =
    is ∙ ap (λ r. form_of 82 (times ∷ r ∷ amount ∷ [])) same ∙ ap (λ r. form_of 82 (times ∷ ids size ∷ r ∷ [])) most

pub key_of-requires : goal.key_of-requires
key_of-requires c =
    id_at (restocks c.args.version c.args.size).form c.new.result c.args.words.now c.read.result c.in_ok-numbers.numbers c.first.result
    (made c.args.version c.args.size c.ids.result c.amounts.result c.new.result c.new.ensures c.ids.ensures c.amounts.ensures) c.read.ensures c.in_ok-numbers.was c.first.ensures
    1 c.args.size (omega arith) refl c.ranges.size.fits
