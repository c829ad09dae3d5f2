use Rattle.std.proofs.Common.{◌∙◌, sym, refl, inr}
use Rattle.std.proofs.lemmas.Bool.{false≢true}
use Rattle.op_words.proofs.board.Board.confirm.Goals as goal

pub returns-else-is_same : goal.returns-else-is_same
returns-else-is_same c = record { looked = c.look-word.ensures; tells = inr (λ same. false≢true (sym c.if-is_same.false ∙ c.is_same.ensures.1 same), refl) }
