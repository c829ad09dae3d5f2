use Rattle.std.proofs.Common.{sym, ◌∙◌}
use Rattle.op_words.proofs.laws.one_view.Goals as goal

pub returns : goal.returns
returns c p q cap most counters many v u closed first second = first.view_is ∙ sym second.view_is
