use Rattle.std.proofs.Common.{sym, subst}
use Rattle.std.specs.Prelude.{All}
use Rattle.morph_base.specs.Operations.{IsShaped}
use Rattle.txn_splitter.proofs.TxnLemmas.{txn_ops_shaped}
use Rattle.precedence_graph.proofs.planned.plan_transactions.Goals as goal

pub of-requires : goal.of-requires
of-requires c = subst (All IsShaped) (sym c.into_parts-events.ensures.ops) (txn_ops_shaped c.args.txns c.requires)
