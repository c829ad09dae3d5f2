use Rattle.std.proofs.Common.{map, ap}
use Rattle.morph_base.specs.Transactions.{transaction_by}
use Rattle.morph_base.proofs.BatchLaws.{map_empty}
use Rattle.morph_base.proofs.batch.Batch.is_empty.Goals as goal

pub returns : goal.returns
returns c = (
  λ yes. ap (map (transaction_by c.args.self.now.ops)) (c.is_empty.ensures.0 yes),
  λ none. c.is_empty.ensures.1 (map_empty (transaction_by c.args.self.now.ops) c.args.self.now.heads.items none),
)
