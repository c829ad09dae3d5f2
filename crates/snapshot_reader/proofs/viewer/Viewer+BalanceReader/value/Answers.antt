use Rattle.snapshot_reader.proofs.Steps.{sees}
use Rattle.snapshot_reader.proofs.viewer.Viewer+BalanceReader.value.Goals as goal

pub enter_as-requires : goal.enter_as-requires
enter_as-requires c x = sees _ _ x
