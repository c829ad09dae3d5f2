use Rattle.snapshot_reader.proofs.Steps.{admits}
use Rattle.snapshot_reader.proofs.setup.viewer.Goals as goal

pub reader-requires : goal.reader-requires
reader-requires c = admits
