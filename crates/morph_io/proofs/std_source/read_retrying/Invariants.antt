use Rattle.morph_io.proofs.std_source.read_retrying.Given as goal

abbrev pub decreases-tries : goal.decreases-tries
decreases-tries g l = l.retries
