use Rattle.morph_io.proofs.std_sink.flush_retrying.Given as goal

abbrev pub decreases-tries : goal.decreases-tries
decreases-tries g l = l.retries
