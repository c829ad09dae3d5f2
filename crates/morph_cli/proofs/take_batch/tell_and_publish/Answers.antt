use Rattle.morph_cli.specs.declared.fault.Fault.TheVariants.{Write, OutOfMemory}
use Rattle.morph_cli.proofs.RunPoints.{error_is}
use Rattle.morph_cli.proofs.take_batch.tell_and_publish.Goals as goal

pub returns-in_err-progress-clause-tells : goal.returns-in_err-progress-clause-tells
returns-in_err-progress-clause-tells g c = rw (error_is c.from_residual.result Write c.from_residual.ensures.1) c.in_err-progress.ensures.written

pub returns-in_err-publish-clause-tells : goal.returns-in_err-publish-clause-tells
returns-in_err-publish-clause-tells g c = rw (error_is c.from_residual-in_err-publish.result OutOfMemory c.from_residual-in_err-publish.ensures.1) c.in_ok-progress.ensures.written

pub returns-clause-tells : goal.returns-clause-tells
returns-clause-tells g c = (c.in_ok-progress.ensures.written, c.in_ok-progress.ensures.last, c.in_ok-publish.ensures.published)

pub returns-in_err-progress-clause-steady : goal.returns-in_err-progress-clause-steady
returns-in_err-progress-clause-steady g c other = absurd (other (error_is c.from_residual.result Write c.from_residual.ensures.1))

pub returns-in_err-publish-clause-steady : goal.returns-in_err-publish-clause-steady
returns-in_err-publish-clause-steady g c other = c.in_ok-progress.ensures.steady

pub returns-clause-steady : goal.returns-clause-steady
returns-clause-steady g c other = c.in_ok-progress.ensures.steady
