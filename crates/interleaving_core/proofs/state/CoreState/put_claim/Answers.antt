use Rattle.std.proofs.Common.{refl, ap, ◌∙◌, length}
use Rattle.std.proofs.Math.ListN.{length-set}
use Rattle.interleaving_core.proofs.Storing.{claim_set, claims_fit}
use Rattle.interleaving_core.proofs.state.CoreState.put_claim.Goals as goal

pub returns-clause-core : goal.returns-clause-core
returns-clause-core c = claim_set c.args.self.now c.set.new.self c.args.by c.args.claim c.requires.worker c.set.ensures.items

pub returns-clause-shape : goal.returns-clause-shape
returns-clause-shape c = record {
  cap = refl;
  words = refl;
  records = refl;
  claims = ap length c.set.ensures.items ∙ length-set c.args.self.now.claims.items c.args.by c.args.claim;
  decisions = refl;
  entries = refl;
  published = refl;
  settlings = refl;
  fit = claims_fit c.args.self.now c.set.new.self c.args.by c.args.claim c.requires.worker c.set.ensures.items c.requires.fits;
}
