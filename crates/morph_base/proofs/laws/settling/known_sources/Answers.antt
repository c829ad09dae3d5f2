use Rattle.std.proofs.Common.{IsTrue}
use Rattle.morph_base.proofs.KnownLaws.{may_commit, may_abort, settles, settles_aborted}
use Rattle.morph_base.proofs.laws.settling.known_sources.Goals as goal

pub returns : goal.returns
returns c = record {
  commits = λ p known v i valid right. may_commit p (λ t. IsTrue (known t)) v valid right i;
  aborts = λ p known v i o valid right. may_abort p (λ t. IsTrue (known t)) v valid right i o;
  settles = λ p known v o x valid right. settles p (λ t. IsTrue (known t)) v valid right o x;
  carries = λ p known v o valid right. settles_aborted p (λ t. IsTrue (known t)) v valid right o;
}
