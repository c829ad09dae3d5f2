use Rattle.std.proofs.Common.{ap, refl, sym}
use Rattle.std.proofs.lemmas.Option.{none-some, same_Some}
use Rattle.abort_lazy.specs.declared.transaction.standing.Standing.TheVariants.{Stopped}
use Rattle.abort_lazy.specs.declared.transaction.TxnAnswer.TheVariants.{NotYet, Busy}
use Rattle.abort_lazy.proofs.transaction.standing.Standing.found.Goals as goal

pub returns-in-None : goal.returns-in-None
returns-in-None c =
    let o = c.args.op in let w = c.args.word in
    record {
      settled = λ is. refl;
      claimed = λ is. absurd (none-some (Busy o w) (c.in-None.ensures.claimed is));
      other = λ open' free. absurd (none-some (NotYet o w) (c.in-None.ensures.other open' free));
    }

pub returns-in-Some : goal.returns-in-Some
returns-in-Some c =
    let o = c.args.op in let w = c.args.word in let a = c.in-Some.answer in
    record {
      settled = λ is. absurd (none-some a (sym (c.in-Some.ensures.settled is)));
      claimed = λ is. ap Stopped (same_Some a (Busy o w) (c.in-Some.ensures.claimed is));
      other = λ open' free. ap Stopped (same_Some a (NotYet o w) (c.in-Some.ensures.other open' free));
    }
