use Rattle.std.proofs.Common.{[], ◌∷◌, refl, sym, subst, arith}
use Rattle.std.proofs.lemmas.Bool.{true≢false}
use Rattle.op_eval.specs.Bursts.{TakesBurst}
use Rattle.op_eval.proofs.runner.Runner.take_burst.Goals as goal

pub returns-then-number-places-clause-burst : goal.returns-then-number-places-clause-burst
returns-then-number-places-clause-burst c =
    let is = c.loop-turn.invariant in
    subst (λ burst. TakesBurst c.args.counter c.args.places c.args.most burst c.args.self.now c.take-number.new.self) (sym c.end.ensures) (
    record {
      past = c.take-number.result ∷ [];
      takes = (c.loop-turn.self, is.takes, c.take-number.ensures.number);
      inside = is.inside;
      few = omega (arith, is.many, c.loop-turn-test.true);
      ended = λ over. (c.take-number.result, refl, c.if-number-places.true);
      going = λ over. absurd (true≢false over);
    }
    )
