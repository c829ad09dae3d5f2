use Rattle.std.proofs.Common.{arith}
use Rattle.morph_base.proofs.ValidLemmas.{blank_at, blank_from}
use Rattle.morph_base.proofs.validity.is_shaped.Goals as goal

pub returns-then-takes : goal.returns-then-takes
returns-then-takes c =
    let op = c.args.op.now in
    let taken = c.takes.ensures.0 c.if-takes.true in
    let limits = c.is_within_limits.ensures.0 c.if-not-is_within_limits.false in (
      (λ yes. record {
        at_least = taken.0;
        at_most = taken.1;
        places = omega arith;
        held = c.is_blank_after_params.ensures.held;
        constant = limits.0;
        floor = limits.1;
        limit = limits.2;
        blank = blank_at op.params op.n_params (c.is_blank_after_params.ensures.blank.0 yes);
      }),
      λ shaped. c.is_blank_after_params.ensures.blank.1 (blank_from op.params op.n_params shaped.blank),
    )
