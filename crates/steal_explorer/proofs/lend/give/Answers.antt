use Rattle.std.proofs.Common.{arith, ap, refl, sym, ◌∙◌}
use Rattle.crossbeam_deque.specs.Handles.{worker_view}
use Rattle.steal_explorer.specs.Handing.{parts_of}
use Rattle.steal_explorer.specs.Lending.{with_parts}
use Rattle.steal_explorer.proofs.Holds.{forks}
use Rattle.steal_explorer.proofs.lend.give.Goals as goal

pub another-requires : goal.another-requires
another-requires c = forks _ _ c.requires

pub returns : goal.returns
returns c =
    let rule = c.another.ensures.rule in
    let less = ap parts_of rule.0 in record {
      owner = c.another.new.self;
      is = refl;
      same = c.another.ensures.same.0;
      index = c.another.ensures.same.1;
      of = c.another.ensures.same.2;
      less = omega (arith, less, c.requires);
      still = rule.0 ∙ ap (λ n. with_parts n (worker_view c.args.seat.now.owner)) (sym less);
      lent = rule.1;
    }
