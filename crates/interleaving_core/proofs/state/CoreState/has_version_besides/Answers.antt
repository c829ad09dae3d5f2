use Rattle.std.proofs.Common.{refl}
use Rattle.std.proofs.lemmas.Bool.{iff_false}
use Rattle.interleaving_core.specs.Stored.{core_of}
use Rattle.interleaving_core.proofs.Shown.{besides_settled, besides_op}
use Rattle.interleaving_core.proofs.state.CoreState.has_version_besides.Goals as goal

pub returns-then-is_settled_otherwise : goal.returns-then-is_settled_otherwise
returns-then-is_settled_otherwise c =
    (λ is. besides_settled (core_of c.args.self.now) c.args.origin c.args.value (c.is_settled_otherwise.ensures.0 c.if-is_settled_otherwise.true), λ besides. refl)

pub returns-in-Op : goal.returns-in-Op
returns-in-Op c =
    besides_op (core_of c.args.self.now) c.args.origin c.in-Op.op c.args.value c.has_shown_another.result c.args.self.now.published.entries.items c.in-Op.is refl
    c.has_shown_another.ensures (iff_false c.is_settled_otherwise.ensures c.if-is_settled_otherwise.false)
