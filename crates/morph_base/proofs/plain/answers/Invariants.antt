use Rattle.std.proofs.Common.{◌≡◌, ◌+◌, ◌≤◌, true, length, map, take, unwrap_or, All}
use Rattle.morph_base.specs.declared.limits.TheConstants.{MAX}
use Rattle.morph_base.specs.States.{answer, all_answer}
use Rattle.morph_base.specs.Flat.{contents}
use Rattle.morph_base.proofs.plain.answers.Given as goal

abbrev pub invariant-loop-op : goal.invariant-loop-op
invariant-loop-op l = record {
  answered : all_answer (contents l.values) (take l.op-index l.ops) ≡ true;
  so_far : l.answers.items ≡ map (λ op. unwrap_or (answer (contents l.values) op) (contents l.values op.key)) (take l.op-index l.ops);
  small : All (λ v. v ≤ MAX) l.answers.items;
  room : length l.ops ≤ l.answers.room + l.op-index;
}
