use Rattle.std.proofs.Common.{◌≡◌, ◌+◌, ◌∷◌, length, map, take}
use Rattle.morph_base.specs.declared.operation.Func.TheVariants.{Sum}
use Rattle.event_reader.specs.Versions.{op_in}
use Rattle.grep_app.specs.Grep.{keep}
use Rattle.grep_app.proofs.grep.gather.Given as goal

abbrev pub invariant-loop-cell : goal.invariant-loop-cell
invariant-loop-cell l = record {
  items : l.ops ≡ op_in l.fn.version Sum l.fn.target l.cells l.fn.limit ∷ map (keep l.fn.version) (take l.cell-index l.cells);
  many : length l.ops ≡ l.cell-index + 1;
}
