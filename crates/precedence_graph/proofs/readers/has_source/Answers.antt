use Rattle.std.proofs.Common.{◌≤◌, length, take, sym, ◌∙◌, ap, arith}
use Rattle.std.proofs.lemmas.List.{length-take-le, get_or-take}
use Rattle.std.proofs.lemmas.List.Folds.{list_any_at}
use Rattle.morph_base.specs.declared.plan.Origin.TheVariants.{Base}
use Rattle.morph_base.specs.Graphs.{is_written_by}
use Rattle.precedence_graph.specs.Planned.{planned, sources_of}
use Rattle.precedence_graph.proofs.ReadLemmas.{used_source}
use Rattle.precedence_graph.proofs.readers.has_source.Goals as goal

pub returns-then-is_written_by : goal.returns-then-is_written_by
returns-then-is_written_by c =
    let q = planned c.args.ops.now.items c.args.t in
    let used = used_source q c.sources.j c.requires.places c.requires.few (omega (arith, c.sources-test.true, c.requires.used)) in
    let few : c.args.count ≤ length (sources_of q) = omega (arith, c.requires.used, used.2) in
    sym
    (list_any_at (is_written_by c.args.s) (take c.args.count (sources_of q)) c.sources.j (Base 0)
    (omega (arith, length-take-le c.args.count (sources_of q) few, c.sources-test.true))
    (ap (is_written_by c.args.s) (get_or-take c.args.count (sources_of q) c.sources.j (Base 0) c.sources-test.true ∙ used.1 ∙ sym c.origin.ensures)
    ∙ sym c.is_written_by.ensures ∙ c.if-is_written_by.true))
