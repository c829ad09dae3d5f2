use Rattle.std.proofs.Common.{◌≡◌, ℕ, ◌+◌, ◌-◌, ◌<◌, ◌++◌, List, length, cond, get_or, map, take, drop, replicate, sym, ap, ◌∙◌, arith}
use Rattle.std.specs.Prelude.{max, count_by, slice_set}
use Rattle.morph_base.specs.declared.limits.TheConstants.{READS}
use Rattle.morph_base.specs.declared.key.Key.{Key}
use Rattle.morph_base.specs.declared.plan.Origin.{Origin}
use Rattle.morph_base.specs.declared.plan.Origin.TheVariants.{Base}
use Rattle.morph_base.specs.Operations.{reads, no_key}
use Rattle.morph_base.specs.Graphs.{greatest, is_written, level_of}
use Rattle.morph_base.specs.OpLists.{OpList}
use Rattle.precedence_graph.specs.Planned.{planned}
use Rattle.precedence_graph.specs.Writers.{source_in, entered_level, entered_event_level}
use Rattle.precedence_graph.proofs.PlaceLemmas.{source_put, greatest-read_more, count-read_more, with_sources, with_source, same_op, source_more}
use Rattle.precedence_graph.proofs.sources.set_sources.Goals as goal

pub loop-j-preserved : goal.loop-j-preserved
loop-j-preserved c =
    let find : Key → Origin = source_in c.args.writers.now in
    let of_op : Origin → ℕ = level_of (entered_level c.args.writers.now) in
    let of_event : Origin → ℕ = level_of (entered_event_level c.args.writers.now) in
    let o : ℕ = c.args.o in
    let j : ℕ = c.loop-j.j in
    let keys : List Key = reads (planned c.args.ops.now.items o).op in
    let read : List Origin = map find (take j keys) in
    let sources : List Origin = read ++ replicate (READS - j) (Base 0) in
    let first : List Origin = slice_set (planned c.args.ops.now.items o).origins 0 c.source-target.result.origin in
    let many : c.places-j-end.result ≡ length keys = c.places-j-end.ensures.count
    ∙ ap (λ op. length (reads op)) (same_op c.args.ops.now c.set_written.new.ops o first c.requires.inside c.set_written.ensures) in
    let inside : j < length keys = omega (arith, many, c.loop-j-test.true) in
    let few : j < READS = omega (arith, c.places-j-end.ensures.few, c.loop-j-test.true) in
    let origin : Origin = c.source-source.result.origin in
    let next : Key = get_or keys j no_key in
    let key_is : c.read_key.result ≡ next = c.read_key.ensures
    ∙ ap (λ op. get_or (reads op) j no_key) (same_op c.args.ops.now c.loop-j.ops o sources c.requires.inside c.loop-j.invariant.ops) in
    let found : origin ≡ find next = c.source-source.ensures.origin ∙ ap find key_is in
    record {
      ops = c.set_written-in-loop-j.ensures ∙ ap (λ (v : OpList). with_source v o j origin) c.loop-j.invariant.ops
          ∙ source_more c.args.ops.now o c.requires.inside sources j origin
          ∙ ap (with_sources c.args.ops.now o) (source_put find keys origin no_key READS j few inside found);
      level = c.max-level.ensures ∙ ap (λ n. max n c.source-source.result.level) c.loop-j.invariant.level
          ∙ ap (max (greatest (map of_op read))) (c.source-source.ensures.level ∙ ap (λ key. of_op (find key)) key_is)
          ∙ sym (greatest-read_more of_op find keys j no_key inside);
      event_level = c.max-event_level.ensures ∙ ap (λ n. max n c.source-source.result.event_level) c.loop-j.invariant.event_level
          ∙ ap (max (greatest (map of_event read))) (c.source-source.ensures.event_level ∙ ap (λ key. of_event (find key)) key_is)
          ∙ sym (greatest-read_more of_event find keys j no_key inside);
      parameters = ap (λ n. n + c.written_count-parameters.result) c.loop-j.invariant.parameters
          ∙ ap (λ n. count_by is_written (map find (drop 1 (take j keys))) + n)
          (c.written_count-parameters.ensures.count ∙ ap (λ origin. cond (is_written origin) 1 0) found)
          ∙ sym (count-read_more find keys j no_key (omega (arith, c.loop-j.auto.j)) inside);
      few = omega (arith, c.written_count-parameters.ensures.few, c.loop-j.invariant.few);
    }
