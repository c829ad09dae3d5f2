use Rattle.std.proofs.Common.{◌≡◌, ℕ, ◌<◌, ◌≤◌, Bool, false, cond, [], ◌∷◌, ◌++◌, length, filter, sym, ap, subst, ◌∙◌, arith}
use Rattle.std.proofs.lemmas.List.{append-nil}
use Rattle.std.proofs.lemmas.List.Elements.{All-same}
use Rattle.morph_base.specs.Plans.{no_plan_op}
use Rattle.morph_base.specs.Readers.{below, reads_among}
use Rattle.precedence_graph.specs.Links.{items_of}
use Rattle.precedence_graph.specs.Planned.{planned, sources_of}
use Rattle.precedence_graph.proofs.GreatestLemmas.{filter-below_more}
use Rattle.precedence_graph.proofs.ReadLemmas.{none_read}
use Rattle.precedence_graph.proofs.readers.read_links.Goals as goal
use Rattle.precedence_graph.proofs.readers.read_links.Goals.{then-level-gt1+in_ok-link_sources, else-level-gt1}

pub loop-t-preserved : goal.loop-t-preserved
loop-t-preserved c =
    let ops = c.args.ops.now.items in
    let t : ℕ = c.loop-t.t in
    let inside : t < length ops = omega (arith, c.loop-t-test.true, c.len-t-end.ensures) in
    let reads : ℕ → ℕ → Bool = reads_among ops in
    elim c.if-level-gt1.branch [
      | then-level-gt1+in_ok-link_sources w ↦
          let now = ap (λ links. links.items) w.links-is in
          record {
            items = λ o. ap (λ xs. items_of xs o) now ∙ w.in_ok-link_sources.ensures.items o ∙ ap (λ xs. xs ++ cond (reads o t) (t ∷ []) []) (c.loop-t.invariant.items o) ∙ sym (filter-below_more (reads o) t);
            groups = All-same (λ link. link.group < length ops) _ _ now (w.in_ok-link_sources.ensures.groups (length ops) (c.requires.ready t no_plan_op inside).among c.loop-t.invariant.groups);
          }
      | else-level-gt1 w ↦
          let now = ap (λ links. links.items) w.links-is in
          let low : (planned ops t).level ≤ 1 = subst (λ (n : ℕ). n ≤ 1) c.level.ensures w.if-level-gt1.false in
          let none : (o : ℕ) → reads o t ≡ false = λ o. none_read o (sources_of (planned ops t)) ((c.requires.ready t no_plan_op inside).lowest low) in
          record {
            items = λ o. ap (λ xs. items_of xs o) now ∙ c.loop-t.invariant.items o ∙ sym (filter-below_more (reads o) t ∙ ap (λ b. filter (reads o) (below t) ++ cond b (t ∷ []) []) (none o) ∙ append-nil (filter (reads o) (below t)));
            groups = All-same (λ link. link.group < length ops) _ _ now c.loop-t.invariant.groups;
          }
    ]
