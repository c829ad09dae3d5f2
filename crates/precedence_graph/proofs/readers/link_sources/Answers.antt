use Rattle.std.proofs.Common.{◌<◌, cond, eqb, [], ◌∷◌, ◌++◌, sym, ap, ◌∙◌, arith}
use Rattle.std.proofs.lemmas.List.Elements.{All-push, All-same}
use Rattle.precedence_graph.specs.declared.links.Link.{Link}
use Rattle.precedence_graph.specs.Links.{items_of}
use Rattle.precedence_graph.specs.Planned.{planned, sources_of}
use Rattle.precedence_graph.proofs.LinkLemmas.{items_of_push}
use Rattle.precedence_graph.proofs.ReadLemmas.{read_base, read_again, read_once, read_among, used_source}
use Rattle.precedence_graph.proofs.readers.link_sources.Goals as goal
use Rattle.precedence_graph.proofs.readers.link_sources.Goals.{in-Op+then-not-has_source+in_ok-push, in-Op+else-not-has_source, in_default}

pub loop-j-preserved : goal.loop-j-preserved
loop-j-preserved c =
    let q = planned c.args.ops.now.items c.args.t in
    let sources = sources_of q in
    let before = c.args.links.now.items in
    let j = c.loop-j.j in
    let used = used_source q j c.requires.places (omega (arith, c.places-j-end.ensures.count, c.places-j-end.ensures.few)) (omega (arith, c.loop-j-test.true, c.places-j-end.ensures.count)) in
    let inside = used.0 in
    let at = used.1 ∙ sym c.origin.ensures in
    elim c.match-origin.branch [
      | in-Op+then-not-has_source+in_ok-push w ↦
          let link : Link = record { group = w.in-Op.s; item = c.args.t } in
          let now = ap (λ links. links.items) w.links-is ∙ w.in_ok-push.ensures.items in
          record {
            items = λ o. ap (λ xs. items_of xs o) now ∙ items_of_push c.loop-j.links.items link o ∙ ap (λ xs. xs ++ cond (eqb w.in-Op.s o) (c.args.t ∷ []) []) (c.loop-j.invariant.items o) ∙ read_once sources j inside w.in-Op.s o c.args.t (items_of before o) (at ∙ w.in-Op.is) (sym w.if-not-has_source.ensures);
            groups = λ n among all. All-same (λ x. x.group < n) _ _ now (All-push (λ x. x.group < n) c.loop-j.links.items link (c.loop-j.invariant.groups n among all) (read_among sources j inside n w.in-Op.s (at ∙ w.in-Op.is) among));
          }
      | in-Op+else-not-has_source w ↦
          let now = ap (λ links. links.items) w.links-is in
          record {
            items = λ o. ap (λ xs. items_of xs o) now ∙ c.loop-j.invariant.items o ∙ ap (λ b. items_of before o ++ cond b (c.args.t ∷ []) []) (sym (read_again sources j inside w.in-Op.s o (at ∙ w.in-Op.is) (sym w.if-not-has_source.ensures)));
            groups = λ n among all. All-same (λ x. x.group < n) _ _ now (c.loop-j.invariant.groups n among all);
          }
      | in_default w ↦
          let now = ap (λ links. links.items) w.links-is in
          record {
            items = λ o. ap (λ xs. items_of xs o) now ∙ c.loop-j.invariant.items o ∙ ap (λ b. items_of before o ++ cond b (c.args.t ∷ []) []) (sym (read_base sources j inside w.in_default.field-0 o (at ∙ w.in_default.is)));
            groups = λ n among all. All-same (λ x. x.group < n) _ _ now (c.loop-j.invariant.groups n among all);
          }
    ]
