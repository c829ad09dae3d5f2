use Rattle.std.proofs.Common.{[], ◌∷◌, ◌++◌, length, sym, ap, subst, ◌∙◌}
use Rattle.std.proofs.lemmas.List.{length_push}
use Rattle.morph_base.specs.Links.{AreEnds, AreLinked}
use Rattle.interleaving_core.specs.Entries.{op_in, before_in}
use Rattle.interleaving_core.proofs.Linked.{ends_push, linked_push}
use Rattle.interleaving_core.proofs.state.published.Published.add.Goals as goal

pub invariant_of-self-clause-ended : goal.invariant_of-self-clause-ended
invariant_of-self-clause-ended c =
    let w = c.args.self.now in
    let es = w.entries.items in
    subst (λ xs. AreEnds (op_in xs) (length xs) c.set.new.self.items) (sym c.add-2.ensures.items)
    (subst (AreEnds (op_in (es ++ c.args.entry ∷ [])) (length (es ++ c.args.entry ∷ []))) (sym c.set.ensures.items)
    (ends_push es c.args.entry w.ends.items c.len.result (c.len.ensures ∙ ap length c.add-2.ensures.items ∙ length_push es c.args.entry) c.requires.op w.ended))

pub invariant_of-self-clause-linked : goal.invariant_of-self-clause-linked
invariant_of-self-clause-linked c =
    let w = c.args.self.now in
    let es = w.entries.items in
    subst (λ xs. AreLinked (op_in xs) (length xs) (before_in c.add.new.self.items)) (sym c.add-2.ensures.items)
    (subst (λ bs. AreLinked (op_in (es ++ c.args.entry ∷ [])) (length (es ++ c.args.entry ∷ [])) (before_in bs)) (sym c.add.ensures.items)
    (linked_push es c.args.entry w.before.items c.get.result.now w.long (c.get.ensures.at 0 ∙ w.ended c.args.entry.op c.requires.op) w.linked))
