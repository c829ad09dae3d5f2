use Rattle.std.proofs.Common.{◌≡◌, ◌<◌, [], ◌∷◌, ◌++◌, length, sym, ap, subst, ◌∙◌, arith}
use Rattle.std.proofs.lemmas.List.{length-set, length_push}
use Rattle.precedence_graph.specs.declared.writers.Entry.{Entry}
use Rattle.morph_base.specs.Links.{last_passing, AreEnds, AreLinked}
use Rattle.precedence_graph.specs.Entries.{place_of, source_before, entry_at, changes, place_among, before_in}
use Rattle.precedence_graph.proofs.EntryLemmas.{is_at, source_push, number_push, ends_push, linked_push}
use Rattle.precedence_graph.proofs.writers.Writers.enter.Goals as goal

pub invariant_of-self-clause-some : goal.invariant_of-self-clause-some
invariant_of-self-clause-some c = omega (arith, c.args.self.now.some, ap length c.set.ensures.items, length-set c.args.self.now.ends.items c.place_of-place.result c.len-2.result)

pub invariant_of-self-clause-ended : goal.invariant_of-self-clause-ended
invariant_of-self-clause-ended c =
    let ends = c.args.self.now.ends.items in
    let entries = c.args.self.now.entries.items in
    let e : Entry = record { key = c.args.key; before = c.get-before.result.now; level = c.args.level; event_level = c.args.event_level } in
    let here : c.place_of-place.result ≡ place_of c.args.key (length ends) = c.place_of-place.ensures.place ∙ ap (place_of c.args.key) c.len.ensures in
    let inside : c.place_of-place.result < length ends = omega (arith, c.place_of-place.ensures.inside, c.len.ensures) in
    subst (λ xs. AreEnds (place_among xs (length c.set.new.self.items)) (length xs) c.set.new.self.items) (sym c.add.ensures.items)
    (subst (λ ends. AreEnds (place_among (entries ++ e ∷ []) (length ends)) (length (entries ++ e ∷ [])) ends) (sym c.set.ensures.items)
    (ends_push entries e ends c.place_of-place.result c.len-2.result here (c.len-2.ensures ∙ ap length c.add.ensures.items ∙ length_push entries e) inside c.args.self.now.ended))

pub invariant_of-self-clause-linked : goal.invariant_of-self-clause-linked
invariant_of-self-clause-linked c =
    let ends = c.args.self.now.ends.items in
    let entries = c.args.self.now.entries.items in
    let e : Entry = record { key = c.args.key; before = c.get-before.result.now; level = c.args.level; event_level = c.args.event_level } in
    let here : c.place_of-place.result ≡ place_of c.args.key (length ends) = c.place_of-place.ensures.place ∙ ap (place_of c.args.key) c.len.ensures in
    let inside : c.place_of-place.result < length ends = omega (arith, c.place_of-place.ensures.inside, c.len.ensures) in
    let before : e.before ≡ last_passing (is_at entries (length ends) (place_of c.args.key (length ends))) (length entries) =
    c.get-before.ensures.at 0 ∙ c.args.self.now.ended c.place_of-place.result inside ∙ ap (λ place. last_passing (is_at entries (length ends) place) (length entries)) here in
    subst (λ k. AreLinked (place_among c.add.new.self.items k) (length c.add.new.self.items) (before_in c.add.new.self.items))
    (sym (ap length c.set.ensures.items ∙ length-set ends c.place_of-place.result c.len-2.result))
    (subst (λ xs. AreLinked (place_among xs (length ends)) (length xs) (before_in xs)) (sym c.add.ensures.items) (linked_push entries e (length ends) before c.args.self.now.linked))

pub returns-clause-source : goal.returns-clause-source
returns-clause-source c = λ key.
    let entries = c.args.self.now.entries.items in
    let e : Entry = record { key = c.args.key; before = c.get-before.result.now; level = c.args.level; event_level = c.args.event_level } in
    ap (λ xs. source_before (last_passing (changes xs key) (length xs))) c.add.ensures.items ∙ source_push entries e key

pub returns-clause-levels : goal.returns-clause-levels
returns-clause-levels c = λ o.
    let entries = c.args.self.now.entries.items in
    let e : Entry = record { key = c.args.key; before = c.get-before.result.now; level = c.args.level; event_level = c.args.event_level } in
    ap (λ xs. (entry_at xs o).level) c.add.ensures.items ∙ number_push entries e (λ x. x.level) o

pub returns-clause-event_levels : goal.returns-clause-event_levels
returns-clause-event_levels c = λ o.
    let entries = c.args.self.now.entries.items in
    let e : Entry = record { key = c.args.key; before = c.get-before.result.now; level = c.args.level; event_level = c.args.event_level } in
    ap (λ xs. (entry_at xs o).event_level) c.add.ensures.items ∙ number_push entries e (λ x. x.event_level) o
