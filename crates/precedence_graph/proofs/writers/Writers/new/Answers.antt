use Rattle.std.proofs.Common.{ℕ, ◌<◌, length, get_or, sym, ap, ◌∙◌, arith}
use Rattle.std.proofs.lemmas.List.{length-replicate, get_or-replicate}
use Rattle.precedence_graph.specs.Entries.{source_before, changes}
use Rattle.morph_base.proofs.LinkLaws.{last_passing-none}
use Rattle.precedence_graph.proofs.EntryLemmas.{is_at}
use Rattle.precedence_graph.proofs.writers.Writers.new.Goals as goal

pub invariant_of-result-clause-some : goal.invariant_of-result-clause-some
invariant_of-result-clause-some c =
    omega (arith, ap length c.in_ok-filled.ensures, length-replicate {A = ℕ} c.next_power_of_two.result 0, c.next_power_of_two.ensures.lower_bound)

pub invariant_of-result-clause-ended : goal.invariant_of-result-clause-ended
invariant_of-result-clause-ended c = λ place lt.
    let inside : place < c.next_power_of_two.result = omega (arith, ap length c.in_ok-filled.ensures, length-replicate {A = ℕ} c.next_power_of_two.result 0) in
    ap (λ xs. get_or xs place 0) c.in_ok-filled.ensures ∙ get_or-replicate c.next_power_of_two.result place 0 0 inside
    ∙ sym (last_passing-none (is_at c.in_ok-with_room.field-0.items (length c.in_ok-filled.field-0.items) place) _ (ap length c.in_ok-with_room.ensures.items))

pub returns-clause-none : goal.returns-clause-none
returns-clause-none c = λ key.
    ap source_before (last_passing-none (changes c.in_ok-with_room.field-0.items key) _ (ap length c.in_ok-with_room.ensures.items))
