use Rattle.std.specs.Prelude.{◌==◌}
use Rattle.std.proofs.Common.{ℕ, ◌<◌, length, get_or, sym, ap, ◌∙◌, arith}
use Rattle.std.proofs.lemmas.List.{length-replicate, get_or-replicate}
use Rattle.morph_base.proofs.LinkLaws.{last_passing-none}
use Rattle.interleaving_core.specs.Entries.{op_in}
use Rattle.interleaving_core.proofs.state.published.Published.new.Goals as goal

pub invariant_of-result-clause-ended : goal.invariant_of-result-clause-ended
invariant_of-result-clause-ended c = λ q lt.
    let inside : q < c.args.ops = omega (arith, ap length c.in_ok-filled.ensures, length-replicate {A = ℕ} c.args.ops 0) in
    ap (λ xs. get_or xs q 0) c.in_ok-filled.ensures ∙ get_or-replicate c.args.ops q 0 0 inside
    ∙ sym (last_passing-none (λ i. op_in c.in_ok-with_room.field-0.items i == q) _ (ap length c.in_ok-with_room.ensures.items))
