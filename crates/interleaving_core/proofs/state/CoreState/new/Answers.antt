use Rattle.std.proofs.Common.{◌≡◌, ◌+◌, ◌*◌, ◌<◌, arith, ap, ◌∙◌, replicate, Option, None, Bool}
use Rattle.std.proofs.lemmas.Nat.{row_fits}
use Rattle.morph_base.specs.declared.limits.TheConstants.{EVENTS, EVENT_OPS, READS, WORKERS}
use Rattle.morph_base.specs.Limits.{most_attempts}
use Rattle.morph_base.proofs.NumberLaws.{op_count-small}
use Rattle.morph_base.specs.declared.word.OpWord.{OpWord}
use Rattle.interleaving_core.specs.declared.state.CoreState.{CoreState}
use Rattle.interleaving_core.specs.declared.entry.Record.{Record}
use Rattle.interleaving_core.specs.Core.{blocked}
use Rattle.interleaving_core.proofs.Storing.{start_core, start_state}
use Rattle.interleaving_core.proofs.state.CoreState.new.Goals as goal

-- the state that is returned
made : goal.In_ok-with_room → CoreState
made c =
    record {
      cap = c.args.cap;
      words = c.in_ok-filled.field-0;
      records = c.in_ok-filled-2.field-0;
      claims = c.in_ok-filled-3.field-0;
      decisions = c.in_ok-filled-4.field-0;
      published = c.in_ok-new.field-0;
      settlings = c.in_ok-with_room.field-0;
    }

words_are : (c : goal.In_ok-with_room) → c.in_ok-filled.field-0.items ≡ replicate c.len-ops.result (blocked 1)
words_are c = c.in_ok-filled.ensures ∙ ap (λ (w : OpWord). replicate c.len-ops.result w) c.blocked.ensures

pub returns-clause-state : goal.returns-clause-state
unfolding made
returns-clause-state c =
    start_state c.args.plan.now (made c) c.requires.cap
    (words_are c ∙ ap (λ n. replicate n (blocked 1)) c.len-ops.ensures)
    (c.in_ok-filled-2.ensures ∙ ap (λ n. replicate {A = Option Record} (n * READS) None) c.len-ops.ensures)
    c.in_ok-filled-3.ensures
    (c.in_ok-filled-4.ensures ∙ ap (λ n. replicate {A = Option Bool} n None) c.len.ensures)
    c.in_ok-new.ensures.entries c.in_ok-with_room.ensures.items
    (c.in_ok-new.ensures.room ∙ ap (λ n. n * (c.args.cap + 1)) c.len-ops.ensures)
    (c.in_ok-new.ensures.ops ∙ c.len-ops.ensures)
    (c.in_ok-with_room.ensures.room ∙ c.len-ops.ensures)

pub returns-clause-start : goal.returns-clause-start
unfolding made
returns-clause-start c =
    start_core (made c) c.len-ops.result (c.len-ops.result * READS) (WORKERS + 1) c.len.result (words_are c) c.in_ok-filled-2.ensures c.in_ok-filled-3.ensures c.in_ok-filled-4.ensures
    c.in_ok-new.ensures.entries c.in_ok-with_room.ensures.items

pub new-requires : goal.new-requires
new-requires c =
    let few : c.len-ops.result < EVENT_OPS * EVENTS + 1 = omega (arith, c.len-ops.ensures, op_count-small c.args.plan.now c.requires.plan) in
    omega (arith, row_fits c.len-ops.result (c.args.cap + 1) (EVENT_OPS * EVENTS + 1) most_attempts few (omega (arith, c.requires.cap)))
