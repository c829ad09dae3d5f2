use Rattle.std.proofs.Common.{◌≡◌, sym, ap, subst, ◌∙◌, map, ℕ, List, true, unwrap_or}
use Rattle.morph_base.specs.declared.operation.Op.{Op}
use Rattle.morph_base.specs.Transactions.{Transaction, transaction_of}
use Rattle.morph_base.specs.States.{State, answer, all_answer, after}
use Rattle.morph_base.specs.Flat.{contents, put_all}
use Rattle.morph_base.proofs.PlainLaws.{after-put, after-nothing}
use Rattle.morph_base.proofs.plain.transact.Goals as goal

-- what was put is what the event does
put_is_after : (s t : State) (e : Transaction) (ops : List Op) (vs ws : List ℕ) → ops ≡ e.ops → all_answer s ops ≡ true →
    vs ≡ map (λ op. unwrap_or (answer s op) (s op.key)) ops → ws ≡ vs → t ≡ put_all s (map (λ op. op.key) ops) ws → t ≡ after s e
put_is_after s t e ops vs ws same all told kept put =
    put ∙ ap (put_all s (map (λ op. op.key) ops)) (kept ∙ told)
    ∙ ap (λ l. put_all s (map (λ op. op.key) l) (map (λ op. unwrap_or (answer s op) (s op.key)) l)) same
    ∙ sym (after-put s e (subst (λ l. all_answer s l ≡ true) same all))

pub returns-in-Some-clause-state : goal.returns-in-Some-clause-state
returns-in-Some-clause-state c =
    let told = rw c.in-Some.is at c.in_ok-answers.ensures.answers in
    put_is_after (contents c.args.values.now) _ (transaction_of c.args.event.now) c.args.ops.now c.in-Some.answers.items _
    c.requires.ops told.0 told.1 c.as_slice.ensures c.write.ensures.state

pub returns-in-None-clause-state : goal.returns-in-None-clause-state
returns-in-None-clause-state c =
    let told = rw c.in-None.is at c.in_ok-answers.ensures.answers in
    sym (after-nothing (contents c.args.values.now) (transaction_of c.args.event.now) (ap (all_answer (contents c.args.values.now)) (sym c.requires.ops) ∙ told))
