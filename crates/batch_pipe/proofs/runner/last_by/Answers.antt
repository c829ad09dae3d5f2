use Rattle.std.proofs.Common.{ℕ, ap, sym, ◌∙◌}
use Rattle.std.specs.Prelude.{count_by, not}
use Rattle.std.proofs.lemmas.List.FromFn.{length-map-range_with_len}
use Rattle.morph_base.specs.declared.plan.Plan.{Plan}
use Rattle.morph_base.specs.declared.plan.Settled.{Settled}
use Rattle.morph_base.specs.Plans.{event_count}
use Rattle.decision_model.specs.declared.counts.Last.{Last}
use Rattle.morph_engine.specs.Fates.{settled_fate}
use Rattle.batch_pipe.proofs.Verdicts.{aborts-settled}
use Rattle.batch_pipe.proofs.runner.last_by.Goals as goal

pub returns : goal.returns
returns c =
    let p : Plan = c.args.end.now.plan in
    let r : Settled = c.args.end.now.settled in
    let at : ℕ → ℕ → Last = λ events aborted. record { events = events; aborted = aborted } in
    ap (λ n. at n c.aborts.result) (c.len.ensures ∙ sym (length-map-range_with_len (settled_fate p r) 0 (event_count p)))
    ∙ ap (at _) (c.aborts.ensures ∙ ap (count_by not) c.as_slice.ensures ∙ sym (aborts-settled p r c.requires.settled))
