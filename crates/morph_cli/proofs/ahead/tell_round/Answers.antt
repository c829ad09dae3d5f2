use Rattle.std.proofs.Common.{rules, ◌≡◌, ◌+◌, ℕ, List, Option, ap, sym, subst, ◌∙◌}
use Rattle.run_text.specs.declared.choices.Settings.{Settings}
use Rattle.run_text.specs.declared.tally.Tally.{Tally}
use Rattle.batch_pipe.specs.PlanRuns.{manner}
use Rattle.batch_pipe.specs.PipeRounds.{IsRound, number_before}
use Rattle.batch_pipe.proofs.Tellers.{round_keeps, round_seen}
use Rattle.morph_cli.specs.Outputs.{outputs_of}
use Rattle.morph_cli.specs.Tellers.{TellerView, teller_view, CanTell, TellsRan}
use Rattle.morph_cli.proofs.ahead.tell_round.Goals as goal

-- what a teller shows at the end, where its references have these values
view_is : {K N : Type 0} (kept : K → Option (List ℕ)) (failed : K → ℕ) (noted : N → Option (List ℕ)) (failed_notes : N → ℕ) (s s' : Settings) (out : List ℕ) (t t' : Tally) (k k' : K) (n n' : N) →
    s' ≡ s → t ≡ t' → k ≡ k' → n ≡ n' →
    teller_view s' out t' (outputs_of (kept k') (noted n')) (failed k') (failed_notes n') ≡ teller_view s out t (outputs_of (kept k) (noted n)) (failed k) (failed_notes n)
view_is kept failed noted failed_notes s s' out t t' k k' n n' settings tally sink notes =
    ap (λ x. teller_view x out t' (outputs_of (kept k') (noted n')) (failed k') (failed_notes n')) settings
    ∙ ap (λ x. teller_view s out x (outputs_of (kept k') (noted n')) (failed k') (failed_notes n')) (sym tally)
    ∙ ap (λ x. teller_view s out t (outputs_of (kept x) (noted n')) (failed x) (failed_notes n')) (sym sink)
    ∙ ap (λ x. teller_view s out t (outputs_of (kept k) (noted x)) (failed k) (failed_notes x)) (sym notes)

pub shape_of-ahead : goal.shape_of-ahead
shape_of-ahead g c =
    let name = round_keeps _ (λ t. t.out.ghost_name) (λ a b r all took. took.1) c.round.ensures.round in
    search rules

pub returns-clause-round : goal.returns-clause-round
returns-clause-round g c =
    let q = c.round.ensures.round in
    let settings = round_keeps _ (λ t. t.settings.now) (λ a b r all took. took.0.settings) q in
    let sink = round_keeps _ (λ t. t.sink.ghost_name) (λ a b r all took. took.2) q in
    let notes = round_keeps _ (λ t. t.notes.ghost_name) (λ a b r all took. took.3) q in
    let tally = round_keeps _ (λ t. t.tally.ghost_name) (λ a b r all took. took.4) q in
    let seen = round_seen _ TellsRan
    (λ t. teller_view t.settings.now t.out.now t.tally.now (outputs_of (g.K.Sink.written t.sink.now) (g.N.Sink.written t.notes.now)) (g.K.Sink.faults t.sink.now) (g.N.Sink.faults t.notes.now))
    (λ a b r all took. took.0) q in
    subst (λ (v : TellerView). IsRound g.A.EventApp.event_of TellsRan (manner c.args.pick.now c.args.job.now.settings.workers) c.args.ahead.now.pipe (g.S.Source.left c.args.source.now)
    (teller_view c.args.job.now.settings c.args.ahead.now.out c.args.tally.now (outputs_of (g.K.Sink.written c.args.sink.now) (g.N.Sink.written c.args.notes.now)) (g.K.Sink.faults c.args.sink.now) (g.N.Sink.faults c.args.notes.now))
    c.round.new.self (g.S.Source.left c.round.new.source) v)
    (view_is g.K.Sink.written g.K.Sink.faults g.N.Sink.written g.N.Sink.faults _ _ _ _ _ _ _ _ _ settings (search rules) (search rules) (search rules)) seen

pub returns-clause-next : goal.returns-clause-next
returns-clause-next g c =
    let q = c.round.ensures.round in
    let settings = round_keeps _ (λ t. t.settings.now) (λ a b r all took. took.0.settings) q in
    let sink = round_keeps _ (λ t. t.sink.ghost_name) (λ a b r all took. took.2) q in
    let notes = round_keeps _ (λ t. t.notes.ghost_name) (λ a b r all took. took.3) q in
    let tally = round_keeps _ (λ t. t.tally.ghost_name) (λ a b r all took. took.4) q in
    λ uncut. subst (CanTell (number_before c.round.new.self + 1))
    (view_is g.K.Sink.written g.K.Sink.faults g.N.Sink.written g.N.Sink.faults _ _ _ _ _ _ _ _ _ settings (search rules) (search rules) (search rules)) (c.round.ensures.next uncut)
