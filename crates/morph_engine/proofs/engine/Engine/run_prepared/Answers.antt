use Rattle.std.proofs.Common.{◌≡◌, ℕ, List, length, map, refl, sum_by, sym, subst}
use Rattle.morph_base.specs.Contents.{Contents}
use Rattle.morph_base.specs.declared.plan.Plan.{Plan}
use Rattle.morph_base.specs.declared.strategy.Abort.{Abort}
use Rattle.morph_base.specs.declared.strategy.Explore.{Explore}
use Rattle.morph_base.specs.Flat.{Kept, contents}
use Rattle.morph_base.specs.Plans.{HasBases}
use Rattle.op_words.specs.declared.closed.Closed.{Closed}
use Rattle.op_eval.specs.declared.answers.Left.{Left}
use Rattle.morph_engine.specs.Caps.{cap_for}
use Rattle.morph_engine.specs.Runs.{run_outcome, workers_of, HasRun, IsJournalledRun}
use Rattle.morph_engine.proofs.Accounting.{is_account, causes_in}
use Rattle.morph_engine.proofs.Told.{settled_fates-are}
use Rattle.morph_engine.proofs.engine.Engine.run_prepared.Goals as goal

-- what was prepared is explored as the strategy says
prepared_run : (p : Plan) (closed : Closed) (lists : List (List Left)) (by : List ℕ) (handed stolen : ℕ) {made explore : Explore} {kept abort : Abort} {workers : ℕ} → made ≡ explore → kept ≡ abort
    → HasRun p made kept workers closed (run_outcome lists by handed stolen) → HasRun p explore abort workers closed (run_outcome lists by handed stolen)
prepared_run p closed lists by handed stolen {workers = workers} explored aborts ran =
    subst (λ (z : Explore × Abort). HasRun p z.0 z.1 workers closed (run_outcome lists by handed stolen)) (λ a. (explored a, aborts a)) ran

pub returns-clause-ran : goal.returns-clause-ran
returns-clause-ran g c =
    let p : Plan = c.args.plan in
    let strategy = c.args.strategy.now in
    let workers = workers_of c.args.prepared in
    let closed = c.run-settled.result.closed in
    let lists = map (λ (l : Contents Left). l.items) c.run-settled.result.left.items in
    let by = c.run-settled.result.settled.by.items in
    let tallied = c.run-settled.result.tallied in
    let ran = prepared_run p closed lists by tallied.handed tallied.stolen c.requires.explore c.requires.abort c.run-settled.ensures.ran in
    record {
      plan = refl;
      strategy_is = refl;
      settled = c.run-settled.ensures.settled;
      fates_are = settled_fates-are p c.run-settled.result.settled c.requires.plan.plan c.run-settled.ensures.settled (contents c.args.self.now) c.requires.bases;
      run = ran;
      counts = λ counters v is. c.counts-counts.ensures p (cap_for strategy.abort) counters v is;
      account =
          is_account p c.requires.plan.plan strategy workers closed lists by tallied.handed tallied.stolen ran c.run-settled.ensures.settled.workers c.counts-counts.result
          (c.counts-counts.ensures p (cap_for strategy.abort) ran.counters ran.view ran.ended) (sum_by (λ (l : Contents Left). length l.items) c.run-settled.result.left.items) (causes_in c.run-settled.result.left.items);
    }

pub returns-clause-kept : goal.returns-clause-kept
returns-clause-kept g c = λ room fits one. subst (λ (a : Abort). IsJournalledRun c.args.plan a room c.run-settled.result.closed) c.requires.abort (c.run-settled.ensures.kept room fits one)

pub apply-requires-clause-bases : goal.apply-requires-clause-bases
apply-requires-clause-bases g c = subst (λ (s : Kept). HasBases c.args.plan (contents s)) (sym c.self.view_is) c.requires.bases
