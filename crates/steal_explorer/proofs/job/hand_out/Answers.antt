use Rattle.std.proofs.Common.{◌<◌, length, arith}
use Rattle.steal_explorer.proofs.Leaving.{leaves_alone}
use Rattle.steal_explorer.proofs.Outcome.{kept_at, all_hold, all_have, handed_out}
use Rattle.steal_explorer.proofs.job.hand_out.Goals as goal

pub work_all-requires-clause-workers : goal.work_all-requires-clause-workers
work_all-requires-clause-workers g c κs within = λ k d lt. (c.requires.begins k d lt).worker

pub gather-requires : goal.gather-requires
gather-requires g c = record { holding = all_hold _ _ _ _ c.args.members.now c.requires.begins c.requires.len c.work_all.auto.members c.work_all.ensures.work c.requires.few }

pub empty_all-requires-clause-have_all : goal.empty_all-requires-clause-have_all
empty_all-requires-clause-have_all g c =
    all_have _ _ _ _ _ c.requires.begins c.requires.len c.work_all.auto.members c.work_all.ensures.work c.gather.ensures.holding c.gather.ensures.totals

pub returns-clause-handed_out : goal.returns-clause-handed_out
returns-clause-handed_out g c =
    handed_out _ _ _ _ _ c.requires.begins c.requires.len c.work_all.auto.members c.work_all.ensures.work c.gather.ensures.holding c.gather.ensures.totals _ c.empty_all.ensures.emptied

pub returns-clause-alone : goal.returns-clause-alone
returns-clause-alone g c = λ d lazy some single begins.
    let lt : 0 < length c.args.members.now = omega (arith, c.requires.len, single) in
    leaves_alone _ _ _ (c.work_all.ensures.work 0 d lt).0 (c.work_all.ensures.alone 0 d lt lazy some single begins) c.requires.ground.valid.plan _ _ _
    (kept_at _ _ _ _ _ c.requires.begins c.requires.len c.work_all.auto.members c.work_all.ensures.work c.gather.ensures.holding c.gather.ensures.totals 0 d lt)
    (c.empty_all.ensures.emptied.each 0 d (omega (arith, lt, c.gather.ensures.holding.len, c.requires.len)))
