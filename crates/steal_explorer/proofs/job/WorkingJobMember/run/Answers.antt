use Rattle.std.proofs.Common.{refl}
use Rattle.steal_explorer.proofs.Lonely.{ends_noted}
use Rattle.steal_explorer.proofs.Owning.{ended_deque, ended_tickets}
use Rattle.steal_explorer.proofs.job.WorkingJobMember.run.Goals as goal

pub returns : goal.returns
returns g c =
    let is = c.work-worker.ensures in (
      record {
        idle = is.can.0;
        deque = ended_deque c.work-worker.new.member c.work-worker.result _ is.can.1;
        tickets = ended_tickets c.work-worker.new.member c.work-worker.result _ is.tickets;
      },
      record { stopped = c.work-worker.new.member; ran = is.ran; noted = refl },
      λ lazy some single begins. ends_noted _ _ c.work-worker.new.member (is.alone lazy some single begins),
    )
