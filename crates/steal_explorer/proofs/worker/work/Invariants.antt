use Rattle.std.specs.Prelude.{◌≡◌, ◌<◌, ◌≤◌, length}
use Rattle.morph_base.specs.declared.strategy.Abort.TheVariants.{Lazy}
use Rattle.op_words.specs.Hands.{cap_of}
use Rattle.steal_explorer.specs.Alone.{BeginsAlone}
use Rattle.abort_eager.specs.Grounds.{ground_rules}
use Rattle.steal_explorer.specs.Members.{CanServe, HasTickets}
use Rattle.steal_explorer.proofs.Lonely.{IsTakingAlone}
use Rattle.steal_explorer.proofs.Turning.{IsTurning}
use Rattle.steal_explorer.proofs.worker.work.Given as goal

abbrev pub invariant-loop-turn : goal.invariant-loop-turn
invariant-loop-turn g l =
    CanServe l.ground l.member
    × HasTickets l.thieves l.member
    × IsTurning (ground_rules l.ground) l.thieves l.fn.member l.turn l.row l.member
    × (l.row < 64)
    × (l.ground.abort ≡ Lazy → 1 ≤ cap_of l.ground.board.now → length l.thieves ≡ 1 → BeginsAlone l.ground.plan.now l.fn.member → IsTakingAlone l.ground.plan.now l.turn l.row l.member)
