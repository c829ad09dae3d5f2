use Rattle.std.proofs.Common.{◌∙◌, arith, sym}
use Rattle.abort_lazy.proofs.Trying.{calls_free}
use Rattle.abort_lazy.proofs.Sweeping.{sweeping_none, burst_taken, all_swept}
use Rattle.abort_lazy.proofs.run.level.go_over.Goals as goal

pub loop-turn-init : goal.loop-turn-init
loop-turn-init c = (c.requires.can.hand, (0, 0, omega arith, omega arith, sweeping_none _ _ _ _ c.requires.can.unused))

pub take_burst-burst-requires-clause-few : goal.take_burst-burst-requires-clause-few
take_burst-burst-requires-clause-few c =
    let sweeping = c.loop-turn.invariant.1 in
    let count = sweeping.4.count in
    let most = sweeping.3 in
    omega (arith, count, most, c.requires.most, c.requires.fits.few, c.loop-turn-test.true)

pub try_burst-requires-clause-free : goal.try_burst-requires-clause-free
try_burst-requires-clause-free c =
    let sweeping = c.loop-turn.invariant.1 in
    let after = (burst_taken _ _ _ _ _ _ _ sweeping.4 _ _ _ c.take_burst-burst.ensures.burst).2 in
    record { hand = c.take_burst-burst.ensures.hand; free = calls_free _ after.calls _ _ after.made c.requires.can.free }

pub try_burst-requires-clause-room : goal.try_burst-requires-clause-room
try_burst-requires-clause-room c =
    let sweeping = c.loop-turn.invariant.1 in
    let after = (burst_taken _ _ _ _ _ _ _ sweeping.4 _ _ _ c.take_burst-burst.ensures.burst).2 in
    let room = after.room in
    omega (arith, room, c.requires.can.room)

pub returns-then-is_over : goal.returns-then-is_over
returns-then-is_over c =
    let sweeping = c.loop-turn.invariant.1 in
    let after = burst_taken _ _ _ _ _ _ _ sweeping.4 _ _ _ c.take_burst-burst.ensures.burst in
    let all = all_swept _ _ _ _ _ _ _ (c.try_burst.ensures.tried _ _ _ after.2) (after.4 (sym c.is_over.ensures ∙ c.if-is_over.true)) in
    record { swept = record { hand = c.try_burst.ensures.hand; swept = all.0; through = all.1 } }

pub loop-turn-preserved : goal.loop-turn-preserved
loop-turn-preserved c =
    let sweeping = c.loop-turn.invariant.1 in
    let after = burst_taken _ _ _ _ _ _ _ sweeping.4 _ _ _ c.take_burst-burst.ensures.burst in
    let count = after.3 (sym c.is_over.ensures ∙ c.if-is_over.false) in
    let low = sweeping.2 in
    let high = sweeping.3 in (
      c.try_burst.ensures.hand,
      (after.0, after.1, omega (arith, count, low, c.requires.some), omega (arith, count, high, c.requires.most), c.try_burst.ensures.tried _ _ _ after.2),
    )

pub returns : goal.returns
returns c =
    let sweeping = c.loop-turn.invariant.1 in
    let low = sweeping.2 in
    let risen = sweeping.4.risen in
    let all = all_swept _ _ _ _ _ _ _ sweeping.4 (omega (arith, low, risen, c.loop-turn-test.false, c.loop-turn.auto)) in
    record { swept = record { hand = c.loop-turn.invariant.0; swept = all.0; through = all.1 } }
