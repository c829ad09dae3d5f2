use Rattle.std.specs.Prelude.{◌≡◌, ◌+◌, ◌<◌, All, false, length, reverse}
use Rattle.op_words.specs.Counting.{times}
use Rattle.op_words.specs.Hands.{IsHandOf}
use Rattle.op_eval.specs.Running.{hand_view}
use Rattle.op_eval.specs.Bursts.{TakesNumbers}
use Rattle.op_eval.proofs.runner.Runner.take_burst.Given as goal

-- Each turn took a number that names a place
abbrev pub invariant-loop-turn : goal.invariant-loop-turn
invariant-loop-turn l = record {
  hand : IsHandOf l.board l.self.hand;
  takes : TakesNumbers l.counter (reverse l.burst.numbers) l.fn.self l.self;
  inside : All (λ n. n < l.places) l.burst.numbers;
  many : length l.burst.numbers ≡ l._turn;
  over : l.burst.over ≡ false;
  times : times l.counter (hand_view l.self).places ≡ times l.counter (hand_view l.fn.self).places + l._turn;
}
