-- Inside the crate: what a source of a generated text keeps true
use Rattle.std.specs.Prelude.{◌+◌, ◌≤◌, length}
use Rattle.event_reader.specs.Limits.{generated_events, generated_ids}
use Rattle.event_reader.specs.declared.gen_source.GenSource.TheInside.{Inside}

-- Its tables have from 1 to `generated_ids` ids, it is inside its line, and the events still to come are numbered from
-- 1 up to at most `generated_events`
pub record IsGenerator {A : Type 0} (source : Inside A) : Type 0 where
  pub sized : 1 ≤ source.size
  pub few_ids : source.size ≤ generated_ids
  pub inside : source.at ≤ length source.line
  pub begun : 1 ≤ source.next
  pub few_events : source.next + source.count ≤ generated_events + 1
