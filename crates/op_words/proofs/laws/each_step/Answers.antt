use Rattle.std.proofs.Common.{◌+◌, refl, subst}
use Rattle.std.specs.Prelude.{slice_index, slice_set}
use Rattle.morph_base.specs.Words.{packed}
use Rattle.interleaving_core.specs.declared.event.CoreEvent.TheVariants.{Spread as SpreadStep, RollBack}
use Rattle.interleaving_core.specs.Core.{blocked}
use Rattle.interleaving_core.specs.Steps.{May, spread_of}
use Rattle.op_words.specs.Layout.{level_index}
use Rattle.op_words.specs.Views.{spreading, rolling_back}
use Rattle.op_words.specs.Rule.{Steps}
use Rattle.op_words.specs.Kinds.{turned}
use Rattle.op_words.proofs.Loading.{looked_stays}
use Rattle.op_words.proofs.Claiming.{made_steps, claimed_steps, given_steps}
use Rattle.op_words.proofs.Keeping.{kept_steps}
use Rattle.op_words.proofs.Finishing.{ended_steps}
use Rattle.op_words.proofs.Grounding.{spread_steps, roll_steps}
use Rattle.op_words.proofs.Deciding.{decided_steps}
use Rattle.op_words.proofs.Settling.{any_settled}
use Rattle.op_words.proofs.Recalling.{recalled_stays, learned_stays}
use Rattle.op_words.proofs.Taking.{taken_stays, level_stays}
use Rattle.op_words.proofs.Fitting.{fit_stays}
use Rattle.op_words.proofs.Splitting.{split_stays}
use Rattle.op_words.proofs.Joining.{joined_stays}
use Rattle.op_words.proofs.laws.each_step.Goals as goal

pub returns : goal.returns
returns c = record {
  loads = λ p cap counters m o lt. looked_stays m.table m.lawful m.seat m.view m.there o lt;
  ready = λ p cap counters m o a lt word. made_steps m.table m.lawful m.seat m.view m.there o a lt word;
  claims = λ p cap counters m o a lt free word. claimed_steps m.table m.lawful m.seat m.view m.there o a lt free word;
  records = λ p cap counters m h x holds lt usable. kept_steps m.table m.lawful m.seat m.view m.there h holds lt x usable;
  finishes = λ p cap counters m h holds all. ended_steps m.table m.lawful m.seat m.view m.there h holds all;
  gives_back = λ p cap counters m h holds. given_steps m.table m.lawful m.seat m.view m.there h holds;
  spreads = λ p cap counters m o sibling last may.
      subst (λ n. May p cap m.lawful.core (SpreadStep o n) → Steps p cap counters m.table m.lawful (turned m.table m.seat (slice_set m.table.words o (packed (spread_of p m.lawful.core o))) (spreading o (spread_of p m.lawful.core o) m.view)) (SpreadStep o n)) last
      (spread_steps m.table m.lawful m.seat m.view m.there o) may;
  rolls_back = λ p cap counters m o j last may.
      subst (λ n. May p cap m.lawful.core (RollBack o n) → Steps p cap counters m.table m.lawful (turned m.table m.seat (slice_set m.table.words o (packed (blocked ((m.lawful.core.word o).attempt + 1)))) (rolling_back o ((m.lawful.core.word o).attempt + 1) m.view)) (RollBack o n)) last
      (roll_steps m.table m.lawful m.seat m.view m.there o) may;
  decides = λ p cap counters m i committed may. decided_steps m.table m.lawful m.seat m.view m.there i may.in_range committed may;
  settles = λ p cap counters m o may. any_settled m.table m.lawful m.seat m.view m.there o may.in_range may;
  loads_record = λ p cap counters m o j lt below. recalled_stays m.table m.lawful m.seat m.view m.there o j lt below;
  loads_decision = λ p cap counters m i lt. learned_stays m.table m.lawful m.seat m.view m.there i lt (m.lawful.core.decision i) refl;
  takes = λ p cap counters m k below few. taken_stays m.table m.lawful m.seat m.view m.there k below few;
  lowers = λ p cap counters m a. level_stays m.table m.lawful m.seat m.view m.there a;
  gets_room = λ p cap counters m n. fit_stays m.table m.lawful m.seat m.view m.there (slice_index m.table.words (level_index p)) n;
  makes_hand = λ p cap counters m root few. split_stays m.table m.lawful m.seat m.view m.there root few;
  joins = λ p cap counters m o w there other root free. joined_stays m.table m.lawful m.seat o m.view w m.there there other root free;
}
