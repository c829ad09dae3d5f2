use Rattle.std.proofs.Common.{sym, ap, ◌∙◌}
use Rattle.morph_base.specs.declared.word.OpWord.{OpWord}
use Rattle.interleaving_core.proofs.Machine.{rests_on_none, is_fold, settled_once, few_attempts}
use Rattle.interleaving_core.proofs.laws.sound_states.Goals as goal

pub returns : goal.returns
returns c = record {
  none_rests = λ p cap d o valid sound. rests_on_none p cap valid d sound o;
  fold = λ p cap d valid sound. is_fold p cap valid d sound;
  once = λ p cap d valid sound. settled_once p cap valid d sound;
  attempts = λ p cap d valid sound. few_attempts p cap valid d sound;
  words = λ p cap d o sound lt. (sound.each_op o lt).range.word;
  one_claim = λ p cap s t d g h sound s_is t_is same.
      ap (λ (w : OpWord). w.by) (sym (sound.each_claim s g s_is).word_is) ∙ ap (λ o. (d.word o).by) same ∙ ap (λ (w : OpWord). w.by) (sound.each_claim t h t_is).word_is;
}
