-- What goes on and goes on again, goes on.
use Rattle.std.proofs.Common.{◌≡◌, List, [], ◌++◌, refl, ap, ◌∙◌, subst, inl, inr, arith, append_assoc}
use Rattle.std.specs.Prelude.{slice_index_or}
use Rattle.std.proofs.lemmas.List.Elements.{Contains-append_cases}
use Rattle.op_words.specs.declared.trail.Item.{Item}
use Rattle.op_words.specs.Trails.{OwnOpen, IsCalm, IsCalmAt}
use Rattle.op_words.specs.Views.{AddsAndFrees}
use Rattle.op_words.proofs.Rows.{no_more}
use Rattle.op_words.proofs.Trailing.{along_none, along-append}
use Rattle.op_eval.specs.declared.runner.Runner.{Runner}
use Rattle.op_eval.specs.Further.{IsFurther, HaveGoneOn}
use Rattle.op_eval.specs.Running.{hand_view}

pub same_further : (a b : Runner) → b ≡ a → IsFurther a b
same_further a b same = record {
  tag = ap (λ r. (hand_view r).tag) same;
  made = ap (λ r. (hand_view r).made) same;
  room = ap (λ r. (hand_view r).room) same;
  joined = ap (λ r. (hand_view r).joined) same;
  words = [];
  trail = ap (λ r. (hand_view r).trail) same ∙ no_more (hand_view a).trail;
  notes = ap (λ r. (hand_view r).notes) same ∙ no_more (hand_view a).notes;
  open_own = λ t inside. absurd (omega (arith, inside.1));
  calm = λ lone. along_none IsCalmAt (hand_view a).trail;
}

-- words that settle nothing were added to its view
pub goes_further : (a b : Runner) (words : List Item) → AddsAndFrees (hand_view a) (hand_view b) words → OwnOpen words → IsFurther a b
goes_further a b words goes open_own = record {
  tag = goes.adds.tag;
  made = goes.adds.made;
  room = goes.adds.room;
  joined = goes.adds.joined;
  words = words;
  trail = goes.adds.trail;
  notes = goes.adds.notes;
  open_own = open_own;
  calm = goes.adds.calm;
}

own_both : (xs ys : List Item) → OwnOpen xs → OwnOpen ys → OwnOpen (xs ++ ys)
own_both xs ys first second t inside own = elim (Contains-append_cases xs ys t inside) [ inl there ↦ first t there own | inr there ↦ second t there own ]

pub further_then : (a m b : Runner) → IsFurther a m → IsFurther m b → IsFurther a b
further_then a m b first second = record {
  tag = second.tag ∙ first.tag;
  made = second.made ∙ first.made;
  room = second.room ∙ first.room;
  joined = second.joined ∙ first.joined;
  words = first.words ++ second.words;
  trail = second.trail ∙ ap (λ l. l ++ second.words) first.trail ∙ append_assoc (hand_view a).trail first.words second.words;
  notes = second.notes ∙ ap (λ l. l ++ second.words) first.notes ∙ append_assoc (hand_view a).notes first.words second.words;
  open_own = own_both first.words second.words first.open_own second.open_own;
  calm = λ lone.
      along-append IsCalmAt (hand_view a).trail first.words second.words (first.calm lone)
      (subst (λ l. IsCalm l second.words) first.trail (second.calm (record { root = first.tag ∙ lone.root; alone = first.made ∙ lone.alone })));
}

pub all_same : (rs : List Runner) → HaveGoneOn rs rs
all_same rs = record { len = refl; each = λ k d lt. same_further (slice_index_or rs k d) (slice_index_or rs k d) refl }
