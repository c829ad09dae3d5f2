-- The runners of a board that was made for a batch.
use Rattle.std.proofs.Common.{◌≡◌, ℕ, zero, suc, ◌+◌, ◌<◌, [], length, ap, ◌∙◌, arith}
use Rattle.std.specs.Prelude.{List, slice_index_or}
use Rattle.op_words.specs.declared.board.Board.{Board}
use Rattle.op_words.specs.declared.trail.View.{View}
use Rattle.op_eval.specs.declared.runner.Runner.{Runner}
use Rattle.op_eval.specs.Gathering.{AreNew}
use Rattle.op_eval.specs.Running.{hand_view}
use Rattle.morph_engine.specs.Runs.{AreFirstRunners}

-- a hand that did nothing yet, the first of its board
pub record IsUntouched (v : View) : Type 0 where
  pub tag : v.tag ≡ 1
  pub made : v.made ≡ 1
  pub joined : v.joined ≡ []
  pub trail : v.trail ≡ []
  pub notes : v.notes ≡ []

module _ (b : Board) (v : View) (workers events : ℕ) (rs : List Runner) (new : AreNew b v workers events rs) (untouched : IsUntouched v) where
  pub first_runners : 0 < workers → AreFirstRunners rs
  first_runners some = record {
    tags = tags;
    made = λ d. ap (λ (u : View). u.made) (new.root d) ∙ (let one = untouched.made in let many = new.len in omega arith);
    joined = λ d. ap (λ (u : View). u.joined) (new.root d) ∙ untouched.joined;
    trail = λ d. ap (λ (u : View). u.trail) (new.root d) ∙ untouched.trail;
    notes = λ d. ap (λ (u : View). u.notes) (new.root d) ∙ untouched.notes;
  }
    where
      tags : (k : ℕ) (d : Runner) → k < length rs → (hand_view (slice_index_or rs k d)).tag ≡ k + 1
      tags zero d lt = ap (λ (u : View). u.tag) (new.root d) ∙ untouched.tag
      tags (suc k) d lt =
          ap (λ (u : View). u.tag) (new.others (suc k) d (omega arith) (let many = new.len in omega (arith, many, lt)))
          ∙ (let one = untouched.made in omega arith)
