-- What targets that are touched one after another add to a view.
use Rattle.std.proofs.Common.{◌≡◌, ℕ, suc, ◌<◌, List, [], ◌∷◌, ◌++◌, length, refl, sym, ap, ◌∙◌, subst, inl, inr, arith, zero-lt-suc, suc-le-suc, not-suc-le-zero, Some, None}
use Rattle.std.proofs.lemmas.List.Elements.{Contains-append_cases}
use Rattle.morph_base.specs.declared.plan.Plan.{Plan}
use Rattle.morph_base.specs.Plans.{op_count}
use Rattle.interleaving_core.specs.declared.event.CoreEvent.{CoreEvent}
use Rattle.op_words.specs.declared.answers.Rolled.{Rolled}
use Rattle.op_words.specs.declared.answers.Rolled.TheVariants.{Done as HasRolled, Fresh as IsFresh, Not as Unrolled}
use Rattle.op_words.specs.declared.answers.Spreaded.{Spreaded}
use Rattle.op_words.specs.declared.answers.Spreaded.TheVariants.{Done as HasSpread, Not as Unspread}
use Rattle.op_words.specs.declared.trail.Item.{Item}
use Rattle.op_words.specs.declared.trail.View.{View}
use Rattle.op_words.specs.Retrying.{SpreadDoes, RollDoes, spread_steps, roll_steps}
use Rattle.op_words.specs.Trails.{OwnOn, OwnOpen}
use Rattle.op_words.specs.Views.{AddsAndFrees, IsAtRest}
use Rattle.op_words.proofs.Adding.{adds_none, goes_then}
use Rattle.abort_eager.specs.declared.answers.Target.{Target}
use Rattle.abort_eager.specs.declared.answers.Target.TheVariants.{Spread, RollBack}
use Rattle.abort_eager.specs.declared.answers.Touch.{Touch}
use Rattle.abort_eager.specs.declared.answers.Touched.{Touched}
use Rattle.abort_eager.specs.declared.cascade.Cascade.{Cascade}
use Rattle.abort_eager.specs.Targets.{targets_left}
use Rattle.abort_eager.specs.Popping.{GoesOn}
use Rattle.abort_eager.specs.Touching.{HasCause, CanTouch, Touches, Touching, NextDoes, CascadeDoes, op_of, spread_touch, roll_touch, touch_steps}

-- ---- one target

pub record IsOneTouched (g : Target) (v u : View) : Type 0 where
  pub words : List Item
  pub goes : AddsAndFrees v u words
  pub own : OwnOn (op_of g) words
  pub open_own : OwnOpen words

pub touched_one : (p : Plan) (cap : ℕ) (g : Target) (v u : View) (t : Touched) → Touches p cap g v u t → IsOneTouched g v u
touched_one p cap (Spread o) v u t touches = let does = touches.does in record { words = does.words; goes = does.goes; own = does.own; open_own = does.open_own }
touched_one p cap (RollBack o j) v u t touches = let does = touches.does in record { words = does.words; goes = does.goes; own = does.own; open_own = does.open_own }

-- the failure stays shown
pub cause_stays : (p : Plan) (cap : ℕ) (g : Target) (a b : Cascade) (v u : View) (t : Touched) → HasCause a v → GoesOn p a b → Touches p cap g v u t → HasCause b u
cause_stays p cap g a b v u t cause goes touches failed =
    let shown = cause (sym goes.failed ∙ failed) in
    let one = touched_one p cap g v u t touches in
    record { entry = shown.entry; inside = one.goes.adds.published shown.entry shown.inside; op_is = shown.op_is ∙ sym goes.op; failed_is = shown.failed_is }

at_rest_after : {v u : View} {xs : List Item} → AddsAndFrees v u xs → IsAtRest u
at_rest_after goes = record { free = goes.free; agree = goes.adds.agree }

-- ---- all of a list

pub touched_all : (p : Plan) (cap : ℕ) (gs : List Target) (v u : View) → IsAtRest v → Touching p cap gs v u → CascadeDoes gs v u
touched_all p cap [] v u rest same = record {
  words = [];
  goes = subst (λ z. AddsAndFrees v z []) (sym same) (record { adds = adds_none v rest.agree; free = rest.free });
  own = λ t inside is. absurd (not-suc-le-zero inside.1);
  open_own = λ t inside is. absurd (not-suc-le-zero inside.1);
}
touched_all p cap (g ∷ gs) v u rest touching =
    let here = touched_one p cap g v touching.0 touching.1 touching.2 in
    let there = touched_all p cap gs touching.0 u (at_rest_after here.goes) touching.3 in
    record {
      words = here.words ++ there.words;
      goes = goes_then here.goes there.goes;
      own = λ t inside is.
          elim (Contains-append_cases here.words there.words t inside) [
            | inl first ↦ (g, (0, zero-lt-suc (length gs), refl), sym (here.own t first is))
            | inr later ↦ (
                let of_target = there.own t later is in
                let at = of_target.1 in
                (of_target.0, (suc at.0, suc-le-suc at.1, at.2), of_target.2))
          ];
      open_own = λ t inside is.
          elim (Contains-append_cases here.words there.words t inside) [ inl first ↦ here.open_own t first is | inr later ↦ there.open_own t later is ];
    }

-- ---- calls of `next`

pub touched_more : (p : Plan) (cap : ℕ) (a b : Cascade) (v m u : View) (t : Touched) → NextDoes p cap a b v m (Some t) → Touching p cap (targets_left p b) m u
    → Touching p cap (targets_left p a) v u
touched_more p cap a b v m u t next touching = subst (λ gs. Touching p cap gs v u) (sym next.left) (m, t, next.touches, touching)

pub touched_fewer : (p : Plan) (cap : ℕ) (a b : Cascade) (v m : View) (t : Touched) → NextDoes p cap a b v m (Some t) → length (targets_left p b) < length (targets_left p a)
touched_fewer p cap a b v m t next =
    let e : length (targets_left p a) ≡ suc (length (targets_left p b)) = ap length next.left in
    omega arith

pub touched_end : (p : Plan) (cap : ℕ) (a b : Cascade) (v u : View) → NextDoes p cap a b v u None → Touching p cap (targets_left p a) v u
touched_end p cap a b v u next = subst (λ gs. Touching p cap gs v u) (sym next.before) next.same

-- what was touched is an operation of the plan
touched_in_range : (p : Plan) (cap : ℕ) (g : Target) (v u : View) (t : Touched) → Touches p cap g v u t → t.op < op_count p
touched_in_range p cap (Spread o) v u t touches = subst (λ k. k < op_count p) (sym touches.op_is) touches.in_range
touched_in_range p cap (RollBack o j) v u t touches = subst (λ k. k < op_count p) (sym touches.op_is) touches.in_range

pub next_in_range : (p : Plan) (cap : ℕ) (a b : Cascade) (v u : View) (t : Touched) → NextDoes p cap a b v u (Some t) → t.op < op_count p
next_in_range p cap a b v u t next = touched_in_range p cap next.target v u t next.touches

-- ---- one call

module _ (p : Plan) (cap : ℕ) (g : Target) (failing : ℕ) (v u : View) where
  pub spread_touched : (o : ℕ) (answer : Spreaded) (touch : Touch) → g ≡ Spread o → CanTouch p failing v g → SpreadDoes p cap o v u failing answer → touch ≡ spread_touch o answer
      → Touches p cap g v u (record { op = o; touch = touch })
  spread_touched o answer touch is can does same =
      let may = subst (CanTouch p failing v) is can in
      subst (λ h. Touches p cap h v u (record { op = o; touch = touch })) (sym is) (record { in_range = may.0; sibling = failing; from = may.1; answer = answer; does = does; op_is = refl; touch_is = same })

  pub roll_touched : (o j : ℕ) (answer : Rolled) (touch : Touch) → g ≡ RollBack o j → CanTouch p failing v g → RollDoes p cap o v u j answer → touch ≡ roll_touch answer
      → Touches p cap g v u (record { op = o; touch = touch })
  roll_touched o j answer touch is can does same =
      let may = subst (CanTouch p failing v) is can in
      subst (λ h. Touches p cap h v u (record { op = o; touch = touch })) (sym is)
      (record { in_range = may.0; in_places = may.1; answer = answer; does = does; op_is = refl; touch_is = same })

  pub spread_steps_are : (o : ℕ) (answer : Spreaded) (touch : Touch) → g ≡ Spread o → SpreadDoes p cap o v u failing answer → touch ≡ spread_touch o answer
      → u.events ≡ touch_steps g failing touch ++ v.events
  spread_steps_are o answer touch is does same =
      does.steps ∙ ap (λ (es : List CoreEvent). es ++ v.events) (sym (by_answer answer) ∙ ap (touch_steps (Spread o) failing) (sym same) ∙ ap (λ h. touch_steps h failing touch) (sym is))
    where
      by_answer : (r : Spreaded) → touch_steps (Spread o) failing (spread_touch o r) ≡ spread_steps o failing r
      by_answer HasSpread = refl
      by_answer (Unspread w) = refl

  pub roll_steps_are : (o j : ℕ) (answer : Rolled) (touch : Touch) → g ≡ RollBack o j → RollDoes p cap o v u j answer → touch ≡ roll_touch answer
      → u.events ≡ touch_steps g failing touch ++ v.events
  roll_steps_are o j answer touch is does same =
      does.steps ∙ ap (λ (es : List CoreEvent). es ++ v.events) (sym (by_answer answer) ∙ ap (touch_steps (RollBack o j) failing) (sym same) ∙ ap (λ h. touch_steps h failing touch) (sym is))
    where
      by_answer : (r : Rolled) → touch_steps (RollBack o j) failing (roll_touch r) ≡ roll_steps o j r
      by_answer HasRolled = refl
      by_answer (IsFresh x) = refl
      by_answer (Unrolled at w) = refl
