-- A worker that goes over all levels by itself, part by part.
use Rattle.std.proofs.Common.{◌≡◌, ◌≢◌, ◌⊎◌, ℕ, suc, ◌+◌, ◌*◌, ◌/◌, ◌%◌, ◌<◌, ◌≤◌, List, length, refl, sym, ap, ◌∙◌, subst, inl, inr, arith}
use Rattle.std.proofs.lemmas.Bool.{cases_lt}
use Rattle.morph_base.specs.declared.strategy.Abort.TheVariants.{Lazy}
use Rattle.morph_base.specs.Plans.{IsPlan}
use Rattle.op_eval.specs.declared.runner.Runner.{Runner}
use Rattle.op_eval.specs.Exploring.{Unused, RunRules}
use Rattle.op_eval.specs.Further.{IsFurther}
use Rattle.op_eval.specs.Turns.{IsEnough}
use Rattle.op_eval.proofs.Further.{further_then, same_further}
use Rattle.abort_eager.specs.Sweeps.{IsLike}
use Rattle.worker_gate.specs.declared.parts.Shares.{Shares}
use Rattle.worker_gate.specs.Parts.{AreShares, part_at, part_counter, part_items}
use Rattle.worker_gate.specs.Stages.{InStages}
use Rattle.worker_gate.proofs.Cutting.{one_part}
use Rattle.worker_gate.proofs.Ordering.{at_apart, at_inside, counter_again, counter_apart, counter_below, counter_inside, counter_next, parted_is, stage_below, turn_for}
use Rattle.worker_gate.proofs.Stages.{stages_keep, stages_make, stages_one, stages_rise, stages_single}
use Rattle.strata_explorer.specs.Levels.{ops_of, AreLevels, HasReached, IsLoneStrata}
use Rattle.strata_explorer.specs.Parts.{parted_ops, DoesLevel, DoesPart, DoesTurn, GoesOver}
use Rattle.strata_explorer.proofs.Lone.{lone_more_levels}
use Rattle.strata_explorer.proofs.Parting.{part_from, part_further, part_reached, part_saw, part_unused}

-- before this turn at a level the worker took no number from the counters of the turns to come, nor of the levels above
pub record IsUnusedFrom (shares : Shares) (number level turn : ℕ) (r : Runner) : Type 0 where
  pub coming : (t : ℕ) → turn ≤ t → t < shares.parts → Unused (part_counter shares.parts level (part_at shares number t)) r
  pub above : (c : ℕ) → (level + 1) * shares.parts ≤ c → Unused c r

module _ (rules : RunRules) (shares : Shares) (are : AreShares shares) (number : ℕ) where
  -- ---- a level

  pub unused_first : (level : ℕ) (r : Runner) → ((c : ℕ) → level * shares.parts ≤ c → Unused c r) → IsUnusedFrom shares number level 0 r
  unused_first level r unused = record {
    coming = λ t from lt. unused (part_counter shares.parts level (part_at shares number t)) (omega arith);
    above = λ c above. unused c (let more = one_more level shares.parts in omega (arith, above, more));
  }
    where
      one_more : (l n : ℕ) → (l + 1) * n ≡ l * n + n
      one_more l n = grind arith

  pub unused_next : (level turn : ℕ) (a b : Runner) → turn < shares.parts → IsUnusedFrom shares number level turn a → DoesTurn rules shares number level turn a b → IsUnusedFrom shares number level (turn + 1) b
  unused_next level turn a b lt unused does = record {
    coming = λ t from less. part_unused rules _ _ _ number a b does (part_counter shares.parts level (part_at shares number t)) (other t from less) (unused.coming t (omega (arith, from)) less);
    above = λ c above. part_unused rules _ _ _ number a b does c (higher c above) (unused.above c above);
  }
    where
      other : (t : ℕ) → turn + 1 ≤ t → t < shares.parts → part_counter shares.parts level (part_at shares number t) ≢ part_counter shares.parts level (part_at shares number turn)
      other t from less same =
          let part = (counter_apart shares.parts level (part_at shares number t) level (part_at shares number turn) (at_inside shares are number t) (at_inside shares are number turn) same).1 in
          let is = at_apart shares are number t turn less lt part in
          absurd (omega (arith, from, is))

      higher : (c : ℕ) → (level + 1) * shares.parts ≤ c → c ≢ part_counter shares.parts level (part_at shares number turn)
      higher c above same = let next = counter_next shares.parts level (part_at shares number turn) (at_inside shares are number turn) in absurd (omega (arith, above, same, next))

  -- after a level the counters of those above are unused
  pub level_unused : (level : ℕ) (a b : Runner) → ((c : ℕ) → level * shares.parts ≤ c → Unused c a) → DoesLevel rules shares number level a b → (c : ℕ) → (level + 1) * shares.parts ≤ c → Unused c b
  level_unused level a b unused does =
      let end : IsUnusedFrom shares number level shares.parts b =
      stages_rise (DoesTurn rules shares number level) (IsUnusedFrom shares number level) shares.parts
      (λ s x y lt before turn. subst (λ n. IsUnusedFrom shares number level n y) (next s) (unused_next level s x y lt before turn)) a b (unused_first level a unused) does in
      end.above
    where
      next : (s : ℕ) → s + 1 ≡ suc s
      next s = omega arith

  -- the same before the worker looked ahead, which it does only if there is one part
  pub level_from : (level : ℕ) (a from b : Runner) → ((c : ℕ) → level * shares.parts ≤ c → Unused c a) → IsLike a from
      → ((0 < number) ⊎ (1 < shares.parts) ⊎ (length (ops_of rules.plan level) ≡ 0) → from ≡ a) → DoesLevel rules shares number level from b → DoesLevel rules shares number level a b
  level_from level a from b unused like same does =
      elim (cases_lt 1 shares.parts) [
        | inl several ↦ subst (λ r. DoesLevel rules shares number level r b) (same (inr (inl several))) does
        | inr one ↦
            let some = are.some in
            let is : shares.parts ≡ 1 = omega (arith, one, some) in
            alone is
      ]
    where
      alone : shares.parts ≡ 1 → DoesLevel rules shares number level a b
      alone is =
          let here : part_at shares number 0 ≡ 0 = (let inside = at_inside shares are number 0 in omega (arith, inside, is)) in
          let whole : part_items (ops_of rules.plan level) shares.parts (part_at shares number 0) ≡ ops_of rules.plan level =
          ap (λ n. part_items (ops_of rules.plan level) n (part_at shares number 0)) is ∙ ap (part_items (ops_of rules.plan level) 1) here ∙ one_part (ops_of rules.plan level) in
          let turn = stages_single (DoesTurn rules shares number level) from b (subst (λ n. InStages (DoesTurn rules shares number level) n from b) is does) in
          subst (λ n. InStages (DoesTurn rules shares number level) n a b) (sym is)
          (stages_one (DoesTurn rules shares number level) a b
          (part_from rules (part_counter shares.parts level (part_at shares number 0)) (part_items (ops_of rules.plan level) shares.parts (part_at shares number 0)) (length (ops_of rules.plan level)) number a from b
          (unused (part_counter shares.parts level (part_at shares number 0)) (omega arith)) like (still whole) turn))
        where
          still : part_items (ops_of rules.plan level) shares.parts (part_at shares number 0) ≡ ops_of rules.plan level → (0 < number) ⊎ (length (part_items (ops_of rules.plan level) shares.parts (part_at shares number 0)) ≡ 0) → from ≡ a
          still whole (inl above) = same (inl above)
          still whole (inr none) = same (inr (inr (sym (ap (λ (os : List ℕ). length os) whole) ∙ none)))

  -- ---- all levels

  -- what each part keeps
  pub going_keeps : (P : Runner → Type 0) (n : ℕ) → ((level turn : ℕ) (x y : Runner) → level < n → turn < shares.parts → P x → DoesTurn rules shares number level turn x y → P y) → (a b : Runner) → P a → GoesOver rules shares number n a b → P b
  going_keeps P n keeps = stages_keep (DoesLevel rules shares number) P n (λ s x y lt. stages_keep (DoesTurn rules shares number s) P shares.parts (λ t v w less. keeps s t v w lt less) x y)

  -- what one part makes, and each part keeps
  pub going_makes : (P : Runner → Type 0) (n level turn : ℕ) → level < n → turn < shares.parts → ((x y : Runner) → DoesTurn rules shares number level turn x y → P y)
      → ((l t : ℕ) (x y : Runner) → l < n → t < shares.parts → P x → DoesTurn rules shares number l t x y → P y) → (a b : Runner) → GoesOver rules shares number n a b → P b
  going_makes P n level turn lt less makes keeps =
      stages_make (DoesLevel rules shares number) P n level lt
      (λ x y. stages_make (DoesTurn rules shares number level) P shares.parts turn less makes (λ t v w small. keeps level t v w lt small) x y)
      (λ s x y low. stages_keep (DoesTurn rules shares number s) P shares.parts (λ t v w small. keeps s t v w low small) x y)

  pub going_further : (n : ℕ) (a b : Runner) → GoesOver rules shares number n a b → IsFurther a b
  going_further n a b = going_keeps (IsFurther a) n (λ level turn x y _ _ old does. further_then a x y old (part_further rules _ _ _ number x y does)) a b (same_further a a refl)

  module _ (levels : ℕ) where
    low : (level turn : ℕ) → level < levels → turn < shares.parts → part_counter shares.parts level (part_at shares number turn) < levels * shares.parts
    low level turn lt less = counter_below shares.parts level levels (part_at shares number turn) lt (at_inside shares are number turn)

    ops_are : (level turn : ℕ) → parted_ops rules.plan shares.parts (part_counter shares.parts level (part_at shares number turn)) ≡ part_items (ops_of rules.plan level) shares.parts (part_at shares number turn)
    ops_are level turn = parted_is shares.parts (ops_of rules.plan) level (part_at shares number turn) (at_inside shares are number turn)

    pub going_reached : (a b : Runner) → GoesOver rules shares number levels a b → HasReached rules.plan (levels * shares.parts) (parted_ops rules.plan shares.parts) a → HasReached rules.plan (levels * shares.parts) (parted_ops rules.plan shares.parts) b
    going_reached a b over begins =
        going_keeps (HasReached rules.plan (levels * shares.parts) (parted_ops rules.plan shares.parts)) levels
        (λ level turn x y lt less old does. part_reached rules _ _ _ number (parted_ops rules.plan shares.parts) (levels * shares.parts) x y (low level turn lt less) (ops_are level turn) does old)
        a b begins over

    -- the first worker saw each counter run out
    pub first_saw : number ≡ 0 → (a b : Runner) → GoesOver rules shares number levels a b → (c : ℕ) → c < levels * shares.parts → IsEnough c (length (parted_ops rules.plan shares.parts c)) b
    first_saw first a b over c lt =
        let some : 0 < shares.parts = (let is = are.some in omega (arith, is)) in
        let part = turn_for shares are number (c % shares.parts) (counter_inside shares.parts c some) in
        let same : part_counter shares.parts (c / shares.parts) (part_at shares number part.0) ≡ c = ap (part_counter shares.parts (c / shares.parts)) part.2 ∙ counter_again shares.parts c in
        going_makes (IsEnough c (length (parted_ops rules.plan shares.parts c))) levels (c / shares.parts) part.0 (stage_below shares.parts c levels some lt) part.1
        (λ x y does.
        subst (λ k. IsEnough k (length (parted_ops rules.plan shares.parts k)) y) same
        (subst (λ os. IsEnough (part_counter shares.parts (c / shares.parts) (part_at shares number part.0)) (length os) y) (sym (ops_are (c / shares.parts) part.0)) (does.takes_part (inl first)).2))
        (λ l t x y _ _ saw does. part_saw rules _ _ _ number c (length (parted_ops rules.plan shares.parts c)) x y does saw) a b over

-- ---- a lone worker

-- there is one part then, and each level is gone over by itself
module _ (rules : RunRules) (lazy : rules.abort ≡ Lazy) (valid : IsPlan rules.plan) (some : 1 ≤ rules.cap) (levels : AreLevels rules.plan) (shares : Shares) (are : AreShares shares) (one : shares.parts ≡ 1) where
  record IsClimbingAlone (level : ℕ) (r : Runner) : Type 0 where
    alone : IsLoneStrata rules.plan level r
    unused : (c : ℕ) → level * shares.parts ≤ c → Unused c r

  one_more : (level : ℕ) (a b : Runner) → IsClimbingAlone level a → DoesLevel rules shares 0 level a b → IsClimbingAlone (suc level) b
  one_more level a b old does = record {
    alone =
        let here : part_at shares 0 0 ≡ 0 = (let inside = at_inside shares are 0 0 in omega (arith, inside, one)) in
        let whole : part_items (ops_of rules.plan level) shares.parts (part_at shares 0 0) ≡ ops_of rules.plan level =
        ap (λ n. part_items (ops_of rules.plan level) n (part_at shares 0 0)) one ∙ ap (part_items (ops_of rules.plan level) 1) here ∙ one_part (ops_of rules.plan level) in
        let counter : ℕ = part_counter shares.parts level (part_at shares 0 0) in
        let turn = stages_single (DoesTurn rules shares 0 level) a b (subst (λ n. InStages (DoesTurn rules shares 0 level) n a b) one does) in
        let did = subst (λ os. DoesPart rules counter os (length (ops_of rules.plan level)) 0 a b) whole turn in
        let took = did.takes_part (inl refl) in
        subst (λ n. IsLoneStrata rules.plan n b) (next level) (lone_more_levels rules lazy valid some levels counter level a b old.alone (old.unused counter (omega arith)) took.0 took.2);
    unused = λ c above. level_unused rules shares are 0 level a b old.unused does c (subst (λ n. n * shares.parts ≤ c) (sym (next level)) above);
  }
    where
      next : (n : ℕ) → n + 1 ≡ suc n
      next n = omega arith

  pub gone_alone : (n : ℕ) (a b : Runner) → ((c : ℕ) → Unused c a) → IsLoneStrata rules.plan 0 a → GoesOver rules shares 0 n a b → IsLoneStrata rules.plan n b
  gone_alone n a b unused begins over =
      (stages_rise (DoesLevel rules shares 0) IsClimbingAlone n (λ s x y lt. one_more s x y) a b (record { alone = begins; unused = λ c above. unused c }) over).alone
