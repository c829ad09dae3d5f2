-- Stages that a worker goes through by itself: what they make, and what they keep.
use Rattle.std.proofs.Common.{◌≡◌, ℕ, zero, suc, ◌<◌, refl, sym, subst, inl, inr, arith}
use Rattle.std.proofs.lemmas.Bool.{cases_eq}
use Rattle.worker_gate.specs.Stages.{InStages}

module _ {W : Type 0} (does : ℕ → W → W → Type 0) where
  -- after no stage a worker is as it began
  pub stages_none : (a : W) → InStages does zero a a
  unfolding InStages
  stages_none a = refl

  pub stages_none_same : (a b : W) → InStages does zero a b → b ≡ a
  unfolding InStages
  stages_none_same a b stages = stages

  -- a stage more
  pub stages_more : (s : ℕ) (a m b : W) → InStages does s a m → does s m b → InStages does (suc s) a b
  unfolding InStages
  stages_more s a m b stages did = (m, stages, did)

  -- and back
  pub stages_last : (s : ℕ) (a b : W) → InStages does (suc s) a b → (m : W) × InStages does s a m × does s m b
  unfolding InStages
  stages_last s a b stages = stages

  -- one stage
  pub stages_one : (a b : W) → does 0 a b → InStages does 1 a b
  stages_one a b did = stages_more 0 a a b (stages_none a) did

  pub stages_single : (a b : W) → InStages does 1 a b → does 0 a b
  stages_single a b stages =
      let last = stages_last 0 a b stages in
      subst (λ m. does 0 m b) (stages_none_same a last.0 last.1) last.2

  -- what rises with each stage
  pub stages_rise : (P : ℕ → W → Type 0) (n : ℕ) → ((s : ℕ) (x y : W) → s < n → P s x → does s x y → P (suc s) y) → (a b : W) → P 0 a → InStages does n a b → P n b
  stages_rise P zero rises a b begins stages = subst (P 0) (sym (stages_none_same a b stages)) begins
  stages_rise P (suc n) rises a b begins stages =
      let last = stages_last n a b stages in
      rises n last.0 b (omega arith) (stages_rise P n (λ s x y lt. rises s x y (omega (arith, lt))) a last.0 begins last.1) last.2

  -- what each stage keeps
  pub stages_keep : (P : W → Type 0) (n : ℕ) → ((s : ℕ) (x y : W) → s < n → P x → does s x y → P y) → (a b : W) → P a → InStages does n a b → P b
  stages_keep P n keeps = stages_rise (λ s. P) n keeps

  -- what one stage makes, and each stage keeps
  pub stages_make : (P : W → Type 0) (n t : ℕ) → t < n → ((x y : W) → does t x y → P y) → ((s : ℕ) (x y : W) → s < n → P x → does s x y → P y) → (a b : W) → InStages does n a b → P b
  stages_make P zero t lt makes keeps a b stages = absurd (omega (arith, lt))
  stages_make P (suc n) t lt makes keeps a b stages =
      let last = stages_last n a b stages in
      elim (cases_eq t n) [
        | inl same ↦ makes last.0 b (subst (λ k. does k last.0 b) (sym same) last.2)
        | inr other ↦ keeps n last.0 b (omega arith) (stages_make P n t (omega (arith, lt, other)) makes (λ s x y less. keeps s x y (omega (arith, less))) a last.0 last.1) last.2
      ]
