-- How a cascade goes on from one target to the next
use Rattle.std.specs.Prelude.{◌≡◌, [], ◌∷◌, Option, Some, None}
use Rattle.morph_base.specs.declared.plan.Plan.{Plan}
use Rattle.abort_eager.specs.declared.answers.Target.{Target}
use Rattle.abort_eager.specs.declared.cascade.Cascade.{Cascade}
use Rattle.abort_eager.specs.Targets.{targets_left, left_siblings, left_places, IsCascade, IsTarget}

module _ (p : Plan) (a b : Cascade) where
  -- Cascade b is of the plan, and of the same operation as cascade a
  pub record GoesOn : Type 0 where
    pub cascade : IsCascade p b
    pub op : b.op ≡ a.op
    pub failed : b.failed ≡ a.failed

  -- The first target that was left was taken
  pub record IsPopped (t : Target) : Type 0 where
    pub left : targets_left p a ≡ t ∷ targets_left p b
    pub inside : IsTarget p a.op a.failed t

  -- No target was left
  pub record IsOver : Type 0 where
    pub before : targets_left p a ≡ []
    pub after : targets_left p b ≡ []

  -- The first target that was left was taken and is the answer, or none was left
  abbrev pub Pops : Option Target → Type 0
  Pops None = IsOver
  Pops (Some t) = IsPopped t

  -- The first place that was left was taken
  pub record IsPlacePopped (t : Target) : Type 0 where
    pub left : left_places p a ≡ t ∷ left_places p b
    pub inside : IsTarget p a.op a.failed t

  -- No place was left
  pub record IsPlaceOver : Type 0 where
    pub before : left_places p a ≡ []
    pub after : left_places p b ≡ []

  -- The first place that was left was taken and is the answer, or none was left
  abbrev pub PlaceIsPopped : Option Target → Type 0
  PlaceIsPopped None = IsPlaceOver
  PlaceIsPopped (Some t) = IsPlacePopped t

  -- The next place was taken and is the answer, and the siblings that are left stayed as they were
  pub record PlacePops (r : Option Target) : Type 0 where
    pub goes : GoesOn
    pub siblings : left_siblings p b ≡ left_siblings p a
    pub tells : PlaceIsPopped r
