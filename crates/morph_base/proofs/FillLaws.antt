-- A plan with its bases filled in from a state: it is a valid plan with the bases of that state, and keeps everything else.
use Rattle.std.proofs.Common.{◌≡◌, ℕ, zero, suc, ◌<◌, ◌≤◌, List, [], ◌∷◌, map, length, take, drop, get_or, not-suc-le-zero, le_of_suc-le-suc, lt_of_lt_of_le, refl, sym, ap, ◌∙◌, subst, All}
use Rattle.std.proofs.Math.Path.{fun_ext, subst₃}
use Rattle.std.proofs.lemmas.List.{length-map, get_or-map, take-map, drop-map}
use Rattle.std.proofs.lemmas.Simd.{map-map}
use Rattle.morph_base.specs.declared.key.Key.{Key}
use Rattle.morph_base.specs.declared.key.Layout.{Layout}
use Rattle.morph_base.specs.declared.operation.Op.{Op}
use Rattle.morph_base.specs.declared.plan.Origin.{Origin}
use Rattle.morph_base.specs.declared.plan.Origin.TheVariants.{Base, Op as Written}
use Rattle.morph_base.specs.declared.plan.PlanOp.{PlanOp}
use Rattle.morph_base.specs.declared.plan.PlanEvent.{PlanEvent}
use Rattle.morph_base.specs.declared.plan.Plan.{Plan}
use Rattle.morph_base.specs.Operations.{reads, no_key, InLayout}
use Rattle.morph_base.specs.Numbering.{IsNumbering}
use Rattle.morph_base.specs.Sources.{IsSource}
use Rattle.morph_base.specs.Transactions.{Transaction}
use Rattle.morph_base.specs.States.{State}
use Rattle.morph_base.specs.OpFills.{with_base}
use Rattle.morph_base.specs.Plans.{IsPlan, high_of, op_count, op_at, event_of, numbers_of, target, keys_of, key_at, origin_at, HasBases, IsSourceIn, PlanKeysIn, no_plan_op, transaction_in, transactions, filled_in, filled, filled_plan}
use Rattle.morph_base.proofs.BaseLaws.{bases-opening}
use Rattle.morph_base.proofs.OutcomeLaws.{keys_fit}

-- ---- places

pub length-filled_in : (s : State) (ks : List Key) (origins : List Origin) → length (filled_in s ks origins) ≡ length origins
unfolding filled_in
length-filled_in s ks [] = refl
length-filled_in s [] (origin ∷ origins) = refl
length-filled_in s (k ∷ ks) (Base v ∷ origins) = ap suc (length-filled_in s ks origins)
length-filled_in s (k ∷ ks) (Written t ∷ origins) = ap suc (length-filled_in s ks origins)

pub filled_in-at : (s : State) (ks : List Key) (origins : List Origin) (j : ℕ) → j < length ks → j < length origins
    → get_or (filled_in s ks origins) j (Base 0) ≡ with_base (s (get_or ks j no_key)) (get_or origins j (Base 0))
unfolding filled_in
filled_in-at s ks [] j lt below = absurd (not-suc-le-zero below)
filled_in-at s [] (origin ∷ origins) j lt below = absurd (not-suc-le-zero lt)
filled_in-at s (k ∷ ks) (Base v ∷ origins) zero lt below = refl
filled_in-at s (k ∷ ks) (Base v ∷ origins) (suc j) lt below = filled_in-at s ks origins j (le_of_suc-le-suc lt) (le_of_suc-le-suc below)
filled_in-at s (k ∷ ks) (Written t ∷ origins) zero lt below = refl
filled_in-at s (k ∷ ks) (Written t ∷ origins) (suc j) lt below = filled_in-at s ks origins j (le_of_suc-le-suc lt) (le_of_suc-le-suc below)

pub filled_in-past : (s : State) (ks : List Key) (origins : List Origin) (j : ℕ) (d : Origin) → length ks ≤ j → get_or (filled_in s ks origins) j d ≡ get_or origins j d
unfolding filled_in
filled_in-past s ks [] j d past = refl
filled_in-past s [] (origin ∷ origins) j d past = refl
filled_in-past s (k ∷ ks) (Base v ∷ origins) zero d past = absurd (not-suc-le-zero past)
filled_in-past s (k ∷ ks) (Base v ∷ origins) (suc j) d past = filled_in-past s ks origins j d (le_of_suc-le-suc past)
filled_in-past s (k ∷ ks) (Written t ∷ origins) zero d past = absurd (not-suc-le-zero past)
filled_in-past s (k ∷ ks) (Written t ∷ origins) (suc j) d past = filled_in-past s ks origins j d (le_of_suc-le-suc past)

-- what a place is but for its base value
abbrev pub shape : Origin → Origin
shape (Base v) = Base 0
shape (Written t) = Written t

pub shapes-filled_in : (s : State) (ks : List Key) (origins : List Origin) → map shape (filled_in s ks origins) ≡ map shape origins
unfolding filled_in
shapes-filled_in s ks [] = refl
shapes-filled_in s [] (origin ∷ origins) = refl
shapes-filled_in s (k ∷ ks) (Base v ∷ origins) = ap (λ (os : List Origin). Base 0 ∷ os) (shapes-filled_in s ks origins)
shapes-filled_in s (k ∷ ks) (Written t ∷ origins) = ap (λ (os : List Origin). Written t ∷ os) (shapes-filled_in s ks origins)

-- ---- the operations

-- a part of the elements that f keeps
pub field_kept : {X Y : Type 0} (f : X → X) (part : X → Y) → ((x : X) → part (f x) ≡ part x) → (xs : List X) (i : ℕ) (d : X) → part (get_or (map f xs) i d) ≡ part (get_or xs i d)
field_kept f part same [] i d = refl
field_kept f part same (x ∷ xs) zero d = same x
field_kept f part same (x ∷ xs) (suc i) d = field_kept f part same xs i d

module _ (s : State) (p : Plan) where
  pub op_count-filled : op_count (filled_plan s p) ≡ op_count p
  op_count-filled = length-map p.ops.items (filled s)

  -- what of an operation filling keeps
  pub op_at-kept : {X : Type 0} (part : PlanOp → X) → ((q : PlanOp) → part (filled s q) ≡ part q) → (o : ℕ) → part (op_at (filled_plan s p) o) ≡ part (op_at p o)
  op_at-kept part same o = field_kept (filled s) part same p.ops.items o no_plan_op

  pub event_of-filled : event_of (filled_plan s p) ≡ event_of p
  event_of-filled = fun_ext (op_at-kept (λ q. q.event) (λ q. refl))

  pub op-filled : ◌≡◌ {A = ℕ → Op} (λ o. (op_at (filled_plan s p) o).op) (λ o. (op_at p o).op)
  op-filled = fun_ext (op_at-kept (λ q. q.op) (λ q. refl))

  pub target-filled : target (filled_plan s p) ≡ target p
  target-filled = fun_ext (op_at-kept (λ q. q.op.key) (λ q. refl))

  pub keys_of-filled : (o : ℕ) → keys_of (filled_plan s p) o ≡ keys_of p o
  keys_of-filled = op_at-kept (λ q. reads q.op) (λ q. refl)

  pub length-origins-filled : (o : ℕ) → length (op_at (filled_plan s p) o).origins ≡ length (op_at p o).origins
  length-origins-filled = op_at-kept (λ q. length q.origins) (λ q. length-filled_in s (reads q.op) q.origins)

  origins-filled : (o : ℕ) → o < op_count p → (op_at (filled_plan s p) o).origins ≡ filled_in s (keys_of p o) (op_at p o).origins
  origins-filled o lt = ap (λ q. q.origins) (get_or-map (filled s) p.ops.items o no_plan_op no_plan_op lt)

  -- a used place has the value of its key, or the source that it had; the others are as they were
  pub origin_at-filled : (o j : ℕ) → o < op_count p → j < length (keys_of p o) → j < length (op_at p o).origins
      → origin_at (filled_plan s p) o j ≡ with_base (s (key_at p o j)) (origin_at p o j)
  origin_at-filled o j lt below inside =
      ap (λ os. get_or os j (Base 0)) (origins-filled o lt) ∙ filled_in-at s (keys_of p o) (op_at p o).origins j below inside

  pub origin_at-unused : (o j : ℕ) → o < op_count p → length (keys_of p o) ≤ j → origin_at (filled_plan s p) o j ≡ origin_at p o j
  origin_at-unused o j lt past =
      ap (λ os. get_or os j (Base 0)) (origins-filled o lt) ∙ filled_in-past s (keys_of p o) (op_at p o).origins j (Base 0) past

  -- ---- a valid plan

  -- the numbering, as far as filling could change it
  abbrev NumberedBy : ℕ → (ℕ → ℕ) → (ℕ → Op) → Type 0
  NumberedBy m event_of op = IsNumbering (numbers_of p) m event_of op

  numbering-filled : NumberedBy (op_count p) (event_of p) (λ o. (op_at p o).op) → NumberedBy (op_count (filled_plan s p)) (event_of (filled_plan s p)) (λ o. (op_at (filled_plan s p) o).op)
  numbering-filled = subst₃ NumberedBy (sym op_count-filled) (sym event_of-filled) (sym op-filled)

  high-filled : high_of (filled_plan s p) ≡ high_of p
  unfolding high_of
  high-filled = ap (λ ops. (ops 0).high) op-filled

  source-filled : (i : ℕ) (key : Key) (origin : Origin) → IsSourceIn p i key origin → IsSourceIn (filled_plan s p) i key (with_base (s key) origin)
  source-filled i key origin is = subst₃ (λ m targets events. IsSource m targets events i key (with_base (s key) origin)) (sym op_count-filled) (sym target-filled) (sym event_of-filled) (in_p origin is)
    where
      in_p : (origin : Origin) → IsSourceIn p i key origin → IsSourceIn p i key (with_base (s key) origin)
      in_p (Base v) is = is
      in_p (Written t) is = is

  module _ (valid : IsPlan p) (small : (key : Key) → s key ≤ high_of p) where
    used_place : (o j : ℕ) → o < op_count p → j < length (keys_of p o) → origin_at (filled_plan s p) o j ≡ with_base (s (key_at p o j)) (origin_at p o j)
    used_place o j lt below = origin_at-filled o j lt below (lt_of_lt_of_le below (keys_fit p o valid lt))

    in_plan : (o : ℕ) → o < op_count (filled_plan s p) → o < op_count p
    in_plan o lt = rw op_count-filled at lt

    in_keys : (o j : ℕ) → j < length (keys_of (filled_plan s p) o) → j < length (keys_of p o)
    in_keys o j below = subst (λ ks. j < length ks) (keys_of-filled o) below

    key_at-filled : (o j : ℕ) → key_at (filled_plan s p) o j ≡ key_at p o j
    key_at-filled o j = ap (λ ks. get_or ks j no_key) (keys_of-filled o)

    pub has_bases-filled : HasBases (filled_plan s p) s
    has_bases-filled o j v lt below is =
        base_value (origin_at p o j) (sym (used_place o j (in_plan o lt) (in_keys o j below)) ∙ is) ∙ ap s (sym (key_at-filled o j))
      where
        base_value : (origin : Origin) → with_base (s (key_at p o j)) origin ≡ Base v → v ≡ s (key_at p o j)
        base_value (Base b) same = cc
        base_value (Written t) same = cc

    places_fit : (o : ℕ) → o < op_count (filled_plan s p) → length (keys_of (filled_plan s p) o) ≤ length (op_at (filled_plan s p) o).origins
    places_fit o lt =
        subst (λ ks. length ks ≤ length (op_at (filled_plan s p) o).origins) (sym (keys_of-filled o))
        (subst (λ n. length (keys_of p o) ≤ n) (sym (length-origins-filled o)) (keys_fit p o valid (in_plan o lt)))

    pub filled_is_plan : IsPlan (filled_plan s p)
    filled_is_plan = record {
      numbering = numbering-filled valid.numbering;
      alike = λ o lt. ap (λ ops. (ops o).high) op-filled ∙ valid.alike o (in_plan o lt) ∙ sym high-filled;
      places = λ o lt. length-origins-filled o ∙ valid.places o (in_plan o lt);
      unused = λ o j lt past few.
          let beyond : length (keys_of p o) ≤ j = subst (λ ks. length ks ≤ j) (keys_of-filled o) past in
          origin_at-unused o j (in_plan o lt) beyond ∙ valid.unused o j (in_plan o lt) beyond few;
      sources = λ o j lt below.
          let inside : j < length (keys_of p o) = in_keys o j below in
          let found = source-filled (event_of p o) (key_at p o j) (origin_at p o j) (valid.sources o j (in_plan o lt) inside) in
          subst₃ (IsSourceIn (filled_plan s p)) (ap (λ events. events o) (sym event_of-filled)) (sym (key_at-filled o j)) (sym (used_place o j (in_plan o lt) inside)) found;
      bases = bases-opening (filled_plan s p) s places_fit has_bases-filled;
      small = λ o j v lt below is.
          subst (λ x. x ≤ high_of (filled_plan s p)) (sym (has_bases-filled o j v lt below is))
          (subst (λ h. s (key_at (filled_plan s p) o j) ≤ h) (sym high-filled) (small (key_at (filled_plan s p) o j)));
    }

-- ---- what filling leaves alone

module _ (s : State) (ops : List PlanOp) where
  transaction-filled : (e : PlanEvent) → transaction_in (map (filled s) ops) e ≡ transaction_in ops e
  transaction-filled e =
      let same : map (λ q. q.op) (take e.count (drop e.first (map (filled s) ops))) ≡ map (λ q. q.op) (take e.count (drop e.first ops)) =
      ap (λ qs. map (λ q. q.op) (take e.count qs)) (drop-map (filled s) e.first ops)
      ∙ ap (map (λ q. q.op)) (take-map (filled s) e.count (drop e.first ops))
      ∙ map-map (λ q. q.op) (filled s) (take e.count (drop e.first ops)) in
      let at_ops : List Op → Transaction = λ given. record { ts = e.ts; ops = given } in
      ap at_ops same

pub transactions-filled : (s : State) (p : Plan) → transactions (filled_plan s p) ≡ transactions p
transactions-filled s p = ap (λ f. map f p.events.items) (fun_ext (transaction-filled s p.ops.items))

pub keys_in-filled : (s : State) (p : Plan) (layout : Layout) → PlanKeysIn p layout → PlanKeysIn (filled_plan s p) layout
keys_in-filled s p layout inside o lt = subst (All (InLayout layout)) (sym (keys_of-filled s p o)) (inside o (subst (λ n. o < n) (op_count-filled s p) lt))
