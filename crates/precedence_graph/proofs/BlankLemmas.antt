-- A plan whose bases are all 0, and that it is valid.
use Rattle.std.proofs.Common.{◌≡◌, ℕ, ◌<◌, List, [], ◌∷◌, length, get_or, refl, sym, ap, ◌∙◌, inl, inr, arith, unwrap_or, Some, zero-le, subst, ◌≤◌}
use Rattle.std.specs.Prelude.{All}
use Rattle.std.proofs.lemmas.Bool.{cases_lt, cond_both}
use Rattle.std.proofs.lemmas.List.{get_or_past, get_or_default}
use Rattle.std.proofs.lemmas.List.Elements.{All-head, All-tail}
use Rattle.morph_base.specs.declared.limits.TheConstants.{READS}
use Rattle.morph_base.specs.declared.key.Key.{Key}
use Rattle.morph_base.specs.declared.plan.Origin.{Origin}
use Rattle.morph_base.specs.declared.plan.Origin.TheVariants.{Base, Op as Written}
use Rattle.morph_base.specs.declared.plan.PlanOp.{PlanOp}
use Rattle.morph_base.specs.declared.plan.Plan.{Plan}
use Rattle.morph_base.specs.Operations.{reads, same_key}
use Rattle.morph_base.specs.Plans.{high_of, no_plan_op, op_count, op_at, keys_of, key_at, origin_at, base_in, opening_of, IsPlan}
use Rattle.txn_splitter.specs.declared.txns.Txns.{Txns}
use Rattle.txn_splitter.specs.Txns.{IsTxns, txn_count, txn_op_count}
use Rattle.precedence_graph.specs.Planned.{ArePlanned, AreEventsPlanned}
use Rattle.precedence_graph.proofs.ReadyLemmas.{planned_places}
use Rattle.precedence_graph.proofs.BuiltLemmas.{get_or-replicate_all, padded-at, ops_same, numbering_is, origins_are, sources_is, alike_is, unused_is}

-- if it is a base, it is 0
abbrev pub IsBlank : Origin → Type 0
IsBlank origin = (v : ℕ) → origin ≡ Base v → v ≡ 0

zero_blank : (origin : Origin) → origin ≡ Base 0 → IsBlank origin
zero_blank origin is v its = cc

base_in-zero : (keys : List Key) (origins : List Origin) (key : Key) (d : ℕ) → All IsBlank origins → d ≡ 0 → unwrap_or (base_in keys origins key) d ≡ 0
unfolding base_in
base_in-zero [] origins key d blank none = none
base_in-zero (k ∷ keys) [] key d blank none = none
base_in-zero (k ∷ keys) (Base v ∷ origins) key d blank none =
    cond_both (same_key k key) (Some v) (base_in keys origins key) (λ o. unwrap_or o d ≡ 0) (λ _. All-head IsBlank (Base v) origins blank v refl) (λ _. base_in-zero keys origins key d (All-tail IsBlank (Base v) origins blank) none)
base_in-zero (k ∷ keys) (Written s ∷ origins) key d blank none =
    base_in-zero keys origins key d (All-tail IsBlank (Written s) origins blank) none

opening_of-zero : (ops : List PlanOp) (key : Key) → All (λ q. All IsBlank q.origins) ops → opening_of ops key ≡ 0
unfolding opening_of
opening_of-zero [] key blank = refl
opening_of-zero (q ∷ ops) key blank =
    base_in-zero (reads q.op) q.origins key (opening_of ops key) (All-head (λ r. All IsBlank r.origins) q ops blank) (opening_of-zero ops key (All-tail (λ r. All IsBlank r.origins) q ops blank))

module _ (x : Txns) (is : IsTxns x) (p : Plan) (done : ArePlanned x (txn_op_count x) p.ops.items) (events_done : AreEventsPlanned x p.ops.items (txn_count x) p.events.items) where
  pub blank_is : (o j v : ℕ) → origin_at p o j ≡ Base v → v ≡ 0
  blank_is o j v its =
      elim (cases_lt o (txn_op_count x)) [
        | inl lt ↦ elim (cases_lt j (length (keys_of p o))) [
          | inl inside ↦ let q = done.each o lt in
              q.base_is (key_at p o j) v (sym (ap (λ origins. get_or origins j (Base 0)) (origins_are x is p done events_done o lt) ∙ padded-at q.source (keys_of p o) j inside) ∙ its)
          | inr past ↦ zero_blank (origin_at p o j) (unused_is x is p done events_done o j lt past) v its
        ]
        | inr more ↦
            let many : length p.ops.items ≡ txn_op_count x = done.many in
            let beyond : op_at p o ≡ no_plan_op = get_or_past p.ops.items o no_plan_op (omega arith) in
            zero_blank (origin_at p o j) (ap (λ q. get_or q.origins j (Base 0)) beyond ∙ get_or-replicate_all READS j (Base 0)) v its
      ]

  all_blank : All (λ q. All IsBlank q.origins) p.ops.items
  all_blank k d lt j e inside v its =
      let op : get_or p.ops.items k d ≡ op_at p k = get_or_default p.ops.items k d no_plan_op lt in
      let at : get_or (get_or p.ops.items k d).origins j e ≡ origin_at p k j = get_or_default (get_or p.ops.items k d).origins j e (Base 0) inside ∙ ap (λ q. get_or q.origins j (Base 0)) op in
      blank_is k j v (sym at ∙ its)

  pub plan_is : IsPlan p
  plan_is = record {
    numbering = numbering_is x is p done events_done;
    alike = alike_is x is p done events_done;
    places = λ o lt. planned_places x is p.ops.items done o (within o lt);
    unused = λ o j lt past _. unused_is x is p done events_done o j (within o lt) past;
    sources = λ o j lt inside. sources_is x is p done events_done o j (within o lt) inside;
    bases = λ o j v lt inside its. blank_is o j v its ∙ sym (opening_of-zero p.ops.items (key_at p o j) all_blank);
    small = λ o j v lt inside its. subst (λ n. n ≤ high_of p) (sym (blank_is o j v its)) zero-le;
  }
    where
      within : (o : ℕ) → o < op_count p → o < txn_op_count x
      within o lt = omega (arith, ops_same x is p done events_done)
