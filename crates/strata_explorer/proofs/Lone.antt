-- A lone root explores by levels.
use Rattle.std.proofs.Common.{◌≡◌, ◌≢◌, ℕ, ◌+◌, ◌<◌, ◌≤◌, cond, eqb, List, [], ◌∷◌, length, sym, ap, ◌∙◌, subst, inl, inr, arith}
use Rattle.std.specs.Prelude.{Contains, slice_index_or}
use Rattle.std.proofs.lemmas.Bool.{cases_eq}
use Rattle.std.proofs.lemmas.List.Sums.{sum_by-append}
use Rattle.morph_base.specs.declared.plan.Plan.{Plan}
use Rattle.morph_base.specs.declared.strategy.Abort.TheVariants.{Lazy}
use Rattle.morph_base.specs.Plans.{IsPlan, op_count}
use Rattle.op_words.specs.declared.trail.Place.{Place}
use Rattle.op_words.specs.declared.trail.View.{View}
use Rattle.op_words.specs.Trails.{IsSourceOf, ComeFirst, last_word}
use Rattle.op_words.specs.Views.{IsLone}
use Rattle.op_eval.specs.declared.runner.Runner.{Runner}
use Rattle.op_words.specs.Counting.{times, place}
use Rattle.op_eval.specs.Running.{hand_view}
use Rattle.op_words.proofs.Trailing.{last-none}
use Rattle.interleaving_core.specs.Core.{blocked}
use Rattle.op_eval.specs.Alone.{Ran, IsNewRoot, HasRunAll}
use Rattle.op_eval.proofs.Alone.{IsBegun, come_first, explores, keeps_ran, runs_it}
use Rattle.op_eval.proofs.Elements.{contains_first, contains_later, contains_cases}
use Rattle.op_eval.specs.Turns.{IsEnough, TakingCall, Took, Tried}
use Rattle.op_eval.proofs.Turns.{times_one, only_later}
use Rattle.strata_explorer.specs.Calls.{MakesPassCalls}
use Rattle.strata_explorer.specs.Passes.{Worked}
use Rattle.strata_explorer.specs.Levels.{ops_of, op_of, AreLevels, IsLoneStrata, IsAlone}
use Rattle.op_eval.specs.Exploring.{RunRules}
use Rattle.abort_eager.proofs.Exploring.{further_lone}
use Rattle.abort_eager.proofs.Sweeping.{attempted, lazy_tries}
use Rattle.strata_explorer.proofs.Further.{calls_further}
use Rattle.strata_explorer.proofs.Turning.{times_some}
use Rattle.strata_explorer.proofs.Running.{calls_places}

pub calls_lone : (rules : RunRules) (cs : List TakingCall) (a b : Runner) → MakesPassCalls rules cs a b → IsLone (hand_view a) → IsLone (hand_view b)
calls_lone rules cs a b calls lone = further_lone (calls_further rules cs a b calls) lone

-- the numbers that it takes from a counter are those from 0 on
pub lone_takes : (rules : RunRules) (l : ℕ) (cs : List TakingCall) (a b : Runner) → IsLone (hand_view a) → times l (hand_view a).places ≡ 0 → ((k n : ℕ) → Contains cs (Took k n) → k ≡ l) → MakesPassCalls rules cs a b
    → ((m : ℕ) → m < times l (hand_view b).places → Contains cs (Took l m)) × ((m : ℕ) → Contains cs (Took l m) → m < times l (hand_view b).places)
lone_takes rules l [] a b lone none only calls =
    let e : times l (hand_view b).places ≡ times l (hand_view a).places = ap (λ r. times l (hand_view r).places) calls in
    (λ m lt. absurd (omega arith), λ m found. absurd (omega (arith, found.1)))
lone_takes rules l (Took k n ∷ cs) a b lone none only calls =
    let same : k ≡ l = only k n (contains_first (Took k n) cs) in
    let before = lone_takes rules l cs a calls.0 lone none (only_later l (Took k n) cs only) calls.1 in
    let is : n ≡ times k (hand_view calls.0).places = calls.2.takes.lone (calls_lone rules cs a calls.0 calls.1 lone) in
    let here : n ≡ times l (hand_view calls.0).places = is ∙ ap (λ j. times j (hand_view calls.0).places) same in
    let now : times l (hand_view b).places ≡ times l (hand_view calls.0).places + 1 =
    ap (λ (v : View). times l v.places) calls.2.view
    ∙ sum_by-append (λ (x : Place). cond (eqb x.counter l) 1 0) (hand_view calls.0).places (place k n ∷ [])
    ∙ ap (λ j. times l (hand_view calls.0).places + times l (place j n ∷ [])) same
    ∙ ap (λ j. times l (hand_view calls.0).places + j) (times_one l n) in (
      λ m lt.
          elim (cases_eq m (times l (hand_view calls.0).places)) [
            | inl last ↦ subst (λ x. Contains (Took k n ∷ cs) x) (ap (λ j. Took j n) same ∙ ap (Took l) (here ∙ sym last)) (contains_first (Took k n) cs)
            | inr other ↦ contains_later (Took k n) cs (Took l m) (before.0 m (omega arith))
          ],
      λ m found.
          elim (contains_cases (Took k n) cs (Took l m) found) [
            | inl this ↦ let e : m ≡ n = number_is this in omega arith
            | inr later ↦ let less = before.1 m later in omega arith
          ],
    )
  where
    number_is : {m : ℕ} → Took l m ≡ Took k n → m ≡ n
    number_is e = cc
lone_takes rules l (Tried q ∷ cs) a b lone none only calls =
    let does = attempted rules q calls.0 b calls.2 in
    let before = lone_takes rules l cs a calls.0 lone none (only_later l (Tried q) cs only) calls.1 in
    let now : times l (hand_view b).places ≡ times l (hand_view calls.0).places = ap (times l) does.goes.adds.places in (
      λ m lt. contains_later (Tried q) cs (Took l m) (before.0 m (omega arith)),
      λ m found.
          elim (contains_cases (Tried q) cs (Took l m) found) [
            | inl this ↦ absurd (apart this)
            | inr later ↦ let less = before.1 m later in omega arith
          ],
    )
  where
    apart : {m : ℕ} → Took l m ≡ Tried q → ⊥
    apart e = cc

-- so where it saw the counter at the end, it tried each operation of the pass
pub lone_tries : (rules : RunRules) (l : ℕ) (ops : List ℕ) (a b : Runner) → IsLone (hand_view a) → times l (hand_view a).places ≡ 0 → (worked : Worked rules l ops a b) → IsEnough l (length ops) b → (n : ℕ) → n < length ops → Contains worked.calls (Tried (slice_index_or ops n 0))
lone_tries rules l ops a b lone none worked enough n less =
    let takes = lone_takes rules l worked.calls a b lone none worked.only worked.made in
    elim enough [
      | inl empty ↦ absurd (omega arith)
      | inr last ↦
          elim (calls_places rules worked.calls a b worked.made l last.0 last.1) [
            | inl before ↦ let one = times_some l last.0 (hand_view a).places before in absurd (omega arith)
            | inr took ↦
                let high : last.0 < times l (hand_view b).places = takes.1 last.0 took in
                let past : length ops ≤ last.0 + 1 = last.2 in
                worked.tried n (takes.0 n (omega arith)) less
          ]
    ]

-- ---- what it evaluates, under lazy

module _ (rules : RunRules) (lazy : rules.abort ≡ Lazy) (valid : IsPlan rules.plan) (some : 1 ≤ rules.cap) where
  pub lone_calls : (cs : List TakingCall) (a b : Runner) → IsLone (hand_view a) → IsBegun (hand_view a).trail → MakesPassCalls rules cs a b
      → IsBegun (hand_view b).trail × ((k : ℕ) → Ran (hand_view a).trail k → Ran (hand_view b).trail k) × ((o : ℕ) → Contains cs (Tried o) → ((s : ℕ) → IsSourceOf rules.plan o s → Ran (hand_view a).trail s) → Ran (hand_view b).trail o)
  lone_calls [] a b lone exploring calls = (
    subst (λ r. IsBegun (hand_view r).trail) (sym calls) exploring,
    λ k ran. subst (λ r. Ran (hand_view r).trail k) (sym calls) ran,
    λ o found. absurd (omega (arith, found.1)),
  )
  lone_calls (Took c n ∷ cs) a b lone exploring calls =
      let before = lone_calls cs a calls.0 lone exploring calls.1 in (
        subst (λ (v : View). IsBegun v.trail) (sym calls.2.view) before.0,
        λ k ran. subst (λ (v : View). Ran v.trail k) (sym calls.2.view) (before.1 k ran),
        λ o found sources.
            elim (contains_cases (Took c n) cs (Tried o) found) [
              | inl this ↦ absurd (apart this)
              | inr later ↦ subst (λ (v : View). Ran v.trail o) (sym calls.2.view) (before.2 o later sources)
            ],
      )
    where
      apart : {o : ℕ} → Tried o ≡ Took c n → ⊥
      apart e = cc
  lone_calls (Tried q ∷ cs) a b lone exploring calls =
      let before = lone_calls cs a calls.0 lone exploring calls.1 in
      let tries = lazy_tries rules lazy q calls.0 b calls.2 in
      let does = tries.1.does in
      let first : ComeFirst rules.plan q = come_first rules.plan q valid tries.1.in_range in
      let root : IsLone (hand_view calls.0) = calls_lone rules cs a calls.0 calls.1 lone in (
        record { each = explores root first some before.0 tries.0 does },
        λ k ran. keeps_ran root first some before.0 tries.0 does k (before.1 k ran),
        λ o found sources.
            elim (contains_cases (Tried q) cs (Tried o) found) [
              | inl this ↦
                  subst (Ran (hand_view b).trail) (sym (op_is this))
                  (runs_it root first some before.0 tries.0 does (λ s source. before.1 s (sources s (subst (λ j. IsSourceOf rules.plan j s) (sym (op_is this)) source))))
              | inr later ↦ keeps_ran root first some before.0 tries.0 does o (before.2 o later sources)
            ],
      )
    where
      op_is : {o : ℕ} → Tried o ≡ Tried q → o ≡ q
      op_is e = cc

  pub lone_more_levels : AreLevels rules.plan → (c l : ℕ) (a b : Runner) → IsLoneStrata rules.plan l a → times c (hand_view a).places ≡ 0 → Worked rules c (ops_of rules.plan l) a b → IsEnough c (length (ops_of rules.plan l)) b → IsLoneStrata rules.plan (l + 1) b
  lone_more_levels levels c l a b alone none worked enough =
      let calls = lone_calls worked.calls a b alone.lone (record { each = alone.exploring }) worked.made in
      record {
        lone = calls_lone rules worked.calls a b worked.made alone.lone;
        exploring = calls.0.each;
        ran = λ k n below less.
            elim (cases_eq k l) [
              | inr other ↦ calls.1 (op_of rules.plan k n) (alone.ran k n (lower k below other) less)
              | inl same ↦
                  let here : n < length (ops_of rules.plan l) = subst (λ j. n < length (ops_of rules.plan j)) same less in
                  subst (λ j. Ran (hand_view b).trail (op_of rules.plan j n)) (sym same)
                  (calls.2 (op_of rules.plan l n) (lone_tries rules c (ops_of rules.plan l) a b alone.lone none worked enough n here)
                  (λ s source.
                  let at = levels.sources l n s here source in
                  subst (Ran (hand_view a).trail) at.4 (alone.ran at.0 at.1 at.2 at.3)))
            ];
      }
    where
      lower : (k : ℕ) → k < l + 1 → k ≢ l → k < l
      lower k below other = omega arith

-- in the end every word is executed or failed at attempt 1
pub lone_all_ran : (p : Plan) → AreLevels p → (r : Runner) → IsLoneStrata p (length p.op_levels.items) r → (o : ℕ) → o < op_count p → Ran (hand_view r).trail o
lone_all_ran p levels r alone o lt =
    let at = levels.all o lt in
    subst (Ran (hand_view r).trail) at.4 (alone.ran at.0 at.1 at.2 at.3)

pub lone_root_ran : (p : Plan) → AreLevels p → (start rs : List Runner) → IsNewRoot start → IsAlone p (length p.op_levels.items) start rs → HasRunAll p rs
lone_root_ran p levels start rs root alone d o lt = lone_all_ran p levels (slice_index_or rs 0 d) (alone root.one d begins) o lt
  where
    begins : IsLoneStrata p 0 (slice_index_or start 0 d)
    begins = record {
      lone = root.lone d;
      exploring = λ o. inl (ap (last_word o (blocked 1)) (root.fresh d) ∙ last-none o (blocked 1));
      ran = λ l n below less. absurd (omega arith);
    }
