-- What the table tells of a view, in each lawful state.
use Rattle.std.proofs.Common.{◌≡◌, ◌≢◌, ◌⊎◌, ℕ, zero, suc, ◌+◌, ◌<◌, ◌≤◌, false, cond, eqb, ◌&&◌, List, length, refl, sym, ap, ◌∙◌, subst, inl, inr, arith, Some}
use Rattle.std.specs.Prelude.{Contains, sum_by, ◌==◌}
use Rattle.std.proofs.lemmas.Bool.{cases_Bool, cases_lt, eq-eqb, and_from}
use Rattle.std.proofs.lemmas.Option.{none-some}
use mathlib.Core.Option.{some}
use lib.ListN.{get_elem?}
use Rattle.morph_base.specs.declared.plan.Plan.{Plan}
use Rattle.morph_base.specs.declared.word.OpState.TheVariants.{Claimed}
use Rattle.morph_base.specs.declared.word.OpWord.{OpWord}
use Rattle.morph_base.specs.Plans.{op_count}
use Rattle.morph_base.specs.Words.{is_idle}
use Rattle.interleaving_core.specs.declared.entry.Entry.{Entry}
use Rattle.interleaving_core.specs.declared.entry.Held.{Held}
use Rattle.interleaving_core.specs.Core.{entries_at}
use Rattle.interleaving_core.specs.Steps.{Run}
use Rattle.interleaving_core.specs.Soundness.{IsSoundAt}
use Rattle.interleaving_core.proofs.Basics.{count_some, entries-none}
use Rattle.op_words.specs.declared.trail.Item.{Item}
use Rattle.op_words.specs.declared.trail.View.{View}
use Rattle.op_words.specs.Trails.{loaded, IsSteadyAt, IsCalmAt}
use Rattle.op_words.specs.Views.{Agrees, IsApart, IsFresh, IsLone, IsPresent}
use Rattle.op_words.specs.Rule.{Seats, live, Knows, Lawful}
use Rattle.op_words.specs.Plays.{IsTold}
use Rattle.op_words.proofs.Rows.{sum_has}

module _ {p : Plan} {cap counters : ℕ} (s : Seats) (lawful : Lawful p cap counters s) (i : ℕ) (v : View) (at : get_elem? s.views i ≡ some (Some v)) where
  knows : Knows p cap lawful.core (length s.views) i v
  knows = lawful.hands i v at

  -- a lone root is the only seat
  pub lone_single : IsLone v → (i ≡ 0) × (length s.views ≡ 1)
  lone_single is =
      let first : i ≡ 0 = let a = knows.tag in let b = is.root in omega (arith, a, b) in
      (first, sym (knows.root first) ∙ is.alone)

  -- nobody but a lone root holds anything
  pub lone_claims : IsLone v → (t : ℕ) (h : Held) → lawful.core.claim t ≡ Some h → v.claim ≡ Some h
  lone_claims is zero h claim = absurd (none-some h (sym lawful.no_worker ∙ claim))
  lone_claims is (suc zero) h claim = let l = lone_single is in sym knows.claim ∙ ap (λ (n : ℕ). lawful.core.claim (n + 1)) l.0 ∙ claim
  lone_claims is (suc (suc t)) h claim = let l = lone_single is in absurd (none-some h (sym (lawful.nobody (suc (suc t)) (omega (arith, l.1))) ∙ claim))

  pub agrees : Agrees v
  agrees a b first second same one two = sym ((knows.noted.notes a first).settled one) ∙ ap lawful.core.word same ∙ (knows.noted.notes b second).settled two

  pub told : IsTold v
  told = record {
    agree = agrees;
    noted = record { each = knows.trail.each };
    done = λ is.
        let l = lone_single is in
        let here : get_elem? s.views 0 ≡ some (Some v) = subst (λ k. get_elem? s.views k ≡ some (Some v)) l.0 at in
        let run : Run p cap v.events lawful.core = subst (λ es. Run p cap es lawful.core) (lawful.only l.1 v here) lawful.run in
        let whole : Run v.plan.value v.cap v.events lawful.core × IsPresent v.plan.value lawful.core v =
        subst (λ (z : Plan × ℕ). Run z.0 z.1 v.events lawful.core × IsPresent z.0 lawful.core v) (λ a. (sym knows.plan a, sym knows.cap_is a)) (run, lawful.alone l.1 v here) in
        record { core = lawful.core; run = whole.0; present = whole.1 };
  }

  -- the present word is no older than what the hand saw of it, or left there
  pub steady_at : (pre : List Item) → ((n : Item) → Contains pre n → Contains v.notes n) → (t : Item) → lawful.core.word t.op ≡ t.word
      → (t.own ≡ false → t.word.state ≡ Claimed → t.word.by ≢ v.tag) → IsSteadyAt v.tag pre t
  steady_at pre noted t present claimed = record {
    attempt = λ n inside same.
        let old = (knows.noted.notes n (noted n inside)).attempt in
        let now : (lawful.core.word n.op).attempt ≡ t.word.attempt = ap (λ k. (lawful.core.word k).attempt) same ∙ ap (λ (w : OpWord). w.attempt) present in
        omega (arith, old, now);
    settled = λ n inside same is. sym present ∙ ap lawful.core.word (sym same) ∙ (knows.noted.notes n (noted n inside)).settled is;
    claimed = claimed;
  }

  module _ (o : ℕ) (lt : o < op_count p) where
    here : IsSoundAt p cap lawful.core o (lawful.core.word o)
    here = lawful.sound.each_op o lt

    -- what the view shows of the operation at an attempt, the machine's list does
    shown_mine : (e : Entry) → Contains v.published e → e.op ≡ o → 1 ≤ entries_at o e.attempt lawful.core.published
    shown_mine e inside op_is =
        let h : Entry → ℕ = λ x. cond ((x.op == o) && (x.attempt == e.attempt)) 1 0 in
        let own : 1 ≤ sum_by h v.published = count_some (λ x. (x.op == o) && (x.attempt == e.attempt)) v.published e inside (and_from (eqb e.op o) (eqb e.attempt e.attempt) (eq-eqb e.op o op_is) (eq-eqb e.attempt e.attempt refl)) in
        let some : sum_by h v.published ≤ sum_by (live (λ (x : View). sum_by h x.published)) s.views = sum_has (live (λ (x : View). sum_by h x.published)) s.views i (Some v) at in
        let all : sum_by (live (λ (x : View). sum_by h x.published)) s.views ≡ sum_by h lawful.core.published = lawful.sums.published h in
        omega (arith, own, some, all)

    made_mine : (e : Entry) → Contains v.published e → e.op ≡ o → (e.attempt < (lawful.core.word o).attempt) ⊎ ((e.attempt ≡ (lawful.core.word o).attempt) × (is_idle (lawful.core.word o).state ≡ false))
    made_mine e inside op_is =
        let some = shown_mine e inside op_is in
        elim (cases_lt e.attempt (lawful.core.word o).attempt) [
          | inl lt ↦ inl lt
          | inr high ↦
              elim (cases_lt (lawful.core.word o).attempt e.attempt) [
                | inl above ↦
                    let none : entries_at o e.attempt lawful.core.published ≡ 0 =
                    entries-none o e.attempt lawful.core.published (λ x found same e_is. let below = here.published.below x found same in omega (arith, below.1, above, e_is)) in
                    absurd (omega (arith, some, none))
                | inr low ↦
                    let same : e.attempt ≡ (lawful.core.word o).attempt = omega (arith, high, low) in
                    inr (
                      same,
                      elim (cases_Bool (is_idle (lawful.core.word o).state)) [
                        | inr shown ↦ shown
                        | inl idle ↦
                            let none : entries_at o e.attempt lawful.core.published ≡ 0 = ap (λ a. entries_at o a lawful.core.published) same ∙ here.published.not_yet idle in
                            absurd (omega (arith, some, none))
                      ],
                    )
              ]
        ]

    pub fresh_at : IsFresh v o (lawful.core.word o)
    fresh_at = record {
      attempt = λ n inside same. let old = (knows.noted.notes n inside).attempt in let now = ap (λ k. (lawful.core.word k).attempt) same in omega (arith, old, now);
      settled = λ n inside same is. ap lawful.core.word (sym same) ∙ (knows.noted.notes n inside).settled is;
      made = made_mine;
    }

    -- a claimed word is another hand's, where this one does not hold the operation
    pub claimed_other : IsApart v o → (lawful.core.word o).state ≡ Claimed → (lawful.core.word o).by ≢ v.tag
    claimed_other apart is same =
        let held = here.held is in
        apart held.0 (sym knows.claim ∙ ap lawful.core.claim (sym knows.tag ∙ sym same) ∙ held.1) held.2

    pub calm_at : IsApart v o → IsLone v → IsCalmAt v.trail (loaded o (lawful.core.word o))
    calm_at apart is = record {
      known = λ own. let l = lone_single is in (lawful.alone l.1 v (subst (λ k. get_elem? s.views k ≡ some (Some v)) l.0 at)).each o lt;
      free = λ own claimed. let held = here.held claimed in apart held.0 (lone_claims is (lawful.core.word o).by held.0 held.1) held.2;
    }
