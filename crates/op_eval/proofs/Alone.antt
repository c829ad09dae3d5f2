-- What a lone root evaluates: each operation whose sources have run, at attempt 1.
use Rattle.std.proofs.Common.{◌≡◌, ◌≢◌, ◌⊎◌, ℕ, zero, suc, ◌<◌, ◌≤◌, Bool, true, false, List, [], ◌∷◌, ◌++◌, length, get_or, refl, sym, ap, ◌∙◌, subst, inl, inr, arith, zero-lt-suc, suc-le-suc}
use Rattle.std.specs.Prelude.{Contains}
use Rattle.std.proofs.lemmas.Bool.{false≢true, cases_eq}
use Rattle.morph_base.specs.declared.plan.Plan.{Plan}
use Rattle.morph_base.specs.declared.word.OpState.{OpState}
use Rattle.morph_base.specs.declared.word.OpState.TheVariants.{Blocked, Ready, Claimed, Executed, Failed, Spread, Settled, SettledAborted}
use Rattle.morph_base.specs.declared.word.OpWord.{OpWord}
use Rattle.morph_base.specs.Words.{is_idle}
use Rattle.interleaving_core.specs.Core.{blocked, has_run}
use Rattle.op_words.specs.declared.answers.Outcome.{Outcome}
use Rattle.op_words.specs.declared.trail.Item.{Item}
use Rattle.op_words.specs.declared.trail.View.{View}
use Rattle.op_words.specs.Trails.{loaded, last_word, HasLast, IsDisturbed, IsSourceOf, IsCalmAt, IsCalm, Along, ComeFirst, OwnOn, NoneOwn}
use Rattle.op_words.specs.Views.{IsLone, AddsAndFrees}
use Rattle.op_words.proofs.Trailing.{last-none, last-append, last-one, last-skip, last_or, along_contains, calm_undisturbed}
use Rattle.morph_base.specs.Plans.{IsPlan, op_count}
use Rattle.morph_base.proofs.OutcomeLaws.{source_precedes}
use Rattle.op_eval.specs.declared.answers.Evaluation.{Evaluation}
use Rattle.op_eval.specs.declared.answers.Evaluation.TheVariants.{Evaluated, Blocked as BlockedOn, Busy as BusyAt, Already}
use Rattle.op_eval.specs.Evaluations.{EvaluationDoes}
use Rattle.op_eval.proofs.Following.{one_is_last}
use Rattle.op_eval.specs.Alone.{Ran, NotBegun}

pub come_first : (p : Plan) (o : ℕ) → IsPlan p → o < op_count p → ComeFirst p o
come_first p o valid lt s source = (source_precedes p o source.place s valid lt source.in_places source.source_is).number_before

pub lone_unclaimed : {v u : View} {xs : List Item} → AddsAndFrees v u xs → IsLone v → {o : ℕ} {w : OpWord} → Contains xs (loaded o w) → w.state ≡ Claimed → ⊥
lone_unclaimed {v} {u} {xs} goes lone {o} {w} found claimed = let at = along_contains IsCalmAt v.trail xs (goes.adds.calm lone) (loaded o w) found in at.3.free refl claimed

pub lone_undisturbed : {v u : View} {xs : List Item} → AddsAndFrees v u xs → IsLone v → {o : ℕ} → IsDisturbed o xs → ⊥
lone_undisturbed {v} {u} {xs} goes lone {o} is = calm_undisturbed v.trail xs (goes.adds.calm lone) o is

-- ---- what a lone root loads

head_of : (pre : List Item) (x : Item) (xs : List Item) → IsCalm pre (x ∷ xs) → IsCalmAt pre x
unfolding Along
head_of pre x xs calm = calm.0

tail_of : (pre : List Item) (x : Item) (xs : List Item) → IsCalm pre (x ∷ xs) → IsCalm (pre ++ x ∷ []) xs
unfolding Along
tail_of pre x xs calm = calm.1

pub head_known : (pre : List Item) (o : ℕ) (w : OpWord) (xs : List Item) → IsCalm pre (loaded o w ∷ xs) → w ≡ last_word o (blocked 1) pre
head_known pre o w xs calm = (head_of pre (loaded o w) xs calm).known refl

-- where it left nothing on s, it loads what it knew
pub calm_keeps : (s : ℕ) (pre xs : List Item) → IsCalm pre xs → ((t : Item) → Contains xs t → t.op ≡ s → t.own ≡ false) → (t : Item) → Contains xs t → t.op ≡ s → t.word ≡ last_word s (blocked 1) pre
calm_keeps s pre [] calm loads t inside here = absurd (none inside)
  where
    none : Contains [] t → ⊥
    none found = absurd (omega (arith, found.1))
calm_keeps s pre (x ∷ xs) calm loads t inside here = at inside.0 inside.1 inside.2 (λ k lt is. calm_keeps s (pre ++ x ∷ []) xs (tail_of pre x xs calm) (λ y found. loads y (suc found.0, suc-le-suc found.1, found.2)) t (k, lt, is) here)
  where
    own : x.op ≡ s → x.own ≡ false
    own = loads x (0, zero-lt-suc (length xs), refl)

    first : x.op ≡ s → x.word ≡ last_word s (blocked 1) pre
    first same = (head_of pre x xs calm).known (own same) ∙ ap (λ n. last_word n (blocked 1) pre) same

    kept : last_word s (blocked 1) (pre ++ x ∷ []) ≡ last_word s (blocked 1) pre
    kept =
        last-append s (blocked 1) pre (x ∷ [])
        ∙ elim (cases_eq x.op s) [
          | inl same ↦ last-one s (last_word s (blocked 1) pre) x same ∙ first same
          | inr other ↦ last-skip s (last_word s (blocked 1) pre) x [] other ∙ last-none s (last_word s (blocked 1) pre)
        ]

    at : (k : ℕ) → k < length (x ∷ xs) → get_or (x ∷ xs) k t ≡ t → ((k : ℕ) → k < length xs → get_or xs k t ≡ t → t.word ≡ last_word s (blocked 1) (pre ++ x ∷ [])) → t.word ≡ last_word s (blocked 1) pre
    at zero lt is later = sym (ap (λ (y : Item). y.word) is) ∙ first (ap (λ (y : Item). y.op) is ∙ here)
    at (suc k) lt is later = later k (lt-from k lt) is ∙ kept
      where
        lt-from : (n : ℕ) → suc n < suc (length xs) → n < length xs
        lt-from n less = omega arith

module _ {p : Plan} {cap o : ℕ} {v u : View} (lone : IsLone v) (first_ones : ComeFirst p o) where
  -- it evaluates what it knew to be blocked or ready, where it knew a value of each source
  pub lone_evaluates : (a : ℕ) → a ≤ cap → (w : OpWord) → last_word o (blocked 1) v.trail ≡ w → is_idle w.state ≡ true → w.attempt ≡ a
      → ((s : ℕ) → IsSourceOf p o s → is_idle (last_word s (blocked 1) v.trail).state ≡ false) → (r : Evaluation) → EvaluationDoes p cap o v u r → (x : Outcome) × (r ≡ Evaluated a x)
  lone_evaluates a below w known idle at sources r does = answer r does
    where
      begins_known : (r : Evaluation) → (does : EvaluationDoes p cap o v u r) → does.first ≡ w
      begins_known r does = head_known v.trail o does.first does.rest (subst (IsCalm v.trail) does.begins (does.goes.adds.calm lone)) ∙ known

      source_known : (r : Evaluation) → (does : EvaluationDoes p cap o v u r) → (s : ℕ) (z : OpWord) → IsSourceOf p o s → Contains does.words (loaded s z) → is_idle z.state ≡ false
      source_known r does s z source inside =
          ap (λ (x : OpWord). is_idle x.state)
          (calm_keeps s v.trail does.words (does.goes.adds.calm lone) (λ t found here. not_own r does s source t found here t.own refl) (loaded s z) inside refl)
          ∙ sources s source
        where
          not_own : (r : Evaluation) → (does : EvaluationDoes p cap o v u r) → (s : ℕ) → IsSourceOf p o s → (t : Item) → Contains does.words t → t.op ≡ s → (b : Bool) → t.own ≡ b → t.own ≡ false
          not_own r does s source t found here true is = let same : t.op ≡ o = does.own t found is in let less : s < o = first_ones s source in absurd (omega arith)
          not_own r does s source t found here false is = is

      answer : (r : Evaluation) → EvaluationDoes p cap o v u r → (x : Outcome) × (r ≡ Evaluated a x)
      answer (Evaluated attempt x) does =
          elim does.tells.kept [
            | inr there ↦ absurd (lone_undisturbed does.goes lone there)
            | inl same ↦ (x, ap (λ n. Evaluated n x) (same ∙ ap (λ (y : OpWord). y.attempt) (begins_known (Evaluated attempt x) does) ∙ at))
          ]
      answer (BlockedOn source z) does =
          elim does.tells.cause [
            | inl none ↦ absurd (false≢true (sym (source_known (BlockedOn source z) does source z does.tells.source.source does.tells.source.inside) ∙ none))
            | inr more ↦
                elim more [
                  | inr there ↦ absurd (lone_undisturbed does.goes lone there)
                  | inl last ↦ let same = ap (λ (y : OpWord). y.attempt) (begins_known (BlockedOn source z) does) in absurd (omega arith)
                ]
          ]
      answer (BusyAt z) does =
          elim does.tells.cause [
            | inl claimed ↦ absurd (lone_unclaimed does.goes lone does.tells.seen claimed)
            | inr there ↦ absurd (lone_undisturbed does.goes lone there)
          ]
      answer (Already z) does =
          let one : z ≡ w = head_known v.trail o z [] (subst (IsCalm v.trail) does.tells.only (does.goes.adds.calm lone)) ∙ known in
          absurd (false≢true (sym does.tells.there ∙ ap (λ (y : OpWord). is_idle y.state) one ∙ idle))

-- what was not changed has the last word that it had
pub calm_last : (s : ℕ) (pre xs : List Item) → IsCalm pre xs → ((t : Item) → Contains xs t → t.op ≡ s → t.own ≡ false) → last_word s (blocked 1) (pre ++ xs) ≡ last_word s (blocked 1) pre
calm_last s pre xs calm loads =
    last-append s (blocked 1) pre xs
    ∙ elim (last_or s (last_word s (blocked 1) pre) xs) [
      | inr empty ↦ empty (last_word s (blocked 1) pre)
      | inl found ↦ sym found.3 ∙ calm_keeps s pre xs calm loads found.0 found.1 found.2
    ]

-- what calls make of a lone root's words, whose own steps are on one operation alone
module _ {v u : View} {xs : List Item} (goes : AddsAndFrees v u xs) (lone : IsLone v) where
  pub knew_first : (o : ℕ) (w : OpWord) (rest : List Item) → xs ≡ loaded o w ∷ rest → w ≡ last_word o (blocked 1) v.trail
  knew_first o w rest begins = head_known v.trail o w rest (subst (IsCalm v.trail) begins (goes.adds.calm lone))

  pub left_last : (o : ℕ) (w : OpWord) → HasLast o xs w → last_word o (blocked 1) u.trail ≡ w
  left_last o w last = ap (last_word o (blocked 1)) goes.adds.trail ∙ last-append o (blocked 1) v.trail xs ∙ last.is (last_word o (blocked 1) v.trail)

  pub none_changed : NoneOwn xs → (k : ℕ) → last_word k (blocked 1) u.trail ≡ last_word k (blocked 1) v.trail
  none_changed none k = ap (last_word k (blocked 1)) goes.adds.trail ∙ calm_last k v.trail xs (goes.adds.calm lone) (λ t found _. none t found)

  module _ (o : ℕ) (own : OwnOn o xs) where
    not_own : (k : ℕ) → k ≢ o → (t : Item) → Contains xs t → t.op ≡ k → t.own ≡ false
    not_own k other t found here = at t.own refl
      where
        at : (b : Bool) → t.own ≡ b → t.own ≡ false
        at true is = absurd (other (sym here ∙ own t found is))
        at false is = is

    pub others_same : (k : ℕ) → k ≢ o → last_word k (blocked 1) u.trail ≡ last_word k (blocked 1) v.trail
    others_same k other = ap (last_word k (blocked 1)) goes.adds.trail ∙ calm_last k v.trail xs (goes.adds.calm lone) (not_own k other)

    pub knew_other : (k : ℕ) → k ≢ o → (w : OpWord) → Contains xs (loaded k w) → w ≡ last_word k (blocked 1) v.trail
    knew_other k other w found = calm_keeps k v.trail xs (goes.adds.calm lone) (not_own k other) (loaded k w) found refl

-- each operation is not begun, or ran
pub record IsBegun (trail : List Item) : Type 0 where
  pub each : (o : ℕ) → NotBegun trail o ⊎ Ran trail o

pub run_valued : (s : OpState) → has_run s ≡ true → is_idle s ≡ false
run_valued Blocked ran = absurd (false≢true ran)
run_valued Ready ran = absurd (false≢true ran)
run_valued Claimed ran = absurd (false≢true ran)
run_valued Executed ran = refl
run_valued Failed ran = refl
run_valued Spread ran = absurd (false≢true ran)
run_valued Settled ran = absurd (false≢true ran)
run_valued SettledAborted ran = absurd (false≢true ran)

module _ {p : Plan} {cap o : ℕ} {v u : View} (lone : IsLone v) (r : Evaluation) (does : EvaluationDoes p cap o v u r) where
  -- every other operation stays
  pub others_stay : (k : ℕ) → k ≢ o → last_word k (blocked 1) u.trail ≡ last_word k (blocked 1) v.trail
  others_stay = others_same does.goes lone o does.own

  pub first_known : does.first ≡ last_word o (blocked 1) v.trail
  first_known = knew_first does.goes lone o does.first does.rest does.begins

  pub last_now : (z : OpWord) → HasLast o does.words z → last_word o (blocked 1) u.trail ≡ z
  last_now = left_last does.goes lone o

  -- an operation that ran stays so
  pub ran_stays : Ran v.trail o → Ran u.trail o
  ran_stays ran = of_answer r does first_known last_now
    where
      of_answer : (r : Evaluation) → (d : EvaluationDoes p cap o v u r) → d.first ≡ last_word o (blocked 1) v.trail → ((z : OpWord) → HasLast o d.words z → last_word o (blocked 1) u.trail ≡ z) → Ran u.trail o
      of_answer (Evaluated a x) d known now = absurd (false≢true (sym (run_valued (last_word o (blocked 1) v.trail).state ran.0) ∙ ap (λ (w : OpWord). is_idle w.state) (sym known) ∙ d.tells.began))
      of_answer (BlockedOn s z) d known now = absurd (false≢true (sym (run_valued (last_word o (blocked 1) v.trail).state ran.0) ∙ ap (λ (w : OpWord). is_idle w.state) (sym known) ∙ d.tells.began))
      of_answer (BusyAt z) d known now = absurd (false≢true (sym (run_valued (last_word o (blocked 1) v.trail).state ran.0) ∙ ap (λ (w : OpWord). is_idle w.state) (sym known) ∙ d.tells.began))
      of_answer (Already z) d known now =
          let one : z ≡ last_word o (blocked 1) v.trail = head_known v.trail o z [] (subst (IsCalm v.trail) d.tells.only (d.goes.adds.calm lone)) in
          let same : last_word o (blocked 1) u.trail ≡ last_word o (blocked 1) v.trail = now z (subst (λ zs. HasLast o zs z) (sym d.tells.only) (one_is_last (loaded o z))) ∙ one in
          (ap (λ (w : OpWord). has_run w.state) same ∙ ran.0, ap (λ (w : OpWord). w.attempt) same ∙ ran.1)

  -- what ran stays so
  pub ran_kept : (k : ℕ) → Ran v.trail k → Ran u.trail k
  ran_kept k ran =
      elim (cases_eq k o) [
        | inr other ↦ subst (λ (w : OpWord). (has_run w.state ≡ true) × (w.attempt ≡ 1)) (sym (others_stay k other)) ran
        | inl same ↦ subst (Ran u.trail) (sym same) (ran_stays (subst (Ran v.trail) same ran))
      ]

module _ {p : Plan} {cap o : ℕ} {v u : View} (lone : IsLone v) (first_ones : ComeFirst p o) (some : 1 ≤ cap) (exploring : IsBegun v.trail) (r : Evaluation) (does : EvaluationDoes p cap o v u r) where
  -- one that was not begun runs where its sources ran, and else stays
  begins_or : NotBegun v.trail o → (NotBegun u.trail o ⊎ Ran u.trail o) × (((s : ℕ) → IsSourceOf p o s → Ran v.trail s) → Ran u.trail o)
  begins_or fresh = of_answer r does (first_known lone r does) (last_now lone r does)
    where
      of_answer : (r : Evaluation) → (d : EvaluationDoes p cap o v u r) → d.first ≡ last_word o (blocked 1) v.trail → ((z : OpWord) → HasLast o d.words z → last_word o (blocked 1) u.trail ≡ z)
          → (NotBegun u.trail o ⊎ Ran u.trail o) × (((s : ℕ) → IsSourceOf p o s → Ran v.trail s) → Ran u.trail o)
      of_answer (Evaluated a x) d known now =
          let at : a ≡ 1 = elim d.tells.kept [ inr there ↦ absurd (lone_undisturbed d.goes lone there) | inl same ↦ same ∙ ap (λ (w : OpWord). w.attempt) (known ∙ fresh) ] in
          let last : last_word o (blocked 1) u.trail ≡ d.tells.word = now d.tells.word d.tells.last in
          let ran : Ran u.trail o = (ap (λ (w : OpWord). has_run w.state) last ∙ d.tells.ran, ap (λ (w : OpWord). w.attempt) last ∙ d.tells.attempt_is ∙ at) in
          (inr ran, λ sources. ran)
      of_answer (BlockedOn s z) d known now =
          let stays : NotBegun u.trail o =
          now d.tells.source.own d.tells.source.last
          ∙ elim (d.tells.back d.tells.source.own d.tells.source.last) [ inr there ↦ absurd (lone_undisturbed d.goes lone there) | inl back ↦ back ∙ ap blocked (ap (λ (w : OpWord). w.attempt) (known ∙ fresh)) ] in (
            inl stays,
            λ sources.
                let made = lone_evaluates lone first_ones 1 some (blocked 1) fresh refl refl (λ k source. run_valued (last_word k (blocked 1) v.trail).state (sources k source).0) (BlockedOn s z) d in
                absurd (apart made.1),
          )
        where
          apart : {x : Outcome} → BlockedOn s z ≡ Evaluated 1 x → ⊥
          apart e = cc
      of_answer (BusyAt z) d known now =
          absurd (elim d.tells.cause [ inl claimed ↦ lone_unclaimed d.goes lone d.tells.seen claimed | inr there ↦ lone_undisturbed d.goes lone there ])
      of_answer (Already z) d known now =
          let one : z ≡ last_word o (blocked 1) v.trail = head_known v.trail o z [] (subst (IsCalm v.trail) d.tells.only (d.goes.adds.calm lone)) in
          absurd (false≢true (sym d.tells.there ∙ ap (λ (w : OpWord). is_idle w.state) (one ∙ fresh)))

  -- so exploring goes on
  pub explores : (k : ℕ) → NotBegun u.trail k ⊎ Ran u.trail k
  explores k =
      elim (cases_eq k o) [
        | inr other ↦ subst (λ (w : OpWord). (w ≡ blocked 1) ⊎ ((has_run w.state ≡ true) × (w.attempt ≡ 1))) (sym (others_stay lone r does k other)) (exploring.each k)
        | inl same ↦ subst (λ n. NotBegun u.trail n ⊎ Ran u.trail n) (sym same) (elim (exploring.each o) [ inl fresh ↦ (begins_or fresh).0 | inr ran ↦ inr (ran_stays lone r does ran) ])
      ]

  pub keeps_ran : (k : ℕ) → Ran v.trail k → Ran u.trail k
  keeps_ran = ran_kept lone r does

  pub runs_it : ((s : ℕ) → IsSourceOf p o s → Ran v.trail s) → Ran u.trail o
  runs_it sources = elim (exploring.each o) [ inl fresh ↦ (begins_or fresh).1 sources | inr ran ↦ ran_stays lone r does ran ]
