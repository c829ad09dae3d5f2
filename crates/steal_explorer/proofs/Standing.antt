-- How operations stand with a lone root, call by call.
use Rattle.std.proofs.Common.{◌≡◌, ◌≢◌, ◌⊎◌, ℕ, ◌+◌, ◌<◌, ◌≤◌, true, false, List, [], ◌∷◌, refl, sym, ap, ◌∙◌, subst, inl, inr, arith}
use Rattle.std.specs.Prelude.{All, Contains, sum_by}
use Rattle.std.proofs.lemmas.Bool.{false≢true, cases_eq}
use Rattle.std.proofs.lemmas.List.Elements.{All-head, All-tail}
use Rattle.morph_base.specs.declared.plan.Plan.{Plan}
use Rattle.morph_base.specs.declared.word.OpState.TheVariants.{Blocked, Ready}
use Rattle.morph_base.specs.declared.word.OpWord.{OpWord}
use Rattle.morph_base.specs.Plans.{IsPlan, op_count}
use Rattle.morph_base.specs.Words.{is_idle}
use Rattle.morph_base.proofs.OutcomeLaws.{source_precedes}
use Rattle.interleaving_core.specs.Core.{blocked, ready, has_run}
use Rattle.op_words.specs.declared.answers.Outcome.{Outcome}
use Rattle.op_words.specs.declared.answers.Readied.{Readied}
use Rattle.op_words.specs.declared.answers.Readied.TheVariants.{Made, Not as Unmade}
use Rattle.op_words.specs.declared.trail.Item.{Item}
use Rattle.op_words.specs.declared.trail.View.{View}
use Rattle.op_words.specs.Calls.{MakeDoes}
use Rattle.op_words.specs.Trails.{loaded, last_word, IsSourceOf, ComeFirst, NoneOwn}
use Rattle.op_words.specs.Views.{IsLone}
use Rattle.op_eval.specs.declared.answers.Evaluation.{Evaluation}
use Rattle.op_eval.specs.declared.answers.Evaluation.TheVariants.{Evaluated, Blocked as BlockedOn, Busy as BusyAt, Already}
use Rattle.op_eval.specs.declared.runner.Runner.{Runner}
use Rattle.op_eval.specs.Alone.{Ran, NotBegun}
use Rattle.op_eval.specs.Evaluations.{EvaluationDoes}
use Rattle.op_eval.specs.Running.{hand_view}
use Rattle.op_eval.proofs.Alone.{come_first, run_valued, lone_unclaimed, lone_undisturbed, lone_evaluates, knew_first, knew_other, left_last, others_same, none_changed, others_stay, ran_kept}
use Rattle.op_eval.proofs.Following.{one_none}
use Rattle.op_eval.proofs.Elements.{contains_cases}
use Rattle.abort_eager.proofs.Exploring.{further_lone}
use Rattle.steal_explorer.proofs.Further.{calls_further}
use Rattle.steal_explorer.specs.Alone.{AreSourcesRun, IsWaiting, IsQueued, HasGone, Stands}
use Rattle.steal_explorer.specs.Calls.{ServeCall, Asked, Tried, Swept, is_swept, MakesServeCalls}
use Rattle.steal_explorer.specs.HandingOut.{is_one}
use Rattle.steal_explorer.proofs.Counting.{same_is, other_is}

abbrev pub known : List Item → ℕ → OpWord
known trail o = last_word o (blocked 1) trail

idle_not_run : (trail : List Item) (o : ℕ) → is_idle (known trail o).state ≡ true → Ran trail o → ⊥
idle_not_run trail o idle ran = false≢true (sym (run_valued (known trail o).state ran.0) ∙ idle)

not_begun_idle : (trail : List Item) (o : ℕ) → NotBegun trail o → is_idle (known trail o).state ≡ true
not_begun_idle trail o fresh = ap (λ (w : OpWord). is_idle w.state) fresh

-- an operation that is known with the same word
ran_as : (t u : List Item) (o : ℕ) → known u o ≡ known t o → Ran t o → Ran u o
ran_as t u o same ran = subst (λ (w : OpWord). (has_run w.state ≡ true) × (w.attempt ≡ 1)) (sym same) ran

-- ---- what a lone root loads and leaves where it asks

pub record IsMadeAlone (p : Plan) (d : ℕ) (t u : List Item) : Type 0 where
  pub was : (known t d).state ≡ Blocked
  pub sources : (s : ℕ) → IsSourceOf p d s → is_idle (known t s).state ≡ false
  pub now : NotBegun t d → known u d ≡ ready 1
  pub others : (k : ℕ) → k ≢ d → known u k ≡ known t k

pub record IsUnmadeAlone (p : Plan) (d : ℕ) (t u : List Item) : Type 0 where
  pub same : (k : ℕ) → known u k ≡ known t k
  pub open_source : NotBegun t d → (s : ℕ) × IsSourceOf p d s × (is_idle (known t s).state ≡ true)

apart : (p : Plan) (d : ℕ) → ComeFirst p d → (s : ℕ) → IsSourceOf p d s → s ≢ d
apart p d first_ones s source same = let less : s < d = first_ones s source in absurd (omega arith)

module _ {p : Plan} {cap d : ℕ} {v u : View} (lone : IsLone v) (first_ones : ComeFirst p d) where
  pub made_alone : MakeDoes p cap d v u Made → IsMadeAlone p d v.trail u.trail
  made_alone does =
      let first : does.first ≡ known v.trail d = knew_first does.goes lone d does.first does.rest does.begins in
      record {
        was = ap (λ (w : OpWord). w.state) (sym first ∙ does.tells.was_blocked);
        sources = λ s source.
            let at = does.tells.sources s source in
            ap (λ (w : OpWord). is_idle w.state) (sym (knew_other does.goes lone d does.own s (apart p d first_ones s source) at.0 at.1)) ∙ at.2;
        now = λ fresh.
            left_last does.goes lone d (ready does.first.attempt) does.tells.last
            ∙ ap (λ (w : OpWord). ready w.attempt) (first ∙ fresh);
        others = others_same does.goes lone d does.own;
      }

  pub unmade_alone : (at : ℕ) (w : OpWord) → MakeDoes p cap d v u (Unmade at w) → IsUnmadeAlone p d v.trail u.trail
  unmade_alone at w does =
      elim does.tells [
        | inl own ↦
            record {
              same = none_changed does.goes lone own.1.none;
              open_source = λ fresh.
                  absurd
                  (elim own.1.cause [
                    | inr there ↦ lone_undisturbed does.goes lone there
                    | inl other ↦
                        let is : w ≡ known v.trail d = sym (left_last does.goes lone d w own.1.last) ∙ none_changed does.goes lone own.1.none d in
                        other (ap (λ (x : OpWord). x.state) (is ∙ fresh))
                  ]);
            }
        | inr source ↦
            record {
              same = none_changed does.goes lone source.1.none;
              open_source = λ fresh. (
                at,
                source.1.source,
                ap (λ (x : OpWord). is_idle x.state) (sym (knew_other does.goes lone d does.own at source.0 w source.1.inside)) ∙ source.1.idle,
              );
            }
      ]

  asked_keeps : (r : Readied) → MakeDoes p cap d v u r → (k : ℕ) → Ran v.trail k → Ran u.trail k
  asked_keeps Made does k ran =
      let is = made_alone does in
      elim (cases_eq k d) [
        | inr other ↦ ran_as v.trail u.trail k (is.others k other) ran
        | inl same ↦ absurd (idle_not_run v.trail d (ap is_idle is.was) (subst (Ran v.trail) same ran))
      ]
  asked_keeps (Unmade at w) does k ran = ran_as v.trail u.trail k ((unmade_alone at w does).same k) ran

-- what ran stays so, whatever a lone root calls
pub calls_lone : (p : Plan) (cap : ℕ) (cs : List ServeCall) (a b : Runner) → MakesServeCalls p cap cs a b → IsLone (hand_view a) → IsLone (hand_view b)
calls_lone p cap cs a b calls lone = further_lone (calls_further p cap cs a b calls) lone

-- where no target of a cascade was touched
pub calls_ran : (p : Plan) → IsPlan p → (cap : ℕ) (cs : List ServeCall) (a b : Runner) → MakesServeCalls p cap cs a b → All (λ c. is_swept c ≡ false) cs → IsLone (hand_view a) → (k : ℕ) → Ran (hand_view a).trail k → Ran (hand_view b).trail k
calls_ran p valid cap [] a b calls none lone k ran = subst (λ r. Ran (hand_view r).trail k) (sym calls) ran
calls_ran p valid cap (Asked o ∷ cs) a b calls none lone k ran =
    asked_keeps (calls_lone p cap cs a calls.0 calls.1 lone) (come_first p o valid calls.2.1.in_range) calls.2.0 calls.2.1.does k
    (calls_ran p valid cap cs a calls.0 calls.1 (All-tail (λ c. is_swept c ≡ false) (Asked o) cs none) lone k ran)
calls_ran p valid cap (Tried o ∷ cs) a b calls none lone k ran =
    ran_kept (calls_lone p cap cs a calls.0 calls.1 lone) calls.2.0 calls.2.1.does k
    (calls_ran p valid cap cs a calls.0 calls.1 (All-tail (λ c. is_swept c ≡ false) (Tried o) cs none) lone k ran)
calls_ran p valid cap (Swept g ∷ cs) a b calls none lone k ran = absurd (false≢true (sym (All-head (λ c. is_swept c ≡ false) (Swept g) cs none)))

-- ---- how operations stand afterwards

abbrev pub AllStand : Plan → List ℕ → List Item → List ℕ → Type 0
AllStand p pending trail pushed = (o : ℕ) → o < op_count p → Stands p pending trail pushed o

module _ (p : Plan) (valid : IsPlan p) where
  source_inside : (o s : ℕ) → o < op_count p → IsSourceOf p o s → s < op_count p
  source_inside o s lt source = (source_precedes p o source.place s valid lt source.in_places source.source_is).in_range

  -- what is known with a value has run
  valued_ran : (pending : List ℕ) (t : List Item) (pushed : List ℕ) (s : ℕ) → Stands p pending t pushed s → is_idle (known t s).state ≡ false → Ran t s
  valued_ran pending t pushed s stands valued =
      elim stands [
        | inl waits ↦ absurd (false≢true (sym valued ∙ not_begun_idle t s waits.fresh))
        | inr more ↦
            elim more [
              | inr gone ↦ gone.ran
              | inl queued ↦
                  absurd
                  (elim queued.word [
                    | inl is_ready ↦ false≢true (sym valued ∙ ap (λ (w : OpWord). is_idle w.state) is_ready)
                    | inr first ↦ false≢true (sym valued ∙ not_begun_idle t s first.0)
                  ])
            ]
      ]

  -- all words stay
  module _ (t u : List Item) (same : (k : ℕ) → known u k ≡ known t k) where
    due_as : (o : ℕ) → AreSourcesRun p t o → AreSourcesRun p u o
    due_as o due s source = ran_as t u s (same s) (due s source)

    due_back : (o : ℕ) → AreSourcesRun p u o → AreSourcesRun p t o
    due_back o due s source = ran_as u t s (sym (same s)) (due s source)

    -- and those that were asked in vain are not due
    stands_as : (pending rest : List ℕ) (pushed : List ℕ) (o : ℕ) → (NotBegun t o → AreSourcesRun p t o → Contains pending o → Contains rest o) → Stands p pending t pushed o → Stands p rest u pushed o
    stands_as pending rest pushed o asked stands =
        elim stands [
          | inl waits ↦
              inl
              (record {
                fresh = same o ∙ waits.fresh;
                unpushed = waits.unpushed;
                asked = λ due. let before = due_back o due in asked waits.fresh before (waits.asked before);
              })
          | inr more ↦
              inr
              (elim more [
                | inl queued ↦
                    inl
                    (record {
                      due = due_as o queued.due;
                      once = queued.once;
                      word = elim queued.word [ inl is_ready ↦ inl (same o ∙ is_ready) | inr first ↦ inr (same o ∙ first.0, first.1) ];
                    })
                | inr gone ↦ inr (record { due = due_as o gone.due; once = gone.once; ran = ran_as t u o (same o) gone.ran })
              ])
        ]

  -- asked in vain
  pub unmade_stands : (d : ℕ) (rest : List ℕ) (t u : List Item) (pushed : List ℕ) → IsUnmadeAlone p d t u → AllStand p (d ∷ rest) t pushed → AllStand p rest u pushed
  unmade_stands d rest t u pushed is all o lt = stands_as t u is.same (d ∷ rest) rest pushed o asked (all o lt)
    where
      asked : NotBegun t o → AreSourcesRun p t o → Contains (d ∷ rest) o → Contains rest o
      asked fresh due inside =
          elim (contains_cases d rest o inside) [
            | inr later ↦ later
            | inl here ↦
                let at = is.open_source (subst (NotBegun t) here fresh) in
                absurd (idle_not_run t at.0 at.2 (due at.0 (subst (λ n. IsSourceOf p n at.0) (sym here) at.1)))
          ]

  -- made ready, and pushed
  module _ (d : ℕ) (inside : d < op_count p) (rest : List ℕ) (t u : List Item) (pushed later : List ℕ) (is : IsMadeAlone p d t u) (all : AllStand p (d ∷ rest) t pushed) (source : (s : ℕ) × IsSourceOf p d s) where
    pub was_waiting : IsWaiting p (d ∷ rest) t pushed d
    was_waiting =
        elim (all d inside) [
          | inl waits ↦ waits
          | inr more ↦
              absurd
              (elim more [
                | inr gone ↦ idle_not_run t d (ap is_idle is.was) gone.ran
                | inl queued ↦
                    elim queued.word [
                      | inl is_ready ↦ not_blocked (sym is.was ∙ ap (λ (w : OpWord). w.state) is_ready)
                      | inr first ↦ first.1 source.0 source.1
                    ]
              ])
        ]
      where
        not_blocked : Blocked ≡ Ready → ⊥
        not_blocked e = cc

    now_ready : known u d ≡ ready 1
    now_ready = is.now was_waiting.fresh

    made_forth : (s : ℕ) → Ran t s → Ran u s
    made_forth s ran =
        elim (cases_eq s d) [
          | inr other ↦ ran_as t u s (is.others s other) ran
          | inl same ↦ absurd (idle_not_run t d (ap is_idle is.was) (subst (Ran t) same ran))
        ]

    made_back : (s : ℕ) → Ran u s → Ran t s
    made_back s ran =
        elim (cases_eq s d) [
          | inr other ↦ ran_as u t s (sym (is.others s other)) ran
          | inl same ↦ absurd (idle_not_run u d (ap (λ (w : OpWord). is_idle w.state) now_ready) (subst (Ran u) same ran))
        ]

    module _ (pushes : (o : ℕ) → sum_by (is_one o) later ≡ sum_by (is_one o) pushed + is_one o d) where
      no_more_pushed : (o : ℕ) → o ≢ d → sum_by (is_one o) later ≡ sum_by (is_one o) pushed
      no_more_pushed o other = let a = pushes o in let b : is_one o d ≡ 0 = other_is o d (λ e. other (sym e)) in omega arith

      pub made_stands : AllStand p rest u later
      made_stands o lt =
          elim (cases_eq o d) [
            | inl same ↦
                subst (Stands p rest u later) (sym same)
                (inr
                (inl
                (record {
                  due = λ s from. made_forth s (valued_ran (d ∷ rest) t pushed s (all s (source_inside d s inside from)) (is.sources s from));
                  once = let a = pushes d in let b = was_waiting.unpushed in let c : is_one d d ≡ 1 = same_is d in omega arith;
                  word = inl now_ready;
                })))
            | inr other ↦
                elim (all o lt) [
                  | inl waits ↦
                      inl
                      (record {
                        fresh = is.others o other ∙ waits.fresh;
                        unpushed = no_more_pushed o other ∙ waits.unpushed;
                        asked = λ due. elim (contains_cases d rest o (waits.asked (λ s from. made_back s (due s from)))) [ inl here ↦ absurd (other here) | inr there ↦ there ];
                      })
                  | inr more ↦
                      inr
                      (elim more [
                        | inl queued ↦
                            inl
                            (record {
                              due = λ s from. made_forth s (queued.due s from);
                              once = no_more_pushed o other ∙ queued.once;
                              word = elim queued.word [ inl is_ready ↦ inl (is.others o other ∙ is_ready) | inr first ↦ inr (is.others o other ∙ first.0, first.1) ];
                            })
                        | inr gone ↦ inr (record { due = λ s from. made_forth s (gone.due s from); once = no_more_pushed o other ∙ gone.once; ran = made_forth o gone.ran })
                      ])
                ]
          ]

-- ---- what a lone root loads and leaves where it evaluates

pub record IsEvaluatedAlone (p : Plan) (o : ℕ) (t u : List Item) : Type 0 where
  pub began : is_idle (known t o).state ≡ true
  pub sources : (s : ℕ) → IsSourceOf p o s → is_idle (known t s).state ≡ false
  pub ran : Ran u o
  pub others : (k : ℕ) → k ≢ o → known u k ≡ known t k

module _ {p : Plan} {cap o : ℕ} {v u : View} (lone : IsLone v) (first_ones : ComeFirst p o) where
  pub evaluated_alone : (a : ℕ) (x : Outcome) → EvaluationDoes p cap o v u (Evaluated a x) → (known v.trail o).attempt ≡ 1 → IsEvaluatedAlone p o v.trail u.trail
  evaluated_alone a x does at =
      let first : does.first ≡ known v.trail o = knew_first does.goes lone o does.first does.rest does.begins in
      let last : known u.trail o ≡ does.tells.word = left_last does.goes lone o does.tells.word does.tells.last in
      let same : a ≡ 1 = elim does.tells.kept [ inr there ↦ absurd (lone_undisturbed does.goes lone there) | inl kept ↦ kept ∙ ap (λ (w : OpWord). w.attempt) first ∙ at ] in
      record {
        began = ap (λ (w : OpWord). is_idle w.state) (sym first) ∙ does.tells.began;
        sources = λ s source.
            let z = does.tells.sources s source in
            ap (λ (w : OpWord). is_idle w.state) (sym (knew_other does.goes lone o does.own s (apart p o first_ones s source) z.0 z.1)) ∙ z.2;
        ran = (ap (λ (w : OpWord). has_run w.state) last ∙ does.tells.ran, ap (λ (w : OpWord). w.attempt) last ∙ does.tells.attempt_is ∙ same);
        others = others_stay lone (Evaluated a x) does;
      }

module _ (p : Plan) (valid : IsPlan p) where
  pub first_attempt : (pending : List ℕ) (t : List Item) (pushed : List ℕ) (o : ℕ) → Stands p pending t pushed o → (known t o).attempt ≡ 1
  first_attempt pending t pushed o stands =
      elim stands [
        | inl waits ↦ ap (λ (w : OpWord). w.attempt) waits.fresh
        | inr more ↦
            elim more [
              | inr gone ↦ gone.ran.1
              | inl queued ↦ elim queued.word [ inl is_ready ↦ ap (λ (w : OpWord). w.attempt) is_ready | inr first ↦ ap (λ (w : OpWord). w.attempt) first.0 ]
            ]
      ]

  -- it was evaluated: those that read from it are to be asked
  module _ (o : ℕ) (inside : o < op_count p) (readers : List ℕ) (t u : List Item) (pushed : List ℕ) (is : IsEvaluatedAlone p o t u) (all : AllStand p [] t pushed) (reads : (k : ℕ) → k < op_count p → Contains readers k ⊎ (IsSourceOf p k o → ⊥)) where
    was_due : AreSourcesRun p t o
    was_due s source = valued_ran p valid [] t pushed s (all s (source_inside p valid o s inside source)) (is.sources s source)

    was_pushed : sum_by (is_one o) pushed ≡ 1
    was_pushed =
        elim (all o inside) [
          | inl waits ↦ absurd (omega (arith, (waits.asked was_due).1))
          | inr more ↦ elim more [ inl queued ↦ queued.once | inr gone ↦ gone.once ]
        ]

    evaluated_forth : (s : ℕ) → Ran t s → Ran u s
    evaluated_forth s ran =
        elim (cases_eq s o) [
          | inr other ↦ ran_as t u s (is.others s other) ran
          | inl same ↦ subst (Ran u) (sym same) is.ran
        ]

    pub evaluated_stands : AllStand p readers u pushed
    evaluated_stands k lt =
        elim (cases_eq k o) [
          | inl same ↦
              subst (Stands p readers u pushed) (sym same)
              (inr (inr (record { due = λ s source. evaluated_forth s (was_due s source); once = was_pushed; ran = is.ran })))
          | inr other ↦
              elim (all k lt) [
                | inl waits ↦
                    inl
                    (record {
                      fresh = is.others k other ∙ waits.fresh;
                      unpushed = waits.unpushed;
                      asked = λ due.
                          elim (reads k lt) [
                            | inl there ↦ there
                            | inr none ↦
                                absurd
                                (omega (
                                  arith,
                                  (waits.asked (λ s source. ran_as u t s (sym (is.others s (λ same. none (subst (IsSourceOf p k) same source)))) (due s source))).1,
                                ))
                          ];
                    })
                | inr more ↦
                    inr
                    (elim more [
                      | inl queued ↦
                          inl
                          (record {
                            due = λ s source. evaluated_forth s (queued.due s source);
                            once = queued.once;
                            word = elim queued.word [ inl is_ready ↦ inl (is.others k other ∙ is_ready) | inr first ↦ inr (is.others k other ∙ first.0, first.1) ];
                          })
                      | inr gone ↦ inr (record { due = λ s source. evaluated_forth s (gone.due s source); once = gone.once; ran = evaluated_forth k gone.ran })
                    ])
              ]
        ]

  -- it was not evaluated: it was not due, or had run
  module _ (cap : ℕ) (some : 1 ≤ cap) (o : ℕ) (inside : o < op_count p) (v u : View) (pushed : List ℕ) (lone : IsLone v) (all : AllStand p [] v.trail pushed) where
    queued_idle : IsQueued p v.trail pushed o → is_idle (known v.trail o).state ≡ true
    queued_idle queued = elim queued.word [ inl is_ready ↦ ap (λ (w : OpWord). is_idle w.state) is_ready | inr first ↦ not_begun_idle v.trail o first.0 ]

    queued_evaluates : IsQueued p v.trail pushed o → (r : Evaluation) → EvaluationDoes p cap o v u r → (x : Outcome) × (r ≡ Evaluated 1 x)
    queued_evaluates queued r does =
        lone_evaluates lone (come_first p o valid inside) 1 some (known v.trail o) refl (queued_idle queued) (first_attempt [] v.trail pushed o (inr (inl queued)))
        (λ s source. run_valued (known v.trail s).state (queued.due s source).0) r does

    -- a call that found it idle, and did not evaluate it
    not_gone : HasGone p v.trail pushed o → (w : OpWord) → w ≡ known v.trail o → is_idle w.state ≡ true → ⊥
    not_gone gone w is idle = idle_not_run v.trail o (ap (λ (x : OpWord). is_idle x.state) (sym is) ∙ idle) gone.ran

    stays : (r : Evaluation) → EvaluationDoes p cap o v u r → ((a : ℕ) (x : Outcome) → r ≡ Evaluated a x → ⊥) → ((k : ℕ) → known u.trail k ≡ known v.trail k) × (0 < sum_by (is_one o) pushed → Ran u.trail o)
    stays (Evaluated a x) does other = absurd (other a x refl)
    stays (BusyAt z) does other = absurd (elim does.tells.cause [ inl claimed ↦ lone_unclaimed does.goes lone does.tells.seen claimed | inr there ↦ lone_undisturbed does.goes lone there ])
    stays (Already z) does other =
        let same : (k : ℕ) → known u.trail k ≡ known v.trail k = none_changed does.goes lone (subst NoneOwn (sym does.tells.only) (one_none (loaded o z) refl)) in
        let is : z ≡ known v.trail o = knew_first does.goes lone o z [] does.tells.only in (
          same,
          λ there.
              elim (all o inside) [
                | inl waits ↦ absurd (let none = waits.unpushed in omega arith)
                | inr more ↦
                    elim more [
                      | inr gone ↦ ran_as v.trail u.trail o (same o) gone.ran
                      | inl queued ↦ absurd (false≢true (sym does.tells.there ∙ ap (λ (w : OpWord). is_idle w.state) is ∙ queued_idle queued))
                    ]
              ],
        )
    stays (BlockedOn s z) does other =
        elim (all o inside) [
          | inl waits ↦ (
            λ k.
                elim (cases_eq k o) [
                  | inr elsewhere ↦ others_stay lone (BlockedOn s z) does k elsewhere
                  | inl same ↦ subst (λ n. known u.trail n ≡ known v.trail n) (sym same) (back waits.fresh)
                ],
            λ there. absurd (let none = waits.unpushed in omega arith),
          )
          | inr more ↦
              absurd
              (elim more [
                | inl queued ↦ let made = queued_evaluates queued (BlockedOn s z) does in other 1 made.0 made.1
                | inr gone ↦ not_gone gone does.first (knew_first does.goes lone o does.first does.rest does.begins) does.tells.began
              ])
        ]
      where
        back : NotBegun v.trail o → known u.trail o ≡ known v.trail o
        back fresh =
            left_last does.goes lone o does.tells.source.own does.tells.source.last
            ∙ elim (does.tells.back does.tells.source.own does.tells.source.last) [
              | inr there ↦ absurd (lone_undisturbed does.goes lone there)
              | inl bare ↦ bare ∙ ap (λ (w : OpWord). blocked w.attempt) (knew_first does.goes lone o does.first does.rest does.begins ∙ fresh) ∙ sym fresh
            ]

    pub stopped_stands : (r : Evaluation) → EvaluationDoes p cap o v u r → ((a : ℕ) (x : Outcome) → r ≡ Evaluated a x → ⊥) → AllStand p [] u.trail pushed × (0 < sum_by (is_one o) pushed → Ran u.trail o)
    stopped_stands r does other =
        let is = stays r does other in
        (λ k lt. stands_as p valid v.trail u.trail is.0 [] [] pushed k (λ fresh due none. none) (all k lt), is.1)
