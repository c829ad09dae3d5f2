-- How a blocked operation is evaluated by one call.
use Rattle.std.proofs.Common.{◌≡◌, ◌⊎◌, ℕ, List, [], ◌∷◌, ◌++◌, refl, sym, ap, ◌∙◌, subst, inl, inr, arith, append_assoc, cond}
use Rattle.std.specs.Prelude.{Contains, slice_index}
use Rattle.std.proofs.lemmas.Bool.{false≢true}
use Rattle.std.proofs.lemmas.List.Elements.{Contains-append_left, Contains-append_right}
use Rattle.std.proofs.lemmas.List.Sums.{sum_by-cons}
use Rattle.morph_base.specs.declared.plan.Plan.{Plan}
use Rattle.morph_base.specs.declared.word.OpState.TheVariants.{Blocked}
use Rattle.morph_base.specs.declared.word.OpWord.{OpWord}
use Rattle.morph_base.specs.Plans.{origin_at}
use Rattle.morph_base.specs.Words.{IsWord, is_settled}
use Rattle.interleaving_core.specs.declared.event.CoreEvent.{CoreEvent}
use Rattle.interleaving_core.specs.declared.event.CoreEvent.TheVariants.{Ready as ReadyStep, Claim, Finish}
use Rattle.interleaving_core.specs.Counts.{evaluated, is_finish, is_spread, is_roll, spreads, rolled}
use Rattle.interleaving_core.specs.Core.{blocked, ready, claimed, has_run}
use Rattle.op_words.specs.declared.answers.Attempt.TheVariants.{Ran, Blocked as BlockedFor, Busy as BusyWith}
use Rattle.op_words.specs.declared.answers.Outcome.{Outcome}
use Rattle.op_words.specs.declared.trail.Item.{Item}
use Rattle.op_words.specs.declared.trail.View.{View}
use Rattle.op_words.specs.Attempts.{fetches, AttemptDoes}
use Rattle.op_words.specs.Calls.{IsReadValue}
use Rattle.op_words.specs.Trails.{loaded, left, HasLast, IsDisturbed, NoneOwn}
use Rattle.op_words.proofs.Making.{bare_blocked, last_else, none_elsewhere, none_then}
use Rattle.op_words.proofs.Trailing.{last_later, one_last, disturbed_later, disturbed_more}
use Rattle.op_eval.specs.declared.answers.Evaluation.TheVariants.{Evaluated, Blocked as BlockedOn, Busy as BusyAt}
use Rattle.op_eval.specs.Evaluations.{IsReadiedOrNot, IsClaimedWith, EvaluationDoes, IsEvaluatingSoFar, SoFar}
use Rattle.op_eval.proofs.Following.{claimed_other, one_is_last, one_none, found_other, far_then}
use Rattle.op_eval.proofs.Stepping.{count_quiet, readied_quiet, claimed_quiet}
use Rattle.op_eval.proofs.Holding.{read_more, read_later, reached_own, reached_idle, reached_disturbed, idle_open, begins_more}

module _ (p : Plan) (cap o : ℕ) {start v : View} {xs : List Item} {w : OpWord} (far : IsEvaluatingSoFar o start v xs w) (is_word : IsWord w) (here : w.state ≡ Blocked) where
  bare : w ≡ blocked w.attempt
  bare = bare_blocked w is_word here

  kept_attempt : (ys : List Item) → (w.attempt ≡ far.first.attempt) ⊎ IsDisturbed o (xs ++ ys)
  kept_attempt ys = elim far.kept [ inl kept ↦ inl kept | inr there ↦ inr (disturbed_more ys there) ]

  -- it was evaluated
  pub ran : {u : View} {r : Outcome} → AttemptDoes p o w.attempt v u (Ran r) → EvaluationDoes p cap o start u (Evaluated w.attempt r)
  ran {u} {r} does =
      let t = does.tells in
      let ys : List Item = does.words in
      let behind : List Item = left o (ready w.attempt) ∷ left o (claimed w.attempt v.tag) ∷ left o t.word ∷ [] in
      let whole : SoFar o start u (xs ++ ys) = far_then far.far does.goes does.own does.open_own in
      let tag : v.tag ≡ start.tag = far.far.goes.adds.tag in
      let begun : List CoreEvent = ReadyStep o ∷ start.events in
      let held : List CoreEvent = fetches o start.tag 0 t.values (Claim o start.tag ∷ begun) in
      let with : IsClaimedWith o start.tag t.values start.events held = (begun, inr refl, refl) in
      let steps : u.events ≡ Finish o start.tag ∷ held =
      t.steps ∙ ap (λ n. Finish o n ∷ fetches o n 0 t.values (Claim o n ∷ ReadyStep o ∷ v.events)) tag
      ∙ ap (λ es. Finish o start.tag ∷ fetches o start.tag 0 t.values (Claim o start.tag ∷ ReadyStep o ∷ es)) (far.unready here) in
      let last_behind : HasLast o behind t.word = last_later (left o (ready w.attempt) ∷ left o (claimed w.attempt v.tag) ∷ []) (one_is_last (left o t.word)) in
      let last : HasLast o ys t.word = subst (λ zs. HasLast o zs t.word) (sym t.words_are) (last_later t.row last_behind) in
      let inside : Contains ys (left o t.word) = subst (λ zs. Contains zs (left o t.word)) (sym t.words_are) (Contains-append_right t.row behind (left o t.word) (2, omega arith, refl)) in
      let there : Contains (xs ++ ys) (left o t.word) = Contains-append_right xs ys (left o t.word) inside in
      record {
        words = xs ++ ys;
        goes = whole.goes;
        own = whole.own;
        open_own = whole.open_own;
        first = far.first;
        rest = far.rest ++ ys;
        begins = begins_more far.rest xs ys far.begins;
        tells = record {
          word = t.word;
          last = last_later xs last;
          ran = t.ran;
          seen = there;
          attempt_is = t.attempt_is;
          began = far.began;
          kept = kept_attempt ys;
          values = t.values;
          word_is = t.word_is;
          outcome_is = t.answer;
          shown = t.shown;
          held = held;
          claimed_with = with;
          steps = steps;
          finished_more =
              let quiet = claimed_quiet is_finish o start.tag t.values with refl refl (λ k x. refl) in
              let counted = sum_by-cons (λ x. cond (is_finish x) 1 0) (Finish o start.tag) held in
              let all = ap evaluated steps in
              omega (arith, quiet, counted, all);
          records = t.records;
          read = λ j lt.
              read_later xs ys (origin_at p o j) (slice_index t.values j)
              (subst (λ zs. IsReadValue zs (origin_at p o j) (slice_index t.values j)) (sym t.words_are) (read_more t.row behind (origin_at p o j) (slice_index t.values j) (t.read j lt)));
          sources = λ s source.
              let at = t.valued s source in (
                at.0,
                Contains-append_right xs ys (loaded s at.0) (subst (λ zs. Contains zs (loaded s at.0)) (sym t.words_are) (Contains-append_left t.row behind (loaded s at.0) at.1)),
                at.2,
              );
        };
        no_spread = ap spreads steps ∙ count_quiet is_spread (Finish o start.tag) held refl ∙ claimed_quiet is_spread o start.tag t.values with refl refl (λ k x. refl);
        no_roll = ap rolled steps ∙ count_quiet is_roll (Finish o start.tag) held refl ∙ claimed_quiet is_roll o start.tag t.values with refl refl (λ k x. refl);
        reached = reached_own (left o t.word) there refl (λ same. false≢true (ap (λ (x : OpWord). has_run x.state) (sym same) ∙ t.ran));
      }

  -- a source has no value
  pub kept_back : {u : View} {at : ℕ} {z : OpWord} → AttemptDoes p o w.attempt v u (BlockedFor at z) → EvaluationDoes p cap o start u (BlockedOn at z)
  kept_back {u} {at} {z} does =
      let t = does.tells in
      let ys : List Item = does.words in
      let whole : SoFar o start u (xs ++ ys) = far_then far.far does.goes does.own does.open_own in
      let stays : u.events ≡ start.events = t.stays ∙ far.unready here in
      let last : HasLast o (xs ++ ys) w = last_else o xs ys w far.last t.elsewhere in
      let there : Contains (xs ++ ys) (loaded at z) = Contains-append_right xs ys (loaded at z) t.inside in
      record {
        words = xs ++ ys;
        goes = whole.goes;
        own = whole.own;
        open_own = whole.open_own;
        first = far.first;
        rest = far.rest ++ ys;
        begins = begins_more far.rest xs ys far.begins;
        tells = record {
          began = far.began;
          source = record { source = t.source; inside = there; settled = idle_open z.state t.idle; own = w; last = last; open_own = ap is_settled here };
          other = (t.elsewhere (loaded at z) t.inside).1;
          back = λ y last_is.
              elim (kept_attempt ys) [
                | inr shaken ↦ inr shaken
                | inl kept ↦ inl (sym (one_last last last_is) ∙ bare ∙ ap blocked kept)
              ];
          cause = inl t.idle;
          at_last = inl t.idle;
          steps = inl stays;
        };
        no_spread = ap spreads stays;
        no_roll = ap rolled stays;
        reached = reached_idle t.source there t.idle;
      }

  -- another hand changed it
  busy_with : {u : View} {z : OpWord} (ys : List Item) → SoFar o start u (xs ++ ys) → HasLast o ys z → Contains ys (loaded o z) → IsDisturbed o (xs ++ ys) → IsReadiedOrNot o start.events u.events
      → EvaluationDoes p cap o start u (BusyAt z)
  busy_with {u} {z} ys whole last seen there readied =
      let inside : Contains (xs ++ ys) (loaded o z) = Contains-append_right xs ys (loaded o z) seen in
      record {
        words = xs ++ ys;
        goes = whole.goes;
        own = whole.own;
        open_own = whole.open_own;
        first = far.first;
        rest = far.rest ++ ys;
        begins = begins_more far.rest xs ys far.begins;
        tells = record {
          began = far.began;
          last = last_later xs last;
          seen = inside;
          cause = inr there;
          by_another = claimed_other whole.goes.adds inside;
          steps = readied;
        };
        no_spread = readied_quiet is_spread o readied refl;
        no_roll = readied_quiet is_roll o readied refl;
        reached = reached_disturbed there;
      }

  pub forestalled : {u : View} {z : OpWord} → AttemptDoes p o w.attempt v u (BusyWith z) → EvaluationDoes p cap o start u (BusyAt z)
  forestalled {u} {z} does =
      let whole : SoFar o start u (xs ++ does.words) = far_then far.far does.goes does.own does.open_own in
      elim does.tells.cause [
        | inl other ↦
            let behind : List Item = loaded o z ∷ [] in
            let last : HasLast o does.words z = subst (λ zs. HasLast o zs z) (sym other.words_are) (last_later does.tells.row (one_is_last (loaded o z))) in
            let none = subst (λ zs. NoneOwn zs) (sym other.words_are) (none_then does.tells.row behind (none_elsewhere o does.tells.row does.tells.elsewhere) (one_none (loaded o z) refl)) in
            busy_with does.words whole last
            (subst (λ zs. Contains zs (loaded o z)) (sym other.words_are) (Contains-append_right does.tells.row behind (loaded o z) (0, omega arith, refl)))
            (found_other xs does.words far.last last (λ same. other.differs (sym same ∙ bare)) none) (inl (other.stays ∙ far.unready here))
        | inr taken ↦
            let made : List Item = left o (ready w.attempt) ∷ [] in
            let behind : List Item = left o (ready w.attempt) ∷ loaded o z ∷ [] in
            let last_made : HasLast o (does.tells.row ++ made) (ready w.attempt) = last_later does.tells.row (one_is_last (left o (ready w.attempt))) in
            let shaken : IsDisturbed o (does.tells.row ++ behind) = record {
              before = does.tells.row ++ made;
              known = ready w.attempt;
              found = z;
              rest = [];
              split = sym (append_assoc does.tells.row made (loaded o z ∷ []));
              last = last_made;
              differs = λ same. taken.differs (sym same);
            } in
            busy_with does.words whole
            (subst (λ zs. HasLast o zs z) (sym taken.words_are) (last_later does.tells.row (last_later made (one_is_last (loaded o z)))))
            (subst (λ zs. Contains zs (loaded o z)) (sym taken.words_are) (Contains-append_right does.tells.row behind (loaded o z) (1, omega arith, refl)))
            (disturbed_later xs (subst (IsDisturbed o) (sym taken.words_are) shaken)) (inr (taken.readied ∙ ap (λ (es : List CoreEvent). ReadyStep o ∷ es) (far.unready here)))
      ]
