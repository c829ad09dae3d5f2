-- What `fetch` and `finish` tell, from what their steps told.
use Rattle.std.proofs.Common.{◌≡◌, ◌≢◌, ◌⊎◌, ℕ, ◌+◌, ◌<◌, true, false, cond, List, [], ◌∷◌, length, refl, sym, ap, ◌∙◌, subst, inl, inr, arith, Option, Some, None}
use Rattle.std.specs.Prelude.{Contains, slice_index}
use Rattle.std.proofs.lemmas.Option.{same_Some}
use Rattle.std.proofs.lemmas.List.Sums.{sum_by-cons}
use Rattle.std.proofs.lemmas.List.Elements.{Contains-append_left, Contains-append_right}
use Rattle.morph_base.specs.declared.plan.Plan.{Plan}
use Rattle.morph_base.specs.declared.plan.Origin.{Origin}
use Rattle.morph_base.specs.declared.plan.Origin.TheVariants.{Base, Op as Written}
use Rattle.morph_base.specs.declared.word.OpWord.{OpWord}
use Rattle.morph_base.specs.Functions.{value_of}
use Rattle.morph_base.specs.Plans.{op_at, origin_at}
use Rattle.morph_base.specs.Words.{is_idle, is_settled}
use Rattle.interleaving_core.specs.declared.entry.Held.{Held}
use Rattle.interleaving_core.specs.declared.event.CoreEvent.TheVariants.{Finish}
use Rattle.interleaving_core.specs.Core.{ended, finished, entry_of, has_run, places}
use Rattle.interleaving_core.specs.Counts.{is_finish, evaluated}
use Rattle.op_words.specs.declared.answers.Fetched.TheVariants.{Value, Unready}
use Rattle.op_words.specs.declared.answers.Outcome.{Outcome}
use Rattle.op_words.specs.declared.board.Board.{Board}
use Rattle.op_words.specs.declared.board.Hand.{Hand}
use Rattle.op_words.specs.declared.trail.Item.{Item}
use Rattle.op_words.specs.declared.trail.View.{View}
use Rattle.op_words.specs.Trails.{loaded, left, IsSteadyAt, IsCalmAt}
use Rattle.op_words.specs.Views.{Agrees, Adds, Holds, IsApart, records_from, fetching, finishing}
use Rattle.op_words.specs.Calls.{Elsewhere, IsReadValue, IsPlaceTaken, FetchDoes, FinishDoes, answer_of, outcome_of}
use Rattle.op_words.specs.Plays.{Leaves}
use Rattle.op_words.specs.Hands.{view_of, call_on}
use Rattle.op_words.specs.Stepping.{Looked, Left, IsPlaceKept}
use Rattle.op_words.specs.Kinds.{IsUsable}
use Rattle.op_words.proofs.Rows.{no_more, not_inside, one_inside}
use Rattle.op_words.proofs.Trailing.{along_none}
use Rattle.op_words.proofs.Adding.{adds_then, adds_look, along_one, calm_left}
use Rattle.op_words.proofs.Seeking.{looking-none}
use Rattle.op_words.proofs.Finishing.{has_record}
use Rattle.op_words.proofs.Making.{held_at}

adds_fetching : (v : View) (k : Held) (x : ℕ) → Agrees (fetching k x v) → Adds v (fetching k x v) []
adds_fetching v k x agree = record {
  trail = no_more v.trail;
  notes = no_more v.notes;
  records = λ r inside. inside;
  decisions = λ d inside. inside;
  published = λ e inside. inside;
  settlings = λ e inside. inside;
  tag = refl;
  made = refl;
  room = refl;
  joined = refl;
  places = refl;
  events = (_ ∷ [], refl, refl);
  agree = agree;
  steady = along_none (IsSteadyAt v.tag) v.notes;
  calm = λ lone. along_none IsCalmAt v.trail;
}

module _ (b : Board) (p : Plan) (cap o j : ℕ) where
  adds_kept : (a x : ℕ) (ys : List ℕ) (h g : Hand) → IsPlaceKept (call_on b h g) o a ys x → Adds (view_of h) (view_of g) []
  adds_kept a x ys h g did =
      subst (λ (u : View). Adds (view_of h) u []) (sym did.view) (adds_fetching (view_of h) (held_at o a ys) x (subst Agrees did.view did.hand.told.agree))

  module _ (h g : Hand) (a x : ℕ) (ys : List ℕ) (holds : Holds (view_of h) o a ys) where
    -- a base
    pub fetched_base : origin_at p o j ≡ Base x → ((n : ℕ) (zs : List ℕ) → Holds (view_of h) o n zs → IsPlaceKept (call_on b h g) o n zs x) → FetchDoes p cap o (view_of h) (view_of g) j (Value x)
    fetched_base is did = record {
      words = [];
      adds = adds_kept a x ys h g (did a ys holds);
      elsewhere = λ t inside. absurd (not_inside t inside);
      tells = λ n zs held.
          let step = did n zs held in
          record {
            read = subst (λ (q : Origin). IsReadValue [] q x) (sym is) refl;
            holds = ap (λ (v : View). v.claim) step.view;
            taken = subst (λ (q : Origin). IsPlaceTaken p cap o (view_of h) (view_of g) [] n q x) (sym is) (refl, refl);
            view_is = step.view ∙ ap (fetching (held_at o n zs) x) (looking-none (view_of h));
          };
    }

  module _ (h g : Hand) (s : ℕ) (w : OpWord) (other : s ≢ o) (is : origin_at p o j ≡ Written s) (did : Looked (call_on b h g) s w) (a : ℕ) (ys : List ℕ) (holds : Holds (view_of h) o a ys) where
    apart : IsApart (view_of h) s
    apart k claim same = other (sym same ∙ ap (λ (z : Held). z.op) (same_Some k (held_at o a ys) (sym claim ∙ holds)))

    adds_source : Adds (view_of h) (view_of g) (loaded s w ∷ [])
    adds_source = subst (λ (u : View). Adds (view_of h) u (loaded s w ∷ [])) (sym did.view) (adds_look s _ (view_of h) w apart did.tells)

    elsewhere_source : Elsewhere o (loaded s w ∷ [])
    elsewhere_source t inside = let e = one_inside (loaded s w) t inside in (sym (ap (λ (x : Item). x.own) e), λ same. other (ap (λ (x : Item). x.op) e ∙ same))

    pub still_holds : (n : ℕ) (zs : List ℕ) → Holds (view_of h) o n zs → Holds (view_of g) o n zs
    still_holds n zs held = ap (λ (v : View). v.claim) did.view ∙ held

    pub source_usable : is_idle w.state ≡ false → (a ≡ cap + 1 → is_settled w.state ≡ true) → IsUsable (view_of g) cap a (origin_at p o j) w.value
    source_usable shown last = subst (λ (q : Origin). IsUsable (view_of g) cap a q w.value) (sym is)
        (record {
          word = w;
          inside = subst (λ (v : View). Contains v.notes (loaded s w)) (sym did.view) (Contains-append_right (view_of h).notes (loaded s w ∷ []) (loaded s w) (0, omega arith, refl));
          shown = shown;
          at_last = last;
          value_is = refl;
        })

    pub fetched_source : (k : Hand) → is_idle w.state ≡ false → (a ≡ cap + 1 → is_settled w.state ≡ true) → ((n : ℕ) (zs : List ℕ) → Holds (view_of g) o n zs → IsPlaceKept (call_on b g k) o n zs w.value)
        → FetchDoes p cap o (view_of h) (view_of k) j (Value w.value)
    fetched_source k shown last kept = record {
      words = loaded s w ∷ [];
      adds = adds_then adds_source (adds_kept a w.value ys g k (kept a ys (still_holds a ys holds)));
      elsewhere = elsewhere_source;
      tells = λ n zs held.
          let step = kept n zs (still_holds n zs held) in
          let same : n ≡ a = ap (λ (z : Held). z.attempt) (same_Some (held_at o n zs) (held_at o a ys) (sym held ∙ holds)) in
          record {
            read = subst (λ (q : Origin). IsReadValue (loaded s w ∷ []) q w.value) (sym is) (w, (0, omega arith, refl), refl);
            holds = ap (λ (v : View). v.claim) step.view;
            taken = subst (λ (q : Origin). IsPlaceTaken p cap o (view_of h) (view_of k) (loaded s w ∷ []) n q w.value) (sym is)
                (record { word = w; words = refl; shown = shown; at_last = λ at. last (sym same ∙ at); value_is = refl });
            view_is = step.view ∙ ap (fetching (held_at o n zs) w.value) did.view;
          };
    }

    pub unfetched_source : j < places p o → is_settled w.state ≡ false → ((is_idle w.state ≡ true) ⊎ (a ≡ cap + 1)) → FetchDoes p cap o (view_of h) (view_of g) j (Unready s w)
    unfetched_source lt unsettled cause = record {
      words = loaded s w ∷ [];
      adds = adds_source;
      elsewhere = elsewhere_source;
      tells = λ n zs held.
          let same : a ≡ n = ap (λ (z : Held). z.attempt) (same_Some (held_at o a ys) (held_at o n zs) (sym holds ∙ held)) in
          record {
            source_is = record { place = j; in_places = lt; source_is = is };
            at_place = is;
            inside = (0, omega arith, refl);
            settled = unsettled;
            cause = elim cause [ inl idle ↦ inl idle | inr last ↦ inr (sym same ∙ last) ];
            holds = still_holds n zs held;
            view_is = did.view;
          };
    }

-- ---- finish

ran_ended : (a : ℕ) (xs : List ℕ) (r : Option ℕ) → has_run (ended a xs r).state ≡ true
ran_ended a xs (Some x) = refl
ran_ended a xs None = refl

attempt_ended : (a : ℕ) (xs : List ℕ) (r : Option ℕ) → (ended a xs r).attempt ≡ a
attempt_ended a xs (Some x) = refl
attempt_ended a xs None = refl

outcome_ended : (a : ℕ) (xs : List ℕ) (r : Option ℕ) → answer_of r ≡ outcome_of (ended a xs r)
outcome_ended a xs (Some x) = refl
outcome_ended a xs None = refl

adds_finishing : (v : View) (o : ℕ) (w : OpWord) (xs : List ℕ) → Leaves v (finishing o w xs v) (left o w) → Adds v (finishing o w xs v) (left o w ∷ [])
adds_finishing v o w xs tells = record {
  trail = refl;
  notes = refl;
  records = λ r inside. Contains-append_left v.records (records_from 0 o w xs) r inside;
  decisions = λ d inside. inside;
  published = λ e inside. Contains-append_left v.published (entry_of o w ∷ []) e inside;
  settlings = λ e inside. inside;
  tag = refl;
  made = refl;
  room = refl;
  joined = refl;
  places = refl;
  events = (_ ∷ [], refl, refl);
  agree = tells.told.agree;
  steady = along_one (IsSteadyAt v.tag) v.notes (left o w) tells.steady;
  calm = λ lone. along_one IsCalmAt v.trail (left o w) (calm_left v.trail o w);
}

module _ (b : Board) (p : Plan) (cap o : ℕ) (h g : Hand) (w : OpWord) (a : ℕ) (xs : List ℕ) (holds : Holds (view_of h) o a xs) (all : length xs ≡ places p o) (word_is : w ≡ finished (op_at p o).op a xs)
    (did : (n : ℕ) (ys : List ℕ) → Holds (view_of h) o n ys → Left (call_on b h g) (finishing o w ys (view_of h)) (left o w)) where
  pub finish_does : (r : Outcome) → r ≡ answer_of (value_of (op_at p o).op xs) → FinishDoes p cap o (view_of h) (view_of g) r
  finish_does r answer = record {
    words = left o w ∷ [];
    adds = let step = did a xs holds in subst (λ (u : View). Adds (view_of h) u (left o w ∷ [])) (sym step.view) (adds_finishing (view_of h) o w xs step.tells);
    free = ap (λ (v : View). v.claim) (did a xs holds).view;
    tells = λ n ys held.
        let same = same_Some (held_at o a xs) (held_at o n ys) (sym holds ∙ held) in
        let step = did n ys held in
        let attempt : a ≡ n = ap (λ (z : Held). z.attempt) same in let values : xs ≡ ys = ap (λ (z : Held). z.values) same in
        let word : w ≡ finished (op_at p o).op n ys = word_is ∙ ap (λ (z : ℕ × List ℕ). finished (op_at p o).op z.0 z.1) (λ i. (attempt i, values i)) in
        let len : length ys ≡ places p o = ap (λ (l : List ℕ). length l) (sym values) ∙ all in
        record {
          free = ap (λ (v : View). v.claim) step.view;
          word = w;
          word_is = word;
          words = refl;
          ran = ap (λ (z : OpWord). has_run z.state) word ∙ ran_ended n ys (value_of (op_at p o).op ys);
          attempt_is = ap (λ (z : OpWord). z.attempt) word ∙ attempt_ended n ys (value_of (op_at p o).op ys);
          shown = subst (λ (u : View). Contains u.published (entry_of o w)) (sym step.view) (Contains-append_right (view_of h).published (entry_of o w ∷ []) (entry_of o w) (0, omega arith, refl));
          finished_more = ap (λ (u : View). evaluated u.events) step.view ∙ sum_by-cons (λ x. cond (is_finish x) 1 0) (Finish o (view_of h).tag) (view_of h).events ∙ one_more (evaluated (view_of h).events);
          records = record {
            len = len;
            each = λ k lt. subst (λ (u : View). Contains u.records (record { op = o; place = k; value = slice_index ys k; word = w })) (sym step.view)
                (Contains-append_right (view_of h).records (records_from 0 o w ys) (record { op = o; place = k; value = slice_index ys k; word = w })
                (subst (λ (m : ℕ). Contains (records_from 0 o w ys) (record { op = o; place = m; value = slice_index ys k; word = w })) (from_zero k) (has_record 0 o w ys k (omega (arith, lt, len)))));
          };
          answer = answer ∙ ap (λ (l : List ℕ). answer_of (value_of (op_at p o).op l)) values;
          outcome = answer ∙ ap (λ (l : List ℕ). answer_of (value_of (op_at p o).op l)) values ∙ outcome_ended n ys (value_of (op_at p o).op ys) ∙ ap outcome_of (sym word);
          view_is = step.view;
        };
  }
    where
      from_zero : (n : ℕ) → 0 + n ≡ n
      from_zero n = omega arith

      one_more : (n : ℕ) → 1 + n ≡ n + 1
      one_more n = omega arith
