-- What the call comes to that settles an operation.
use Rattle.std.proofs.Common.{◌≡◌, ◌≢◌, ◌⊎◌, ℕ, Bool, true, false, List, [], ◌∷◌, ◌++◌, refl, sym, ap, ◌∙◌, subst, inl, inr, arith, Some, None}
use Rattle.std.specs.Prelude.{Contains}
use Rattle.std.proofs.lemmas.Bool.{cases_eq, false≢true}
use Rattle.std.proofs.lemmas.List.Elements.{Contains-append_left, Contains-append_right}
use Rattle.morph_base.specs.declared.plan.Plan.{Plan}
use Rattle.morph_base.specs.declared.plan.Origin.TheVariants.{Op as Written}
use Rattle.morph_base.specs.declared.word.OpState.{OpState}
use Rattle.morph_base.specs.declared.word.OpState.TheVariants.{Blocked, Ready, Claimed, Executed, Failed, Spread, Settled, SettledAborted}
use Rattle.morph_base.specs.declared.word.OpWord.{OpWord}
use Rattle.morph_base.specs.Plans.{event_of, origin_at, final, verdict}
use Rattle.morph_base.specs.Words.{IsWord, is_settled, packed, settled}
use Rattle.morph_base.proofs.WordLaws.{one_word}
use Rattle.interleaving_core.specs.declared.event.CoreEvent.{CoreEvent}
use Rattle.interleaving_core.specs.declared.event.CoreEvent.TheVariants.{Settle}
use Rattle.interleaving_core.specs.Core.{blocked, has_run, is_open}
use Rattle.op_words.specs.declared.answers.SettleAnswer.{SettleAnswer}
use Rattle.op_words.specs.declared.answers.SettleAnswer.TheVariants.{Done, Not}
use Rattle.op_words.specs.declared.board.Board.{Board}
use Rattle.op_words.specs.declared.board.Hand.{Hand}
use Rattle.op_words.specs.declared.trail.Item.{Item}
use Rattle.op_words.specs.declared.trail.View.{View}
use Rattle.op_words.specs.Trails.{loaded, left, HasLast, IsDisturbed, IsSourceOf, NoneOwn, IsSteadyAt, IsCalmAt}
use Rattle.op_words.specs.Views.{IsDecisionSeen, Adds, settling}
use Rattle.op_words.specs.Plays.{Leaves}
use Rattle.op_words.specs.Judging.{IsStaleWord, SettleDoes, SettleGoodDoes}
use Rattle.op_words.specs.Hands.{plan_of, cap_of, view_of, call_on}
use Rattle.op_words.specs.Stepping.{Looked, Left, Learned, IsWalk}
use Rattle.op_words.specs.Comparing.{difference_at, IsNotedLast, IsOtherAt, BeginsWithLoad, IsSealed}
use Rattle.op_words.proofs.Rows.{not_inside}
use Rattle.op_words.proofs.Trailing.{last_later}
use Rattle.op_words.proofs.Adding.{adds_then, adds_look, along_one, calm_left, free_apart, last_one, none_one}
use Rattle.op_words.proofs.Making.{last_else, found_disturbed, none_elsewhere, none_then, own_none, own_left}
use Rattle.op_words.proofs.Walking.{walk_learn, walk_last, look_last, learned_seen}
use Rattle.op_words.proofs.Comparing.{read_right}
use Rattle.op_words.proofs.Judging.{stale_again}

adds_settling : (v : View) (o : ℕ) (z : OpWord) → Leaves v (settling o z v) (left o z) → Adds v (settling o z v) (left o z ∷ [])
adds_settling v o z tells = record {
  trail = refl;
  notes = refl;
  records = λ r inside. inside;
  decisions = λ d inside. inside;
  published = λ e inside. inside;
  settlings = λ x inside. Contains-append_left v.settlings _ x inside;
  tag = refl;
  made = refl;
  room = refl;
  joined = refl;
  places = refl;
  events = (_ ∷ [], refl, refl);
  agree = tells.told.agree;
  steady = along_one (IsSteadyAt v.tag) v.notes (left o z) tells.steady;
  calm = λ lone. along_one IsCalmAt v.trail (left o z) (calm_left v.trail o z);
}

module _ (b : Board) (p : Plan) (o : ℕ) (v : View) (h : Hand) (w : OpWord) (opened : BeginsWithLoad p o v (view_of h) w) where
  abbrev cap : ℕ
  cap = cap_of b

  last_first : HasLast o (loaded o w ∷ []) w
  last_first = last_one (loaded o w) (loaded o w ∷ []) refl

  -- its own word stopped the call
  pub stopped_here : ((w.state ≡ Claimed) ⊎ (is_settled w.state ≡ true)) ⊎ ((verdict p (event_of p o) ≡ true) × (w.state ≢ Executed)) → SettleDoes p cap o v (view_of h) (Not o w)
  stopped_here cause = record {
    words = loaded o w ∷ [];
    goes = opened.goes;
    own = own_none o (loaded o w ∷ []) (none_one o w);
    steps = opened.stays;
    tells = inl (
      refl,
      record {
        last = last_first;
        seen = (0, omega arith, refl);
        none = none_one o w;
        cause = elim cause [ inl held ↦ inl held | inr other ↦ inr (inr (other.0, inl other.1)) ];
      },
    );
  }

  module _ {k : Hand} (xs : List Item) (walk : IsWalk (call_on b h k) o xs) where
    abbrev front : List Item
    front = loaded o w ∷ xs

    adds_front : Adds v (view_of k) front
    adds_front = adds_then opened.goes.adds walk.adds

    free_front : (view_of k).claim ≡ None
    free_front = walk.claim ∙ opened.goes.free

    stays_front : (view_of k).events ≡ v.events
    stays_front = walk.events ∙ opened.stays

    last_front : HasLast o front w
    last_front = last_else o (loaded o w ∷ []) xs w last_first walk.elsewhere

    none_front : NoneOwn front
    none_front = none_then (loaded o w ∷ []) xs (none_one o w) (none_elsewhere o xs walk.elsewhere)

    -- a source did
    pub stopped_there : is_settled w.state ≡ false → (s : ℕ) (z : OpWord) → s ≢ o → IsSourceOf p o s → Contains xs (loaded s z) → is_settled z.state ≡ false → (verdict p (event_of p o) ≡ true) ⊎ (origin_at p o 0 ≡ Written s) → SettleDoes p cap o v (view_of k) (Not s z)
    stopped_there unsettled s z other source inside open_source needed = record {
      words = front;
      goes = record { adds = adds_front; free = free_front };
      own = own_none o front none_front;
      steps = stays_front;
      tells = inr (
        other,
        record {
          source = source;
          inside = Contains-append_right (loaded o w ∷ []) xs (loaded s z) inside;
          settled = open_source;
          own = w;
          last = last_front;
          open_own = unsettled;
        },
        needed,
      );
    }

    module _ (m : Hand) where
      -- its word was loaded again, or found by the exchange
      stopped_after : (z : OpWord) → Looked (call_on b k m) o z → IsDisturbed o (front ++ loaded o z ∷ []) ⊎ ((verdict p (event_of p o) ≡ true) × IsStaleWord p cap o v (view_of m) (front ++ loaded o z ∷ []) z) → SettleDoes p cap o v (view_of m) (Not o z)
      stopped_after z did cause = record {
        words = front ++ loaded o z ∷ [];
        goes = record {
          adds = adds_then adds_front (subst (λ (u : View). Adds (view_of k) u (loaded o z ∷ [])) (sym did.view) (adds_look o _ (view_of k) z (free_apart (view_of k) o free_front) did.tells));
          free = ap (λ (u : View). u.claim) did.view ∙ free_front;
        };
        own = own_none o (front ++ loaded o z ∷ []) none_all;
        steps = ap (λ (u : View). u.events) did.view ∙ stays_front;
        tells = inl (
          refl,
          record {
            last = last_later front (last_one (loaded o z) (loaded o z ∷ []) refl);
            seen = Contains-append_right front (loaded o z ∷ []) (loaded o z) (0, omega arith, refl);
            none = none_all;
            cause = inr (elim cause [ inl shaken ↦ inl shaken | inr stale ↦ inr (stale.0, inr stale.1) ]);
          },
        );
      }
        where
          none_all : NoneOwn (front ++ loaded o z ∷ [])
          none_all = none_then front (loaded o z ∷ []) none_front (none_one o z)

      pub found_other : (z : OpWord) → z ≢ w → Looked (call_on b k m) o z → SettleDoes p cap o v (view_of m) (Not o z)
      found_other z other did = stopped_after z did (inl (found_disturbed o front w z last_front other))

      -- a record differs
      pub record_differs : p ≡ plan_of b → IsWord w → has_run w.state ≡ true → verdict p (event_of p o) ≡ true → (j kept value : ℕ) → IsOtherAt p o w xs (view_of k) (difference_at j kept value) → (z : OpWord) → Looked (call_on b k m) o z → SettleDoes p cap o v (view_of m) (Not o z)
      record_differs plan is_word ran commits j kept value at z did =
          elim (cases_eq (packed z) (packed w)) [
            | inr other ↦ found_other z (λ same. other (ap packed same)) did
            | inl same ↦
                let one : w ≡ z = one_word w z is_word did.tells.is_word (sym same) in
                stopped_after z did (inr (
                  commits,
                  record {
                    place = j;
                    kept = kept;
                    value = value;
                    stale =
                        stale_again b p o plan v k m front walk.hand free_front adds_front z did (ap (λ (x : OpWord). has_run x.state) (sym one) ∙ ran) j kept value
                        (subst (λ (x : OpWord). IsOtherAt p o x xs (view_of k) (difference_at j kept value)) one at) (read_right (loaded o w ∷ []) xs (origin_at p o j) value at.right.read);
                  },
                ))
          ]

      -- it was settled
      settled_here : p ≡ plan_of b → (z : OpWord) → is_settled z.state ≡ true → z.by ≡ (view_of k).tag → z.attempt ≡ w.attempt → (x : ℕ) → Left (call_on b k m) (settling o z (view_of k)) (left o z) → x ≡ z.value → z.value ≡ final (plan_of b) o
          → SettleDoes p cap o v (view_of m) (Done x)
      settled_here plan z stands by attempt x step value_is fold = record {
        words = front ++ left o z ∷ [];
        goes = record {
          adds = adds_then adds_front (subst (λ (u : View). Adds (view_of k) u (left o z ∷ [])) (sym step.view) (adds_settling (view_of k) o z step.tells));
          free = ap (λ (u : View). u.claim) step.view ∙ free_front;
        };
        own = own_left o front z none_front;
        steps = ap (λ (u : View). u.events) step.view ∙ ap (λ t. Settle o t ∷ (view_of k).events) adds_front.tag ∙ ap (λ (es : List CoreEvent). Settle o v.tag ∷ es) stays_front;
        tells = record {
          first = w;
          rest = xs ++ left o z ∷ [];
          begins = refl;
          word = z;
          inside = Contains-append_right front (left o z ∷ []) (left o z) (0, omega arith, refl);
          last = last_later front (last_one (left o z) (left o z ∷ []) refl);
          settled = stands;
          mine = by ∙ adds_front.tag;
          kept = attempt;
          value_is = sym value_is;
          fold = value_is ∙ fold ∙ ap (λ (q : Plan). final q o) (sym plan);
          booked = subst (λ (u : View). Contains u.settlings (record { op = o; by = v.tag })) (sym step.view)
              (subst (λ t. Contains (settling o z (view_of k)).settlings (record { op = o; by = t })) adds_front.tag (Contains-append_right (view_of k).settlings _ _ (0, omega arith, refl)));
        };
      }

      -- the exchange
      pub sealed_as : p ≡ plan_of b → (z : OpWord) → is_settled z.state ≡ true → z.by ≡ (view_of k).tag → z.attempt ≡ w.attempt → (r : SettleAnswer) → IsSealed (call_on b k m) o w z r → SettleDoes p cap o v (view_of m) r
      sealed_as plan z stands by attempt (Done x) is = settled_here plan z stands by attempt x is.tells.0 is.tells.1 is.tells.2
      sealed_as plan z stands by attempt (Not at found) is =
          subst (λ n. SettleDoes p cap o v (view_of m) (Not n found)) (sym is.tells.0) (found_other found is.tells.1 is.tells.2)

-- ---- from a word that was judged good, with no load

module _ (b : Board) (p : Plan) (o : ℕ) (h m : Hand) (w : OpWord) (plan : p ≡ plan_of b) (free : (view_of h).claim ≡ None) where
  pub sealed_good : (r : SettleAnswer) → IsSealed (call_on b h m) o w (settled w.attempt w.value (view_of h).tag) r → SettleGoodDoes p o (view_of h) (view_of m) w r
  sealed_good (Done x) is =
      let z : OpWord = settled w.attempt w.value (view_of h).tag in
      let step = is.tells.0 in
      record {
        words = left o z ∷ [];
        goes = record {
          adds = subst (λ (u : View). Adds (view_of h) u (left o z ∷ [])) (sym step.view) (adds_settling (view_of h) o z step.tells);
          free = ap (λ (u : View). u.claim) step.view ∙ free;
        };
        own = own_left o [] z (λ t inside. absurd (not_inside t inside));
        steps = ap (λ (u : View). u.events) step.view;
        tells = record {
          word = z;
          words_are = refl;
          settled = refl;
          mine = refl;
          kept = refl;
          value_is = sym is.tells.1;
          fold = is.tells.1 ∙ is.tells.2 ∙ ap (λ (q : Plan). final q o) (sym plan);
          booked = subst (λ (u : View). Contains u.settlings (record { op = o; by = (view_of h).tag })) (sym step.view) (Contains-append_right (view_of h).settlings _ _ (0, omega arith, refl));
        };
      }
  sealed_good (Not at found) is =
      let did = is.tells.2 in
      record {
        words = loaded o found ∷ [];
        goes = record {
          adds = subst (λ (u : View). Adds (view_of h) u (loaded o found ∷ [])) (sym did.view) (adds_look o _ (view_of h) found (free_apart (view_of h) o free) did.tells);
          free = ap (λ (u : View). u.claim) did.view ∙ free;
        };
        own = own_none o (loaded o found ∷ []) (none_one o found);
        steps = ap (λ (u : View). u.events) did.view;
        tells = (is.tells.0, record { differs = is.tells.1; words_are = refl });
      }

-- ---- the begin of the call

pub closed_cases : (s : OpState) → is_open s ≡ false → (s ≡ Claimed) ⊎ (is_settled s ≡ true)
closed_cases Blocked is = absurd (false≢true (sym is))
closed_cases Ready is = absurd (false≢true (sym is))
closed_cases Claimed is = inl refl
closed_cases Executed is = absurd (false≢true (sym is))
closed_cases Failed is = absurd (false≢true (sym is))
closed_cases Spread is = absurd (false≢true (sym is))
closed_cases Settled is = inr refl
closed_cases SettledAborted is = inr refl

module _ (b : Board) (p : Plan) (o : ℕ) (h g : Hand) (w : OpWord) (free : (view_of h).claim ≡ None) (did : Looked (call_on b h g) o w) where
  pub opened_first : BeginsWithLoad p o (view_of h) (view_of g) w
  opened_first = record {
    goes = record {
      adds = subst (λ (u : View). Adds (view_of h) u (loaded o w ∷ [])) (sym did.view) (adds_look o _ (view_of h) w (free_apart (view_of h) o free) did.tells);
      free = ap (λ (u : View). u.claim) did.view ∙ free;
    };
    tag = ap (λ (u : View). u.tag) did.view;
    stays = ap (λ (u : View). u.events) did.view;
  }

  -- then the decision was loaded
  module _ (e : ℕ) (k : Hand) (committed : Bool) (learned : Learned (call_on b g k) e (Some committed)) where
    pub opened_then : BeginsWithLoad p o (view_of h) (view_of k) w
    opened_then =
        let walk = walk_learn b o did.hand learned in
        record {
          goes = record { adds = adds_then opened_first.goes.adds walk.adds; free = walk.claim ∙ opened_first.goes.free };
          tag = walk.adds.tag ∙ opened_first.tag;
          stays = walk.events ∙ opened_first.stays;
        }

    pub last_then : IsNotedLast o (view_of k) w
    last_then = walk_last b o (blocked 1) w (walk_learn b o did.hand learned) (look_last b o h g w (blocked 1) did)

    pub known_then : e ≡ event_of p o → IsDecisionSeen (view_of k) (event_of p o) committed
    known_then same = subst (λ (n : ℕ). IsDecisionSeen (view_of k) n committed) same (learned_seen b e g k committed learned)

    pub right_then : e ≡ event_of p o → p ≡ plan_of b → verdict p (event_of p o) ≡ committed
    right_then same plan = ap (verdict p) (sym same) ∙ ap (λ (q : Plan). verdict q e) plan ∙ learned.tells.right committed refl
