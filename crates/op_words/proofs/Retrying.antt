-- What `spread` tells, from what its steps told.
use Rattle.std.proofs.Common.{◌≡◌, ◌≢◌, ◌⊎◌, ℕ, ◌+◌, ◌<◌, ◌≤◌, Bool, true, cond, List, [], ◌∷◌, ◌++◌, refl, sym, ap, ◌∙◌, subst, inl, inr, arith, None}
use Rattle.std.specs.Prelude.{Contains, count_by}
use Rattle.std.proofs.lemmas.List.Elements.{Contains-append_left, Contains-append_right}
use Rattle.std.proofs.lemmas.List.Sums.{sum_by-cons}
use Rattle.morph_base.specs.declared.plan.Plan.{Plan}
use Rattle.morph_base.specs.declared.word.OpState.TheVariants.{Executed}
use Rattle.morph_base.specs.declared.word.OpWord.{OpWord}
use Rattle.interleaving_core.specs.declared.event.CoreEvent.{CoreEvent}
use Rattle.interleaving_core.specs.declared.event.CoreEvent.TheVariants.{Spread as SpreadStep}
use Rattle.interleaving_core.specs.Core.{blocked, spread, entry_of}
use Rattle.interleaving_core.specs.Counts.{is_spread, spreads}
use Rattle.op_words.specs.declared.answers.Spreaded.TheVariants.{Done as HasSpread, Not as Unspread}
use Rattle.op_words.specs.declared.board.Board.{Board}
use Rattle.op_words.specs.declared.board.Hand.{Hand}
use Rattle.op_words.specs.declared.trail.Item.{Item}
use Rattle.op_words.specs.declared.trail.View.{View}
use Rattle.op_words.specs.Trails.{loaded, left, HasLast, NoneOwn, IsSteadyAt, IsCalmAt}
use Rattle.op_words.specs.Views.{Adds, HasShownFailure, IsRecordSeen, last_op, spreading}
use Rattle.op_words.specs.Plays.{Leaves}
use Rattle.op_words.specs.Hands.{view_of, call_on}
use Rattle.op_words.specs.Stepping.{Looked, Left, Recalled, IsWalk}
use Rattle.op_words.specs.Retrying.{IsSpreadFrom, SpreadDoes}
use Rattle.op_words.specs.Grounds.{HasGroundsToSpread}
use Rattle.op_words.proofs.Trailing.{last_later}
use Rattle.op_words.proofs.Adding.{adds_then, adds_look, along_one, calm_left, free_apart, last_one, none_one}
use Rattle.op_words.proofs.Making.{last_else, found_disturbed, none_elsewhere, none_then, own_none, open_none, own_left, open_left}
use Rattle.op_words.proofs.Walking.{walk_then, walk_recall, walk_look, look_last, recalled_seen}

-- the operation of the last item
last_op-append : (d : ℕ) (xs : List Item) (t : Item) → last_op d (xs ++ t ∷ []) ≡ t.op
unfolding last_op
last_op-append d [] t = refl
last_op-append d (x ∷ xs) t = last_op-append x.op xs t

adds_spreading : (v : View) (o : ℕ) (w : OpWord) → Leaves v (spreading o w v) (left o w) → Adds v (spreading o w v) (left o w ∷ [])
adds_spreading v o w tells = record {
  trail = refl;
  notes = refl;
  records = λ r inside. inside;
  decisions = λ d inside. inside;
  published = λ x inside. Contains-append_left v.published (entry_of o w ∷ []) x inside;
  settlings = λ x inside. inside;
  tag = refl;
  made = refl;
  room = refl;
  joined = refl;
  places = refl;
  events = (_ ∷ [], refl, refl);
  agree = tells.told.agree;
  steady = along_one (IsSteadyAt v.tag) v.notes (left o w) tells.steady;
  calm = λ lone. along_one IsCalmAt v.trail (left o w) (calm_left v.trail o w);
}

pub count_one : (q : CoreEvent → Bool) (e : CoreEvent) (es : List CoreEvent) → q e ≡ true → count_by q (e ∷ es) ≡ count_by q es + 1
count_one q e es is = sum_by-cons (λ x. cond (q x) 1 0) e es ∙ ap (λ b. cond b 1 0 + count_by q es) is ∙ turn (count_by q es)
  where
    turn : (n : ℕ) → 1 + n ≡ n + 1
    turn n = omega arith

-- ---- the operation's word was loaded, and words of others after it

module _ (b : Board) (p : Plan) (cap o : ℕ) (h g : Hand) (w : OpWord) (free : (view_of h).claim ≡ None) (did : Looked (call_on b h g) o w) where
  pub adds_first : Adds (view_of h) (view_of g) (loaded o w ∷ [])
  adds_first = subst (λ (u : View). Adds (view_of h) u (loaded o w ∷ [])) (sym did.view) (adds_look o _ (view_of h) w (free_apart (view_of h) o free) did.tells)

  pub free_next : (view_of g).claim ≡ None
  free_next = ap (λ (v : View). v.claim) did.view ∙ free

  pub events_first : (view_of g).events ≡ (view_of h).events
  events_first = ap (λ (v : View). v.events) did.view

  pub not_spread : (q : ℕ) → (w.state ≢ Executed) ⊎ (cap ≤ w.attempt) → SpreadDoes p cap o (view_of h) (view_of g) q (Unspread w)
  not_spread q other = record {
    words = loaded o w ∷ [];
    goes = record { adds = adds_first; free = free_next };
    own = own_none o (loaded o w ∷ []) (none_one o w);
    open_own = open_none (loaded o w ∷ []) (none_one o w);
    steps = events_first;
    tells = record {
      last = last_one (loaded o w) (loaded o w ∷ []) refl;
      seen = (0, omega arith, refl);
      none = none_one o w;
      cause = elim other [ inl state ↦ inl state | inr above ↦ inr (inl above) ];
    };
  }

  module _ {k : Hand} (xs : List Item) (walk : IsWalk (call_on b g k) o xs) where
    abbrev front : List Item
    front = loaded o w ∷ xs

    pub adds_front : Adds (view_of h) (view_of k) (loaded o w ∷ xs)
    adds_front = adds_then adds_first walk.adds

    pub last_front : HasLast o (loaded o w ∷ xs) w
    last_front = last_else o (loaded o w ∷ []) xs w (last_one (loaded o w) (loaded o w ∷ []) refl) walk.elsewhere

    pub none_front : NoneOwn (loaded o w ∷ xs)
    none_front = none_then (loaded o w ∷ []) xs (none_one o w) (none_elsewhere o xs walk.elsewhere)

    pub free_front : (view_of k).claim ≡ None
    free_front = walk.claim ∙ free_next

    pub events_front : (view_of k).events ≡ (view_of h).events
    events_front = walk.events ∙ events_first

    module _ (m : Hand) where
      pub spread_done : (q : ℕ) → last_op 0 (view_of k).notes ≡ q → (x : ℕ) → w.state ≡ Executed → w.attempt < cap → IsRecordSeen (view_of k) o 0 w x
          → Left (call_on b k m) (spreading o (spread (w.attempt + 1) x) (view_of k)) (left o (spread (w.attempt + 1) x)) → SpreadDoes p cap o (view_of h) (view_of m) q HasSpread
      spread_done q sibling x executed below seen step =
          let z : OpWord = spread (w.attempt + 1) x in
          record {
            words = front ++ left o z ∷ [];
            goes = record {
              adds = adds_then adds_front (subst (λ (u : View). Adds (view_of k) u (left o z ∷ [])) (sym step.view) (adds_spreading (view_of k) o z step.tells));
              free = ap (λ (v : View). v.claim) step.view ∙ free_front;
            };
            own = own_left o front z none_front;
            open_own = open_left o front z refl none_front;
            steps = ap (λ (u : View). u.events) step.view ∙ ap (λ s. SpreadStep o s ∷ (view_of k).events) sibling ∙ ap (λ (es : List CoreEvent). SpreadStep o q ∷ es) events_front;
            tells = record {
              first = w;
              seen = (0, omega arith, refl);
              executed = executed;
              below = below;
              value = x;
              record_is = subst (λ (u : View). IsRecordSeen u o 0 w x) (sym step.view) seen;
              last = last_later front (last_one (left o z) (left o z ∷ []) refl);
              inside = Contains-append_right front (left o z ∷ []) (left o z) (0, omega arith, refl);
              shown = subst (λ (u : View). Contains u.published (entry_of o z)) (sym step.view) (Contains-append_right (view_of k).published (entry_of o z ∷ []) (entry_of o z) (0, omega arith, refl));
              counted = ap (λ (u : View). spreads u.events) step.view ∙ count_one is_spread (SpreadStep o (last_op 0 (view_of k).notes)) (view_of k).events refl ∙ ap (λ es. spreads es + 1) events_front;
            };
          }

      pub found_unspread : (q : ℕ) {z : OpWord} → z ≢ w → Looked (call_on b k m) o z → SpreadDoes p cap o (view_of h) (view_of m) q (Unspread z)
      found_unspread q {z} other step = record {
        words = front ++ loaded o z ∷ [];
        goes = record {
          adds = adds_then adds_front (subst (λ (u : View). Adds (view_of k) u (loaded o z ∷ [])) (sym step.view) (adds_look o _ (view_of k) z (free_apart (view_of k) o free_front) step.tells));
          free = ap (λ (v : View). v.claim) step.view ∙ free_front;
        };
        own = own_none o (front ++ loaded o z ∷ []) (none_then front (loaded o z ∷ []) none_front (none_one o z));
        open_own = open_none (front ++ loaded o z ∷ []) (none_then front (loaded o z ∷ []) none_front (none_one o z));
        steps = ap (λ (u : View). u.events) step.view ∙ events_front;
        tells = record {
          last = last_later front (last_one (loaded o z) (loaded o z ∷ []) refl);
          seen = Contains-append_right front (loaded o z ∷ []) (loaded o z) (0, omega arith, refl);
          none = none_then front (loaded o z ∷ []) none_front (none_one o z);
          cause = inr (inr (found_disturbed o front w z last_front other));
        };
      }

-- ---- before a spread: the record and the sibling's word are loaded

module _ (b : Board) (p : Plan) (cap o q : ℕ) (h g k m : Hand) (w z : OpWord) (x : ℕ) (free : (view_of h).claim ≡ None) (from : IsSpreadFrom p o q (view_of h))
    (did : Looked (call_on b h g) o w) (record_did : Recalled (call_on b g k) o 0 x) (sibling_did : Looked (call_on b k m) q z) where
  walk_record : IsWalk (call_on b g k) o []
  walk_record = walk_recall b o did.hand record_did

  pub walk_spread : IsWalk (call_on b g m) o (loaded q z ∷ [])
  walk_spread = walk_then b o walk_record (walk_look b o q from.another (free_apart (view_of k) q (walk_record.claim ∙ free_next b p cap o h g w free did)) sibling_did)

  pub record_spread : IsRecordSeen (view_of m) o 0 w x
  record_spread =
      subst (λ (u : View). IsRecordSeen u o 0 w x) (sym sibling_did.view)
      (recalled_seen b o 0 g k x w (look_last b o h g w (blocked 1) did) record_did)

  pub sibling_last : last_op 0 (view_of m).notes ≡ q
  sibling_last = ap (λ (u : View). last_op 0 u.notes) sibling_did.view ∙ last_op-append 0 (view_of k).notes (loaded q z)

  failure_kept : HasShownFailure (view_of m) q
  failure_kept = record {
    entry = from.failure.entry;
    inside = walk_spread.adds.published from.failure.entry ((adds_first b p cap o h g w free did).published from.failure.entry from.failure.inside);
    op_is = from.failure.op_is;
    failed_is = from.failure.failed_is;
  }

  pub grounds_spread : w.state ≡ Executed → w.attempt < cap → HasGroundsToSpread p cap o (view_of m) w x
  grounds_spread executed below = record {
    executed = executed;
    below = below;
    sibling = subst (λ s. IsSpreadFrom p o s (view_of m)) (sym sibling_last) (record { in_range = from.in_range; another = from.another; same_event = from.same_event; failure = failure_kept });
    record_is = record_spread;
  }
