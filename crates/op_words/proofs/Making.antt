-- What `ready`, `claim` and `give_back` say, from what their steps said.
use Rattle.std.proofs.Common.{◌≡◌, ◌≢◌, ℕ, suc, true, false, List, [], ◌∷◌, ◌++◌, refl, sym, ap, ◌∙◌, subst, inl, inr, arith, suc-le-suc, None}
use Rattle.std.specs.Prelude.{Contains}
use Rattle.std.proofs.lemmas.Bool.{false≢true}
use Rattle.std.proofs.lemmas.List.Elements.{Contains-append_left, Contains-append_right, Contains-append_cases}
use Rattle.morph_base.specs.declared.plan.Plan.{Plan}
use Rattle.morph_base.specs.declared.word.OpState.TheVariants.{Blocked, Ready}
use Rattle.morph_base.specs.declared.word.OpWord.{OpWord}
use Rattle.morph_base.specs.Words.{IsWord, is_idle, is_settled, has_worker}
use Rattle.std.proofs.lemmas.Option.{same_Some}
use Rattle.interleaving_core.specs.declared.entry.Held.{Held}
use Rattle.interleaving_core.specs.declared.event.CoreEvent.{CoreEvent}
use Rattle.interleaving_core.specs.Core.{blocked, ready, claimed}
use Rattle.op_words.specs.declared.answers.Readied.TheVariants.{Made, Not as Unmade}
use Rattle.op_words.specs.declared.answers.Claimed.TheVariants.{Held as HeldAt, Not as Unheld}
use Rattle.op_words.specs.declared.answers.Stop.{Stop}
use Rattle.op_words.specs.declared.board.Board.{Board}
use Rattle.op_words.specs.declared.board.Hand.{Hand}
use Rattle.op_words.specs.declared.trail.Item.{Item}
use Rattle.op_words.specs.declared.trail.View.{View}
use Rattle.op_words.specs.Trails.{loaded, left, last_word, HasLast, IsDisturbed, IsSourceOf, IsSteadyAt, IsCalmAt, OwnOn, OwnOpen, NoneOwn}
use Rattle.op_words.specs.Views.{Adds, looking, looked, Holds, leaving, making, claiming, giving_back}
use Rattle.op_words.specs.Calls.{Elsewhere, MakeDoes, ClaimDoes, GiveBackDoes}
use Rattle.op_words.specs.Plays.{Leaves}
use Rattle.op_words.specs.Hands.{view_of, call_on}
use Rattle.op_words.specs.Stepping.{Looked, Left, IsRow}
use Rattle.op_words.proofs.Rows.{one_inside}
use Rattle.op_words.proofs.Trailing.{same_parts, last-none, last-append, last-skip, last_later}
use Rattle.op_words.proofs.Adding.{adds_then, adds_look, along_one, calm_left, free_apart, last_one, none_one}
use Rattle.op_words.proofs.Seeking.{looking-then}

-- a word that is blocked, or ready, is bare
pub bare_blocked : (w : OpWord) → IsWord w → w.state ≡ Blocked → w ≡ blocked w.attempt
bare_blocked w is state = same_parts w (blocked w.attempt) (is.blank (ap is_idle state)) refl (is.by_none (ap has_worker state)) state

pub bare_ready : (w : OpWord) → IsWord w → w.state ≡ Ready → w ≡ ready w.attempt
bare_ready w is state = same_parts w (ready w.attempt) (is.blank (ap is_idle state)) refl (is.by_none (ap has_worker state)) state

-- words in range
pub word_ready : (a : ℕ) → IsWord (blocked a) → IsWord (ready a)
word_ready a is = record { small = is.small; first = is.first; last = is.last; blank = λ e. refl; by_worker = λ e. absurd (false≢true e); by_none = λ e. refl }

pub word_blocked : (a : ℕ) → IsWord (ready a) → IsWord (blocked a)
word_blocked a is = record { small = is.small; first = is.first; last = is.last; blank = λ e. refl; by_worker = λ e. absurd (false≢true e); by_none = λ e. refl }

-- ---- a step that leaves a word

module _ (v : View) (o : ℕ) (w : OpWord) (e : CoreEvent) where
  pub adds_leave : Leaves v (leaving o w e v) (left o w) → Adds v (leaving o w e v) (left o w ∷ [])
  adds_leave tells = record {
    trail = refl;
    notes = refl;
    records = λ r inside. inside;
    decisions = λ d inside. inside;
    published = λ x inside. inside;
    settlings = λ x inside. inside;
    tag = refl;
    made = refl;
    room = refl;
    joined = refl;
    places = refl;
    events = (e ∷ [], refl, refl);
    agree = tells.told.agree;
    steady = along_one (IsSteadyAt v.tag) v.notes (left o w) tells.steady;
    calm = λ lone. along_one IsCalmAt v.trail (left o w) (calm_left v.trail o w);
  }

pub adds_claiming : (v : View) (o a : ℕ) → Leaves v (claiming o a v) (left o (claimed a v.tag)) → Adds v (claiming o a v) (left o (claimed a v.tag) ∷ [])
adds_claiming v o a tells = record {
  trail = refl;
  notes = refl;
  records = λ r inside. inside;
  decisions = λ d inside. inside;
  published = λ x inside. inside;
  settlings = λ x inside. inside;
  tag = refl;
  made = refl;
  room = refl;
  joined = refl;
  places = refl;
  events = (_ ∷ [], refl, refl);
  agree = tells.told.agree;
  steady = along_one (IsSteadyAt v.tag) v.notes (left o (claimed a v.tag)) tells.steady;
  calm = λ lone. along_one IsCalmAt v.trail (left o (claimed a v.tag)) (calm_left v.trail o (claimed a v.tag));
}

-- ---- what was loaded of the operation itself

-- the last word stays where nothing of the operation follows
pub last_else : (o : ℕ) (xs ys : List Item) (w : OpWord) → HasLast o xs w → Elsewhere o ys → HasLast o (xs ++ ys) w
last_else o xs ys w last elsewhere = record { is = λ d. last-append o d xs ys ∙ passed (last_word o d xs) ys elsewhere ∙ last.is d }
  where
    passed : (d : OpWord) (zs : List Item) → Elsewhere o zs → last_word o d zs ≡ d
    passed d [] none = last-none o d
    passed d (z ∷ zs) none = last-skip o d z zs (none z (0, omega arith, refl)).1 ∙ passed d zs (λ t inside. none t (suc inside.0, suc-le-suc inside.1, inside.2))

-- a word that was found in place of the one loaded before
pub found_disturbed : (o : ℕ) (xs : List Item) (known found : OpWord) → HasLast o xs known → found ≢ known → IsDisturbed o (xs ++ loaded o found ∷ [])
found_disturbed o xs known found last differs = record { before = xs; known = known; found = found; rest = []; split = refl; last = last; differs = λ same. differs (sym same) }

pub none_elsewhere : (o : ℕ) (xs : List Item) → Elsewhere o xs → NoneOwn xs
none_elsewhere o xs elsewhere t inside = (elsewhere t inside).0

pub none_then : (xs ys : List Item) → NoneOwn xs → NoneOwn ys → NoneOwn (xs ++ ys)
none_then xs ys first second t inside =
    elim (Contains-append_cases xs ys t inside) [
      | inl here ↦ first t here
      | inr later ↦ second t later
    ]

pub own_none : (o : ℕ) (xs : List Item) → NoneOwn xs → OwnOn o xs
own_none o xs none t inside own = absurd (false≢true (sym (none t inside) ∙ own))

pub open_none : (xs : List Item) → NoneOwn xs → OwnOpen xs
open_none xs none t inside own = absurd (false≢true (sym (none t inside) ∙ own))

pub own_left : (o : ℕ) (xs : List Item) (w : OpWord) → NoneOwn xs → OwnOn o (xs ++ left o w ∷ [])
own_left o xs w none t inside own =
    elim (Contains-append_cases xs (left o w ∷ []) t inside) [
      | inl here ↦ absurd (false≢true (sym (none t here) ∙ own))
      | inr last ↦ sym (ap (λ (x : Item). x.op) (one_inside (left o w) t last))
    ]

pub open_left : (o : ℕ) (xs : List Item) (w : OpWord) → is_settled w.state ≡ false → NoneOwn xs → OwnOpen (xs ++ left o w ∷ [])
open_left o xs w unsettled none t inside own =
    elim (Contains-append_cases xs (left o w ∷ []) t inside) [
      | inl here ↦ absurd (false≢true (sym (none t here) ∙ own))
      | inr last ↦ sym (ap (λ (x : Item). is_settled x.word.state) (one_inside (left o w) t last)) ∙ unsettled
    ]

-- ---- ready

module _ (b : Board) (p : Plan) (cap o : ℕ) (h g : Hand) (w : OpWord) (free : (view_of h).claim ≡ None) (did : Looked (call_on b h g) o w) where
  adds_first : Adds (view_of h) (view_of g) (loaded o w ∷ [])
  adds_first = subst (λ (u : View). Adds (view_of h) u (loaded o w ∷ [])) (sym did.view) (adds_look o _ (view_of h) w (free_apart (view_of h) o free) did.tells)

  free_next : (view_of g).claim ≡ None
  free_next = ap (λ (v : View). v.claim) did.view ∙ free

  pub not_blocked : w.state ≢ Blocked → MakeDoes p cap o (view_of h) (view_of g) (Unmade o w)
  not_blocked other = record {
    words = loaded o w ∷ [];
    goes = record { adds = adds_first; free = free_next };
    own = own_none o (loaded o w ∷ []) (none_one o w);
    open_own = open_none (loaded o w ∷ []) (none_one o w);
    first = w;
    rest = [];
    begins = refl;
    tells = inl (refl, record { last = last_one (loaded o w) (loaded o w ∷ []) refl; seen = (0, omega arith, refl); none = none_one o w; cause = inl other; view_is = did.view });
  }

  pub not_ready : w.state ≢ Ready → ClaimDoes p cap o (view_of h) (view_of g) (Unheld w)
  not_ready other = record {
    words = loaded o w ∷ [];
    adds = adds_first;
    tells = record { free = free_next; last = last_one (loaded o w) (loaded o w ∷ []) refl; seen = (0, omega arith, refl); none = none_one o w; cause = inl other; view_is = did.view };
  }

  module _ (state : w.state ≡ Blocked) {k : Hand} (xs : List Item) (row : IsRow (call_on b g k) o xs) where
    abbrev front : List Item
    front = loaded o w ∷ xs

    view_front : view_of k ≡ looking front (view_of h)
    view_front = row.view ∙ ap (looking xs) did.view ∙ looking-then (view_of h) (loaded o w ∷ []) xs

    adds_front : Adds (view_of h) (view_of k) front
    adds_front = adds_then adds_first row.adds

    last_front : HasLast o front w
    last_front = last_else o (loaded o w ∷ []) xs w (last_one (loaded o w) (loaded o w ∷ []) refl) row.elsewhere

    none_front : NoneOwn front
    none_front = none_then (loaded o w ∷ []) xs (none_one o w) (none_elsewhere o xs row.elsewhere)

    free_front : (view_of k).claim ≡ None
    free_front = ap (λ (v : View). v.claim) row.view ∙ free_next

    pub source_idle : (stop : Stop) → stop.source ≢ o → IsSourceOf p o stop.source → Contains xs (loaded stop.source stop.word) → is_idle stop.word.state ≡ true
        → MakeDoes p cap o (view_of h) (view_of k) (Unmade stop.source stop.word)
    source_idle stop other source inside idle = record {
      words = front;
      goes = record { adds = adds_front; free = free_front };
      own = own_none o front none_front;
      open_own = open_none front none_front;
      first = w;
      rest = xs;
      begins = refl;
      tells = inr (
        other,
        record {
          source = source;
          inside = Contains-append_right (loaded o w ∷ []) xs (loaded stop.source stop.word) inside;
          none = none_front;
          idle = idle;
          own = w;
          last = last_front;
          own_blocked = state;
          own_bare = bare_blocked w did.tells.is_word state;
          view_is = view_front;
        },
      );
    }

    -- the exchange
    module _ (m : Hand) where
      pub made_ready : ((s : ℕ) → IsSourceOf p o s → (z : OpWord) × Contains xs (loaded s z) × (is_idle z.state ≡ false))
          → Left (call_on b k m) (making o w.attempt (view_of k)) (left o (ready w.attempt)) → MakeDoes p cap o (view_of h) (view_of m) Made
      made_ready sources step = record {
        words = front ++ left o (ready w.attempt) ∷ [];
        goes = record {
          adds = adds_then adds_front (subst (λ (u : View). Adds (view_of k) u (left o (ready w.attempt) ∷ [])) (sym step.view) (adds_leave (view_of k) o (ready w.attempt) _ step.tells));
          free = ap (λ (v : View). v.claim) step.view ∙ free_front;
        };
        own = own_left o front (ready w.attempt) none_front;
        open_own = open_left o front (ready w.attempt) refl none_front;
        first = w;
        rest = xs ++ left o (ready w.attempt) ∷ [];
        begins = refl;
        tells = record {
          was_blocked = bare_blocked w did.tells.is_word state;
          last = last_later front (last_one (left o (ready w.attempt)) (left o (ready w.attempt) ∷ []) refl);
          sources = λ s source. let r = sources s source in
              (r.0, Contains-append_left front (left o (ready w.attempt) ∷ []) (loaded s r.0) (Contains-append_right (loaded o w ∷ []) xs (loaded s r.0) r.1), r.2);
          front = front;
          words_are = refl;
          view_is = step.view ∙ ap (making o w.attempt) view_front;
        };
      }

      pub found_another : {z : OpWord} → z ≢ blocked w.attempt → Looked (call_on b k m) o z → MakeDoes p cap o (view_of h) (view_of m) (Unmade o z)
      found_another {z} other step = record {
        words = front ++ loaded o z ∷ [];
        goes = record {
          adds = adds_then adds_front (subst (λ (u : View). Adds (view_of k) u (loaded o z ∷ [])) (sym step.view) (adds_look o _ (view_of k) z (free_apart (view_of k) o free_front) step.tells));
          free = ap (λ (v : View). v.claim) step.view ∙ free_front;
        };
        own = own_none o (front ++ loaded o z ∷ []) (none_then front (loaded o z ∷ []) none_front (none_one o z));
        open_own = open_none (front ++ loaded o z ∷ []) (none_then front (loaded o z ∷ []) none_front (none_one o z));
        first = w;
        rest = xs ++ loaded o z ∷ [];
        begins = refl;
        tells = inl (
          refl,
          record {
            last = last_later front (last_one (loaded o z) (loaded o z ∷ []) refl);
            seen = Contains-append_right front (loaded o z ∷ []) (loaded o z) (0, omega arith, refl);
            none = none_then front (loaded o z ∷ []) none_front (none_one o z);
            cause = inr (found_disturbed o front w z last_front (λ same. other (same ∙ bare_blocked w did.tells.is_word state)));
            view_is = step.view ∙ ap (looking (loaded o z ∷ [])) view_front ∙ looking-then (view_of h) front (loaded o z ∷ []);
          },
        );
      }

  -- ---- claim

  module _ (state : w.state ≡ Ready) (m : Hand) where
    claim_view : looked o w (view_of h) ≡ looked o (ready w.attempt) (view_of h)
    claim_view = ap (λ (x : OpWord). looked o x (view_of h)) (bare_ready w did.tells.is_word state)

    pub held_now : Left (call_on b g m) (claiming o w.attempt (view_of g)) (left o (claimed w.attempt (view_of g).tag)) → ClaimDoes p cap o (view_of h) (view_of m) (HeldAt w.attempt)
    held_now step = record {
      words = loaded o w ∷ left o (claimed w.attempt (view_of g).tag) ∷ [];
      adds = adds_then adds_first (subst (λ (u : View). Adds (view_of g) u (left o (claimed w.attempt (view_of g).tag) ∷ [])) (sym step.view) (adds_claiming (view_of g) o w.attempt step.tells));
      tells = record {
        words =
            ap (λ (x : OpWord). loaded o x ∷ left o (claimed w.attempt (view_of g).tag) ∷ []) (bare_ready w did.tells.is_word state)
            ∙ ap (λ (t : ℕ). loaded o (ready w.attempt) ∷ left o (claimed w.attempt t) ∷ []) (ap (λ (v : View). v.tag) did.view);
        holds = ap (λ (v : View). v.claim) step.view;
        view_is = step.view ∙ ap (claiming o w.attempt) (did.view ∙ claim_view);
      };
    }

    pub found_held : {z : OpWord} → z ≢ ready w.attempt → Looked (call_on b g m) o z → ClaimDoes p cap o (view_of h) (view_of m) (Unheld z)
    found_held {z} other step = record {
      words = loaded o w ∷ loaded o z ∷ [];
      adds = adds_then adds_first (subst (λ (u : View). Adds (view_of g) u (loaded o z ∷ [])) (sym step.view) (adds_look o _ (view_of g) z (free_apart (view_of g) o free_next) step.tells));
      tells = record {
        free = ap (λ (v : View). v.claim) step.view ∙ free_next;
        last = last_later (loaded o w ∷ []) (last_one (loaded o z) (loaded o z ∷ []) refl);
        seen = (1, omega arith, refl);
        none = none_then (loaded o w ∷ []) (loaded o z ∷ []) (none_one o w) (none_one o z);
        cause = inr (found_disturbed o (loaded o w ∷ []) w z (last_one (loaded o w) (loaded o w ∷ []) refl) (λ same. other (same ∙ bare_ready w did.tells.is_word state)));
        view_is = step.view ∙ ap (looking (loaded o z ∷ [])) did.view ∙ looking-then (view_of h) (loaded o w ∷ []) (loaded o z ∷ []);
      };
    }

-- ---- given back

-- a claim of these parts
abbrev pub held_at : ℕ → ℕ → List ℕ → Held
held_at o a xs = record { op = o; attempt = a; values = xs }

pub adds_giving : (v : View) (o a : ℕ) → Leaves v (giving_back o a v) (left o (blocked a)) → Adds v (giving_back o a v) (left o (blocked a) ∷ [])
adds_giving v o a tells = record {
  trail = refl;
  notes = refl;
  records = λ r inside. inside;
  decisions = λ d inside. inside;
  published = λ x inside. inside;
  settlings = λ x inside. inside;
  tag = refl;
  made = refl;
  room = refl;
  joined = refl;
  places = refl;
  events = (_ ∷ [], refl, refl);
  agree = tells.told.agree;
  steady = along_one (IsSteadyAt v.tag) v.notes (left o (blocked a)) tells.steady;
  calm = λ lone. along_one IsCalmAt v.trail (left o (blocked a)) (calm_left v.trail o (blocked a));
}

module _ (b : Board) (p : Plan) (cap o a : ℕ) (h g : Hand) (zs : List ℕ) (holds : Holds (view_of h) o a zs) where
  pub gave_back : Left (call_on b h g) (giving_back o a (view_of h)) (left o (blocked a)) → GiveBackDoes p cap o (view_of h) (view_of g)
  gave_back step = record {
    words = left o (blocked a) ∷ [];
    adds = subst (λ (u : View). Adds (view_of h) u (left o (blocked a) ∷ [])) (sym step.view) (adds_giving (view_of h) o a step.tells);
    free = ap (λ (v : View). v.claim) step.view;
    tells = λ n ys held.
        let same : a ≡ n = ap (λ (k : Held). k.attempt) (same_Some (held_at o a zs) (held_at o n ys) (sym holds ∙ held)) in
        record {
          free = ap (λ (v : View). v.claim) step.view;
          words = ap (λ (m : ℕ). left o (blocked m) ∷ []) same;
          view_is = step.view ∙ ap (λ (m : ℕ). giving_back o m (view_of h)) same;
        };
  }
