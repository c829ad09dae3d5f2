-- Words of other operations are loaded, and records and decisions.
use Rattle.std.proofs.Common.{◌≡◌, ◌≢◌, ℕ, suc, suc-le-suc, arith, Bool, List, [], ◌∷◌, ◌++◌, refl, sym, ap, ◌∙◌, subst, Option, Some, None}
use Rattle.std.specs.Prelude.{Contains}
use Rattle.std.proofs.lemmas.List.Elements.{Contains-append_left, Contains-append_right}
use Rattle.morph_base.specs.declared.word.OpWord.{OpWord}
use Rattle.interleaving_core.specs.Core.{blocked}
use Rattle.op_words.specs.declared.board.Board.{Board}
use Rattle.op_words.specs.declared.board.Hand.{Hand}
use Rattle.op_words.specs.declared.trail.DecisionSeen.{DecisionSeen}
use Rattle.op_words.specs.declared.trail.Item.{Item}
use Rattle.op_words.specs.declared.trail.RecordSeen.{RecordSeen}
use Rattle.op_words.specs.declared.trail.View.{View}
use Rattle.op_words.specs.Trails.{loaded, last_word, IsSteadyAt, IsCalmAt}
use Rattle.op_words.specs.Views.{Agrees, IsApart, IsRecordSeen, IsDecisionSeen, Adds, recalling, last_place, learning}
use Rattle.op_words.specs.Calls.{Elsewhere}
use Rattle.op_words.specs.Hands.{view_of, call_on, IsHandOf}
use Rattle.op_words.specs.Stepping.{Looked, Recalled, Learned, IsRow, IsWalk}
use Rattle.op_words.proofs.Rows.{no_more, not_inside}
use Rattle.op_words.proofs.Trailing.{last-none, last-append, last-one, last-skip, along_none}
use Rattle.op_words.proofs.Adding.{adds_none, adds_then}
use Rattle.op_words.proofs.Seeking.{row_look, row_claim, elsewhere_then}

-- nothing but records and decisions more
pub adds_seen : (v : View) (rs : List RecordSeen) (ds : List DecisionSeen) → Agrees v → ((r : RecordSeen) → Contains v.records r → Contains rs r) → ((d : DecisionSeen) → Contains v.decisions d → Contains ds d)
    → Adds v (record v { records = rs; decisions = ds }) []
adds_seen v rs ds agree records decisions = record {
  trail = no_more v.trail;
  notes = no_more v.notes;
  records = records;
  decisions = decisions;
  published = λ e inside. inside;
  settlings = λ x inside. inside;
  tag = refl;
  made = refl;
  room = refl;
  joined = refl;
  places = refl;
  events = ([], refl, refl);
  agree = agree;
  steady = along_none (IsSteadyAt v.tag) v.notes;
  calm = λ lone. along_none IsCalmAt v.trail;
}

adds_recalling : (v : View) (o j x : ℕ) → Agrees v → Adds v (recalling o j x v) []
adds_recalling v o j x agree = adds_seen v (recalling o j x v).records v.decisions agree (λ r inside. Contains-append_left v.records _ r inside) (λ d inside. inside)

pub adds_learning : (v : View) (i : ℕ) (d : Option Bool) → Agrees v → Adds v (learning i d v) []
adds_learning v i None agree = adds_seen v v.records v.decisions agree (λ r inside. inside) (λ d inside. inside)
adds_learning v i (Some committed) agree = adds_seen v v.records (learning i (Some committed) v).decisions agree (λ r inside. inside) (λ d inside. Contains-append_left v.decisions _ d inside)

pub learning_claim : (v : View) (i : ℕ) (d : Option Bool) → ((learning i d v).claim ≡ v.claim) × ((learning i d v).events ≡ v.events)
learning_claim v i None = (refl, refl)
learning_claim v i (Some committed) = (refl, refl)

module _ (b : Board) (o : ℕ) where
  pub walk_none : (h : Hand) → IsHandOf b h → IsWalk (call_on b h h) o []
  walk_none h is = record { hand = is; adds = adds_none (view_of h) is.told.agree; elsewhere = λ t inside. absurd (not_inside t inside); claim = refl; events = refl }

  pub walk_then : {h g k : Hand} {xs ys : List Item} → IsWalk (call_on b h g) o xs → IsWalk (call_on b g k) o ys → IsWalk (call_on b h k) o (xs ++ ys)
  walk_then {h} {g} {k} {xs} {ys} first second = record {
    hand = second.hand;
    adds = adds_then first.adds second.adds;
    elsewhere = elsewhere_then o xs ys first.elsewhere second.elsewhere;
    claim = second.claim ∙ first.claim;
    events = second.events ∙ first.events;
  }

  pub walk_row : {h g : Hand} {xs : List Item} → IsRow (call_on b h g) o xs → IsWalk (call_on b h g) o xs
  walk_row row = record { hand = row.hand; adds = row.adds; elsewhere = row.elsewhere; claim = row_claim b o row; events = ap (λ (v : View). v.events) row.view }

  pub walk_look : {h g : Hand} {w : OpWord} (s : ℕ) → s ≢ o → IsApart (view_of h) s → Looked (call_on b h g) s w → IsWalk (call_on b h g) o (loaded s w ∷ [])
  walk_look s other apart did = walk_row (row_look b o s other apart did)

  pub walk_recall : {h g : Hand} {q j x : ℕ} → IsHandOf b h → Recalled (call_on b h g) q j x → IsWalk (call_on b h g) o []
  walk_recall {h} {g} {q} {j} {x} is did = record {
    hand = did.hand;
    adds = subst (λ (u : View). Adds (view_of h) u []) (sym did.view) (adds_recalling (view_of h) q j x is.told.agree);
    elsewhere = λ t inside. absurd (not_inside t inside);
    claim = ap (λ (v : View). v.claim) did.view;
    events = ap (λ (v : View). v.events) did.view;
  }

  pub walk_learn : {h g : Hand} {i : ℕ} {d : Option Bool} → IsHandOf b h → Learned (call_on b h g) i d → IsWalk (call_on b h g) o []
  walk_learn {h} {g} {i} {d} is did =
      let same = learning_claim (view_of h) i d in
      record {
        hand = did.hand;
        adds = subst (λ (u : View). Adds (view_of h) u []) (sym did.view) (adds_learning (view_of h) i d is.told.agree);
        elsewhere = λ t inside. absurd (not_inside t inside);
        claim = ap (λ (v : View). v.claim) did.view ∙ same.0;
        events = ap (λ (v : View). v.events) did.view ∙ same.1;
      }

  -- the last word of the operation that was noted stays
  pub walk_last : {h g : Hand} {xs : List Item} (d w : OpWord) → IsWalk (call_on b h g) o xs → last_word o d (view_of h).notes ≡ w → last_word o d (view_of g).notes ≡ w
  walk_last {h} {g} {xs} d w walk last =
      ap (last_word o d) walk.adds.notes ∙ last-append o d (view_of h).notes xs ∙ passed (last_word o d (view_of h).notes) xs walk.elsewhere ∙ last
    where
      passed : (d : OpWord) (zs : List Item) → Elsewhere o zs → last_word o d zs ≡ d
      passed d [] none = last-none o d
      passed d (z ∷ zs) none = last-skip o d z zs (none z (0, omega arith, refl)).1 ∙ passed d zs (λ t inside. none t (suc inside.0, suc-le-suc inside.1, inside.2))

-- the word that was loaded is the last one that was noted; a record that is loaded then stands under it
pub look_last : (b : Board) (o : ℕ) (h g : Hand) (w d : OpWord) → Looked (call_on b h g) o w → last_word o d (view_of g).notes ≡ w
look_last b o h g w d did = ap (λ (v : View). last_word o d v.notes) did.view ∙ last-append o d (view_of h).notes (loaded o w ∷ []) ∙ last-one o (last_word o d (view_of h).notes) (loaded o w) refl

pub recalled_seen : (b : Board) (o j : ℕ) (h g : Hand) (x : ℕ) (w : OpWord) → last_word o (blocked 1) (view_of h).notes ≡ w → Recalled (call_on b h g) o j x → IsRecordSeen (view_of g) o j w x
recalled_seen b o j h g x w last did =
    subst (λ (v : View). IsRecordSeen v o j w x) (sym did.view)
    (subst (λ (z : OpWord). IsRecordSeen (recalling o j x (view_of h)) o j z x) last (Contains-append_right (view_of h).records _ _ (0, omega arith, refl)))

-- the place of the last record
last_place-append : (d : ℕ) (rs : List RecordSeen) (r : RecordSeen) → last_place d (rs ++ r ∷ []) ≡ r.place
unfolding last_place
last_place-append d [] r = refl
last_place-append d (x ∷ rs) r = last_place-append x.place rs r

pub recalled_place : (b : Board) (o j : ℕ) (h g : Hand) (x : ℕ) → Recalled (call_on b h g) o j x → last_place 0 (view_of g).records ≡ j
recalled_place b o j h g x did =
    ap (λ (v : View). last_place 0 v.records) did.view
    ∙ last_place-append 0 (view_of h).records (record { op = o; place = j; value = x; word = last_word o (blocked 1) (view_of h).notes })

pub learned_seen : (b : Board) (i : ℕ) (h g : Hand) (committed : Bool) → Learned (call_on b h g) i (Some committed) → IsDecisionSeen (view_of g) i committed
learned_seen b i h g committed did = subst (λ (v : View). IsDecisionSeen v i committed) (sym did.view) (Contains-append_right (view_of h).decisions _ _ (0, omega arith, refl))
