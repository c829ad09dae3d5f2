-- What steps add to a view, one after another.
use Rattle.std.proofs.Common.{◌≡◌, ℕ, List, [], ◌∷◌, ◌++◌, refl, sym, ap, ◌∙◌, subst, arith, append_assoc, None}
use Rattle.std.proofs.lemmas.Bool.{false≢true}
use Rattle.std.proofs.lemmas.Option.{none-some}
use Rattle.morph_base.specs.declared.plan.Plan.{Plan}
use Rattle.morph_base.specs.declared.word.OpWord.{OpWord}
use Rattle.op_words.specs.declared.trail.Item.{Item}
use Rattle.op_words.specs.declared.trail.View.{View}
use Rattle.op_words.specs.Trails.{loaded, left, last_word, HasLast, Along, IsSteadyAt, IsSteadyTrail, IsCalmAt, IsCalm, NoneOwn}
use Rattle.op_words.specs.Views.{Agrees, IsApart, IsLone, Adds, AddsAndFrees, looked}
use Rattle.op_words.specs.Plays.{Looks}
use Rattle.op_words.specs.Calls.{PeekDoes}
use Rattle.op_words.proofs.Rows.{no_more, one_inside}
use Rattle.op_words.proofs.Trailing.{last-one, along_none, along-append}

-- a list of one item, or of none
pub along_one : (P : List Item → Item → Type 0) (pre : List Item) (t : Item) → P pre t → Along P pre (t ∷ [])
unfolding Along
along_one P pre t holds = (holds, tt)

pub lone_more : {v u : View} {xs : List Item} → Adds v u xs → IsLone v → IsLone u
lone_more adds lone = record { root = adds.tag ∙ lone.root; alone = adds.made ∙ lone.alone }

pub adds_none : (v : View) → Agrees v → Adds v v []
adds_none v agree = record {
  trail = no_more v.trail;
  notes = no_more v.notes;
  records = λ r inside. inside;
  decisions = λ d inside. inside;
  published = λ e inside. inside;
  settlings = λ x inside. inside;
  tag = refl;
  made = refl;
  room = refl;
  joined = refl;
  places = refl;
  events = ([], refl, refl);
  agree = agree;
  steady = along_none (IsSteadyAt v.tag) v.notes;
  calm = λ lone. along_none IsCalmAt v.trail;
}

pub adds_then : {v u w : View} {xs ys : List Item} → Adds v u xs → Adds u w ys → Adds v w (xs ++ ys)
adds_then {v} {u} {w} {xs} {ys} first second = record {
  trail = second.trail ∙ ap (λ zs. zs ++ ys) first.trail ∙ append_assoc v.trail xs ys;
  notes = second.notes ∙ ap (λ zs. zs ++ ys) first.notes ∙ append_assoc v.notes xs ys;
  records = λ r there. second.records r (first.records r there);
  decisions = λ d there. second.decisions d (first.decisions d there);
  published = λ e there. second.published e (first.published e there);
  settlings = λ x there. second.settlings x (first.settlings x there);
  tag = second.tag ∙ first.tag;
  made = second.made ∙ first.made;
  room = second.room ∙ first.room;
  joined = second.joined ∙ first.joined;
  places = second.places ∙ first.places;
  events = (
    second.events.0 ++ first.events.0,
    second.events.1 ∙ ap (λ es. second.events.0 ++ es) first.events.1 ∙ sym (append_assoc second.events.0 first.events.0 v.events),
    second.events.2 ∙ ap (λ es. second.events.0 ++ es) first.events.2 ∙ sym (append_assoc second.events.0 first.events.0 v.own),
  );
  agree = second.agree;
  steady = along-append (IsSteadyAt v.tag) v.notes xs ys first.steady (subst (λ zs. IsSteadyTrail v.tag zs ys) first.notes (subst (λ t. IsSteadyTrail t u.notes ys) first.tag second.steady));
  calm = λ lone. along-append IsCalmAt v.trail xs ys (first.calm lone) (subst (λ zs. IsCalm zs ys) first.trail (second.calm (lone_more first lone)));
}

pub goes_then : {v u w : View} {xs ys : List Item} → AddsAndFrees v u xs → AddsAndFrees u w ys → AddsAndFrees v w (xs ++ ys)
goes_then first second = record { adds = adds_then first.adds second.adds; free = second.free }

-- a load
pub adds_look : (o n : ℕ) (v : View) (w : OpWord) → IsApart v o → Looks o n v w → Adds v (looked o w v) (loaded o w ∷ [])
adds_look o n v w apart tells = record {
  trail = refl;
  notes = refl;
  records = λ r inside. inside;
  decisions = λ d inside. inside;
  published = λ e inside. inside;
  settlings = λ x inside. inside;
  tag = refl;
  made = refl;
  room = refl;
  joined = refl;
  places = refl;
  events = ([], refl, refl);
  agree = tells.told.agree;
  steady = along_one (IsSteadyAt v.tag) v.notes (loaded o w) (tells.steady apart);
  calm = λ lone. along_one IsCalmAt v.trail (loaded o w) (tells.calm apart lone);
}

-- a word that was left is no load
pub calm_left : (pre : List Item) (o : ℕ) (w : OpWord) → IsCalmAt pre (left o w)
calm_left pre o w = record { known = λ own. absurd (false≢true (sym own)); free = λ own. absurd (false≢true (sym own)) }

-- a hand that holds nothing holds no operation
pub free_apart : (v : View) (o : ℕ) → v.claim ≡ None → IsApart v o
free_apart v o free h is = absurd (none-some h (sym free ∙ is))

pub last_one : (t : Item) (xs : List Item) → xs ≡ t ∷ [] → HasLast t.op xs t.word
last_one t xs is = record { is = λ d. ap (last_word t.op d) is ∙ last-one t.op d t refl }

pub none_one : (o : ℕ) (w : OpWord) → NoneOwn (loaded o w ∷ [])
none_one o w t inside = sym (ap (λ (x : Item). x.own) (one_inside (loaded o w) t inside))

pub peek_does : (p : Plan) (cap o n : ℕ) (v : View) (w : OpWord) → v.claim ≡ None → Looks o n v w → PeekDoes p cap o v (looked o w v) w
peek_does p cap o n v w free tells = record {
  words = loaded o w ∷ [];
  goes = record { adds = adds_look o n v w (free_apart v o free) tells; free = free };
  none = none_one o w;
  last = last_one (loaded o w) (loaded o w ∷ []) refl;
  seen = (0, omega arith, refl);
  only = refl;
}
