-- How the runners of a board begin, and how their hands are joined, one after another.
use Rattle.std.proofs.Common.{◌≡◌, ◌≢◌, ◌⊎◌, ℕ, zero, suc, ◌+◌, ◌-◌, ◌<◌, ◌≤◌, List, [], ◌∷◌, ◌++◌, length, get_or, map, take, drop, refl, sym, ap, ◌∙◌, subst, inl, inr, arith, length-append, zero-lt-suc, append_assoc, None}
use Rattle.std.specs.Prelude.{All, reverse, slice_index_or}
use Rattle.std.proofs.lemmas.Bool.{cases_eq}
use Rattle.std.proofs.lemmas.List.{reverse-append, reverse-reverse, get_or-reverse, length-reverse, take_at}
use Rattle.std.proofs.lemmas.List.Elements.{All-push, All-append}
use Rattle.std.proofs.Math.ListN.{get_or-append}
use Rattle.std.proofs.Math.Seq.{get_or-append_seam}
use Rattle.morph_base.specs.Contents.{Contents}
use Rattle.op_words.specs.declared.board.Board.{Board}
use Rattle.op_words.specs.declared.board.Hand.{Hand}
use Rattle.op_words.specs.declared.trail.View.{View}
use Rattle.op_words.specs.Hands.{view_of, IsHandOf}
use Rattle.op_words.specs.Views.{child, parent, merged}
use Rattle.op_eval.specs.declared.answers.Left.{Left}
use Rattle.op_eval.specs.declared.runner.Runner.{Runner}
use Rattle.op_eval.specs.Running.{hand_view, no_answers}
use Rattle.op_eval.specs.Gathering.{raised, gathered, HasBegun, AreNew, AreAtRest}

-- the last item of a list, and those before it
pub all_before : {X : Type 0} (P : X → Type 0) (xs : List X) (x : X) → All P (xs ++ x ∷ []) → All P xs
all_before P xs x all k d lt = subst P (get_or-append xs (x ∷ []) d k lt) (all k d (omega (arith, length-append xs (x ∷ []), lt)))

pub all_last : {X : Type 0} (P : X → Type 0) (xs : List X) (x : X) → All P (xs ++ x ∷ []) → P x
all_last P xs x all = subst P (get_or-append_seam xs x [] x) (all (length xs) x (omega (arith, length-append xs (x ∷ []))))

-- a list that has room for what `events` events leave, and nothing in it
abbrev pub IsEmptyFor : ℕ → Contents Left → Type 0
IsEmptyFor events list = (list.items ≡ []) × (events ≤ list.room)

-- after k hands were made: the runners that have them, and the lists that are left
pub record IsSeating (b : Board) (v : View) (k : ℕ) (root : Hand) (rs : List Runner) : Type 0 where
  pub root_is : view_of root ≡ raised k v
  pub root_hand : IsHandOf b root
  pub len : length rs ≡ k
  pub hands : All (λ r. IsHandOf b r.hand) rs
  pub others : (j : ℕ) (d : Runner) → j < k → hand_view (slice_index_or rs j d) ≡ child (raised j v)

pub record AreBegun (lists lists' : List (Contents Left)) (rs : List Runner) : Type 0 where
  pub left : (events : ℕ) → All (IsEmptyFor events) lists → All (IsEmptyFor events) lists'
  pub begun : (events : ℕ) → All (IsEmptyFor events) lists → All (HasBegun events) rs

abbrev with_made : View → ℕ → View
with_made u n = record u { made = n }

raised_none : (u : View) → u ≡ raised 0 u
raised_none u = ap (with_made u) (let same : u.made ≡ u.made + 0 = omega arith in same)

raised_more : (u : View) (n : ℕ) → parent (raised n u) ≡ raised (n + 1) u
raised_more u n = ap (with_made u) (let same : u.made + n + 1 ≡ u.made + (n + 1) = omega arith in same)

pub seating_none : (b : Board) (v : View) (root : Hand) (rs : List Runner) → IsHandOf b root → view_of root ≡ v → rs ≡ [] → IsSeating b v 0 root rs
seating_none b v root rs is same none = record {
  root_is = same ∙ raised_none v;
  root_hand = is;
  len = ap length none;
  hands = subst (All (λ r. IsHandOf b r.hand)) (sym none) (λ k d lt. absurd (omega (arith, lt)));
  others = λ j d lt. absurd (omega (arith, lt));
}

pub begun_none : (lists : List (Contents Left)) (rs : List Runner) → rs ≡ [] → AreBegun lists lists rs
begun_none lists rs none = record { left = λ e all. all; begun = λ e all. subst (All (HasBegun e)) (sym none) (λ k d lt. absurd (omega (arith, lt))) }

abbrev pub beginning : Hand → Contents Left → Runner
beginning hand kept = record { hand = hand; answers = no_answers; kept = kept }

pub begun_more : (lists now next : List (Contents Left)) (rs : List Runner) (hand : Hand) (kept : Contents Left) → AreBegun lists now rs → now ≡ next ++ kept ∷ []
    → AreBegun lists next (rs ++ beginning hand kept ∷ [])
begun_more lists now next rs hand kept are last = record {
  left = λ e all. all_before (IsEmptyFor e) next kept (parts e all);
  begun = λ e all.
      let here = all_last (IsEmptyFor e) next kept (parts e all) in
      All-push (HasBegun e) rs (beginning hand kept) (are.begun e all) (record { answers = refl; kept = here.0; room = here.1 });
}
  where
    parts : (e : ℕ) → All (IsEmptyFor e) lists → All (IsEmptyFor e) (next ++ kept ∷ [])
    parts e all = subst (All (IsEmptyFor e)) last (are.left e all)

pub seating_more : (b : Board) (v : View) (k : ℕ) (root root' hand : Hand) (rs : List Runner) (kept : Contents Left) → IsSeating b v k root rs → IsHandOf b root' → IsHandOf b hand
    → view_of root' ≡ parent (view_of root) → view_of hand ≡ child (view_of root) → IsSeating b v (k + 1) root' (rs ++ beginning hand kept ∷ [])
seating_more b v k root root' hand rs kept is root_hand' hand_is raises makes = record {
  root_is = raises ∙ ap parent is.root_is ∙ raised_more v k;
  root_hand = root_hand';
  len = length-append rs (beginning hand kept ∷ []) ∙ ap (λ n. n + 1) is.len;
  hands = All-push (λ r. IsHandOf b r.hand) rs (beginning hand kept) is.hands hand_is;
  others = λ j d lt. at j d lt (cases_eq j k);
}
  where
    at : (j : ℕ) (d : Runner) → j < k + 1 → (j ≡ k) ⊎ (j ≢ k) → hand_view (get_or (rs ++ beginning hand kept ∷ []) j d) ≡ child (raised j v)
    at j d lt (inl same) =
        let last : get_or (rs ++ beginning hand kept ∷ []) (length rs) d ≡ beginning hand kept = get_or-append_seam rs (beginning hand kept) [] d in
        let here : j ≡ length rs = same ∙ sym is.len in
        ap (λ n. hand_view (get_or (rs ++ beginning hand kept ∷ []) n d)) here ∙ ap hand_view last ∙ makes ∙ ap child is.root_is ∙ ap (λ n. child (raised n v)) (sym same)
    at j d lt (inr other) =
        let less : j < k = omega (arith, lt, other) in
        let inside : j < length rs = omega (arith, less, is.len) in
        ap hand_view (get_or-append rs (beginning hand kept ∷ []) d j inside) ∙ is.others j d less

-- the root is put in front of the others
pub seated : (b : Board) (v : View) (n k events : ℕ) (root : Hand) (rs all : List Runner) (lists now next : List (Contents Left)) (kept : Contents Left)
    → n ≡ k + 1 → IsSeating b v k root rs → AreBegun lists now rs → now ≡ next ++ kept ∷ [] → All (IsEmptyFor events) lists
    → all ≡ beginning root kept ∷ rs → AreNew b v n events all
seated b v n k events root rs all lists now next kept many is are last empty whole = subst (AreNew b v n events) (sym whole) (record {
  len = let short = is.len in omega (arith, short, many);
  hands = All-append (λ r. IsHandOf b r.hand) (beginning root kept ∷ []) rs (one (λ r. IsHandOf b r.hand) is.root_hand) is.hands;
  begun = All-append (HasBegun events) (beginning root kept ∷ []) rs (one (HasBegun events) (record { answers = refl; kept = here.0; room = here.1 })) (are.begun events empty);
  root = λ d. is.root_is ∙ ap (λ m. raised m v) (let same : k ≡ n - 1 = omega (arith, many) in same);
  others = λ j d some less. at j d some less;
})
  where
    here : IsEmptyFor events kept
    here = all_last (IsEmptyFor events) next kept (subst (All (IsEmptyFor events)) last (are.left events empty))

    one : (P : Runner → Type 0) → P (beginning root kept) → All P (beginning root kept ∷ [])
    one P holds zero d lt = holds
    one P holds (suc j) d lt = absurd (omega (arith, lt))

    at : (j : ℕ) (d : Runner) → 0 < j → j < n → hand_view (get_or (beginning root kept ∷ rs) j d) ≡ child (raised (j - 1) v)
    at zero d some less = absurd (omega (arith, some))
    at (suc j) d some less = is.others j d (omega (arith, less, many)) ∙ ap (λ m. child (raised m v)) (let same : j ≡ suc j - 1 = omega arith in same)

-- new runners hold nothing, where the root held nothing
pub new_at_rest : (b : Board) (v : View) (n events : ℕ) (rs : List Runner) → 0 < n → v.tag ≡ 1 → v.claim ≡ None → AreNew b v n events rs → AreAtRest b rs
new_at_rest b v n events rs some first free are = record {
  some = let many = are.len in omega (arith, many, some);
  hands = are.hands;
  free = at;
  root = λ d. ap (λ (u : View). u.tag) (are.root d) ∙ first;
}
  where
    at : (k : ℕ) (d : Runner) → k < length rs → (hand_view (get_or rs k d)).claim ≡ None
    at zero d lt = ap (λ (u : View). u.claim) (are.root d) ∙ free
    at (suc k) d lt = ap (λ (u : View). u.claim) (are.others (suc k) d (omega arith) (let many = are.len in omega (arith, many, lt)))

-- a list whose last item is brought to the front
pub to_front : (xs : List Runner) (x : Runner) (whole : List Runner) → whole ≡ xs ++ x ∷ [] → drop (length whole - 1) whole ++ take (length whole - 1) whole ≡ x ∷ xs
to_front xs x whole is = ap (λ ys. drop (length ys - 1) ys ++ take (length ys - 1) ys) is ∙ at (length (xs ++ x ∷ []) - 1) (omega (arith, length-append xs (x ∷ [])))
  where
    at : (n : ℕ) → n ≡ length xs → drop n (xs ++ x ∷ []) ++ take n (xs ++ x ∷ []) ≡ x ∷ xs
    at n same = ap (λ m. drop m (xs ++ x ∷ []) ++ take m (xs ++ x ∷ [])) same ∙ parts xs
      where
        back : (ys : List Runner) → drop (length ys) (ys ++ x ∷ []) ≡ x ∷ []
        back [] = refl
        back (y ∷ ys) = back ys

        front : (ys : List Runner) → take (length ys) (ys ++ x ∷ []) ≡ ys
        front [] = refl
        front (y ∷ ys) = ap (λ zs. y ∷ zs) (front ys)

        parts : (ys : List Runner) → drop (length ys) (ys ++ x ∷ []) ++ take (length ys) (ys ++ x ∷ []) ≡ x ∷ ys
        parts ys = ap (λ zs. zs ++ take (length ys) (ys ++ x ∷ [])) (back ys) ∙ ap (λ zs. x ∷ zs) (front ys)

-- ---- joining

-- what is left to join, the last runner first
pub record IsJoining (b : Board) (v : View) (all : List Runner) (lists : List (Contents Left)) (root : Hand) (rs : List Runner) (now : List (Contents Left)) : Type 0 where
  pub root_hand : IsHandOf b root
  pub tag : (view_of root).tag ≡ 1
  pub hands : All (λ r. IsHandOf b r.hand) rs
  pub free : All (λ r. (hand_view r).claim ≡ None) rs
  pub view : gathered (view_of root) (map hand_view (reverse rs)) ≡ gathered v (map hand_view (reverse all))
  pub left : now ++ map (λ r. r.kept) (reverse rs) ≡ lists ++ map (λ r. r.kept) (reverse all)

pub joining_none : (b : Board) (root : Hand) (rs : List Runner) (lists : List (Contents Left)) → IsHandOf b root → (view_of root).tag ≡ 1 → All (λ r. IsHandOf b r.hand) rs
    → All (λ r. (hand_view r).claim ≡ None) rs → IsJoining b (view_of root) rs lists root rs lists
joining_none b root rs lists is tag hands free = record { root_hand = is; tag = tag; hands = hands; free = free; view = refl; left = refl }

gathered-cons : (v w : View) (ws : List View) → gathered v (w ∷ ws) ≡ gathered (merged v w) ws
unfolding gathered
gathered-cons v w ws = refl

pub gathered-nil : (v : View) → gathered v [] ≡ v
unfolding gathered
gathered-nil v = refl

reverse_last : (rs : List Runner) (r : Runner) → reverse (rs ++ r ∷ []) ≡ r ∷ reverse rs
reverse_last rs r = reverse-append rs (r ∷ [])

pub joining_more : (b : Board) (v : View) (all : List Runner) (lists now : List (Contents Left)) (root root' : Hand) (rs rs' : List Runner) (r : Runner)
    → IsJoining b v all lists root rs now → rs ≡ rs' ++ r ∷ [] → IsHandOf b root' → view_of root' ≡ merged (view_of root) (view_of r.hand)
    → IsJoining b v all lists root' rs' (now ++ r.kept ∷ [])
joining_more b v all lists now root root' rs rs' r is last root_hand' joins = record {
  root_hand = root_hand';
  tag = ap (λ (u : View). u.tag) joins ∙ is.tag;
  hands = all_before (λ x. IsHandOf b x.hand) rs' r (subst (All (λ x. IsHandOf b x.hand)) last is.hands);
  free = all_before (λ x. (hand_view x).claim ≡ None) rs' r (subst (All (λ x. (hand_view x).claim ≡ None)) last is.free);
  view = ap (λ u. gathered u (map hand_view (reverse rs'))) joins ∙ sym (gathered-cons (view_of root) (hand_view r) (map hand_view (reverse rs')))
      ∙ ap (λ xs. gathered (view_of root) (map hand_view xs)) (sym (reverse_last rs' r) ∙ ap reverse (sym last)) ∙ is.view;
  left = append_assoc now (r.kept ∷ []) (map (λ x. x.kept) (reverse rs'))
      ∙ ap (λ xs. now ++ map (λ (x : Runner). x.kept) xs) (sym (reverse_last rs' r) ∙ ap reverse (sym last)) ∙ is.left;
}

pub joining_step : (b : Board) (v : View) (all : List Runner) (lists now now' : List (Contents Left)) (root root' hand : Hand) (kept : Contents Left) (rs rs' : List Runner) (r : Runner)
    → IsJoining b v all lists root rs now → rs ≡ rs' ++ r ∷ [] → hand ≡ r.hand → kept ≡ r.kept → IsHandOf b root' → view_of root' ≡ merged (view_of root) (view_of hand)
    → now' ≡ now ++ kept ∷ [] → IsJoining b v all lists root' rs' now'
joining_step b v all lists now now' root root' hand kept rs rs' r is last same_hand same_kept root_hand' joins more =
    subst (IsJoining b v all lists root' rs') (sym (more ∙ ap (λ k. now ++ k ∷ []) same_kept))
    (joining_more b v all lists now root root' rs rs' r is last root_hand' (joins ∙ ap (λ h. merged (view_of root) (view_of h)) same_hand))

none_of : {X : Type 0} (xs : List X) → length xs ≡ 0 → xs ≡ []
none_of [] is = refl
none_of (x ∷ xs) is = absurd (omega (arith, is))

pub joining_done : (b : Board) (v : View) (all : List Runner) (lists now : List (Contents Left)) (root : Hand) (rs : List Runner) → IsJoining b v all lists root rs now → length rs ≡ 0
    → view_of root ≡ gathered v (map hand_view (reverse all))
joining_done b v all lists now root rs is short =
    sym (gathered-nil (view_of root)) ∙ ap (λ xs. gathered (view_of root) (map hand_view (reverse xs))) (sym (none_of rs short)) ∙ is.view

pub seating_step : (b : Board) (v : View) (k k' : ℕ) (root root' hand : Hand) (rs rs' : List Runner) (kept : Contents Left) (r : Runner) → IsSeating b v k root rs → IsHandOf b root' → IsHandOf b hand
    → view_of root' ≡ parent (view_of root) → view_of hand ≡ child (view_of root) → r ≡ beginning hand kept → rs' ≡ rs ++ r ∷ [] → k' ≡ k + 1 → IsSeating b v k' root' rs'
seating_step b v k k' root root' hand rs rs' kept r is root_hand' hand_is raises makes new more next =
    subst (λ xs. IsSeating b v k' root' xs) (sym (more ∙ ap (λ x. rs ++ x ∷ []) new))
    (subst (λ n. IsSeating b v n root' (rs ++ beginning hand kept ∷ [])) (sym next) (seating_more b v k root root' hand rs kept is root_hand' hand_is raises makes))

pub begun_step : (lists now next : List (Contents Left)) (rs rs' : List Runner) (hand : Hand) (kept : Contents Left) (r : Runner) → AreBegun lists now rs → now ≡ next ++ kept ∷ []
    → r ≡ beginning hand kept → rs' ≡ rs ++ r ∷ [] → AreBegun lists next rs'
begun_step lists now next rs rs' hand kept r are last new more =
    subst (AreBegun lists next) (sym (more ∙ ap (λ x. rs ++ x ∷ []) new)) (begun_more lists now next rs hand kept are last)

-- what was lent as a slice of all items and comes back with as many
pub come_back : {X : Type 0} (items lent : List X) → length lent ≡ length items → take (length items) (lent ++ drop (length lent) items) ≡ lent
come_back items lent same = take_at lent (drop (length lent) items) (length items) same

pub seated_front : (items lent back rs : List Runner) (r x : Runner) → items ≡ rs ++ r ∷ [] → r ≡ x → lent ≡ items → length back ≡ length lent → back ≡ drop (length lent - 1) lent ++ take (length lent - 1) lent
    → take (length items) (back ++ drop (length back) items) ≡ x ∷ rs
seated_front items lent back rs r x last new same long rotated =
    come_back items back (long ∙ ap length same) ∙ rotated ∙ to_front rs x lent (same ∙ last ∙ ap (λ y. rs ++ y ∷ []) new)

-- ---- gathering: the first runner and the others, as they were taken from the reversed list

pub first_and_rest : (rs lent back rest : List Runner) (r : Runner) → lent ≡ rs → length back ≡ length lent → back ≡ reverse lent → take (length rs) (back ++ drop (length back) rs) ≡ rest ++ r ∷ []
    → rs ≡ r ∷ reverse rest
first_and_rest rs lent back rest r same long turned last =
    sym (reverse-reverse rs) ∙ ap reverse (sym (ap reverse same) ∙ sym turned ∙ sym (come_back rs back (long ∙ ap length same)) ∙ last) ∙ reverse-append rest (r ∷ [])

all_reverse : {X : Type 0} (P : X → Type 0) (xs : List X) → All P (reverse xs) → All P xs
all_reverse P xs all k d lt =
    let n : ℕ = length xs - 1 - k in
    let inside : n < length (reverse xs) = omega (arith, lt, length-reverse xs) in
    let back : length xs - 1 - n ≡ k = omega (arith, lt) in
    subst P (get_or-reverse xs n d (omega (arith, lt)) ∙ ap (λ m. get_or xs m d) back) (all n d inside)

pub all_first : (P : Runner → Type 0) (rs rest : List Runner) (r : Runner) → rs ≡ r ∷ reverse rest → All P rs → P r
all_first P rs rest r parts all = subst (All P) parts all 0 r (zero-lt-suc (length (reverse rest)))

pub all_rest : (P : Runner → Type 0) (rs rest : List Runner) (r : Runner) → rs ≡ r ∷ reverse rest → All P rs → All P rest
all_rest P rs rest r parts all = all_reverse P rest (λ k d lt. subst (All P) parts all (suc k) d (omega (arith, lt)))

pub rest_length : (rs rest : List Runner) (r : Runner) → rs ≡ r ∷ reverse rest → length rs ≡ length rest + 1
rest_length rs rest r parts = let long = length-reverse rest in let same = ap length parts in omega (arith, long, same)

pub first_tag : (b : Board) (rs rest : List Runner) (r : Runner) → rs ≡ r ∷ reverse rest → AreAtRest b rs → (hand_view r).tag ≡ 1
first_tag b rs rest r parts are = subst (λ xs. (hand_view (get_or xs 0 r)).tag ≡ 1) parts (are.root r)

pub gathered_all : (rs rest : List Runner) (r : Runner) (hand : Hand) (u : View) (d : Runner) → rs ≡ r ∷ reverse rest → hand ≡ r.hand → u ≡ gathered (view_of hand) (map hand_view (reverse rest))
    → u ≡ gathered (hand_view (slice_index_or rs 0 d)) (map hand_view (drop 1 rs))
gathered_all rs rest r hand u d parts same is =
    is ∙ ap (λ h. gathered (view_of h) (map hand_view (reverse rest))) same ∙ ap (λ xs. gathered (hand_view (slice_index_or xs 0 d)) (map hand_view (drop 1 xs))) (sym parts)

pub left_all : (rs rest : List Runner) (r : Runner) (kept : Contents Left) (empty one whole : List (Contents Left)) → rs ≡ r ∷ reverse rest → kept ≡ r.kept → empty ≡ [] → one ≡ empty ++ kept ∷ []
    → whole ≡ one ++ map (λ x. x.kept) (reverse rest) → whole ≡ map (λ x. x.kept) rs
left_all rs rest r kept empty one whole parts same none more is =
    is ∙ ap (λ ls. ls ++ map (λ (x : Runner). x.kept) (reverse rest)) (more ∙ ap (λ e. e ++ kept ∷ []) none ∙ ap (λ k. k ∷ []) same) ∙ ap (map (λ (x : Runner). x.kept)) (sym parts)
