-- The steps of the plain fold: reading keys, answering operation by operation, putting answers, and one event more.
use Rattle.std.proofs.Common.{◌≡◌, ℕ, zero, suc, ◌+◌, ◌-◌, ◌<◌, ◌≤◌, true, false, List, [], ◌∷◌, ◌++◌, length, map, take, drop, get_or, All, Some, None, is_some, unwrap_or, refl, sym, ◌∙◌, ap, subst, arith, inl, inr}
use Rattle.std.proofs.Math.Path.{fun_ext}
use Rattle.std.proofs.lemmas.Bool.{cond-true, cond-false, cases_Bool, false_from_ne_true, false≢true, and_from, and_parts}
use Rattle.std.proofs.lemmas.List.{take_more, map_more, take_all, length-take, length-drop}
use Rattle.std.proofs.Common.{get_or-take}
use Rattle.morph_base.specs.declared.key.Key.{Key}
use Rattle.morph_base.specs.declared.key.Layout.{Layout}
use Rattle.morph_base.specs.declared.operation.Op.{Op}
use Rattle.morph_base.specs.Operations.{IsShaped, InLayout, reads, same_key, no_key}
use Rattle.morph_base.specs.Transactions.{Transaction}
use Rattle.morph_base.specs.States.{State, answer, all_answer, with_answers, commits, after, after_all}
use Rattle.morph_base.specs.Outcomes.{fate, fates}
use Rattle.morph_base.specs.Flat.{with_value, put_all}
use Rattle.morph_base.proofs.KeyLaws.{same_key-true}
use Rattle.morph_base.proofs.StateLaws.{all_answer-each, after-committed, after-aborted}

-- how many keys an operation reads
pub length-reads : (op : Op) → IsShaped op → length (reads op) ≡ op.n_params + 1
length-reads op shaped =
    let held : op.n_params ≤ length op.params = shaped.held in
    omega (arith, length-take op.n_params op.params)

-- the keys of an operation are in the layout: its parameters'
pub param_in : (l : Layout) (op : Op) (j : ℕ) (d : Key) → IsShaped op → All (InLayout l) (reads op) → j < op.n_params → InLayout l (get_or op.params j d)
param_in l op j d shaped keys lt =
    let below : suc j < length (reads op) = simp length-take (omega (arith, shaped.held)) in
    subst (InLayout l) (get_or-take op.n_params op.params j d lt) (keys (suc j) d below)

-- and its target
pub target_in : (l : Layout) (ops : List Op) (k : ℕ) (d : Op) → All (λ op. All (InLayout l) (reads op)) ops → k < length ops → InLayout l (get_or ops k d).key
target_in l ops k d keys lt = keys k d lt zero no_key (omega arith)

pub all_answer-none : (s : State) → all_answer s [] ≡ true
unfolding all_answer
all_answer-none s = refl

all_answer-snoc : (s : State) (ops : List Op) (op : Op) → all_answer s ops ≡ true → is_some (answer s op) ≡ true → all_answer s (ops ++ op ∷ []) ≡ true
unfolding all_answer
all_answer-snoc s [] op all one = and_from (is_some (answer s op)) true one refl
all_answer-snoc s (o ∷ ops) op all one =
    let parts = and_parts (is_some (answer s o)) (all_answer s ops) all in
    and_from (is_some (answer s o)) (all_answer s (ops ++ op ∷ [])) parts.0 (all_answer-snoc s ops op parts.1 one)

-- one operation more that answers
pub all_answer-more : (s : State) (ops : List Op) (k : ℕ) (d : Op) (v : ℕ) → k < length ops → all_answer s (take k ops) ≡ true →
    answer s (get_or ops k d) ≡ Some v → all_answer s (take (k + 1) ops) ≡ true
all_answer-more s ops k d v lt all one =
    subst (λ l. all_answer s l ≡ true) (sym (take_more ops k d lt)) (all_answer-snoc s (take k ops) (get_or ops k d) all (ap is_some one))

-- one that does not
pub all_answer-stops : (s : State) (ops : List Op) (k : ℕ) (d : Op) → k < length ops → answer s (get_or ops k d) ≡ None → all_answer s ops ≡ false
all_answer-stops s ops k d lt one =
    false_from_ne_true (all_answer s ops) (λ all. false≢true (sym (ap is_some one) ∙ all_answer-each s ops all k d lt))

-- nothing put
pub put_all-nil : (s : State) (ops : List Op) (vs : List ℕ) → length ops ≡ 0 → s ≡ put_all s (map (λ op. op.key) ops) vs
unfolding put_all
put_all-nil s [] vs none = refl
put_all-nil s (op ∷ ops) vs none = absurd (omega arith)

-- the first value put over what the others put
put_all-first : (s : State) (ops : List Op) (vs : List ℕ) (d : Op) → 0 < length ops → length vs ≡ length ops →
    with_value (put_all s (map (λ op. op.key) (drop 1 ops)) (drop 1 vs)) (get_or ops 0 d).key (get_or vs 0 0) ≡ put_all s (map (λ op. op.key) ops) vs
unfolding put_all
put_all-first s [] vs d lt same = absurd (omega arith)
put_all-first s (op ∷ ops) [] d lt same = absurd (omega arith)
put_all-first s (op ∷ ops) (v ∷ vs) d lt same = refl

put_all-tail : (s : State) (ops : List Op) (vs : List ℕ) →
    put_all s (map (λ op. op.key) (take (length ops - 1) (drop 1 ops))) (take (length vs - 1) (drop 1 vs)) ≡ put_all s (map (λ op. op.key) (drop 1 ops)) (drop 1 vs)
put_all-tail s ops vs =
    let all_ops = take_all (length ops - 1) (drop 1 ops) (simp length-drop (omega arith)) in
    let all_vs = take_all (length vs - 1) (drop 1 vs) (simp length-drop (omega arith)) in
    ap (λ l. put_all s (map (λ op. op.key) l) (take (length vs - 1) (drop 1 vs))) all_ops
    ∙ ap (put_all s (map (λ op. op.key) (drop 1 ops))) all_vs

-- the step of the recursion that puts the others first and then the first one
pub put_all-step : (s t u : State) (ops : List Op) (vs : List ℕ) (d : Op) → 0 < length ops → length vs ≡ length ops →
    t ≡ put_all s (map (λ op. op.key) (take (length ops - 1) (drop 1 ops))) (take (length vs - 1) (drop 1 vs)) →
    u ≡ with_value t (get_or ops 0 d).key (get_or vs 0 0) → u ≡ put_all s (map (λ op. op.key) ops) vs
put_all-step s t u ops vs d lt same others one =
    one ∙ ap (λ r. with_value r (get_or ops 0 d).key (get_or vs 0 0)) (others ∙ put_all-tail s ops vs) ∙ put_all-first s ops vs d lt same

-- a transaction that commits puts its answers; one that aborts changes nothing
with_answers-put : (s : State) (ops : List Op) (key : Key) →
    with_answers s ops key ≡ put_all s (map (λ op. op.key) ops) (map (λ op. unwrap_or (answer s op) (s op.key)) ops) key
unfolding with_answers put_all
with_answers-put s [] key = refl
with_answers-put s (op ∷ ops) key =
    elim (cases_Bool (same_key op.key key)) [
      | inl e ↦
          cond-true (same_key op.key key) _ _ e
          ∙ ap (λ k. unwrap_or (answer s op) (s k)) (sym (same_key-true op.key key e))
          ∙ sym (cond-true (same_key op.key key) _ _ e)
      | inr e ↦ cond-false (same_key op.key key) _ _ e ∙ with_answers-put s ops key ∙ sym (cond-false (same_key op.key key) _ _ e)
    ]

pub after-put : (s : State) (e : Transaction) → commits s e ≡ true →
    after s e ≡ put_all s (map (λ op. op.key) e.ops) (map (λ op. unwrap_or (answer s op) (s op.key)) e.ops)
after-put s e c = fun_ext (λ key. after-committed s e key c ∙ with_answers-put s e.ops key)

pub after-nothing : (s : State) (e : Transaction) → commits s e ≡ false → after s e ≡ s
after-nothing s e c = fun_ext (λ key. after-aborted s e key c)

-- one transaction more
pub fates-push : (s : State) (es : List Transaction) (e : Transaction) → fates s (es ++ e ∷ []) ≡ fates s es ++ fate (after_all s es) e ∷ []
unfolding fates after_all
fates-push s [] e = refl
fates-push s (f ∷ fs) e = ap (λ l. fate s f ∷ l) (fates-push (after s f) fs e)

pub fates-nil : (s : State) → fates s [] ≡ []
unfolding fates
fates-nil s = refl

-- one image more of a list's elements
pub images-more : {X Y : Type 0} (f : X → Y) (xs : List X) (k : ℕ) (d : X) (ys zs : List Y) (y : Y) → k < length xs →
    ys ≡ map f (take k xs) → f (get_or xs k d) ≡ y → zs ≡ ys ++ y ∷ [] → zs ≡ map f (take (k + 1) xs)
images-more f xs k d ys zs y lt so_far one more =
    more ∙ ap (λ l. l ++ y ∷ []) so_far ∙ ap (λ z. map f (take k xs) ++ z ∷ []) (sym one) ∙ sym (map_more f xs k d lt)

-- one answer more
pub answers-more : (s : State) (ops : List Op) (k : ℕ) (d : Op) (ys zs : List ℕ) (v : ℕ) → k < length ops →
    ys ≡ map (λ op. unwrap_or (answer s op) (s op.key)) (take k ops) → answer s (get_or ops k d) ≡ Some v → zs ≡ ys ++ v ∷ [] →
    zs ≡ map (λ op. unwrap_or (answer s op) (s op.key)) (take (k + 1) ops)
answers-more s ops k d ys zs v lt so_far one more =
    images-more (λ op. unwrap_or (answer s op) (s op.key)) ops k d ys zs v lt so_far (ap (λ o. unwrap_or o (s (get_or ops k d).key)) one) more
