-- Sources put place by place, and the greatest level among them.
use Rattle.std.proofs.Common.{◌≡◌, ℕ, suc, ◌+◌, ◌-◌, ◌<◌, List, ◌∷◌, [], ◌++◌, cond, map, take, drop, replicate, length, get_or, refl, ap, sym, ◌∙◌, le_refl, arith}
use Rattle.std.specs.Prelude.{max, count_by, slice_set}
use Rattle.std.proofs.lemmas.List.{set-append_right, set-set, set_at, get_or_push, get_or-set_same, map_more, map-append, take_more, drop-append-le, length-map, length-take, append_assoc}
use Rattle.std.proofs.lemmas.List.Sums.{sum_by_push}
use Rattle.morph_base.specs.declared.key.Key.{Key}
use Rattle.morph_base.specs.declared.plan.Origin.{Origin}
use Rattle.morph_base.specs.declared.plan.Origin.TheVariants.{Base}
use Rattle.morph_base.specs.declared.plan.PlanOp.{PlanOp}
use Rattle.morph_base.specs.Graphs.{greatest, is_written}
use Rattle.morph_base.specs.OpLists.{OpList, with_origin}
use Rattle.morph_base.specs.Plans.{no_plan_op}
use Rattle.precedence_graph.specs.Planned.{planned}
use Rattle.precedence_graph.proofs.GreatestLemmas.{greatest_push}

put_first : (k m i : ℕ) (x : Origin) → k ≡ suc m → i ≡ 0 → slice_set (replicate k (Base 0)) i x ≡ x ∷ replicate m (Base 0)
put_first k m i x more first = rw (more, first) refl

-- the source of the next key put at its place
pub source_put : (f : Key → Origin) (keys : List Key) (x : Origin) (d : Key) (n j : ℕ) → j < n → j < length keys → x ≡ f (get_or keys j d)
    → slice_set (map f (take j keys) ++ replicate (n - j) (Base 0)) j x ≡ map f (take (j + 1) keys) ++ replicate (n - (j + 1)) (Base 0)
source_put f keys x d n j lt inside is =
    let front : List Origin = map f (take j keys) in
    let len : length front ≡ j = omega (arith, length-map (take j keys) f, length-take j keys) in
    set-append_right front (replicate (n - j) (Base 0)) j j x len (le_refl j)
    ∙ ap (λ xs. front ++ xs) (put_first (n - j) (n - (j + 1)) (j - j) x (omega arith) (omega arith))
    ∙ sym (append_assoc front (x ∷ []) (replicate (n - (j + 1)) (Base 0)))
    ∙ ap (λ y. (front ++ y ∷ []) ++ replicate (n - (j + 1)) (Base 0)) is
    ∙ ap (λ xs. xs ++ replicate (n - (j + 1)) (Base 0)) (sym (map_more f keys j d inside))

-- the greatest of what is read, one key more
pub greatest-read_more : (f : Origin → ℕ) (g : Key → Origin) (keys : List Key) (j : ℕ) (d : Key) → j < length keys
    → greatest (map f (map g (take (j + 1) keys))) ≡ max (greatest (map f (map g (take j keys)))) (f (g (get_or keys j d)))
greatest-read_more f g keys j d inside =
    let before : List Key = take j keys in
    let new : Key = get_or keys j d in
    ap (λ keys. greatest (map f (map g keys))) (take_more keys j d inside)
    ∙ ap greatest (ap (map f) (map-append g before (new ∷ [])) ∙ map-append f (map g before) (g new ∷ []))
    ∙ greatest_push (map f (map g before)) (f (g new))

-- the count of parameters that an operation writes, one key more
pub count-read_more : (g : Key → Origin) (keys : List Key) (j : ℕ) (d : Key) → 0 < j → j < length keys
    → count_by is_written (map g (drop 1 (take (j + 1) keys))) ≡ count_by is_written (map g (drop 1 (take j keys))) + cond (is_written (g (get_or keys j d))) 1 0
count-read_more g keys j d some inside =
    let before : List Key = drop 1 (take j keys) in
    let new : Key = get_or keys j d in
    ap (λ keys. count_by is_written (map g (drop 1 keys))) (take_more keys j d inside)
    ∙ ap (λ keys. count_by is_written (map g keys)) (drop-append-le 1 (take j keys) (new ∷ []) (omega (arith, length-take j keys)))
    ∙ ap (count_by is_written) (map-append g before (new ∷ []))
    ∙ sum_by_push (λ origin. cond (is_written origin) 1 0) (map g before) (g new)

-- the list with other sources for operation o
abbrev pub with_sources : OpList → ℕ → List Origin → OpList
with_sources v o sources = record v { items = slice_set v.items o (record (planned v.items o) { origins = sources }) }

-- the list with another source at place j of operation o
abbrev pub with_source : OpList → ℕ → ℕ → Origin → OpList
with_source v o j x = record v { items = slice_set v.items o (with_origin (planned v.items o) j x) }

-- the operation itself stays
pub same_op : (v w : OpList) (o : ℕ) (sources : List Origin) → o < length v.items → w ≡ with_sources v o sources → (planned w.items o).op ≡ (planned v.items o).op
same_op v w o sources inside is =
    ap (λ (x : OpList). (planned x.items o).op) is
    ∙ ap (λ (q : PlanOp). q.op) (get_or-set_same v.items o (record (planned v.items o) { origins = sources }) no_plan_op inside)

-- with one source more
pub source_more : (v : OpList) (o : ℕ) → o < length v.items → (sources : List Origin) (j : ℕ) (x : Origin)
    → with_source (with_sources v o sources) o j x ≡ with_sources v o (slice_set sources j x)
source_more v o inside sources j x =
    let q : PlanOp = record (planned v.items o) { origins = sources } in
    let list : List PlanOp → OpList = λ items. record v { items = items } in
    ap (λ (p : PlanOp). list (slice_set (slice_set v.items o q) o (with_origin p j x)))
    (get_or-set_same v.items o q no_plan_op inside)
    ∙ ap list (set-set v.items o q (with_origin q j x))

-- the last operation, changed in place
pub put_last : (ops : List PlanOp) (q : PlanOp) (change : PlanOp → PlanOp) (o : ℕ) → o ≡ length ops
    → slice_set (ops ++ q ∷ []) o (change (planned (ops ++ q ∷ []) o)) ≡ ops ++ change q ∷ []
put_last ops q change o is =
    ap (λ (p : PlanOp). slice_set (ops ++ q ∷ []) o (change p)) (get_or_push ops q no_plan_op o (sym is))
    ∙ set_at ops q [] (change q) o (sym is)
