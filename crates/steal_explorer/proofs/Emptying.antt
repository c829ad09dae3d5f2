-- What is left in deques is popped until none is there.
use Rattle.std.proofs.Common.{◌≡◌, ◌≢◌, ◌⊎◌, ℕ, ◌+◌, ◌-◌, ◌<◌, ◌≤◌, List, [], ◌∷◌, ◌++◌, length, set, refl, sym, ap, ◌∙◌, subst, inl, inr, arith, append_assoc, length-append}
use Rattle.std.specs.Prelude.{Contains, count_by, sum_by, slice_index_or}
use Rattle.std.proofs.lemmas.Bool.{cases_eq}
use Rattle.std.proofs.lemmas.List.{get_or-set_same, get_or-set_other, get_or_default, length-set}
use Rattle.std.proofs.lemmas.List.Elements.{Contains-append_left, Contains-append_right, Contains-append_cases}
use Rattle.std.proofs.lemmas.List.Sums.{sum_by_push}
use Rattle.crossbeam_deque.specs.Handles.{worker_flavor, worker_view, SameWorker}
use Rattle.op_words.proofs.Rows.{no_more}
use Rattle.morph_base.specs.declared.plan.Plan.{Plan}
use Rattle.morph_base.specs.declared.strategy.Abort.{Abort}
use Rattle.morph_base.specs.Plans.{op_count}
use Rattle.op_words.specs.declared.board.Board.{Board}
use Rattle.op_eval.specs.declared.runner.Runner.{Runner}
use Rattle.op_eval.proofs.Elements.{contains_cases}
use Rattle.op_eval.proofs.Turns.{in_turn_append}
use Rattle.steal_explorer.specs.declared.deque_rule.Log.{Log}
use Rattle.steal_explorer.specs.declared.member.Member.{Member}
use Rattle.steal_explorer.specs.Calls.{ServeCall, Tried, is_tried, MakesServeCalls, MakesServeCall}
use Rattle.steal_explorer.specs.Draining.{in_plan, IsLeftWithNobody, WalkedKnown, IsCleared, IsEmptied}
use Rattle.steal_explorer.specs.Handing.{whole, log, parts_of, got, spare, came, gone, one, MayBeEmpty, MayTake}
use Rattle.steal_explorer.specs.Members.{Owner, own}
use Rattle.op_eval.specs.Running.{IsFreeRunner}
use Rattle.steal_explorer.proofs.Holds.{evens}
use Rattle.steal_explorer.proofs.Telling.{count_both, one_tried, few, no_op}

-- how many items its deque still holds, as the owner of all parts knows
abbrev pub to_go : Member → ℕ
to_go m = came one (own m) - gone one (own m)

-- ---- items that nobody takes

-- after some pops of them
pub record IsLeaving (a b : Member) : Type 0 where
  pub fifo : worker_flavor b.owner ≡ 0
  pub all : (own b).parts ≡ whole
  pub owner : Owner
  pub is : b ≡ record a { owner = owner }
  pub items : List ℕ
  pub left : own b ≡ spare (own a) items

none_left : (v : Log) → v ≡ spare v []
none_left v = ap (λ l. log v.parts v.pushed v.popped v.stolen l) (no_more v.left)

pub leaving_none : (a : Member) → worker_flavor a.owner ≡ 0 → (own a).parts ≡ whole → IsLeaving a a
leaving_none a fifo all = record { fifo = fifo; all = all; owner = a.owner; is = refl; items = []; left = none_left (own a) }

module _ (a m : Member) (is : IsLeaving a m) (o : Owner) (x : ℕ) (same : SameWorker m.owner o) (pops : worker_view o ≡ spare (own m) (x ∷ [])) (may : MayTake (own m) (x ∷ [])) where
  pub leaving_more : IsLeaving a (record m { owner = o })
  leaving_more = record {
    fifo = same.1 ∙ is.fifo;
    all = ap parts_of pops ∙ is.all;
    owner = o;
    is = ap (λ (n : Member). record n { owner = o }) is.is;
    items = is.items ++ x ∷ [];
    left =
        pops
        ∙ ap (λ v. spare v (x ∷ [])) is.left
        ∙ ap (λ l. log (own a).parts (own a).pushed (own a).popped (own a).stolen l) (append_assoc (own a).left is.items (x ∷ []));
  }

  pub leaving_less : came one (worker_view o) - gone one (worker_view o) < came one (own m) - gone one (own m)
  leaving_less =
      let before : gone one (own m) + 1 ≤ came one (own m) = may is.all one in
      let e : came one (worker_view o) ≡ came one (own m) = ap (came one) pops in
      let f : gone one (worker_view o) ≡ gone one (spare (own m) (x ∷ [])) = ap (gone one) pops in
      let g = sum_by_push one (own m).left x in
      omega arith

pub all_left : (a m : Member) → IsLeaving a m → (o : Owner) → SameWorker m.owner o → worker_view o ≡ own m → MayBeEmpty (own m) → IsLeftWithNobody a (record m { owner = o })
all_left a m is o same still was = record {
  owner = o;
  is = ap (λ (n : Member). record n { owner = o }) is.is;
  items = is.items;
  left = still ∙ is.left;
  even = λ h. ap (came h) still ∙ evens (own m) is.all was h ∙ ap (gone h) (sym still);
}

-- ---- items that the worker takes

pub record IsClearing (p : Plan) (cap : ℕ) (a b : Member) : Type 0 where
  pub fifo : worker_flavor b.owner ≡ 0
  pub all : (own b).parts ≡ whole
  pub owner : Owner
  pub is : b ≡ record a { runner = b.runner; owner = owner }
  pub items : List ℕ
  pub popped : own b ≡ got (own a) items
  pub calls : List ServeCall
  pub made : MakesServeCalls p cap calls a.runner b.runner
  pub tried : (x : ℕ) → Contains items x → x < op_count p → Contains calls (Tried x)
  pub many : sum_by (in_plan p) items ≤ count_by is_tried calls
  pub quiet : items ≡ [] → b.runner ≡ a.runner

pub clearing_none : (p : Plan) (cap : ℕ) (a : Member) → worker_flavor a.owner ≡ 0 → (own a).parts ≡ whole → IsClearing p cap a a
clearing_none p cap a fifo all = record {
  fifo = fifo;
  all = all;
  owner = a.owner;
  is = refl;
  items = [];
  popped = ap (λ l. log (own a).parts (own a).pushed l (own a).stolen (own a).left) (no_more (own a).popped);
  calls = [];
  made = refl;
  tried = λ x found. absurd (omega (arith, found.1));
  many = omega arith;
  quiet = λ _. refl;
}

module _ (p : Plan) (cap : ℕ) (a m : Member) (is : IsClearing p cap a m) (o : Owner) (x : ℕ) (same : SameWorker m.owner o) (pops : worker_view o ≡ got (own m) (x ∷ [])) (may : MayTake (own m) (x ∷ [])) where
  pub clearing_less : came one (worker_view o) - gone one (worker_view o) < came one (own m) - gone one (own m)
  clearing_less =
      let before : gone one (own m) + 1 ≤ came one (own m) = may is.all one in
      let e : came one (worker_view o) ≡ came one (own m) = ap (came one) pops in
      let f : gone one (worker_view o) ≡ gone one (got (own m) (x ∷ [])) = ap (gone one) pops in
      let g = sum_by_push one (own m).popped x in
      omega arith

  -- the calls for the item
  module _ (r : Runner) (cs : List ServeCall) (made : MakesServeCalls p cap cs m.runner r) (tried : x < op_count p → Contains cs (Tried x)) (one_more : in_plan p x ≤ count_by is_tried cs) where
    pub clearing_calls : IsClearing p cap a (record m { runner = r; owner = o })
    clearing_calls = record {
      fifo = same.1 ∙ is.fifo;
      all = ap parts_of pops ∙ is.all;
      owner = o;
      is = ap (λ (n : Member). record n { runner = r; owner = o }) is.is;
      items = is.items ++ x ∷ [];
      popped =
          pops
          ∙ ap (λ v. got v (x ∷ [])) is.popped
          ∙ ap (λ l. log (own a).parts (own a).pushed l (own a).stolen (own a).left) (append_assoc (own a).popped is.items (x ∷ []));
      calls = cs ++ is.calls;
      made = in_turn_append (MakesServeCall p cap) cs is.calls a.runner m.runner r is.made made;
      tried = λ y found lt.
          elim (Contains-append_cases is.items (x ∷ []) y found) [
            | inl old ↦ Contains-append_right cs is.calls (Tried y) (is.tried y old lt)
            | inr new ↦
                elim (contains_cases x [] y new) [
                  | inl here ↦ subst (λ z. Contains (cs ++ is.calls) (Tried z)) (sym here) (Contains-append_left cs is.calls (Tried x) (tried (subst (λ z. z < op_count p) here lt)))
                  | inr none ↦ absurd (omega (arith, none.1))
                ]
          ];
      many =
          let all : sum_by (in_plan p) (is.items ++ x ∷ []) ≡ sum_by (in_plan p) is.items + in_plan p x = sum_by_push (in_plan p) is.items x in
          let both = count_both cs is.calls in
          let before = is.many in
          omega arith;
      quiet = λ none. absurd (let some : length (is.items ++ x ∷ []) ≡ 0 = ap length none in let long : length (is.items ++ x ∷ []) ≡ length is.items + 1 = length-append is.items (x ∷ []) in omega arith);
    }

  pub clearing_more : (units : List (List ℕ)) (abort : Abort) (r : Runner) → WalkedKnown (record { plan = p; units = units; cap = cap; abort = abort }) x m.runner r → IsClearing p cap a (record m { runner = r; owner = o })
  clearing_more units abort r walked =
      elim (cases_le (op_count p) x) [
        | inl past ↦ clearing_calls r [] (walked.1 past) (λ lt. absurd (omega arith)) (let none = no_op p x past in omega arith)
        | inr lt ↦
            clearing_calls r (walked.0 lt).calls (walked.0 lt).made (λ _. (walked.0 lt).tried)
            (let most = few p x in let some = one_tried (walked.0 lt).calls x (walked.0 lt).tried in omega arith)
      ]
    where
      cases_le : (n k : ℕ) → (n ≤ k) ⊎ (k < n)
      cases_le n k = grind arith

pub all_cleared : (p : Plan) (cap : ℕ) (a m : Member) → IsClearing p cap a m → (o : Owner) → SameWorker m.owner o → worker_view o ≡ own m → MayBeEmpty (own m) → IsCleared p cap a (record m { owner = o })
all_cleared p cap a m is o same still was = record {
  owner = o;
  is = ap (λ (n : Member). record n { owner = o }) is.is;
  items = is.items;
  popped = still ∙ is.popped;
  calls = is.calls;
  made = is.made;
  tried = is.tried;
  many = is.many;
  quiet = is.quiet;
  even = λ h. ap (came h) still ∙ evens (own m) is.all was h ∙ ap (gone h) (sym still);
}

-- ---- all deques

-- the deques of the first k workers were emptied, and the others are as they were
pub record AreEmptying (b : Board) (p : Plan) (cap k : ℕ) (ms ns : List Member) : Type 0 where
  pub len : length ns ≡ length ms
  pub idle : (j : ℕ) (m : Member) → j < k → j < length ms → IsFreeRunner b (slice_index_or ns j m).runner
  pub each : (j : ℕ) (m : Member) → j < k → j < length ms → IsEmptied p cap (slice_index_or ms j m) (slice_index_or ns j m)
  pub rest : (j : ℕ) (m : Member) → k ≤ j → slice_index_or ns j m ≡ slice_index_or ms j m

pub emptying_none : (b : Board) (p : Plan) (cap : ℕ) (ms : List Member) → AreEmptying b p cap 0 ms ms
emptying_none b p cap ms = record { len = refl; idle = λ j m lt. absurd (omega arith); each = λ j m lt. absurd (omega arith); rest = λ j m _. refl }

pub emptying_more : (b : Board) (p : Plan) (cap k : ℕ) (ms ns : List Member) (d c : Member) → AreEmptying b p cap k ms ns → k < length ms → IsFreeRunner b c.runner → IsEmptied p cap (slice_index_or ns k d) c
    → AreEmptying b p cap (k + 1) ms (set ns k c)
emptying_more b p cap k ms ns d c is lt idle emptied = record {
  len = length-set ns k c ∙ is.len;
  idle = λ j m low less.
      elim (cases_eq j k) [
        | inl same ↦ subst (λ (n : Member). IsFreeRunner b n.runner) (sym (here j m same)) idle
        | inr other ↦ subst (λ (n : Member). IsFreeRunner b n.runner) (sym (get_or-set_other ns k j c m other)) (is.idle j m (lower j low other) less)
      ];
  each = λ j m low less.
      elim (cases_eq j k) [
        | inl same ↦
            subst (IsEmptied p cap (slice_index_or ms j m)) (sym (here j m same))
            (subst (λ (n : Member). IsEmptied p cap n c) (get_or_default ns k d m inside ∙ is.rest k m (omega arith) ∙ ap (λ i. slice_index_or ms i m) (sym same)) emptied)
        | inr other ↦ subst (IsEmptied p cap (slice_index_or ms j m)) (sym (get_or-set_other ns k j c m other)) (is.each j m (lower j low other) less)
      ];
  rest = λ j m high. get_or-set_other ns k j c m (λ e. absurd (omega arith)) ∙ is.rest j m (omega arith);
}
  where
    inside : k < length ns
    inside = let e = is.len in omega arith

    here : (j : ℕ) (m : Member) → j ≡ k → slice_index_or (set ns k c) j m ≡ c
    here j m same = ap (λ i. slice_index_or (set ns k c) i m) same ∙ get_or-set_same ns k c m inside

    lower : (j : ℕ) → j < k + 1 → j ≢ k → j < k
    lower j low other = grind arith
