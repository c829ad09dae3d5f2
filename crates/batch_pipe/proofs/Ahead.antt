-- Plans that are sent one after another.
use Rattle.std.proofs.Common.{◌≡◌, ℕ, ◌+◌, ◌<◌, zero-lt-suc, Bool, true, false, List, [], ◌∷◌, ◌++◌, length, Option, Some, None, refl, ap, sym, subst, ◌∙◌, arith, append-nil, append_assoc}
use Rattle.std.specs.Prelude.{All, IfSome}
use Rattle.std.proofs.lemmas.List.{length-append, map-append}
use Rattle.std.proofs.lemmas.List.Elements.{All-nil, All-push}
use Rattle.morph_base.specs.declared.key.Layout.{Layout}
use Rattle.morph_base.specs.declared.plan.Plan.{Plan}
use Rattle.event_reader.specs.Reader.{ReaderView, KeepsVersion, SameReader}
use Rattle.event_reader.specs.Versions.{greatest_of}
use Rattle.event_reader.specs.Steps.{Meaning}
use Rattle.batch_pipe.specs.declared.items.Sent.{Sent}
use Rattle.batch_pipe.specs.declared.tail.Tail.{Tail}
use Rattle.rtrb.specs.declared.producer.Producer.{Producer}
use Rattle.rtrb.specs.declared.consumer.Consumer.{Consumer}
use Rattle.rtrb.specs.Ring.{SameProducer, SameConsumer}
use Rattle.batch_pipe.specs.PlannedBatches.{Bench, IsReadyPlan, AreNumbered, Plans, PlansAhead, StopsWithTail, layout_by, plans_of}
use Rattle.batch_pipe.specs.PlanRuns.{one_or_none}
use Rattle.batch_pipe.proofs.GivenBatches.{plans_nothing, plans_both, plans_stop}

pub numbered-append : (n : ℕ) (xs ys : List Sent) → AreNumbered n xs → AreNumbered (n + length xs) ys → AreNumbered n (xs ++ ys)
unfolding AreNumbered
numbered-append n [] ys p q = (let z : n + 0 ≡ n = omega arith in subst (λ m. AreNumbered m ys) z q)
numbered-append n (x ∷ xs) ys p q =
    let on : n + length (x ∷ xs) ≡ n + 1 + length xs = omega arith in
    (p.0, numbered-append (n + 1) xs ys p.1 (subst (λ m. AreNumbered m ys) on q))

pub numbered-front : (n : ℕ) (xs ys : List Sent) → AreNumbered n (xs ++ ys) → AreNumbered n xs
unfolding AreNumbered
numbered-front n [] ys p = tt
numbered-front n (x ∷ xs) ys p = (p.0, numbered-front (n + 1) xs ys p.1)

pub numbered-back : (n : ℕ) (xs ys : List Sent) → AreNumbered n (xs ++ ys) → AreNumbered (n + length xs) ys
unfolding AreNumbered
numbered-back n [] ys p = (let z : n ≡ n + 0 = omega arith in subst (λ m. AreNumbered m ys) z p)
numbered-back n (x ∷ xs) ys p =
    let on : n + 1 + length xs ≡ n + length (x ∷ xs) = omega arith in
    subst (λ m. AreNumbered m ys) on (numbered-back (n + 1) xs ys p.1)

-- the number of what is behind others
pub numbered-next : (n : ℕ) (xs : List Sent) (x : Sent) (ys : List Sent) → AreNumbered n (xs ++ x ∷ ys) → x.number ≡ n + length xs + 1
unfolding AreNumbered
numbered-next n xs x ys p = (numbered-back n xs (x ∷ ys) p).0

pub numbered-first : (n : ℕ) (first : Option Sent) (ys : List Sent) → AreNumbered n (one_or_none first ++ ys) → IfSome first (λ x. x.number ≡ n + 1)
unfolding AreNumbered
numbered-first n None ys p = tt
numbered-first n (Some x) ys p = p.0

pub numbered-one : (n : ℕ) (x : Sent) → x.number ≡ n + 1 → AreNumbered n (x ∷ [])
unfolding AreNumbered
numbered-one n x is = (is, tt)

pub numbered-none : (n : ℕ) → AreNumbered n []
unfolding AreNumbered
numbered-none n = tt

module _ {App : Type 0} (event_of : App → ℕ → Meaning) (layout : Layout) (high : ℕ) where
  abbrev pub ahead_nothing : (a : Bench App) → PlansAhead event_of layout high a None a
  ahead_nothing a = record {
    more = [];
    sent_is = sym (append-nil a.sent);
    plans = plans_nothing event_of a.at;
    ready = λ k d lt. absurd (omega arith);
    numbered = numbered-none a.number;
    number_is = omega arith;
  }

  -- plans that are ready with one greatest value are so with another, which is it where there is a plan
  pub ready_as : (high' : ℕ) (xs : List Sent) → (0 < length xs → high' ≡ high) → All (λ (x : Sent). IsReadyPlan layout high x.plan) xs → All (λ (x : Sent). IsReadyPlan layout high' x.plan) xs
  ready_as high' [] is ready = All-nil (λ (x : Sent). IsReadyPlan layout high' x.plan)
  ready_as high' (x ∷ xs) is ready = subst (λ n. All (λ (y : Sent). IsReadyPlan layout n y.plan) (x ∷ xs)) (sym (is (zero-lt-suc (length xs)))) ready

  pub ahead_more : {a b c : Bench App} (high' : ℕ) (x : Sent) (p : PlansAhead event_of layout high a None b) →
      Plans event_of b.at (x.plan ∷ []) None c.at → (0 < length p.more → high' ≡ high) → IsReadyPlan layout high' x.plan → c.sent ≡ b.sent ++ x ∷ [] → x.number ≡ b.number + 1 → c.number ≡ b.number + 1 →
      PlansAhead event_of layout high' a None c
  ahead_more {a} {b} {c} high' x p q same ready is number next = record {
    more = p.more ++ x ∷ [];
    sent_is = is ∙ ap (λ l. l ++ x ∷ []) p.sent_is ∙ append_assoc a.sent p.more (x ∷ []);
    plans = subst (λ (l : List Plan). Plans event_of a.at l None c.at) (sym (map-append (λ (y : Sent). y.plan) p.more (x ∷ []))) (plans_both event_of (plans_of p.more) (x.plan ∷ []) p.plans q);
    ready = All-push (λ (y : Sent). IsReadyPlan layout high' y.plan) p.more x (ready_as high' p.more same p.ready) ready;
    numbered = numbered-append a.number p.more (x ∷ []) p.numbered (numbered-one (a.number + length p.more) x (number ∙ ap (λ i. i + 1) p.number_is));
    number_is = let l = length-append p.more (x ∷ []) in let i = p.number_is in omega (arith, l, i, next);
  }

  pub ahead_stop : {a b c : Bench App} (high' : ℕ) (tail : Tail) (p : PlansAhead event_of layout high a None b) → StopsWithTail event_of tail b.at c.at →
      (0 < length p.more → high' ≡ high) → c.sent ≡ b.sent → c.number ≡ b.number → PlansAhead event_of layout high' a (Some tail) c
  ahead_stop {a} {b} {c} high' tail p stops same is number = record {
    more = p.more;
    sent_is = is ∙ p.sent_is;
    plans = plans_stop event_of (plans_of p.more) tail p.plans stops;
    ready = ready_as high' p.more same p.ready;
    numbered = p.numbered;
    number_is = number ∙ p.number_is;
  }

-- the same end of a ring
pub same_producer : {T A P : Type 0} (a b c : Producer T A P) → SameProducer a b → SameProducer b c → SameProducer a c
same_producer a b c p q = ((q.0.0 ∙ p.0.0, q.0.1 ∙ p.0.1, q.0.2 ∙ p.0.2, q.0.3 ∙ p.0.3), q.1 ∙ p.1)

pub same_consumer : {T A P : Type 0} (a b c : Consumer T A P) → SameConsumer a b → SameConsumer b c → SameConsumer a c
same_consumer a b c p q = ((q.0.0 ∙ p.0.0, q.0.1 ∙ p.0.1, q.0.2 ∙ p.0.2, q.0.3 ∙ p.0.3), q.1 ∙ p.1)

-- the same keys
pub same_layout : {App : Type 0} (table_count : App → ℕ) (a b : ReaderView App) → SameReader a b → layout_by table_count b ≡ layout_by table_count a
same_layout table_count a b same =
    let at : ℕ → ℕ → Layout = λ tables size. record { tables = tables; size = size } in
    ap (λ tables. at tables b.size) (ap table_count same.0) ∙ ap (at (table_count a.app)) same.1

pub same_ring : {T A P : Type 0} (a b : Consumer T A P) → b ≡ a → SameConsumer a b
same_ring {T} {A} {P} a b e = subst (λ (c : Consumer T A P). SameConsumer a c) (sym e) ((refl, refl, refl, refl), refl)

-- what waited is ready when the halves begin: where a batch was read first nothing waited, and else the reader is as it was
pub waits_ready : {App : Type 0} (event_of : App → ℕ → Meaning) (layout : Layout) (r0 r1 : ReaderView App) (waiting : List Sent) (asked : Bool) → (asked ≡ true → length waiting ≡ 0) → (asked ≡ false → r1 ≡ r0)
    → All (λ (x : Sent). IsReadyPlan layout (greatest_of r0.past.version) x.plan) waiting → All (λ (x : Sent). IsReadyPlan layout (greatest_of r1.past.version) x.plan) waiting
waits_ready {App} event_of layout r0 r1 waiting asked none idle ready =
    ready_as event_of layout (greatest_of r0.past.version) (greatest_of r1.past.version) waiting (by_asked asked refl) ready
  where
    by_asked : (t : Bool) → asked ≡ t → 0 < length waiting → greatest_of r1.past.version ≡ greatest_of r0.past.version
    by_asked true is some = absurd (let empty = none is in omega (arith, some, empty))
    by_asked false is some = ap (λ (r : ReaderView App). greatest_of r.past.version) (idle is)

-- where a plan waited the halves keep the version: a line was read before, or nothing is read
pub halves_keep : {App : Type 0} (r1 r2 : ReaderView App) (planning : Bool) → (planning ≡ true → 0 < r1.lines.number) → KeepsVersion r1 r2 → (planning ≡ false → r2 ≡ r1)
    → greatest_of r2.past.version ≡ greatest_of r1.past.version
halves_keep {App} r1 r2 planning some keeps idle = by_planning planning refl
  where
    by_planning : (t : Bool) → planning ≡ t → greatest_of r2.past.version ≡ greatest_of r1.past.version
    by_planning true is = ap greatest_of (keeps.stays (some is))
    by_planning false is = ap (λ (r : ReaderView App). greatest_of r.past.version) (idle is)
