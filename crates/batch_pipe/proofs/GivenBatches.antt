-- Batches given one after another.
use Rattle.std.proofs.Common.{◌≡◌, ℕ, ◌+◌, ◌<◌, ◌≤◌, false, List, [], ◌∷◌, ◌++◌, length, Option, Some, None, Ok, map, refl, ap, sym, subst, ◌∙◌, arith, append-nil, append_assoc}
use Rattle.std.specs.Prelude.{option_map}
use Rattle.std.proofs.lemmas.List.Sums.{sum_by-append}
use Rattle.std.proofs.lemmas.List.Elements.{All-append, All-push}
use Rattle.std.proofs.Math.Path.{fun_ext}
use Rattle.morph_base.specs.declared.batch.Batch.{Batch as TheBatch}
use Rattle.morph_base.specs.Transactions.{Transaction, transactions_of}
use Rattle.morph_io.specs.Told.{ahead, ahead_nil, ahead_ahead}
use Rattle.event_reader.specs.Lines.{front}
use Rattle.event_reader.specs.Steps.{Meaning}
use Rattle.event_reader.specs.Accepted.{Accepted, with_batch}
use Rattle.event_reader.specs.declared.answers.Next.TheVariants.{Batch}
use Rattle.event_reader.specs.Reader.{accepted_by, accepted_after, accepted_next, AnswersNext, ShowsNext, TakesBytes, SameReader}
use Rattle.batch_pipe.specs.GivenBatches.{Stand, GivesBatches, with_batches}
use Rattle.batch_pipe.specs.declared.tail.Tail.{Tail}
use Rattle.batch_pipe.specs.PlannedBatches.{Plans, StopsWithTail}
use Rattle.morph_base.specs.declared.plan.Plan.{Plan}
use Rattle.morph_base.specs.Plans.{transactions}
use Rattle.event_reader.proofs.InputVersion.{keeps_same, same_both}
use Rattle.morph_base.specs.Transactions.{by_time}
use Rattle.std.proofs.lemmas.List.{map-append}

option_map-same : {X : Type 0} (f : X → X) → ((x : X) → f x ≡ x) → (o : Option X) → option_map f o ≡ o
option_map-same f same None = refl
option_map-same f same (Some x) = ap Some (same x)

option_map-twice : {X Y Z : Type 0} (g : Y → Z) (f : X → Y) (h : X → Z) → ((x : X) → g (f x) ≡ h x) → (o : Option X) → option_map g (option_map f o) ≡ option_map h o
option_map-twice g f h same None = refl
option_map-twice g f h same (Some x) = ap Some (same x)

with_batches-both : (xs ys : List (List Transaction)) (all : Accepted) → with_batches xs (with_batches ys all) ≡ with_batches (xs ++ ys) all
with_batches-both xs ys all =
    let at : List (List Transaction) → Accepted = λ l. record { batches = l; ending = all.ending } in
    ap at (sym (append_assoc xs ys all.batches))

with_batch-one : (es : List Transaction) (all : Accepted) → 0 < length es → with_batch es all ≡ with_batches (es ∷ []) all
with_batch-one [] all some = absurd (omega arith)
with_batch-one (e ∷ es) all some = refl

four : (k f g more : List ℕ) → k ++ (f ++ g) ++ more ≡ k ++ f ++ (g ++ more)
four k f g more = ap (λ l. l ++ more) (sym (append_assoc k f g)) ∙ append_assoc (k ++ f) g more

module _ {App : Type 0} (event_of : App → ℕ → Meaning) where
  pub gives_nothing : (a : Stand App) → GivesBatches event_of a [] a
  gives_nothing a = record {
    next = sym (option_map-same (with_batches []) (λ all. refl) (accepted_by event_of a.reader a.left));
    shows = record {
      got = [];
      taken = sym (ahead_nil a.left);
      shows = λ e more. ap (λ l. accepted_after event_of a.reader (front (l ++ more))) (append-nil a.reader.lines.kept);
    };
    some = λ k d lt. absurd (omega arith);
    counted = omega arith;
    bound = λ few. few;
    unended = λ e. e;
    same = (refl, refl, refl, keeps_same a.reader);
  }

  pub gives_both : {a b c : Stand App} (xs ys : List (List Transaction)) → GivesBatches event_of a xs b → GivesBatches event_of b ys c → GivesBatches event_of a (xs ++ ys) c
  gives_both {a} {b} {c} xs ys p q = record {
    next = p.next ∙ ap (option_map (with_batches xs)) q.next
        ∙ option_map-twice (with_batches xs) (with_batches ys) (with_batches (xs ++ ys)) (with_batches-both xs ys) (accepted_by event_of c.reader c.left);
    shows = record {
      got = p.shows.got ++ q.shows.got;
      taken = p.shows.taken ∙ ap (ahead p.shows.got) q.shows.taken ∙ ahead_ahead p.shows.got q.shows.got c.left;
      shows = λ e more.
          ap (λ l. accepted_after event_of a.reader (front l)) (four a.reader.lines.kept p.shows.got q.shows.got more)
          ∙ p.shows.shows (q.unended e) (q.shows.got ++ more)
          ∙ ap (λ l. with_batches xs (accepted_after event_of b.reader (front l))) (sym (append_assoc b.reader.lines.kept q.shows.got more))
          ∙ ap (with_batches xs) (q.shows.shows e more)
          ∙ with_batches-both xs ys (accepted_after event_of c.reader (front (c.reader.lines.kept ++ more)));
    };
    some = All-append (λ (batch : List Transaction). 0 < length batch) xs ys p.some q.some;
    counted = let s = sum_by-append (λ (batch : List Transaction). length batch) xs ys in let l = p.counted in let r = q.counted in omega (arith, s, l, r);
    bound = λ few. q.bound (p.bound few);
    unended = λ e. p.unended (q.unended e);
    same = same_both a.reader b.reader c.reader p.same q.same;
  }

  pub gives_one : (a b : Stand App) (batch : TheBatch) → AnswersNext (accepted_by event_of a.reader a.left) (Ok (Batch batch)) (accepted_by event_of b.reader b.left) →
      TakesBytes a.left b.left (ShowsNext event_of a.reader (Ok (Batch batch)) b.reader) →
      0 < length (transactions_of batch) → a.reader.lines.number + length (transactions_of batch) ≤ b.reader.lines.number → b.reader.lines.number ≤ b.reader.lines.limit + 1 →
      (b.reader.lines.ended ≡ false → a.reader.lines.ended ≡ false) →
      SameReader a.reader b.reader →
      GivesBatches event_of a (transactions_of batch ∷ []) b
  gives_one a b batch answers shows some counted bound unended same =
      let es : List Transaction = transactions_of batch in
      let meaning_is : event_of b.reader.app b.reader.size ≡ event_of a.reader.app a.reader.size = ap (λ app. event_of app b.reader.size) same.0 ∙ ap (event_of a.reader.app) same.1 in
      record {
        next = answers ∙ ap (λ f. option_map f (accepted_by event_of b.reader b.left)) (fun_ext (λ all. with_batch-one es all some));
        shows = record {
          got = shows.got;
          taken = shows.taken;
          shows = λ e more.
              shows.shows e more
              ∙ ap (λ m. with_batch es (accepted_next m b.reader.past b.reader.lines (front (b.reader.lines.kept ++ more)))) (sym meaning_is)
              ∙ with_batch-one es (accepted_after event_of b.reader (front (b.reader.lines.kept ++ more))) some;
        };
        some = All-push (λ (batch : List Transaction). 0 < length batch) [] es (λ k d lt. absurd (omega arith)) some;
        counted = omega (arith, counted);
        bound = λ few. bound;
        unended = unended;
        same = same;
      }

  -- plans of batches that were given one after another
  pub plans_nothing : (a : Stand App) → Plans event_of a [] None a
  plans_nothing a = record { batches = []; middle = a; gives = gives_nothing a; plans_are = refl; stops = refl }

  pub plans_both : {a b c : Stand App} {tail : Option Tail} (ps qs : List Plan) → Plans event_of a ps None b → Plans event_of b qs tail c → Plans event_of a (ps ++ qs) tail c
  plans_both {a} {b} {c} {tail} ps qs p q =
      let first : GivesBatches event_of a p.batches b = subst (GivesBatches event_of a p.batches) (sym p.stops) p.gives in
      record {
        batches = p.batches ++ q.batches;
        middle = q.middle;
        gives = gives_both p.batches q.batches first q.gives;
        plans_are = map-append transactions ps qs ∙ ap (λ l. l ++ map transactions qs) p.plans_are ∙ ap (λ l. map by_time p.batches ++ l) q.plans_are ∙ sym (map-append by_time p.batches q.batches);
        stops = q.stops;
      }

  pub plans_stop : {a b c : Stand App} (ps : List Plan) (tail : Tail) → Plans event_of a ps None b → StopsWithTail event_of tail b c → Plans event_of a ps (Some tail) c
  plans_stop {a} {b} {c} ps tail p stops = record {
    batches = p.batches;
    middle = p.middle;
    gives = p.gives;
    plans_are = p.plans_are;
    stops = subst (λ m. StopsWithTail event_of tail m c) p.stops stops;
  }
