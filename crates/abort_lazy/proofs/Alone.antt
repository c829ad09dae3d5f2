-- A lone root settles all.
use Rattle.std.proofs.Common.{◌≡◌, ℕ, zero, suc, ◌+◌, ◌<◌, true, eqb, List, [], ◌∷◌, ◌++◌, append-nil, length, get_or, refl, sym, ap, ◌∙◌, subst, inl, inr, arith}
use Rattle.std.specs.Prelude.{Contains, slice_index_or}
use Rattle.std.proofs.lemmas.Bool.{false≢true, cases_lt, eq-eqb}
use Rattle.morph_base.specs.declared.plan.Plan.{Plan}
use Rattle.morph_base.specs.Graphs.{below, IsGraph}
use Rattle.morph_base.specs.Plans.{IsPlan, InEvent, event_at, event_of, event_count}
use Rattle.morph_base.proofs.LevelLaws.{event_level-range}
use Rattle.op_words.specs.declared.board.Board.{Board}
use Rattle.op_words.specs.Views.{IsLone, IsSettledSeen}
use Rattle.op_eval.specs.declared.runner.Runner.{Runner}
use Rattle.op_eval.specs.Running.{hand_view}
use Rattle.op_eval.proofs.Elements.{contains_first, contains_later, contains_cases, contains_none, contains_filter}
use Rattle.op_eval.specs.Turns.{TakingCall, Took, Tried}
use Rattle.abort_lazy.specs.declared.transaction.TxnAnswer.{TxnAnswer}
use Rattle.abort_lazy.specs.declared.transaction.TxnAnswer.TheVariants.{Settled as AllSettled, NotYet, Busy}
use Rattle.abort_lazy.specs.Transactions.{is_all_settled}
use Rattle.abort_lazy.specs.Sweeps.{left_of, MakesCalls, Swept, IsThrough}
use Rattle.abort_lazy.specs.Runs.{events_of, event_in, AreSettledUpTo, HasSettledAlone, AreSettling, IsSettledByRoot}
use Rattle.abort_lazy.proofs.Carrying.{seen_more}
use Rattle.abort_lazy.proofs.Levelling.{events_is, level_is, levels_len}
use Rattle.abort_lazy.proofs.Summing.{below_has}
use Rattle.abort_lazy.proofs.Trying.{calls_lone, seen_taken, source_below}

-- ---- each event of a level stands in its list

any_default : (xs : List ℕ) (n d e : ℕ) → n < length xs → get_or xs n d ≡ get_or xs n e
any_default [] n d e lt = absurd (omega (arith, lt))
any_default (x ∷ xs) zero d e lt = refl
any_default (x ∷ xs) (suc n) d e lt = any_default xs n d e (less lt)
  where
    less : suc n < suc (length xs) → n < length xs
    less l = omega (arith, l)

module _ (p : Plan) (valid : IsPlan p) (graph : IsGraph p) where
  event_found : (l i : ℕ) → l < length p.event_levels.items → i < event_count p → (event_at p i).level ≡ l + 1 → (n : ℕ) × (n < length (events_of p l)) × (event_in p l n ≡ i)
  event_found l i lt less is = (found.0, found.1, any_default (events_of p l) found.0 0 i found.1 ∙ found.2)
    where
      found : Contains (events_of p l) i
      found =
          subst (λ xs. Contains xs i) (sym (events_is p graph l lt))
          (contains_filter (λ k. eqb (event_at p k).level (l + 1)) (below (event_count p)) i (below_has (event_count p) i less) (eq-eqb (event_at p i).level (l + 1) is))

  -- ---- what its calls settle

  none_left : (i : ℕ) (r : TxnAnswer) → is_all_settled r ≡ true → left_of i r ≡ []
  none_left i (AllSettled committed) is = refl
  none_left i (NotYet at w) is = absurd (false≢true is)
  none_left i (Busy at w) is = absurd (false≢true is)

  append_left : {X : Type 0} (xs ys : List X) → ys ≡ [] → xs ++ ys ≡ xs
  append_left xs ys none = ap (λ zs. xs ++ zs) none ∙ append-nil xs

  record IsDone (level : ℕ) (cs : List TakingCall) (m b : Runner) : Type 0 where
    pub before : AreSettledUpTo p level (hand_view b)
    pub none : b.kept.items ≡ m.kept.items
    pub now : (i : ℕ) → Contains cs (Tried i) → (o : ℕ) → InEvent p i o → IsSettledSeen (hand_view b) o

  calls_settle : (level : ℕ) (cs : List TakingCall) (m b : Runner) → IsLone (hand_view m) → AreSettledUpTo p level (hand_view m) → ((i : ℕ) → Contains cs (Tried i) → (event_at p i).level ≡ level + 1)
      → MakesCalls p cs m b → IsDone level cs m b
  calls_settle level [] m b lone up of_level calls = record {
    before = subst (λ r. AreSettledUpTo p level (hand_view r)) (sym calls) up;
    none = ap (λ r. r.kept.items) calls;
    now = λ i found. absurd (contains_none (Tried i) found);
  }
  calls_settle level (Took c n ∷ cs) m b lone up of_level calls =
      let done = calls_settle level cs m calls.0 lone up (λ i found. of_level i (contains_later (Took c n) cs (Tried i) found)) calls.1 in
      record {
        before = λ i lt le o inside. seen_taken c n o calls.0 b calls.2 (done.before i lt le o inside);
        none = ap (λ l. l.items) calls.2.kept ∙ done.none;
        now = λ i found o inside.
            elim (contains_cases (Took c n) cs (Tried i) found) [
              | inl same ↦ absurd (apart i same)
              | inr later ↦ seen_taken c n o calls.0 b calls.2 (done.now i later o inside)
            ];
      }
    where
      apart : (i : ℕ) → Tried i ≡ Took c n → ⊥
      apart i e = cc
  calls_settle level (Tried j ∷ cs) m b lone up of_level calls =
      let done = calls_settle level cs m calls.0 lone up (λ i found. of_level i (contains_later (Tried j) cs (Tried i) found)) calls.1 in
      let does = calls.2.1.does in
      let settled : is_all_settled calls.2.1.answer ≡ true =
      does.tells.lone (calls_lone p cs m calls.0 calls.1 lone)
      (λ o inside.
      record {
        each = λ s source.
            let from = source_below p valid graph j o s calls.2.0 inside source in
            let here = of_level j (contains_first (Tried j) cs) in
            done.before (event_of p s) from.0 (let low = from.2 in omega (arith, low, here)) s from.1;
      }) in
      record {
        before = λ i lt le o inside. seen_more does.goes (done.before i lt le o inside);
        none = calls.2.1.kept ∙ append_left calls.0.kept.items (left_of j calls.2.1.answer) (none_left j calls.2.1.answer settled) ∙ done.none;
        now = λ i found o inside.
            elim (contains_cases (Tried j) cs (Tried i) found) [
              | inl same ↦ does.tells.exact.0 settled o (subst (λ k. InEvent p k o) (event_is i same) inside)
              | inr later ↦ seen_more does.goes (done.now i later o inside)
            ];
      }
    where
      event_is : (i : ℕ) → Tried i ≡ Tried j → i ≡ j
      event_is i e = cc

  -- one more level
  pub settled_alone : (c level : ℕ) (a m b : Runner) → level < length p.event_levels.items → IsLone (hand_view m) → HasSettledAlone p level a m → Swept p c (events_of p level) m b
      → IsThrough c (events_of p level) m b → HasSettledAlone p (level + 1) a b
  settled_alone c level a m b lt lone old swept through = record {
    settled = λ i less le o inside.
        elim (cases_lt level (event_at p i).level) [
          | inr low ↦ done.before i less low o inside
          | inl high ↦
              let at = event_found level i lt less (omega (arith, le, high)) in
              let many = through.alone lone in
              let below = at.1 in
              let took = swept.whole lone at.0 (omega (arith, many, below)) in
              done.now i (subst (λ k. Contains swept.calls (Tried k)) at.2 (swept.tried at.0 took at.1)) o inside
        ];
    none = done.none ∙ old.none;
  }
    where
      of_level : (i : ℕ) → Contains swept.calls (Tried i) → (event_at p i).level ≡ level + 1
      of_level i found = let is = swept.inside i found in ap (λ k. (event_at p k).level) (sym is.2) ∙ level_is p graph level is.0 lt is.1

      done : IsDone level swept.calls m b
      done = calls_settle level swept.calls m b lone old.settled of_level swept.made

  -- no event is of level 0
  pub alone_begins : (a : Runner) → HasSettledAlone p 0 a a
  alone_begins a = record {
    settled = λ i lt le o inside. let range = (event_level-range p valid graph i lt).0 in absurd (omega (arith, range, le));
    none = refl;
  }

  -- all levels are done
  pub alone_ends : (b : Board) (from : ℕ) (start rs : List Runner) → ((d : Runner) → (slice_index_or start 0 d).kept.items ≡ []) → AreSettling b p from start rs → IsSettledByRoot p start rs
  alone_ends b from start rs empty settling one d lone =
      let alone = settling.alone one d lone in
      record {
        settled = λ o lt.
            let home = valid.numbering.placed o lt in
            let range = (event_level-range p valid graph (event_of p o) home.0).1 in
            let len = levels_len p graph in
            alone.settled (event_of p o) home.0 (omega (arith, range, len)) o home.1;
        none = alone.none ∙ empty d;
      }
