-- The steps on an operation before it is evaluated: it is made ready, claimed or given back.
use Rattle.std.proofs.Common.{◌≡◌, ◌≢◌, ℕ, ◌+◌, ◌<◌, [], length, set, refl, sym, ap, ◌∙◌, subst, inl, arith, Some, None}
use Rattle.std.specs.Prelude.{slice_index, ◌==◌}
use Rattle.std.proofs.lemmas.Option.{same_Some}
use mathlib.Core.Option.{some, none}
use lib.ListN.{get_elem?}
use prog.Atomic.{either}
use Rattle.atomic_table.specs.Table.{step, keeps, Allows}
use Rattle.morph_base.specs.declared.plan.Plan.{Plan}
use Rattle.morph_base.specs.declared.word.OpWord.{OpWord}
use Rattle.morph_base.specs.Words.{IsWord, packed}
use Rattle.morph_base.specs.Plans.{op_count}
use Rattle.interleaving_core.specs.declared.entry.Held.{Held}
use Rattle.interleaving_core.specs.declared.event.CoreEvent.TheVariants.{Ready as ReadyStep, Claim, GiveBack}
use Rattle.interleaving_core.specs.Core.{Core, blocked, ready, claimed, put}
use Rattle.interleaving_core.specs.Steps.{IsWorker, IsClaimedBy, May, after}
use Rattle.interleaving_core.specs.Soundness.{IsSoundClaim}
use Rattle.interleaving_core.proofs.Basics.{put_here, put_else}
use Rattle.op_words.specs.declared.trail.View.{View}
use Rattle.op_words.specs.Trails.{left}
use Rattle.op_words.specs.Views.{making, claiming, giving_back}
use Rattle.op_words.specs.Rule.{Seats, Knows, Lawful, Steps}
use Rattle.op_words.specs.Plays.{Sat, Leaves, Swaps, makes, claims, gives}
use Rattle.op_words.proofs.Rows.{here_long, no_more}
use Rattle.op_words.proofs.Knowing.{words_more}
use Rattle.op_words.proofs.Moving.{with_view}
use Rattle.op_words.proofs.Leaving.{IsLeft, left_steps, left_so, swapped}

module _ {p : Plan} {cap counters : ℕ} (s : Seats) (lawful : Lawful p cap counters s) (i : ℕ) (v : View) (at : get_elem? s.views i ≡ some (Some v)) where
  abbrev c : Core
  c = lawful.core

  knows : Knows p cap lawful.core (length s.views) i v
  knows = lawful.hands i v at

  -- its tag is the number of a worker
  pub is_worker : IsWorker v.tag
  is_worker = let lt = here_long s.views i (Some v) at in let most = lawful.most in let tag = knows.tag in record { first = omega (arith, tag); last = omega (arith, lt, most, tag) }

  own_claim : lawful.core.claim v.tag ≡ v.claim
  own_claim = ap lawful.core.claim knows.tag ∙ knows.claim

  pub not_own : (t : ℕ) → t ≢ i + 1 → t ≢ v.tag
  not_own t other same = other (same ∙ knows.tag)

  -- ---- ready

  module _ (o a : ℕ) (lt : o < op_count p) (word : lawful.core.word o ≡ blocked a) where
    may_make : May p cap lawful.core (ReadyStep o)
    may_make = record { in_range = lt; goes_from = ap (λ (w : OpWord). w.state) word }

    is_made : IsLeft p lawful.core (after p lawful.core (ReadyStep o)) o (ready a) (ReadyStep o) i v (making o a v)
    is_made = record {
      words = λ j. ap (λ (w : OpWord). put lawful.core.word o (ready w.attempt) j) word;
      recorded = λ q j. refl;
      decided = λ j. refl;
      claim = knows.claim;
      advances = record {
        others = λ t other. refl;
        shown = [];
        shows = no_more lawful.core.published;
        mine = no_more v.published;
        booked = [];
        books = no_more lawful.core.settlings;
        my_books = no_more v.settlings;
        events = refl;
        tag = refl;
        joined = refl;
        places = refl;
      };
      more = words_more (record { plan = refl; cap = refl; tag = refl; made = refl; notes = refl; trail = refl; decisions = refl; settlings = refl; joined = refl; places = refl });
      learned = refl;
      records = λ noted r inside. inl inside;
    }

    pub made_steps : Steps p cap counters s lawful (with_view (set s.words o (packed (ready a))) s i (making o a v)) (ReadyStep o)
    made_steps = left_steps s lawful i v (making o a v) at o lt (ready a) (ReadyStep o) may_make is_made

    pub made_so : Leaves v (making o a v) (left o (ready a))
    made_so = left_so s lawful i v (making o a v) at o lt (ready a) (ReadyStep o) may_make is_made

  -- ---- claimed

  module _ (o a : ℕ) (lt : o < op_count p) (free : v.claim ≡ None) (word : lawful.core.word o ≡ ready a) where
    may_claim : May p cap lawful.core (Claim o v.tag)
    may_claim = record { in_range = lt; worker = is_worker; goes_from = ap (λ (w : OpWord). w.state) word; free = own_claim ∙ free }

    held_is : put lawful.core.claim v.tag (Some (record { op = o; attempt = (lawful.core.word o).attempt; values = [] })) (i + 1) ≡ Some (record { op = o; attempt = a; values = [] })
    held_is =
        ap (put lawful.core.claim v.tag (Some (record { op = o; attempt = (lawful.core.word o).attempt; values = [] }))) (sym knows.tag)
        ∙ put_here lawful.core.claim v.tag (Some (record { op = o; attempt = (lawful.core.word o).attempt; values = [] }))
        ∙ ap (λ (w : OpWord). Some (record { op = o; attempt = w.attempt; values = [] })) word

    is_claimed : IsLeft p lawful.core (after p lawful.core (Claim o v.tag)) o (claimed a v.tag) (Claim o v.tag) i v (claiming o a v)
    is_claimed = record {
      words = λ j. ap (λ (w : OpWord). put lawful.core.word o (claimed w.attempt v.tag) j) word;
      recorded = λ q j. refl;
      decided = λ j. refl;
      claim = held_is;
      advances = record {
        others = λ t other. put_else lawful.core.claim v.tag (Some (record { op = o; attempt = (lawful.core.word o).attempt; values = [] })) t (not_own t other);
        shown = [];
        shows = no_more lawful.core.published;
        mine = no_more v.published;
        booked = [];
        books = no_more lawful.core.settlings;
        my_books = no_more v.settlings;
        events = refl;
        tag = refl;
        joined = refl;
        places = refl;
      };
      more = words_more (record { plan = refl; cap = refl; tag = refl; made = refl; notes = refl; trail = refl; decisions = refl; settlings = refl; joined = refl; places = refl });
      learned = refl;
      records = λ noted r inside. inl inside;
    }

    pub claimed_steps : Steps p cap counters s lawful (with_view (set s.words o (packed (claimed a v.tag))) s i (claiming o a v)) (Claim o v.tag)
    claimed_steps = left_steps s lawful i v (claiming o a v) at o lt (claimed a v.tag) (Claim o v.tag) may_claim is_claimed

    pub claimed_so : Leaves v (claiming o a v) (left o (claimed a v.tag))
    claimed_so = left_so s lawful i v (claiming o a v) at o lt (claimed a v.tag) (Claim o v.tag) may_claim is_claimed

  -- ---- what is held

  module _ (h : Held) (holds : v.claim ≡ Some h) where
    pub sound_claim : IsSoundClaim p cap lawful.core v.tag h
    sound_claim = lawful.sound.each_claim v.tag h (own_claim ∙ holds)

    pub held_now : lawful.core.claim v.tag ≡ Some h
    held_now = own_claim ∙ holds

    pub attempt_now : (lawful.core.word h.op).attempt ≡ h.attempt
    attempt_now = ap (λ (w : OpWord). w.attempt) sound_claim.word_is

    pub claimed_now : IsClaimedBy p lawful.core h.op v.tag
    claimed_now = record {
      in_range = sound_claim.in_range;
      worker = is_worker;
      state_is = ap (λ (w : OpWord). w.state) sound_claim.word_is;
      by_is = ap (λ (w : OpWord). w.by) sound_claim.word_is;
    }

    pub let_go : put lawful.core.claim v.tag None (i + 1) ≡ None
    let_go = ap (put lawful.core.claim v.tag None) (sym knows.tag) ∙ put_here lawful.core.claim v.tag None

    -- ---- given back

    is_given : IsLeft p lawful.core (after p lawful.core (GiveBack h.op v.tag)) h.op (blocked h.attempt) (GiveBack h.op v.tag) i v (giving_back h.op h.attempt v)
    is_given = record {
      words = λ j. ap (λ (a : ℕ). put lawful.core.word h.op (blocked a) j) attempt_now;
      recorded = λ q j. refl;
      decided = λ j. refl;
      claim = let_go;
      advances = record {
        others = λ t other. put_else lawful.core.claim v.tag None t (not_own t other);
        shown = [];
        shows = no_more lawful.core.published;
        mine = no_more v.published;
        booked = [];
        books = no_more lawful.core.settlings;
        my_books = no_more v.settlings;
        events = refl;
        tag = refl;
        joined = refl;
        places = refl;
      };
      more = words_more (record { plan = refl; cap = refl; tag = refl; made = refl; notes = refl; trail = refl; decisions = refl; settlings = refl; joined = refl; places = refl });
      learned = refl;
      records = λ noted r inside. inl inside;
    }

    pub given_steps : Steps p cap counters s lawful (with_view (set s.words h.op (packed (blocked h.attempt))) s i (giving_back h.op h.attempt v)) (GiveBack h.op v.tag)
    given_steps = left_steps s lawful i v (giving_back h.op h.attempt v) at h.op sound_claim.in_range (blocked h.attempt) (GiveBack h.op v.tag) claimed_now is_given

    pub given_so : Leaves v (giving_back h.op h.attempt v) (left h.op (blocked h.attempt))
    given_so = left_so s lawful i v (giving_back h.op h.attempt v) at h.op sound_claim.in_range (blocked h.attempt) (GiveBack h.op v.tag) claimed_now is_given

same_blocked : (a b : ℕ) → packed (blocked a) ≡ packed (blocked b) → a ≡ b
same_blocked a b e = omega (arith, e)

same_ready : (a b : ℕ) → packed (ready a) ≡ packed (ready b) → a ≡ b
same_ready a b e = omega (arith, e)

module _ {p : Plan} {cap counters : ℕ} (slots id : ℕ) (me : Sat) (v : View) (is : me.0 ≡ Some v) where
  module _ (o a : ℕ) (lt : o < op_count p) where
    pub allows_make : IsWord (blocked a) → Allows (Lawful p cap counters) slots id me o (λ n. either (n == packed (blocked a)) (packed (ready a)) n) (makes (step slots o (packed (blocked a)) (packed (ready a)) none) me)
    allows_make word s lawful homes at small =
        let there : get_elem? s.views id ≡ some (Some v) = at ∙ ap some is in
        let r = swapped s lawful id v (making o a v) me there o lt (blocked a) (ready a) word (λ same. ((made_steps s lawful id v there o a lt same).next, made_so s lawful id v there o a lt same)) in (
          Some r.0,
          keeps,
          tt,
          r.1,
          λ x same b first.
              let e : v ≡ x = same_Some v x (sym is ∙ same) in
              subst (λ (z : View × ℕ). Swaps o (slice_index s.words o) (packed (blocked a)) z.0 (making o z.1 z.0) (ready z.1) me (Some r.0, me.1)) (λ k. (e k, same_blocked a b first k)) r.2,
        )

    pub allows_claim : IsWord (ready a) → v.claim ≡ None → Allows (Lawful p cap counters) slots id me o (λ n. either (n == packed (ready a)) (packed (claimed a v.tag)) n) (claims (step slots o (packed (ready a)) (packed (claimed a v.tag)) none) me)
    allows_claim word free s lawful homes at small =
        let there : get_elem? s.views id ≡ some (Some v) = at ∙ ap some is in
        let r = swapped s lawful id v (claiming o a v) me there o lt (ready a) (claimed a v.tag) word (λ same. ((claimed_steps s lawful id v there o a lt free same).next, claimed_so s lawful id v there o a lt free same)) in (
          Some r.0,
          keeps,
          tt,
          r.1,
          λ x same b first.
              let e : v ≡ x = same_Some v x (sym is ∙ same) in
              subst (λ (z : View × ℕ). Swaps o (slice_index s.words o) (packed (ready a)) z.0 (claiming o z.1 z.0) (claimed z.1 z.0.tag) me (Some r.0, me.1)) (λ k. (e k, same_ready a b first k)) r.2,
        )

  module _ (h : Held) (holds : v.claim ≡ Some h) where
    pub allows_give : Allows (Lawful p cap counters) slots id me h.op (λ n. packed (blocked h.attempt)) (λ n. gives (step slots h.op (packed (blocked h.attempt)) 0 none) me (packed (blocked h.attempt)))
    allows_give s lawful homes at small =
        let there : get_elem? s.views id ≡ some (Some v) = at ∙ ap some is in (
          Some (giving_back h.op h.attempt v),
          keeps,
          tt,
          (given_steps s lawful id v there h holds).next,
          λ x same k held.
              let e : v ≡ x = same_Some v x (sym is ∙ same) in
              let one : h ≡ k = same_Some h k (sym holds ∙ ap (λ (y : View). y.claim) e ∙ held) in
              subst (λ (z : View × Held). (◌≡◌ {A = Sat} (Some (giving_back h.op h.attempt v), me.1) (Some (giving_back z.1.op z.1.attempt z.0), me.1)) × Leaves z.0 (giving_back z.1.op z.1.attempt z.0) (left z.1.op (blocked z.1.attempt)))
              (λ t. (e t, one t)) (refl, given_so s lawful id v there h holds),
        )
