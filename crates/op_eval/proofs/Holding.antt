-- How an operation is evaluated, call by call.
use Rattle.std.proofs.Common.{◌≡◌, ◌≢◌, ◌⊎◌, ℕ, zero, suc, ◌+◌, ◌<◌, ◌≤◌, true, false, List, [], ◌∷◌, ◌++◌, length, get_or, refl, sym, ap, ◌∙◌, subst, inl, inr, arith, append_assoc, not-suc-le-zero, zero-lt-suc, length-append}
use Rattle.std.specs.Prelude.{Contains, slice_index}
use Rattle.std.proofs.lemmas.Bool.{false≢true, cases_eq}
use Rattle.std.proofs.Math.ListN.{get_or-append}
use Rattle.std.proofs.Math.Seq.{get_or-append_seam}
use Rattle.std.proofs.lemmas.List.Elements.{Contains-append_left, Contains-append_right, Contains-append_cases}
use Rattle.morph_base.specs.declared.plan.Plan.{Plan}
use Rattle.morph_base.specs.declared.plan.Origin.{Origin}
use Rattle.morph_base.specs.declared.plan.Origin.TheVariants.{Base, Op as Written}
use Rattle.morph_base.specs.declared.word.OpWord.{OpWord}
use Rattle.morph_base.specs.declared.word.OpState.{OpState}
use Rattle.morph_base.specs.declared.word.OpState.TheVariants.{Blocked, Ready, Claimed, Executed, Failed, Spread, Settled, SettledAborted}
use Rattle.morph_base.specs.Plans.{origin_at}
use Rattle.morph_base.specs.Words.{is_settled, is_idle}
use Rattle.interleaving_core.specs.declared.event.CoreEvent.{CoreEvent}
use Rattle.interleaving_core.specs.declared.event.CoreEvent.TheVariants.{Ready as ReadyStep, Claim, Fetch, Finish, GiveBack}
use Rattle.interleaving_core.specs.Counts.{is_finish, is_spread, is_roll, spreads, rolled}
use Rattle.interleaving_core.specs.Core.{blocked, ready, claimed, places, has_run}
use Rattle.op_words.specs.declared.trail.Item.{Item}
use Rattle.op_words.specs.declared.trail.View.{View}
use Rattle.op_words.specs.declared.answers.Fetched.TheVariants.{Value, Unready}
use Rattle.op_words.specs.declared.answers.Claimed.TheVariants.{Held as HeldAt, Not as Unheld}
use Rattle.op_words.specs.declared.answers.Readied.TheVariants.{Made, Not as Unmade}
use Rattle.op_words.specs.declared.answers.Outcome.{Outcome}
use Rattle.op_words.specs.Trails.{loaded, left, HasLast, IsDisturbed, IsReached, IsSourceOf, OwnOn, OwnOpen, NoneOwn}
use Rattle.op_words.specs.Views.{Agrees, Adds, AddsAndFrees, Holds, looked, looking}
use Rattle.op_words.specs.Calls.{Elsewhere, IsReadValue, IsUsed, IsPlaceTaken, PeekDoes, MakeDoes, ClaimDoes, FetchDoes, FinishDoes, GiveBackDoes}
use Rattle.op_words.proofs.Trailing.{cases_word, last_item, last_later, one_last, disturbed_later, disturbed_more}
use Rattle.op_eval.specs.declared.answers.Evaluation.TheVariants.{Evaluated, Blocked as BlockedOn, Busy as BusyAt, Already}
use Rattle.op_words.specs.Attempts.{fetches}
use Rattle.op_words.proofs.Attempting.{fetches-nil, fetches-snoc}
use Rattle.op_eval.specs.Evaluations.{IsReadiedOrNot, IsClaimedWith, EvaluationDoes, IsEvaluatingSoFar, SoFar, fetching, IsFetchedUpTo, IsStopped}
use Rattle.op_words.proofs.Adding.{adds_then, adds_none}
use Rattle.op_eval.proofs.Stepping.{count_quiet, readied_quiet, claimed_quiet}
use Rattle.op_eval.proofs.Following.{claimed_other, one_is_last, one_none, found_other, own_append, none_own, open_append, none_open, far_then}

pub read_more : (xs ys : List Item) (q : Origin) (x : ℕ) → IsReadValue xs q x → IsReadValue (xs ++ ys) q x
read_more xs ys (Base b) x read = read
read_more xs ys (Written s) x read = (read.0, Contains-append_left xs ys (loaded s read.0) read.1, read.2)

pub read_later : (xs ys : List Item) (q : Origin) (x : ℕ) → IsReadValue ys q x → IsReadValue (xs ++ ys) q x
read_later xs ys (Base b) x read = read
read_later xs ys (Written s) x read = (read.0, Contains-append_right xs ys (loaded s read.0) read.1, read.2)

pub fetched_none : (p : Plan) (o a : ℕ) (v : View) → Agrees v → Holds v o a [] → IsFetchedUpTo p 0 (fetching o a v v)
fetched_none p o a v agrees holds = record { words = []; adds = adds_none v agrees; elsewhere = λ t found. absurd (not-suc-le-zero found.1); values = []; holds = holds; count = refl; read = λ k lt. absurd (not-suc-le-zero lt); valued = λ k s lt. absurd (not-suc-le-zero lt); steps = sym (fetches-nil o v.tag 0 v.events) }

both_elsewhere : (o : ℕ) (xs ys : List Item) → Elsewhere o xs → Elsewhere o ys → Elsewhere o (xs ++ ys)
both_elsewhere o xs ys first second t inside = elim (Contains-append_cases xs ys t inside) [ inl found ↦ first t found | inr found ↦ second t found ]

pub fetched_more : (p : Plan) (cap o a j : ℕ) {v m u : View} {x : ℕ} → IsFetchedUpTo p j (fetching o a v m) → FetchDoes p cap o m u j (Value x) → IsFetchedUpTo p (j + 1) (fetching o a v u)
fetched_more p cap o a j {v} {m} {u} {x} up does =
    let tells = does.tells a up.values up.holds in
    let count : length up.values ≡ j = up.count in
    record {
      words = up.words ++ does.words;
      adds = adds_then up.adds does.adds;
      elsewhere = both_elsewhere o up.words does.words up.elsewhere does.elsewhere;
      values = up.values ++ x ∷ [];
      holds = tells.holds;
      count = length-append up.values (x ∷ []) ∙ ap (λ n. n + 1) count;
      read = λ k lt.
          elim (cases_eq k j) [
            | inl same ↦
                subst (λ n. IsReadValue (up.words ++ does.words) (origin_at p o n) (get_or (up.values ++ x ∷ []) n 0)) (sym same)
                (subst (IsReadValue (up.words ++ does.words) (origin_at p o j)) (sym (last_value up.values j count)) (read_later up.words does.words (origin_at p o j) x tells.read))
            | inr other ↦
                let less : k < j = omega arith in
                subst (IsReadValue (up.words ++ does.words) (origin_at p o k)) (sym (get_or-append up.values (x ∷ []) 0 k (omega arith)))
                (read_more up.words does.words (origin_at p o k) (slice_index up.values k) (up.read k less))
          ];
      valued = λ k s lt is.
          elim (cases_eq k j) [
            | inl same ↦
                let used : IsUsed p cap o m u does.words a s x = subst (λ q. IsPlaceTaken p cap o m u does.words a q x) (subst (λ n. origin_at p o n ≡ Written s) same is) tells.taken in
                (used.word, Contains-append_right up.words does.words (loaded s used.word) (subst (λ zs. Contains zs (loaded s used.word)) (sym used.words) (0, omega arith, refl)), used.shown)
            | inr other ↦
                let less : k < j = omega arith in
                let old = up.valued k s less is in
                (old.0, Contains-append_left up.words does.words (loaded s old.0) old.1, old.2)
          ];
      steps =
          ap (λ (z : View). z.events) tells.view_is
          ∙ ap (λ t. Fetch o (length up.values) t x ∷ m.events) up.adds.tag
          ∙ ap (λ es. Fetch o (length up.values) v.tag x ∷ es) up.steps
          ∙ sym (fetches-snoc o v.tag up.values x v.events);
    }
  where
    last_value : (vs : List ℕ) (n : ℕ) → length vs ≡ n → get_or (vs ++ x ∷ []) n 0 ≡ x
    last_value vs n is = subst (λ m. get_or (vs ++ x ∷ []) m 0 ≡ x) is (get_or-append_seam vs x [] 0)

pub fetched_all : (p : Plan) (o a j n : ℕ) {v u : View} → n ≤ j → j ≤ n → n ≡ places p o → IsFetchedUpTo p j (fetching o a v u) → IsFetchedUpTo p (places p o) (fetching o a v u)
fetched_all p o a j n {v} {u} least most is up = subst (λ k. IsFetchedUpTo p k (fetching o a v u)) (let same : j ≡ n = omega arith in same ∙ is) up

pub fetched_stops : (p : Plan) (cap o a j at : ℕ) (w : OpWord) {v m u : View} → IsFetchedUpTo p j (fetching o a v m) → FetchDoes p cap o m u j (Unready at w) → IsStopped p cap (fetching o a v u) (record { source = at; word = w })
fetched_stops p cap o a j at w up does =
    let tells = does.tells a up.values up.holds in
    record {
      words = up.words ++ does.words;
      adds = adds_then up.adds does.adds;
      elsewhere = both_elsewhere o up.words does.words up.elsewhere does.elsewhere;
      values = up.values;
      holds = tells.holds;
      source = tells.source_is;
      inside = Contains-append_right up.words does.words (loaded at w) tells.inside;
      settled = tells.settled;
      cause = tells.cause;
      steps = ap (λ (z : View). z.events) tells.view_is ∙ up.steps;
    }

-- ---- reached

pub reached_own : {p : Plan} {o : ℕ} {xs : List Item} (t : Item) → Contains xs t → t.op ≡ o → t.word ≢ blocked 1 → IsReached p o xs
reached_own t inside same other = record { item = t; inside = inside; tells = record { cause = inl (same, other) } }

pub reached_idle : {p : Plan} {o at : ℕ} {w : OpWord} {xs : List Item} → IsSourceOf p o at → Contains xs (loaded at w) → is_idle w.state ≡ true → IsReached p o xs
reached_idle {p} {o} {at} {w} source inside idle = record { item = loaded at w; inside = inside; tells = record { cause = inr (source, idle) } }

-- where it was disturbed, one of the two words is not the first one
pub reached_disturbed : {p : Plan} {o : ℕ} {xs : List Item} → IsDisturbed o xs → IsReached p o xs
reached_disturbed {p} {o} {xs} is =
    elim (cases_word is.found (blocked 1)) [
      | inr other ↦
          reached_own (loaded o is.found)
          (subst (λ zs. Contains zs (loaded o is.found)) (sym is.split) (Contains-append_right is.before (loaded o is.found ∷ is.rest) (loaded o is.found) (0, zero-lt-suc (length is.rest), refl)))
          refl other
      | inl same ↦
          let item = last_item o is.before is.known is.last in
          reached_own item.0
          (subst (λ zs. Contains zs item.0) (sym is.split) (Contains-append_left is.before (loaded o is.found ∷ is.rest) item.0 item.1))
          item.2 (λ first. is.differs (sym item.3 ∙ first ∙ sym same))
    ]

-- ---- evaluating

pub idle_open : (s : OpState) → is_idle s ≡ true → is_settled s ≡ false
idle_open Blocked is = refl
idle_open Ready is = refl
idle_open Claimed is = refl
idle_open Executed is = refl
idle_open Failed is = refl
idle_open Spread is = refl
idle_open Settled is = sym is
idle_open SettledAborted is = sym is

run_open_word : (s : OpState) → has_run s ≡ true → is_settled s ≡ false
run_open_word Blocked ran = refl
run_open_word Ready ran = refl
run_open_word Claimed ran = refl
run_open_word Executed ran = refl
run_open_word Failed ran = refl
run_open_word Spread ran = refl
run_open_word Settled ran = absurd (false≢true ran)
run_open_word SettledAborted ran = absurd (false≢true ran)

own_one : (o : ℕ) (y : OpWord) → OwnOn o (left o y ∷ [])
own_one o y t found is = at found.0 found.1 found.2
  where
    at : (k : ℕ) → k < 1 → get_or (left o y ∷ []) k t ≡ t → t.op ≡ o
    at zero lt same = sym (ap (λ (x : Item). x.op) same)
    at (suc k) lt same = absurd (omega arith)

open_one : (o : ℕ) (y : OpWord) → is_settled y.state ≡ false → OwnOpen (left o y ∷ [])
open_one o y open' t found is = at found.0 found.1 found.2
  where
    at : (k : ℕ) → k < 1 → get_or (left o y ∷ []) k t ≡ t → is_settled t.word.state ≡ false
    at zero lt same = sym (ap (λ (x : Item). is_settled x.word.state) same) ∙ open'
    at (suc k) lt same = absurd (omega arith)

own_pair : (o : ℕ) (z y : OpWord) → OwnOn o (loaded o z ∷ left o y ∷ [])
own_pair o z y = own_append (loaded o z ∷ []) (left o y ∷ []) (none_own (loaded o z ∷ []) (one_none (loaded o z) refl)) (own_one o y)

open_pair : (o : ℕ) (z y : OpWord) → is_settled y.state ≡ false → OwnOpen (loaded o z ∷ left o y ∷ [])
open_pair o z y open' = open_append (loaded o z ∷ []) (left o y ∷ []) (none_open (loaded o z ∷ []) (one_none (loaded o z) refl)) (open_one o y open')

pub begins_more : {o : ℕ} {first : OpWord} (rest xs ys : List Item) → xs ≡ loaded o first ∷ rest → xs ++ ys ≡ loaded o first ∷ (rest ++ ys)
begins_more rest xs ys begins = ap (λ zs. zs ++ ys) begins

claimed_blocked : Claimed ≡ Blocked → ⊥
claimed_blocked e = cc

ready_blocked : Ready ≡ Blocked → ⊥
ready_blocked e = cc

module _ (p : Plan) (cap o : ℕ) {start u : View} where
  -- after the first load
  pub begun : {w : OpWord} → PeekDoes p cap o start u w → u ≡ looked o w start → is_idle w.state ≡ true → (ys : List Item) × IsEvaluatingSoFar o start u ys w
  begun {w} does view idle = (
    does.words,
    record { far = record { goes = does.goes; own = none_own does.words does.none; open_own = none_open does.words does.none }; first = w; rest = []; begins = does.only; began = idle; last = does.last; kept = inl refl; readied = inl (ap (λ (z : View). z.events) view); unready = λ is. ap (λ (z : View). z.events) view },
  )

  pub already : {w : OpWord} → PeekDoes p cap o start u w → u ≡ looked o w start → is_idle w.state ≡ false → EvaluationDoes p cap o start u (Already w)
  already {w} does view there = record {
    words = does.words;
    goes = does.goes;
    own = none_own does.words does.none;
    open_own = none_open does.words does.none;
    first = w;
    rest = [];
    begins = does.only;
    tells = record { only = does.only; there = there; stays = ap (λ (z : View). z.events) view };
    no_spread = ap spreads (ap (λ (z : View). z.events) view);
    no_roll = ap rolled (ap (λ (z : View). z.events) view);
    reached = reached_own (loaded o w) does.seen refl (λ same. false≢true (sym there ∙ ap (λ (x : OpWord). is_idle x.state) same));
  }

  pub busy_first : {w : OpWord} → PeekDoes p cap o start u w → u ≡ looked o w start → w.state ≡ Claimed → EvaluationDoes p cap o start u (BusyAt w)
  busy_first {w} does view is = record {
    words = does.words;
    goes = does.goes;
    own = none_own does.words does.none;
    open_own = none_open does.words does.none;
    first = w;
    rest = [];
    begins = does.only;
    tells = record { began = ap is_idle is; last = does.last; seen = does.seen; cause = inl is; by_another = claimed_other does.goes.adds does.seen; steps = inl (ap (λ (z : View). z.events) view) };
    no_spread = ap spreads (ap (λ (z : View). z.events) view);
    no_roll = ap rolled (ap (λ (z : View). z.events) view);
    reached = reached_own (loaded o w) does.seen refl (λ same. claimed_blocked (sym is ∙ ap (λ (x : OpWord). x.state) same));
  }

module _ (p : Plan) (cap o : ℕ) {start v : View} {xs : List Item} {w : OpWord} (far : IsEvaluatingSoFar o start v xs w) where
  -- its own word was found otherwise than it was last
  busy_found : {u : View} {z : OpWord} (ys : List Item) → AddsAndFrees v u ys → NoneOwn ys → HasLast o ys z → Contains ys (loaded o z) → (z ≢ w) ⊎ IsDisturbed o ys → u ≡ looking ys v → EvaluationDoes p cap o start u (BusyAt z)
  busy_found {u} {z} ys goes none last seen cause view =
      let whole : SoFar o start u (xs ++ ys) = far_then far.far goes (none_own ys none) (none_open ys none) in
      let there : IsDisturbed o (xs ++ ys) = elim cause [ inl other ↦ found_other xs ys far.last last (λ same. other (sym same)) none | inr within ↦ disturbed_later xs within ] in
      let inside : Contains (xs ++ ys) (loaded o z) = Contains-append_right xs ys (loaded o z) seen in
      let readied : IsReadiedOrNot o start.events u.events = subst (IsReadiedOrNot o start.events) (sym (ap (λ (y : View). y.events) view)) far.readied in
      record {
        words = xs ++ ys;
        goes = whole.goes;
        own = whole.own;
        open_own = whole.open_own;
        first = far.first;
        rest = far.rest ++ ys;
        begins = begins_more far.rest xs ys far.begins;
        tells = record {
          began = far.began;
          last = last_later xs last;
          seen = inside;
          cause = inr there;
          by_another = claimed_other whole.goes.adds inside;
          steps = readied;
        };
        no_spread = readied_quiet is_spread o readied refl;
        no_roll = readied_quiet is_roll o readied refl;
        reached = reached_disturbed there;
      }

  -- a first word of a part, and the attempt that it had before
  same_attempt : (ys rest : List Item) (z : OpWord) → ys ≡ loaded o z ∷ rest → (z.attempt ≡ far.first.attempt) ⊎ IsDisturbed o (xs ++ ys)
  same_attempt ys rest z begins =
      elim (cases_word w z) [
        | inr differs ↦ inr (record { before = xs; known = w; found = z; rest = rest; split = ap (λ zs. xs ++ zs) begins; last = far.last; differs = differs })
        | inl same ↦ elim far.kept [ inl kept ↦ inl (sym (ap (λ (x : OpWord). x.attempt) same) ∙ kept) | inr there ↦ inr (disturbed_more ys there) ]
      ]

  pub made_ready : {u : View} → w.state ≡ Blocked → MakeDoes p cap o v u Made → (ys : List Item) × (z : OpWord) × IsEvaluatingSoFar o start u ys z × (z.state ≡ Ready)
  made_ready {u} is does = (
    xs ++ does.words,
    ready does.first.attempt,
    record {
      far = far_then far.far does.goes does.own does.open_own;
      first = far.first;
      rest = far.rest ++ does.words;
      begins = begins_more far.rest xs does.words far.begins;
      began = far.began;
      last = last_later xs does.tells.last;
      kept = same_attempt does.words does.rest does.first does.begins;
      readied = inr (ap (λ (y : View). y.events) does.tells.view_is ∙ ap (λ (es : List CoreEvent). ReadyStep o ∷ es) (far.unready is));
      unready = λ other. absurd (ready_blocked other);
    },
    refl,
  )

  pub make_busy : {u : View} {at : ℕ} {z : OpWord} → at ≡ o → w.state ≡ Blocked → MakeDoes p cap o v u (Unmade at z) → EvaluationDoes p cap o start u (BusyAt z)
  make_busy {u} {at} {z} same is does =
      elim does.tells [
        | inr source ↦ absurd (source.0 same)
        | inl own ↦
            busy_found does.words does.goes own.1.none own.1.last own.1.seen
            (elim own.1.cause [ inl other ↦ inl (λ e. other (ap (λ (x : OpWord). x.state) e ∙ is)) | inr there ↦ inr there ]) own.1.view_is
      ]

  pub make_blocked : {u : View} {at : ℕ} {z : OpWord} → at ≢ o → w.state ≡ Blocked → MakeDoes p cap o v u (Unmade at z) → EvaluationDoes p cap o start u (BlockedOn at z)
  make_blocked {u} {at} {z} other here does =
      elim does.tells [
        | inl own ↦ absurd (other own.0)
        | inr source ↦
            let ys : List Item = does.words in
            let is = source.1 in
            let stays : u.events ≡ start.events = ap (λ (y : View). y.events) is.view_is ∙ far.unready here in
            let whole : SoFar o start u (xs ++ ys) = far_then far.far does.goes does.own does.open_own in
            record {
              words = xs ++ ys;
              goes = whole.goes;
              own = whole.own;
              open_own = whole.open_own;
              first = far.first;
              rest = far.rest ++ ys;
              begins = begins_more far.rest xs ys far.begins;
              tells = record {
                began = far.began;
                source = record {
                  source = is.source;
                  inside = Contains-append_right xs ys (loaded at z) is.inside;
                  settled = idle_open z.state is.idle;
                  own = is.own;
                  last = last_later xs is.last;
                  open_own = ap is_settled is.own_blocked;
                };
                other = other;
                back = λ y last.
                    let one : is.own ≡ y = one_last (last_later xs is.last) last in
                    elim (cases_word w is.own) [
                      | inr differs ↦ inr (found_other xs ys far.last is.last differs is.none)
                      | inl same ↦
                          elim far.kept [
                            | inr there ↦ inr (disturbed_more ys there)
                            | inl kept ↦ inl (sym one ∙ is.own_bare ∙ ap blocked (sym (ap (λ (x : OpWord). x.attempt) same) ∙ kept))
                          ]
                    ];
                cause = inl is.idle;
                at_last = inl is.idle;
                steps = inl stays;
              };
              no_spread = ap spreads stays;
              no_roll = ap rolled stays;
              reached = reached_idle is.source (Contains-append_right xs ys (loaded at z) is.inside) is.idle;
            }
      ]

  pub claim_busy : {u : View} {z : OpWord} → w.state ≡ Ready → ClaimDoes p cap o v u (Unheld z) → EvaluationDoes p cap o start u (BusyAt z)
  claim_busy {u} {z} is does =
      busy_found does.words (record { adds = does.adds; free = does.tells.free }) does.tells.none does.tells.last does.tells.seen
      (elim does.tells.cause [ inl other ↦ inl (λ e. other (ap (λ (x : OpWord). x.state) e ∙ is)) | inr there ↦ inr there ]) does.tells.view_is

  module _ {m : View} {a : ℕ} (claim : ClaimDoes p cap o v m (HeldAt a)) where
    claim_attempt : (a ≡ far.first.attempt) ⊎ IsDisturbed o (xs ++ claim.words)
    claim_attempt = same_attempt claim.words (left o (claimed a v.tag) ∷ []) (ready a) claim.tells.words

    -- with what follows the claim
    held_attempt : (zs : List Item) → (a ≡ far.first.attempt) ⊎ IsDisturbed o (xs ++ (claim.words ++ zs))
    held_attempt zs = elim claim_attempt [ inl same ↦ inl same | inr there ↦ inr (subst (IsDisturbed o) (append_assoc xs claim.words zs) (disturbed_more zs there)) ]

    -- the steps up to the last fetch
    held_with : (n : View) (values : List ℕ) → n.events ≡ fetches o m.tag 0 values m.events → IsClaimedWith o start.tag values start.events n.events
    held_with n values steps = (
      v.events,
      far.readied,
      steps ∙ ap (λ t. fetches o t 0 values m.events) (claim.adds.tag ∙ far.far.goes.adds.tag)
          ∙ ap (fetches o start.tag 0 values) (ap (λ (y : View). y.events) claim.tells.view_is ∙ ap (λ t. Claim o t ∷ v.events) far.far.goes.adds.tag),
    )

    held_own : OwnOn o claim.words
    held_own = subst (OwnOn o) (sym claim.tells.words) (own_pair o (ready a) (claimed a v.tag))

    held_open : OwnOpen claim.words
    held_open = subst OwnOpen (sym claim.tells.words) (open_pair o (ready a) (claimed a v.tag) refl)

    whole_adds : {n u : View} {ys zs : List Item} → Adds m n ys → Adds n u zs → Adds start u (xs ++ (claim.words ++ (ys ++ zs)))
    whole_adds first second = adds_then (far.far.goes.adds) (adds_then claim.adds (adds_then first second))

    whole_own : (ys zs : List Item) → Elsewhere o ys → OwnOn o zs → OwnOn o (xs ++ (claim.words ++ (ys ++ zs)))
    whole_own ys zs none own =
        own_append xs (claim.words ++ (ys ++ zs)) far.far.own
        (own_append claim.words (ys ++ zs) held_own (own_append ys zs (λ t found is. absurd (false≢true (sym (none t found).0 ∙ is))) own))

    whole_open : (ys zs : List Item) → Elsewhere o ys → OwnOpen zs → OwnOpen (xs ++ (claim.words ++ (ys ++ zs)))
    whole_open ys zs none own =
        open_append xs (claim.words ++ (ys ++ zs)) far.far.open_own
        (open_append claim.words (ys ++ zs) held_open (open_append ys zs (λ t found is. absurd (false≢true (sym (none t found).0 ∙ is))) own))

    pub finished : {n u : View} {x : Outcome} → IsFetchedUpTo p (places p o) (fetching o a m n) → FinishDoes p cap o n u x → EvaluationDoes p cap o start u (Evaluated a x)
    finished {n} {u} {x} fetched does =
        let tells = does.tells a fetched.values fetched.holds in
        let ys : List Item = fetched.words in
        let zs : List Item = does.words in
        let here : HasLast o zs tells.word = subst (λ qs. HasLast o qs tells.word) (sym tells.words) (one_is_last (left o tells.word)) in
        let inside : Contains zs (left o tells.word) = subst (λ qs. Contains qs (left o tells.word)) (sym tells.words) (0, omega arith, refl) in
        let there : Contains (xs ++ (claim.words ++ (ys ++ zs))) (left o tells.word) =
        Contains-append_right xs (claim.words ++ (ys ++ zs)) (left o tells.word) (Contains-append_right claim.words (ys ++ zs) (left o tells.word) (Contains-append_right ys zs (left o tells.word) inside)) in
        let with : IsClaimedWith o start.tag fetched.values start.events n.events = held_with n fetched.values fetched.steps in
        let tag : n.tag ≡ start.tag = fetched.adds.tag ∙ claim.adds.tag ∙ far.far.goes.adds.tag in
        let steps : u.events ≡ Finish o start.tag ∷ n.events = ap (λ (y : View). y.events) tells.view_is ∙ ap (λ t. Finish o t ∷ n.events) tag in
        record {
          words = xs ++ (claim.words ++ (ys ++ zs));
          goes = record { adds = whole_adds fetched.adds does.adds; free = tells.free };
          own = whole_own ys zs fetched.elsewhere (subst (OwnOn o) (sym tells.words) (own_one o tells.word));
          open_own = whole_open ys zs fetched.elsewhere (subst OwnOpen (sym tells.words) (open_one o tells.word (run_open_word tells.word.state tells.ran)));
          first = far.first;
          rest = far.rest ++ (claim.words ++ (ys ++ zs));
          begins = begins_more far.rest xs (claim.words ++ (ys ++ zs)) far.begins;
          tells = record {
            word = tells.word;
            last = last_later xs (last_later claim.words (last_later ys here));
            ran = tells.ran;
            seen = there;
            attempt_is = tells.attempt_is;
            began = far.began;
            kept = held_attempt (ys ++ zs);
            values = fetched.values;
            word_is = tells.word_is;
            outcome_is = tells.answer;
            shown = tells.shown;
            held = n.events;
            claimed_with = with;
            steps = steps;
            finished_more =
                let before = claimed_quiet is_finish o start.tag fetched.values with refl refl (λ k x. refl) in
                let step = tells.finished_more in
                omega (arith, before, step);
            records = tells.records;
            read = λ j lt.
                read_later xs (claim.words ++ (ys ++ zs)) (origin_at p o j) (slice_index fetched.values j)
                (read_later claim.words (ys ++ zs) (origin_at p o j) (slice_index fetched.values j) (read_more ys zs (origin_at p o j) (slice_index fetched.values j) (fetched.read j lt)));
            sources = λ s source.
                let at = fetched.valued source.place s source.in_places source.source_is in (
                  at.0,
                  Contains-append_right xs (claim.words ++ (ys ++ zs)) (loaded s at.0)
                      (Contains-append_right claim.words (ys ++ zs) (loaded s at.0) (Contains-append_left ys zs (loaded s at.0) at.1)),
                  at.2,
                );
          };
          no_spread = ap spreads steps ∙ count_quiet is_spread (Finish o start.tag) n.events refl ∙ claimed_quiet is_spread o start.tag fetched.values with refl refl (λ k x. refl);
          no_roll = ap rolled steps ∙ count_quiet is_roll (Finish o start.tag) n.events refl ∙ claimed_quiet is_roll o start.tag fetched.values with refl refl (λ k x. refl);
          reached = reached_own (left o tells.word) there refl (λ same. false≢true (ap (λ (x : OpWord). has_run x.state) (sym same) ∙ tells.ran));
        }

    pub stopped : {n u : View} {at : ℕ} {z : OpWord} → IsStopped p cap (fetching o a m n) (record { source = at; word = z }) → GiveBackDoes p cap o n u → EvaluationDoes p cap o start u (BlockedOn at z)
    stopped {n} {u} {at} {z} stop does =
        let tells = does.tells a stop.values stop.holds in
        let ys : List Item = stop.words in
        let zs : List Item = does.words in
        let here : HasLast o zs (blocked a) = subst (λ qs. HasLast o qs (blocked a)) (sym tells.words) (one_is_last (left o (blocked a))) in
        let last_one : HasLast o (xs ++ (claim.words ++ (ys ++ zs))) (blocked a) = last_later xs (last_later claim.words (last_later ys here)) in
        let tag : v.tag ≡ start.tag = far.far.goes.adds.tag in
        let mine : Contains claim.words (left o (claimed a start.tag)) =
        subst (λ t. Contains claim.words (left o (claimed a t))) tag (subst (λ qs. Contains qs (left o (claimed a v.tag))) (sym claim.tells.words) (1, omega arith, refl)) in
        let there : Contains (xs ++ (claim.words ++ (ys ++ zs))) (left o (claimed a start.tag)) =
        Contains-append_right xs (claim.words ++ (ys ++ zs)) (left o (claimed a start.tag)) (Contains-append_left claim.words (ys ++ zs) (left o (claimed a start.tag)) mine) in
        let with : IsClaimedWith o start.tag stop.values start.events n.events = held_with n stop.values stop.steps in
        let held_tag : n.tag ≡ start.tag = stop.adds.tag ∙ claim.adds.tag ∙ far.far.goes.adds.tag in
        let steps : u.events ≡ GiveBack o start.tag ∷ n.events = ap (λ (y : View). y.events) tells.view_is ∙ ap (λ t. GiveBack o t ∷ n.events) held_tag in
        record {
          words = xs ++ (claim.words ++ (ys ++ zs));
          goes = record { adds = whole_adds stop.adds does.adds; free = tells.free };
          own = whole_own ys zs stop.elsewhere (subst (OwnOn o) (sym tells.words) (own_one o (blocked a)));
          open_own = whole_open ys zs stop.elsewhere (subst OwnOpen (sym tells.words) (open_one o (blocked a) refl));
          first = far.first;
          rest = far.rest ++ (claim.words ++ (ys ++ zs));
          begins = begins_more far.rest xs (claim.words ++ (ys ++ zs)) far.begins;
          tells = record {
            began = far.began;
            source = record {
              source = stop.source;
              inside = Contains-append_right xs (claim.words ++ (ys ++ zs)) (loaded at z) (Contains-append_right claim.words (ys ++ zs) (loaded at z) (Contains-append_left ys zs (loaded at z) stop.inside));
              settled = stop.settled;
              own = blocked a;
              last = last_one;
              open_own = refl;
            };
            other = (stop.elsewhere (loaded at z) stop.inside).1;
            back = λ y last. elim (held_attempt (ys ++ zs)) [ inr within ↦ inr within | inl same ↦ inl (sym (one_last last_one last) ∙ ap blocked same) ];
            cause =
                elim stop.cause [
                  | inl idle ↦ inl idle
                  | inr at_last ↦ elim (held_attempt (ys ++ zs)) [ inr within ↦ inr (inr within) | inl same ↦ inr (inl (sym same ∙ at_last)) ]
                ];
            at_last =
                elim stop.cause [
                  | inl idle ↦ inl idle
                  | inr last ↦ inr (subst (λ n. Contains (xs ++ (claim.words ++ (ys ++ zs))) (left o (claimed n start.tag))) last there)
                ];
            steps = inr (stop.values, n.events, with, steps);
          };
          no_spread = ap spreads steps ∙ count_quiet is_spread (GiveBack o start.tag) n.events refl ∙ claimed_quiet is_spread o start.tag stop.values with refl refl (λ k x. refl);
          no_roll = ap rolled steps ∙ count_quiet is_roll (GiveBack o start.tag) n.events refl ∙ claimed_quiet is_roll o start.tag stop.values with refl refl (λ k x. refl);
          reached = reached_own (left o (claimed a start.tag)) there refl (λ same. claimed_blocked (ap (λ (x : OpWord). x.state) same));
        }
