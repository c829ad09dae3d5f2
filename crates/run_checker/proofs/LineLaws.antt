-- What lines are written and what they say, one the reverse of the other.
use Rattle.std.proofs.Common.{◌≡◌, ℕ, ◌^◌, ◌<◌, ◌≤◌, Bool, true, false, List, [], ◌∷◌, refl, sym, ◌∙◌, ap, arith, subst, Option, Some, None}
use Rattle.std.specs.Prelude.{◌==◌, decimal, option_map, if◌then◌else◌}
use Rattle.std.specs.List.{All, join_with_byte}
use Rattle.std.proofs.lemmas.Bool.Decides.{nat_tests}
use Rattle.std.proofs.lemmas.List.Elements.{All-nil, All-cons}
use Rattle.std.proofs.lemmas.Option.{none-some, same_Some}
use Rattle.interleaving_core.specs.declared.event.CoreEvent.{CoreEvent}
use Rattle.interleaving_core.specs.declared.event.CoreEvent.TheVariants.{Ready, Claim, Fetch, Finish, GiveBack, Spread, RollBack, Decide, Settle}
use Rattle.event_reader.specs.Words.{words_of}
use Rattle.run_checker.specs.Lines.{greatest_id, greatest_small, greatest_value, HasLine, decision_letter, words_written, line_of}
use Rattle.run_checker.specs.LineEvents.{number_up_to, decision_said, both, op_said, pair_said, fetch_said, decide_said, LineKind, kinds, said_by, words_say, said_if, event_said}
use Rattle.run_checker.proofs.Numbers.{number_written, number_read}
use Rattle.run_checker.proofs.JoinedWords.{IsPart, one_byte, number_part, words_joined, joined_words}

-- ---- what is written is read

none_more : All IsPart []
none_more = All-nil IsPart

with_number : (n : ℕ) (words : List (List ℕ)) → n < 2 ^ 64 → All IsPart words → All IsPart (decimal n ∷ words)
with_number n words fits all = All-cons IsPart (decimal n) words (number_part n fits) all

with_letter : (letter : ℕ) (words : List (List ℕ)) → 32 < letter → All IsPart words → All IsPart ((letter ∷ []) ∷ words)
with_letter letter words visible all = All-cons IsPart (letter ∷ []) words (one_byte letter visible) all

two : (letter a b : ℕ) → 32 < letter → a < 2 ^ 64 → b < 2 ^ 64 → All IsPart ((letter ∷ []) ∷ decimal a ∷ decimal b ∷ [])
two letter a b visible one other =
    with_letter letter (decimal a ∷ decimal b ∷ []) visible (with_number a (decimal b ∷ []) one (with_number b [] other none_more))

decision_part : (committed : Bool) → All IsPart ((decision_letter committed ∷ []) ∷ [])
decision_part true = with_letter 99 [] (omega arith) none_more
decision_part false = with_letter 97 [] (omega arith) none_more

pub parts_written : (e : CoreEvent) → HasLine e → All IsPart (words_written e)
parts_written (Ready o) r = with_letter 82 (decimal o ∷ []) (omega arith) (with_number o [] (omega (arith, r)) none_more)
parts_written (Claim o t) r = two 67 o t (omega arith) (omega (arith, r.0)) (omega (arith, r.1))
parts_written (Fetch o j t x) r =
    with_letter 70 (decimal o ∷ decimal j ∷ decimal t ∷ decimal x ∷ []) (omega arith)
    (with_number o (decimal j ∷ decimal t ∷ decimal x ∷ []) (omega (arith, r.0))
    (with_number j (decimal t ∷ decimal x ∷ []) (omega (arith, r.1)) (with_number t (decimal x ∷ []) (omega (arith, r.2)) (with_number x [] (omega (arith, r.3)) none_more))))
parts_written (Finish o t) r = two 78 o t (omega arith) (omega (arith, r.0)) (omega (arith, r.1))
parts_written (GiveBack o t) r = two 71 o t (omega arith) (omega (arith, r.0)) (omega (arith, r.1))
parts_written (Spread o sibling) r = two 83 o sibling (omega arith) (omega (arith, r.0)) (omega (arith, r.1))
parts_written (RollBack o j) r = two 66 o j (omega arith) (omega (arith, r.0)) (omega (arith, r.1))
parts_written (Decide i committed) r =
    with_letter 68 (decimal i ∷ (decision_letter committed ∷ []) ∷ []) (omega arith)
    (with_number i ((decision_letter committed ∷ []) ∷ []) (omega (arith, r)) (decision_part committed))
parts_written (Settle o t) r = two 84 o t (omega arith) (omega (arith, r.0)) (omega (arith, r.1))

id_written : (o : ℕ) → o ≤ greatest_id → number_up_to greatest_id (decimal o) ≡ Some o
id_written o inside = number_written greatest_id o (omega arith) inside

small_written : (n : ℕ) → n ≤ greatest_small → number_up_to greatest_small (decimal n) ≡ Some n
small_written n inside = number_written greatest_small n (omega arith) inside

pair_written : (greatest a b : ℕ) → greatest < 2 ^ 64 → a ≤ greatest_id → b ≤ greatest → pair_said greatest (decimal a ∷ decimal b ∷ []) ≡ Some (a, b)
pair_written greatest a b small one other = rw (id_written a one, number_written greatest b small other) refl

fetch_written : (o j t x : ℕ) → o ≤ greatest_id → j ≤ greatest_small → t ≤ greatest_small → x ≤ greatest_value
    → fetch_said (decimal o ∷ decimal j ∷ decimal t ∷ decimal x ∷ []) ≡ Some ((o, j), (t, x))
fetch_written o j t x in_o in_j in_t in_x =
    rw (id_written o in_o, small_written j in_j, small_written t in_t, number_written greatest_value x (omega arith) in_x) refl

decide_written : (i : ℕ) (committed : Bool) → i ≤ greatest_id → decide_said (decimal i ∷ (decision_letter committed ∷ []) ∷ []) ≡ Some (i, committed)
decide_written i true inside = rw (id_written i inside) refl
decide_written i false inside = rw (id_written i inside) refl

abbrev pairing : (ℕ → ℕ → CoreEvent) → ℕ × ℕ → CoreEvent
pairing make r = make r.0 r.1

pair_line : (letter greatest a b : ℕ) (make : ℕ → ℕ → CoreEvent) → greatest < 2 ^ 64 → 32 < letter → a ≤ greatest_id → b ≤ greatest
    → said_by kinds letter (decimal a ∷ decimal b ∷ []) ≡ option_map (pairing make) (pair_said greatest (decimal a ∷ decimal b ∷ []))
    → event_said (join_with_byte 32 ((letter ∷ []) ∷ decimal a ∷ decimal b ∷ [])) ≡ Some (make a b)
pair_line letter greatest a b make small visible one other kind =
    ap said_if (words_joined (letter ∷ []) (decimal a ∷ decimal b ∷ []) (two letter a b visible (omega arith) (omega arith)) (omega arith))
    ∙ kind ∙ ap (option_map (pairing make)) (pair_written greatest a b small one other)

pub read_written : (e : CoreEvent) → HasLine e → event_said (line_of e) ≡ Some e
read_written (Ready o) r =
    ap said_if (words_joined (82 ∷ []) (decimal o ∷ []) (parts_written (Ready o) r) (omega arith)) ∙ ap (option_map Ready) (id_written o r)
read_written (Claim o t) r = pair_line 67 greatest_small o t Claim (omega arith) (omega arith) r.0 r.1 refl
read_written (Fetch o j t x) r =
    ap said_if (words_joined (70 ∷ []) (decimal o ∷ decimal j ∷ decimal t ∷ decimal x ∷ []) (parts_written (Fetch o j t x) r) (omega arith))
    ∙ ap (option_map (λ (s : (ℕ × ℕ) × (ℕ × ℕ)). Fetch s.0.0 s.0.1 s.1.0 s.1.1)) (fetch_written o j t x r.0 r.1 r.2 r.3)
read_written (Finish o t) r = pair_line 78 greatest_small o t Finish (omega arith) (omega arith) r.0 r.1 refl
read_written (GiveBack o t) r = pair_line 71 greatest_small o t GiveBack (omega arith) (omega arith) r.0 r.1 refl
read_written (Spread o sibling) r = pair_line 83 greatest_id o sibling Spread (omega arith) (omega arith) r.0 r.1 refl
read_written (RollBack o j) r = pair_line 66 greatest_small o j RollBack (omega arith) (omega arith) r.0 r.1 refl
read_written (Decide i committed) r =
    ap said_if (words_joined (68 ∷ []) (decimal i ∷ (decision_letter committed ∷ []) ∷ []) (parts_written (Decide i committed) r) (omega arith))
    ∙ ap (option_map (λ (s : ℕ × Bool). Decide s.0 s.1)) (decide_written i committed r)
read_written (Settle o t) r = pair_line 84 greatest_small o t Settle (omega arith) (omega arith) r.0 r.1 refl

-- ---- what is read is written so

both_read : {A B : Type 0} (x : Option A) (y : Option B) (r : A × B) → both x y ≡ Some r → (x ≡ Some r.0) × (y ≡ Some r.1)
both_read (Some a) (Some b) r is = let same = same_Some (a, b) r is in (ap (λ s. Some s.0) same, ap (λ s. Some s.1) same)
both_read (Some a) None r is = absurd (none-some r is)
both_read None y r is = absurd (none-some r is)

map_read : {A B : Type 0} (f : A → B) (x : Option A) (b : B) → option_map f x ≡ Some b → (a : A) × (x ≡ Some a) × (f a ≡ b)
map_read f (Some a) b is = (a, refl, same_Some (f a) b is)
map_read f None b is = absurd (none-some b is)

id_read : (o : ℕ) (word : List ℕ) → number_up_to greatest_id word ≡ Some o → (decimal o ≡ word) × (o ≤ greatest_id)
id_read o word is = number_read greatest_id o word (omega arith) is

small_read : (n : ℕ) (word : List ℕ) → number_up_to greatest_small word ≡ Some n → (decimal n ≡ word) × (n ≤ greatest_small)
small_read n word is = number_read greatest_small n word (omega arith) is

op_read : (words : List (List ℕ)) (o : ℕ) → op_said words ≡ Some o → (decimal o ∷ [] ≡ words) × (o ≤ greatest_id)
op_read [] o is = absurd (none-some o is)
op_read (word ∷ []) o is = let n = id_read o word is in (ap (λ w. w ∷ []) n.0, n.1)
op_read (word ∷ next ∷ words) o is = absurd (none-some o is)

pair_read : (greatest : ℕ) (words : List (List ℕ)) (r : ℕ × ℕ) → greatest < 2 ^ 64 → pair_said greatest words ≡ Some r
    → (decimal r.0 ∷ decimal r.1 ∷ [] ≡ words) × (r.0 ≤ greatest_id) × (r.1 ≤ greatest)
pair_read greatest [] r small is = absurd (none-some r is)
pair_read greatest (a ∷ []) r small is = absurd (none-some r is)
pair_read greatest (a ∷ b ∷ []) r small is =
    let parts = both_read (number_up_to greatest_id a) (number_up_to greatest b) r is in
    let one = id_read r.0 a parts.0 in
    let other = number_read greatest r.1 b small parts.1 in
    (ap (λ w. w ∷ decimal r.1 ∷ []) one.0 ∙ ap (λ w. a ∷ w ∷ []) other.0, one.1, other.1)
pair_read greatest (a ∷ b ∷ c ∷ words) r small is = absurd (none-some r is)

fetch_read : (words : List (List ℕ)) (r : (ℕ × ℕ) × (ℕ × ℕ)) → fetch_said words ≡ Some r
    → (decimal r.0.0 ∷ decimal r.0.1 ∷ decimal r.1.0 ∷ decimal r.1.1 ∷ [] ≡ words)
    × (r.0.0 ≤ greatest_id) × (r.0.1 ≤ greatest_small) × (r.1.0 ≤ greatest_small) × (r.1.1 ≤ greatest_value)
fetch_read [] r is = absurd (none-some r is)
fetch_read (a ∷ []) r is = absurd (none-some r is)
fetch_read (a ∷ b ∷ []) r is = absurd (none-some r is)
fetch_read (a ∷ b ∷ c ∷ []) r is = absurd (none-some r is)
fetch_read (a ∷ b ∷ c ∷ d ∷ []) r is =
    let halves = both_read (both (number_up_to greatest_id a) (number_up_to greatest_small b)) (both (number_up_to greatest_small c) (number_up_to greatest_value d)) r is in
    let front = both_read (number_up_to greatest_id a) (number_up_to greatest_small b) r.0 halves.0 in
    let back = both_read (number_up_to greatest_small c) (number_up_to greatest_value d) r.1 halves.1 in
    let o = id_read r.0.0 a front.0 in
    let j = small_read r.0.1 b front.1 in
    let t = small_read r.1.0 c back.0 in
    let x = number_read greatest_value r.1.1 d (omega arith) back.1 in (
      ap (λ w. w ∷ decimal r.0.1 ∷ decimal r.1.0 ∷ decimal r.1.1 ∷ []) o.0 ∙ ap (λ w. a ∷ w ∷ decimal r.1.0 ∷ decimal r.1.1 ∷ []) j.0
          ∙ ap (λ w. a ∷ b ∷ w ∷ decimal r.1.1 ∷ []) t.0 ∙ ap (λ w. a ∷ b ∷ c ∷ w ∷ []) x.0,
      o.1,
      j.1,
      t.1,
      x.1,
    )
fetch_read (a ∷ b ∷ c ∷ d ∷ e ∷ words) r is = absurd (none-some r is)

decision_read : (word : List ℕ) (committed : Bool) → decision_said word ≡ Some committed → decision_letter committed ∷ [] ≡ word
decision_read [] committed is = absurd (none-some committed is)
decision_read (b ∷ []) committed is = by_tests (b == 99) (b == 97) refl refl is
  where
    by_tests : (c a : Bool) → (b == 99) ≡ c → (b == 97) ≡ a → (if c then Some true else (if a then Some false else None)) ≡ Some committed
        → decision_letter committed ∷ [] ≡ b ∷ []
    by_tests true a is_c is_a is =
        let here : b ≡ 99 = grind (arith, nat_tests) in ap (λ v. decision_letter v ∷ []) (sym (same_Some true committed is)) ∙ ap (λ n. n ∷ []) (sym here)
    by_tests false true is_c is_a is =
        let here : b ≡ 97 = grind (arith, nat_tests) in ap (λ v. decision_letter v ∷ []) (sym (same_Some false committed is)) ∙ ap (λ n. n ∷ []) (sym here)
    by_tests false false is_c is_a is = absurd (none-some committed is)
decision_read (b ∷ c ∷ word) committed is = absurd (none-some committed is)

decide_read : (words : List (List ℕ)) (r : ℕ × Bool) → decide_said words ≡ Some r → (decimal r.0 ∷ (decision_letter r.1 ∷ []) ∷ [] ≡ words) × (r.0 ≤ greatest_id)
decide_read [] r is = absurd (none-some r is)
decide_read (a ∷ []) r is = absurd (none-some r is)
decide_read (a ∷ b ∷ []) r is =
    let parts = both_read (number_up_to greatest_id a) (decision_said b) r is in
    let i = id_read r.0 a parts.0 in
    (ap (λ w. w ∷ (decision_letter r.1 ∷ []) ∷ []) i.0 ∙ ap (λ w. a ∷ w ∷ []) (decision_read b r.1 parts.1), i.1)
decide_read (a ∷ b ∷ c ∷ words) r is = absurd (none-some r is)

-- the event that words say behind a letter is written so
abbrev IsWrittenSo : ℕ → List (List ℕ) → CoreEvent → Type 0
IsWrittenSo letter words e = (words_written e ≡ (letter ∷ []) ∷ words) × HasLine e

record IsSound (kind : LineKind) : Type 0 where
  sound : (words : List (List ℕ)) (e : CoreEvent) → kind.says words ≡ Some e → IsWrittenSo kind.letter words e

pair_sound : (letter greatest : ℕ) (make : ℕ → ℕ → CoreEvent) → greatest < 2 ^ 64
    → ((a b : ℕ) → words_written (make a b) ≡ (letter ∷ []) ∷ decimal a ∷ decimal b ∷ [])
    → ((a b : ℕ) → a ≤ greatest_id → b ≤ greatest → HasLine (make a b))
    → IsSound (record { letter = letter; says = λ words. option_map (pairing make) (pair_said greatest words) })
pair_sound letter greatest make small written ranges = record {
  sound = λ words e is.
      let found = map_read (pairing make) (pair_said greatest words) e is in
      let parts = pair_read greatest words found.0 small found.1 in
      subst (IsWrittenSo letter words) found.2
      (written found.0.0 found.0.1 ∙ ap (λ ws. (letter ∷ []) ∷ ws) parts.0, ranges found.0.0 found.0.1 parts.1 parts.2);
}

abbrev fetching : (ℕ × ℕ) × (ℕ × ℕ) → CoreEvent
fetching r = Fetch r.0.0 r.0.1 r.1.0 r.1.1

abbrev deciding : ℕ × Bool → CoreEvent
deciding r = Decide r.0 r.1

ready_sound : IsSound (record { letter = 82; says = λ words. option_map Ready (op_said words) })
ready_sound = record {
  sound = λ words e is.
      let found = map_read Ready (op_said words) e is in
      let parts = op_read words found.0 found.1 in
      subst (IsWrittenSo 82 words) found.2 (ap (λ ws. (82 ∷ []) ∷ ws) parts.0, parts.1);
}

fetch_sound : IsSound (record { letter = 70; says = λ words. option_map fetching (fetch_said words) })
fetch_sound = record {
  sound = λ words e is.
      let found = map_read fetching (fetch_said words) e is in
      let parts = fetch_read words found.0 found.1 in
      subst (IsWrittenSo 70 words) found.2 (ap (λ ws. (70 ∷ []) ∷ ws) parts.0, (parts.1, parts.2, parts.3, parts.4));
}

decide_sound : IsSound (record { letter = 68; says = λ words. option_map deciding (decide_said words) })
decide_sound = record {
  sound = λ words e is.
      let found = map_read deciding (decide_said words) e is in
      let parts = decide_read words found.0 found.1 in
      subst (IsWrittenSo 68 words) found.2 (ap (λ ws. (68 ∷ []) ∷ ws) parts.0, parts.1);
}

data AllSound : List LineKind → Type 0 where
  no_kind : AllSound []
  one_more : (kind : LineKind) (more : List LineKind) → IsSound kind → AllSound more → AllSound (kind ∷ more)

said_sound : (some : List LineKind) (letter : ℕ) (words : List (List ℕ)) (e : CoreEvent) → AllSound some → said_by some letter words ≡ Some e → IsWrittenSo letter words e
said_sound [] letter words e no_kind is = absurd (none-some e is)
said_sound (kind ∷ more) letter words e (one_more _ _ one rest) is = by_test (letter == kind.letter) refl (λ later. said_sound more letter words e rest later) is
  where
    by_test : (here : Bool) → (letter == kind.letter) ≡ here → (said_by more letter words ≡ Some e → IsWrittenSo letter words e)
        → (if here then kind.says words else said_by more letter words) ≡ Some e → IsWrittenSo letter words e
    by_test true test later is =
        let same : kind.letter ≡ letter = grind (arith, nat_tests) in subst (λ l. IsWrittenSo l words e) same (one.sound words e is)
    by_test false test later is = later is

kinds_sound : AllSound kinds
kinds_sound =
    one_more _ _ ready_sound
    (one_more _ _ (pair_sound 67 greatest_small Claim (omega arith) (λ a b. refl) (λ a b one other. (one, other)))
    (one_more _ _ fetch_sound
    (one_more _ _ (pair_sound 78 greatest_small Finish (omega arith) (λ a b. refl) (λ a b one other. (one, other)))
    (one_more _ _ (pair_sound 71 greatest_small GiveBack (omega arith) (λ a b. refl) (λ a b one other. (one, other)))
    (one_more _ _ (pair_sound 83 greatest_id Spread (omega arith) (λ a b. refl) (λ a b one other. (one, other)))
    (one_more _ _ (pair_sound 66 greatest_small RollBack (omega arith) (λ a b. refl) (λ a b one other. (one, other)))
    (one_more _ _ decide_sound
    (one_more _ _ (pair_sound 84 greatest_small Settle (omega arith) (λ a b. refl) (λ a b one other. (one, other))) no_kind))))))))

words_read : (words : List (List ℕ)) (e : CoreEvent) → words_say words ≡ Some e → (words_written e ≡ words) × HasLine e
words_read [] e is = absurd (none-some e is)
words_read ([] ∷ words) e is = absurd (none-some e is)
words_read ((letter ∷ []) ∷ words) e is = said_sound kinds letter words e kinds_sound is
words_read ((letter ∷ b ∷ word) ∷ words) e is = absurd (none-some e is)

pub written_read : (line : List ℕ) (e : CoreEvent) → event_said line ≡ Some e → (line_of e ≡ line) × HasLine e
written_read line e is = by_words (words_of line) refl is
  where
    by_words : (found : Option (List (List ℕ))) → words_of line ≡ found → said_if found ≡ Some e → (line_of e ≡ line) × HasLine e
    by_words (Some words) words_are is =
        let written = words_read words e is in (ap (join_with_byte 32) written.0 ∙ joined_words line words words_are, written.1)
    by_words None words_are is = absurd (none-some e is)
