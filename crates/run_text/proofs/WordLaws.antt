-- A word begins with a name and `=` exactly where what stands before its first `=` is that name.
use Rattle.std.proofs.Common.{◌≡◌, ℕ, ◌+◌, Bool, true, false, List, [], ◌∷◌, ◌++◌, length, take, drop, Option, Some, None, refl, ap, sym, ◌∙◌, subst, eqb-true, eq-eqb, ne_eqb, length-append}
use Rattle.std.specs.Prelude.{◌==◌, ◌&&◌, ◌||◌, not, MatchOption, if◌then◌else◌}
use Rattle.std.specs.List.{list_all}
use Rattle.std.specs.Str.{bytes_eq}
use Rattle.std.proofs.lemmas.Bool.{and_parts, both_ways, not-true}
use Rattle.run_text.specs.declared.names.Name.{Name}
use Rattle.run_text.specs.declared.names.Name.TheVariants.{App, Own, Workers, Size, Unit as UnitName, Explore as ExploreName, Abort as AbortName, Plan as PlanName, Seed, Events, Notes, Ahead, Watch, Check}
use Rattle.run_text.specs.Words.{text_of, has_equals, name_of, has_name, value_in}

abbrev is_other : ℕ → Bool
is_other byte = not (byte == 61)

abbrev begins : (prefix word : List ℕ) → Bool
begins prefix word = bytes_eq (take (length prefix) word) prefix

-- the name with its `=`, as it stands in a word
abbrev with_equals : List ℕ → List ℕ
with_equals name = name ++ 61 ∷ []

regroup : (a b c : Bool) → (a && (b && c)) ≡ (b && (a && c))
regroup true b c = refl
regroup false true c = refl
regroup false false c = refl

-- no name is left
at_end : (t any : Bool) (byte : ℕ) (bytes : List ℕ) → (t && true) ≡ ((t || any) && bytes_eq (if t then [] else byte ∷ bytes) [])
at_end true any byte bytes = refl
at_end false true byte bytes = refl
at_end false false byte bytes = refl

-- an `=` is no byte of the name
differs : (byte c : ℕ) → (byte == 61) ≡ true → is_other c ≡ true → (byte == c) ≡ false
differs byte c is other = ne_eqb byte c (λ same. both_ways (c == 61) (not-true (c == 61) other) (eq-eqb c 61 (sym same ∙ eqb-true byte 61 is)))

one_more : (t any : Bool) (byte c : ℕ) (bytes name : List ℕ) → (byte == 61) ≡ t → is_other c ≡ true →
    ((byte == c) && (any && bytes_eq bytes name)) ≡ ((t || any) && bytes_eq (if t then [] else byte ∷ bytes) (c ∷ name))
one_more true any byte c bytes name is other = ap (λ same. same && (any && bytes_eq bytes name)) (differs byte c is other)
one_more false any byte c bytes name is other = regroup (byte == c) any (bytes_eq bytes name)

split : (name word : List ℕ) → list_all is_other name ≡ true → begins (with_equals name) word ≡ (has_equals word && bytes_eq (name_of word) name)
split [] [] others = refl
split [] (byte ∷ bytes) others = at_end (byte == 61) (has_equals bytes) byte (name_of bytes)
split (c ∷ name) [] others = refl
split (c ∷ name) (byte ∷ bytes) others =
    let parts = and_parts (is_other c) (list_all is_other name) others in
    ap (λ rest. (byte == c) && rest) (split name bytes parts.1)
    ∙ one_more (byte == 61) (has_equals bytes) byte c (name_of bytes) name refl parts.0

pub named : (name : Name) (word : List ℕ) → begins (with_equals (text_of name)) word ≡ has_name name word
named App word = split (text_of App) word refl
named Own word = split (text_of Own) word refl
named Workers word = split (text_of Workers) word refl
named Size word = split (text_of Size) word refl
named UnitName word = split (text_of UnitName) word refl
named ExploreName word = split (text_of ExploreName) word refl
named AbortName word = split (text_of AbortName) word refl
named PlanName word = split (text_of PlanName) word refl
named Seed word = split (text_of Seed) word refl
named Events word = split (text_of Events) word refl
named Notes word = split (text_of Notes) word refl
named Ahead word = split (text_of Ahead) word refl
named Watch word = split (text_of Watch) word refl
named Check word = split (text_of Check) word refl

abbrev Stripped : {X : Type 0} → (now : X → List ℕ) → (prefix word : List ℕ) → X → Type 0
Stripped now prefix word x = (begins prefix word ≡ true) × (now x ≡ drop (length prefix) word) × (length (now x) + length prefix ≡ length word)

-- what is left of a word behind a name
pub stripped : {X : Type 0} (now : X → List ℕ) (r : Option X) (name : Name) (prefix word : List ℕ) → prefix ≡ with_equals (text_of name) →
    MatchOption r (begins prefix word ≡ false) (Stripped now prefix word) →
    MatchOption r (has_name name word ≡ false) (λ x. (has_name name word ≡ true) × (now x ≡ value_in name word))
stripped {X} now r name prefix word is cases =
    by_result r (subst (λ l. MatchOption r (begins l word ≡ false) (Stripped now l word)) is cases)
  where
    by_result : (r : Option X) → MatchOption r (begins (with_equals (text_of name)) word ≡ false) (Stripped now (with_equals (text_of name)) word)
        → MatchOption r (has_name name word ≡ false) (λ x. (has_name name word ≡ true) × (now x ≡ value_in name word))
    by_result None other = sym (named name word) ∙ other
    by_result (Some x) found =
        (sym (named name word) ∙ found.0, found.1 ∙ ap (λ n. drop n word) (length-append (text_of name) (61 ∷ [])))
