-- The words that settings are asked for by. A word is `name=value`, and is split at its first `=`
use Rattle.std.specs.Prelude.{ℕ, ◌+◌, ◌==◌, ◌&&◌, Bool, nat_le, List, [], ◌∷◌, codes, count_by, drop, length, Option, Some, None, if◌then◌else◌, is_some}
use Rattle.std.specs.List.{list_all, list_any}
use Rattle.std.specs.Str.{bytes_eq}
use Rattle.run_text.specs.declared.names.Name.{Name}
use Rattle.run_text.specs.declared.names.Name.TheVariants.{App, Own, Workers, Size, Unit, Explore, Abort, Plan, Seed, Events, Notes, Ahead, Watch, Check}

-- The name as it is written in a word
abbrev pub text_of : Name → List ℕ
text_of App = codes "app"
text_of Own = codes "self"
text_of Workers = codes "workers"
text_of Size = codes "size"
text_of Unit = codes "unit"
text_of Explore = codes "explore"
text_of Abort = codes "abort"
text_of Plan = codes "plan"
text_of Seed = codes "seed"
text_of Events = codes "events"
text_of Notes = codes "notes"
text_of Ahead = codes "ahead"
text_of Watch = codes "watch"
text_of Check = codes "check"

-- All names that there are
abbrev pub all_names : List Name
all_names = App ∷ Own ∷ Workers ∷ Size ∷ Unit ∷ Explore ∷ Abort ∷ Plan ∷ Seed ∷ Events ∷ Notes ∷ Ahead ∷ Watch ∷ Check ∷ []

-- The test whether a word has an `=`
abbrev pub has_equals : List ℕ → Bool
has_equals word = list_any (λ byte. byte == 61) word

-- What a word has before its first `=`; the whole word if it has none
abbrev pub name_of : List ℕ → List ℕ
name_of [] = []
name_of (byte ∷ bytes) = if byte == 61 then [] else byte ∷ name_of bytes

-- The test whether a word is `name=value` with this name
abbrev pub has_name : Name → (word : List ℕ) → Bool
has_name name word = has_equals word && bytes_eq (name_of word) (text_of name)

-- The value in a word with this name
abbrev pub value_in : Name → (word : List ℕ) → List ℕ
value_in name word = drop (length (text_of name) + 1) word

-- The test whether a word has a name that there is
abbrev pub is_known : List ℕ → Bool
is_known word = list_any (λ name. has_name name word) all_names

-- The test whether at most one of the words has the name
abbrev pub is_once : List (List ℕ) → Name → Bool
is_once words name = nat_le (count_by (has_name name) words) 1

-- The test whether no name is given twice
abbrev pub are_once : List (List ℕ) → Bool
are_once words = list_all (is_once words) all_names

-- The value that words give under a name
unfoldable pub value_under : Name → List (List ℕ) → Option (List ℕ)
value_under name [] = None
value_under name (word ∷ words) = if has_name name word then Some (value_in name word) else value_under name words

-- The test whether words give a value under a name
abbrev pub is_given : Name → List (List ℕ) → Bool
is_given name words = is_some (value_under name words)
