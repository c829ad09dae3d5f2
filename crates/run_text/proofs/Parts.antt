-- What follows from parts that may be missing.
use Rattle.std.proofs.Common.{◌≡◌, Bool, true, false, Option, Some, None, refl, ap, ◌∙◌}
use Rattle.std.specs.Prelude.{if◌then◌else◌}
use Rattle.run_text.specs.Settings.{◌>>=◌}

-- nothing follows from a part that is missing
pub none_at : {A B : Type 0} (part : Option A) (next : A → Option B) → part ≡ None → (part >>= next) ≡ None
none_at part next is = ap (λ part. part >>= next) is

pub none_after : {A B : Type 0} (part : Option A) (next : A → Option B) → ((x : A) → next x ≡ None) → (part >>= next) ≡ None
none_after None next later = refl
none_after (Some x) next later = later x

pub none_by_some : {A B : Type 0} (part : Option A) (next : A → Option B) (x : A) → part ≡ Some x → next x ≡ None → (part >>= next) ≡ None
none_by_some part next x is later = ap (λ part. part >>= next) is ∙ later

-- where nothing follows, the part is missing, or nothing follows from it
pub none_cases : {A B P : Type 0} (part : Option A) (next : A → Option B) → (part >>= next) ≡ None → (part ≡ None → P) → ((x : A) → part ≡ Some x → next x ≡ None → P) → P
none_cases None next is here later = here refl
none_cases (Some x) next is here later = later x refl is

-- what stands under a test
pub some_if : {A : Type 0} (test : Bool) (part : Option A) (x : A) → (if test then part else None) ≡ Some x → (test ≡ true) × (part ≡ Some x)
some_if true part x is = (refl, is)
some_if false part x is = absurd (cc)

pub some_unless : {A : Type 0} (test : Bool) (part : Option A) (x : A) → (if test then None else part) ≡ Some x → (test ≡ false) × (part ≡ Some x)
some_unless true part x is = absurd (cc)
some_unless false part x is = (refl, is)

pub none_if : {A : Type 0} (test : Bool) (x : A) → (if test then Some x else None) ≡ None → test ≡ false
none_if true x is = absurd (cc)
none_if false x is = refl

pub none_unless : {A : Type 0} (test : Bool) (x : A) → (if test then None else Some x) ≡ None → test ≡ true
none_unless true x is = refl
none_unless false x is = absurd (cc)
