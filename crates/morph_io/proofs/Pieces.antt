-- Bytes that are written in pieces, one after another.
use Rattle.std.proofs.Common.{◌≡◌, ℕ, ◌+◌, ◌<◌, ◌≤◌, false, List, ◌++◌, Option, Result, Ok, Err, length, take, drop, ap, subst, sym, ◌∙◌, arith}
use Rattle.std.proofs.lemmas.List.{take-append-drop, take-take, drop-take, drop-drop, length-drop}
use Rattle.morph_io.specs.declared.sink.WriteFailed.{WriteFailed}
use Rattle.morph_io.specs.SinkWrites.{AppendsPart, Writes, one_more, last_one, WritesAll}
use Rattle.morph_io.specs.Told.{behind, behind_behind}

-- the first bytes, and the next ones
pub take_take_drop : (a n : ℕ) (bytes : List ℕ) → take a bytes ++ take n (drop a bytes) ≡ take (a + n) bytes
take_take_drop a n bytes =
    let within : a ≤ a + n = omega arith in
    ap (λ front. front ++ take n (drop a bytes)) (sym (take-take a (a + n) bytes within))
    ∙ ap (λ back. take a (take (a + n) bytes) ++ back) (sym (drop-take a n bytes))
    ∙ take-append-drop a (take (a + n) bytes)

-- one more piece of the bytes was written
pub behind_piece : (old mid new : Option (List ℕ)) (a n : ℕ) (bytes : List ℕ) → mid ≡ behind old (take a bytes)
    → new ≡ behind mid (take n (drop a bytes)) → new ≡ behind old (take (a + n) bytes)
behind_piece old mid new a n bytes before step =
    step ∙ ap (λ told. behind told (take n (drop a bytes))) before
    ∙ behind_behind old (take a bytes) (take n (drop a bytes)) ∙ ap (behind old) (take_take_drop a n bytes)

-- a sink that has the first bytes has a part of them where they are not all
pub part_at : (old new : Option (List ℕ)) (a : ℕ) (bytes : List ℕ) → a < length bytes → new ≡ behind old (take a bytes) → AppendsPart old bytes new
part_at old new a bytes more h = record {
  done = take a bytes;
  rest = drop a bytes;
  missing = omega (arith, length-drop a bytes);
  parts = sym (take-append-drop a bytes);
  appended = h;
}

-- the writes of pieces from the front
module _ {S : Type 0} (writes : S → List ℕ → Result ℕ WriteFailed → S → Type 0) (bytes : List ℕ) (sink₀ : S) where
  left_at : (at : ℕ) → at < length bytes → 0 < length (drop at bytes)
  left_at at more = omega (arith, length-drop at bytes)

  -- one write more
  pub writes_piece : (at count : ℕ) (sink sink' : S) → at < length bytes → Writes writes bytes sink₀ (drop at bytes) false sink
      → writes sink (drop at bytes) (Ok count) sink' → Writes writes bytes sink₀ (drop (at + count) bytes) false sink'
  writes_piece at count sink sink' more h step =
      subst (λ left. Writes writes bytes sink₀ left false sink') (drop-drop count at bytes)
      (one_more (drop at bytes) count sink sink' h (left_at at more) step)

  -- a write that fails
  pub writes_cut : {T E : Type 0} (fault : E) (at : ℕ) (sink sink' : S) → at < length bytes → Writes writes bytes sink₀ (drop at bytes) false sink
      → (error : WriteFailed) → writes sink (drop at bytes) (Err error) sink' → WritesAll {T = T} writes bytes sink₀ (Err fault) sink'
  writes_cut fault at sink sink' more h error step = record {
    left = drop at bytes;
    made = last_one (drop at bytes) error sink sink' h (left_at at more) step;
    all = tt;
  }
