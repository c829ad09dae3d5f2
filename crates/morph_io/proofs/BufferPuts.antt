-- What puts into a buffer in front of a sink add up to.
use Rattle.std.proofs.Common.{◌≡◌, ℕ, ◌+◌, ◌≤◌, ◌<◌, List, [], ◌++◌, Option, Result, length, take, drop, cond, ap, subst, sym, ◌∙◌, arith, append_assoc, rules}
use Rattle.std.proofs.lemmas.Bool.{lt-ltb, le-ltb}
use Rattle.std.proofs.lemmas.List.{length-append, take-append-drop}
use Rattle.std.proofs.Math.Seq.{drop-append-add, take-append-add}
use Rattle.morph_io.specs.Limits.{out_bytes}
use Rattle.morph_io.specs.SinkWrites.{AppendsPart, WritesAll, WritesFull}
use Rattle.morph_io.specs.declared.sink.WriteFailed.{WriteFailed}
use Rattle.morph_io.specs.Told.{behind, behind_nil, behind_behind, Puts, AppendsPrefix, kept_of}

-- nothing was put
pub puts_nothing : (told : Option (List ℕ)) (kept : List ℕ) → Puts told kept [] told kept
puts_nothing told kept = record { done = []; written = sym (behind_nil told); parts = search rules }

-- bytes that the buffer only keeps
pub puts_kept : (told : Option (List ℕ)) (kept bytes kept' : List ℕ) → kept' ≡ kept ++ bytes → Puts told kept bytes told kept'
puts_kept told kept bytes kept' e = record { done = []; written = sym (behind_nil told); parts = e }

-- two puts, one after the other
pub puts_next : (old mid new : Option (List ℕ)) (kept kept' kept'' front back : List ℕ)
    → Puts old kept front mid kept' → Puts mid kept' back new kept'' → Puts old kept (front ++ back) new kept''
puts_next old mid new kept kept' kept'' front back p q = record {
  done = p.done ++ q.done;
  written = q.written ∙ ap (λ told. behind told q.done) p.written ∙ behind_behind old p.done q.done;
  parts = append_assoc p.done q.done kept'' ∙ ap (λ rest. p.done ++ rest) q.parts ∙ sym (append_assoc p.done kept' back)
      ∙ ap (λ bytes. bytes ++ back) p.parts ∙ append_assoc kept front back;
}

-- a put that fails after one that did not
pub puts_cut : (old mid new : Option (List ℕ)) (kept kept' front back : List ℕ)
    → Puts old kept front mid kept' → AppendsPart mid (kept' ++ back) new → AppendsPart old (kept ++ (front ++ back)) new
puts_cut old mid new kept kept' front back p q = record {
  done = p.done ++ q.done;
  rest = q.rest;
  missing = q.missing;
  parts = sym (append_assoc kept front back) ∙ ap (λ bytes. bytes ++ back) (sym p.parts) ∙ append_assoc p.done kept' back
      ∙ ap (λ rest. p.done ++ rest) q.parts ∙ sym (append_assoc p.done q.done q.rest);
  appended = q.appended ∙ ap (λ told. behind told q.done) p.written ∙ behind_behind old p.done q.done;
}

-- a prefix of some bytes is one of these bytes with more behind them
pub prefix_more : (old new : Option (List ℕ)) (bytes more all : List ℕ) → all ≡ bytes ++ more → AppendsPrefix old bytes new → AppendsPrefix old all new
prefix_more old new bytes more all e p = record {
  done = p.done;
  rest = p.rest ++ more;
  parts = e ∙ ap (λ front. front ++ more) p.parts ∙ append_assoc p.done p.rest more;
  appended = p.appended;
}

-- the same where bytes are missing
pub part_more : (old new : Option (List ℕ)) (bytes more all : List ℕ) → all ≡ bytes ++ more → AppendsPart old bytes new → AppendsPart old all new
part_more old new bytes more all e p = record {
  done = p.done;
  rest = p.rest ++ more;
  missing = (let m = p.missing in omega (arith, length-append p.rest more, m));
  parts = e ∙ ap (λ front. front ++ more) p.parts ∙ append_assoc p.done p.rest more;
  appended = p.appended;
}

-- what is kept where the bytes leave room
pub kept_all : (size : ℕ) (kept line : List ℕ) → length kept + length line < size → kept_of size (kept ++ line) ≡ kept ++ line
unfolding kept_of
kept_all size kept line short =
    let fits : length (kept ++ line) < size = omega (arith, length-append kept line) in
    ap (λ b. cond b (kept ++ line) (drop size (kept ++ line))) (lt-ltb (length (kept ++ line)) size fits)

-- what is kept where the buffer was filled by the front of a line
pub kept_rest : (size room : ℕ) (kept line : List ℕ) → length kept + room ≡ size → room ≤ length line → kept_of size (kept ++ line) ≡ drop room line
unfolding kept_of
kept_rest size room kept line full enough =
    let long : size ≤ length (kept ++ line) = omega (arith, length-append kept line) in
    ap (λ b. cond b (kept ++ line) (drop size (kept ++ line))) (le-ltb (length (kept ++ line)) size long)
    ∙ ap (λ n. drop n (kept ++ line)) (sym full) ∙ drop-append-add kept line room

-- a line is its front, which fills the buffer, and its rest
pub filled_parts : (kept line full : List ℕ) (room : ℕ) → full ≡ kept ++ take room line → kept ++ line ≡ full ++ drop room line
filled_parts kept line full room e =
    ap (λ bytes. kept ++ bytes) (sym (take-append-drop room line)) ∙ sym (append_assoc kept (take room line) (drop room line))
    ∙ ap (λ front. front ++ drop room line) (sym e)

-- the writes of a buffer that the front of a line filled
pub writes_full : {S T E : Type 0} (writes : S → List ℕ → Result ℕ WriteFailed → S → Type 0) (kept line full : List ℕ) (room : ℕ) (sink sink' : S) (answer : Result T E)
    → full ≡ kept ++ take room line → length kept + room ≡ out_bytes → room ≤ length line
    → WritesAll writes full sink answer sink' → WritesFull writes (kept ++ line) sink answer sink'
writes_full writes kept line full room sink sink' answer e filled enough all = record {
  none = λ short. absurd (omega (arith, length-append kept line, filled, enough, short));
  full = λ _. subst (λ bytes. WritesAll writes bytes sink answer sink')
      (e ∙ sym (take-append-add kept line room) ∙ ap (λ n. take n (kept ++ line)) filled) all;
}
