-- What a copy from a source to a sink has moved.
use Rattle.std.proofs.Common.{◌≡◌, ℕ, List, [], ◌++◌, Option, Some, None, IfSome, refl, ap, sym, ◌∙◌, append_assoc, append-nil, take}
use Rattle.morph_io.specs.Told.{ahead, behind, IsAtEnd, AppendsPrefix, ahead_nil, ahead_ahead, behind_nil, behind_behind}
use Rattle.morph_io.specs.SinkWrites.{AppendsPart}
use Rattle.morph_io.proofs.BufferPuts.{prefix_more}

-- the bytes that were taken from what was left are those that were written
pub record HasCopied (left0 left written0 written : Option (List ℕ)) : Type 0 where
  pub taken : List ℕ
  pub source : left0 ≡ ahead taken left
  pub sink : written ≡ behind written0 taken

pub copied_nothing : (left written : Option (List ℕ)) → HasCopied left left written written
copied_nothing left written = record { taken = []; source = sym (ahead_nil left); sink = sym (behind_nil written) }

pub copied_more : (left0 left left' written0 written written' : Option (List ℕ)) (front : List ℕ)
    → HasCopied left0 left written0 written → left ≡ ahead front left' → written' ≡ behind written front
    → HasCopied left0 left' written0 written'
copied_more left0 left left' written0 written written' front h e f = record {
  taken = h.taken ++ front;
  source = h.source ∙ ap (ahead h.taken) e ∙ ahead_ahead h.taken front left';
  sink = f ∙ ap (λ told. behind told front) h.sink ∙ behind_behind written0 h.taken front;
}

whole_by_cases : (left0 left written0 written : Option (List ℕ)) (taken : List ℕ) → left0 ≡ ahead taken left → written ≡ behind written0 taken
    → IsAtEnd left → IfSome left0 (λ bytes. written ≡ behind written0 bytes)
unfolding ahead
whole_by_cases left0 None written0 written taken e f end = rw e tt
whole_by_cases left0 (Some rest) written0 written taken e f end =
    rw e (f ∙ ap (behind written0) (sym (ap (λ back. taken ++ back) end ∙ append-nil taken)))

-- at the source's end all of it was written
pub copied_whole : (left0 left written0 written : Option (List ℕ)) → HasCopied left0 left written0 written → IsAtEnd left
    → IfSome left0 (λ bytes. written ≡ behind written0 bytes)
copied_whole left0 left written0 written h end = whole_by_cases left0 left written0 written h.taken h.source h.sink end

-- the same, where the source has just answered that it gave no byte
pub copied_end : (left0 left left' written0 written : Option (List ℕ)) (n : ℕ) (buf : List ℕ) → HasCopied left0 left written0 written
    → n ≡ 0 → left ≡ ahead (take n buf) left' → IsAtEnd left' → IfSome left0 (λ bytes. written ≡ behind written0 bytes)
copied_end left0 left left' written0 written n buf h none e end =
    copied_whole left0 left' written0 written
    (copied_more left0 left left' written0 written written [] h (e ∙ ap (λ k. ahead (take k buf) left') none) (sym (behind_nil written)))
    end

prefix_by_cases : (left0 left written0 written : Option (List ℕ)) (taken : List ℕ) → left0 ≡ ahead taken left → AppendsPrefix written0 taken written
    → IfSome left0 (λ bytes. AppendsPrefix written0 bytes written)
unfolding ahead
prefix_by_cases left0 None written0 written taken e p = rw e tt
prefix_by_cases left0 (Some rest) written0 written taken e p = rw e (prefix_more written0 written taken rest (taken ++ rest) refl p)

-- the sink has a prefix of what the source had
pub copied_prefix : (left0 left written0 written : Option (List ℕ)) → HasCopied left0 left written0 written
    → IfSome left0 (λ bytes. AppendsPrefix written0 bytes written)
copied_prefix left0 left written0 written h = prefix_by_cases left0 left written0 written h.taken h.source
    (record { done = h.taken; rest = []; parts = sym (append-nil h.taken); appended = h.sink })

-- the same, where a part of the last piece was written
pub copied_cut : (left0 left left' written0 written written' : Option (List ℕ)) (front : List ℕ)
    → HasCopied left0 left written0 written → left ≡ ahead front left' → AppendsPart written front written'
    → IfSome left0 (λ bytes. AppendsPrefix written0 bytes written')
copied_cut left0 left left' written0 written written' front h e p =
    prefix_by_cases left0 left' written0 written' (h.taken ++ front) (h.source ∙ ap (ahead h.taken) e ∙ ahead_ahead h.taken front left')
    (record {
      done = h.taken ++ p.done;
      rest = p.rest;
      parts = ap (λ bytes. h.taken ++ bytes) p.parts ∙ sym (append_assoc h.taken p.done p.rest);
      appended = p.appended ∙ ap (λ told. behind told p.done) h.sink ∙ behind_behind written0 h.taken p.done;
    })
