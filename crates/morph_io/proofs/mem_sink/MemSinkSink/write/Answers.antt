-- A call is refused for one of three reasons.
use Rattle.std.proofs.Common.{inl, inr, refl}
use Rattle.morph_io.specs.InMemory.{IsRefused}
use Rattle.morph_io.proofs.mem_sink.MemSinkSink.write.Goals as goal
use Rattle.morph_io.proofs.mem_sink.MemSinkSink.write.Goals.{then-self-eq0-via-then-self-eq0, then-self-eq0-via-else-self-eq0+then-fails, then-self-eq0-via-else-self-eq0+else-fails+then-stalls}

pub returns-then-self-eq0-clause-fails : goal.returns-then-self-eq0-clause-fails
returns-then-self-eq0-clause-fails c =
    let refused : IsRefused c.args.self.now =
    rw (← c.self.view_is) (elim c.then-self-eq0.branch [
      | then-self-eq0-via-then-self-eq0 w ↦ inl w.if-self-eq0.true
      | then-self-eq0-via-else-self-eq0+then-fails w ↦
          inr (inl (rw (← c.as_slice.ensures) (c.is_next_call_among-fails.ensures.0 w.if-fails.true)))
      | then-self-eq0-via-else-self-eq0+else-fails+then-stalls w ↦
          inr (inr (rw (← c.as_slice-2.ensures) (c.is_next_call_among-stalls.ensures.0 w.if-stalls.true)))
    ]) in
    (λ _. refused, λ _. refl)
