use Rattle.std.proofs.Common.{◌≡◌, ℕ, ◌+◌, ◌-◌, ◌<◌, true, false, eqb, length, refl, sym, ap, ◌∙◌, arith}
use Rattle.std.proofs.lemmas.Bool.{true≢false, and_right}
use Rattle.morph_base.specs.Links.{last_passing}
use Rattle.morph_base.proofs.LinkLaws.{last_passing-none, last_passing-skip, last_passing-le}
use Rattle.interleaving_core.specs.Entries.{no_entry, entry_in, op_in, is_sought}
use Rattle.interleaving_core.proofs.Linked.{is_its, is_found, walk, walk_at, found_there, found_nowhere}
use Rattle.interleaving_core.proofs.state.published.Published.has.Goals as goal

pub loop-end-init : goal.loop-end-init
loop-end-init c =
    let w = c.args.self.now in
    let es = w.entries.items in
    let o = c.args.op in
    let s = c.args.sought in
    let is : c.get-end.result.now ≡ last_passing (is_its es o s) (length es) = c.get-end.ensures.at 0 ∙ w.ended o c.requires in
    record {
      low = omega (arith, is, last_passing-le (is_its es o s) (length es));
      at = λ i e. walk_at es o s (length es) i (sym is ∙ e);
      rest = walk es o s (length es) ∙ ap (last_passing (is_found es o s)) (sym is);
    }

pub returns-then-is : goal.returns-then-is
returns-then-is c =
    let es = c.args.self.now.entries.items in
    let i : ℕ = c.loop-end.end - 1 in
    let end : c.loop-end.end ≡ i + 1 = omega (arith, c.loop-end-test.true) in
    let lt : i < length es = omega (arith, c.loop-end.invariant.low) in
    let passes : is_sought c.args.sought (entry_in es i) ≡ true = ap (is_sought c.args.sought) (sym (c.get.ensures.at no_entry)) ∙ sym c.is.ensures ∙ c.if-is.true in
    (λ _. found_there es c.args.op c.args.sought i lt (c.loop-end.invariant.at i end) passes, λ _. refl)

pub loop-end-smaller : goal.loop-end-smaller
loop-end-smaller c =
    let w = c.args.self.now in
    let es = w.entries.items in
    let i : ℕ = c.loop-end.end - 1 in
    let end : c.loop-end.end ≡ i + 1 = omega (arith, c.loop-end-test.true) in
    let lt : i < length es = omega (arith, c.loop-end.invariant.low) in
    omega (arith, c.get-end-in-loop-end.ensures.at 0 ∙ w.linked i lt, last_passing-le (λ k. eqb (op_in es k) (op_in es i)) i)

pub loop-end-preserved : goal.loop-end-preserved
loop-end-preserved c =
    let w = c.args.self.now in
    let es = w.entries.items in
    let o = c.args.op in
    let s = c.args.sought in
    let i : ℕ = c.loop-end.end - 1 in
    let end : c.loop-end.end ≡ i + 1 = omega (arith, c.loop-end-test.true) in
    let lt : i < length es = omega (arith, c.loop-end.invariant.low) in
    let is : c.get-end-in-loop-end.result.now ≡ last_passing (is_its es o s) i =
    c.get-end-in-loop-end.ensures.at 0 ∙ w.linked i lt ∙ ap (λ q. last_passing (λ k. eqb (op_in es k) q) i) (c.loop-end.invariant.at i end) in
    let passes_not : is_sought s (entry_in es i) ≡ false = ap (is_sought s) (sym (c.get.ensures.at no_entry)) ∙ sym c.is.ensures ∙ c.if-is.false in
    let fails : is_found es o s i ≡ false = and_right (is_its es o s i) (is_sought s (entry_in es i)) passes_not in
    record {
      low = omega (arith, is, last_passing-le (is_its es o s) i);
      at = λ k e. walk_at es o s i k (sym is ∙ e);
      rest = c.loop-end.invariant.rest ∙ ap (last_passing (is_found es o s)) end ∙ last_passing-skip (is_found es o s) i fails ∙ walk es o s i ∙ ap (last_passing (is_found es o s)) (sym is);
    }

pub returns : goal.returns
returns c =
    let es = c.args.self.now.entries.items in
    let o = c.args.op in
    let s = c.args.sought in
    let none : last_passing (is_found es o s) (length es) ≡ 0 = c.loop-end.invariant.rest ∙ last_passing-none (is_found es o s) c.loop-end.end (omega (arith, c.loop-end-test.false)) in
    (λ yes. absurd (true≢false (sym yes)), λ has. absurd (found_nowhere es o s none has))
