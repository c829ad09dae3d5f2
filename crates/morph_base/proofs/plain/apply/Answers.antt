use mathlib.Core.List.{map-map}
use Rattle.std.proofs.Common.{◌≡◌, ◌∙◌, sym, ap, map, ℕ, List, Bool}
use Rattle.morph_base.specs.declared.operation.Op.{Op}
use Rattle.morph_base.specs.Transactions.{Transaction, transaction_of}
use Rattle.morph_base.specs.States.{State, commits, after}
use Rattle.morph_base.specs.Outcomes.{Fate, fate}
use Rattle.morph_base.specs.Flat.{contents}
use Rattle.morph_base.proofs.plain.apply.Goals as goal

abbrev fate_with : ℕ → Bool → List ℕ → Fate
fate_with ts b vs = record { ts = ts; committed = b; values = vs }

-- what is told is the event's fate
fate_is : (s t : State) (e : Transaction) (ops : List Op) (b : Bool) (vs : List ℕ) → ops ≡ e.ops → b ≡ commits s e → t ≡ after s e →
    vs ≡ map (λ op. t op.key) ops → fate_with e.ts b vs ≡ fate s e
fate_is s t e ops b vs same verdict state told =
    let values = told ∙ ap (λ l. map (λ (op : Op). t op.key) l) same ∙ ap (λ (u : State). map (λ (op : Op). u op.key) e.ops) state
    ∙ sym (map-map (after s e) (λ (op : Op). op.key) e.ops) in
    ap (λ c. fate_with e.ts c vs) verdict ∙ ap (fate_with e.ts (commits s e)) values

pub returns-clause-fate : goal.returns-clause-fate
returns-clause-fate c =
    fate_is (contents c.args.values.now) (contents c.transact.new.values) (transaction_of c.args.event.now) c.as_slice-2.result.now c.in_ok-committed.committed
    c.read_targets.new.found.items (c.as_slice-2.ensures ∙ c.in_ok-ops.ensures) c.in_ok-committed.ensures.committed c.in_ok-committed.ensures.state c.read_targets.ensures
