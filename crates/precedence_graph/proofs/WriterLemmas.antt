-- The last writers among the first operations, and the sources that they are.
use Rattle.std.proofs.Common.{◌≡◌, ℕ, zero, suc, ◌<◌, ◌≤◌, inl, inr, arith}
use Rattle.std.proofs.lemmas.Bool.{cases_lt, cases_eq}
use Rattle.morph_base.specs.declared.key.Key.{Key}
use Rattle.morph_base.specs.declared.plan.Origin.{Origin}
use Rattle.morph_base.specs.declared.plan.Origin.TheVariants.{Base, Op as Written}
use Rattle.morph_base.specs.Sources.{WritesKey, IsSource}
use Rattle.morph_base.proofs.NumberLaws.{first_owned, within_event}
use Rattle.txn_splitter.specs.declared.txns.Txns.{Txns}
use Rattle.txn_splitter.specs.Txns.{IsTxns, txn_count, txn_op_count, txn_at, txn_of, txn_target}
use Rattle.precedence_graph.specs.declared.writers.Writers.{Writers}
use Rattle.morph_base.specs.Links.{last_passing}
use Rattle.precedence_graph.specs.Entries.{source_before, changes}
use Rattle.precedence_graph.specs.Writers.{entered_count, source_in}
use Rattle.precedence_graph.specs.Planned.{IsAmong}

pub among_first : (n : ℕ) (target : ℕ → Key) (key : Key) (origin : Origin) → IsSource n target (λ _. 0) 1 key origin → IsAmong n origin
among_first n target key (Base v) is = tt
among_first n target key (Written s) is = is.itself.in_range

-- no operation, no writer
pub source_among_none : (n : ℕ) (target : ℕ → Key) (key : Key) → n ≡ 0 → IsSource n target (λ _. 0) 1 key (Base 0)
source_among_none n target key none = λ t w. (let lt : t < n = w.in_range in absurd (omega arith))

module _ (x : Txns) (is : IsTxns x) (i : ℕ) (lt : i < txn_count x) where
  abbrev pub first_of : ℕ
  first_of = (txn_at x i).first

  pub before_from_event : (t : ℕ) → t < txn_op_count x → txn_of x t < i → t < first_of
  before_from_event t in_range earlier =
      elim (cases_lt t first_of) [
        | inl less ↦ less
        | inr more ↦
            let mine = first_owned _ _ _ _ _ _ _ is.numbering i lt in
            let order : txn_of x first_of ≤ txn_of x t = is.numbering.in_order first_of t more in_range in
            let its : txn_of x first_of ≡ i = mine.1 in
            absurd (omega arith)
      ]

  pub event_from_before : (t : ℕ) → t < first_of → (t < txn_op_count x) × (txn_of x t < i)
  event_from_before t less =
      let mine = first_owned _ _ _ _ _ _ _ is.numbering i lt in
      let start : first_of < txn_op_count x = mine.0 in
      let its : txn_of x first_of ≡ i = mine.1 in
      let in_range : t < txn_op_count x = omega arith in
      let order : txn_of x t ≤ txn_of x first_of = is.numbering.in_order t first_of (omega arith) start in
      elim (cases_eq (txn_of x t) i) [
        | inl same ↦ let from : first_of ≤ t = (within_event _ _ _ _ _ _ _ is.numbering t i in_range same).0 in absurd (omega arith)
        | inr other ↦ (in_range, omega arith)
      ]

  writes_before : (key : Key) (t : ℕ) → WritesKey (txn_op_count x) (txn_target x) (txn_of x) i key t → WritesKey first_of (txn_target x) (λ _. 0) 1 key t
  writes_before key t w =
      record { in_range = before_from_event t w.in_range w.earlier; earlier = omega arith; target_is = w.target_is }

  -- a source among the operations before event i is the source of its reads
  pub source_at_event : (key : Key) (origin : Origin) → IsSource first_of (txn_target x) (λ _. 0) 1 key origin → IsSource (txn_op_count x) (txn_target x) (txn_of x) i key origin
  source_at_event key (Base v) unwritten = λ t w. unwritten t (writes_before key t w)
  source_at_event key (Written s) last =
      let home = event_from_before s last.itself.in_range in
      record {
        itself = record { in_range = home.0; earlier = home.1; target_is = last.itself.target_is };
        last = λ t w. last.last t (writes_before key t w);
      }

-- the base of a table is 0
pub base_zero : (writers : Writers) (key : Key) (v : ℕ) → source_in writers key ≡ Base v → v ≡ 0
base_zero writers key v is = of_number (last_passing (changes writers.entries.items key) (entered_count writers)) is
  where
    of_number : (n : ℕ) → source_before n ≡ Base v → v ≡ 0
    of_number zero e = cc
    of_number (suc o) e = cc
