-- Each line that the ledger's generator writes is an event's
use Rattle.std.proofs.Common.{◌≡◌, ℕ, ◌+◌, ◌%◌, ◌<◌, ◌≤◌, Bool, true, false, [], ◌∷◌, refl, ◌∙◌, ap, arith, inl, inr, Result, Ok}
use Rattle.std.specs.Prelude.{◌==◌, ◌||◌, if◌then◌else◌, nat_lt}
use Rattle.std.proofs.Math.Nat.{mod_self, mod-eq_of_lt}
use Rattle.std.proofs.lemmas.Bool.{cases_lt}
use Rattle.std.proofs.lemmas.Bool.Decides.{nat_tests}
use Rattle.event_reader.specs.Forms.{IsForm}
use Rattle.event_reader.specs.Limits.{generated_events, generated_ids}
use Rattle.morph_base.specs.Transactions.{Transaction}
use Rattle.event_reader.specs.declared.cause.Cause.{Cause}
use Rattle.event_reader.specs.Draws.{after_draws, draw_at}
use Rattle.event_reader.specs.declared.version.Version.TheVariants.{One}
use Rattle.event_reader.specs.Generated.{Drawn, IsEventLine}
use Rattle.event_reader.specs.Numbers.{are_in}
use Rattle.event_reader.specs.PlainLines.{plain_line}
use Rattle.event_reader.specs.Ranges.{times, ids, amounts}
use Rattle.event_reader.proofs.DrawBound.{draw_below}
use Rattle.event_reader.proofs.NumberLists.{in_range}
use Rattle.event_reader.proofs.Forms.{Fits, is_form, kind_line}
use Rattle.ledger_app.specs.Ledger.{deposit, transfer, moving, deposits, transfers, ledger_kinds, ledger_event}
use Rattle.ledger_app.specs.LedgerDraws.{apart, drawn_amounts, drawn_deposit, drawn_transfer, ledger_drawn}

abbrev ok : Transaction → Result Transaction Cause
ok e = Ok e

-- The line of a deposit
deposit_form : (size : ℕ) → size ≤ generated_ids → IsForm (deposits One size).form
deposit_form size few =
    is_form (deposits One size).form (omega arith) (omega arith) (omega arith, (omega arith, (omega arith, (omega arith, (omega arith, tt))))) (omega arith)

deposit_fits : (size i acct ast a b : ℕ) → 0 < i → i ≤ generated_events → acct < size → ast < size → a < drawn_amounts → b < drawn_amounts
    → Fits (deposits One size).form (i ∷ acct ∷ ast ∷ a ∷ b ∷ [])
unfolding are_in
deposit_fits size i acct ast a b start last in1 in2 small small' = record {
  count = refl;
  inside = rw (
    in_range times i (omega arith) (omega arith),
    in_range (ids size) acct (omega arith) (omega arith),
    in_range (ids size) ast (omega arith) (omega arith),
    in_range (amounts One) a (omega arith) (omega arith),
    in_range (amounts One) b (omega arith) (omega arith),
  ) refl;
}

deposit_line : (size i acct ast a b : ℕ) → size ≤ generated_ids → 0 < i → i ≤ generated_events → acct < size → ast < size → a < drawn_amounts → b < drawn_amounts
    → IsEventLine (ledger_event size One) i (plain_line 68 (i ∷ acct ∷ ast ∷ a ∷ b ∷ []))
deposit_line size i acct ast a b few start last in1 in2 small small' =
    kind_line (ledger_kinds One size) (deposits One size) i (i ∷ acct ∷ ast ∷ a ∷ b ∷ []) (deposit One i acct ast a b)
    (deposit_form size few) (deposit_fits size i acct ast a b start last in1 in2 small small') (omega arith) (omega arith) refl refl refl

-- Two ids that are brought apart differ
apart_below : (size first second : ℕ) → first < size → second < size → apart size first second < size
apart_below size first second in1 in2 = grind (arith, nat_tests)

next_differs : (size first : ℕ) → 1 < size → first < size → (first == (first + 1) % size) ≡ false
next_differs size first two inside = elim (cases_lt (first + 1) size) [
  | inl below ↦ let same : (first + 1) % size ≡ first + 1 = mod-eq_of_lt below in
      rw same (let differ : (first == first + 1) ≡ false = grind (arith, nat_tests) in differ)
  | inr last ↦ let end : first + 1 ≡ size = omega arith in
      let zero : (first + 1) % size ≡ 0 = ap (λ n. n % size) end ∙ mod_self size in
      rw zero (let differ : (first == 0) ≡ false = grind (arith, nat_tests) in differ)
]

apart_differs : (size first second : ℕ) → 1 < size → first < size → (first == apart size first second) ≡ false
apart_differs size first second two inside = by_test (first == second) refl
  where
    by_test : (t : Bool) → (first == second) ≡ t → (first == (if t then (first + 1) % size else second)) ≡ false
    by_test true same = next_differs size first two inside
    by_test false differ = differ

-- The line of a transfer
transfer_form : (size : ℕ) → size ≤ generated_ids → IsForm (transfers One size).form
transfer_form size few =
    is_form (transfers One size).form (omega arith) (omega arith) (omega arith, (omega arith, (omega arith, (omega arith, (omega arith, (omega arith, (omega arith, tt))))))) (omega arith)

transfer_fits : (size i src dst asrc adst a b : ℕ) → 0 < i → i ≤ generated_events → src < size → dst < size → asrc < size → adst < size → a < drawn_amounts → b < drawn_amounts
    → Fits (transfers One size).form (i ∷ src ∷ dst ∷ asrc ∷ adst ∷ a ∷ b ∷ [])
unfolding are_in
transfer_fits size i src dst asrc adst a b start last in1 in2 in3 in4 small small' = record {
  count = refl;
  inside = rw (
    in_range times i (omega arith) (omega arith),
    in_range (ids size) src (omega arith) (omega arith),
    in_range (ids size) dst (omega arith) (omega arith),
    in_range (ids size) asrc (omega arith) (omega arith),
    in_range (ids size) adst (omega arith) (omega arith),
    in_range (amounts One) a (omega arith) (omega arith),
    in_range (amounts One) b (omega arith) (omega arith),
  ) refl;
}

transfer_line : (size i src dst asrc adst a b : ℕ) → size ≤ generated_ids → 0 < i → i ≤ generated_events → src < size → dst < size → asrc < size → adst < size → a < drawn_amounts → b < drawn_amounts
    → (src == dst) ≡ false → (asrc == adst) ≡ false → IsEventLine (ledger_event size One) i (plain_line 88 (i ∷ src ∷ dst ∷ asrc ∷ adst ∷ a ∷ b ∷ []))
transfer_line size i src dst asrc adst a b few start last in1 in2 in3 in4 small small' differ differ' =
    let apart : transfer One i src dst asrc adst a b 0 ≡ ok (moving One i src dst asrc adst a b 0) = rw (differ, differ') refl in
    kind_line (ledger_kinds One size) (transfers One size) i (i ∷ src ∷ dst ∷ asrc ∷ adst ∷ a ∷ b ∷ []) (moving One i src dst asrc adst a b 0)
    (transfer_form size few) (transfer_fits size i src dst asrc adst a b start last in1 in2 in3 in4 small small') (omega arith) (omega arith) refl apart refl

-- Each line that the generator writes is an event's, at the time of its number
pub ledger_generates : (size i state : ℕ) → 0 < size → size ≤ generated_ids → 0 < i → i ≤ generated_events
    → IsEventLine (ledger_event size One) i (ledger_drawn size i state).line
ledger_generates size i state some few start last = by_choice (nat_lt (draw_at state 1 4) 2) (nat_lt size 2) refl
  where
    after : ℕ
    after = after_draws state 1

    deposit_at : IsEventLine (ledger_event size One) i (plain_line 68 (drawn_deposit size i after))
    deposit_at = deposit_line size i _ _ _ _ few start last (draw_below after 1 size some) (draw_below after 2 size some)
        (draw_below after 3 drawn_amounts (omega arith)) (draw_below after 4 drawn_amounts (omega arith))

    transfer_at : 1 < size → IsEventLine (ledger_event size One) i (plain_line 88 (drawn_transfer size i after))
    transfer_at two =
        let src = draw_below after 1 size some in
        let dst = draw_below after 2 size some in
        let asrc = draw_below after 3 size some in
        let adst = draw_below after 4 size some in
        transfer_line size i _ _ _ _ _ _ few start last src (apart_below size _ _ src dst) asrc (apart_below size _ _ asrc adst)
        (draw_below after 5 drawn_amounts (omega arith)) (draw_below after 6 drawn_amounts (omega arith))
        (apart_differs size (draw_at after 1 size) (draw_at after 2 size) two src) (apart_differs size (draw_at after 3 size) (draw_at after 4 size) two asrc)

    chosen : (one : Bool) → Drawn
    chosen one =
        if one then record { line = plain_line 68 (drawn_deposit size i after); state = after_draws state 5 }
        else record { line = plain_line 88 (drawn_transfer size i after); state = after_draws state 7 }

    by_choice : (low one : Bool) → nat_lt size 2 ≡ one → IsEventLine (ledger_event size One) i (chosen (low || one)).line
    by_choice true one is = deposit_at
    by_choice false true is = deposit_at
    by_choice false false is = let two : 1 < size = grind (arith, nat_tests) in transfer_at two
