-- The notes of a run, one line more; and counts of faults.
use Rattle.std.proofs.Common.{◌≡◌, ◌⊎◌, inl, inr, ℕ, suc, ◌+◌, ◌<◌, ◌≤◌, Bool, true, false, All, List, [], ◌∷◌, ◌++◌, length, Option, Some, None, refl, ap, sym, ◌∙◌, arith, append-nil, append_assoc}
use Rattle.std.specs.Prelude.{◌||◌, is_some, IfSome, IsSome, IsTrue}
use Rattle.std.proofs.lemmas.List.{length-append}
use Rattle.std.proofs.lemmas.List.Elements.{All-nil, All-cons, All-append, All-tail}
use Rattle.std.proofs.lemmas.Bool.{cases_Bool, cases_lt, cond-false, or_left, or_right, true≢false}
use Rattle.decision_model.specs.declared.counts.Last.{Last}
use Rattle.morph_base.specs.Outcomes.{fates}
use Rattle.morph_base.specs.Transactions.{Transaction, by_time}
use Rattle.morph_base.specs.States.{State, opening_state, after_all}
use Rattle.morph_base.proofs.StateLaws.{after_all-append, after_all-nil}
use Rattle.morph_io.specs.Told.{behind, behind_nil, behind_behind, HasRisen, AppendsPrefix}
use Rattle.morph_engine.specs.Accounts.{Account}
use Rattle.run_text.specs.declared.choices.Settings.{Settings}
use Rattle.run_text.specs.declared.tally.Tally.{Tally}
use Rattle.run_text.specs.Notes.{noted, audit_note, batch_note, batch_notes, check_note, is_cut, step_notes}
use Rattle.run_text.specs.Checks.{is_checked}
use Rattle.run_text.specs.Settings.{AreInRange}
use Rattle.run_text.specs.Text.{in_order, run_state}
use Rattle.snapshot_reader.specs.declared.viewer.Total.{Total}
use Rattle.version_table.specs.Totals.{total_of}
use Rattle.morph_cli.specs.Outputs.{AreAudits, has_notes, audit_before, audit_of, own_note, note_of, notes_from}
use Rattle.run_text.specs.declared.choices.Planning.{Planning}
use Rattle.decision_model.specs.Choices.{last_of}
use Rattle.morph_cli.specs.Tallies.{AreRunFrom, IsChecked}
use Rattle.morph_cli.proofs.TallyLaws.{Tallied}

-- the notes of one batch more
notes_more : (s : Settings) (state : State) (before : ℕ) (done : List (List Transaction)) (accounts : List Account) (audits : List Bool) (batch : List Transaction) (a : Account) (audited : Bool) →
    length done ≡ length accounts → length audits ≡ length accounts →
    notes_from s state before (done ++ batch ∷ []) (accounts ++ a ∷ []) (audits ++ audited ∷ []) ≡ notes_from s state before done accounts audits ++ note_of s (after_all state (in_order done)) (before + length done) audited a
unfolding notes_from
notes_more s state before [] [] [] batch a audited ran each =
    let here : before ≡ before + 0 = omega arith in
    append-nil (note_of s state before audited a) ∙ ap (λ q. note_of s q before audited a) (sym (after_all-nil state)) ∙ ap (λ n. note_of s (after_all state []) n audited a) here
notes_more s state before [] [] (y ∷ ys) batch a audited ran each = absurd (omega (arith, each))
notes_more s state before [] (x ∷ xs) audits batch a audited ran each = absurd (omega (arith, ran))
notes_more s state before (b ∷ bs) [] audits batch a audited ran each = absurd (omega (arith, ran))
notes_more s state before (b ∷ bs) (x ∷ xs) [] batch a audited ran each = absurd (omega (arith, each))
notes_more s state before (b ∷ bs) (x ∷ xs) (y ∷ ys) batch a audited ran each =
    let next = after_all state (by_time b) in
    let first = note_of s state before y x in
    let here : before + 1 + length bs ≡ before + length (b ∷ bs) = omega arith in
    ap (λ l. first ++ l) (notes_more s next (before + 1) bs xs ys batch a audited (omega (arith, ran)) (omega (arith, each)))
    ∙ sym (append_assoc first (notes_from s next (before + 1) bs xs ys) (note_of s (after_all next (in_order bs)) (before + 1 + length bs) audited a))
    ∙ ap (λ q. (first ++ notes_from s next (before + 1) bs xs ys) ++ note_of s q (before + 1 + length bs) audited a) (sym (after_all-append state (by_time b) (in_order bs)))
    ∙ ap (λ n. (first ++ notes_from s next (before + 1) bs xs ys) ++ note_of s (after_all state (in_order (b ∷ bs))) n audited a) here

-- what is told of a batch in the notes
abbrev pub told_note : Settings → (number : ℕ) → Option Total → Account → List ℕ
told_note s number audit a = audit_of audit ++ own_note s number a

-- what was seen beside it is the audit of the state before it, and something was only where the balances are watched; and its journal
-- was checked where journals are
pub record IsAudit (s : Settings) (state : State) (before : ℕ) (audit : Option Total) (a : Account) : Type 0 where
  pub seen : IfSome audit (λ x. (x.number ≡ before) × (x.total ≡ total_of state 0 s.size))
  pub unwatched : s.watch ≡ false → is_some audit ≡ false
  pub checked : IsTrue (is_checked s.check) → IsChecked a

pub unseen : (s : Settings) (state : State) (before : ℕ) (a : Account) → is_checked s.check ≡ false → IsAudit s state before None a
unseen s state before a off = record { seen = tt; unwatched = λ off. refl; checked = λ on. absurd (true≢false (sym on ∙ off)) }

-- so it is the note of the batch
pub told_note_is : (s : Settings) (state : State) (before number : ℕ) (audit : Option Total) (a : Account) → number ≡ before + 1 → IsAudit s state before audit a →
    told_note s number audit a ≡ note_of s state before (is_some audit) a
told_note_is s state before number None a next is = ap (λ n. own_note s n a) next
told_note_is s state before number (Some x) a next is =
    ap (λ n. audit_note n x.total ++ own_note s number a) is.seen.0
    ∙ ap (λ n. audit_note before n ++ own_note s number a) is.seen.1
    ∙ ap (λ n. audit_note before (total_of state 0 s.size) ++ own_note s n a) next

-- the notes of the batches that were run
abbrev pub notes_of : Settings → List (List Transaction) → List Account → List Bool → List ℕ
notes_of s done accounts audits = notes_from s opening_state 0 done accounts audits

-- between two batches: the notes of those that were run and written
abbrev pub IsNoted : Settings → List (List Transaction) → List Account → List Bool → (old now : Option (List ℕ)) → Type 0
IsNoted s done accounts audits old now = now ≡ behind old (notes_of s done accounts audits)

nothing : (s : Settings) → [] ≡ notes_of s [] [] []
unfolding notes_from
nothing s = refl

pub noted_nothing : (s : Settings) (old : Option (List ℕ)) → IsNoted s [] [] [] old old
noted_nothing s old = sym (behind_nil old) ∙ ap (behind old) (nothing s)

zero_more : (n : ℕ) → n ≡ 0 + n
zero_more n = omega arith

pub noted_more : (s : Settings) (done : List (List Transaction)) (accounts : List Account) (audits : List Bool) (batch : List Transaction) (a : Account) (audited : Bool) (state : State) (old now newer : Option (List ℕ)) →
    length done ≡ length accounts → AreAudits s accounts audits → state ≡ run_state done → IsNoted s done accounts audits old now →
    newer ≡ behind now (note_of s state (length done) audited a) → IsNoted s (done ++ batch ∷ []) (accounts ++ a ∷ []) (audits ++ audited ∷ []) old newer
noted_more s done accounts audits batch a audited state old now newer ran each state_is so_far written =
    let note = note_of s state (length done) audited a in
    written ∙ ap (λ w. behind w note) so_far ∙ behind_behind old (notes_of s done accounts audits) note
    ∙ ap (λ q. behind old (notes_of s done accounts audits ++ note_of s q (length done) audited a)) state_is
    ∙ ap (λ n. behind old (notes_of s done accounts audits ++ note_of s (run_state done) n audited a)) (zero_more (length done))
    ∙ ap (behind old) (sym (notes_more s opening_state 0 done accounts audits batch a audited ran each.each))

-- where no journal is checked nothing is noted of it
unchecked_note : (s : Settings) (number : ℕ) (a : Account) → is_checked s.check ≡ false → own_note s number a ≡ noted s.notes (batch_note number a.plan a.strategy)
unchecked_note s number a off =
    let own = noted s.notes (batch_note number a.plan a.strategy) in
    ap (λ l. own ++ l) (cond-false (is_checked s.check) (step_notes s.check a.journal ++ check_note number (is_cut a.plan a.journal)) [] off) ∙ append-nil own

noted_append : (on : Bool) (front back : List ℕ) → noted on (front ++ back) ≡ noted on front ++ noted on back
noted_append true front back = refl
noted_append false front back = refl

-- where no batch has an audit line and no journal is checked, the notes are the lines of the batches
pub unwatched_notes : (s : Settings) (state : State) (before : ℕ) (done : List (List Transaction)) (accounts : List Account) (audits : List Bool) → length done ≡ length accounts → length audits ≡ length accounts →
    All (λ audited. audited ≡ false) audits → is_checked s.check ≡ false → notes_from s state before done accounts audits ≡ noted s.notes (batch_notes (before + 1) accounts)
unfolding notes_from batch_notes
unwatched_notes s state before [] [] audits ran each none off = by_notes s.notes
  where
    by_notes : (on : Bool) → [] ≡ noted on []
    by_notes true = refl
    by_notes false = refl
unwatched_notes s state before [] (x ∷ xs) audits ran each none off = absurd (omega (arith, ran))
unwatched_notes s state before (b ∷ bs) [] audits ran each none off = absurd (omega (arith, ran))
unwatched_notes s state before (b ∷ bs) (x ∷ xs) [] ran each none off = absurd (omega (arith, each))
unwatched_notes s state before (b ∷ bs) (x ∷ xs) (y ∷ ys) ran each none off =
    let next = after_all state (by_time b) in
    let note = noted s.notes (batch_note (before + 1) x.plan x.strategy) in
    let unseen : y ≡ false = none 0 y (omega arith) in
    ap (λ audited. audit_before s.size state before audited ++ own_note s (before + 1) x ++ notes_from s next (before + 1) bs xs ys) unseen
    ∙ ap (λ l. l ++ notes_from s next (before + 1) bs xs ys) (unchecked_note s (before + 1) x off)
    ∙ ap (λ l. note ++ l) (unwatched_notes s next (before + 1) bs xs ys (omega (arith, ran)) (omega (arith, each)) (All-tail (λ (audited : Bool). audited ≡ false) y ys none) off)
    ∙ sym (noted_append s.notes (batch_note (before + 1) x.plan x.strategy) (batch_notes (before + 1 + 1) xs))

-- no batch has one yet; and one more, which has one only where the balances are watched
pub no_audits : (s : Settings) → AreAudits s [] []
no_audits s = record { each = refl; unwatched = λ off. All-nil (λ audited. audited ≡ false) }

pub audits_more : (s : Settings) (accounts : List Account) (audits : List Bool) (a : Account) (audited : Bool) → AreAudits s accounts audits → (s.watch ≡ false → audited ≡ false) →
    AreAudits s (accounts ++ a ∷ []) (audits ++ audited ∷ [])
audits_more s accounts audits a audited are unwatched = record {
  each = length-append audits (audited ∷ []) ∙ ap (λ n. n + 1) are.each ∙ sym (length-append accounts (a ∷ []));
  unwatched = λ off. All-append (λ (x : Bool). x ≡ false) audits (audited ∷ []) (are.unwatched off) (All-cons (λ (x : Bool). x ≡ false) audited [] (unwatched off) (All-nil (λ (x : Bool). x ≡ false)));
}

-- all journals were checked, and one more
pub checked_more : (s : Settings) (accounts : List Account) (a : Account) → (IsTrue (is_checked s.check) → All IsChecked accounts) → (IsTrue (is_checked s.check) → IsChecked a) →
    IsTrue (is_checked s.check) → All IsChecked (accounts ++ a ∷ [])
checked_more s accounts a before new on = All-append IsChecked accounts (a ∷ []) (before on) (All-cons IsChecked a [] (new on) (All-nil IsChecked))

-- where batches are read ahead none is
pub unchecked_ahead : (s : Settings) → AreInRange s → 0 < s.ahead → is_checked s.check ≡ false
unchecked_ahead s range ahead =
    elim (cases_Bool (is_checked s.check)) [
      | inl on ↦ absurd (let none = (range.unchecked on).0 in omega (arith, ahead, none))
      | inr off ↦ off
    ]

-- there is an account for each batch, so its number is the next one
pub ran_length : (planning : Planning) (s : State) (last : Last) (done : List (List Transaction)) (accounts : List Account) → AreRunFrom planning s last done accounts → length done ≡ length accounts
unfolding AreRunFrom
ran_length planning s last [] [] ran = refl
ran_length planning s last [] (x ∷ xs) ran = absurd ran
ran_length planning s last (b ∷ bs) [] ran = absurd ran
ran_length planning s last (b ∷ bs) (x ∷ xs) ran = ap suc (ran_length planning (after_all s (by_time b)) (last_of (fates s (by_time b))) bs xs ran.2)

pub as_many : {planning : Planning} {workers : ℕ} {done : List (List Transaction)} {accounts : List Account} {t : Tally} → Tallied planning workers done accounts t → length done ≡ length accounts
as_many {planning} {workers} {done} {accounts} {t} tallied = ran_length planning _ _ done accounts tallied.ran

-- all of some bytes were appended
pub prefix_all : (old new : Option (List ℕ)) (bytes : List ℕ) → new ≡ behind old bytes → AppendsPrefix old bytes new
prefix_all old new bytes appended = record { done = bytes; rest = []; parts = sym (append-nil bytes); appended = appended }

-- a count that has risen in a part of a call has risen in the call
pub risen_later : (a b c : ℕ) → a ≤ b → b ≤ c → HasRisen b c → HasRisen a c
risen_later a b c before after risen small = by_size (cases_lt b 18446744073709551615)
  where
    by_size : (b < 18446744073709551615) ⊎ (18446744073709551615 ≤ b) → a < c
    by_size (inl below) = let rises = risen below in omega (arith, before, rises)
    by_size (inr above) = omega (arith, small, before, after, above)

pub risen_before : (a b c : ℕ) → b ≤ c → HasRisen a b → HasRisen a c
risen_before a b c after risen small = let rises = risen small in omega (arith, rises, after)

-- where the notes are on, something was seen, or a journal was checked, the notes tell of a batch
pub noted_so : (s : Settings) → IsTrue s.notes → IsTrue (has_notes s)
noted_so s on = or_left s.notes (s.watch || is_checked s.check) on

pub checked_so : (s : Settings) → IsTrue (is_checked s.check) → IsTrue (has_notes s)
checked_so s on = or_right s.notes (s.watch || is_checked s.check) (or_right s.watch (is_checked s.check) on)

pub audited_so : (s : Settings) (audit : Option Total) → (s.watch ≡ false → is_some audit ≡ false) → IsSome audit ⊎ (IsTrue s.notes ⊎ IsTrue (is_checked s.check)) → IsTrue (has_notes s)
audited_so s audit unwatched (inr (inl on)) = noted_so s on
audited_so s audit unwatched (inr (inr on)) = checked_so s on
audited_so s audit unwatched (inl some) = by_watch s.watch refl audit some unwatched
  where
    by_watch : (b : Bool) → s.watch ≡ b → (o : Option Total) → IsSome o → (s.watch ≡ false → is_some o ≡ false) → IsTrue (has_notes s)
    by_watch true is o some unwatched = or_right s.notes (s.watch || is_checked s.check) (or_left s.watch (is_checked s.check) is)
    by_watch false is None some unwatched = absurd (cc)
    by_watch false is (Some x) some unwatched = absurd (let e : true ≡ false = unwatched is in cc)

-- one of two counts has risen in a part of a call
pub risen_in_part : {P Q : Type 0} (so : P → Q) (k0 k1 k2 n0 n1 n2 : ℕ) → k0 ≤ k1 → k1 ≤ k2 → n0 ≤ n1 → n1 ≤ n2 → HasRisen k1 k2 ⊎ (P × HasRisen n1 n2) → HasRisen k0 k2 ⊎ (Q × HasRisen n0 n2)
risen_in_part so k0 k1 k2 n0 n1 n2 sink sink' notes notes' (inl risen) = inl (risen_later k0 k1 k2 sink sink' risen)
risen_in_part so k0 k1 k2 n0 n1 n2 sink sink' notes notes' (inr risen) = inr (so risen.0, risen_later n0 n1 n2 notes notes' risen.1)
