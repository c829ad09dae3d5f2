-- What comes of checking the journal of a run.
use Rattle.std.proofs.Common.{◌≡◌, ◌≢◌, ℕ, ◌<◌, ◌≤◌, true, false, List, length, sym, subst, ◌∙◌, arith, eq-eqb}
use Rattle.std.proofs.lemmas.Bool.{true≢false}
use Rattle.morph_base.specs.declared.plan.Plan.{Plan}
use Rattle.morph_base.specs.declared.strategy.Abort.TheVariants.{Lazy}
use Rattle.morph_base.specs.Plans.{IsPlan}
use Rattle.interleaving_core.specs.declared.event.CoreEvent.{CoreEvent}
use Rattle.interleaving_core.specs.Core.{Core, start}
use Rattle.interleaving_core.specs.Orders.{Leads}
use Rattle.op_words.specs.declared.closed.Closed.{Closed}
use Rattle.op_words.specs.Journals.{IsJournalOf}
use Rattle.morph_engine.specs.Accounts.{Account}
use Rattle.morph_engine.specs.Runs.{IsJournalledRun, journal_room}
use Rattle.run_checker.specs.declared.checked.Checked.{Checked}
use Rattle.run_checker.specs.declared.checked.Checked.TheVariants.{Yes}
use Rattle.run_checker.specs.Answers.{AreFold, Answers, SettlesWholeFold}
use Rattle.run_checker.proofs.Apart.{answers_agree}
use Rattle.run_checker.proofs.Fold.{fold_yes, yes_fold}
use Rattle.run_text.specs.Notes.{is_cut}
use Rattle.morph_cli.specs.Tallies.{IsChecked}

not_cut : (p : Plan) (js : List CoreEvent) → is_cut p js ≡ false → length js ≢ journal_room p
not_cut p js off same = absurd (true≢false (sym (eq-eqb (length js) (journal_room p) same) ∙ off))

module _ (p : Plan) (closed : Closed) (js : List CoreEvent) (valid : IsPlan p) (kept : IsJournalledRun p Lazy (journal_room p) closed) (journal : IsJournalOf p 1 kept.view.room js kept.ended.ends.core) (few : length js ≤ kept.view.room) where
  -- a journal that is not cut off leads to what the board shows, where all is settled
  whole_leads : is_cut p js ≡ false → Leads p 1 start js kept.ended.ends.core
  whole_leads off =
      let other = not_cut p js off in
      let room = kept.room_is in
      let less : length js < kept.view.room = omega (arith, few, room, other) in
      subst (Leads p 1 start js) (journal.whole less) journal.leads

  -- so the checker's answer is yes
  pub answer_is : (values : List ℕ) → AreFold p values → is_cut p js ≡ false → (r : Checked) → Answers p 1 js values r → r ≡ Yes
  answer_is values fold off r says = answers_agree p 1 js values r Yes says (fold_yes p 1 js kept.ended.ends.core values valid (omega arith) (whole_leads off) kept.settled fold)

-- the journal of an account
module _ (a : Account) (room : ℕ) (core : Core) (js : List CoreEvent) (same : js ≡ a.journal) (journal : IsJournalOf a.plan 1 room js core) where
  checked_by : (is_cut a.plan js ≡ false → SettlesWholeFold a.plan 1 js) → IsChecked a
  checked_by right = record {
    state = journal.state;
    leads = subst (λ es. Leads a.plan 1 start es journal.state) same journal.leads;
    right = subst (λ es. is_cut a.plan es ≡ false → SettlesWholeFold a.plan 1 es) same right;
  }

  -- it is cut off
  pub checked_cut : is_cut a.plan js ≡ true → IsChecked a
  checked_cut cut = checked_by (λ off. absurd (true≢false (sym cut ∙ off)))

  -- or the checker said yes
  pub checked_yes : IsPlan a.plan → (values : List ℕ) → Answers a.plan 1 js values Yes → IsChecked a
  checked_yes valid values says = checked_by (λ off. (yes_fold a.plan 1 js values valid (omega arith) says).0)
