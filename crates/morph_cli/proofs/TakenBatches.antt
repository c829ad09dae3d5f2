-- A batch that is taken between two others: what holds behind it, and how a run ends in it.
use Rattle.std.proofs.Common.{◌≡◌, inl, inr, ℕ, ◌+◌, ◌^◌, ◌<◌, ◌≤◌, true, false, List, [], length, Option, Result, Ok, Err, refl, ap, sym, subst, ◌∙◌, arith}
use Rattle.std.specs.Prelude.{IfSome, IsErrOf, IsSome, IsTrue}
use Rattle.morph_base.specs.declared.batch.Batch.{Batch as TheBatch}
use Rattle.morph_base.specs.Transactions.{transactions_of}
use Rattle.morph_base.specs.States.{after_all, fold_batch}
use Rattle.morph_base.specs.Flat.{Kept, contents}
use Rattle.decision_model.specs.declared.counts.Last.{Last}
use Rattle.morph_engine.specs.Accounts.{account_of}
use Rattle.morph_engine.specs.Fates.{settled_fates}
use Rattle.event_reader.specs.declared.answers.Next.TheVariants.{Batch}
use Rattle.event_reader.specs.Reader.{ReaderView, accepted_by, AnswersNext, ShowsNext, TakesBytes}
use Rattle.run_text.specs.declared.choices.Settings.{Settings}
use Rattle.run_text.specs.declared.tally.Tally.{Tally}
use Rattle.run_text.specs.Reports.{report_of}
use Rattle.run_text.specs.Text.{told_lines}
use Rattle.snapshot_reader.specs.Steady.{Posted}
use Rattle.morph_cli.specs.declared.fault.Fault.{Fault}
use Rattle.morph_cli.specs.declared.fault.Fault.TheVariants.{Read, Write, OutOfMemory as NoMemory, TooLong}
use Rattle.morph_cli.specs.declared.run.Finish.{Finish}
use Rattle.morph_cli.specs.Batches.{IsShown, RunPoint, run_point, IsBatchTaken, IsTakenWhole, TakesBatch, TellsBatch, also_posted, note_of_batch}
use Rattle.morph_cli.specs.Outputs.{Outputs, with_both, IsCutIn}
use Rattle.morph_cli.specs.Status.{status_of}
use Rattle.morph_cli.specs.Strategies.{strategy_by}
use Rattle.morph_cli.proofs.RunPoints.{Between, between_batch, ends_in_batch, fates-many, no_write, told_cut_in_batch}
use Rattle.morph_cli.proofs.RunEnds.{Course, Goes, Ends, IsTold, ends_memory, goes_batch, told_short}
use Rattle.morph_cli.proofs.NoteLaws.{IsAudit}
use Rattle.morph_cli.proofs.Watches.{audit_is, shown_more, watch_still}

-- the same error, whatever else an answer may be
pub error_same : {T U E : Type 0} (e f : E) → IsErrOf {T = T} (Err e) f → IsErrOf {T = U} (Err e) f
error_same e f is = ap Err (error_value e f is)
  where
    error_value : {T E : Type 0} (e f : E) → IsErrOf {T = T} (Err e) f → e ≡ f
    error_value e f is = cc

pub error_as : {T U E F : Type 0} (f : E → F) (e e' : E) → IsErrOf {T = T} (Err e) e' → IsErrOf {T = U} (Err (f e)) (f e')
error_as f e e' is = ap (λ x. Err (f x)) (error_value e e' is)
  where
    error_value : {T E : Type 0} (e f : E) → IsErrOf {T = T} (Err e) f → e ≡ f
    error_value e f is = cc

-- there is room for the number of one batch more
pub few_batches : {App : Type 0} {c : Course App} {left : Option (List ℕ)} {new : Outputs} {r : ReaderView App} {values : Kept} {tally : Tally} {out : List ℕ} {last : Last} →
    Between c left new r values tally out last → c.limit ≤ 1073741824 → tally.batches + 1 < 2 ^ 64
few_batches b short =
    let t = b.goes.tallied in
    let events = t.balanced.events in
    let batches = t.few_batches in
    let counted = b.counted in
    let number = b.number in
    omega (arith, events, batches, counted, number, short)

-- a batch that was run, and then told so, was taken so
module _ {s : Settings} {batch : TheBatch} (before after : RunPoint) (values : Kept) (posted : Option Posted)
    (taken : IsBatchTaken s batch before after.tally) (state : contents after.values ≡ fold_batch batch (contents before.values)) (same : posted ≡ before.posted) where
  pub takes_told : (x : Result (Unit {0}) Fault) → TellsBatch x s taken.end taken.audit (record before { values = values; posted = posted }) after → TakesBatch x s batch before after
  takes_told (Ok done) tells = (record { taken = taken; state = state; written = tells.0 }, tells.1, tells.2 ∙ ap (also_posted taken.end.plan) same)
  takes_told (Err Write) tells = (taken, tells)
  takes_told (Err NoMemory) tells = inr (record { taken = taken; state = state; written = tells })
  takes_told (Err Read) tells = absurd tells
  takes_told (Err TooLong) tells = absurd tells

-- the same holds of an equal reader
pub between_same : {App : Type 0} {c : Course App} {left : Option (List ℕ)} {new : Outputs} {r r' : ReaderView App} {values : Kept} {tally : Tally} {out : List ℕ} {last : Last} →
    r' ≡ r → Between c left new r values tally out last → Between c left new r' values tally out last
between_same {App} {c} {left} {new} {r} {r'} {values} {tally} {out} {last} same b = subst (λ v. Between c left new v values tally out last) (sym same) b

-- the source is not asked in it
pub never_read : {x : Result Finish Fault} (s : Settings) (batch : TheBatch) (before after : RunPoint) (e : Fault) → x ≡ Err e → x ≡ Err Read → TakesBatch {T = Unit {0}} (Err e) s batch before after → ⊥
never_read s batch before after Read is read takes = takes
never_read s batch before after Write is read takes = absurd (let same = sym is ∙ read in cc)
never_read s batch before after NoMemory is read takes = absurd (let same = sym is ∙ read in cc)
never_read s batch before after TooLong is read takes = absurd (let same = sym is ∙ read in cc)

module _ {App : Type 0} {c : Course App} {left : Option (List ℕ)} {new : Outputs} {r : ReaderView App} {values : Kept} {tally : Tally} {out : List ℕ} {last : Last}
    (left' : Option (List ℕ)) (r' : ReaderView App) (posted : Option Posted) (batch : TheBatch) (b : Between c left new r values tally out last) (report : report_of c.settings ≡ c.telling.report) (size : c.telling.layout.size ≡ c.settings.size)
    (shown : IfSome posted (IsShown values.layout tally.batches (contents values))) (watch : IsSome posted → IsTrue c.settings.watch)
    (answers : AnswersNext (accepted_by c.event_of r left) (Ok (Batch batch)) (accepted_by c.event_of r' left')) (some : 0 < length (transactions_of batch)) where
  abbrev here : RunPoint
  here = run_point last values posted tally new

  -- what was seen beside it is the audit of the values before it
  audit_taken : {tally' : Tally} (t : IsBatchTaken c.settings batch here tally') → IsAudit c.settings (contents values) tally.batches t.audit (account_of t.end)
  audit_taken t = audit_is values.layout tally.batches (contents values) c.settings posted t.audit (account_of t.end) shown watch (ap (λ (l : _). l.size) b.layout ∙ size) t.seen t.ran.checked

  some_told : {tally' : Tally} (t : IsBatchTaken c.settings batch here tally') → 0 < length (settled_fates t.end.plan t.end.settled)
  some_told t = let many = fates-many (contents values) batch (settled_fates t.end.plan t.end.settled) t.ran.fates_are in omega (arith, many, some)

  -- a write failed in it
  cut_taken : {tally' : Tally} {newer : Outputs} (t : IsBatchTaken c.settings batch here tally') →
      IsCutIn new (told_lines (report_of c.settings) (settled_fates t.end.plan t.end.settled)) (note_of_batch c.settings tally'.batches t.audit t.end) newer →
      IsCutIn new (told_lines c.telling.report (settled_fates t.end.plan t.end.settled)) (note_of_batch c.settings tally'.batches t.audit t.end) newer
  cut_taken {tally'} {newer} t cut = subst (λ q. IsCutIn new (told_lines q (settled_fates t.end.plan t.end.settled)) (note_of_batch c.settings tally'.batches t.audit t.end) newer) report cut

  -- it was written and noted
  written_so : {after : RunPoint} (w : IsTakenWhole c.settings batch here after) →
      after.outputs ≡ with_both new (told_lines c.telling.report (settled_fates w.taken.end.plan w.taken.end.settled)) (note_of_batch c.settings after.tally.batches w.taken.audit w.taken.end)
  written_so {after} w = let t = w.taken in w.written ∙ ap (λ q. with_both new (told_lines q (settled_fates t.end.plan t.end.settled)) (note_of_batch c.settings after.tally.batches t.audit t.end)) report

  goes_taken : {after : RunPoint} → IsTakenWhole c.settings batch here after → Goes c (accepted_by c.event_of r' left') after.outputs (contents after.values) after.tally
  goes_taken {after} w =
      let t = w.taken in
      goes_batch c _ (accepted_by c.event_of r' left') new after.outputs (contents values) (contents after.values) tally after.tally (transactions_of batch) (settled_fates t.end.plan t.end.settled) (account_of t.end) t.audit b.goes some answers
      w.state t.ran.fates_are (written_so w) (audit_taken t) t.adds t.ran.account t.ran.made (t.ran.strategy ∙ ap (strategy_by c.settings.planning t.end.plan) b.last_is) (some_told t)

  -- how a run ends in it
  pub ends_taken : {x : Result Finish Fault} (after : RunPoint) (e : Fault) → x ≡ Err e → TakesBatch {T = Unit {0}} (Err e) c.settings batch here after → Ends c left' x after.outputs
  ends_taken after Read failed takes = absurd takes
  ends_taken after Write failed takes =
      let t = takes.0 in ends_in_batch left' after.outputs r' batch (settled_fates t.end.plan t.end.settled) _ failed b answers some t.ran.fates_are (cut_taken t takes.1)
  ends_taken {x} after NoMemory failed (inl none) = subst (Ends c left' x) (sym none.0) (ends_memory left' failed b.goes)
  ends_taken after NoMemory failed (inr w) = ends_memory left' failed (goes_taken w)
  ends_taken after TooLong failed takes = absurd takes

  pub told_taken : {x : Result Finish Fault} (after : RunPoint) (e : Fault) → x ≡ Err e → TakesBatch {T = Unit {0}} (Err e) c.settings batch here after → IsTold c (status_of x) after.tally after.outputs
  told_taken after Read failed takes = absurd takes
  told_taken after Write failed takes =
      let t = takes.0 in
      told_cut_in_batch left' after.outputs r' batch (settled_fates t.end.plan t.end.settled) (account_of t.end) t.audit failed b answers some t.ran.fates_are t.adds t.ran.account t.ran.made t.ran.strategy
      (audit_taken t) (cut_taken t takes.1)
  told_taken {x} after NoMemory failed (inl none) =
      subst (IsTold c (status_of x) after.tally) (sym none.0) (subst (λ q. IsTold c (status_of x) q new) (sym none.1) (told_short NoMemory failed no_write b.goes))
  told_taken after NoMemory failed (inr w) = told_short NoMemory failed no_write (goes_taken w)
  told_taken after TooLong failed takes = absurd takes

  -- and what holds behind it
  pub between_taken : (u : Unit {0}) (after : RunPoint) (out' : List ℕ) → TakesBatch (Ok u) c.settings batch here after →
      TakesBytes left left' (ShowsNext c.event_of r (Ok (Batch batch)) r') → r.lines.number + length (transactions_of batch) ≤ r'.lines.number → r'.lines.number ≤ r'.lines.limit + 1 →
      (r'.app ≡ r.app) × (r'.size ≡ r.size) × (r'.lines.limit ≡ r.lines.limit) →
      (r'.lines.ended ≡ false → r.lines.ended ≡ false) → r'.live ≡ true → after.values.layout ≡ values.layout → out' ≡ [] →
      Between c left' after.outputs r' after.values after.tally out' after.last
  between_taken u after out' takes shows counted bound same unended live layout_is empty =
      let w = takes.0 in
      let t = w.taken in
      between_batch batch (settled_fates t.end.plan t.end.settled) (account_of t.end) t.audit b answers shows some counted bound same unended live layout_is w.state t.ran.fates_are
      (written_so w) empty (audit_taken t) t.adds t.ran.account t.ran.made t.ran.strategy takes.1

  pub shown_taken : (u : Unit {0}) (after : RunPoint) → TakesBatch (Ok u) c.settings batch here after → after.values.layout ≡ values.layout → IfSome after.posted (IsShown after.values.layout after.tally.batches (contents after.values))
  shown_taken u after takes layout_is =
      let w = takes.0 in
      let t = w.taken in
      shown_more values.layout tally.batches (contents values) posted posted after.posted t.end.plan after.values.layout after.tally.batches (contents after.values) shown refl takes.2 layout_is t.adds.batches
      (w.state ∙ ap (after_all (contents values)) (sym t.ran.made.events))

  pub watch_taken : (u : Unit {0}) (after : RunPoint) → TakesBatch (Ok u) c.settings batch here after → IsSome after.posted → IsTrue c.settings.watch
  watch_taken u after takes = watch_still posted posted after.posted takes.0.taken.end.plan refl takes.2 watch
