-- What holds between two batches of a run, over plain values.
use Rattle.std.proofs.Common.{◌≡◌, ℕ, ◌+◌, ◌*◌, ◌<◌, ◌≤◌, true, false, List, [], ◌++◌, length, Option, Result, Ok, Err, refl, ap, sym, subst, ◌∙◌, arith}
use Rattle.std.specs.Prelude.{IsTrue, IsErrAnd, IsErrOf}
use Rattle.std.proofs.lemmas.List.Sorted.{length_permutation}
use Rattle.morph_base.specs.declared.limits.TheConstants.{EVENT_OPS, EVENTS}
use Rattle.morph_base.specs.declared.key.Layout.{Layout}
use Rattle.morph_base.specs.declared.batch.Batch.{Batch as TheBatch}
use Rattle.morph_base.specs.Transactions.{Transaction, transactions_of, by_time}
use Rattle.morph_base.specs.States.{State, opening_state, fold_batch}
use Rattle.morph_base.specs.Outcomes.{Fate, fates}
use Rattle.morph_base.specs.Flat.{Kept, contents}
use Rattle.morph_base.specs.Plans.{IsPlan, event_count, op_count}
use Rattle.morph_base.proofs.FateLaws.{length-fates}
use Rattle.morph_base.proofs.NumberLaws.{op_count-small}
use Rattle.morph_base.proofs.TimeLaws.{by_time-permutes}
use Rattle.decision_model.specs.declared.counts.Last.{Last}
use Rattle.morph_engine.specs.Accounts.{Account}
use Rattle.event_reader.specs.declared.fault.ReaderFault.{ReaderFault}
use Rattle.event_reader.specs.declared.fault.ReaderFault.TheVariants.{ReadFault, TooLong as LongInput, OutOfMemory as NoMemory}
use Rattle.event_reader.specs.declared.answers.Next.{Next}
use Rattle.event_reader.specs.declared.answers.Next.TheVariants.{Batch}
use Rattle.event_reader.specs.Accepted.{Accepted}
use Rattle.event_reader.specs.Steps.{Meaning}
use Rattle.event_reader.specs.Reader.{ReaderView, new_reader, accepted_by, TakesBytes, AnswersNext, ShowsNext, ShowsBatch}
use Rattle.run_text.specs.declared.tally.Tally.{Tally}
use Rattle.morph_cli.specs.declared.fault.Fault.{Fault}
use Rattle.morph_cli.specs.declared.fault.Fault.TheVariants.{Write, OutOfMemory as RunMemory}
use Rattle.morph_cli.specs.declared.run.Finish.{Finish}
use Rattle.morph_cli.specs.Faults.{fault_of}
use Rattle.run_text.specs.Reports.{report_of}
use Rattle.run_text.specs.Text.{told_lines, told_values, counts_line}
use Rattle.run_text.specs.Counts.{CountsBatch, HasRoom, no_tally}
use Rattle.morph_cli.specs.Strategies.{strategy_by}
use Rattle.decision_model.specs.Choices.{last_of, no_last}
use Rattle.morph_cli.specs.Tallies.{IsMadeOf, IsSoundAccount}
use Rattle.morph_cli.specs.Outputs.{Outputs, with_both, IsCutIn}
use Rattle.morph_cli.specs.Status.{status_of}
use Rattle.morph_cli.specs.Apps.{telling_by}
use Rattle.run_text.specs.declared.choices.Settings.{Settings}
use Rattle.snapshot_reader.specs.declared.viewer.Total.{Total}
use Rattle.morph_cli.proofs.NoteLaws.{IsAudit, told_note}
use Rattle.morph_cli.proofs.TallyLaws.{last_after, last_is, last_start}
use Rattle.morph_cli.specs.TellerLaws.{at_any}
use Rattle.morph_cli.proofs.TakenBytes.{TakesOn, takes_start, takes_batch}
use Rattle.morph_cli.proofs.OutputLaws.{cut_text}
use Rattle.morph_cli.proofs.RunEnds.{Course, Goes, Ends, IsTold, meaning_in, accepted_in, given_at_start, goes_start, goes_batch, ends_read, ends_long, ends_memory, ends_batch_cut, told_short, told_in_batch}

-- an error of which the value is told
pub error_is : {T E : Type 0} (r : Result T E) (e : E) → IsErrAnd r (λ y. y ≡ e) → r ≡ Err e
error_is (Ok x) e h = absurd h
error_is (Err y) e h = ap Err h

-- the closing text of some values, and that it stands at the end
abbrev pub closing_of : Settings → (name : ℕ → List ℕ) → Kept → Tally → List ℕ
closing_of s name values tally = told_values (report_of s) values.layout name (contents values) ++ counts_line tally.committed tally.aborted

pub closing_last : (s : Settings) (name : ℕ → List ℕ) (values kept : Kept) (tally : Tally) (layout : Layout) → values ≡ kept → kept.layout ≡ layout →
    closing_of s name values tally ≡ told_values (report_of s) layout name (contents kept) ++ counts_line tally.committed tally.aborted
closing_last s name values kept tally layout same is =
    ap (λ v. closing_of s name v tally) same ∙ ap (λ l. told_values (report_of s) l name (contents kept) ++ counts_line tally.committed tally.aborted) is

-- a transaction has one fate
pub fates-many : (s : State) (batch : TheBatch) (told : List Fate) → told ≡ fates s (by_time (transactions_of batch)) → length told ≡ length (transactions_of batch)
fates-many s batch told is =
    let es : List Transaction = transactions_of batch in
    ap length is ∙ length-fates s (by_time es) ∙ length_permutation es (by_time es) (by_time-permutes es)

some_fates : (s : State) (batch : TheBatch) (told : List Fate) → told ≡ fates s (by_time (transactions_of batch)) → 0 < length (transactions_of batch) → 0 < length told
some_fates s batch told is some = let many = fates-many s batch told is in omega (arith, many, some)

-- what is given of a run by its settings, where at most `limit` bytes of the input are read
abbrev pub course_of : {App : Type 0} → (App → ℕ → Meaning) → (tables : ℕ) → (name : ℕ → List ℕ) → App → Settings → (limit : ℕ) → (input : Option (List ℕ)) → Outputs → Course App
course_of event_of tables name app s limit input old = record {
  event_of = event_of;
  app = app;
  size = s.size;
  limit = limit;
  telling = telling_by s.generated tables s.size name;
  settings = s;
  input = input;
  old = old;
}

-- want of memory, and what a fault of the reader is to a run, are no failed write
pub no_write : RunMemory ≡ Write → ⊥
no_write is = absurd (cc)

pub reads_only : (e : ReaderFault) → fault_of e ≡ Write → ⊥
reads_only ReadFault is = absurd (cc)
reads_only LongInput is = absurd (cc)
reads_only NoMemory is = absurd (cc)

module _ {App : Type 0} where
  pub record Between (c : Course App) (left : Option (List ℕ)) (new : Outputs) (r : ReaderView App) (values : Kept) (tally : Tally) (out : List ℕ) (last : Last) : Type 0 where
    pub goes : Goes c (accepted_by c.event_of r left) new (contents values) tally
    pub takes : TakesOn (meaning_in c) c.input left r.past r.lines goes.done
    pub layout : values.layout ≡ c.telling.layout
    pub app_is : r.app ≡ c.app
    pub size_is : r.size ≡ c.size
    pub limit_is : r.lines.limit ≡ c.limit
    pub number : r.lines.number ≤ c.limit + 1
    pub live : IsTrue r.live
    pub kept : out ≡ []
    -- what came of the batch before is at hand
    pub last_is : last ≡ last_after goes.done
    pub counted : tally.committed + tally.aborted ≤ r.lines.number

  abbrev NewFacts : Course App → ReaderView App → Type 0
  NewFacts c r = (r.app ≡ c.app) × (r.size ≡ c.size) × (r.lines.limit ≡ c.limit) × (r.lines.number ≡ 0) × IsTrue r.live

  -- a new reader has all of them still to give
  given_new : (c : Course App) (r : ReaderView App) → r ≡ new_reader c.app c.size c.limit → accepted_in c ≡ accepted_by c.event_of r c.input
  given_new c r new = given_at_start c.event_of c.app c.size c.limit c.input ∙ ap (λ v. accepted_by c.event_of v c.input) (sym new)

  pub between_start : (c : Course App) (r : ReaderView App) (values : Kept) (tally : Tally) (out : List ℕ) (last : Last) (layout : Layout) → r ≡ new_reader c.app c.size c.limit →
      values.layout ≡ layout → layout ≡ c.telling.layout → contents values ≡ opening_state → out ≡ [] → last ≡ no_last → tally ≡ no_tally → Between c c.input c.old r values tally out last
  unfolding goes_start
  between_start c r values tally out last layout new layout_is tables_are opening empty unlast none =
      let facts : NewFacts c r = subst (NewFacts c) (sym new) (refl, refl, refl, refl, refl) in
      record {
        goes = goes_start c (accepted_by c.event_of r c.input) (contents values) tally (given_new c r new) opening none;
        takes = subst (λ v. TakesOn (meaning_in c) c.input c.input v.past v.lines []) (sym new) (takes_start (meaning_in c) c.limit c.input);
        layout = layout_is ∙ tables_are;
        app_is = facts.0;
        size_is = facts.1;
        limit_is = facts.2;
        number = omega (arith, facts.3);
        live = facts.4;
        kept = empty;
        last_is = unlast ∙ last_start;
        counted = let committed = ap (λ (t : Tally). t.committed) none in let aborted = ap (λ (t : Tally). t.aborted) none in omega (arith, facts.3, committed, aborted);
      }

  -- the numbers of the tally have room for one batch more
  pub room_for : {c : Course App} {now : Option Accepted} {new : Outputs} {s : State} {tally : Tally} (a : Account) → Goes c now new s tally →
      tally.committed + tally.aborted ≤ c.limit + 1 → c.limit ≤ 1073741824 → IsPlan a.plan → IsSoundAccount c.settings.workers a → HasRoom tally a
  room_for {c} {now} {new} {s} {tally} a goes told short valid sound =
      let t = goes.tallied in
      let events = t.balanced.events in
      let few_batches : tally.batches ≤ 1073741825 = let batches = t.few_batches in omega (arith, events, batches, told, short) in
      let few_ops : tally.ops ≤ EVENT_OPS * EVENTS * 1073741825 = let ops = t.few_ops in omega (arith, few_batches, ops) in
      let more : op_count a.plan ≤ EVENT_OPS * EVENTS = op_count-small a.plan valid in
      let more_events : event_count a.plan ≤ EVENTS = valid.numbering.few in
      let few = at_any c.settings.workers a sound in
      let evaluated_few = few.0 in
      let rolled_few = few.1 in
      record {
        batches = omega (arith, few_batches);
        events = omega (arith, events, told, short, more_events);
        counts = omega (arith, told, short, more_events);
        ops = omega (arith, few_ops, more);
        evaluated = let old = t.balanced.evaluated in omega (arith, few_ops, more, old, evaluated_few);
        spread = let old = t.balanced.evaluated in omega (arith, few_ops, more, old, evaluated_few);
        rolled = let old = t.balanced.rolled in omega (arith, few_ops, more, old, rolled_few);
        workers = t.counts.workers;
        settled = let old = t.balanced.settled in let added = sound.each in omega (arith, few_ops, more, old, added);
      }

  pub has_room : {c : Course App} {left : Option (List ℕ)} {new : Outputs} {r : ReaderView App} {values : Kept} {tally : Tally} {out : List ℕ} {last : Last} (a : Account) →
      Between c left new r values tally out last → c.limit ≤ 1073741824 → IsPlan a.plan → IsSoundAccount c.settings.workers a → HasRoom tally a
  has_room a b short valid sound = let counted = b.counted in let number = b.number in room_for a b.goes (omega (arith, counted, number)) short valid sound

  pub meaning_is : (c : Course App) (r : ReaderView App) → r.app ≡ c.app → r.size ≡ c.size → c.event_of r.app r.size ≡ meaning_in c
  meaning_is c r app_is size_is = ap (λ a. c.event_of a r.size) app_is ∙ ap (c.event_of c.app) size_is

  pub between_batch : {c : Course App} {left left' : Option (List ℕ)} {new newer : Outputs} {r r' : ReaderView App} {values values' : Kept} {tally tally' : Tally} {out out' : List ℕ} {last last' : Last}
      (batch : TheBatch) (told : List Fate) (a : Account) (audit : Option Total) → Between c left new r values tally out last →
      AnswersNext (accepted_by c.event_of r left) (Ok (Batch batch)) (accepted_by c.event_of r' left') →
      TakesBytes left left' (ShowsNext c.event_of r (Ok (Batch batch)) r') →
      0 < length (transactions_of batch) → r.lines.number + length (transactions_of batch) ≤ r'.lines.number → r'.lines.number ≤ r'.lines.limit + 1 →
      (r'.app ≡ r.app) × (r'.size ≡ r.size) × (r'.lines.limit ≡ r.lines.limit) →
      (r'.lines.ended ≡ false → r.lines.ended ≡ false) → r'.live ≡ true → values'.layout ≡ values.layout →
      contents values' ≡ fold_batch batch (contents values) → told ≡ fates (contents values) (by_time (transactions_of batch)) →
      newer ≡ with_both new (told_lines c.telling.report told) (told_note c.settings tally'.batches audit a) → out' ≡ [] → IsAudit c.settings (contents values) tally.batches audit a →
      CountsBatch tally tally' a told → IsSoundAccount c.settings.workers a → IsMadeOf (contents values) (transactions_of batch) a.plan → a.strategy ≡ strategy_by c.settings.planning a.plan last →
      last' ≡ last_of told → Between c left' newer r' values' tally' out' last'
  unfolding goes_batch
  between_batch {c} {left} {left'} {new} {newer} {r} {r'} {values} {values'} {tally} {tally'} {out} {out'} {last} {last'} batch told a audit b answers shows some counted bound same unended live layout_is
      state fates_are written empty seen adds sound made chosen last_told = record {
        goes = goes_batch c _ (accepted_by c.event_of r' left') new newer (contents values) (contents values') tally tally' (transactions_of batch) told a audit b.goes some answers
            state fates_are written seen adds sound made (chosen ∙ ap (strategy_by c.settings.planning a.plan) b.last_is) (some_fates (contents values) batch told fates_are some);
        takes = takes_batch (meaning_in c) c.input left left' r.past r'.past r.lines r'.lines b.goes.done batch b.takes some unended
            (subst (λ m. TakesBytes left left' (ShowsBatch m r.past r.lines (Ok (Batch batch)) r'.past r'.lines)) (meaning_is c r b.app_is b.size_is) shows);
        layout = layout_is ∙ b.layout;
        app_is = same.0 ∙ b.app_is;
        size_is = same.1 ∙ b.size_is;
        limit_is = same.2 ∙ b.limit_is;
        number = let l = same.2 in omega (arith, b.limit_is);
        live = live;
        kept = empty;
        last_is = last_told ∙ last_is b.goes.done (transactions_of batch) told (fates_are ∙ ap (λ s. fates s (by_time (transactions_of batch))) b.goes.runs.state);
        counted = let n = fates-many (contents values) batch told fates_are in let before = b.counted in let all = adds.both in omega (arith, n, before, all, counted);
      }

  -- memory was refused before the first batch
  pub ends_at_once : {x : Result Finish Fault} (c : Course App) (left' : Option (List ℕ)) (tally : Tally) → x ≡ Err RunMemory → tally ≡ no_tally → Ends c left' x c.old
  ends_at_once c left' tally failed none = ends_memory left' failed (goes_start c (accepted_in c) opening_state tally refl refl none)

  pub told_at_once : {x : Result Finish Fault} (c : Course App) (tally : Tally) → x ≡ Err RunMemory → tally ≡ no_tally → IsTold c (status_of x) tally c.old
  told_at_once c tally failed none = told_short RunMemory failed (λ is. absurd (cc)) (goes_start c (accepted_in c) opening_state tally refl refl none)

  -- the reader failed
  pub ends_fault : {c : Course App} {left : Option (List ℕ)} {new : Outputs} {r : ReaderView App} {values : Kept} {tally : Tally} {out : List ℕ} {last : Last} {x : Result Finish Fault}
      (left' : Option (List ℕ)) (r' : ReaderView App) (e : ReaderFault) → x ≡ Err (fault_of e) → Between c left new r values tally out last →
      AnswersNext (accepted_by c.event_of r left) (Err e) (accepted_by c.event_of r' left') →
      TakesBytes left left' (ShowsNext c.event_of r (Err e) r') → (IsErrOf {T = Next} (Err e) ReadFault → r.lines.ended ≡ false) → Ends c left' x new
  ends_fault {c} {left} {new} {r} {values} {tally} {out} {last} {x} left' r' e failed b answers shows asked = subst (λ y. Ends c left' y new) (sym failed) (by_fault e answers shows asked)
    where
      by_fault : (e : ReaderFault) → AnswersNext (accepted_by c.event_of r left) (Err e) (accepted_by c.event_of r' left') →
          TakesBytes left left' (ShowsNext c.event_of r (Err e) r') → (IsErrOf {T = Next} (Err e) ReadFault → r.lines.ended ≡ false) → Ends c left' (Err (fault_of e)) new
      by_fault ReadFault answers shows asked =
          ends_read c _ new (contents values) tally left left' r.past r.lines b.goes b.takes (asked refl)
          (subst (λ m. TakesBytes left left' (ShowsBatch m r.past r.lines (Err ReadFault) r'.past r'.lines)) (meaning_is c r b.app_is b.size_is) shows)
      by_fault LongInput answers shows asked = ends_long c _ new (contents values) tally left' b.goes answers
      by_fault NoMemory answers shows asked = ends_memory left' refl b.goes

  pub told_fault : {c : Course App} {left : Option (List ℕ)} {new : Outputs} {r : ReaderView App} {values : Kept} {tally : Tally} {out : List ℕ} {last : Last} {x : Result Finish Fault}
      (e : ReaderFault) → x ≡ Err (fault_of e) → Between c left new r values tally out last → IsTold c (status_of x) tally new
  told_fault e failed b = told_short (fault_of e) failed (reads_only e) b.goes

  -- writing failed in a batch
  pub ends_in_batch : {c : Course App} {left : Option (List ℕ)} {new : Outputs} {r : ReaderView App} {values : Kept} {tally : Tally} {out : List ℕ} {last : Last} {x : Result Finish Fault}
      (left' : Option (List ℕ)) (newer : Outputs) (r' : ReaderView App) (batch : TheBatch) (told : List Fate) (note : List ℕ) → x ≡ Err Write → Between c left new r values tally out last →
      AnswersNext (accepted_by c.event_of r left) (Ok (Batch batch)) (accepted_by c.event_of r' left') → 0 < length (transactions_of batch) →
      told ≡ fates (contents values) (by_time (transactions_of batch)) → IsCutIn new (told_lines c.telling.report told) note newer → Ends c left' x newer
  ends_in_batch {c} {left} {new} {r} {values} {tally} {out} {last} {x} left' newer r' batch told note failed b answers some fates_are cut =
      ends_batch_cut (accepted_by c.event_of r' left') left' newer (transactions_of batch) told failed b.goes some answers fates_are
      (cut_text new (told_lines c.telling.report told) note newer cut)

  pub told_cut_in_batch : {c : Course App} {left : Option (List ℕ)} {new : Outputs} {r : ReaderView App} {values : Kept} {tally tally' : Tally} {out : List ℕ} {last : Last} {x : Result Finish Fault}
      (left' : Option (List ℕ)) (newer : Outputs) (r' : ReaderView App) (batch : TheBatch) (told : List Fate) (a : Account) (audit : Option Total) → x ≡ Err Write → Between c left new r values tally out last →
      AnswersNext (accepted_by c.event_of r left) (Ok (Batch batch)) (accepted_by c.event_of r' left') → 0 < length (transactions_of batch) →
      told ≡ fates (contents values) (by_time (transactions_of batch)) →
      CountsBatch tally tally' a told → IsSoundAccount c.settings.workers a → IsMadeOf (contents values) (transactions_of batch) a.plan → a.strategy ≡ strategy_by c.settings.planning a.plan last →
      IsAudit c.settings (contents values) tally.batches audit a → IsCutIn new (told_lines c.telling.report told) (told_note c.settings tally'.batches audit a) newer → IsTold c (status_of x) tally' newer
  told_cut_in_batch {c} {left} {new} {r} {values} {tally} {tally'} {out} {last} {x} left' newer r' batch told a audit failed b answers some fates_are adds sound made chosen seen cut =
      told_in_batch (accepted_by c.event_of r' left') newer (transactions_of batch) audit failed b.goes answers some fates_are
      adds sound made (chosen ∙ ap (strategy_by c.settings.planning a.plan) b.last_is) (some_fates (contents values) batch told fates_are some) seen cut
