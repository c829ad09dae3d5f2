-- The calls of a reader, one more.
use Rattle.std.proofs.Common.{◌≡◌, ℕ, true, List, Option, Result, refl, ap, subst, ◌∙◌}
use Rattle.morph_io.specs.declared.source.ReadFailed.{ReadFailed}
use Rattle.event_reader.specs.declared.answers.Next.{Next}
use Rattle.event_reader.specs.declared.fault.ReaderFault.{ReaderFault}
use Rattle.event_reader.specs.SourceReads.{read_state, line_state, AsksForBatch, AsksForNext}
use Rattle.event_reader.specs.Reader.{ReaderView, ShowsBatch, ShowsNext, TakesBytes, goes_on, new_lines, no_past}
use Rattle.event_reader.specs.Steps.{Meaning}
use Rattle.morph_cli.specs.Calls.{AsksForBatches, no_call, one_call, IsReadBy}
use Rattle.morph_cli.specs.Headline.{input_limit}

module _ {S App : Type 0} (left_of : S → Option (List ℕ)) (reads : S → ℕ → Result ℕ ReadFailed → S → Type 0) (event_of : App → ℕ → Meaning) (app : App) (size : ℕ) (source₀ : S) where
  -- calls so far, after which the reader may be asked again
  pub record Called (r : ReaderView App) (source : S) : Type 0 where
    pub app_is : r.app ≡ app
    pub size_is : r.size ≡ size
    pub calls : AsksForBatches left_of reads (event_of app size) no_past (new_lines input_limit) source₀ r.past r.lines true source

  same_meaning : (r : ReaderView App) → r.app ≡ app → r.size ≡ size → event_of r.app r.size ≡ event_of app size
  same_meaning r app_is size_is = ap (λ a. event_of a r.size) app_is ∙ ap (event_of app) size_is

  one_more : (r r' : ReaderView App) (source source' : S) (answer : Result Next ReaderFault) → Called r source → AsksForNext left_of reads event_of r source answer r' source'
      → TakesBytes (left_of source) (left_of source') (ShowsNext event_of r answer r')
      → AsksForBatches left_of reads (event_of app size) no_past (new_lines input_limit) source₀ r'.past r'.lines (goes_on answer) source'
  one_more r r' source source' answer h asks shows =
      let same = same_meaning r h.app_is h.size_is in
      one_call r.past r'.past r.lines r'.lines source source' answer h.calls
      (subst (λ m. AsksForBatch left_of reads m (read_state r.past r.lines source) answer (line_state r'.lines source')) same asks)
      (subst (λ m. TakesBytes (left_of source) (left_of source') (ShowsBatch m r.past r.lines answer r'.past r'.lines)) same shows)

  -- with the last call
  pub read_by : (r r' : ReaderView App) (source source' : S) (answer : Result Next ReaderFault) → Called r source → AsksForNext left_of reads event_of r source answer r' source'
      → TakesBytes (left_of source) (left_of source') (ShowsNext event_of r answer r') → IsReadBy left_of reads (event_of app size) source₀ source'
  read_by r r' source source' answer h asks shows = record { past = r'.past; lines = r'.lines; live = goes_on answer; calls = one_more r r' source source' answer h asks shows }

  -- with a call that gave a batch
  pub called_more : (r r' r'' : ReaderView App) (source source' : S) (answer : Result Next ReaderFault) → goes_on answer ≡ true → r'' ≡ r' → (r'.app ≡ r.app) → r'.size ≡ r.size → Called r source
      → AsksForNext left_of reads event_of r source answer r' source' → TakesBytes (left_of source) (left_of source') (ShowsNext event_of r answer r') → Called r'' source'
  called_more r r' r'' source source' answer goes same same_app same_size h asks shows =
      rw same record {
        app_is = same_app ∙ h.app_is;
        size_is = same_size ∙ h.size_is;
        calls = subst (λ live. AsksForBatches left_of reads (event_of app size) no_past (new_lines input_limit) source₀ r'.past r'.lines live source') goes (one_more r r' source source' answer h asks shows);
      }

  pub called_nothing : (r : ReaderView App) → r ≡ record { app = app; size = size; past = no_past; lines = new_lines input_limit; live = true } → Called r source₀
  called_nothing r is = rw is record { app_is = refl; size_is = refl; calls = no_call }

-- a source that was not read
pub unread_by : {S : Type 0} (left_of : S → Option (List ℕ)) (reads : S → ℕ → Result ℕ ReadFailed → S → Type 0) (meaning : Meaning) (source : S) → IsReadBy left_of reads meaning source source
unread_by left_of reads meaning source = record { past = no_past; lines = new_lines input_limit; live = true; calls = no_call }
