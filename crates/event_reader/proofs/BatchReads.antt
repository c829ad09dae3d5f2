-- Reads one after another for a batch, line by line.
use Rattle.std.proofs.Common.{◌≡◌, ℕ, ◌+◌, ◌-◌, Bool, true, false, List, [], ◌∷◌, ◌++◌, length, refl, sym, ◌∙◌, ap, subst, arith, append_assoc, append-nil, length-append, Option, Result, Ok, ◌⊎◌, inl, inr}
use Rattle.std.specs.Prelude.{◌==◌, nat_le, fold, if◌then◌else◌, IfOk, option_map}
use Rattle.std.specs.List.{All}
use Rattle.std.proofs.lemmas.Bool.Decides.{nat_tests}
use Rattle.std.proofs.lemmas.List.{append_cancel_left}
use Rattle.std.proofs.lemmas.List.Sums.{fold-append}
use Rattle.std.proofs.lemmas.List.Elements.{All-nil, All-cons, All-head, All-tail}
use Rattle.morph_base.specs.Transactions.{Transaction}
use Rattle.morph_io.specs.Told.{ahead, ahead_ahead}
use Rattle.morph_io.specs.declared.source.ReadFailed.{ReadFailed}
use Rattle.event_reader.specs.Limits.{deciding_bytes}
use Rattle.event_reader.specs.declared.answers.LineNext.{LineNext}
use Rattle.event_reader.specs.declared.answers.LineNext.TheVariants.{Line}
use Rattle.event_reader.specs.declared.fault.ReaderFault.{ReaderFault}
use Rattle.event_reader.specs.Lines.{is_line_feed, behind_last_feed, decided_lines, Reading, front, with_line}
use Rattle.event_reader.specs.declared.past.Past.{Past}
use Rattle.event_reader.specs.declared.version.Version.{Version}
use Rattle.event_reader.specs.Steps.{Meaning}
use Rattle.event_reader.specs.Accepted.{accepted_behind}
use Rattle.event_reader.specs.Reader.{LinesView, reading_of}
use Rattle.event_reader.specs.SourceReads.{read_state, line_state, read_piece, read_room, AsksOnce, ReadsInOrder, no_read, one_more, AsksForLine, AsksBatch, not_yet, once_more, AsksForBatch}
use Rattle.event_reader.proofs.Pieces.{line_at}
use Rattle.event_reader.proofs.BatchAnswers.{Reads, reads_nothing, shows_failed, reads_as, reads_line, reads_more}

-- bytes have no LF, or a first one
abbrev IsFree : List ℕ → Type 0
IsFree bytes = All (λ b. is_line_feed b ≡ false) bytes

record CutsAt (bytes : List ℕ) : Type 0 where
  before : List ℕ
  rest : List ℕ
  free : IsFree before
  is : bytes ≡ before ++ 10 ∷ rest

cuts : (bytes : List ℕ) → IsFree bytes ⊎ CutsAt bytes
cuts [] = inl (All-nil (λ b. is_line_feed b ≡ false))
cuts (b ∷ bytes) = by_test (b == 10) refl (cuts bytes)
  where
    by_test : (t : Bool) → (b == 10) ≡ t → IsFree bytes ⊎ CutsAt bytes → IsFree (b ∷ bytes) ⊎ CutsAt (b ∷ bytes)
    by_test true is rest =
        let same : b ≡ 10 = grind (arith, nat_tests) in
        inr (record { before = []; rest = bytes; free = All-nil (λ b. is_line_feed b ≡ false); is = ap (λ c. c ∷ bytes) same })
    by_test false is (inl free) = inl (All-cons (λ b. is_line_feed b ≡ false) b bytes is free)
    by_test false is (inr cut) = inr (record {
      before = b ∷ cut.before;
      rest = cut.rest;
      free = All-cons (λ b. is_line_feed b ≡ false) b cut.before is cut.free;
      is = ap (λ bytes. b ∷ bytes) cut.is;
    })

-- without an LF all of them stand behind the last
all_behind : (front bytes : List ℕ) → All (λ b. is_line_feed b ≡ false) bytes
    → fold (λ behind b. if is_line_feed b then [] else behind ++ b ∷ []) front bytes ≡ front ++ bytes
all_behind front [] none = sym (append-nil front)
all_behind front (b ∷ bytes) none =
    ap (λ t. fold (λ behind b. if is_line_feed b then [] else behind ++ b ∷ []) (if t then [] else front ++ b ∷ []) bytes)
    (All-head (λ b. is_line_feed b ≡ false) b bytes none)
    ∙ all_behind (front ++ b ∷ []) bytes (All-tail (λ b. is_line_feed b ≡ false) b bytes none)
    ∙ append_assoc front (b ∷ []) bytes

-- bytes that decide no line have no LF
none_decided : (bytes : List ℕ) → decided_lines bytes ≡ [] → behind_last_feed bytes ≡ bytes
none_decided bytes none = by_cut (cuts bytes)
  where
    by_cut : IsFree bytes ⊎ CutsAt bytes → behind_last_feed bytes ≡ bytes
    by_cut (inl free) = all_behind [] bytes free
    by_cut (inr cut) =
        let line = line_at (λ piece. nat_le deciding_bytes (length piece)) cut.before cut.rest cut.free in
        let decided = ap decided_lines cut.is in
        absurd (cc)

-- behind whole lines
behind_whole : (used bytes : List ℕ) → behind_last_feed used ≡ [] → behind_last_feed (used ++ bytes) ≡ behind_last_feed bytes
behind_whole used bytes whole =
    fold-append (λ behind b. if is_line_feed b then [] else behind ++ b ∷ []) [] used bytes
    ∙ ap (λ behind. fold (λ behind b. if is_line_feed b then [] else behind ++ b ∷ []) behind bytes) whole

module _ {S : Type 0} (left_of : S → Option (List ℕ)) (reads : S → ℕ → Result ℕ ReadFailed → S → Type 0) (m : Meaning) (past : Past) (before : LinesView) (source₀ : S) where
  abbrev Chain : List ℕ → Bool → S → Type 0
  Chain got last source = AsksBatch left_of reads m past before source₀ got last source

  -- what it has read, by which reads, and what it keeps of it
  pub record AskedTo (v : Version) (batch : List Transaction) (now : LinesView) (source : S) : Type 0 where
    pub has_read : Reads m past before (left_of source₀) v batch now (left_of source)
    pub asked : AsksBatch left_of reads m past before source₀ has_read.got now.ended source
    pub room : before.limit - before.taken - length has_read.got ≡ now.limit - now.taken
    pub behind : now.ended ≡ false → (used : List ℕ) × (before.kept ++ has_read.got ≡ used ++ now.kept) × (behind_last_feed used ≡ [])

  pub asked_from : (batch : List Transaction) → batch ≡ [] → AskedTo past.version batch before source₀
  unfolding reads_nothing
  asked_from batch none = rw none record {
    has_read = reads_nothing m past before (left_of source₀);
    asked = not_yet;
    room = omega arith;
    behind = λ unended. ([], append-nil before.kept, refl);
  }

  -- the reads for a line go on with those for the batch
  record Follows (got : List ℕ) (now : LinesView) (kept : List ℕ) (room : ℕ) (last : Bool) (source : S) : Type 0 where
    more : List ℕ
    is : kept ≡ now.kept ++ more
    left : before.limit - before.taken - length (got ++ more) ≡ room
    unended : last ≡ false → now.ended ≡ false
    chain : Chain (got ++ more) last source

  same_once : (n n' r r' : ℕ) (source : S) (bytes : List ℕ) (last : Bool) (source' : S) → n ≡ n' → r ≡ r'
      → AsksOnce left_of reads (read_room n r) source (read_piece bytes last) source' → AsksOnce left_of reads (read_room n' r') source (read_piece bytes last) source'
  same_once n n' r r' source bytes last source' e f h = rw (e, f) at h

  follows : (v : Version) (batch : List Transaction) (now : LinesView) (source : S) (h : AskedTo v batch now source) (kept : List ℕ) (room : ℕ) (last : Bool) (source' : S)
      → ReadsInOrder left_of reads now.kept (now.limit - now.taken) now.ended source kept room last source'
      → Follows h.has_read.got now kept room last source'
  follows v batch now source h _ _ _ _ no_read = record {
    more = [];
    is = sym (append-nil now.kept);
    left = ap (λ got. before.limit - before.taken - length got) (append-nil h.has_read.got) ∙ h.room;
    unended = λ e. e;
    chain = subst (λ got. Chain got now.ended source) (sym (append-nil h.has_read.got)) h.asked;
  }
  follows v batch now source h _ _ _ _ (one_more kept bytes room last s s' asks none once) =
      let f = follows v batch now source h kept room false s asks in
      let unended = f.unended refl in
      let open_front : front (now.kept ++ f.more) ≡ record { lines = []; cut = true }
      = ap (λ lines. record { lines = lines; cut = true }) (ap decided_lines (sym f.is) ∙ none) in
      let part = h.behind unended in
      let split : before.kept ++ (h.has_read.got ++ f.more) ≡ part.0 ++ kept
      = sym (append_assoc before.kept h.has_read.got f.more) ∙ ap (λ bytes. bytes ++ f.more) part.1
      ∙ append_assoc part.0 now.kept f.more ∙ ap (λ bytes. part.0 ++ bytes) (sym f.is) in
      let tail : behind_last_feed (before.kept ++ (h.has_read.got ++ f.more)) ≡ kept
      = ap behind_last_feed split ∙ behind_whole part.0 kept part.2 ∙ none_decided kept none in
      record {
        more = f.more ++ bytes;
        is = ap (λ front. front ++ bytes) f.is ∙ append_assoc now.kept f.more bytes;
        left = ap (λ got. before.limit - before.taken - length got) (sym (append_assoc h.has_read.got f.more bytes))
            ∙ ap (λ n. before.limit - before.taken - n) (length-append (h.has_read.got ++ f.more) bytes)
            ∙ (let here = f.left in omega (arith, here));
        unended = λ _. unended;
        chain = subst (λ got. Chain got last s') (append_assoc h.has_read.got f.more bytes)
            (once_more (h.has_read.got ++ f.more) bytes last s s' f.chain
            (shows_failed m past before (left_of source₀) v batch now (left_of source) f.more h.has_read unended open_front)
            (same_once (length kept) (length (behind_last_feed (before.kept ++ (h.has_read.got ++ f.more)))) room
            (before.limit - before.taken - length (h.has_read.got ++ f.more)) s bytes last s' (ap length (sym tail)) (sym f.left) once));
      }

  -- after a line's reads
  line_chain : (v : Version) (batch : List Transaction) (now : LinesView) (source : S) (h : AskedTo v batch now source) (answer : Result LineNext ReaderFault) (next : LinesView) (source' : S)
      → (a : AsksForLine left_of reads (line_state now source) answer (line_state next source'))
      → (before.limit - before.taken - length (h.has_read.got ++ a.got) ≡ a.room) × Chain (h.has_read.got ++ a.got) a.last source'
  line_chain v batch now source h answer next source' a =
      let f = follows v batch now source h (now.kept ++ a.got) a.room a.last source' a.asks in
      let same : f.more ≡ a.got = append_cancel_left now.kept f.more a.got (sym f.is) in (
        ap (λ more. before.limit - before.taken - length (h.has_read.got ++ more)) (sym same) ∙ f.left,
        subst (λ more. Chain (h.has_read.got ++ more) a.last source') same f.chain,
      )

  -- the reads of a call that ends with a line's
  pub asked_all : {A : Type 0} (v : Version) (batch : List Transaction) (now : LinesView) (source : S) (h : AskedTo v batch now source) (line : Result LineNext ReaderFault) (next : LinesView) (source' : S)
      → (a : AsksForLine left_of reads (line_state now source) line (line_state next source')) → (answer : Result A ReaderFault) → IfOk answer (λ _. a.last ≡ next.ended)
      → AsksForBatch {A = A} left_of reads m (read_state past before source₀) answer (line_state next source')
  asked_all v batch now source h line next source' a answer ends = record {
    got = h.has_read.got ++ a.got;
    taken = h.has_read.taken ∙ ap (ahead h.has_read.got) a.taken ∙ ahead_ahead h.has_read.got a.got (left_of source');
    last = a.last;
    asks = (line_chain v batch now source h line next source' a).1;
    ends = ends;
  }

  -- after a line that leads on
  pub asked_next : (v v' : Version) (batch batch' : List Transaction) (now : LinesView) (source : S) (h : AskedTo v batch now source) (next : LinesView) (source' : S)
      → (a : AsksForLine left_of reads (line_state now source) (Ok Line) (line_state next source'))
      → reading_of now (left_of source) ≡ option_map (with_line next.line) (reading_of next (left_of source'))
      → (next.ended ≡ false → now.ended ≡ false) → next.number ≡ now.number + 1
      → ((r : Reading) → accepted_behind m v now.number past.closed batch (with_line next.line r) ≡ accepted_behind m v' (now.number + 1) past.closed batch' r)
      → AskedTo v' batch' next source'
  unfolding reads_more reads_as reads_line
  asked_next v v' batch batch' now source h next source' a told unended counts leads =
      let chain = line_chain v batch now source h (Ok Line) next source' a in
      record {
        has_read = reads_more m past before (left_of source₀) v batch now (left_of source) next (left_of source') v' batch' h.has_read told
            (record { got = a.got; taken = a.taken; shows = a.shows }) unended counts leads;
        asked = subst (λ last. Chain (h.has_read.got ++ a.got) last source') a.ends.0 chain.1;
        room = chain.0 ∙ a.ends.1;
        behind = λ open'.
            let part = h.behind (unended open') in
            let rest = a.keeps open' in (
              part.0 ++ rest.0,
              sym (append_assoc before.kept h.has_read.got a.got) ∙ ap (λ bytes. bytes ++ a.got) part.1 ∙ append_assoc part.0 now.kept a.got
                  ∙ ap (λ bytes. part.0 ++ bytes) rest.1 ∙ sym (append_assoc part.0 rest.0 next.kept),
              behind_whole part.0 rest.0 part.2 ∙ rest.2,
            );
      }
