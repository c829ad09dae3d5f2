use Rattle.std.proofs.Common.{◌≡◌, map, ap, ◌∙◌, refl}
use Rattle.std.specs.Process.{exit_status}
use Rattle.morph_io.specs.Told.{HasRisen}
use Rattle.morph_cli.specs.Streams.{fault_counts, streams_of}
use Rattle.morph_cli.specs.Words.{words_behind}
use Rattle.morph_cli.proofs.ProgramClauses.{at_ok, along, AsksBy, no_memory_asks, HeadlineBy, UsageBy, CompletesBy, MadeBy, RunBy, UntouchedBy, UnreadBy, WriteBy, usage_along, some_tally, no_memory, no_memory_completes, no_memory_made, no_memory_run, no_memory_notes, no_memory_unread, no_memory_write}
use Rattle.morph_cli.proofs.arguments.program.Goals as goal

-- ---- no memory for the words

pub returns-in_default-words_of-clause-headline : goal.returns-in_default-words_of-clause-headline
returns-in_default-words_of-clause-headline g c =
    let left = g.S.Source.left c.args.source.now in
    let old = g.K.Sink.written c.args.sink.now in
    let status = exit_status c.end_without_memory-in_default-words_of.result in
    at_ok c.args.args c.in-Ok.args c.in-Ok.is (λ args. HeadlineBy (words_behind args.items) left left old old status)
    (no_memory (words_behind c.in-Ok.args.items) left old status c.end_without_memory-in_default-words_of.ensures.status)

pub returns-in_default-words_of-clause-completes : goal.returns-in_default-words_of-clause-completes
returns-in_default-words_of-clause-completes g c no_read no_write =
    let told = g.S.Source.left c.args.source.now in
    let status = exit_status c.end_without_memory-in_default-words_of.result in
    at_ok c.args.args c.in-Ok.args c.in-Ok.is (λ args. CompletesBy told (words_behind args.items) status)
    (no_memory_completes told (words_behind c.in-Ok.args.items) status c.end_without_memory-in_default-words_of.ensures.status)

pub returns-in_default-words_of-clause-untouched : goal.returns-in_default-words_of-clause-untouched
returns-in_default-words_of-clause-untouched g c =
    let old = g.N.Sink.written c.args.notes.now in
    let new = g.N.Sink.written c.end_without_memory-in_default-words_of.new.notes in
    let before = g.N.Sink.faults c.args.notes.now in
    let after = g.N.Sink.faults c.end_without_memory-in_default-words_of.new.notes in
    let status = exit_status c.end_without_memory-in_default-words_of.result in
    at_ok c.args.args c.in-Ok.args c.in-Ok.is (λ args. UntouchedBy c.args.source.now c.args.source.now c.args.sink.now c.args.sink.now old new before after (words_behind args.items) status)
    (λ none. (refl, refl, no_memory_notes old new before after status c.end_without_memory-in_default-words_of.ensures.status c.end_without_memory-in_default-words_of.ensures.note))

pub returns-in_default-words_of-clause-made : goal.returns-in_default-words_of-clause-made
returns-in_default-words_of-clause-made g c =
    let status = exit_status c.end_without_memory-in_default-words_of.result in
    at_ok c.args.args c.in-Ok.args c.in-Ok.is (λ args. MadeBy (c.args.source.now ≡ c.args.source.now) (words_behind args.items) status)
    (no_memory_made (c.args.source.now ≡ c.args.source.now) (words_behind c.in-Ok.args.items) status c.end_without_memory-in_default-words_of.ensures.status refl)

pub returns-in_default-words_of-clause-run : goal.returns-in_default-words_of-clause-run
returns-in_default-words_of-clause-run g c =
    let left = g.S.Source.left c.args.source.now in
    let sink = g.K.Sink.written c.args.sink.now in
    let old = g.N.Sink.written c.args.notes.now in
    let new = g.N.Sink.written c.end_without_memory-in_default-words_of.new.notes in
    let before = fault_counts (g.S.Source.faults c.args.source.now) (g.K.Sink.faults c.args.sink.now) (g.N.Sink.faults c.args.notes.now) in
    let last = g.N.Sink.faults c.end_without_memory-in_default-words_of.new.notes in
    let status = exit_status c.end_without_memory-in_default-words_of.result in
    at_ok c.args.args c.in-Ok.args c.in-Ok.is (λ args. RunBy left (streams_of left sink old before) (streams_of left sink new (record before { notes = last })) (words_behind args.items) status)
    (no_memory_run left (streams_of left sink old before) new last (words_behind c.in-Ok.args.items) status c.end_without_memory-in_default-words_of.ensures.status c.end_without_memory-in_default-words_of.ensures.note)

-- ---- what the call says

pub returns-clause-usage : goal.returns-clause-usage
returns-clause-usage g c =
    at_ok c.args.args c.in-Ok.args c.in-Ok.is (λ args. UsageBy (words_behind args.items) (exit_status c.from.result))
    (usage_along (map (λ word. word.items) c.as_slice.result.now) (words_behind c.in-Ok.args.items) c.morph-ended.result.status (exit_status c.from.result)
    (ap (map (λ word. word.items)) c.as_slice.ensures ∙ c.in-Ok-words_of.ensures ∙ ap words_behind c.deref.ensures.value) c.from.ensures c.morph-ended.ensures.usage)

pub returns-clause-headline : goal.returns-clause-headline
returns-clause-headline g c =
    let left = g.S.Source.left c.args.source.now in
    let later = g.S.Source.left c.morph-ended.new.source in
    let old = g.K.Sink.written c.args.sink.now in
    let new = g.K.Sink.written c.morph-ended.new.sink in
    at_ok c.args.args c.in-Ok.args c.in-Ok.is (λ args. HeadlineBy (words_behind args.items) left later old new (exit_status c.from.result))
    (along (λ words status. HeadlineBy words left later old new status) (map (λ word. word.items) c.as_slice.result.now) (words_behind c.in-Ok.args.items) c.morph-ended.result.status (exit_status c.from.result)
    (ap (map (λ word. word.items)) c.as_slice.ensures ∙ c.in-Ok-words_of.ensures ∙ ap words_behind c.deref.ensures.value) c.from.ensures c.morph-ended.ensures.headline)

pub returns-clause-completes : goal.returns-clause-completes
returns-clause-completes g c no_read other =
    let told = g.S.Source.left c.args.source.now in
    at_ok c.args.args c.in-Ok.args c.in-Ok.is (λ args. CompletesBy told (words_behind args.items) (exit_status c.from.result))
    (along (CompletesBy told) (map (λ word. word.items) c.as_slice.result.now) (words_behind c.in-Ok.args.items) c.morph-ended.result.status (exit_status c.from.result)
    (ap (map (λ word. word.items)) c.as_slice.ensures ∙ c.in-Ok-words_of.ensures ∙ ap words_behind c.deref.ensures.value) c.from.ensures (c.morph-ended.ensures.completes no_read (λ five. other (c.from.ensures ∙ five))))

pub returns-clause-untouched : goal.returns-clause-untouched
returns-clause-untouched g c =
    let old = g.N.Sink.written c.args.notes.now in
    let new = g.N.Sink.written c.morph-ended.new.notes in
    let before = g.N.Sink.faults c.args.notes.now in
    let after = g.N.Sink.faults c.morph-ended.new.notes in
    at_ok c.args.args c.in-Ok.args c.in-Ok.is
    (λ args. UntouchedBy c.args.source.now c.morph-ended.new.source c.args.sink.now c.morph-ended.new.sink old new before after (words_behind args.items) (exit_status c.from.result))
    (along (UntouchedBy c.args.source.now c.morph-ended.new.source c.args.sink.now c.morph-ended.new.sink old new before after) (map (λ word. word.items) c.as_slice.result.now) (words_behind c.in-Ok.args.items) c.morph-ended.result.status (exit_status c.from.result)
    (ap (map (λ word. word.items)) c.as_slice.ensures ∙ c.in-Ok-words_of.ensures ∙ ap words_behind c.deref.ensures.value) c.from.ensures
    (λ none. let usage = c.morph-ended.ensures.usage.1 none in let same = c.morph-ended.ensures.untouched usage in (same.0, same.1, c.morph-ended.ensures.note usage)))

pub returns-clause-made : goal.returns-clause-made
returns-clause-made g c =
    at_ok c.args.args c.in-Ok.args c.in-Ok.is (λ args. MadeBy (c.morph-ended.new.source ≡ c.args.source.now) (words_behind args.items) (exit_status c.from.result))
    (along (MadeBy (c.morph-ended.new.source ≡ c.args.source.now)) (map (λ word. word.items) c.as_slice.result.now) (words_behind c.in-Ok.args.items) c.morph-ended.result.status (exit_status c.from.result)
    (ap (map (λ word. word.items)) c.as_slice.ensures ∙ c.in-Ok-words_of.ensures ∙ ap words_behind c.deref.ensures.value) c.from.ensures c.morph-ended.ensures.made)

pub returns-clause-run : goal.returns-clause-run
returns-clause-run g c =
    let left = g.S.Source.left c.args.source.now in
    let before = streams_of left (g.K.Sink.written c.args.sink.now) (g.N.Sink.written c.args.notes.now)
    (fault_counts (g.S.Source.faults c.args.source.now) (g.K.Sink.faults c.args.sink.now) (g.N.Sink.faults c.args.notes.now)) in
    let after = streams_of (g.S.Source.left c.morph-ended.new.source) (g.K.Sink.written c.morph-ended.new.sink) (g.N.Sink.written c.morph-ended.new.notes)
    (fault_counts (g.S.Source.faults c.morph-ended.new.source) (g.K.Sink.faults c.morph-ended.new.sink) (g.N.Sink.faults c.morph-ended.new.notes)) in
    at_ok c.args.args c.in-Ok.args c.in-Ok.is (λ args. RunBy left before after (words_behind args.items) (exit_status c.from.result))
    (along (RunBy left before after) (map (λ word. word.items) c.as_slice.result.now) (words_behind c.in-Ok.args.items) c.morph-ended.result.status (exit_status c.from.result)
    (ap (map (λ word. word.items)) c.as_slice.ensures ∙ c.in-Ok-words_of.ensures ∙ ap words_behind c.deref.ensures.value) c.from.ensures
    (some_tally left before after (map (λ word. word.items) c.as_slice.result.now) c.morph-ended.result.status c.morph-ended.result.tally c.morph-ended.ensures.run))

pub returns-clause-write : goal.returns-clause-write
returns-clause-write g c =
    let sunk = HasRisen (g.K.Sink.faults c.args.sink.now) (g.K.Sink.faults c.morph-ended.new.sink) in
    let noted = HasRisen (g.N.Sink.faults c.args.notes.now) (g.N.Sink.faults c.morph-ended.new.notes) in
    at_ok c.args.args c.in-Ok.args c.in-Ok.is (λ args. WriteBy sunk noted (words_behind args.items) (exit_status c.from.result))
    (along (WriteBy sunk noted) (map (λ word. word.items) c.as_slice.result.now) (words_behind c.in-Ok.args.items) c.morph-ended.result.status (exit_status c.from.result)
    (ap (map (λ word. word.items)) c.as_slice.ensures ∙ c.in-Ok-words_of.ensures ∙ ap words_behind c.deref.ensures.value) c.from.ensures c.morph-ended.ensures.write)

pub returns-clause-steady : goal.returns-clause-steady
returns-clause-steady g c other = c.morph-ended.ensures.steady (λ five. other (c.from.ensures ∙ five))

pub returns-clause-unread : goal.returns-clause-unread
returns-clause-unread g c =
    let same = g.S.Source.faults c.morph-ended.new.source ≡ g.S.Source.faults c.args.source.now in
    at_ok c.args.args c.in-Ok.args c.in-Ok.is (λ args. UnreadBy same (words_behind args.items) (exit_status c.from.result))
    (along (UnreadBy same) (map (λ word. word.items) c.as_slice.result.now) (words_behind c.in-Ok.args.items) c.morph-ended.result.status (exit_status c.from.result)
    (ap (map (λ word. word.items)) c.as_slice.ensures ∙ c.in-Ok-words_of.ensures ∙ ap words_behind c.deref.ensures.value) c.from.ensures c.morph-ended.ensures.unread)

pub returns-in_default-words_of-clause-write : goal.returns-in_default-words_of-clause-write
returns-in_default-words_of-clause-write g c =
    let sunk = HasRisen (g.K.Sink.faults c.args.sink.now) (g.K.Sink.faults c.args.sink.now) in
    let noted = HasRisen (g.N.Sink.faults c.args.notes.now) (g.N.Sink.faults c.end_without_memory-in_default-words_of.new.notes) in
    let status = exit_status c.end_without_memory-in_default-words_of.result in
    at_ok c.args.args c.in-Ok.args c.in-Ok.is (λ args. WriteBy sunk noted (words_behind args.items) status)
    (no_memory_write sunk noted (words_behind c.in-Ok.args.items) status c.end_without_memory-in_default-words_of.ensures.status)

pub returns-in_default-words_of-clause-unread : goal.returns-in_default-words_of-clause-unread
returns-in_default-words_of-clause-unread g c =
    let same = g.S.Source.faults c.args.source.now ≡ g.S.Source.faults c.args.source.now in
    let status = exit_status c.end_without_memory-in_default-words_of.result in
    at_ok c.args.args c.in-Ok.args c.in-Ok.is (λ args. UnreadBy same (words_behind args.items) status)
    (no_memory_unread same (words_behind c.in-Ok.args.items) status refl)

pub returns-clause-asks : goal.returns-clause-asks
returns-clause-asks g c =
    at_ok c.args.args c.in-Ok.args c.in-Ok.is (λ args. AsksBy g.S.Source.left g.S.Source.reads c.args.source.now c.morph-ended.new.source (words_behind args.items) (exit_status c.from.result))
    (along (AsksBy g.S.Source.left g.S.Source.reads c.args.source.now c.morph-ended.new.source) (map (λ word. word.items) c.as_slice.result.now) (words_behind c.in-Ok.args.items) c.morph-ended.result.status (exit_status c.from.result)
    (ap (map (λ word. word.items)) c.as_slice.ensures ∙ c.in-Ok-words_of.ensures ∙ ap words_behind c.deref.ensures.value) c.from.ensures c.morph-ended.ensures.asks)

pub returns-in_default-words_of-clause-asks : goal.returns-in_default-words_of-clause-asks
returns-in_default-words_of-clause-asks g c =
    let status = exit_status c.end_without_memory-in_default-words_of.result in
    at_ok c.args.args c.in-Ok.args c.in-Ok.is (λ args. AsksBy g.S.Source.left g.S.Source.reads c.args.source.now c.args.source.now (words_behind args.items) status)
    (no_memory_asks g.S.Source.left g.S.Source.reads c.args.source.now (words_behind c.in-Ok.args.items) status)
