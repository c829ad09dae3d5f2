use Rattle.std.proofs.Common.{◌≡◌, ◌+◌, ◌-◌, ◌≤◌, length, take, slice_range, vec_len, arith, refl, ap, sym, ◌∙◌, [], true, Ok}
use Rattle.std.proofs.lemmas.Bool.Decides.{nat_tests}
use Rattle.std.proofs.lemmas.List.{with_items_is}
use Rattle.std.proofs.lemmas.List.Edits.{length-between}
use Rattle.morph_io.specs.Told.{ahead, ahead_nil}
use Rattle.event_reader.proofs.BufferParts.{range_filled, range_kept, length-range, twice_written, first_item, within_limit}
use Rattle.event_reader.proofs.LineReads.{once, not_beyond, last_where_none}
use Rattle.event_reader.proofs.lines.Lines.fill.Goals as goal

pub returns-then-left-eq0-clause-fills : goal.returns-then-left-eq0-clause-fills
returns-then-left-eq0-clause-fills g c =
    let inner = c.self.inside in
    let end = inner.end - inner.start in
    let moved = c.to_front.new.buffer in
    let after = c.read_behind.new.buffer in
    let moved_long : length moved ≡ vec_len inner.buffer = omega arith in
    let after_long : length after ≡ vec_len inner.buffer = omega arith in
    let items = twice_written inner.buffer moved after after_long in
    let front = c.to_front.ensures ∙ ap (λ xs. slice_range xs inner.start inner.end) c.deref_mut.ensures.value in
    let kept = c.in-Ok.ensures.kept ∙ ap (take end) (c.deref_mut-2.ensures.value ∙ with_items_is inner.buffer moved moved_long) in
    let inside : end + c.in-Ok.got ≤ length after = omega (arith, c.in-Ok.ensures.bound) in
    let count : length (slice_range after end (end + c.in-Ok.got)) ≡ c.in-Ok.got = length-range after end c.in-Ok.got inside in
    let first = first_item (slice_range after end (end + c.in-Ok.got)) (omega arith) in
    let unended = rw (← c.self.view_is) at c.requires.goes_on in
    rw (← c.self.view_is) (
      record {
        kept = rw items (range_kept inner.buffer.items moved after inner.start inner.end front kept);
        taken = refl;
        number = refl;
        limit = refl;
        stops = refl;
        ended = unended;
        short = refl;
      },
      record { byte = first.0; more = first.1; told = c.in-Ok.ensures.bytes ∙ ap (λ xs. ahead xs (g.S.Source.left c.read_behind.new.source)) first.2 },
      omega arith,
    )

pub returns-clause-fills : goal.returns-clause-fills
returns-clause-fills g c =
    let inner = c.self.inside in
    let end = inner.end - inner.start in
    let moved = c.to_front.new.buffer in
    let after = c.read_behind.new.buffer in
    let moved_long : length moved ≡ vec_len inner.buffer = omega arith in
    let after_long : length after ≡ vec_len inner.buffer = omega arith in
    let items = twice_written inner.buffer moved after after_long in
    let front = c.to_front.ensures ∙ ap (λ xs. slice_range xs inner.start inner.end) c.deref_mut.ensures.value in
    let kept = c.in-Ok.ensures.kept ∙ ap (take end) (c.deref_mut-2.ensures.value ∙ with_items_is inner.buffer moved moved_long) in
    let inside : end + c.in-Ok.got ≤ length after = omega (arith, c.in-Ok.ensures.bound) in
    let count : length (slice_range after end (end + c.in-Ok.got)) ≡ c.in-Ok.got = length-range after end c.in-Ok.got inside in
    rw (← c.self.view_is) record {
      got = slice_range after end (end + c.in-Ok.got);
      told = c.in-Ok.ensures.bytes;
      kept = rw items (range_filled inner.buffer.items moved after inner.start inner.end c.in-Ok.got front kept);
      taken = rw count refl;
      bound = within_limit c.in-Ok.got c.asked_bytes-most.result inner.taken inner.limit c.self.invariant.taken_bound c.in-Ok.ensures.bound c.asked_bytes-most.ensures.left c.else-got-gt0.either;
      number = refl;
      limit = refl;
      live = refl;
      more = rw count (λ unended. grind (arith, nat_tests, unended));
      at_end = λ ended. c.in-Ok.ensures.at_end (grind (arith, nat_tests, ended));
      short = refl;
    }

pub returns-in_default-clause-asks : goal.returns-in_default-clause-asks
returns-in_default-clause-asks g c =
    let inner = c.self.inside in
    let size : length (slice_range inner.buffer.items inner.start inner.end) ≡ inner.end - inner.start
    = length-between inner.buffer.items inner.start inner.end (omega arith) in
    rw (← c.self.view_is)
    (once g.S.Source.left g.S.Source.reads c.asked_bytes-most.result (length (slice_range inner.buffer.items inner.start inner.end)) (inner.end - inner.start) (inner.limit - inner.taken)
    c.args.source.now _ [] true c.read_behind.new.source c.asked_bytes-most.ensures.bytes size c.in_default.ensures.answer refl
    (sym c.in_default.ensures.failed ∙ sym (ahead_nil (g.S.Source.left c.read_behind.new.source))) refl)

pub returns-clause-asks : goal.returns-clause-asks
returns-clause-asks g c =
    let inner = c.self.inside in
    let end = inner.end - inner.start in
    let moved = c.to_front.new.buffer in
    let after = c.read_behind.new.buffer in
    let moved_long : length moved ≡ vec_len inner.buffer = omega arith in
    let after_long : length after ≡ vec_len inner.buffer = omega arith in
    let items = twice_written inner.buffer moved after after_long in
    let front = c.to_front.ensures ∙ ap (λ xs. slice_range xs inner.start inner.end) c.deref_mut.ensures.value in
    let kept = c.in-Ok.ensures.kept ∙ ap (take end) (c.deref_mut-2.ensures.value ∙ with_items_is inner.buffer moved moved_long) in
    let inside : end + c.in-Ok.got ≤ length after = omega (arith, c.in-Ok.ensures.bound) in
    let count : length (slice_range after end (end + c.in-Ok.got)) ≡ c.in-Ok.got = length-range after end c.in-Ok.got inside in
    let size : length (slice_range inner.buffer.items inner.start inner.end) ≡ end
    = length-between inner.buffer.items inner.start inner.end (omega arith) in
    rw (← c.self.view_is) record {
      bytes = slice_range after end (end + c.in-Ok.got);
      asks = once g.S.Source.left g.S.Source.reads c.asked_bytes-most.result (length (slice_range inner.buffer.items inner.start inner.end)) end (inner.limit - inner.taken)
          c.args.source.now (Ok c.in-Ok.got) (slice_range after end (end + c.in-Ok.got)) _ c.read_behind.new.source c.asked_bytes-most.ensures.bytes size c.in-Ok.ensures.answer count
          c.in-Ok.ensures.bytes (last_where_none c.in-Ok.got (inner.limit - inner.taken) (not_beyond c.in-Ok.got (inner.limit - inner.taken) c.else-got-gt0.either));
      kept = rw items (range_filled inner.buffer.items moved after inner.start inner.end c.in-Ok.got front kept);
      room = rw count (omega arith);
    }
