-- The buffer is filled by the front of the line, written, and then keeps the rest of the line.
use Rattle.std.proofs.Common.{◌≡◌, ℕ, ◌+◌, ◌-◌, ◌<◌, ◌≤◌, ◌++◌, length, drop, take, ◌∙◌, sym, ap, arith}
use Rattle.std.proofs.lemmas.Result.{err_from_is_err_and}
use Rattle.morph_io.specs.Limits.{out_bytes}
use Rattle.morph_io.proofs.BufferPuts.{puts_kept, part_more, kept_all, kept_rest, filled_parts, writes_full}
use Rattle.morph_io.proofs.output.Out.put.Goals as goal

pub returns-then-bytes-room-clause-puts : goal.returns-then-bytes-room-clause-puts
returns-then-bytes-room-clause-puts g c =
    puts_kept _ _ _ _ (rw (← c.self.view_is, ← c.bytes-bytes.ensures.bytes) c.append.ensures.items)

pub returns-in_err-write_out-clause-prefix : goal.returns-in_err-write_out-clause-prefix
returns-in_err-write_out-clause-prefix g c =
    let p = err_from_is_err_and c.from_residual.result c.from_residual.ensures.1 in
    let bytes = c.bytes-bytes.ensures.bytes in
    let room : ℕ = out_bytes - c.len-room.result in
    let full : c.append-2.new.kept.items ≡ c.args.self.now ++ take room c.args.line.now =
    rw (← c.self.view_is, ← bytes, ← c.split_at.ensures.front) c.append-2.ensures.items in
    rw p.1 (part_more _ _ _ _ _ (filled_parts c.args.self.now c.args.line.now _ room full) c.in_err-write_out.ensures.prefix)

pub returns-clause-kept : goal.returns-clause-kept
returns-clause-kept g c =
    let bytes = c.bytes-bytes.ensures.bytes in
    let room : ℕ = out_bytes - c.len-room.result in
    let kept = ap length c.self.view_is in
    let line = ap length bytes in
    let full : length c.args.self.now + room ≡ out_bytes = omega (arith, c.len-room.ensures, c.self.invariant.0) in
    let enough : room ≤ length c.args.line.now = omega (arith, c.if-bytes-room.false) in
    c.append-3.ensures.items ∙ ap (λ front. front ++ c.split_at.result.1.now) c.in_ok-write_out.ensures.empty
    ∙ c.split_at.ensures.back ∙ ap (drop room) bytes ∙ sym (kept_rest out_bytes room c.args.self.now c.args.line.now full enough)

pub returns-then-bytes-room-clause-kept : goal.returns-then-bytes-room-clause-kept
returns-then-bytes-room-clause-kept g c =
    let bytes = c.bytes-bytes.ensures.bytes in
    let kept = ap length c.self.view_is in
    let line = ap length bytes in
    let short : length c.args.self.now + length c.args.line.now < out_bytes =
    omega (arith, c.len-room.ensures, c.self.invariant.0, c.if-bytes-room.true) in
    rw (kept_all out_bytes c.args.self.now c.args.line.now short, ← c.self.view_is, ← bytes) c.append.ensures.items

pub returns-in_err-write_out-clause-writes : goal.returns-in_err-write_out-clause-writes
returns-in_err-write_out-clause-writes g c =
    let p = err_from_is_err_and c.from_residual.result c.from_residual.ensures.1 in
    let bytes = c.bytes-bytes.ensures.bytes in
    let room : ℕ = out_bytes - c.len-room.result in
    let kept = ap length c.self.view_is in
    let line = ap length bytes in
    let full : c.append-2.new.kept.items ≡ c.args.self.now ++ take room c.args.line.now =
    rw (← c.self.view_is, ← bytes, ← c.split_at.ensures.front) c.append-2.ensures.items in
    let filled : length c.args.self.now + room ≡ out_bytes = omega (arith, c.len-room.ensures, c.self.invariant.0) in
    let enough : room ≤ length c.args.line.now = omega (arith, c.if-bytes-room.false) in
    rw p.1 (writes_full _ c.args.self.now c.args.line.now _ room _ _ _ full filled enough c.in_err-write_out.ensures.writes)

pub returns-clause-writes : goal.returns-clause-writes
returns-clause-writes g c =
    let bytes = c.bytes-bytes.ensures.bytes in
    let room : ℕ = out_bytes - c.len-room.result in
    let kept = ap length c.self.view_is in
    let line = ap length bytes in
    let full : c.append-2.new.kept.items ≡ c.args.self.now ++ take room c.args.line.now =
    rw (← c.self.view_is, ← bytes, ← c.split_at.ensures.front) c.append-2.ensures.items in
    let filled : length c.args.self.now + room ≡ out_bytes = omega (arith, c.len-room.ensures, c.self.invariant.0) in
    let enough : room ≤ length c.args.line.now = omega (arith, c.if-bytes-room.false) in
    writes_full _ c.args.self.now c.args.line.now _ room _ _ _ full filled enough c.in_ok-write_out.ensures.writes
