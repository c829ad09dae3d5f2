use Rattle.std.proofs.Common.{◌-◌, ap}
use Rattle.std.proofs.lemmas.Result.{on_err_weaker, on_ok_weaker}
use Rattle.morph_base.proofs.BatchLaws.{events_stay, events_kept, event_more, front_of, on_err}
use Rattle.morph_base.proofs.batch.Batch.push.Goals as goal

pub returns-in_err-extend_from_slice-clause-refused : goal.returns-in_err-extend_from_slice-clause-refused
returns-in_err-extend_from_slice-clause-refused c =
    on_err _
    (events_stay c.args.self.now.ops c.extend_from_slice.new.self c.args.self.now.heads.items c.in_err-extend_from_slice.ensures.refused c.args.self.now.inside)

pub returns-clause-refused : goal.returns-clause-refused
returns-clause-refused c =
    let ops = c.args.self.now.ops in
    on_err_weaker c.push_head.result
    (events_kept ops c.extend_from_slice.new.self c.args.self.now.heads.items _
    (front_of ops c.extend_from_slice.new.self c.args.ops.now c.in_ok-extend_from_slice.ensures.ops) c.args.self.now.inside) c.push_head.ensures.refused

pub returns-clause-events : goal.returns-clause-events
returns-clause-events c =
    on_ok_weaker c.push_head.result
    (λ put. event_more c.args.self.now.ops c.extend_from_slice.new.self c.args.ops.now c.args.self.now.heads.items _ c.args.ts c.len-first.result _
    c.in_ok-extend_from_slice.ensures.ops put c.len-first.ensures (ap (λ n. n - c.len-first.result) c.len.ensures) c.args.self.now.inside) c.push_head.ensures.items
