use Rattle.std.proofs.Common.{◌-◌, map, ap}
use Rattle.std.proofs.lemmas.Result.{on_err_weaker, on_ok_weaker}
use Rattle.morph_base.specs.Transactions.{transaction_by}
use Rattle.morph_base.proofs.BatchLaws.{events_kept, event_more, front_of, on_err}
use Rattle.morph_base.proofs.batch.Batch.push_event.Goals as goal

pub returns-in_err-append-clause-refused : goal.returns-in_err-append-clause-refused
returns-in_err-append-clause-refused c =
    on_err _ (ap (λ ops. map (transaction_by ops) c.args.self.now.heads.items) c.in_err-append.ensures.refused)

pub returns-clause-refused : goal.returns-clause-refused
returns-clause-refused c =
    let ops = c.args.self.now.ops in
    on_err_weaker c.push_head.result
    (events_kept ops c.append.new.self c.args.self.now.heads.items _
    (front_of ops c.append.new.self c.args.ops.now c.in_ok-append.ensures.ops) c.args.self.now.inside) c.push_head.ensures.refused

pub returns-clause-events : goal.returns-clause-events
returns-clause-events c =
    on_ok_weaker c.push_head.result
    (λ put. event_more c.args.self.now.ops c.append.new.self c.args.ops.now c.args.self.now.heads.items _ c.args.ts c.len-first.result _
    c.in_ok-append.ensures.ops put c.len-first.ensures (ap (λ n. n - c.len-first.result) c.len.ensures) c.args.self.now.inside) c.push_head.ensures.items
