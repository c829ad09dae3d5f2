use Rattle.std.proofs.Common.{Bool, ◌≡◌, ℕ, ◌+◌, ◌∙◌, List, ap, get_or, length, refl, sum, sum_by, arith}
use Rattle.std.specs.Prelude.{count_by}
use Rattle.morph_base.specs.declared.list.List.{List as Items}
use Rattle.morph_engine.specs.Accounts.{settled_by}
use Rattle.op_eval.specs.declared.answers.Left.{Left}
use Rattle.run_text.specs.Counts.{counted_to}
use Rattle.run_text.proofs.Workers.{left_is}
use Rattle.run_text.proofs.Verdicts.{committed-settled, aborted-settled, length-settled_fates, few_committed}
use Rattle.run_text.proofs.tally.Tally.add.Goals as goal

abbrev causes_in : List (Items Left) → ℕ
causes_in lists = sum_by (λ (l : Items Left). length l.items) lists

pub returns : goal.returns
returns c =
    let p = c.args.end.now.plan in
    let r = c.args.end.now.settled in
    let many = length-settled_fates p r in
    let verdicts : c.commits-committed.result ≡ count_by (λ (v : Bool). v) r.committed.items = c.commits-committed.ensures ∙ ap (count_by (λ (v : Bool). v)) c.as_slice.ensures in
    let committed = committed-settled p r c.requires.settled in
    let aborted = aborted-settled p r c.requires.settled in
    let few = few_committed p r c.requires.settled in
    let events = c.len-events.ensures in
    let ops = c.len.ensures in
    let by : c.as_slice-2.result.now ≡ r.by.items = c.as_slice-2.ensures in
    let lists : c.causes.result ≡ counted_to (causes_in c.args.end.now.left.items) = c.causes.ensures ∙ ap (λ (l : List (Items Left)). counted_to (causes_in l)) c.as_slice-3.ensures in
    record {
      batches = refl;
      events = omega (arith, many, events);
      committed = omega (arith, verdicts, committed);
      aborted = omega (arith, verdicts, aborted, events);
      both = omega (arith, verdicts, few, many, events);
      ops = omega (arith, ops);
      evaluated = refl;
      spread = refl;
      rolled = refl;
      settled = λ w few. c.count_each.ensures.each w few ∙ ap (λ (l : List ℕ). get_or c.args.self.now.settled_by w 0 + settled_by l w) by;
      settled_all = c.count_each.ensures.sum ∙ ap (λ (l : List ℕ). sum c.args.self.now.settled_by + length l) by;
      workers = c.count_each.auto.counts ∙ c.requires.room.workers;
      left = left_is c.args.self.now.left (causes_in c.args.end.now.left.items) c.causes.result c.saturating_add-self.result lists c.saturating_add-self.ensures;
      handed = c.saturating_add-self-2.ensures;
      stolen = c.saturating_add-self-3.ensures;
      fits = omega (arith, ops, c.requires.room.ops);
    }
