-- Inside the crate: the tally of a teller has room for each batch that it can take, and after it for the next one
use Rattle.std.proofs.Common.{◌≡◌, ℕ, ◌+◌, ◌*◌, ◌≤◌, true, length, refl, ap, ◌∙◌, arith, mul-le-mul_right}
use Rattle.std.proofs.lemmas.List.FromFn.{length-map-range_with_len}
use Rattle.morph_base.specs.declared.limits.TheConstants.{EVENT_OPS, EVENTS}
use Rattle.morph_base.specs.declared.strategy.Abort.{Abort}
use Rattle.morph_base.specs.declared.strategy.Abort.TheVariants.{Lazy, Eager}
use Rattle.morph_base.specs.Plans.{event_count, op_count}
use Rattle.morph_base.proofs.NumberLaws.{op_count-small}
use Rattle.morph_engine.specs.Accounts.{Account, account_of}
use Rattle.morph_engine.specs.Caps.{cap_for}
use Rattle.morph_engine.specs.Fates.{settled_fate, settled_fates}
use Rattle.event_reader.specs.Limits.{input_bytes}
use Rattle.batch_pipe.specs.declared.items.Ran.{Ran}
use Rattle.batch_pipe.specs.Results.{IsResult}
use Rattle.run_text.specs.declared.tally.Tally.{Tally}
use Rattle.run_text.specs.Checks.{is_checked}
use Rattle.run_text.specs.Counts.{CountsBatch, HasRoom}
use Rattle.morph_cli.specs.Tallies.{IsSoundAccount}
use Rattle.morph_cli.specs.Tellers.{TellerView, IsTallyBefore, CanTell, TellsRan}

-- An abort mode has at most 7 attempts on guesses; and of all accounts, one more
cap_most : (abort : Abort) → cap_for abort ≤ 7
cap_most Lazy = omega arith
cap_most Eager = omega arith

pub at_any : (workers : ℕ) (a : Account) → IsSoundAccount workers a
    → (a.counts.evaluated + a.counts.spread ≤ 8 * op_count a.plan) × (a.counts.spread + a.counts.rolled ≤ 7 * op_count a.plan)
at_any workers a sound =
    let cap = cap_most a.strategy.abort in
    let evaluated = sound.evaluated in
    let rolled = sound.rolled in
    let more : (cap_for a.strategy.abort + 1) * op_count a.plan ≤ 8 * op_count a.plan
    = mul-le-mul_right (op_count a.plan) (omega (arith, cap)) in
    let some : cap_for a.strategy.abort * op_count a.plan ≤ 7 * op_count a.plan
    = mul-le-mul_right (op_count a.plan) cap in
    (omega (arith, evaluated, more), omega (arith, rolled, some))

-- There is room for the batch with this number
pub room_before : (number : ℕ) (t : Tally) (r : Ran) → IsTallyBefore number t → number ≤ input_bytes + 1
    → IsResult r → HasRoom t (account_of r.end)
room_before number t r before few result =
    let batches = before.batches in
    let few_batches : t.batches ≤ 1073741824 = omega (arith, batches, few) in
    let ops = before.ops in
    let few_ops : t.ops ≤ EVENT_OPS * EVENTS * 1073741824 = omega (arith, few_batches, ops) in
    let events = before.events in
    let few_events : t.events ≤ EVENTS * 1073741824 = omega (arith, few_batches, events) in
    let more : op_count r.end.plan ≤ EVENT_OPS * EVENTS = op_count-small r.end.plan result.valid.plan in
    let more_events : event_count r.end.plan ≤ EVENTS = result.valid.plan.numbering.few in
    let caps = at_any result.workers (account_of r.end) result.account in
    let evaluated_few = caps.0 in
    let rolled_few = caps.1 in
    record {
      batches = omega (arith, few_batches);
      events = omega (arith, few_events, more_events);
      counts = let both = before.both in omega (arith, few_events, more_events, both);
      ops = omega (arith, few_ops, more);
      evaluated = let old = before.evaluated in omega (arith, few_ops, more, old, evaluated_few);
      spread = let old = before.evaluated in omega (arith, few_ops, more, old, evaluated_few);
      rolled = let old = before.rolled in omega (arith, few_ops, more, old, rolled_few);
      workers = before.workers;
      settled = let old = before.settled in let added = result.account.each in omega (arith, few_ops, more, old, added);
    }

-- A batch more is counted
tally_on : (number : ℕ) (t t' : Tally) (r : Ran) → IsTallyBefore number t → IsResult r
    → CountsBatch t t' (account_of r.end) (settled_fates r.end.plan r.end.settled) → IsTallyBefore (number + 1) t'
tally_on number t t' r before result adds =
    let many : length (settled_fates r.end.plan r.end.settled) ≡ event_count r.end.plan
    = length-map-range_with_len (settled_fate r.end.plan r.end.settled) 0 (event_count r.end.plan) in
    let more : op_count r.end.plan ≤ EVENT_OPS * EVENTS = op_count-small r.end.plan result.valid.plan in
    let more_events : event_count r.end.plan ≤ EVENTS = result.valid.plan.numbering.few in
    let caps = at_any result.workers (account_of r.end) result.account in
    let evaluated_few = caps.0 in
    let rolled_few = caps.1 in
    let batches = adds.batches in
    let events = adds.events in
    let ops = adds.ops in
    let spread = adds.spread in
    record {
      batches = let old = before.batches in omega (arith, old, batches);
      events = let old = before.events in omega (arith, old, batches, events, many, more_events);
      both = let old = before.both in let both = adds.both in omega (arith, old, both, events);
      ops = let old = before.ops in omega (arith, old, batches, ops, more);
      evaluated = let old = before.evaluated in let now = adds.evaluated in omega (arith, old, evaluated_few, now, spread, ops);
      rolled = let old = before.rolled in let now = adds.rolled in omega (arith, old, rolled_few, now, spread, ops);
      settled = let old = before.settled in let now = adds.settled_all in let each = result.account.each in omega (arith, old, now, ops, each);
      workers = adds.workers;
    }

-- After a batch was told, the next one can be
pub tells_on : (number : ℕ) (old new : TellerView) (r : Ran) → CanTell number old → IsResult r
    → TellsRan old r true new → CanTell (number + 1) new
tells_on number old new r can result told = record {
  empty = told.empty refl;
  unchecked = ap (λ s. is_checked s.check) told.settings ∙ can.unchecked;
  few = tally_on number old.tally new.tally r can.few result told.adds;
}
