use Rattle.std.proofs.Common.{◌+◌, ◌%◌, ◌^◌, ◌≡◌, ◌∙◌, ap, arith, refl, subst, sym, ℕ, Some}
use mathlib.Core.Option.{none}
use Rattle.atomic_table.specs.Table.{Allows, step}
use Rattle.morph_base.proofs.NumberLaws.{op_count-small}
use Rattle.op_words.specs.Counting.{takes, taking}
use Rattle.op_words.specs.Hands.{plan_of, view_of}
use Rattle.op_words.specs.Layout.{counter_base}
use Rattle.op_words.specs.Plays.{Sat}
use Rattle.op_words.specs.Rule.{Lawful}
use Rattle.op_words.proofs.Handing.{kept, still}
use Rattle.op_words.proofs.RecordPlaces.{all_few}
use Rattle.op_words.proofs.Taking.{allows_take, taking_kept, taking_told}
use Rattle.op_words.proofs.board.Board.take.Goals as goal

pub overflow_add-word : goal.overflow_add-word
overflow_add-word c =
    let few = op_count-small (plan_of c.args.self.now) c.requires.hand.valid in let e = c.requires.hand.valid.numbering.few in let l = c.args.self.now.leveled in
    let records = all_few (plan_of c.args.self.now) c.requires.hand.valid in omega (arith, few, e, l, records)

pub overflow_add-word-2 : goal.overflow_add-word-2
overflow_add-word-2 c =
    let few = op_count-small (plan_of c.args.self.now) c.requires.hand.valid in let e = c.requires.hand.valid.numbering.few in let l = c.args.self.now.leveled in
    let records = all_few (plan_of c.args.self.now) c.requires.hand.valid in let fits = c.ranges.counter.fits in omega (arith, few, e, l, fits, records)

pub fetch_add-requires : goal.fetch_add-requires
fetch_add-requires c =
    let h = c.requires.hand in
    let l = c.args.self.now.leveled in
    let n = c.args.self.now.sized in
    let lt = c.requires.in_range in
    let seat = c.args.hand.now.seat in
    let table = c.args.self.now.table.shared in (
      h.table,
      omega (arith, l, n, lt),
      subst (λ (i : ℕ). Allows (Lawful table.key.plan.value table.key.cap table.key.counters) table.table_id.slots seat.id seat.me (i + 1 + c.args.counter) (λ (m : ℕ). (m + 1) % 2 ^ 64)
          (takes (step table.table_id.slots (i + 1 + c.args.counter) 1 0 none) seat.me)) (sym l)
          (allows_take table.table_id.slots seat.id seat.me c.args.counter _ (ap (λ (m : Sat). m.0) h.seat) lt c.requires.few),
    )

pub returns-clause-hand : goal.returns-clause-hand
returns-clause-hand c =
    let h = c.requires.hand in
    let index : c.args.self.now.level + 1 + c.args.counter ≡ counter_base (view_of c.args.hand.now).plan.value + c.args.counter = let p = ap counter_base h.plan in let l = c.args.self.now.leveled in omega (arith, p, l) in
    let t = c.fetch_add.ensures.2 (view_of c.args.hand.now) (ap (λ (m : Sat). m.0) h.seat) c.args.counter index in
    let u = taking c.args.counter c.fetch_add.result (view_of c.args.hand.now) in
    still _ c.args.hand.now _ u h c.fetch_add.ensures.0 (t.1 ∙ ap (λ (m : Sat). (Some u, m.1)) h.seat) refl refl (taking_kept c.args.hand.now _ _ _ (kept h) refl refl refl refl refl) (taking_told _ _ _ h.told)
