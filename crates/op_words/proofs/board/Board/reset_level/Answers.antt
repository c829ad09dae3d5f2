use Rattle.std.proofs.Common.{ap, arith, subst, sym, ℕ}
use mathlib.Core.Option.{none}
use Rattle.atomic_table.specs.Table.{Allows, step}
use Rattle.op_words.specs.Counting.{passes}
use Rattle.op_words.specs.Plays.{Sat}
use Rattle.op_words.specs.Rule.{Lawful}
use Rattle.op_words.proofs.Taking.{allows_level}
use Rattle.op_words.proofs.board.Board.reset_level.Goals as goal

pub store-requires : goal.store-requires
store-requires c =
    let h = c.requires.hand in
    let l = c.args.self.now.leveled in
    let n = c.args.self.now.sized in
    let seat = c.args.root.now.seat in
    let table = c.args.self.now.table.shared in (
      h.table,
      omega (arith, l, n),
      subst (λ (i : ℕ). Allows (Lawful table.key.plan.value table.key.cap table.key.counters) table.table_id.slots seat.id seat.me i (λ n. 4294967295) (passes (step table.table_id.slots i 4294967295 0 none) seat.me)) (sym l)
          (allows_level table.table_id.slots seat.id seat.me _ (λ n. 4294967295) 4294967295 0 (ap (λ (m : Sat). m.0) h.seat)),
    )
