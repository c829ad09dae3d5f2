use Rattle.std.proofs.Common.{ℕ, Some, ap, arith, refl, subst, sym, ◌∙◌}
use mathlib.Core.Option.{none}
use prog.Atomic.{either}
use Rattle.std.specs.Prelude.{◌==◌}
use Rattle.atomic_table.specs.Table.{Allows, step}
use Rattle.op_words.specs.Counting.{fits}
use Rattle.op_words.specs.Journals.{roomed}
use Rattle.op_words.specs.Plays.{Sat}
use Rattle.op_words.specs.Rule.{Lawful}
use Rattle.op_words.specs.Hands.{plan_of, cap_of, counters_of, view_of}
use Rattle.op_words.proofs.Fitting.{allows_fit, fit_hand}
use Rattle.op_words.proofs.board.Hand.keep.Goals as goal

pub compare_exchange-requires : goal.compare_exchange-requires
compare_exchange-requires c =
    let h = c.requires.hand in let b = c.args.board.now in let seat = c.args.self.now.seat in
    let n = b.sized in let level = b.leveled in (
      h.table,
      omega (arith, n, level),
      subst (λ (k : ℕ). Allows (Lawful (plan_of b) (cap_of b) (counters_of b)) b.table.shared.table_id.slots seat.id seat.me k (λ (m : ℕ). either (m == c.args.room) c.args.room m) (fits (step b.table.shared.table_id.slots k c.args.room c.args.room none) seat.me))
          (sym level)
          (allows_fit _ _ _ (view_of c.args.self.now) c.args.room (ap (λ (m : Sat). m.0) h.seat)),
    )

pub returns-clause-hand : goal.returns-clause-hand
returns-clause-hand c =
    let h = c.requires.hand in let v = view_of c.args.self.now in
    fit_hand c.args.board.now c.args.self.now _ c.args.room h c.requires.lone c.requires.new c.compare_exchange.ensures.0
    (c.compare_exchange.ensures.2 v (ap (λ (m : Sat). m.0) h.seat) ∙ ap (λ (m : Sat). (Some (roomed c.args.room v), m.1)) h.seat)
    refl refl refl refl c.in_ok-journal.ensures.room c.in_ok-journal.ensures.steps
