use Rattle.op_words.specs.Journals.{room_in, steps_in}
use Rattle.std.proofs.Common.{◌≡◌, ℕ, ap, arith, sym, subst, refl, ◌∙◌, take, ◌∷◌, ◌++◌, []}
use prog.Atomic.{either}
use mathlib.Core.Option.{none}
use Rattle.std.specs.Prelude.{◌==◌}
use Rattle.atomic_table.specs.Table.{Allows, step}
use Rattle.morph_base.specs.declared.plan.Plan.{Plan}
use Rattle.morph_base.specs.Plans.{final}
use Rattle.morph_base.specs.Words.{packed}
use Rattle.interleaving_core.specs.declared.event.CoreEvent.TheVariants.{Settle}
use Rattle.op_words.specs.Plays.{Sat, settles}
use Rattle.op_words.specs.Rule.{Lawful}
use Rattle.op_words.specs.Views.{settling}
use Rattle.op_words.specs.Hands.{plan_of, cap_of, counters_of, view_of}
use Rattle.op_words.proofs.Settling.{allows_settle}
use Rattle.op_words.proofs.Handing.{kept, kept_step, swap_left, swap_word, swap_found}
use Rattle.op_words.proofs.board.Board.seal.Goals as goal

pub compare_exchange-found-requires : goal.compare_exchange-found-requires
compare_exchange-found-requires c =
    let h = c.requires.hand in let n = c.args.self.now.sized in let lt = c.requires.in_range in
    let b = c.args.self.now in let seat = c.args.hand.now.seat in
    let first : packed c.args.word ≡ c.pack-first.result = sym c.pack-first.ensures in
    let second : packed c.args.new ≡ c.pack-second.result = sym c.pack-second.ensures in (
      h.table,
      omega (arith, n, lt),
      subst (λ (z : ℕ × ℕ). Allows (Lawful (plan_of b) (cap_of b) (counters_of b)) b.table.shared.table_id.slots seat.id seat.me c.args.op (λ (m : ℕ). either (m == z.0) z.1 m) (settles (step b.table.shared.table_id.slots c.args.op z.0 z.1 none) seat.me))
          (λ i. (first i, second i))
          (allows_settle _ _ _ _ (ap (λ (m : Sat). m.0) h.seat) h.plan c.args.op lt c.args.word c.args.new c.requires.word c.requires.new c.requires.grounds),
    )

pub returns-then-found-first : goal.returns-then-found-first
returns-then-found-first c =
    let h = c.requires.hand in let v = view_of c.args.hand.now in
    let t = c.compare_exchange-found.ensures.2 v (ap (λ (m : Sat). m.0) h.seat) c.args.new c.requires.new c.pack-second.ensures in
    let step = swap_left c.args.self.now c.args.hand.now _ h c.compare_exchange-found.ensures.0 _ _ _ (settling c.args.op c.args.new v) c.args.new t.0 c.if-found-first.true refl refl
    (kept_step c.args.hand.now _ _ (Settle c.args.op v.tag) (kept h) refl refl refl (record { room = c.note.ensures.room; steps = c.note.ensures.steps ∙ ap (λ (t : ℕ). take (room_in c.args.hand.now.journal) (steps_in c.args.hand.now.journal ++ Settle c.args.op t ∷ [])) h.tag }) refl refl refl refl refl refl refl refl refl h.held h.fits) in
    record { hand = step.hand; tells = (step, refl, t.1 c.if-found-first.true ∙ ap (λ (q : Plan). final q c.args.op) h.plan) }

pub unreachable-requires : goal.unreachable-requires
unreachable-requires c =
    let h = c.requires.hand in
    let swaps = (c.compare_exchange-found.ensures.2 _ (ap (λ (m : Sat). m.0) h.seat) c.args.new c.requires.new c.pack-second.ensures).0 in
    let z = swap_word c.args.self.now c.args.hand.now (record c.args.hand.now { seat = c.compare_exchange-found.new.seat }) h c.compare_exchange-found.ensures.0 _ _ _ (settling c.args.op c.args.new (view_of c.args.hand.now)) c.args.new swaps c.if-found-first.false in
    c.in_default.not-Some z.0 (c.unpack.ensures.every z.0 z.1 z.2)

pub returns : goal.returns
returns c =
    let h = c.requires.hand in let v = view_of c.args.hand.now in
    let t = c.compare_exchange-found.ensures.2 v (ap (λ (m : Sat). m.0) h.seat) c.args.new c.requires.new c.pack-second.ensures in
    let found = swap_found c.args.self.now c.args.hand.now _ h c.compare_exchange-found.ensures.0 _ _ _ (settling c.args.op c.args.new v) c.args.new t.0 c.if-found-first.false
    c.in-Some.word c.args.word c.in-Some.ensures.word.0 c.in-Some.ensures.word.1 c.pack-first.ensures refl refl refl refl refl in
    record { hand = found.1.hand; tells = (refl, found.0, found.1) }
