use Rattle.interleaving_core.specs.declared.event.CoreEvent.TheVariants.{Claim}
use Rattle.op_words.specs.Journals.{room_in, steps_in}
use Rattle.std.proofs.Common.{◌≡◌, ℕ, ap, arith, sym, subst, refl, ◌∙◌, take, ◌∷◌, ◌++◌, []}
use prog.Atomic.{either}
use mathlib.Core.Option.{none}
use Rattle.std.specs.Prelude.{◌==◌}
use Rattle.atomic_table.specs.Table.{Allows, step}
use Rattle.morph_base.specs.Words.{packed}
use Rattle.interleaving_core.specs.Core.{ready, claimed}
use Rattle.op_words.specs.Plays.{Sat, claims}
use Rattle.op_words.specs.Rule.{Lawful}
use Rattle.op_words.specs.Views.{claiming}
use Rattle.op_words.specs.Hands.{plan_of, cap_of, counters_of, view_of}
use Rattle.op_words.proofs.Claiming.{allows_claim}
use Rattle.op_words.proofs.Handing.{kept, kept_step, begun_held, begun_fits, swap_left, swap_word, swap_found}
use Rattle.op_words.proofs.board.Board.hold.Goals as goal

pub compare_exchange-found-requires : goal.compare_exchange-found-requires
compare_exchange-found-requires c =
    let h = c.requires.hand in let n = c.args.self.now.sized in let lt = c.requires.in_range in
    let b = c.args.self.now in let seat = c.args.hand.now.seat in
    let first : packed (ready c.args.attempt) ≡ c.pack-first.result = sym (c.pack-first.ensures ∙ ap packed c.ready.ensures) in
    let new : packed (claimed c.args.attempt (view_of c.args.hand.now).tag) ≡ c.pack-new.result = sym (c.pack-new.ensures ∙ ap packed (c.claimed.ensures ∙ ap (claimed c.args.attempt) h.tag)) in (
      h.table,
      omega (arith, n, lt),
      subst (λ (z : ℕ × ℕ). Allows (Lawful (plan_of b) (cap_of b) (counters_of b)) b.table.shared.table_id.slots seat.id seat.me c.args.op (λ (m : ℕ). either (m == z.0) z.1 m) (claims (step b.table.shared.table_id.slots c.args.op z.0 z.1 none) seat.me))
          (λ i. (first i, new i))
          (allows_claim _ _ _ _ (ap (λ (m : Sat). m.0) h.seat) c.args.op c.args.attempt lt c.requires.word c.requires.free),
    )

pub returns-then-found-first : goal.returns-then-found-first
returns-then-found-first c =
    let h = c.requires.hand in
    let swaps = c.compare_exchange-found.ensures.2 _ (ap (λ (m : Sat). m.0) h.seat) c.args.attempt (c.pack-first.ensures ∙ ap packed c.ready.ensures) in
    swap_left c.args.self.now c.args.hand.now _ h c.compare_exchange-found.ensures.0 _ _ _ (claiming c.args.op c.args.attempt (view_of c.args.hand.now)) (claimed c.args.attempt (view_of c.args.hand.now).tag) swaps c.if-found-first.true refl refl
    (kept_step c.args.hand.now _ _ _ (kept h) refl refl refl (record { room = c.note.ensures.room; steps = c.note.ensures.steps ∙ ap (λ (t : ℕ). take (room_in c.args.hand.now.journal) (steps_in c.args.hand.now.journal ++ Claim c.args.op t ∷ [])) h.tag }) refl refl refl refl refl refl refl refl refl (begun_held c.args.op c.args.attempt c.take.new.self c.take.ensures)
    (begun_fits c.args.op c.args.attempt c.take.new.self c.take.ensures c.requires.word.first c.requires.word.last))

pub unreachable-requires : goal.unreachable-requires
unreachable-requires c =
    let h = c.requires.hand in
    let swaps = c.compare_exchange-found.ensures.2 _ (ap (λ (m : Sat). m.0) h.seat) c.args.attempt (c.pack-first.ensures ∙ ap packed c.ready.ensures) in
    let z = swap_word c.args.self.now c.args.hand.now (record c.args.hand.now { seat = c.compare_exchange-found.new.seat }) h c.compare_exchange-found.ensures.0 _ _ _ (claiming c.args.op c.args.attempt (view_of c.args.hand.now)) (claimed c.args.attempt (view_of c.args.hand.now).tag) swaps c.if-found-first.false in
    c.in_default.not-Some z.0 (c.unpack.ensures.every z.0 z.1 z.2)

pub returns : goal.returns
returns c =
    let h = c.requires.hand in
    let first = c.pack-first.ensures ∙ ap packed c.ready.ensures in
    let swaps = c.compare_exchange-found.ensures.2 _ (ap (λ (m : Sat). m.0) h.seat) c.args.attempt first in
    swap_found c.args.self.now c.args.hand.now _ h c.compare_exchange-found.ensures.0 _ _ _ (claiming c.args.op c.args.attempt (view_of c.args.hand.now)) (claimed c.args.attempt (view_of c.args.hand.now).tag) swaps c.if-found-first.false
    c.in-Some.word (ready c.args.attempt) c.in-Some.ensures.word.0 c.in-Some.ensures.word.1 first refl refl refl refl refl
