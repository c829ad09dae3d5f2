use Rattle.interleaving_core.specs.declared.event.CoreEvent.TheVariants.{Spread as SpreadStep}
use Rattle.op_words.specs.Journals.{room_in, steps_in}
use Rattle.std.proofs.Common.{◌≡◌, ℕ, ◌+◌, ap, arith, sym, subst, refl, ◌∙◌, take, ◌∷◌, ◌++◌, []}
use prog.Atomic.{either}
use mathlib.Core.Option.{none}
use Rattle.std.specs.Prelude.{◌==◌}
use Rattle.atomic_table.specs.Table.{Allows, step}
use Rattle.morph_base.specs.Words.{packed}
use Rattle.interleaving_core.specs.Core.{spread}
use Rattle.op_words.specs.Plays.{Sat, spreads}
use Rattle.op_words.specs.Rule.{Lawful}
use Rattle.op_words.specs.Views.{spreading}
use Rattle.op_words.specs.Hands.{plan_of, cap_of, counters_of, view_of}
use Rattle.op_words.proofs.Handing.{kept, swap_left, swap_word, swap_found}
use Rattle.op_words.proofs.Grounding.{allows_spread, kept_spread, word_spread}
use Rattle.op_words.proofs.board.Board.leave_spread.Goals as goal

pub compare_exchange-found-requires : goal.compare_exchange-found-requires
compare_exchange-found-requires c =
    let h = c.requires.hand in let n = c.args.self.now.sized in let lt = c.requires.in_range in
    let b = c.args.self.now in let seat = c.args.hand.now.seat in
    let word = word_spread c.args.word (cap_of b) c.args.value c.requires.word c.requires.grounds.below h.small c.requires.value in
    let first : packed c.args.word ≡ c.pack-first.result = sym c.pack-first.ensures in
    let new : packed (spread (c.args.word.attempt + 1) c.args.value) ≡ c.pack-new.result = sym (c.pack-new.ensures ∙ ap packed c.spread.ensures) in (
      h.table,
      omega (arith, n, lt),
      subst (λ (z : ℕ × ℕ). Allows (Lawful (plan_of b) (cap_of b) (counters_of b)) b.table.shared.table_id.slots seat.id seat.me c.args.op (λ (m : ℕ). either (m == z.0) z.1 m) (spreads (step b.table.shared.table_id.slots c.args.op z.0 z.1 none) seat.me))
          (λ i. (first i, new i))
          (allows_spread _ _ _ _ (ap (λ (m : Sat). m.0) h.seat) c.args.op lt c.args.word c.requires.word c.args.value word c.requires.grounds),
    )

pub returns-then-found-first : goal.returns-then-found-first
returns-then-found-first c =
    let h = c.requires.hand in
    let word = word_spread c.args.word (cap_of c.args.self.now) c.args.value c.requires.word c.requires.grounds.below h.small c.requires.value in
    let swaps = c.compare_exchange-found.ensures.2 _ (ap (λ (m : Sat). m.0) h.seat) (spread (c.args.word.attempt + 1) c.args.value) word (c.pack-new.ensures ∙ ap packed c.spread.ensures) in
    let counts = c.and-hand.ensures in
    swap_left c.args.self.now c.args.hand.now _ h c.compare_exchange-found.ensures.0 _ _ _ (spreading c.args.op (spread (c.args.word.attempt + 1) c.args.value) (view_of c.args.hand.now)) (spread (c.args.word.attempt + 1) c.args.value) swaps c.if-found-first.true refl refl
    (kept_spread c.args.hand.now _ (kept h) refl refl refl c.args.op (spread (c.args.word.attempt + 1) c.args.value) counts.evaluated counts.spread counts.rolled
    (record { room = c.note.ensures.room; steps = c.note.ensures.steps ∙ ap (λ (s : ℕ). take (room_in c.args.hand.now.journal) (steps_in c.args.hand.now.journal ++ SpreadStep c.args.op s ∷ [])) c.requires.sibling }))

pub unreachable-requires : goal.unreachable-requires
unreachable-requires c =
    let h = c.requires.hand in
    let word = word_spread c.args.word (cap_of c.args.self.now) c.args.value c.requires.word c.requires.grounds.below h.small c.requires.value in
    let swaps = c.compare_exchange-found.ensures.2 _ (ap (λ (m : Sat). m.0) h.seat) (spread (c.args.word.attempt + 1) c.args.value) word (c.pack-new.ensures ∙ ap packed c.spread.ensures) in
    let z = swap_word c.args.self.now c.args.hand.now (record c.args.hand.now { seat = c.compare_exchange-found.new.seat }) h c.compare_exchange-found.ensures.0 _ _ _ (spreading c.args.op (spread (c.args.word.attempt + 1) c.args.value) (view_of c.args.hand.now)) (spread (c.args.word.attempt + 1) c.args.value) swaps c.if-found-first.false in
    c.in_default.not-Some z.0 (c.unpack.ensures.every z.0 z.1 z.2)

pub returns : goal.returns
returns c =
    let h = c.requires.hand in
    let word = word_spread c.args.word (cap_of c.args.self.now) c.args.value c.requires.word c.requires.grounds.below h.small c.requires.value in
    let swaps = c.compare_exchange-found.ensures.2 _ (ap (λ (m : Sat). m.0) h.seat) (spread (c.args.word.attempt + 1) c.args.value) word (c.pack-new.ensures ∙ ap packed c.spread.ensures) in
    swap_found c.args.self.now c.args.hand.now _ h c.compare_exchange-found.ensures.0 _ _ _ (spreading c.args.op (spread (c.args.word.attempt + 1) c.args.value) (view_of c.args.hand.now)) (spread (c.args.word.attempt + 1) c.args.value) swaps c.if-found-first.false
    c.in-Some.word c.args.word c.in-Some.ensures.word.0 c.in-Some.ensures.word.1 c.pack-first.ensures refl refl refl refl refl
