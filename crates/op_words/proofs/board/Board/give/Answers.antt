use Rattle.interleaving_core.specs.declared.event.CoreEvent.TheVariants.{GiveBack}
use Rattle.op_words.specs.Journals.{room_in, steps_in}
use Rattle.std.proofs.Common.{◌≡◌, ℕ, ap, arith, sym, subst, refl, ◌∙◌, take, ◌∷◌, ◌++◌, []}
use mathlib.Core.Option.{none}
use Rattle.std.proofs.lemmas.Option.{none-some}
use Rattle.atomic_table.specs.Table.{Allows, step}
use Rattle.morph_base.specs.Words.{packed}
use Rattle.interleaving_core.specs.Core.{blocked}
use Rattle.op_words.specs.Plays.{Sat, gives}
use Rattle.op_words.specs.Rule.{Lawful}
use Rattle.op_words.specs.Views.{giving_back}
use Rattle.op_words.specs.Trails.{left}
use Rattle.op_words.specs.Hands.{plan_of, cap_of, counters_of, view_of, held_of}
use Rattle.op_words.proofs.Claiming.{allows_give}
use Rattle.op_words.proofs.Handing.{kept, kept_step, left_hand}
use Rattle.op_words.proofs.board.Board.give.Goals as goal

pub store-requires : goal.store-requires
store-requires c =
    let h = c.requires.hand in let n = c.args.self.now.sized in let lt = c.requires.in_range in
    let b = c.args.self.now in let seat = c.args.hand.now.seat in
    let word : packed (blocked c.args.attempt) ≡ c.pack-word.result = sym (c.pack-word.ensures ∙ ap packed c.blocked.ensures) in (
      h.table,
      omega (arith, n, lt),
      subst (λ (z : ℕ). Allows (Lawful (plan_of b) (cap_of b) (counters_of b)) b.table.shared.table_id.slots seat.id seat.me c.args.op (λ (m : ℕ). z) (λ (m : ℕ). gives (step b.table.shared.table_id.slots c.args.op z 0 none) seat.me z)) word
          (allows_give _ _ _ _ (ap (λ (m : Sat). m.0) h.seat) (record { op = c.args.op; attempt = c.args.attempt; values = c.requires.held.0 }) c.requires.held.1),
    )

pub returns : goal.returns
returns c =
    let h = c.requires.hand in
    let done = c.store.ensures.2 _ (ap (λ (m : Sat). m.0) h.seat) (record { op = c.args.op; attempt = c.args.attempt; values = c.requires.held.0 }) c.requires.held.1 in
    left_hand c.args.self.now c.args.hand.now _ h c.store.ensures.0 (giving_back c.args.op c.args.attempt (view_of c.args.hand.now)) (left c.args.op (blocked c.args.attempt)) done.0 refl refl
    (kept_step c.args.hand.now _ _ _ (kept h) refl refl refl (record { room = c.note.ensures.room; steps = c.note.ensures.steps ∙ ap (λ (t : ℕ). take (room_in c.args.hand.now.journal) (steps_in c.args.hand.now.journal ++ GiveBack c.args.op t ∷ [])) h.tag }) refl refl refl refl refl refl refl refl refl (ap held_of c.let_go.ensures) (λ k e. absurd (none-some k (sym c.let_go.ensures ∙ e)))) done.1
