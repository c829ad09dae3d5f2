use Rattle.interleaving_core.specs.declared.event.CoreEvent.TheVariants.{Finish}
use Rattle.op_words.specs.Journals.{room_in, steps_in}
use Rattle.std.proofs.Common.{◌≡◌, ℕ, ap, arith, sym, subst, refl, Some, ◌∙◌, List, take, ◌∷◌, ◌++◌, []}
use mathlib.Core.Option.{none}
use Rattle.std.proofs.lemmas.Option.{same_Some}
use Rattle.atomic_table.specs.Table.{Allows, step}
use Rattle.morph_base.specs.declared.plan.Plan.{Plan}
use Rattle.morph_base.specs.declared.word.OpWord.{OpWord}
use Rattle.morph_base.specs.Plans.{op_at}
use Rattle.morph_base.specs.Words.{packed}
use Rattle.interleaving_core.specs.declared.entry.Held.{Held}
use Rattle.interleaving_core.specs.Core.{finished}
use Rattle.op_words.specs.Plays.{Sat, Leaves, ends, end_of}
use Rattle.op_words.specs.Rule.{Lawful}
use Rattle.op_words.specs.Views.{finishing}
use Rattle.op_words.specs.Trails.{left}
use Rattle.op_words.specs.Hands.{plan_of, cap_of, counters_of, view_of}
use Rattle.op_words.proofs.Finishing.{allows_end}
use Rattle.op_words.proofs.Handing.{kept, kept_end, left_hand}
use Rattle.op_words.proofs.board.Board.end.Goals as goal

pub store-requires : goal.store-requires
store-requires c =
    let h = c.requires.hand in let n = c.args.self.now.sized in let lt = c.requires.in_range in let q = c.requires.held in
    let b = c.args.self.now in let seat = c.args.hand.now.seat in
    let k : Held = record { op = c.args.op; attempt = q.0; values = q.1 } in
    let is : c.args.word ≡ end_of (view_of c.args.hand.now) k = q.4 ∙ ap (λ (p : Plan). finished (op_at p c.args.op).op q.0 q.1) (sym h.plan) in
    let word : packed (end_of (view_of c.args.hand.now) k) ≡ c.pack-n.result = sym (c.pack-n.ensures ∙ ap packed is) in (
      h.table,
      omega (arith, n, lt),
      subst (λ (z : ℕ). Allows (Lawful (plan_of b) (cap_of b) (counters_of b)) b.table.shared.table_id.slots seat.id seat.me c.args.op (λ (m : ℕ). z) (λ (m : ℕ). ends (step b.table.shared.table_id.slots c.args.op z 0 none) seat.me z)) word
          (allows_end _ _ _ (view_of c.args.hand.now) (ap (λ (m : Sat). m.0) h.seat) k q.2 q.3),
    )

pub returns : goal.returns
returns c = λ a xs holds.
    let h = c.requires.hand in let q = c.requires.held in let v = view_of c.args.hand.now in
    let k : Held = record { op = c.args.op; attempt = q.0; values = q.1 } in
    let is : end_of v k ≡ c.args.word = sym (q.4 ∙ ap (λ (p : Plan). finished (op_at p c.args.op).op q.0 q.1) (sym h.plan)) in
    let same : q.1 ≡ xs = ap (λ (x : Held). x.values) (same_Some k (record { op = c.args.op; attempt = a; values = xs }) (sym q.2 ∙ holds)) in
    let done = c.store.ensures.2 v (ap (λ (m : Sat). m.0) h.seat) k q.2 in
    let counts = c.and-hand.ensures in
    left_hand c.args.self.now c.args.hand.now _ h c.store.ensures.0 (finishing c.args.op c.args.word xs v) (left c.args.op c.args.word)
    (done.0 ∙ ap (λ (z : OpWord × List ℕ). (Some (finishing c.args.op z.0 z.1 v), c.args.hand.now.seat.me.1)) (λ i. (is i, same i))) refl refl
    (kept_end c.args.hand.now _ c.args.op c.args.word xs (kept h) refl refl c.let_go.ensures counts.evaluated counts.spread counts.rolled (record { room = c.note.ensures.room; steps = c.note.ensures.steps ∙ ap (λ (t : ℕ). take (room_in c.args.hand.now.journal) (steps_in c.args.hand.now.journal ++ Finish c.args.op t ∷ [])) h.tag }))
    (subst (λ (z : OpWord × List ℕ). Leaves v (finishing c.args.op z.0 z.1 v) (left c.args.op z.0)) (λ i. (is i, same i)) done.1)
