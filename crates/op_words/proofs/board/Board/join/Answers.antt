use Rattle.std.proofs.Common.{ap, arith, refl, ◌∙◌}
use Rattle.std.specs.Prelude.{Option}
use Rattle.op_words.specs.Plays.{Sat, both}
use Rattle.op_words.specs.Views.{merged}
use Rattle.op_words.specs.Hands.{view_of}
use Rattle.op_words.specs.declared.trail.View.{View}
use Rattle.op_words.proofs.Handing.{still, kept, more_joined, joined_kept}
use Rattle.op_words.proofs.Joining.{allows_join}
use Rattle.op_words.proofs.board.Board.join.Goals as goal

pub join_seat-requires : goal.join_seat-requires
join_seat-requires c =
    let h = c.requires.hand in let o = c.requires.other in let n = c.args.self.now.sized in
    (h.table, o.table, ap (λ (m : Sat). m.1) o.seat, omega (arith, n), allows_join _ _ _ _ _ _ (ap (λ (m : Sat). m.0) h.seat) (ap (λ (m : Sat). m.0) o.seat) c.requires.root c.requires.free)

pub tell-requires-clause-live : goal.tell-requires-clause-live
tell-requires-clause-live c =
    let h = c.requires.hand in let o = c.requires.other in (
      merged (view_of c.args.root.now) (view_of c.args.other),
      ap (λ (m : Sat). m.0) c.join_seat.ensures.2 ∙ ap (λ (z : Option View × Option View). both z.0 z.1) (λ i. (ap (λ (m : Sat). m.0) h.seat i, ap (λ (m : Sat). m.0) o.seat i)),
    )

pub returns-clause-hand : goal.returns-clause-hand
returns-clause-hand c =
    let h = c.requires.hand in let o = c.requires.other in let k = c.and-root.ensures in
    let v : View = merged (view_of c.args.root.now) (view_of c.args.other) in
    let here = ap (λ (m : Sat). m.0) c.join_seat.ensures.2 ∙ ap (λ (z : Option View × Option View). both z.0 z.1) (λ i. (ap (λ (m : Sat). m.0) h.seat i, ap (λ (m : Sat). m.0) o.seat i)) in
    still c.args.self.now c.args.root.now _ v h (c.tell.ensures.table ∙ c.join_seat.ensures.0)
    (c.tell.ensures.same ∙ c.join_seat.ensures.2 ∙ ap (λ (z : Sat × Sat). (both z.0.0 z.1.0, z.0.1)) (λ i. (h.seat i, o.seat i))) refl refl
    (joined_kept c.args.root.now c.args.other _ (kept h) (kept o) refl refl refl k.evaluated k.spread k.rolled refl
    (λ one. more_joined (view_of c.args.root.now) (view_of c.args.other) (c.tell.ensures.lone v here (record { root = c.requires.root; alone = one }))))
    (c.tell.ensures.told v here)
