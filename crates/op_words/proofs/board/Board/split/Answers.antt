use Rattle.std.proofs.Common.{ap, arith, refl, ◌∙◌, []}
use Rattle.op_words.specs.Plays.{Sat, staying, going}
use Rattle.op_words.specs.Views.{parent}
use Rattle.op_words.specs.Hands.{view_of}
use Rattle.op_words.proofs.Handing.{still, kept, parent_kept, parent_told, child_hand}
use Rattle.op_words.proofs.Splitting.{allows_split}
use Rattle.op_words.proofs.board.Board.split.Goals as goal

pub split_seat-seat-requires : goal.split_seat-seat-requires
split_seat-seat-requires c =
    let h = c.requires.hand in let n = c.args.self.now.sized in
    (h.table, omega (arith, n), allows_split _ _ _ (ap (λ (m : Sat). m.0) h.seat) c.requires.root c.requires.few)

pub returns-clause-root : goal.returns-clause-root
returns-clause-root c =
    let h = c.requires.hand in let s = c.split_seat-seat.ensures in
    still c.args.self.now c.args.root.now _ (parent (view_of c.args.root.now)) h s.0 (s.2 ∙ ap (λ (m : Sat). (staying m.0, m.1)) h.seat) refl refl
    (parent_kept c.args.root.now _ (kept h) c.requires.root refl refl refl refl refl) (parent_told _ h.counted h.told)

pub returns-clause-hand : goal.returns-clause-hand
returns-clause-hand c =
    let h = c.requires.hand in let s = c.split_seat-seat.ensures in
    child_hand c.args.self.now c.args.root.now _ h c.requires.root c.requires.few s.3 (s.4 ∙ ap (λ (m : Sat). (going m.0, [])) h.seat) refl refl c.nothing.ensures c.none.ensures refl
