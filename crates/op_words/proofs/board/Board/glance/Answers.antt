use Rattle.std.proofs.Common.{ap, refl, ◌∙◌}
use Rattle.op_words.specs.Hands.{view_in, view_of}
use Rattle.op_words.specs.Plays.{Sat}
use Rattle.op_words.proofs.Handing.{still}
use Rattle.op_words.proofs.Loading.{allows_tell}
use Rattle.op_words.proofs.board.Board.glance.Goals as goal

pub load-requires : goal.load-requires
load-requires c =
    let h = c.requires.hand in
    (h.table, c.requires.in_range, allows_tell _ _ _ _ (ap (λ (m : Sat). m.0) h.seat) _)

pub returns-clause-hand : goal.returns-clause-hand
returns-clause-hand c =
    let h = c.requires.hand in
    let t = c.load.ensures.2 (view_of c.args.hand.now) (ap (λ (m : Sat). m.0) h.seat) in
    still _ c.args.hand.now _ (view_of c.args.hand.now) h c.load.ensures.0 (t.0 ∙ h.seat) refl refl
    (record { worker = h.worker; counted = h.counted; tag = h.tag; made = h.made; held = h.held; fits = h.fits; counts = h.counts; journal = h.journal })
    t.1

pub returns-clause-view : goal.returns-clause-view
returns-clause-view c =
    let h = c.requires.hand in
    ap (λ (m : Sat). view_in m.0) (c.load.ensures.2 (view_of c.args.hand.now) (ap (λ (m : Sat). m.0) h.seat)).0
