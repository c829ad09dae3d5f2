use Rattle.std.proofs.Common.{◌≡◌, ◌++◌, ◌∷◌, [], ℕ, List, Ok, Err, get_or, ap, sym, ◌∙◌, rules}
use Rattle.interleaving_core.specs.declared.event.CoreEvent.{CoreEvent}
use Rattle.interleaving_core.specs.declared.event.CoreEvent.TheVariants.{Ready}
use Rattle.run_checker.specs.Lines.{line_of}
use Rattle.run_text.specs.Calls.{buffered, PutsText}
use Rattle.run_text.proofs.Journals.{ended_line, text_lines}
use Rattle.run_text.proofs.Pieces.{put_as, piece_then, piece_stop, pieces_end}
use Rattle.run_text.proofs.checks.put_steps.Goals as goal

-- the line put is the step's
line_is : (e : CoreEvent) (text put : List ℕ) → text ≡ line_of e → put ≡ text ++ 10 ∷ [] → ended_line e ≡ put
line_is e text put said ended = ap (λ l. l ++ 10 ∷ []) (sym said) ∙ sym ended

pub loop-i-init : goal.loop-i-init
loop-i-init g c = λ answer sink' kept' all. put_as (text_lines c.args.journal.now) all

pub returns-in_err-put : goal.returns-in_err-put
returns-in_err-put g c =
    let js = c.args.journal.now in
    let put : PutsText g.N.Sink.written g.N.Sink.faults c.word.new.self (Err c.in_err-put.field-0.0) (buffered c.loop-i.notes c.loop-i.out) (buffered c.put.new.sink c.put.new.self) = search rules in
    c.loop-i.invariant _ _ _ (piece_stop ended_line js c.loop-i.i (Ready 0) c.from_residual.result c.loop-i-test.true
    (line_is (get_or js c.loop-i.i (Ready 0)) c.write_event.new.line c.word.new.self c.write_event.ensures.line c.word.ensures) c.from_residual.ensures.0 put)

pub loop-i-preserved : goal.loop-i-preserved
loop-i-preserved g c =
    let js = c.args.journal.now in
    let put : PutsText g.N.Sink.written g.N.Sink.faults c.word.new.self (Ok c.in_ok-put.field-0) (buffered c.loop-i.notes c.loop-i.out) (buffered c.put.new.sink c.put.new.self) = search rules in
    λ answer sink' kept' more. c.loop-i.invariant answer sink' kept' (piece_then ended_line js c.loop-i.i (Ready 0) c.loop-i-test.true
    (line_is (get_or js c.loop-i.i (Ready 0)) c.write_event.new.line c.word.new.self c.write_event.ensures.line c.word.ensures) put more)

pub returns : goal.returns
returns g c = c.loop-i.invariant _ _ _ (pieces_end ended_line c.args.journal.now c.loop-i.i c.loop-i.notes c.loop-i.out c.loop-i-test.false)
