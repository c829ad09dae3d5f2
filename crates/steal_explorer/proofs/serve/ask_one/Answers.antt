use Rattle.std.proofs.Common.{refl}
use Rattle.abort_eager.specs.Grounds.{ground_rules}
use Rattle.steal_explorer.proofs.Going.{asked_one, goes_then}
use Rattle.steal_explorer.proofs.Queueing.{asked_in_vain, asked_and_pushed}
use Rattle.op_words.specs.declared.answers.Readied.TheVariants.{Made, Not}
use Rattle.morph_base.specs.declared.word.OpWord.{OpWord}
use Rattle.std.specs.Prelude.{◌≡◌, ℕ}
use Rattle.steal_explorer.proofs.serve.ask_one.Goals as goal

unmade : (at : ℕ) (w : OpWord) → Not at w ≡ Made → ⊥
unmade at w e = cc

pub returns-in-Made-clause-goes : goal.returns-in-Made-clause-goes
returns-in-Made-clause-goes g c = goes_then _ _ _ _ (asked_one (ground_rules c.args.ground.now) c.args.op c.args.member.now c.ask.new.runner _ c.ask.ensures.answer) c.push.ensures.goes

pub returns-in-Not-clause-goes : goal.returns-in-Not-clause-goes
returns-in-Not-clause-goes g c = asked_one (ground_rules c.args.ground.now) c.args.op c.args.member.now c.ask.new.runner _ c.ask.ensures.answer

pub returns-in-Made-clause-alone : goal.returns-in-Made-clause-alone
returns-in-Made-clause-alone g c =
    λ rest s source is. asked_and_pushed _ c.requires.may.0.valid _ c.args.member.now c.args.op rest c.ask.new.runner is c.push.new.member c.in-Made.ensures.answer s source c.requires.may.2.1 c.push.ensures.room

pub returns-in-Not-clause-alone : goal.returns-in-Not-clause-alone
returns-in-Not-clause-alone g c = λ rest s source is. asked_in_vain _ c.requires.may.0.valid _ c.args.member.now c.args.op rest c.ask.new.runner is _ _ c.in-Not.ensures.answer

pub returns-in-Made-clause-asks : goal.returns-in-Made-clause-asks
returns-in-Made-clause-asks g c = record { asked = c.ask.new.runner; answer = _; asks = c.in-Made.ensures.answer; made = λ _. c.push.ensures.kept; other = λ none. absurd (none refl) }

pub returns-in-Not-clause-asks : goal.returns-in-Not-clause-asks
returns-in-Not-clause-asks g c = record { asked = c.ask.new.runner; answer = _; asks = c.in-Not.ensures.answer; made = λ made. absurd (unmade _ _ made); other = λ _. refl }
