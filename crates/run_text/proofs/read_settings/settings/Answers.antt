use Rattle.std.proofs.Common.{map, rules}
use Rattle.run_text.proofs.NoSettingsLaws.{none_asked}
use Rattle.run_text.proofs.read_settings.settings.Goals as goal

pub returns-then-not-are_known-clause-none : goal.returns-then-not-are_known-clause-none
returns-then-not-are_known-clause-none c = none_asked (map (λ word. word.items) c.args.words.now) _ (search rules)

pub returns-in_err-input_of-clause-none : goal.returns-in_err-input_of-clause-none
returns-in_err-input_of-clause-none c = none_asked (map (λ word. word.items) c.args.words.now) _ (search rules)

pub returns-clause-none : goal.returns-clause-none
returns-clause-none c = none_asked (map (λ word. word.items) c.args.words.now) _ (search rules)
