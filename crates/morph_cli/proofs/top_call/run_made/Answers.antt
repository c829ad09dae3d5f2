use Rattle.std.proofs.Common.{Some, None, ap, ◌∙◌, arith, subst}
use Rattle.std.specs.Prelude.{option_map}
use Rattle.morph_cli.specs.Outputs.{outputs_of}
use Rattle.morph_cli.specs.Requests.{request_of}
use Rattle.morph_cli.specs.Status.{status_of}
use Rattle.morph_cli.specs.Tallies.{RunTold}
use Rattle.event_reader.specs.declared.limits.TheConstants.{INPUT_BYTES}
use Rattle.event_reader.specs.Accepted.{Accepted, accepted_within}
use Rattle.event_reader.specs.GeneratedText.{generated_text, generated_left}
use Rattle.morph_cli.specs.Apps.{telling_by}
use Rattle.morph_cli.specs.Runs.{EndsSo}
use Rattle.morph_cli.proofs.Inputs.{left_apart, made_ends}
use Rattle.morph_cli.proofs.top_call.run_made.Goals as goal

pub returns-clause-run : goal.returns-clause-run
returns-clause-run g c =
    let meaning = g.A.EventApp.event_of c.args.job.now.app c.args.job.now.settings.size in
    let telling = telling_by c.args.job.now.settings.generated (g.A.EventApp.table_count c.args.job.now.app) c.args.job.now.settings.size (g.A.EventApp.name_of c.args.job.now.app) in
    let left = Some (generated_left g.A.MakesInput.generated c.run.new.source) in
    let old = g.K.Sink.written c.args.sink.now in
    let new = g.K.Sink.written c.run.new.sink in
    let does = c.run.ensures.run in
    record {
      ends = left_apart meaning telling INPUT_BYTES (generated_text (g.A.MakesInput.generated c.args.job.now.app c.args.job.now.settings.size) c.args.generated.seed c.args.generated.events) left None old new c.run.result
          (λ is. let risen = does.faults.read is in absurd (omega (arith, risen (omega arith))))
          (subst (λ text. EndsSo meaning telling INPUT_BYTES text left old c.run.result new) (ap (generated_left g.A.MakesInput.generated) c.new-source.ensures) does.ends);
      told = subst (λ text. RunTold (request_of (g.A.EventApp.event_of c.args.job.now.app) (g.A.EventApp.table_count c.args.job.now.app) (g.A.EventApp.name_of c.args.job.now.app) c.args.job.now.settings (Some text))
          (option_map (accepted_within meaning INPUT_BYTES) (Some text)) (status_of c.run.result) c.run.new.tally
          (outputs_of (g.K.Sink.written c.args.sink.now) (g.N.Sink.written c.args.notes.now)) (outputs_of (g.K.Sink.written c.run.new.sink) (g.N.Sink.written c.run.new.notes)))
          (ap (generated_left g.A.MakesInput.generated) c.new-source.ensures) does.told;
      faults = does.faults;
    }

pub returns-clause-made : goal.returns-clause-made
returns-clause-made g c =
    let size = c.args.job.now.settings.size in
    let meaning = g.A.EventApp.event_of c.args.job.now.app size in
    let text = generated_text (g.A.MakesInput.generated c.args.job.now.app size) c.args.generated.seed c.args.generated.events in
    let telling = telling_by c.args.job.now.settings.generated (g.A.EventApp.table_count c.args.job.now.app) size (g.A.EventApp.name_of c.args.job.now.app) in
    let left = Some (generated_left g.A.MakesInput.generated c.run.new.source) in
    let old = g.K.Sink.written c.args.sink.now in
    let new = g.K.Sink.written c.run.new.sink in
    let few = rw c.requires.generated at c.requires.settings.generated in
    let law = c.generated_text_is_accepted.ensures in
    made_ends meaning telling INPUT_BYTES text left None old new c.run.result
    (λ is. let risen = c.run.ensures.run.faults.read is in absurd (omega (arith, risen (omega arith))))
    (ap (λ (a : Accepted). a.ending) (law.within c.args.job.now.app size c.args.generated.seed c.args.generated.events c.requires.settings.some_ids c.requires.settings.few_ids few.1)
    ∙ law.ended c.args.job.now.app size c.args.generated.seed c.args.generated.events c.requires.settings.some_ids c.requires.settings.few_ids few.1)
    (subst (λ t. EndsSo meaning telling INPUT_BYTES t left old c.run.result new) (ap (generated_left g.A.MakesInput.generated) c.new-source.ensures) c.run.ensures.run.ends)
