use Rattle.std.proofs.Common.{ap, ◌∙◌, inl, inr}
use Rattle.morph_base.specs.Flat.{contents}
use Rattle.morph_engine.specs.Accounts.{account_of}
use Rattle.morph_cli.proofs.TakenBatches.{takes_told}
use Rattle.morph_cli.proofs.Watches.{may_publish, noted_by_settings}
use Rattle.morph_cli.proofs.take_batch.take_batch.Goals as goal

pub tell_and_publish-requires-clause-room : goal.tell_and_publish-requires-clause-room
tell_and_publish-requires-clause-room g c = c.requires.room (account_of c.in_ok-ran.ran.end) c.in_ok-ran.ensures.ran.made.valid.plan c.in_ok-ran.ensures.ran.account

pub tell_and_publish-requires-clause-bases : goal.tell_and_publish-requires-clause-bases
tell_and_publish-requires-clause-bases g c =
    (may_publish c.args.progress.now.engine.layout c.args.tally.now.batches (contents c.args.progress.now.engine) c.args.progress.now.watching c.run_watched.new.watching c.in_ok-ran.ran.end.plan
    c.requires.shown c.in_ok-ran.ensures.watching c.in_ok-ran.ensures.ran.keys c.in_ok-ran.ensures.ran.made.bases c.requires.few).1

pub returns-clause-takes : goal.returns-clause-takes
returns-clause-takes g c =
    takes_told _ _ _ _ (record { end = c.in_ok-ran.ran.end; audit = c.in_ok-ran.ran.audit; ran = c.in_ok-ran.ensures.ran; seen = c.in_ok-ran.ensures.audit; adds = c.tell_and_publish.ensures.adds })
    (ap contents c.tell_and_publish.ensures.engine ∙ c.in_ok-ran.ensures.state) c.in_ok-ran.ensures.watching c.tell_and_publish.result c.tell_and_publish.ensures.tells

pub returns-clause-steady : goal.returns-clause-steady
returns-clause-steady g c = c.tell_and_publish.ensures.steady

pub returns-clause-cause : goal.returns-clause-cause
returns-clause-cause g c = λ failed. elim (c.tell_and_publish.ensures.cause failed) [
  | inl risen ↦ inl risen
  | inr risen ↦ inr (noted_by_settings c.args.job.now.settings c.args.progress.now.watching c.in_ok-ran.ran.audit c.requires.watch c.in_ok-ran.ensures.audit risen.0, risen.1)
]
