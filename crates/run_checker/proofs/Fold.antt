-- What a journal settles is the fold's.
use Rattle.std.proofs.Common.{◌≡◌, ℕ, ◌<◌, List, [], reverse, refl, sym, ◌∙◌, subst, append-nil}
use Rattle.morph_base.specs.declared.plan.Plan.{Plan}
use Rattle.morph_base.specs.Limits.{most_attempts}
use Rattle.morph_base.specs.Plans.{IsPlan, op_count, final}
use Rattle.interleaving_core.specs.declared.event.CoreEvent.{CoreEvent}
use Rattle.interleaving_core.specs.Core.{Core, start, IsSettledIn, value_in}
use Rattle.interleaving_core.specs.Steps.{Run}
use Rattle.interleaving_core.specs.Orders.{Leads}
use Rattle.interleaving_core.proofs.Machine.{run_sound, is_fold}
use Rattle.interleaving_core.proofs.Ordering.{leads_run}
use Rattle.run_checker.specs.Replay.{AllSettled}
use Rattle.run_checker.specs.Answers.{Difference, AreFold, IsBorneOut, IsUnsettledAt, IsUnlikeAt, SettlesFold, SettlesWholeFold}

module _ (p : Plan) (cap : ℕ) where
  run_of : (journal : List CoreEvent) (c : Core) → Leads p cap start journal c → Run p cap (reverse journal) c
  run_of journal c leads = subst (λ (es : List CoreEvent). Run p cap es c) (append-nil (reverse journal)) (leads_run p cap [] journal start c refl leads)

  pub settled_fold : (journal : List CoreEvent) (c : Core) (o : ℕ) → IsPlan p → cap < most_attempts → Leads p cap start journal c
      → o < op_count p → IsSettledIn c o → value_in c o ≡ final p o
  settled_fold journal c o valid small leads inside settled =
      (is_fold p cap valid c (run_sound p cap valid small (reverse journal) c (run_of journal c leads))).values o inside settled

  whole_fold : (journal : List CoreEvent) (c : Core) → IsPlan p → cap < most_attempts → Leads p cap start journal c → AllSettled p c → SettlesWholeFold p cap journal
  whole_fold journal c valid small leads settled = record {
    state = c;
    leads = leads;
    settled = settled;
    values = λ o inside. settled_fold journal c o valid small leads inside (settled o inside);
  }

  pub yes_fold : (journal : List CoreEvent) (values : List ℕ) → IsPlan p → cap < most_attempts → IsBorneOut p cap journal values
      → SettlesWholeFold p cap journal × AreFold p values
  yes_fold journal values valid small says = (
    whole_fold journal says.state valid small says.leads says.settled,
    record { each = λ o inside. sym (says.same o inside) ∙ settled_fold journal says.state o valid small says.leads inside (says.settled o inside) },
  )

  pub unsettled_fold : (journal : List CoreEvent) (op : ℕ) → IsPlan p → cap < most_attempts → IsUnsettledAt p cap journal op → SettlesFold p cap journal
  unsettled_fold journal op valid small says = record {
    state = says.state;
    leads = says.leads;
    values = λ o inside settled. settled_fold journal says.state o valid small says.leads inside settled;
  }

  pub differs_fold : (journal : List CoreEvent) (values : List ℕ) (d : Difference) → IsPlan p → cap < most_attempts → IsUnlikeAt p cap journal values d
      → SettlesWholeFold p cap journal
  differs_fold journal values d valid small says = whole_fold journal says.state valid small says.leads says.settled

  pub fold_yes : (journal : List CoreEvent) (c : Core) (values : List ℕ) → IsPlan p → cap < most_attempts → Leads p cap start journal c → AllSettled p c
      → AreFold p values → IsBorneOut p cap journal values
  fold_yes journal c values valid small leads settled are = record {
    state = c;
    leads = leads;
    settled = settled;
    same = λ o inside. settled_fold journal c o valid small leads inside (settled o inside) ∙ sym (are.each o inside);
  }
