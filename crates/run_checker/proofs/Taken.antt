-- What the machine takes has lines.
use Rattle.std.proofs.Common.{◌≡◌, ℕ, ◌+◌, ◌<◌, ◌≤◌, List, [], ◌∷◌, arith, inl, inr}
use Rattle.std.specs.List.{All}
use Rattle.std.proofs.lemmas.Bool.{cases_lt}
use Rattle.std.proofs.lemmas.List.{length-take}
use Rattle.std.proofs.lemmas.List.Elements.{All-nil, All-cons}
use Rattle.morph_base.specs.declared.plan.Plan.{Plan}
use Rattle.morph_base.specs.Limits.{most_attempts}
use Rattle.morph_base.specs.Plans.{IsPlan, op_count, op_at, origin_at}
use Rattle.morph_base.proofs.BoundLaws.{high_of-small}
use Rattle.morph_base.proofs.NumberLaws.{op_count-small}
use Rattle.interleaving_core.specs.declared.event.CoreEvent.{CoreEvent}
use Rattle.interleaving_core.specs.declared.event.CoreEvent.TheVariants.{Ready, Claim, Fetch, Finish, GiveBack, Spread, RollBack, Decide, Settle}
use Rattle.interleaving_core.specs.Core.{Core, start, places, IsVersion}
use Rattle.interleaving_core.specs.Steps.{IsWorker, May, MayFetch, after}
use Rattle.interleaving_core.specs.Soundness.{IsSound}
use Rattle.interleaving_core.specs.Orders.{Leads}
use Rattle.interleaving_core.proofs.Machine.{start_sound, step_keeps}
use Rattle.interleaving_core.proofs.Sources.{version_small, version_from_settled}
use Rattle.run_checker.specs.Lines.{greatest_id, greatest_small, greatest_value, HasLine, text_of}
use Rattle.run_checker.specs.LineEvents.{Says}
use Rattle.run_checker.proofs.TextLaws.{text_read}

module _ (p : Plan) (cap : ℕ) (valid : IsPlan p) (small : cap < most_attempts) where
  op_id : (o : ℕ) → o < op_count p → o ≤ greatest_id
  op_id o inside = omega (arith, op_count-small p valid, inside)

  worker_small : (t : ℕ) → IsWorker t → t ≤ greatest_small
  worker_small t worker = omega (arith, worker.last)

  place_small : (o j : ℕ) → o < op_count p → j < places p o → j ≤ greatest_small
  place_small o j inside below =
      let many = length-take (op_at p o).op.n_params (op_at p o).op.params in
      let few = (valid.numbering.shaped o inside).places in
      omega (arith, many, few, below)

  -- what is fetched is a version, also at the last attempt
  version : (c : Core) (o j t x : ℕ) → IsSound p cap c → MayFetch p cap c o j t x → IsVersion c (origin_at p o j) x
  version c o j t x sound may =
      elim (cases_lt cap (c.word o).attempt) [
        | inl above ↦
            let most = (sound.each_op o may.goes_from.in_range).range.most in
            let last : (c.word o).attempt ≡ cap + 1 = omega (arith, most, above) in
            version_from_settled c (origin_at p o j) x (may.settled_at_last last)
        | inr below ↦ may.version below
      ]

  value_small : (c : Core) (o j t x : ℕ) → IsSound p cap c → MayFetch p cap c o j t x → x ≤ greatest_value
  value_small c o j t x sound may =
      let low = version_small p cap valid c sound o j x may.goes_from.in_range may.in_places (version c o j t x sound may) in
      omega (arith, low, high_of-small p valid)

  pub event_has_line : (c : Core) (e : CoreEvent) → IsSound p cap c → May p cap c e → HasLine e
  event_has_line c (Ready o) sound may = op_id o may.in_range
  event_has_line c (Claim o t) sound may = (op_id o may.in_range, worker_small t may.worker)
  event_has_line c (Fetch o j t x) sound may =
      let claim = may.goes_from in (op_id o claim.in_range, place_small o j claim.in_range may.in_places, worker_small t claim.worker, value_small c o j t x sound may)
  event_has_line c (Finish o t) sound may = (op_id o may.goes_from.in_range, worker_small t may.goes_from.worker)
  event_has_line c (GiveBack o t) sound may = (op_id o may.in_range, worker_small t may.worker)
  event_has_line c (Spread o sibling) sound may = (op_id o may.in_range, op_id sibling may.sibling_in_range)
  event_has_line c (RollBack o j) sound may = (op_id o may.in_range, place_small o j may.in_range may.in_places)
  event_has_line c (Decide i committed) sound may = omega (arith, valid.numbering.few, may.in_range)
  event_has_line c (Settle o t) sound may = (op_id o may.in_range, worker_small t may.worker)

  journal_has_lines : (es : List CoreEvent) (b c : Core) → IsSound p cap b → Leads p cap b es c → All HasLine es
  unfolding Leads
  journal_has_lines [] b c sound leads = All-nil HasLine
  journal_has_lines (e ∷ es) b c sound leads =
      All-cons HasLine e es (event_has_line b e sound leads.0)
      (journal_has_lines es (after p b e) c (step_keeps p cap valid small b sound e leads.0) leads.1)

  pub journal_text : (journal : List CoreEvent) (c : Core) → Leads p cap start journal c → Says (text_of journal) journal
  journal_text journal c leads = text_read journal (journal_has_lines journal start c (start_sound p cap small) leads)
