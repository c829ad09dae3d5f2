-- The table at the start meets the rule.
use Rattle.std.proofs.Common.{◌≡◌, ℕ, zero, suc, ◌+◌, ◌<◌, List, [], ◌∷◌, refl, sym, ap, subst, arith, Some}
use Rattle.std.specs.Prelude.{sum_by}
use Rattle.std.specs.declared.snapshot.Snapshot.{Snapshot}
use Rattle.std.proofs.lemmas.Option.{same_Some}
use mathlib.Core.Option.{some, some-injective, some-ne-none}
use lib.ListN.{get_elem?}
use Rattle.atomic_table.specs.Table.{opening}
use Rattle.morph_base.specs.Limits.{most_attempts}
use Rattle.morph_base.specs.declared.plan.Plan.{Plan}
use Rattle.morph_base.specs.Graphs.{below}
use Rattle.morph_base.specs.Plans.{IsPlan}
use Rattle.interleaving_core.specs.Core.{start, blocked}
use Rattle.interleaving_core.proofs.Machine.{start_sound}
use Rattle.op_words.specs.declared.trail.View.{View}
use Rattle.op_words.specs.Views.{IsPresent}
use Rattle.op_words.specs.Layout.{Shows, AreFirstWords, record_index, decision_base}
use Rattle.op_words.specs.Rule.{Knows, first_view, Lawful}
use Rattle.op_words.proofs.RecordPlaces.{record_before}
use Rattle.op_words.proofs.Rows.{not_inside}
use Rattle.op_words.proofs.Trailing.{last-none}

shows_start : (p : Plan) (counters : ℕ) (ws : List ℕ) → AreFirstWords p counters ws → Shows p counters start ws
shows_start p counters ws first = record {
  long = first.long;
  ops = first.ops;
  records = λ o j lt few. first.zeros (record_index p o j) (omega arith) (let b = record_before p o j lt few in omega (arith, b));
  decisions = λ i lt. first.zeros (decision_base p + i) (omega arith) (omega (arith, lt));
}

only_view : (a v : View) (i : ℕ) → get_elem? (Some a ∷ []) i ≡ some (Some v) → (i ≡ 0) × (a ≡ v)
only_view a v zero is = (refl, same_Some a v (some-injective (Some a) (Some v) is))
only_view a v (suc i) is = absurd (some-ne-none (Some v) (sym is))

module _ (cap counters : ℕ) (plan : Snapshot Plan) (ws : List ℕ) (valid : IsPlan plan.value) (few : cap < most_attempts) (words : AreFirstWords plan.value counters ws) where
  knows_first : Knows plan.value cap start 1 0 (first_view plan cap)
  knows_first = record {
    plan = refl;
    cap_is = refl;
    tag = omega arith;
    root = λ e. refl;
    other = λ n. refl;
    claim = refl;
    noted = record {
      notes = λ n inside. absurd (not_inside n inside);
      records = λ n inside. absurd (not_inside n inside);
      in_plan = λ n inside. absurd (not_inside n inside);
      decisions = λ n inside. absurd (not_inside n inside);
    };
    trail = record { each = λ n inside. absurd (not_inside n inside) };
    booked = λ n inside. absurd (not_inside n inside);
    few = λ k. omega arith;
    few_joined = λ k. omega arith;
  }

  pub opens : Lawful plan.value cap counters (opening ws [] (Some (first_view plan cap)))
  opens = record {
    valid = valid;
    small = few;
    core = start;
    history = [];
    run = refl;
    sound = start_sound plan.value cap few;
    shows = shows_start plan.value counters ws words;
    hands = λ i v is. let o = only_view (first_view plan cap) v i is in subst (λ j. Knows plan.value cap start 1 j v) (sym o.0) (subst (Knows plan.value cap start 1 0) o.1 knows_first);
    spent = λ i is. refl;
    nobody = λ t more. refl;
    no_worker = refl;
    most = omega arith;
    sums = record { published = λ h. refl; settlings = λ h. refl; events = λ h. refl; tags_are = λ h. let e : h 1 + 0 ≡ h 1 = omega arith in ap (λ (n : ℕ). 0 + n) e };
    numbers = record { each = λ k lt h. sym (ap (λ (n : ℕ). sum_by h (below n)) (words.counters_are k lt)) };
    alone = λ single v is. subst (IsPresent plan.value start) (only_view (first_view plan cap) v 0 is).1 (record { each = λ o lt. sym (last-none o (blocked 1)) });
    only = λ single v is. ap (λ (y : View). y.events) (only_view (first_view plan cap) v 0 is).1;
  }
