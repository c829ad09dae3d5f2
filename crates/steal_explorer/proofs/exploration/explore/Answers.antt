use Rattle.std.proofs.Common.{◌≡◌, ◌+◌, ◌<◌, ◌∙◌, ℕ, List, map, length, refl, sym, ap, subst, arith}
use Rattle.std.specs.Prelude.{All, Contains, flat_map, sum_by, slice_index_or}
use Rattle.std.proofs.lemmas.List.{length-map}
use Rattle.op_words.specs.declared.board.Board.{Board}
use Rattle.op_eval.specs.declared.explored.RunEnd.{RunEnd}
use Rattle.op_eval.specs.declared.explored.RunEnd.TheVariants.{Drained}
use Rattle.op_eval.specs.declared.runners.Runners.{Runners}
use Rattle.op_eval.specs.Gathering.{runners_of, spare}
use Rattle.op_eval.proofs.Seating.{come_back}
use Rattle.steal_explorer.specs.declared.member.Member.{Member}
use Rattle.op_eval.specs.Further.{HaveGoneOn}
use Rattle.steal_explorer.specs.Alone.{BeginsAlone}
use Rattle.steal_explorer.specs.Handed.{workers_of, pushed_by, stolen_from, taken_from, left_in, AreReached, AreAnswered}
use Rattle.steal_explorer.specs.Seating.{runner_of, seat_of}
use Rattle.steal_explorer.specs.HandingOut.{HasHandedOut}
use Rattle.morph_base.specs.Plans.{op_count}
use Rattle.op_words.specs.Hands.{up_to}
use Rattle.std.proofs.lemmas.List.Concat.{length-flat_map}
use Rattle.steal_explorer.proofs.Closing.{begins_alone, handed_alone, unstolen_is, begin_lent, balance_is, drained_is, reached_is, answered_is, further_is, inside_is, explored_is}
use Rattle.steal_explorer.proofs.exploration.explore.Goals as goal
use Rattle.op_eval.specs.Exploring.{rules_on}

pub hand_out-requires-clause-begins : goal.hand_out-requires-clause-begins
hand_out-requires-clause-begins g c κs within =
    begin_lent _ c.args.deques _ _ _ _ c.as_mut_slice.ensures.items c.as_slice.ensures c.requires.deques c.seat_all.ensures.seated
    (λ k d lt. record { hand = c.requires.ready.rest.hands k d lt; free = c.requires.ready.rest.free k d lt })

pub new-requires : goal.new-requires
new-requires g c =
    let law = c.hand_out.ensures.handed_out in
    let back = come_back c.seat_all.new.members.items c.hand_out.new.members (law.len ∙ ap (λ (l : List Member). length l) c.as_mut_slice.ensures.items) in
    explored_is _ _ _ _ law (runners_of c.args.runners) (ap (map runner_of) c.as_mut_slice.ensures.items ∙ c.seat_all.ensures.seated.runners) c.args.board c.args.runners c.unseat_all.new.runners c.requires.plan refl
    c.requires.ready (c.unseat_all.ensures.places (c.seat_all.ensures.places c.requires.ready.places)) (c.unseat_all.ensures.runners ∙ ap (map runner_of) back) c.hand_out.ensures.idle

pub returns-clause-hands : goal.returns-clause-hands
returns-clause-hands g c =
    let law = c.hand_out.ensures.handed_out in
    let back = come_back c.seat_all.new.members.items c.hand_out.new.members (law.len ∙ ap (λ (l : List Member). length l) c.as_mut_slice.ensures.items) in
    subst (HaveGoneOn (runners_of c.args.runners)) (sym (ap (λ (t : Board × Runners × RunEnd × ℕ). runners_of t.1) c.new.ensures.parts ∙ c.unseat_all.ensures.runners ∙ ap (map runner_of) back))
    (further_is _ _ _ _ law (runners_of c.args.runners) (ap (map runner_of) c.as_mut_slice.ensures.items ∙ c.seat_all.ensures.seated.runners))

pub returns-clause-spare : goal.returns-clause-spare
returns-clause-spare g c =
    let law = c.hand_out.ensures.handed_out in
    let many : length c.hand_out.new.members ≡ length c.seat_all.new.members.items = law.len ∙ ap (λ (l : List Member). length l) c.as_mut_slice.ensures.items in
    let back = come_back c.seat_all.new.members.items c.hand_out.new.members many in
    let seated : length c.seat_all.new.members.items ≡ length (runners_of c.args.runners) = sym (length-map c.seat_all.new.members.items runner_of) ∙ ap length c.seat_all.ensures.seated.runners in
    let returned = ap (λ (l : List Member). length l) back in
    let same : spare c.unseat_all.new.runners ≡ spare c.args.runners = omega (arith, many, seated, returned, c.seat_all.ensures.spare, c.unseat_all.ensures.spare) in
    ap (λ (t : Board × Runners × RunEnd × ℕ). spare t.1) c.new.ensures.parts ∙ same

pub returns-clause-balance : goal.returns-clause-balance
returns-clause-balance g c =
    let law = c.hand_out.ensures.handed_out in
    let back = come_back c.seat_all.new.members.items c.hand_out.new.members (law.len ∙ ap (λ (l : List Member). length l) c.as_mut_slice.ensures.items) in
    λ h.
    subst (λ (l : List Member). sum_by h (flat_map pushed_by l) ≡ sum_by h (flat_map taken_from l) + sum_by h (flat_map left_in l)) (sym (c.of-handed.ensures.workers ∙ back))
    (balance_is _ _ _ _ law h)

pub returns-clause-drained : goal.returns-clause-drained
returns-clause-drained g c =
    let law = c.hand_out.ensures.handed_out in
    let back = come_back c.seat_all.new.members.items c.hand_out.new.members (law.len ∙ ap (λ (l : List Member). length l) c.as_mut_slice.ensures.items) in
    λ end.
    ap (λ (l : List Member). flat_map left_in l) (c.of-handed.ensures.workers ∙ back)
    ∙ drained_is _ _ _ _ law
    (subst (All (λ m. m.end ≡ Drained)) (c.as_slice-2.ensures ∙ back)
    (c.end_of-end.ensures.drained (sym (ap (λ (t : Board × Runners × RunEnd × ℕ). t.2) c.new.ensures.parts) ∙ end)))

pub returns-clause-reached : goal.returns-clause-reached
returns-clause-reached g c =
    let law = c.hand_out.ensures.handed_out in
    let back = come_back c.seat_all.new.members.items c.hand_out.new.members (law.len ∙ ap (λ (l : List Member). length l) c.as_mut_slice.ensures.items) in
    let p = c.args.plan.now in
    subst (AreReached p (flat_map taken_from (workers_of c.of-handed.result))) (sym (ap (λ (t : Board × Runners × RunEnd × ℕ). runners_of t.1) c.new.ensures.parts ∙ c.unseat_all.ensures.runners ∙ ap (map runner_of) back))
    (subst (λ (l : List Member). AreReached p (flat_map taken_from l) (map runner_of c.hand_out.new.members)) (sym (c.of-handed.ensures.workers ∙ back)) (reached_is _ _ _ _ law))

pub returns-clause-answers : goal.returns-clause-answers
returns-clause-answers g c =
    let law = c.hand_out.ensures.handed_out in
    let back = come_back c.seat_all.new.members.items c.hand_out.new.members (law.len ∙ ap (λ (l : List Member). length l) c.as_mut_slice.ensures.items) in
    subst (AreAnswered (flat_map taken_from (workers_of c.of-handed.result))) (sym (ap (λ (t : Board × Runners × RunEnd × ℕ). runners_of t.1) c.new.ensures.parts ∙ c.unseat_all.ensures.runners ∙ ap (map runner_of) back))
    (subst (λ (l : List Member). AreAnswered (flat_map taken_from l) (map runner_of c.hand_out.new.members)) (sym (c.of-handed.ensures.workers ∙ back)) (answered_is _ _ _ _ law))

pub returns-clause-inside : goal.returns-clause-inside
returns-clause-inside g c =
    let law = c.hand_out.ensures.handed_out in
    let back = come_back c.seat_all.new.members.items c.hand_out.new.members (law.len ∙ ap (λ (l : List Member). length l) c.as_mut_slice.ensures.items) in
    λ x. subst (λ (l : List Member). Contains (flat_map taken_from l) x → x < op_count c.args.plan.now) (sym (c.of-handed.ensures.workers ∙ back)) (inside_is _ _ _ _ law x)

pub returns-clause-turns : goal.returns-clause-turns
returns-clause-turns g c =
    let law = c.hand_out.ensures.handed_out in
    let back = come_back c.seat_all.new.members.items c.hand_out.new.members (law.len ∙ ap (λ (l : List Member). length l) c.as_mut_slice.ensures.items) in
    record {
      begun = c.as_mut_slice.result.now;
      runners = ap (map runner_of) c.as_mut_slice.ensures.items ∙ c.seat_all.ensures.seated.runners;
      seats = ap (map seat_of) c.as_mut_slice.ensures.items ∙ c.seat_all.ensures.seated.seats;
      handed_out =
          subst (λ ts. HasHandedOut (rules_on c.args.board c.args.plan.now c.args.units.now.units c.args.abort) ts c.as_mut_slice.result.now (workers_of c.of-handed.result)) c.as_slice.ensures
          (subst (HasHandedOut (rules_on c.args.board c.args.plan.now c.args.units.now.units c.args.abort) c.as_slice.result.now c.as_mut_slice.result.now) (sym (c.of-handed.ensures.workers ∙ back)) law);
    }

pub returns-clause-end : goal.returns-clause-end
returns-clause-end g c =
    let same = ap (λ (t : Board × Runners × RunEnd × ℕ). t.2) c.new.ensures.parts in
    λ other. same ∙ c.end_of-end.ensures.spent (λ drained. other (same ∙ drained))

pub returns-clause-ended : goal.returns-clause-ended
returns-clause-ended g c =
    let same = ap (λ (t : Board × Runners × RunEnd × ℕ). t.2) c.new.ensures.parts in
    let shown = c.of-handed.ensures.workers ∙ sym c.as_slice-2.ensures in (
      (λ end. subst (All (λ m. m.end ≡ Drained)) (sym shown) (c.end_of-end.ensures.drained (sym same ∙ end))),
      (λ all. same ∙ c.end_of-end.ensures.all (subst (All (λ m. m.end ≡ Drained)) shown all)),
    )

pub of-handed-requires : goal.of-handed-requires
of-handed-requires g c =
    let law = c.hand_out.ensures.handed_out in
    let back = come_back c.seat_all.new.members.items c.hand_out.new.members (law.len ∙ ap (λ (l : List Member). length l) c.as_mut_slice.ensures.items) in
    subst (All (λ m. m.handed ≡ up_to (length (pushed_by m)))) (sym back) (λ k d lt. law.handed k d (subst (λ n. k < n) law.len lt))

pub returns-clause-handed : goal.returns-clause-handed
returns-clause-handed g c =
    c.of-handed.ensures.handed
    ∙ ap (λ (l : List Member). up_to (sum_by (λ m. length (pushed_by m)) l)) (sym c.of-handed.ensures.workers)
    ∙ ap up_to (sym (length-flat_map pushed_by (workers_of c.of-handed.result)))

pub returns-clause-stolen : goal.returns-clause-stolen
returns-clause-stolen g c =
    let law = c.hand_out.ensures.handed_out in
    let back = come_back c.seat_all.new.members.items c.hand_out.new.members (law.len ∙ ap (λ (l : List Member). length l) c.as_mut_slice.ensures.items) in
    c.of-handed.ensures.stolen
    ∙ ap (λ (l : List Member). up_to (sum_by (λ (m : Member). m.stolen) l)) back
    ∙ law.stolen
    ∙ ap (λ (l : List Member). up_to (sum_by (λ (m : Member). length (stolen_from m)) l)) (sym (c.of-handed.ensures.workers ∙ back))
    ∙ ap up_to (sym (length-flat_map stolen_from (workers_of c.of-handed.result)))

pub returns-clause-alone : goal.returns-clause-alone
returns-clause-alone g c = λ lazy some root.
    let law = c.hand_out.ensures.handed_out in
    let back = come_back c.seat_all.new.members.items c.hand_out.new.members (law.len ∙ ap (λ (l : List Member). length l) c.as_mut_slice.ensures.items) in
    let single : length c.as_slice.result.now ≡ 1 = ap length c.as_slice.ensures ∙ sym c.requires.deques.len ∙ sym c.requires.workers ∙ root.one in
    handed_alone _ _ _ _ c.hand_out.new.members (c.of-handed.ensures.workers ∙ back)
    (ap (λ (t : Board × Runners × RunEnd × ℕ). runners_of t.1) c.new.ensures.parts ∙ c.unseat_all.ensures.runners ∙ ap (map runner_of) back)
    (λ all. ap (λ (t : Board × Runners × RunEnd × ℕ). t.2) c.new.ensures.parts ∙ c.end_of-end.ensures.all (subst (All (λ m. m.end ≡ Drained)) (sym (c.as_slice-2.ensures ∙ back)) all))
    (law.len ∙ ap (λ (l : List Member). length l) c.as_mut_slice.ensures.items ∙ sym (length-map c.seat_all.new.members.items runner_of) ∙ ap length c.seat_all.ensures.seated.runners ∙ root.one)
    (λ d.
    c.hand_out.ensures.alone d lazy some single
    (subst (λ (l : List Member). BeginsAlone c.args.plan.now (slice_index_or l 0 d)) (sym c.as_mut_slice.ensures.items)
    (begins_alone c.args.plan.now c.args.deques (runners_of c.args.runners) c.seat_all.new.members.items c.requires.deques c.seat_all.ensures.seated c.requires.valid root d)))

pub returns-clause-unstolen : goal.returns-clause-unstolen
returns-clause-unstolen g c = λ one.
    let law = c.hand_out.ensures.handed_out in
    let back = come_back c.seat_all.new.members.items c.hand_out.new.members (law.len ∙ ap (λ (l : List Member). length l) c.as_mut_slice.ensures.items) in
    let single : length c.as_slice.result.now ≡ 1 = ap length c.as_slice.ensures ∙ sym c.requires.deques.len ∙ sym c.requires.workers ∙ one in
    ap (λ (l : List Member). flat_map stolen_from l) (c.of-handed.ensures.workers ∙ back)
    ∙ unstolen_is _ _ _ _ law single
