use Rattle.std.proofs.Common.{◌≡◌, ℕ, ◌-◌, [], ◌++◌, List, None, length, ap, sym, subst, ◌∙◌, arith}
use Rattle.std.specs.Prelude.{All}
use Rattle.morph_base.specs.Flat.{Kept}
use Rattle.event_reader.specs.Versions.{greatest_of}
use Rattle.rtrb.specs.Ring.{known_items, producer_capacity}
use Rattle.batch_pipe.specs.declared.items.Sent.{Sent}
use Rattle.batch_pipe.specs.PlannedBatches.{IsReadyPlan, AreNumbered}
use Rattle.decision_model.specs.Choices.{no_last}
use Rattle.batch_pipe.specs.PipeRounds.{PipeView}
use Rattle.batch_pipe.proofs.Ahead.{numbered-none}
use Rattle.batch_pipe.proofs.pipe.Pipe.new.Goals as goal

pub invariant_of-result : goal.invariant_of-result
invariant_of-result g c =
    let p = c.in_ok-producer.ensures in
    let none : known_items c.in_ok-producer.consumer ≡ [] = p.consumer.1 in
    let few = ap length none in
    let zero_is : 0 - length (known_items c.in_ok-producer.consumer) ≡ 0 = omega (arith, few) in
    record {
      pair = p.pair;
      fifo = ap (λ l. l ++ known_items c.in_ok-producer.consumer) p.consumer.0 ∙ none ∙ sym p.producer.0;
      room = omega (arith, few);
      free = omega (arith, p.producer.1, p.producer.2);
      small = c.requires.small;
      ready = subst (All (λ (x : Sent). IsReadyPlan c.args.engine.layout (greatest_of c.args.reader.past.version) x.plan)) (sym none) (λ k d lt. absurd (omega arith));
      numbered = subst (λ (n : ℕ). AreNumbered n (known_items c.in_ok-producer.consumer)) (sym zero_is) (subst (λ (l : List Sent). AreNumbered 0 l) (sym none) (numbered-none 0));
      number = omega (arith, few);
      counted = omega arith;
      layout = c.requires.layout;
      able = λ e. record { live = c.requires.live; layout = c.layout.ensures.layout ∙ ap (λ (k : Kept). k.layout) c.state.ensures ∙ c.requires.layout; counted = omega arith };
    }

pub returns : goal.returns
returns g c =
    let p = c.in_ok-producer.ensures in
    let at : List Sent → ℕ → PipeView g.row.A.Denot = λ waiting ahead. record {
      reader = c.args.reader;
      engine = c.args.engine;
      waiting = waiting;
      sent = 0;
      last = no_last;
      tail = None;
      ahead = ahead;
    } in
    ap (λ w. at w (producer_capacity c.in_ok-producer.producer)) p.consumer.1 ∙ ap (at []) p.producer.2
