-- What a teller keeps over a round, and a round as it is seen of its teller.
use Rattle.std.proofs.Common.{◌≡◌, ◌⊎◌, inl, inr, ℕ, Bool, true, List, [], ◌∷◌, Option, Some, ap, ◌∙◌}
use Rattle.std.specs.Prelude.{◌≢◌}
use Rattle.event_reader.specs.Steps.{Meaning}
use Rattle.batch_pipe.specs.declared.items.Ran.{Ran}
use Rattle.batch_pipe.specs.declared.tail.Tail.TheVariants.{Untold}
use Rattle.batch_pipe.specs.Results.{AreTaken, AreRefused}
use Rattle.batch_pipe.specs.PlanRuns.{Manner}
use Rattle.batch_pipe.specs.PipeRounds.{PipeView, IsRound}
use Rattle.batch_pipe.proofs.Rounds.{told_or}

module _ {Teller : Type 0} (takes : Teller → Ran → Bool → Teller → Type 0) where
  -- what no result changes stays
  module _ {Part : Type 0} (part : Teller → Part) (same : (a b : Teller) (r : Ran) (all : Bool) → takes a r all b → part b ≡ part a) where
    taken_keeps : (rs : List Ran) (a b : Teller) → AreTaken takes a rs b → part b ≡ part a
    unfolding AreTaken
    taken_keeps [] a b taken = ap part taken
    taken_keeps (r ∷ rs) a b taken = taken_keeps rs taken.0 b taken.2 ∙ same a taken.0 r true taken.1

    pub round_keeps : {App : Type 0} {event_of : App → ℕ → Meaning} {m : Manner} {v w : PipeView App} {left left' : Option (List ℕ)} {a b : Teller} →
        IsRound event_of takes m v left a w left' b → part b ≡ part a
    round_keeps {w = w} {a = a} {b = b} q = by (told_or w.tail)
      where
        by : (w.tail ≡ Some Untold) ⊎ (w.tail ≢ Some Untold) → part b ≡ part a
        by (inl untold) = (let r = q.untold untold in same r.between b r.last _ r.refused ∙ taken_keeps r.taken a r.between r.before)
        by (inr told) = taken_keeps q.rans a b (q.told told)

  -- a round, as it is seen of what a view shows of the teller
  module _ {View : Type 0} (tells : View → Ran → Bool → View → Type 0) (view : Teller → View) (seen : (a b : Teller) (r : Ran) (all : Bool) → takes a r all b → tells (view a) r all (view b)) where
    taken_seen : (rs : List Ran) (a b : Teller) → AreTaken takes a rs b → AreTaken tells (view a) rs (view b)
    unfolding AreTaken
    taken_seen [] a b taken = ap view taken
    taken_seen (r ∷ rs) a b taken = (view taken.0, seen a taken.0 r true taken.1, taken_seen rs taken.0 b taken.2)

    refused_seen : (rs : List Ran) (a b : Teller) → AreRefused takes a rs b → AreRefused tells (view a) rs (view b)
    refused_seen rs a b q = record {
      taken = q.taken;
      last = q.last;
      between = view q.between;
      parts = q.parts;
      before = taken_seen q.taken a q.between q.before;
      refused = seen q.between b q.last _ q.refused;
    }

    pub round_seen : {App : Type 0} {event_of : App → ℕ → Meaning} {m : Manner} {v w : PipeView App} {left left' : Option (List ℕ)} {a b : Teller} →
        IsRound event_of takes m v left a w left' b → IsRound event_of tells m v left (view a) w left' (view b)
    round_seen {a = a} {b = b} q = record {
      more = q.more;
      stop = q.stop;
      plans = q.plans;
      runs = q.runs;
      lost = q.lost;
      parts = q.parts;
      rans = q.rans;
      run = q.run;
      state_is = q.state_is;
      last_is = q.last_is;
      told = λ other. taken_seen q.rans a b (q.told other);
      untold = λ is. refused_seen q.rans a b (q.untold is);
      later = q.later;
      sent_is = q.sent_is;
      numbered = q.numbered;
      idle = q.idle;
      enough = q.enough;
      stop_is = q.stop_is;
      whole = q.whole;
      met = q.met;
      refused = q.refused;
      layout = q.layout;
      ahead_is = q.ahead_is;
    }
