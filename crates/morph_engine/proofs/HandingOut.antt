-- What exploring by deques handed out.
use Rattle.std.proofs.Common.{◌≡◌, ℕ, ◌+◌, ◌<◌, ◌≤◌, List, [], ◌∷◌, length, refl, arith}
use Rattle.std.specs.Prelude.{Contains, sum_by}
use Rattle.std.proofs.lemmas.List.Sums.{sum_by-cons, sum_by-append, sum_by-le-sum_by}
use Rattle.morph_base.specs.declared.strategy.Abort.TheVariants.{Lazy}
use Rattle.morph_base.specs.Plans.{op_count}
use Rattle.op_words.specs.Hands.{up_to}
use Rattle.op_eval.specs.declared.explored.Explored.{Explored}
use Rattle.op_eval.specs.declared.explored.RunEnd.TheVariants.{Drained}
use Rattle.op_eval.specs.declared.runner.Runner.{Runner}
use Rattle.op_eval.specs.Alone.{IsNewRoot}
use Rattle.op_eval.specs.Gathering.{runners_of}
use Rattle.op_eval.specs.Exploring.{RunRules}
use Rattle.steal_explorer.specs.declared.deques.Deques.{Deques}
use Rattle.steal_explorer.specs.declared.exploration.Handed.{Handed}
use Rattle.steal_explorer.specs.declared.member.Member.{Member}
use Rattle.steal_explorer.specs.Alone.{IsHandedAlone}
use Rattle.steal_explorer.specs.Handed.{workers_of, pushed_of, taken_from, taken_of, unserved_of, stolen_of, AreReached, HasTurns}
use Rattle.steal_explorer.specs.Members.{own}
use Rattle.steal_explorer.specs.Seating.{AreReady}
use Rattle.steal_explorer.proofs.Closing.{sum_flat}
use Rattle.steal_explorer.proofs.Pushing.{pushed_least}
use Rattle.morph_engine.specs.Exploring.{Items, AreBalanced, HaveHanded}

-- each element weighs 1
abbrev pub one : ℕ → ℕ
one x = 1

pub weight_one : (xs : List ℕ) → sum_by one xs ≡ length xs
weight_one [] = refl
weight_one (x ∷ xs) = let first = sum_by-cons one x xs in let rest = weight_one xs in omega arith

abbrev stolen_from : Member → List ℕ
stolen_from m = (own m).stolen

abbrev items_of : Handed → Items
items_of x = record { pushed = pushed_of x; taken = taken_of x; unserved = unserved_of x; stolen = stolen_of x }

-- what a worker stole is among what it took
stolen_least : (x : Handed) (h : ℕ → ℕ) → sum_by h (stolen_of x) ≤ sum_by h (taken_of x)
stolen_least x h =
    let stolen = sum_flat h stolen_from (workers_of x) in
    let taken = sum_flat h taken_from (workers_of x) in
    let least =
    sum_by-le-sum_by (λ (m : Member). sum_by h (stolen_from m)) (λ (m : Member). sum_by h (taken_from m)) (workers_of x)
    (λ m. let both = sum_by-append h (own m).popped (own m).stolen in omega arith) in
    omega arith

module _ (rules : RunRules) (d : Deques) (rs : List Runner) (x : Handed) (turns : HasTurns rules d rs x) where
  handed_balance : AreReady rules.plan d → ((h : ℕ → ℕ) → sum_by h (pushed_of x) ≡ sum_by h (taken_of x) + sum_by h (unserved_of x)) → x.handed ≡ up_to (length (pushed_of x)) → x.stolen ≡ up_to (length (stolen_of x)) → AreBalanced rules.plan (items_of x) x.handed x.stolen
  handed_balance ready balance handed stolen = record {
    balance = balance;
    dealt = λ h. let first = ready.dealt h in let least = pushed_least _ _ _ _ turns h in omega arith;
    by_steals = stolen_least x;
    handed_is = handed;
    stolen_is = stolen;
  }

  pub have_handed : (e : Explored)
      → AreReady rules.plan d
      → ((h : ℕ → ℕ) → sum_by h (pushed_of x) ≡ sum_by h (taken_of x) + sum_by h (unserved_of x))
      → x.handed ≡ up_to (length (pushed_of x))
      → x.stolen ≡ up_to (length (stolen_of x))
      → ((o : ℕ) → Contains (taken_of x) o → o < op_count rules.plan)
      → AreReached rules.plan (taken_of x) (runners_of e.runners)
      → (e.end ≡ Drained → unserved_of x ≡ [])
      → (length rs ≡ 1 → stolen_of x ≡ [])
      → (rules.abort ≡ Lazy → IsNewRoot rs → IsHandedAlone rules.plan e.end x (runners_of e.runners))
      → e.next_counter ≡ 0
      → HaveHanded rules.plan rules.abort rs e x.handed x.stolen
  have_handed e ready balance handed stolen inside reached drained unstolen alone unused = record {
    unused = unused;
    items = items_of x;
    balanced = handed_balance ready balance handed stolen;
    inside = inside;
    reached = reached;
    alone = λ new. record {
      own = unstolen new.one;
      once = λ lazy. (alone lazy new).pushed;
      served = λ lazy. drained (alone lazy new).drained;
    };
  }
