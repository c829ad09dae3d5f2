-- What a closed board still has when the rest of its plan is completed, and how far that is done
use Rattle.std.specs.Prelude.{◌≡◌, ℕ, ◌+◌, ◌≤◌, List, map, if◌then◌else◌}
use Rattle.morph_base.specs.declared.plan.Plan.{Plan}
use Rattle.morph_base.specs.declared.plan.Settled.{Settled}
use Rattle.morph_base.specs.declared.word.OpWord.{OpWord}
use Rattle.morph_base.specs.Clean.{from}
use Rattle.morph_base.specs.Graphs.{below}
use Rattle.morph_base.specs.Plans.{op_count, origins_of, final}
use Rattle.morph_base.specs.Words.{is_settled}
use Rattle.op_words.specs.declared.closed.Closed.{Closed}
use Rattle.op_words.specs.declared.trail.View.{View}
use Rattle.op_words.specs.Closing.{IsClosed}

-- The settled values of the sources of operation o, place by place
abbrev pub settled_sources : Plan → ℕ → List ℕ
settled_sources p o = map (from (final p)) (origins_of p o)

-- The worker that settled the operation with this word, or 0 if nobody did
abbrev pub settler : OpWord → ℕ
settler w = if is_settled w.state then w.by else 0

-- The tags are those of the workers that settled the first k operations on the board, with 0 if nobody did
abbrev pub AreSettlers : Plan → Closed → ℕ → List ℕ → Type 0
AreSettlers p closed k tags =
    (cap counters : ℕ) (v : View) (is : IsClosed p cap counters v closed)
    → tags ≡ map (λ o. settler (is.ends.core.word o)) (below k)

-- The list has the values of the first n operations, or of more
pub record HasValues (p : Plan) (n : ℕ) (values : List ℕ) : Type 0 where
  pub many : ℕ
  pub enough : n ≤ many
  pub are : values ≡ map (final p) (below many)

-- The first n operations are completed, and there is room for the others
pub record AreFinishedSoFar (p : Plan) (closed : Closed) (n : ℕ) (r : Settled) : Type 0 where
  pub values : r.values.items ≡ map (final p) (below n)
  pub workers : AreSettlers p closed n r.by.items
  pub value_room : op_count p ≤ r.values.room + n
  pub worker_room : op_count p ≤ r.by.room + n
