-- How many of the workers take part in a batch
use Rattle.std.specs.Prelude.{◌≡◌, ℕ, ◌/◌, ◌≤◌, ◌⊎◌, max, min}
use Rattle.morph_base.specs.declared.plan.Plan.{Plan}
use Rattle.morph_base.specs.Plans.{op_count}

-- A plan has work for one worker for each so many operations
abbrev pub team_ops : ℕ
team_ops = 8192

-- How many of so many workers a plan has work for: at least one
abbrev pub team_of : Plan → (workers : ℕ) → ℕ
team_of p workers = max (min (op_count p / team_ops) workers) 1

-- So many of the workers take part in a batch: all of them, or as many as its plan has work for
pub record IsTeam (p : Plan) (workers team : ℕ) : Type 0 where
  pub some : 1 ≤ team
  pub few : team ≤ workers
  pub size : (team ≡ workers) ⊎ (team ≡ team_of p workers)
