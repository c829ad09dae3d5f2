-- What a worker that saw a word or a record knows of the state, then and after every step
use Rattle.std.specs.Prelude.{◌≡◌, ℕ, ◌≤◌, true, Contains, Some}
use Rattle.morph_base.specs.declared.word.OpWord.{OpWord}
use Rattle.morph_base.specs.Words.{is_settled}
use Rattle.interleaving_core.specs.declared.entry.Record.{Record}
use Rattle.interleaving_core.specs.Core.{Core, is_shown, entry_of}

-- The word w of operation o was seen: its attempt is no later than the present one, its entry is there if it was shown,
-- and it is the present word if it was settled
pub record IsNoted (c : Core) (o : ℕ) (w : OpWord) : Type 0 where
  pub attempt : w.attempt ≤ (c.word o).attempt
  pub shown : is_shown w.state ≡ true → Contains c.published (entry_of o w)
  pub settled : is_settled w.state ≡ true → c.word o ≡ w

-- The value x of a record of operation o at place j was seen under word w. If w is a shown word, x is the value of the
-- record as long as the attempt of w is the present one
pub record IsRecordNoted (c : Core) (o j x : ℕ) (w : OpWord) : Type 0 where
  pub under : IsNoted c o w
  pub same : is_shown w.state ≡ true → (c.word o).attempt ≡ w.attempt
      → (k : Record) × (c.recorded o j ≡ Some k) × (k.value ≡ x)
