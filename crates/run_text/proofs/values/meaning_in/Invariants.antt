use Rattle.std.proofs.Common.{◌≡◌, map, drop}
use Rattle.run_text.specs.Values.{meaning_in}
use Rattle.run_text.proofs.values.meaning_in.Given as goal

-- no row so far has the value
abbrev pub invariant-loop-text : goal.invariant-loop-text
invariant-loop-text g l = meaning_in (map (λ row. (row.0.now, row.1)) l.table) l.value ≡ meaning_in (map (λ row. (row.0.now, row.1)) (drop l.text-index l.table)) l.value
