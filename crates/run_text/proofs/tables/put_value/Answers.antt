use Rattle.std.proofs.Common.{◌≡◌, ℕ, List, [], sym, ◌==◌, eq-eqb}
use Rattle.std.proofs.lemmas.Bool.{cond-true}
use Rattle.run_text.specs.Text.{value_line}
use Rattle.run_text.proofs.Pieces.{put_nothing, put_as}
use Rattle.run_text.proofs.tables.put_value.Goals as goal

no_line : (name : List ℕ) (id value : ℕ) → value ≡ 0 → value_line name id value ≡ []
no_line name id value zero = cond-true (value == 0) [] _ (eq-eqb value 0 zero)

pub returns-then-value-eq0 : goal.returns-then-value-eq0
returns-then-value-eq0 g c = put_as (sym (no_line c.args.name.now c.args.id c.args.value c.if-value-eq0.true)) (put_nothing c.args.sink.now c.args.out.now)
