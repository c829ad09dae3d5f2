-- The lines of the events of a plan, from one on, up to another.
use Rattle.std.proofs.Common.{◌≡◌, ℕ, ◌≤◌, List, ◌++◌, drop, take, ap, sym, ◌∙◌}
use Rattle.std.proofs.lemmas.List.{take-append-drop, take-map}
use Rattle.std.proofs.lemmas.List.FromFn.{take-map-range_with_len}
use Rattle.std.proofs.lemmas.Grind.{flat_map-append}
use Rattle.std.specs.List.{flat_map}
use Rattle.std.proofs.lemmas.List.Folds.{flat_map-map}
use Rattle.morph_base.specs.declared.plan.Plan.{Plan}
use Rattle.morph_base.specs.declared.plan.Settled.{Settled}
use Rattle.morph_base.specs.Graphs.{below}
use Rattle.morph_base.specs.Plans.{event_count}
use Rattle.morph_engine.specs.Fates.{settled_fate, settled_fates}
use Rattle.run_text.specs.Text.{event_line, lines_between, lines_of}

abbrev pub line_at : Plan → Settled → ℕ → List ℕ
line_at p r i = event_line (settled_fate p r i)

-- the lines of all events are those of their numbers
pub all_lines : (p : Plan) (r : Settled) (end : ℕ) → end ≡ event_count p → lines_between p r 0 end ≡ lines_of (settled_fates p r)
all_lines p r end all = ap (lines_between p r 0) all ∙ sym (flat_map-map event_line (settled_fate p r) (below (event_count p)))

front_is : (text : ℕ → List ℕ) (n k : ℕ) → k ≤ n → flat_map text (take k (below n)) ≡ flat_map text (below k)
front_is text n k le =
    sym (flat_map-map text (λ i. i) (take k (below n)))
    ∙ ap (flat_map text) (sym (take-map (λ i. i) k (below n)) ∙ take-map-range_with_len (λ i. i) 0 n k le)
    ∙ flat_map-map text (λ i. i) (below k)

-- the lines up to some event, and those behind them
lines_split : (p : Plan) (r : Settled) (middle end : ℕ) → middle ≤ end → lines_between p r 0 middle ++ lines_between p r middle end ≡ lines_between p r 0 end
lines_split p r middle end le =
    ap (λ front. front ++ lines_between p r middle end) (sym (front_is (line_at p r) end middle le))
    ∙ sym (flat_map-append (line_at p r) (take middle (below end)) (drop middle (below end)))
    ∙ ap (flat_map (line_at p r)) (take-append-drop middle (below end))

pub all_split : (p : Plan) (r : Settled) (middle end : ℕ) → middle ≤ end → end ≡ event_count p → lines_between p r 0 middle ++ lines_between p r middle end ≡ lines_of (settled_fates p r)
all_split p r middle end le all = lines_split p r middle end le ∙ all_lines p r end all
