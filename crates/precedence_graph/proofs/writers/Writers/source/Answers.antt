use Rattle.std.proofs.Common.{◌≡◌, ℕ, ◌+◌, ◌-◌, ◌<◌, false, true, length, sym, ap, ◌∙◌, add-one, arith}
use Rattle.morph_base.specs.Operations.{same_key}
use Rattle.precedence_graph.specs.declared.writers.Entry.{Entry}
use Rattle.morph_base.specs.Links.{last_passing}
use Rattle.morph_base.specs.Graphs.{level_of}
use Rattle.morph_base.specs.declared.plan.Origin.TheVariants.{Base, Op as Written}
use Rattle.precedence_graph.specs.Entries.{place_of, no_entry, source_before, entry_at, changes}
use Rattle.precedence_graph.specs.Writers.{source_in, entered_level, entered_event_level}
use Rattle.morph_base.proofs.LinkLaws.{last_passing-none, last_passing-here, last_passing-skip, last_passing-le}
use Rattle.precedence_graph.proofs.EntryLemmas.{is_at, walk, walk_at, before_is}
use Rattle.precedence_graph.proofs.writers.Writers.source.Goals as goal

pub loop-end-init : goal.loop-end-init
loop-end-init c =
    let w = c.args.self.now in
    let entries = w.entries.items in
    let places : ℕ = length w.ends.items in
    let key = c.args.key in
    let here : c.place_of.result ≡ place_of key places = c.place_of.ensures.place ∙ ap (place_of key) c.len.ensures in
    let inside : c.place_of.result < places = omega (arith, c.place_of.ensures.inside, c.len.ensures) in
    let is : c.get-end.result.now ≡ last_passing (is_at entries places (place_of key places)) (length entries) =
    c.get-end.ensures.at 0 ∙ w.ended c.place_of.result inside ∙ ap (λ place. last_passing (is_at entries places place) (length entries)) here in
    record {
      low = omega (arith, is, last_passing-le (is_at entries places (place_of key places)) (length entries));
      at = λ o e. walk_at entries places key (length entries) o (sym is ∙ e);
      rest = walk entries places key (length entries) ∙ ap (last_passing (changes entries key)) (sym is);
    }

pub returns-then-eq : goal.returns-then-eq
returns-then-eq c =
    let w = c.args.self.now in
    let o : ℕ = c.loop-end.end - 1 in
    let end : c.loop-end.end ≡ o + 1 = omega (arith, c.loop-end-test.true) in
    let entry : c.get-entry.result.now ≡ entry_at w.entries.items o = c.get-entry.ensures.at no_entry in
    let passes : changes w.entries.items c.args.key o ≡ true = ap (λ (e : Entry). same_key e.key c.args.key) (sym entry) ∙ sym c.eq.ensures ∙ c.if-eq.true in
    let is : Written o ≡ source_in w c.args.key =
    sym (ap source_before (c.loop-end.invariant.rest ∙ ap (last_passing (changes w.entries.items c.args.key)) end ∙ last_passing-here (changes w.entries.items c.args.key) o passes ∙ add-one o)) in
    record {
      origin = is;
      level = ap (λ (e : Entry). e.level) entry ∙ ap (level_of (entered_level w)) is;
      event_level = ap (λ (e : Entry). e.event_level) entry ∙ ap (level_of (entered_event_level w)) is;
    }

pub loop-end-smaller : goal.loop-end-smaller
loop-end-smaller c =
    let w = c.args.self.now in
    let entries = w.entries.items in
    let places : ℕ = length w.ends.items in
    let o : ℕ = c.loop-end.end - 1 in
    let end : c.loop-end.end ≡ o + 1 = omega (arith, c.loop-end-test.true) in
    let lt : o < length entries = omega (arith, c.loop-end.invariant.low) in
    let before = before_is entries places c.args.key w.linked o lt (c.loop-end.invariant.at o end) in
    omega (arith, ap (λ (e : Entry). e.before) (c.get-entry.ensures.at no_entry), before, last_passing-le (is_at entries places (place_of c.args.key places)) o)

pub loop-end-preserved : goal.loop-end-preserved
loop-end-preserved c =
    let w = c.args.self.now in
    let entries = w.entries.items in
    let places : ℕ = length w.ends.items in
    let key = c.args.key in
    let o : ℕ = c.loop-end.end - 1 in
    let end : c.loop-end.end ≡ o + 1 = omega (arith, c.loop-end-test.true) in
    let lt : o < length entries = omega (arith, c.loop-end.invariant.low) in
    let is : c.get-entry.result.now.before ≡ last_passing (is_at entries places (place_of key places)) o =
    ap (λ (e : Entry). e.before) (c.get-entry.ensures.at no_entry) ∙ before_is entries places key w.linked o lt (c.loop-end.invariant.at o end) in
    let fails : changes entries key o ≡ false = ap (λ (e : Entry). same_key e.key key) (sym (c.get-entry.ensures.at no_entry)) ∙ sym c.eq.ensures ∙ c.if-eq.false in
    record {
      low = omega (arith, is, last_passing-le (is_at entries places (place_of key places)) o);
      at = λ t e. walk_at entries places key o t (sym is ∙ e);
      rest = c.loop-end.invariant.rest ∙ ap (last_passing (changes entries key)) end ∙ last_passing-skip (changes entries key) o fails ∙ walk entries places key o ∙ ap (last_passing (changes entries key)) (sym is);
    }

pub returns : goal.returns
returns c =
    let w = c.args.self.now in
    let is : Base 0 ≡ source_in w c.args.key =
    sym (ap source_before (c.loop-end.invariant.rest ∙ last_passing-none (changes w.entries.items c.args.key) c.loop-end.end (omega (arith, c.loop-end-test.false)))) in
    record { origin = is; level = ap (level_of (entered_level w)) is; event_level = ap (level_of (entered_event_level w)) is }
