use Rattle.std.proofs.Common.{◌-◌, ◌≤◌, All, drop, length, arith, rules, length-take, length-drop}
use Rattle.std.proofs.lemmas.List.Elements.{All-take, All-drop}
use Rattle.morph_base.specs.declared.limits.TheConstants.{MAX}
use Rattle.morph_base.specs.Operations.{InLayout, reads}
use Rattle.morph_base.specs.Flat.{contents}
use Rattle.morph_base.proofs.PlainLaws.{target_in, put_all-nil, put_all-step}
use Rattle.morph_base.proofs.plain.+write.Goals as goal

pub write-requires : goal.write-requires
write-requires t c =
    let layout = c.args.values.now.layout in
    let ops = c.args.ops.now in
    let answers = c.args.answers.now in (
      search rules,
      (
        simp (length-take, length-drop) (omega (arith, c.requires.len)),
        (
          All-take (λ op. All (InLayout layout) (reads op)) (length ops - 1) (drop 1 ops) (All-drop (λ op. All (InLayout layout) (reads op)) 1 ops c.requires.keys),
          All-take (λ v. v ≤ MAX) (length answers - 1) (drop 1 answers) (All-drop (λ v. v ≤ MAX) 1 answers c.requires.small),
        ),
      ),
    )

pub put-requires-clause-key : goal.put-requires-clause-key
put-requires-clause-key t c = rw c.write.ensures.layout (target_in c.args.values.now.layout c.args.ops.now 0 _ c.requires.keys c.in-len1-up.len_at_least)

pub returns-in-len1-up-clause-state : goal.returns-in-len1-up-clause-state
returns-in-len1-up-clause-state t c =
    put_all-step (contents c.args.values.now) _ _ c.args.ops.now c.args.answers.now _ c.in-len1-up.len_at_least c.requires.len c.write.ensures.state
    c.put.ensures.state

pub returns-in_default-clause-state : goal.returns-in_default-clause-state
returns-in_default-clause-state t c = put_all-nil (contents c.args.values.now) c.args.ops.now c.args.answers.now (omega (arith, c.in_default.len_below))
