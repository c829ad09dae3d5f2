-- An operation is held by one hand at most.
use Rattle.std.proofs.Common.{◌≡◌, ℕ, sym, ap, ◌∙◌, arith}
use Rattle.morph_base.specs.declared.plan.Plan.{Plan}
use Rattle.morph_base.specs.declared.word.OpWord.{OpWord}
use Rattle.op_words.specs.Kinds.{HoldsAlone}
use Rattle.op_words.proofs.Claiming.{sound_claim}

pub holds_alone : (p : Plan) (cap counters : ℕ) → HoldsAlone p cap counters
holds_alone p cap counters s lawful i j v w h k at there holds held same =
    let one = sound_claim s lawful i v at h holds in
    let two = sound_claim s lawful j w there k held in
    let tags : v.tag ≡ w.tag = ap (λ (x : OpWord). x.by) (sym one.word_is ∙ ap lawful.core.word same ∙ two.word_is) in
    let first = (lawful.hands i v at).tag in let second = (lawful.hands j w there).tag in
    omega (arith, tags, first, second)
