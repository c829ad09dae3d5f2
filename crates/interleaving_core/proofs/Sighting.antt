-- What was seen stays true as the state grows.
use Rattle.std.proofs.Common.{◌≡◌, ℕ, ◌<◌, refl, sym, ap, ◌∙◌, arith}
use Rattle.morph_base.specs.declared.plan.Plan.{Plan}
use Rattle.morph_base.specs.declared.word.OpWord.{OpWord}
use Rattle.morph_base.specs.Plans.{op_count}
use Rattle.morph_base.specs.Words.{is_settled}
use Rattle.interleaving_core.specs.Core.{Core, entry_of}
use Rattle.interleaving_core.specs.Growth.{Grows}
use Rattle.interleaving_core.specs.Soundness.{IsSound}
use Rattle.interleaving_core.specs.Sightings.{IsNoted, IsRecordNoted}

module _ (p : Plan) (c d : Core) (grows : Grows p c d) where
  pub noted_grows : {o : ℕ} {w : OpWord} → IsNoted c o w → IsNoted d o w
  noted_grows {o} {w} is = record {
    attempt = let more = grows.attempts o in let before = is.attempt in omega arith;
    shown = λ shown. grows.entries (entry_of o w) (is.shown shown);
    settled = λ settled. let now : c.word o ≡ w = is.settled settled in grows.settled o (ap (λ (x : OpWord). is_settled x.state) now ∙ settled) ∙ now;
  }

  pub record_grows : {o j x : ℕ} {w : OpWord} → o < op_count p → IsRecordNoted c o j x w → IsRecordNoted d o j x w
  record_grows {o} {j} {x} {w} lt is = record {
    under = noted_grows is.under;
    same = λ shown at.
        let before : (c.word o).attempt ≡ w.attempt = let low = is.under.attempt in let high = grows.attempts o in omega arith in
        let kept : d.recorded o j ≡ c.recorded o j = grows.records o j (entry_of o w) lt (is.under.shown shown) refl (sym at) in
        let k = is.same shown before in
        (k.0, kept ∙ k.1, k.2);
  }

-- the present word can be noted
pub present_noted : (p : Plan) (cap : ℕ) (c : Core) → IsSound p cap c → (o : ℕ) → o < op_count p → IsNoted c o (c.word o)
present_noted p cap c sound o lt = record { attempt = omega arith; shown = (sound.each_op o lt).published.shown; settled = λ is. refl }
