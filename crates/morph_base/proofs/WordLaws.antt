-- No two words pack to one number.
use Rattle.std.proofs.Common.{◌≡◌, ℕ, zero, suc, ◌+◌, ◌*◌, ◌<◌, ◌≤◌, refl, sym, ap, ◌∙◌, arith, lit<}
use Rattle.morph_base.specs.declared.limits.TheConstants.{MAX}
use Rattle.morph_base.specs.Limits.{most_attempts, value_room}
use Rattle.morph_base.specs.declared.word.OpState.{OpState}
use Rattle.morph_base.specs.declared.word.OpState.TheVariants.{Blocked, Ready, Claimed, Executed, Failed, Spread, Settled, SettledAborted}
use Rattle.morph_base.specs.declared.word.OpWord.{OpWord}
use Rattle.morph_base.specs.Words.{code_of, IsWord, packed}

state_of : ℕ → OpState
state_of zero = Blocked
state_of (suc zero) = Ready
state_of (suc (suc zero)) = Claimed
state_of (suc (suc (suc zero))) = Executed
state_of (suc (suc (suc (suc zero)))) = Failed
state_of (suc (suc (suc (suc (suc zero))))) = Spread
state_of (suc (suc (suc (suc (suc (suc zero)))))) = Settled
state_of (suc (suc (suc (suc (suc (suc (suc n))))))) = SettledAborted

state_of-code_of : (s : OpState) → state_of (code_of s) ≡ s
unfolding state_of
state_of-code_of Blocked = refl
state_of-code_of Ready = refl
state_of-code_of Claimed = refl
state_of-code_of Executed = refl
state_of-code_of Failed = refl
state_of-code_of Spread = refl
state_of-code_of Settled = refl
state_of-code_of SettledAborted = refl

pub code_of-small : (s : OpState) → code_of s < 8
code_of-small Blocked = lit< tt
code_of-small Ready = lit< tt
code_of-small Claimed = lit< tt
code_of-small Executed = lit< tt
code_of-small Failed = lit< tt
code_of-small Spread = lit< tt
code_of-small Settled = lit< tt
code_of-small SettledAborted = lit< tt

-- the number of a state is its own
pub one_state : (s t : OpState) → code_of s ≡ code_of t → s ≡ t
one_state s t e = sym (state_of-code_of s) ∙ ap state_of e ∙ state_of-code_of t

-- the four parts of the number, read off
parts : (x y a b s t i j : ℕ) → x ≤ MAX → y ≤ MAX → a ≤ most_attempts → b ≤ most_attempts → s < 8 → t < 8
    → x + value_room * (a + 16 * (s + 16 * i)) ≡ y + value_room * (b + 16 * (t + 16 * j)) → (x ≡ y) × (a ≡ b) × (s ≡ t) × (i ≡ j)
parts x y a b s t i j x_small y_small a_small b_small s_small t_small e = (omega arith, omega arith, omega arith, omega arith)

pub one_word : (v w : OpWord) → IsWord v → IsWord w → packed v ≡ packed w → v ≡ w
one_word v w is_v is_w e =
    let same = parts v.value w.value v.attempt w.attempt (code_of v.state) (code_of w.state) v.by w.by is_v.small is_w.small is_v.last is_w.last (code_of-small v.state) (code_of-small w.state) e in
    let states : v.state ≡ w.state = one_state v.state w.state same.2 in
    let word : ℕ → ℕ → OpState → ℕ → OpWord = λ x a s i. record { value = x; attempt = a; state = s; by = i } in
    ap (λ x. word x v.attempt v.state v.by) same.0 ∙ ap (λ a. word w.value a v.state v.by) same.1 ∙ ap (λ s. word w.value w.attempt s v.by) states ∙ ap (word w.value w.attempt w.state) same.3
