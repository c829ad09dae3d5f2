use Rattle.std.proofs.Common.{◌≡◌, ℕ, ◌*◌, ◌≤◌, false, not, List, ◌∷◌, length, refl, ◌∙◌, ap, arith, Ok}
use Rattle.std.specs.Prelude.{nat_lt}
use Rattle.std.proofs.lemmas.Bool.Decides.{nat_tests}
use Rattle.morph_base.specs.declared.key.Key.{Key}
use Rattle.morph_base.specs.declared.operation.Func.TheVariants.{Sub}
use Rattle.event_reader.specs.declared.version.Version.{Version}
use Rattle.event_reader.specs.Forms.{unless}
use Rattle.event_reader.specs.Keys.{are_distinct}
use Rattle.event_reader.specs.Versions.{greatest_of}
use Rattle.event_reader.proofs.Heads.{headed_ops}
use Rattle.event_reader.proofs.LineKeys.{refused_again, refused_twice, not_refused}
use Rattle.ledger_app.specs.Ledger.{change, receipt, paying, payout}
use Rattle.ledger_app.proofs.ledger.pay_out.Goals as goal
use Rattle.ledger_app.proofs.ledger.pay_out.Goals.{then-has_key-via-then-has_key, then-has_key-via-else-has_key+then-not-are_distinct}

-- what is not too much goes where the accounts differ
within : (version : Version) (ts a : ℕ) (src : Key) (accounts : List Key) (most : ℕ) → most ≡ greatest_of version → length accounts * a ≤ most
    → payout version ts a src accounts ≡ unless (not (are_distinct (src ∷ accounts))) (paying version ts a src accounts)
within version ts a src accounts most is small =
    let fits : nat_lt (greatest_of version) (length accounts * a) ≡ false = grind (arith, nat_tests, is, small) in
    rw fits refl

pub returns-then-has_key : goal.returns-then-has_key
returns-then-has_key c =
    let event = paying c.args.version c.args.ts c.args.a c.args.src c.args.accounts.now in
    let fits = within c.args.version c.args.ts c.args.a c.args.src c.args.accounts.now c.greatest.result c.greatest.ensures (omega (arith, c.if-whole-greatest.false)) in elim c.then-has_key.branch [
      | then-has_key-via-then-has_key w ↦ fits ∙ refused_again c.args.src c.args.accounts.now event c.has_key.result c.has_key.ensures w.if-has_key.true
      | then-has_key-via-else-has_key+then-not-are_distinct w ↦ fits ∙ refused_twice c.args.src c.args.accounts.now event c.has_key.result c.has_key.ensures w.are_distinct.result
          w.if-has_key.false w.are_distinct.ensures w.if-not-are_distinct.true
    ]

pub returns : goal.returns
returns c =
    within c.args.version c.args.ts c.args.a c.args.src c.args.accounts.now c.greatest.result c.greatest.ensures (omega (arith, c.if-whole-greatest.false))
    ∙ not_refused c.args.src c.args.accounts.now (paying c.args.version c.args.ts c.args.a c.args.src c.args.accounts.now) c.has_key.result c.has_key.ensures c.are_distinct.result
    c.if-has_key.false c.are_distinct.ensures c.if-not-are_distinct.false
    ∙ ap Ok (headed_ops c.args.ts (change c.args.version Sub c.args.src (length c.args.accounts.now * c.args.a) 0) (receipt c.args.version c.args.src c.args.a) c.args.accounts.now
    c.loop-account.account-index c.loop-account.ops (omega (arith, c.loop-account-test.false)) c.loop-account.invariant.items)
