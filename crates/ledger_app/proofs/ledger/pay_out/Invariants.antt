use Rattle.std.proofs.Common.{◌≡◌, ◌+◌, ◌*◌, ◌∷◌, length, map, take}
use Rattle.morph_base.specs.declared.operation.Func.TheVariants.{Sub}
use Rattle.ledger_app.specs.Ledger.{change, receipt}
use Rattle.ledger_app.proofs.ledger.pay_out.Given as goal

abbrev pub invariant-loop-account : goal.invariant-loop-account
invariant-loop-account l = record {
  items : l.ops ≡ change l.fn.version Sub l.fn.src (length l.accounts * l.fn.a) 0 ∷ map (receipt l.fn.version l.fn.src l.fn.a) (take l.account-index l.accounts);
  many : length l.ops ≡ l.account-index + 1;
}
