-- `Kept::clear` meets its contract: the bytes that were in use are 0 then, as those behind them are. Assumes nothing.
use mathlib.Core.Path.{refl}
use native.Mathlib.Omega.{arith}
use Rattle.script.proofs.Blank.{zeros-blank, cleared-zeros}
use Rattle.script.proofs.kept.Kept.clear.Goals as goal

pub invariant_of-self : goal.invariant_of-self
invariant_of-self c = (
  omega arith,
  rw (cleared-zeros 1025 _ _ c.self.invariant.0 c.self.invariant.1 _ (c.fill.ensures.after (λ y is. is))) (zeros-blank 1025 _ refl (omega arith)),
)
