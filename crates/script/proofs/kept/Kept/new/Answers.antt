-- `Kept::new` meets its contract: an array of zeros has none of its bytes in use. Assumes nothing.
use mathlib.Core.Path.{refl}
use native.Mathlib.Omega.{arith}
use Rattle.script.proofs.Blank.{zeros-blank}
use Rattle.script.proofs.kept.Kept.new.Goals as goal

pub invariant_of-result : goal.invariant_of-result
invariant_of-result c = (omega arith, zeros-blank 1025 _ refl (omega arith))
