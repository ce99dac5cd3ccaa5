-- `program::Program::is_legal_asked` meets its contract: its tests are the definition's. Assumes nothing.
use native.Mathlib.Omega.{arith}
use mathlib.Core.Bool.{and_comm}
use Rattle.program.specs.Legal.{legal_asked}
use Rattle.program.proofs.Program.is_legal_asked.Goals as goal

pub returns-then-b-le-LIMIT : goal.returns-then-b-le-LIMIT
unfolding legal_asked
returns-then-b-le-LIMIT c = grind (arith, and_comm)

pub returns-else-b-le-LIMIT : goal.returns-else-b-le-LIMIT
unfolding legal_asked
returns-else-b-le-LIMIT c = grind (arith, and_comm)
