-- `program::Program::threads_fit` meets its contract. The loop's invariant: what is left to test decides the answer. Assumes nothing.
use mathlib.Core.Path.{◌≡◌}
use lib.ListN.{drop}
use Rattle.program.specs.Program.{prog_of}
use Rattle.program.specs.Legal.{legal_threads}
use Rattle.program.proofs.Program.threads_fit.Given as goal

abbrev pub invariant-loop-t : goal.invariant-loop-t
invariant-loop-t l =
    let lines = (prog_of l.self).threads in
    legal_threads l.self.locs (drop l.t lines) ≡ legal_threads l.self.locs lines
