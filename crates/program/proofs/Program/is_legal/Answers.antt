-- `program::Program::is_legal` meets its contract: its tests are those of `legal`, taken on the program's own numbers. Assumes nothing.
use native.Mathlib.Omega.{arith}
use borrow.Author.Rules.{rules}
use Rattle.program.specs.Kept.{Sized}
use Rattle.program.proofs.Tests.{legal-tests}
use Rattle.program.proofs.Program.is_legal.Goals as goal

pub returns-then-counts_fit : goal.returns-then-counts_fit
returns-then-counts_fit c =
    let p = c.args.self.now in
    let s : Sized p = search rules in
    grind (arith, legal-tests p s)

pub returns-else-counts_fit : goal.returns-else-counts_fit
returns-else-counts_fit c =
    let p = c.args.self.now in
    let s : Sized p = search rules in
    grind (arith, legal-tests p s)
