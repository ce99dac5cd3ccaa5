-- `program::Program::threads_fit` meets its contract: each turn tests what the definition tests there. Assumes nothing.
use Prim.Native.Nat.{ℕ, ◌<◌}
use mathlib.Core.Path.{◌≡◌, ap, sym, ◌∙◌}
use native.Mathlib.Omega.{arith}
use borrow.Author.Rules.{rules}
use lib.ListN.{length}
use Rattle.program.specs.Program.{prog_of}
use Rattle.program.specs.Legal.{legal_ops}
use Rattle.program.specs.Kept.{Sized}
use Rattle.program.proofs.Tests.{Within, within}
use Rattle.program.proofs.Threads.{threads-length}
use Rattle.program.proofs.Turns.{threads-on, threads-stop, threads_end}
use Rattle.program.proofs.Program.threads_fit.Goals as goal
use Rattle.program.proofs.Program.threads_fit.Goals.{Start}

-- what is known of a thread of the program
thread : (s : Start) (t : ℕ) → t < s.args.self.now.threads → Within s.args.self.now t
thread s t below = within s.args.self.now (search rules) s.requires.few s.requires.short t below

pub returns-then-not-ops_fit : goal.returns-then-not-ops_fit
returns-then-not-ops_fit c =
    let p = c.args.self.now in
    let l = c.loop-t in
    let here = thread (goal.at.returns-then-not-ops_fit c).Start l.t (omega arith) in
    let tested = ap (legal_ops p.locs) (sym c.thread.ensures.instructions) ∙ (sym c.ops_fit.ensures ∙ c.if-not-ops_fit.true) in
    threads-stop p.locs (prog_of p).threads l.t here.there here.short tested ∙ l.invariant

pub loop-t-preserved : goal.loop-t-preserved
loop-t-preserved c =
    let p = c.args.self.now in
    let l = c.loop-t in
    let here = thread (goal.at.loop-t-preserved c).Start l.t (omega arith) in
    let tested = ap (legal_ops p.locs) (sym c.thread.ensures.instructions) ∙ (sym c.ops_fit.ensures ∙ c.if-not-ops_fit.false) in
    threads-on p.locs (prog_of p).threads l.t here.there here.short tested ∙ l.invariant

pub returns : goal.returns
returns c =
    let p = c.args.self.now in
    let s : Sized p = search rules in
    let all : length (prog_of p).threads ≡ p.threads = threads-length p (omega (arith, s.counts, c.requires.few)) in
    threads_end p.locs (prog_of p).threads c.loop-t.t (omega arith) ∙ c.loop-t.invariant
