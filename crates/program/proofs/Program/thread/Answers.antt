-- `program::Program::thread` meets its contract: a thread that is not there has no instructions, and the others are their cells up to the
-- count. Assumes nothing.
use Prim.Native.Nat.{◌*◌, ◌-◌, ◌≤◌}
use mathlib.Core.Path.{sym, ◌∙◌}
use native.Mathlib.Omega.{arith}
use borrow.Author.Rules.{rules}
use lib.ListN.{length, drop, length-drop}
use Rattle.std.proofs.lemmas.List.{take-take, take_all}
use Rattle.program.specs.Kept.{Sized, count_at}
use Rattle.program.proofs.Threads.{thread-at, thread-past, thread-beyond}
use Rattle.program.proofs.Program.thread.Goals as goal
use Rattle.program.proofs.Program.thread.Goals.{then-self-t-via-then-self-t, then-self-t-via-else-self-t+then-t-ge-LIMIT}

pub returns-then-self-t-clause-instructions : goal.returns-then-self-t-clause-instructions
returns-then-self-t-clause-instructions c =
    let p = c.args.self.now in
    let s : Sized p = search rules in
    elim c.then-self-t.branch [
      | then-self-t-via-then-self-t w ↦ sym (thread-past p c.args.t.0 (omega arith))
      | then-self-t-via-else-self-t+then-t-ge-LIMIT w ↦ sym (thread-beyond p c.args.t.0 (omega (arith, s.counts)))
    ]

pub returns-then-n-own-clause-instructions : goal.returns-then-n-own-clause-instructions
returns-then-n-own-clause-instructions c =
    let p = c.args.self.now in
    let s : Sized p = search rules in
    take-take (count_at p c.args.t.0) _ _ (omega arith) ∙ sym (thread-at p c.args.t.0 (omega arith) (omega (arith, s.counts)))

pub returns-else-n-own-clause-instructions : goal.returns-else-n-own-clause-instructions
returns-else-n-own-clause-instructions c =
    let p = c.args.self.now in
    let s : Sized p = search rules in
    let t = c.args.t.0 in
    let own : length (drop (t * 8) p.cells) ≤ 32 - t * 8 = simp length-drop (omega (arith, s.cells)) in
    take_all _ _ own ∙ (sym (take_all (count_at p t) _ (omega arith)) ∙ sym (thread-at p t (omega arith) (omega (arith, s.counts))))
