-- `close` meets its contract: the loop's invariant is `Closing`, which `only-younger` says in the table's words. Assumes nothing.
use Prim.Native.Nat.{◌+◌, ◌-◌}
use Rattle.tables.proofs.Closing.{Closing}
use Rattle.state.proofs.table.close.Given as goal

abbrev pub invariant-loop-a : goal.invariant-loop-a
invariant-loop-a l = Closing 0 l.initial.slots (l.row + l.k) (l.count - 1 - l.k) l.slots l.a (l.row + (l.count - 1) - l.a)
