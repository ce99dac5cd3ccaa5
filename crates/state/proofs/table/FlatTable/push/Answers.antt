-- `FlatTable::push` meets its contract: the slot behind the last of a row's is within the row's own, and a store there with the count raised by
-- one is a push. Assumes nothing.
use Prim.Native.Nat.{◌+◌}
use native.Mathlib.Omega.{arith}
use lib.ListN.{get_or}
use Rattle.state.proofs.Flats.{slots-are, fits-in, long-in, push-filled, push-rows, rows-of}
use Rattle.state.proofs.table.FlatTable.push.Goals as goal

pub bounds-self-inside-at-2 : goal.bounds-self-inside-at-2
bounds-self-inside-at-2 g c =
    let long = long-in g.row.ROWS g.row.ROOM g.row.MOST _ _ c.self.invariant c.args.i c.requires.there _ c.self.view_is in
    omega (
      arith,
      c.self.told,
      slots-are g.row.ROWS g.row.ROOM g.row.MOST _ _ c.self.invariant,
      fits-in g.row.ROWS g.row.ROOM g.row.MOST _ _ c.self.invariant c.args.i c.requires.there (get_or c.self.inside.counts c.args.i 0 + 1) (omega arith),
    )

pub overflow_add-self-2 : goal.overflow_add-self-2
overflow_add-self-2 g c =
    omega (arith, c.self.invariant.narrow, long-in g.row.ROWS g.row.ROOM g.row.MOST _ _ c.self.invariant c.args.i c.requires.there _ c.self.view_is)

pub invariant_of-self : goal.invariant_of-self
invariant_of-self g c =
    let long = long-in g.row.ROWS g.row.ROOM g.row.MOST _ _ c.self.invariant c.args.i c.requires.there _ c.self.view_is in
    push-filled g.row.ROWS g.row.ROOM g.row.MOST _ _ c.self.invariant c.args.i c.requires.there c.args.x (omega arith) c.requires.allowed

pub returns-clause-row : goal.returns-clause-row
returns-clause-row g c =
    let long = long-in g.row.ROWS g.row.ROOM g.row.MOST _ _ c.self.invariant c.args.i c.requires.there _ c.self.view_is in
    rw (← c.self.view_is) (push-rows g.row.ROWS g.row.ROOM g.row.MOST _ _ c.self.invariant c.args.i c.requires.there c.args.x (omega arith))

pub returns-clause-rows : goal.returns-clause-rows
returns-clause-rows g c =
    let long = long-in g.row.ROWS g.row.ROOM g.row.MOST _ _ c.self.invariant c.args.i c.requires.there _ c.self.view_is in
    rows-of g.row.ROWS g.row.ROOM g.row.MOST _ _
    (push-filled g.row.ROWS g.row.ROOM g.row.MOST _ _ c.self.invariant c.args.i c.requires.there c.args.x (omega arith) c.requires.allowed)
