-- `FlatTable::remove` meets its contract: the younger numbers move one slot down within the row's own slots, and the count falls by one.
-- Assumes nothing.
use native.Mathlib.Omega.{arith}
use lib.ListN.{get_or}
use Rattle.state.proofs.Flats.{room-of, slots-are, fits-in, long-in, remove-filled, remove-rows, rows-of}
use Rattle.state.proofs.table.FlatTable.remove.Goals as goal

pub overflow_sub-self : goal.overflow_sub-self
overflow_sub-self g c = omega (arith, long-in g.row.ROWS g.row.ROOM g.row.MOST _ _ c.self.invariant c.args.i c.requires.there _ c.self.view_is)

pub close-requires : goal.close-requires
close-requires g c =
    let n = get_or c.self.inside.counts c.args.i 0 in
    let long = long-in g.row.ROWS g.row.ROOM g.row.MOST _ _ c.self.invariant c.args.i c.requires.there _ c.self.view_is in
    let slots = slots-are g.row.ROWS g.row.ROOM g.row.MOST _ _ c.self.invariant in
    let fits = fits-in g.row.ROWS g.row.ROOM g.row.MOST _ _ c.self.invariant c.args.i c.requires.there n (room-of g.row.ROWS g.row.ROOM g.row.MOST _ _ c.self.invariant c.args.i) in
    record { held = omega arith; there = omega arith }

pub invariant_of-self : goal.invariant_of-self
invariant_of-self g c =
    let long = long-in g.row.ROWS g.row.ROOM g.row.MOST _ _ c.self.invariant c.args.i c.requires.there _ c.self.view_is in
    rw (c.close.ensures)
    (remove-filled g.row.ROWS g.row.ROOM g.row.MOST _ _ c.self.invariant c.args.i c.requires.there c.args.k (omega arith))

pub returns-clause-row : goal.returns-clause-row
returns-clause-row g c =
    let long = long-in g.row.ROWS g.row.ROOM g.row.MOST _ _ c.self.invariant c.args.i c.requires.there _ c.self.view_is in
    rw (c.close.ensures, ← c.self.view_is)
    (remove-rows g.row.ROWS g.row.ROOM g.row.MOST _ _ c.self.invariant c.args.i c.requires.there c.args.k (omega arith))

pub returns-clause-rows : goal.returns-clause-rows
returns-clause-rows g c =
    rows-of g.row.ROWS g.row.ROOM g.row.MOST _ _ (invariant_of-self g c)
