-- `FlatTable::row` meets its contract: the slots in use of a row are the row. Assumes nothing.
use Prim.Native.Nat.{◌+◌, ◌-◌, ◌*◌}
use mathlib.Core.Path.{◌≡◌, ap, ◌∙◌}
use mathlib.Core.List.{[]}
use native.Mathlib.Omega.{arith}
use lib.ListN.{get_or, take, drop}
use Rattle.tables.specs.Tables.{rows}
use Rattle.state.proofs.Flats.{room-of, slots-are, fits-in, row-is, rows-of}
use Rattle.state.proofs.table.FlatTable.row.Goals as goal

pub slice_bounds-result-end : goal.slice_bounds-result-end
slice_bounds-result-end g c =
    omega (
      arith,
      slots-are g.row.ROWS g.row.ROOM g.row.MOST _ _ c.self.invariant,
      fits-in g.row.ROWS g.row.ROOM g.row.MOST _ _ c.self.invariant c.args.i c.requires.there _ (room-of g.row.ROWS g.row.ROOM g.row.MOST _ _ c.self.invariant c.args.i),
    )

pub returns-clause-value : goal.returns-clause-value
returns-clause-value g c =
    let n = get_or c.self.inside.counts c.args.i 0 in
    let start = c.args.i * g.row.ROOM in
    let many : start + n - start ≡ n = omega arith in
    let is : take (start + n - start) (drop start c.self.inside.slots) ≡ get_or (rows g.row.ROOM c.self.inside.slots c.self.inside.counts) c.args.i [] =
    rw many (row-is g.row.ROWS g.row.ROOM g.row.MOST _ _ c.self.invariant c.args.i c.requires.there) in
    is ∙ ap (λ rs. get_or rs c.args.i []) c.self.view_is

pub returns-clause-rows : goal.returns-clause-rows
returns-clause-rows g c = rw (← c.self.view_is) (rows-of g.row.ROWS g.row.ROOM g.row.MOST _ _ c.self.invariant)
