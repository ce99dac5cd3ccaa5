-- `FlatTable::of` meets its contract: blank slots hold empty rows. Assumes nothing.
use Rattle.state.proofs.Flats.{blank-filled, blank-rows}
use Rattle.state.proofs.table.FlatTable.of.Goals as goal

pub invariant_of-result : goal.invariant_of-result
invariant_of-result g c = rw c.requires.blank (blank-filled g.row.ROWS g.row.ROOM g.row.MOST c.requires.few c.requires.narrow)

pub returns : goal.returns
returns g c = rw c.requires.blank (blank-rows g.row.ROWS g.row.ROOM)
