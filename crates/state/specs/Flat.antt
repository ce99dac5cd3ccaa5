-- A flat table of small numbers: what holds of its slots and counts, and of its rows; and that its rows give its slots and its counts back,
-- so that tables of equal rows are equal bytes. Assumes nothing.
use Rattle.std.specs.Prelude.{ℕ, ◌<◌, ◌≤◌, ◌≡◌, List, [], length, get_or}
use Rattle.std.proofs.Common.{sym}
use Rattle.tables.specs.Tables.{rows, packed, Below, Table}
use Rattle.tables.proofs.Packed.{lengths}
use Rattle.tables.proofs.Table.{counts-are}

-- what holds of the slots and counts of every table of k rows with room for w numbers up to m: a row's number and a count are bytes
pub record Filled (k w m : ℕ) (xs ns : List ℕ) : Type 0 where
  pub table : Table w k 0 xs ns
  pub allowed : Below m xs
  pub few : k < 256
  pub narrow : w < 256

-- what holds of the rows of such a table
pub record Rows (k w m : ℕ) (rs : List (List ℕ)) : Type 0 where
  pub count : length rs ≡ k
  pub short : (i : ℕ) → length (get_or rs i []) ≤ w
  pub allowed : (i : ℕ) → Below m (get_or rs i [])

module _ (k w m : ℕ) (xs ns : List ℕ) (h : Filled k w m xs ns) where
  pub packed-again : packed w 0 (rows w xs ns) ≡ xs
  packed-again = sym h.table.blank

  pub counts-again : lengths (rows w xs ns) ≡ ns
  counts-again = counts-are w k 0 xs ns h.table
