-- `FlatTable::holds` meets its contract. The loop's invariant: the rows that are left decide the answer. Assumes nothing.
use Rattle.std.proofs.Common.{◌≡◌, ◌==◌, ℕ, List, drop}
use Rattle.std.specs.List.{list_any}
use Rattle.state.proofs.table.FlatTable.holds.Given as goal

abbrev pub invariant-loop-i : goal.invariant-loop-i
invariant-loop-i g l =
    list_any (λ (r : List ℕ). list_any (λ y. y == l.x) r) (drop l.i l.self) ≡ list_any (λ (r : List ℕ). list_any (λ y. y == l.x) r) l.self
