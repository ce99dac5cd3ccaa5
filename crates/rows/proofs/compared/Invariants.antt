-- `rows::compared` meets its contract: the bytes so far are the same, so that what is left decides.
use Rattle.std.proofs.Common.{◌≡◌, drop, length}
use Rattle.std.specs.Ordering.{nat_cmp}
use Rattle.std.specs.Cmp.Lexicographic.{slice_cmp}
use Rattle.rows.proofs.compared.Given as goal

abbrev pub invariant-loop-i : goal.invariant-loop-i
invariant-loop-i l = slice_cmp nat_cmp (drop l.i l.mem) (drop l.i l.row) ≡ slice_cmp nat_cmp l.mem l.row
