-- `forum::without_ending` meets its contract. The loop's invariant: what was cut off goes at the line's end. Assumes nothing.
use Rattle.std.proofs.Common.{◌≡◌, length}
use Rattle.forum.specs.Mend.{trimmed}
use Rattle.forum.proofs.without_ending.Given as goal

abbrev pub invariant-loop-last : goal.invariant-loop-last
invariant-loop-last l = trimmed l.kept ≡ trimmed l.line

abbrev pub decreases-loop-last : goal.decreases-loop-last
decreases-loop-last l = length l.kept
