-- `Pen::values` meets its contract: the numbers so far were written.
use Rattle.std.proofs.Common.{take}
use Rattle.pen.specs.Pen.{commaed, Wrote}
use Rattle.pen.proofs.pen.Pen.values.Given as goal

abbrev pub invariant-loop-v : goal.invariant-loop-v
invariant-loop-v l = Wrote (commaed (take l.v-index l.vals)) l.fn.self l.self
