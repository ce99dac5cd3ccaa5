-- `Pen::values` meets its contract: one number more is written behind those before.
use Rattle.std.proofs.Common.{arith}
use Rattle.pen.specs.Pen.{commaed}
use Rattle.pen.proofs.Pens.{wrote_both, wrote_nothing}
use Rattle.pen.proofs.Commas.{commaed_more}
use Rattle.pen.proofs.pen.Pen.values.Goals as goal

pub loop-v-init : goal.loop-v-init
unfolding commaed
loop-v-init c = wrote_nothing _

pub value-requires : goal.value-requires
value-requires c =
    let i = c.loop-v.invariant in
    record { room = omega (arith, (commaed_more c.args.vals.now c.loop-v.v-index (omega arith)).short, c.requires.room, i.at, i.long) }

pub loop-v-preserved : goal.loop-v-preserved
loop-v-preserved c = rw ((commaed_more c.args.vals.now c.loop-v.v-index (omega arith)).next) (wrote_both _ _ _ _ _ c.loop-v.invariant c.value.ensures)
