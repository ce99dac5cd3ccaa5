-- `follow` meets its contract: in each turn what is left of the list reaches, from the state in hand, what the whole list reaches from where it
-- began.
use Rattle.program.specs.Program.{Prog}
use Rattle.px86.specs.Step.{step}
use Rattle.px86.specs.Apart.{longest}
use Rattle.listing.specs.Listing.{Lists}
use Rattle.state.specs.State.{machine_of}
use Rattle.machine.specs.Ready.{Ready}
use Rattle.machine.proofs.Turning.{Left}
use Rattle.machine.proofs.follow.follow.Given as goal

abbrev pub invariant-loop-length : goal.invariant-loop-length
invariant-loop-length l = Ready l.list l.s × ((p : Prog) → Lists l.list p → Left (longest (step p)) (Ready l.list) l.codes (machine_of l.fn.s l.fn.regs) l.s l.registers l.length)
