-- `follow` meets its contract: the code in hand is taken, or not, or the list is at its end.
use Rattle.std.proofs.Common.{arith}
use Rattle.machine.proofs.Turning.{ends, passes, stops, was-taken, was-barred}
use Rattle.machine.proofs.follow.follow.Goals as goal

pub returns-in-None-clause-longest : goal.returns-in-None-clause-longest
returns-in-None-clause-longest c = λ p n.
    let bar = was-barred _ _ _ _ _ (c.take_turn.ensures.turns p n) c.in-None.is in
    stops p _ _ _ _ _ _ (c.loop-length.invariant.1 p n) (omega (arith, c.loop-length-test.true)) _ bar.0 bar.1

pub loop-length-preserved : goal.loop-length-preserved
loop-length-preserved c = (
  c.take_turn.ensures.ready,
  λ p n.
      let taken = was-taken _ _ _ _ _ (c.take_turn.ensures.turns p n) _ c.in-Some.is in
      passes p _ _ _ _ _ _ (c.loop-length.invariant.1 p n) (omega (arith, c.loop-length-test.true)) _ _ _ taken c.take_turn.ensures.ready c.loaded-after.ensures,
)

pub returns-clause-longest : goal.returns-clause-longest
returns-clause-longest c = λ p n. ends p _ _ _ _ _ _ (c.loop-length.invariant.1 p n) (omega (arith, c.loop-length-test.false))
