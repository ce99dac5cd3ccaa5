use Prim.Native.Nat.{◌+◌, ◌-◌, ◌≤◌}
use mathlib.Core.Path.{◌≡◌, ap, sym, ◌∙◌}
use native.Mathlib.Omega.{arith}
use lib.ListN.{take, drop, set}
use Rattle.tables.proofs.Closing.{closing-turn, closing-ends}
use Rattle.state.proofs.table.close.Goals as goal
use Rattle.state.proofs.table.close.Goals.{At-loop-a}

-- at each turn: the slot that is written is the leaving number's or one behind it; as many turns are left as younger numbers are to be moved, up to
-- the youngest; and as they were are all slots in front of the leaving number's, the older numbers' among them, and all behind the one that is written
pub only-younger :
    (c : At-loop-a)
    → let b = c.args in
    let l = c.loop-a in
    let younger = b.row + (b.count - 1) - l.a in
    (b.row + b.k ≤ l.a) × (l.a + younger + 1 ≡ b.row + b.count)
    × (take (b.row + b.k) l.slots ≡ take (b.row + b.k) b.slots.now)
    × (drop (l.a + 1) l.slots ≡ drop (l.a + 1) b.slots.now)
only-younger c =
    let i = c.loop-a.invariant in
    (i.behind, omega (arith, i.turns, c.requires.held), i.older, i.younger)

pub loop-a-preserved : goal.loop-a-preserved
loop-a-preserved c =
    let b = c.args in
    let l = c.loop-a in
    let left : b.row + (b.count - 1) - l.a - 1 ≡ b.row + (b.count - 1) - (l.a + 1) = omega arith in
    rw (← left) (closing-turn 0 _ (b.row + b.k) (b.count - 1 - b.k) l.slots l.a (b.row + (b.count - 1) - l.a) l.invariant (omega arith))

pub returns : goal.returns
returns c =
    let b = c.args in
    let l = c.loop-a in
    let end : l.a ≡ b.row + (b.count - 1) = omega (arith, l.invariant.turns, c.requires.held) in
    ap (λ n. set l.slots n 0) (sym end)
    ∙ closing-ends 0 _ (b.row + b.k) (b.count - 1 - b.k) l.slots l.a (b.row + (b.count - 1) - l.a) l.invariant (omega arith)
