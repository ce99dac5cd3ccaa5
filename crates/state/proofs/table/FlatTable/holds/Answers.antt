use Prim.Native.Nat.{ℕ, ◌<◌}
use mathlib.Core.Path.{◌≡◌, ap, sym, ◌∙◌}
use mathlib.Core.Bool.{Bool}
use mathlib.Core.List.{List, []}
use native.Mathlib.Omega.{arith}
use lib.Dec.{eqb}
use lib.ListN.{length, get_or}
use Rattle.std.specs.List.{list_any}
use Rattle.state.proofs.Flats.{rows-of, long-in, none-held, any-on, any-found, any-none}
use Rattle.state.proofs.table.FlatTable.holds.Goals as goal
use Rattle.state.proofs.table.FlatTable.holds.Goals.{else-self-i-ne0-via-then-self-i-ne0+else-contains, else-self-i-ne0-via-else-self-i-ne0}

-- whether x is in a row
abbrev held : ℕ → List ℕ → Bool
held x r = list_any (λ y. eqb y x) r

pub overflow_cast-rows : goal.overflow_cast-rows
overflow_cast-rows g c = omega (arith, c.self.told2, c.self.invariant.few)

pub returns-then-contains : goal.returns-then-contains
returns-then-contains g c =
    let there : c.loop-i.i < length c.args.self.now = omega (arith, c.row.ensures.rows.count, c.self.told2, c.loop-i-test.true) in
    let found = sym (ap (held c.args.x) c.row.ensures.value) ∙ (sym c.contains.ensures.value ∙ c.if-contains.true) in
    any-found (held c.args.x) c.args.self.now c.loop-i.i there found ∙ c.loop-i.invariant

-- a row in which x is not found, or one that is empty, decides nothing
pub loop-i-preserved : goal.loop-i-preserved
loop-i-preserved g c =
    let many : length c.args.self.now ≡ g.row.ROWS = rw c.self.view_is at (rows-of g.row.ROWS g.row.ROOM g.row.MOST _ _ c.self.invariant).count in
    let row : c.loop-i.i < g.row.ROWS = omega (arith, c.self.told2, c.loop-i-test.true) in
    let there : c.loop-i.i < length c.args.self.now = omega arith in
    elim c.else-self-i-ne0.branch [
      | else-self-i-ne0-via-then-self-i-ne0+else-contains w ↦
          let none = sym (ap (held c.args.x) w.row.ensures.value) ∙ (sym w.contains.ensures.value ∙ w.if-contains.false) in
          any-on (held c.args.x) c.args.self.now c.loop-i.i there none ∙ c.loop-i.invariant
      | else-self-i-ne0-via-else-self-i-ne0 w ↦
          let long = long-in g.row.ROWS g.row.ROOM g.row.MOST _ _ c.self.invariant c.loop-i.i row _ c.self.view_is in
          let none = none-held (λ (y : ℕ). eqb y c.args.x) (get_or c.args.self.now c.loop-i.i []) (omega (arith, long, w.if-self-i-ne0.false)) in
          any-on (held c.args.x) c.args.self.now c.loop-i.i there none ∙ c.loop-i.invariant
    ]

pub returns : goal.returns
returns g c =
    let many : length c.args.self.now ≡ g.row.ROWS = rw c.self.view_is at (rows-of g.row.ROWS g.row.ROOM g.row.MOST _ _ c.self.invariant).count in
    any-none (held c.args.x) c.args.self.now c.loop-i.i (omega (arith, c.self.told2, c.loop-i-test.false)) ∙ c.loop-i.invariant
