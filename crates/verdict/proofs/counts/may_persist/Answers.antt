-- `verdict::counts::may_persist` meets its contract: a queue has an oldest entry exactly if its count is not 0. Assumes nothing.
use mathlib.Core.Path.{ap, sym, ◌∙◌}
use mathlib.Core.List.{List, []}
use Prim.Native.Nat.{ℕ}
use lib.ListN.{length, get_or, get_or-map}
use Rattle.verdict.proofs.Judging.{persists-some}
use Rattle.verdict.proofs.counts.may_persist.Goals as goal

pub returns : goal.returns
returns c =
    let l = c.args.l.0 in
    λ qs bs e p vs ns g.
    persists-some _ l (get_or qs l []) (get_or c.args.counts.now l 0) (ap (λ (ks : List ℕ). get_or ks l 0) (sym e) ∙ get_or-map length qs l [])
