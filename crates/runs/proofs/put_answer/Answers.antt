-- `runs::put_answer` meets its contract: an index stands behind its word and a comma. Assumes nothing.
use Rattle.std.proofs.Common.{ℕ, ◌≡◌, sym, ap, ◌∙◌, subst}
use Rattle.std.specs.Prelude.{Option, Some, Result, Ok}
use Rattle.pen.specs.Pen.{Wrote}
use Rattle.pen.proofs.Pens.{wrote_both}
use Rattle.runs.specs.Run.{answer_line}
use Rattle.runs.proofs.put_answer.Goals as goal

pub returns-in-Some : goal.returns-in-Some
unfolding answer_line
returns-in-Some c =
    let e : c.args.answer ≡ Ok (Some c.in-Some.i) = c.in-Ok.is ∙ ap (λ (x : Option ℕ). Ok x) c.in-Some.is in
    subst (λ (r : Result (Option ℕ) ℕ). Wrote (answer_line c.args.n r) c.args.pen.now c.byte.new.self) (sym e)
    (wrote_both _ _ _ _ _ c.bytes-in-Some.ensures (wrote_both _ _ _ _ _ c.value.ensures c.byte.ensures))
