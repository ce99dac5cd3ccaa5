-- `put_end` meets its contract, stage by stage: behind a run line the text is read as it stands, and another line belongs to it. Assumes nothing.
use Prim.Native.Nat.{ℕ}
use mathlib.Core.Path.{◌≡◌, ap, sym, ◌∙◌, subst}
use mathlib.Core.Bool.{true, false}
use mathlib.Core.List.{List, []}
use Rattle.std.specs.Prelude.{Option}
use Rattle.pen.specs.Pen.{Wrote}
use Rattle.pen.proofs.Pens.{wrote_both, wrote_nothing}
use Rattle.line.specs.Split.{begins}
use Rattle.text.specs.Read.{read_text}
use Rattle.say.specs.Said.{run_key}
use Rattle.script.specs.Script.{Session, on_text, cut, last}
use Rattle.script.specs.Stands.{Opens}
use Rattle.script.proofs.Ending.{last-asking, last-ended, last-run, last-text}
use Rattle.script.proofs.Stages.{at-text, at-asking, at-refused, opens-some, opens-none, on-accepted}
use Rattle.script.proofs.put_end.Goals as goal

pub returns-in-Asking-clause-wrote : goal.returns-in-Asking-clause-wrote
returns-in-Asking-clause-wrote c = λ a h.
    let n = c.args.n in
    let l = c.args.line.now in
    let x = at-asking _ _ a h _ c.in-Asking.is in
    let f = ap (λ (y : Session). last y n l) x.1 ∙ last-asking n l x.0 in
    rw f c.put_cut.ensures.wrote

pub returns-in-Refused-clause-wrote : goal.returns-in-Refused-clause-wrote
returns-in-Refused-clause-wrote c = λ a h.
    let n = c.args.n in
    let l = c.args.line.now in
    let x = at-refused _ _ a h c.in-Refused.is in
    rw (ap (λ (y : Session). last y n l) x ∙ last-ended n l) (wrote_nothing _)

pub returns-in-Some-clause-wrote : goal.returns-in-Some-clause-wrote
returns-in-Some-clause-wrote c = λ a h.
    let n = c.args.n in
    let l = c.args.line.now in
    let o = c.open in
    let t = c.as_slice.result.now in
    let x = at-text _ _ a h c.in-Text.is in
    let b : begins run_key l ≡ true = sym c.starts.ensures ∙ c.if-starts.true in
    let k = opens-some _ _ (subst (λ (y : Option (List ℕ)). Opens y (read_text t)) c.in-Some.is o.ensures.opens) in
    let quiet : Wrote [] c.args.pen.now o.new.pen = subst (λ (l : List ℕ). Wrote l c.args.pen.now o.new.pen) (on-accepted _ k.0 (λ p. []) k.1) o.ensures.wrote in
    let f = ap (λ (y : Session). last y n l) x ∙ last-run n l c.args.text.now b
    ∙ ap (λ (u : List ℕ). on_text (read_text u) (λ p. cut n l)) (sym c.as_slice.ensures)
    ∙ on-accepted _ k.0 (λ p. cut n l) k.1 in
    rw f (wrote_both [] _ _ _ _ quiet c.put_cut-in-Some.ensures.wrote)

pub returns-in-None-clause-wrote : goal.returns-in-None-clause-wrote
returns-in-None-clause-wrote c = λ a h.
    let n = c.args.n in
    let l = c.args.line.now in
    let o = c.open in
    let t = c.as_slice.result.now in
    let x = at-text _ _ a h c.in-Text.is in
    let b : begins run_key l ≡ true = sym c.starts.ensures ∙ c.if-starts.true in
    let k = opens-none (read_text t) (subst (λ (y : Option (List ℕ)). Opens y (read_text t)) c.in-None.is o.ensures.opens) (λ p. cut n l) (λ p. []) in
    let f = ap (λ (y : Session). last y n l) x ∙ last-run n l c.args.text.now b
    ∙ ap (λ (u : List ℕ). on_text (read_text u) (λ p. cut n l)) (sym c.as_slice.ensures) ∙ k in
    rw f o.ensures.wrote

pub returns-else-starts-clause-wrote : goal.returns-else-starts-clause-wrote
returns-else-starts-clause-wrote c = λ a h.
    let n = c.args.n in
    let l = c.args.line.now in
    let x = at-text _ _ a h c.in-Text.is in
    let b : begins run_key l ≡ false = sym c.starts.ensures ∙ c.if-starts.false in
    let t = c.as_slice-else-starts.ensures ∙ c.append.ensures in
    let f = ap (λ (y : Session). last y n l) x ∙ last-text n l c.args.text.now b
    ∙ ap (λ (u : List ℕ). on_text (read_text u) (λ p. [])) (sym t) in
    rw f c.open-else-starts.ensures.wrote

pub returns-else-starts-clause-text : goal.returns-else-starts-clause-text
returns-else-starts-clause-text c = λ h. absurd (h c.in-Text.is)
