-- `Session::hear` meets its contract, stage by stage. Assumes nothing.
use Prim.Native.Nat.{ℕ}
use mathlib.Core.Path.{◌≡◌, ap, sym, ◌∙◌, subst}
use mathlib.Core.Bool.{true, false}
use mathlib.Core.List.{List, ◌∷◌, ◌++◌, []}
use Rattle.pen.proofs.Pens.{wrote_nothing}
use Rattle.line.specs.Split.{begins}
use Rattle.text.specs.Read.{read_text}
use Rattle.say.specs.Said.{run_key}
use Rattle.runs.specs.Run.{line_reply, reply_line}
use Rattle.script.specs.Script.{Session, seen, opened, on_text, next, says}
use Rattle.script.specs.Stands.{Standing}
use Rattle.script.specs.declared.Stage.{Stage}
use Rattle.script.specs.declared.Stage.TheVariants.{Text}
use Rattle.script.proofs.Stages.{at-text, at-asking, at-refused, asked-next, asked-says, ended-next, ended-says, run-next, run-says, text-next, text_says, replies}
use Rattle.script.proofs.Session.hear.Goals as goal

pub returns-in-Asking-clause-heard : goal.returns-in-Asking-clause-heard
returns-in-Asking-clause-heard c = λ a h.
    let s = c.args.self.now in
    let x = at-asking s.stage s.text a.session h c.in-Asking.list c.in-Asking.is in
    let e : next a.session s.line ≡ a.session = ap (λ (y : Session). next y s.line) x.1 ∙ asked-next x.0 0 s.line ∙ sym x.1 in
    let f = ap (λ (y : Session). says y s.number s.line) x.1 ∙ asked-says x.0 s.number s.line
    ∙ ap (λ (l : List ℕ). reply_line s.number (line_reply x.0 l)) (sym c.as_slice-line.ensures) in
    (subst (Standing s.stage s.text) (sym e) h, rw f (c.answer.ensures.wrote x.0 x.2))

pub returns-in-Refused-clause-heard : goal.returns-in-Refused-clause-heard
returns-in-Refused-clause-heard c = λ a h.
    let s = c.args.self.now in
    let x = at-refused s.stage s.text a.session h c.in-Refused.is in
    let e : next a.session s.line ≡ a.session = ap (λ (y : Session). next y s.line) x ∙ ended-next 0 s.line ∙ sym x in
    let f = ap (λ (y : Session). says y s.number s.line) x ∙ ended-says s.number s.line in
    (subst (Standing s.stage s.text) (sym e) h, rw f (wrote_nothing _))

pub returns-then-starts-clause-heard : goal.returns-then-starts-clause-heard
returns-then-starts-clause-heard c = λ a h.
    let s = c.args.self.now in
    let w = c.first-self in
    let x = at-text s.stage s.text a.session h c.in-Text.is in
    let b : begins run_key s.line ≡ true = ap (begins run_key) (sym c.as_slice-line.ensures) ∙ sym c.starts.ensures ∙ c.if-starts.true in
    let e = ap (λ (y : Session). next y s.line) x ∙ run-next s.text 0 s.line b in
    let f = ap (λ (y : Session). says y s.number s.line) x ∙ run-says s.text s.number s.line b
    ∙ ap (λ (t : List ℕ). on_text (read_text t) (replies s.number s.line)) (sym c.as_slice.ensures)
    ∙ ap (λ (l : List ℕ). on_text (read_text c.as_slice.result.now) (replies s.number l)) (sym c.as_slice-line.ensures) in
    (subst (Standing w.result s.text) (ap (λ (t : List ℕ). opened (read_text t)) c.as_slice.ensures ∙ sym e) (w.ensures.stands s.text), rw f w.ensures.wrote)

pub returns-else-starts-clause-heard : goal.returns-else-starts-clause-heard
returns-else-starts-clause-heard c = λ a h.
    let s = c.args.self.now in
    let k = c.keep in
    let x = at-text s.stage s.text a.session h c.in-Text.is in
    let b : begins run_key s.line ≡ false = ap (begins run_key) (sym c.as_slice-line.ensures) ∙ sym c.starts.ensures ∙ c.if-starts.false in
    let e = ap (λ (y : Session). next y s.line) x ∙ text-next s.text 0 s.line b in
    let f = ap (λ (y : Session). says y s.number s.line) x ∙ text_says s.text s.number s.line b in
    let t = k.ensures ∙ ap (λ (l : List ℕ). seen (s.text ++ (l ++ 10 ∷ []))) c.as_slice-line.ensures in
    (subst (λ (y : Stage). Standing y k.new.self (next a.session s.line)) (sym c.in-Text.is) (subst (Standing Text k.new.self) (sym e) t), rw f (wrote_nothing _))
