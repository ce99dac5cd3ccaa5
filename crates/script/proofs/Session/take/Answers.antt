-- `Session::take` meets its contract: a line feed ends the line that stands, and another byte stands behind it. Assumes nothing.
use Prim.Native.Nat.{ℕ}
use mathlib.Core.Path.{ap, sym, ◌∙◌, subst}
use mathlib.Core.List.{List, ◌∷◌, ◌++◌, []}
use Rattle.pen.proofs.Pens.{wrote_nothing}
use Rattle.script.specs.Script.{seen, next, says, counted}
use Rattle.script.specs.Stands.{Standing, Holds}
use Rattle.script.proofs.Whole.{taken-end, told-end, taken_more, told_more}
use Rattle.script.proofs.Session.take.Goals as goal

pub returns-then-c-eq10-clause-taken : goal.returns-then-c-eq10-clause-taken
returns-then-c-eq10-clause-taken c = λ a h.
    let s = c.args.self.now in
    let u = c.hear in
    let d = c.if-c-eq10.true in
    let g = u.ensures.heard a h.session in
    let f = told-end a c.args.c d
    ∙ ap (λ (n : ℕ). says a.session n a.line) (sym h.number)
    ∙ ap (says a.session s.number) (sym h.line) in (
      subst (Holds _) (sym (taken-end a c.args.c d))
          (record {
            session = subst (λ (l : List ℕ). Standing u.new.self.stage u.new.self.text (next a.session l)) h.line g.0;
            number = c.count-self.ensures ∙ ap counted (u.ensures.number ∙ h.number);
            line = c.clear.ensures;
          }),
      rw f (g.1),
    )

pub returns-else-c-eq10-clause-taken : goal.returns-else-c-eq10-clause-taken
returns-else-c-eq10-clause-taken c = λ a h.
    let d = c.if-c-eq10.false in (
      subst (Holds _) (sym (taken_more a c.args.c d))
          (record { session = h.session; number = h.number; line = c.push.ensures ∙ ap (λ (l : List ℕ). seen (l ++ c.args.c ∷ [])) h.line }),
      rw (told_more a c.args.c d) (wrote_nothing _),
    )
