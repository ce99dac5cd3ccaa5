-- `forum::leads_run` meets its contract. Assumes nothing.
use Rattle.std.proofs.Common.{List, ℕ, [], ◌∷◌, ◌<◌, ◌≡◌, false, refl, sym, ◌∙◌, arith, length}
use mathlib.Core.Logic.{inl, inr, ⊎_elim}
use Rattle.forum.specs.Mend.{digit_next}
use Rattle.forum.proofs.Turn.{digit-ascii, leads-not, leads-zero, next-digit}
use Rattle.forum.proofs.leads_run.Goals as goal

pub returns-then-begun : goal.returns-then-begun
returns-then-begun c =
    let a = c.args in
    sym (leads-not a.begun a.byte a.behind.now (⊎_elim (λ t. inl t) (λ t. inr t.1) c.then-begun.either))

none-next : (l : List ℕ) → length l < 1 → digit_next l ≡ false
none-next [] h = refl
none-next (c ∷ l) h = absurd (omega arith)

pub returns-in-empty : goal.returns-in-empty
returns-in-empty c =
    let a = c.args in
    sym (leads-zero a.begun a.byte a.behind.now c.if-begun.false c.if-byte-ne48.false ∙ none-next a.behind.now c.in-empty.len_below)

pub returns-in-len1-up : goal.returns-in-len1-up
returns-in-len1-up c =
    let a = c.args in
    c.is_ascii_digit.ensures.value ∙ digit-ascii _
    ∙ sym (leads-zero a.begun a.byte a.behind.now c.if-begun.false c.if-byte-ne48.false ∙ next-digit a.behind.now (omega arith))
