use Rattle.std.proofs.Common.{List, ℕ, [], ◌∷◌, ◌≡◌, refl, sym, ◌∙◌, ap, arith, length}
use Rattle.forum.specs.Mend.{trimmed}
use Rattle.forum.proofs.Turn.{trimmed-goes, trimmed-stays}
use Rattle.forum.proofs.without_ending.Goals as goal

pub loop-last-preserved : goal.loop-last-preserved
loop-last-preserved c =
    let s = c.in-Some in
    sym (ap trimmed s.ensures.cases.0 ∙ trimmed-goes s.front.now s.field-0-0.now (sym c.goes_at_end.ensures ∙ c.if-not-goes_at_end.false)) ∙ c.loop-last.invariant

pub returns-then-not-goes_at_end : goal.returns-then-not-goes_at_end
returns-then-not-goes_at_end c =
    let s = c.in-Some in
    s.ensures.cases.0 ∙ sym (ap trimmed s.ensures.cases.0 ∙ trimmed-stays s.front.now s.field-0-0.now (sym c.goes_at_end.ensures ∙ c.if-not-goes_at_end.true)) ∙ c.loop-last.invariant

none-left : (l : List ℕ) → length l ≡ 0 → l ≡ trimmed l
unfolding trimmed
none-left [] e = refl
none-left (c ∷ l) e = absurd (omega arith)

pub returns-in_default : goal.returns-in_default
returns-in_default c = none-left c.loop-last.kept.now c.in_default.ensures.cases ∙ c.loop-last.invariant
