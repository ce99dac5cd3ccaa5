use native.Mathlib.Omega.{arith}
use mathlib.Core.Path.{◌≡◌, sym, ◌∙◌, ap}
use mathlib.Core.List.{List, []}
use Prim.Native.Nat.{ℕ, ◌+◌}
use Rattle.std.specs.Prelude.{Ok}
use Rattle.std.proofs.lemmas.Bool.Decides.{nat_tests}
use Rattle.tables.specs.Tables.{padded}
use Rattle.line.specs.Split.{split, later, comma}
use Rattle.line.specs.Fields.{fine, fields_from, fields_of, packed}
use Rattle.line.proofs.Split.{part-behind, split-at-more, split-at-last}
use Rattle.words.proofs.Made.{bare-none, bare}
use Rattle.words.proofs.listed.Goals as goal
use Rattle.words.proofs.listed.Goals.{Else-end-part}

pub returns-then-end-part : goal.returns-then-end-part
unfolding fields_of
returns-then-end-part c =
    let ms = c.args.ranges.now in
    let s = c.args.part.now in
    c.numbers.ensures
    ∙ ap packed (ap (fields_of ms) (part-behind (c.find-end.result + 1) s)
    ∙ ap (λ (l : List (List ℕ)). fields_from (fine []) ms (later l)) (sym (split-at-more comma s 0 c.find-end.result (omega arith) c.find-end.ensures c.if-end-part.true)))

-- there is no comma
bare-word : (c : Else-end-part) → let ms = c.args.ranges.now in
    fields_from (fine []) ms [] ≡ fields_from (fine []) ms (later (split comma c.args.part.now))
bare-word c =
    ap (λ (l : List (List ℕ)). fields_from (fine []) c.args.ranges.now (later l))
    (sym (split-at-last comma c.args.part.now 0 c.find-end.result (omega arith) c.find-end.ensures c.if-end-part.false))

pub returns-then-is_empty : goal.returns-then-is_empty
unfolding padded
returns-then-is_empty c =
    ap (λ (l : List ℕ). Ok l) c.none.ensures ∙ ap packed (sym (bare-none c.args.ranges.now (grind (arith, nat_tests, c.if-is_empty.ensures))) ∙ bare-word (goal.at.returns-then-is_empty c).Else-end-part)

pub returns-else-is_empty : goal.returns-else-is_empty
returns-else-is_empty c =
    ap packed (sym (bare c.args.ranges.now (grind (arith, nat_tests, c.if-is_empty.ensures))) ∙ bare-word (goal.at.returns-else-is_empty c).Else-end-part)
