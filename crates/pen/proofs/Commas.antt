-- Numbers behind commas, one behind the others. Assumes nothing: these are laws.
use Rattle.std.proofs.Common.{List, ℕ, zero, suc, ◌+◌, ◌<◌, ◌≤◌, ◌≡◌, [], ◌∷◌, ◌++◌, length, take, drop, refl, sym, ◌∙◌, ap, arith, get_or}
use mathlib.Core.List.{append_assoc, append-nil}
use native.Mathlib.Numerals.{add-one}
use lib.ListN.{length-append, take-append-drop}
use Rattle.number.specs.Decimal.{decimal}
use Rattle.pen.specs.Pen.{behind_comma, commaed}

pub commaed_append : (a b : List ℕ) → commaed (a ++ b) ≡ commaed a ++ commaed b
unfolding commaed
commaed_append [] b = refl
commaed_append (v ∷ a) b = ap (λ (l : List ℕ). 44 ∷ (decimal v ++ l)) (commaed_append a b) ∙ ap (λ (l : List ℕ). 44 ∷ l) (sym (append_assoc (decimal v) (commaed a) (commaed b)))

pub commaed_one : (v : ℕ) → commaed (v ∷ []) ≡ behind_comma v
unfolding commaed
commaed_one v = ap (λ (l : List ℕ). 44 ∷ l) (append-nil (decimal v))

take_next : (xs : List ℕ) (i : ℕ) → i < length xs → take (suc i) xs ≡ take i xs ++ get_or xs i 0 ∷ []
take_next [] i h = elim h [ ]
take_next (x ∷ xs) zero h = refl
take_next (x ∷ xs) (suc i) h = ap (λ (l : List ℕ). x ∷ l) (take_next xs i (omega (arith, h)))

-- the numbers up to the i-th and then the i-th, which together are no longer than all
pub record More (vals : List ℕ) (i : ℕ) : Type 0 where
  pub next : commaed (take (i + 1) vals) ≡ commaed (take i vals) ++ behind_comma (get_or vals i 0)
  pub short : length (commaed (take i vals)) + length (behind_comma (get_or vals i 0)) ≤ length (commaed vals)

pub commaed_more : (vals : List ℕ) (i : ℕ) → i < length vals → More vals i
commaed_more vals i h =
    let e : commaed (take (i + 1) vals) ≡ commaed (take i vals) ++ behind_comma (get_or vals i 0) =
    ap commaed (rw add-one (take_next vals i h)) ∙ commaed_append (take i vals) (get_or vals i 0 ∷ []) ∙ ap (λ (l : List ℕ). commaed (take i vals) ++ l) (commaed_one (get_or vals i 0)) in
    let a = ap length e ∙ length-append (commaed (take i vals)) (behind_comma (get_or vals i 0)) in
    let b = ap length (sym (commaed_append (take (i + 1) vals) (drop (i + 1) vals)) ∙ ap commaed (take-append-drop (i + 1) vals)) in
    let c = length-append (commaed (take (i + 1) vals)) (commaed (drop (i + 1) vals)) in
    record { next = e; short = omega (arith, a, b, c) }
