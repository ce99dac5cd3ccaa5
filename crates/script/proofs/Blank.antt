-- An array of m bytes of which the first n are in use, and every other one is 0: where all is 0; where one more is in use; where those in use
-- become 0. And the bytes in use tell the array. Assumes nothing.
use mathlib.Core.Path.{◌≡◌, sym, ap, ◌∙◌}
use mathlib.Core.List.{List, [], ◌∷◌, ◌++◌}
use Prim.Native.Nat.{ℕ, ◌+◌, ◌-◌, ◌<◌, ◌≤◌}
use native.Mathlib.Omega.{arith}
use native.Mathlib.Numerals.{add-one}
use lib.ListN.{length, take, drop, set, replicate, replicate-append-replicate}
use lib.Seq.{take-suc-set, drop_at}
use borrow.Rule.Slice.PartMut.{post_of}
use Rattle.tables.specs.Tables.{padded}
use Rattle.tables.proofs.Packed.{padded-push}
use Rattle.script.specs.Kept.{array-long, length-again}

-- where all is 0, whatever is in use
pub zeros-blank : (m : ℕ) (l : List ℕ) → l ≡ replicate (length l) 0 → length l ≤ m → replicate {A = ℕ} m 0 ≡ padded m 0 l
unfolding padded
zeros-blank m l e h =
    sym (
    ap (λ (k : List ℕ). k ++ replicate {A = ℕ} (m - length l) 0) e
    ∙ replicate-append-replicate (length l) (m - length l) 0
    ∙ ap (λ (k : ℕ). replicate {A = ℕ} k 0) (omega (arith, h))
    )

-- THEOREM: what keeps equal bytes is equal, array and all, so that what contracts see of it, and of a session, is all that a copy takes along
pub equal-kept :
    (m : ℕ) (bytes more : List ℕ) (n k : ℕ) → n ≤ m → k ≤ m → bytes ≡ padded m 0 (take n bytes) → more ≡ padded m 0 (take k more)
    → take n bytes ≡ take k more → (bytes ≡ more) × (n ≡ k)
equal-kept m bytes more n k h i b c same = (
  b ∙ ap (padded m 0) same ∙ sym c,
  sym (length-again m bytes n h b) ∙ ap length same ∙ length-again m more k i c,
)

module _ (m : ℕ) (bytes : List ℕ) (n : ℕ) (within : n ≤ m) (blank : bytes ≡ padded m 0 (take n bytes)) where
  -- one more is in use
  pub more-blank : (c : ℕ) → n < m → set bytes n c ≡ padded m 0 (take (n + 1) (set bytes n c))
  more-blank c h =
      let is = length-again m bytes n within blank in
      let front : take (n + 1) (set bytes n c) ≡ take n bytes ++ c ∷ [] =
      rw (add-one n) (take-suc-set bytes n c (omega (arith, array-long m bytes n within blank, h))) in
      ap (λ (l : List ℕ). set l n c) blank
      ∙ ap (λ (k : ℕ). set (padded m 0 (take n bytes)) k c) (sym is)
      ∙ padded-push m 0 (take n bytes) c (omega (arith, is, h))
      ∙ sym (ap (padded m 0) front)

  -- those in use become 0: then all is 0
  pub cleared-zeros : (xs : List ℕ) → xs ≡ replicate (length (take n bytes)) 0 → xs ++ post_of 0 n bytes ≡ replicate m 0
  unfolding padded
  cleared-zeros xs e =
      let is = length-again m bytes n within blank in
      let rest = m - length (take n bytes) in
      let behind : drop n bytes ≡ replicate rest 0 = ap (drop n) blank ∙ drop_at (take n bytes) (replicate rest 0) n is in
      ap (λ (l : List ℕ). l ++ drop n bytes) e
      ∙ ap (λ (l : List ℕ). replicate {A = ℕ} (length (take n bytes)) 0 ++ l) behind
      ∙ replicate-append-replicate (length (take n bytes)) rest 0
      ∙ ap (λ (k : ℕ). replicate {A = ℕ} k 0) (omega (arith, is, within))
