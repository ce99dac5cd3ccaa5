-- What is kept of a text or a line lies at the front of an array of m bytes, of which the first n are in use: where every byte behind them is 0,
-- the bytes in use give the array and n back, so that what keeps equal bytes is equal, array and all. Assumes nothing.
use Rattle.std.specs.Prelude.{ℕ, ◌≤◌, ◌≡◌, List, length, take}
use Rattle.std.proofs.Common.{sym, ap, ◌∙◌, subst}
use Rattle.std.proofs.lemmas.List.{length-take, length-take-le}
use Rattle.std.proofs.Math.Nat.{min-le_left, le_trans}
use Rattle.tables.specs.Tables.{padded}
use Rattle.tables.proofs.Packed.{padded-length}

-- how many bytes are in use, in a word that is no field's
abbrev pub many : List ℕ → ℕ
many l = length l

module _ (m : ℕ) (bytes : List ℕ) (n : ℕ) (within : n ≤ m) (blank : bytes ≡ padded m 0 (take n bytes)) where
  pub bytes-again : padded m 0 (take n bytes) ≡ bytes
  bytes-again = sym blank

  pub array-long : length bytes ≡ m
  array-long =
      ap length blank
      ∙ padded-length m 0 (take n bytes) (subst (λ (k : ℕ). k ≤ m) (sym (length-take n bytes)) (le_trans (min-le_left n (length bytes)) within))

  pub length-again : length (take n bytes) ≡ n
  length-again = length-take-le n bytes (subst (λ (k : ℕ). n ≤ k) (sym array-long) within)
