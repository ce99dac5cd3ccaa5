-- What the slots and counts of a flat table say of its rows, and what becomes of them where a number joins a row or leaves one.
-- Assumes nothing.
use Prim.Native.Nat.{ℕ, zero, suc, ◌+◌, ◌-◌, ◌*◌, ◌≤◌, ◌<◌, zero-le}
use mathlib.Core.Path.{◌≡◌, refl, sym, ◌∙◌, subst}
use mathlib.Core.Bool.{Bool, true, false, ◌||◌}
use mathlib.Core.List.{List, [], ◌∷◌, ◌++◌}
use native.Mathlib.Decide.{dec_lt}
use native.Mathlib.Numerals.{add-one}
use native.Mathlib.Nat.{suc-mul, mul-le-mul_right}
use native.Mathlib.Omega.{arith}
use lib.ListN.{length, get_or, take, drop, set, replicate, get_or-eq_default, drop_of_length-le}
use lib.Seq.{get_or-drop, drop-cons}
use Rattle.std.specs.List.{list_any}
use Rattle.tables.specs.Tables.{rows, without, closed, Below}
use Rattle.tables.proofs.Rows.{row_at}
use Rattle.tables.proofs.Closed.{all_replicate, all_closed}
use Rattle.tables.proofs.Table.{below_set, rows-there, slots-there, row_count, pushed, removed, blank-table}
use Rattle.state.specs.Flat.{Filled, Rows}

-- what is at most m in a list is so in a part of it
below_take : (m n : ℕ) (xs : List ℕ) → Below m xs → Below m (take n xs)
below_take m zero xs b i = zero-le
below_take m (suc n) [] b i = b i
below_take m (suc n) (x ∷ xs) b zero = b zero
below_take m (suc n) (x ∷ xs) b (suc i) = below_take m n xs (λ j. b (suc j)) i

module _ (k w m : ℕ) (xs ns : List ℕ) (h : Filled k w m xs ns) where
  -- no count is above its room, and the slots in use lie within the table
  pub room-of : (i : ℕ) → get_or ns i 0 ≤ w
  room-of = h.table.short

  pub slots-are : length xs ≡ k * w
  slots-are = slots-there w k 0 xs ns h.table

  module _ (i : ℕ) (there : i < k) where
    pub fits-in : (n : ℕ) → n ≤ w → i * w + n ≤ k * w
    fits-in n few = let rows≤ : suc i * w ≤ k * w = mul-le-mul_right w there in omega (arith, suc-mul i w)

    pub long-as : get_or ns i 0 ≡ length (get_or (rows w xs ns) i [])
    long-as = sym (row_count w k 0 xs ns h.table i there)

    pub long-in : (rs : List (List ℕ)) → rows w xs ns ≡ rs → get_or ns i 0 ≡ length (get_or rs i [])
    long-in rs e = long-as ∙ rw e

    pub row-is : take (get_or ns i 0) (drop (i * w) xs) ≡ get_or (rows w xs ns) i []
    row-is = sym (row_at w xs ns i (omega (arith, h.table.count)))

    -- x joins the end of row i
    module _ (x : ℕ) (room : get_or ns i 0 < w) where
      pub push-filled : x ≤ m → Filled k w m (set xs (i * w + get_or ns i 0) x) (set ns i (get_or ns i 0 + 1))
      push-filled small =
          record {
            table = (pushed w k 0 xs ns h.table i there x room).0;
            allowed = below_set m xs (i * w + get_or ns i 0) x h.allowed small;
            few = h.few;
            narrow = h.narrow;
          }

      pub push-rows :
          rows w (set xs (i * w + get_or ns i 0) x) (set ns i (get_or ns i 0 + 1)) ≡ set (rows w xs ns) i (get_or (rows w xs ns) i [] ++ x ∷ [])
      push-rows = (pushed w k 0 xs ns h.table i there x room).1

    -- the number at place p leaves row i
    module _ (p : ℕ) (held : p < get_or ns i 0) where
      pub remove-filled : Filled k w m (closed 0 xs (i * w + p) (get_or ns i 0 - 1 - p)) (set ns i (get_or ns i 0 - 1))
      remove-filled =
          record {
            table = (removed w k 0 xs ns h.table i there p held).0;
            allowed = all_closed 0 (λ (n : ℕ). n ≤ m) zero-le xs (i * w + p) (get_or ns i 0 - 1 - p) h.allowed;
            few = h.few;
            narrow = h.narrow;
          }

      pub remove-rows :
          rows w (closed 0 xs (i * w + p) (get_or ns i 0 - 1 - p)) (set ns i (get_or ns i 0 - 1))
          ≡ set (rows w xs ns) i (without p (get_or (rows w xs ns) i []))
      remove-rows = (removed w k 0 xs ns h.table i there p held).1

  -- the rows of a table
  pub rows-of : Rows k w m (rows w xs ns)
  rows-of =
      record {
        count = rows-there w k 0 xs ns h.table;
        short =
            λ i.
            elim (dec_lt i k) [
              | yes there ↦ omega (arith, long-as i there, h.table.short i)
              | no past ↦ rw (get_or-eq_default (rows w xs ns) [] {n = i} (omega (arith, rows-there w k 0 xs ns h.table))) zero-le
            ];
        allowed =
            λ i.
            elim (dec_lt i k) [
              | yes there ↦ subst (Below m) (row-is i there) (below_take m (get_or ns i 0) (drop (i * w) xs) (λ j. rw (get_or-drop (i * w) xs j 0) (h.allowed (i * w + j))))
              | no past ↦ rw (get_or-eq_default (rows w xs ns) [] {n = i} (omega (arith, rows-there w k 0 xs ns h.table))) (λ j. zero-le)
            ];
      }

-- a table of blank slots
pub blank-filled : (k w m : ℕ) → k < 256 → w < 256 → Filled k w m (replicate (k * w) 0) (replicate k 0)
blank-filled k w m few narrow =
    record { table = (blank-table {A = ℕ} w 0 k).0; allowed = all_replicate (λ (n : ℕ). n ≤ m) (k * w) 0 zero-le; few = few; narrow = narrow }

pub blank-rows : (k w : ℕ) → rows {A = ℕ} w (replicate (k * w) 0) (replicate k 0) ≡ replicate k []
blank-rows k w = (blank-table {A = ℕ} w 0 k).1

-- of no number of an empty row the test holds
pub none-held : (test : ℕ → Bool) (r : List ℕ) → length r ≡ 0 → list_any test r ≡ false
none-held test [] h = refl
none-held test (x ∷ r) h = absurd (omega (arith, h))

-- a loop that seeks a row of which the test holds: one turn, and its end
module _ (test : List ℕ → Bool) (rs : List (List ℕ)) (i : ℕ) where
  turn : i < length rs → list_any test (drop i rs) ≡ test (get_or rs i []) || list_any test (drop (i + 1) rs)
  turn h = rw (drop-cons rs i [] h, add-one)

  pub any-on : i < length rs → test (get_or rs i []) ≡ false → list_any test (drop (i + 1) rs) ≡ list_any test (drop i rs)
  any-on h e = sym (rw e at (turn h))

  pub any-found : i < length rs → test (get_or rs i []) ≡ true → true ≡ list_any test (drop i rs)
  any-found h e = sym (rw e at (turn h))

  pub any-none : length rs ≤ i → false ≡ list_any test (drop i rs)
  any-none h = rw drop_of_length-le
