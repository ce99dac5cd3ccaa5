-- A text that grows in a lent buffer. Assumes nothing: these are definitions.
use Rattle.std.specs.Prelude.{List, [], ◌∷◌, ◌++◌, ℕ, ◌+◌, ◌-◌, ◌≡◌, length}
use Rattle.number.specs.Decimal.{decimal}
use Rattle.number.specs.Put.{put}
use Rattle.pen.specs.declared.pen.Pen.{Pen}

-- how many bytes there is room for
abbrev pub room : Pen → ℕ
room s = length s.buf.now - s.at

-- the text t was written at the pen's place, in place of as many bytes, and the place is behind it; the buffer is the one that was lent
pub record Wrote (t : List ℕ) (s u : Pen) : Type 0 where
  pub at : u.at ≡ s.at + length t
  pub long : length u.buf.now ≡ length s.buf.now
  pub bytes : u.buf.now ≡ put s.buf.now s.at t
  pub same : u.buf.ghost_name ≡ s.buf.ghost_name

-- "Each line ends in one line feed", and numbers stand "with commas": a line KEY=NUMBER, where the key is "KEY="; a number behind a comma;
-- numbers, each behind one
abbrev pub number_line : List ℕ → ℕ → List ℕ
number_line key n = key ++ (decimal n ++ 10 ∷ [])

abbrev pub behind_comma : ℕ → List ℕ
behind_comma v = 44 ∷ decimal v

unfoldable pub commaed : List ℕ → List ℕ
commaed [] = []
commaed (v ∷ vs) = 44 ∷ (decimal v ++ commaed vs)
