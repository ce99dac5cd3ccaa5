-- What is written piece by piece. Assumes nothing: these are laws.
use Rattle.std.proofs.Common.{List, ℕ, ◌+◌, ◌≤◌, ◌≡◌, [], ◌∷◌, ◌++◌, length, take, drop, refl, sym, ◌∙◌, ap, arith}
use mathlib.Core.List.{append_assoc}
use lib.ListN.{length-append}
use lib.Seq.{take_at, drop-drop, length-take-le, drop-append-add}
use Rattle.number.specs.Put.{put}
use Rattle.number.proofs.Put.{put-nil}
use Rattle.pen.specs.Pen.{Wrote}
use Rattle.pen.specs.declared.pen.Pen.{Pen}

put_both : (d : List ℕ) (at : ℕ) (s t : List ℕ) → at ≤ length d → put (put d at s) (at + length s) t ≡ put d at (s ++ t)
unfolding put
put_both d at s t h =
    let p = take at d ++ s in
    let k : length p ≡ at + length s = length-append (take at d) s ∙ ap (λ (n : ℕ). n + length s) (length-take-le at d h) in
    let a : take (at + length s) (p ++ drop (at + length s) d) ≡ p = take_at p (drop (at + length s) d) (at + length s) k in
    let b : drop (at + length s + length t) (p ++ drop (at + length s) d) ≡ drop (at + length s + length t) d =
    ap (λ (n : ℕ). drop (n + length t) (p ++ drop (at + length s) d)) (sym k)
    ∙ drop-append-add p (drop (at + length s) d) (length t) ∙ drop-drop (length t) (at + length s) d in
    let e : at + length s + length t ≡ at + length (s ++ t) = simp length-append (omega arith) in
    rw (a, b) (ap (λ (l : List ℕ). l ++ drop (at + length s + length t) d) (append_assoc (take at d) s t)
    ∙ ap (λ (n : ℕ). take at d ++ (s ++ t) ++ drop n d) e)

-- one piece behind another is both together
pub wrote_both : (a b : List ℕ) (s t u : Pen) → Wrote a s t → Wrote b t u → Wrote (a ++ b) s u
wrote_both a b s t u v w =
    let m = length-append a b in
    record {
      at = omega (arith, m, v.at, w.at);
      long = w.long ∙ v.long;
      bytes = w.bytes ∙ (rw (v.bytes, v.at) (put_both s.buf.now s.at a b s.inside));
      same = w.same ∙ v.same;
    }

-- the same of a byte and what stands behind it
pub wrote_first : (b : ℕ) (l : List ℕ) (s t u : Pen) → Wrote (b ∷ []) s t → Wrote l t u → Wrote (b ∷ l) s u
wrote_first b l s t u v w = wrote_both (b ∷ []) l s t u v w

-- nothing is written where nothing is done
pub wrote_nothing : (s : Pen) → Wrote [] s s
wrote_nothing s = record { at = omega arith; long = refl; bytes = sym (put-nil s.buf.now s.at); same = refl }

-- a text is put into a buffer in one way: what the pen's buffer holds, and where its place is, hangs on the text alone
pub wrote_once : (t : List ℕ) (s u v : Pen) → Wrote t s u → Wrote t s v → (u.at ≡ v.at) × (u.buf.now ≡ v.buf.now)
wrote_once t s u v p q = (p.at ∙ sym q.at, p.bytes ∙ sym q.bytes)
