-- `Kept::push` meets its contract: the byte is kept where there is room. Assumes nothing.
use Rattle.std.proofs.Common.{List, ℕ, [], ◌∷◌, ◌++◌, ap, ◌∙◌, sym, arith, rules}
use Rattle.script.specs.Script.{seen}
use Rattle.script.proofs.Seen.{kept-more, kept-full}
use Rattle.script.proofs.Blank.{more-blank}
use Rattle.script.proofs.kept.Kept.push.Goals as goal

-- with its place written it is one byte more that is in use, and those behind it are 0 as before
pub invariant_of-self : goal.invariant_of-self
invariant_of-self c =
    (omega arith, more-blank 1025 _ _ c.self.invariant.0 c.self.invariant.1 c.args.c (omega arith))

pub returns-then-self-lt1025 : goal.returns-then-self-lt1025
returns-then-self-lt1025 c =
    kept-more _ _ c.self.invariant.0 (search rules) c.args.c c.if-self-lt1025.true ∙ ap (λ (l : List ℕ). seen (l ++ c.args.c ∷ [])) c.self.view_is

pub returns-else-self-lt1025 : goal.returns-else-self-lt1025
returns-else-self-lt1025 c =
    sym c.self.view_is ∙ kept-full _ _ c.self.invariant.0 (search rules) c.args.c c.if-self-lt1025.false ∙ ap (λ (l : List ℕ). seen (l ++ c.args.c ∷ [])) c.self.view_is
