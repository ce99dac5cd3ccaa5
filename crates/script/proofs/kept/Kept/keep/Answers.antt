-- `Kept::keep` meets its contract: the line, and its line feed. Assumes nothing.
use Rattle.std.proofs.Common.{List, ℕ, [], ◌∷◌, ◌++◌, ap, ◌∙◌}
use Rattle.script.specs.Script.{seen}
use Rattle.script.proofs.Seen.{seen-two}
use Rattle.script.proofs.kept.Kept.keep.Goals as goal

pub returns : goal.returns
returns c = c.push.ensures ∙ ap (λ (l : List ℕ). seen (l ++ 10 ∷ [])) c.append.ensures ∙ seen-two c.args.self.now c.args.line.now (10 ∷ [])
