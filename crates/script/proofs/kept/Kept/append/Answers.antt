use Rattle.std.proofs.Common.{List, ℕ, [], ◌∷◌, ◌++◌, ap, ◌∙◌, sym, get_or, arith, rules}
use Rattle.script.specs.Script.{seen}
use Rattle.script.proofs.Seen.{kept-none, seen_next}
use Rattle.script.proofs.kept.Kept.append.Goals as goal

pub loop-c-init : goal.loop-c-init
loop-c-init c = sym c.self.view_is ∙ kept-none _ _ c.self.invariant.0 (search rules) ∙ ap (λ (l : List ℕ). seen (l ++ [])) c.self.view_is

pub loop-c-preserved : goal.loop-c-preserved
loop-c-preserved c =
    c.push.ensures ∙ ap (λ (l : List ℕ). seen (l ++ get_or c.args.more.now c.loop-c.c-index 0 ∷ [])) c.loop-c.invariant ∙ seen_next c.args.self.now c.args.more.now c.loop-c.c-index (omega arith)
