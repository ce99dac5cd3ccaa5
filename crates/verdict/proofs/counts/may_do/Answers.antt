-- `verdict::counts::may_do` meets its contract: what waits, waits as a fence does. Assumes nothing.
use Rattle.verdict.proofs.Judging.{passes, waited}
use Rattle.verdict.proofs.counts.may_do.Goals as goal

pub returns-then-not-waits : goal.returns-then-not-waits
returns-then-not-waits c = λ bs e p vs ns g. passes _ _ _ (c.waits.ensures p _ _) c.if-not-waits.true

pub returns-else-not-waits : goal.returns-else-not-waits
returns-else-not-waits c = λ bs e p vs ns g. waited _ _ _ _ (c.waits.ensures p _ _) c.if-not-waits.false (c.is_fenced.ensures.value bs vs ns g e)
