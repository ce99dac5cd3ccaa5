-- `verdict::counts::is_fenced` meets its contract: its tests are the definition's two, of which the first is told by a count. Assumes nothing.
use mathlib.Core.Path.{◌≡◌, sym, ◌∙◌}
use borrow.Author.Tests.{eq-eqb, ne_eqb}
use lib.Dec.{eqb}
use lib.ListN.{get_or}
use Rattle.state.specs.State.{queues_of}
use Rattle.verdict.specs.Verdict.{fenced_by}
use Rattle.verdict.proofs.Judging.{fenced-by}
use Rattle.verdict.proofs.counts.is_fenced.Goals as goal

pub returns-then-counts-t-eq0-clause-value : goal.returns-then-counts-t-eq0-clause-value
returns-then-counts-t-eq0-clause-value c =
    let tests : c.all_clear.result ≡ fenced_by c.args.counts.now (queues_of c.args.queues.now) c.args.t.0 =
    rw (eq-eqb _ _ c.if-counts-t-eq0.true) c.all_clear.ensures in
    λ bs vs ns g e. tests ∙ sym (fenced-by bs _ e c.args.t.0 _ vs ns g)

pub returns-else-counts-t-eq0-clause-value : goal.returns-else-counts-t-eq0-clause-value
returns-else-counts-t-eq0-clause-value c =
    let tests : eqb (get_or c.args.counts.now c.args.t.0 0) 0 ≡ fenced_by c.args.counts.now (queues_of c.args.queues.now) c.args.t.0 =
    rw (ne_eqb _ _ c.if-counts-t-eq0.false) in
    λ bs vs ns g e. tests ∙ sym (fenced-by bs _ e c.args.t.0 _ vs ns g)
