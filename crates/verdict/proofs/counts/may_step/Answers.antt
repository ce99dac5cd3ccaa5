-- `verdict::counts::may_step` meets its contract: what is fetched is the program's next instruction, and it is done in a machine that differs in the
-- thread's place only. Assumes nothing.
use Prim.Native.Nat.{◌≤◌}
use mathlib.Core.Path.{◌≡◌, sym, ◌∙◌}
use mathlib.Core.Option.{none, some}
use lib.ListN.{get_or}
use Rattle.program.specs.Program.{most_ops}
use Rattle.listing.specs.Listing.{op_in, at}
use Rattle.px86.specs.Machine.{moved}
use Rattle.px86.specs.Step.{next}
use Rattle.program.proofs.Threads.{found_some, past-none}
use Rattle.verdict.proofs.counts.may_step.Goals as goal

pub returns-in-Some : goal.returns-in-Some
unfolding next moved
returns-in-Some c =
    let t = c.args.t.0 in
    let k = get_or c.args.places.now t 0 in
    let few : k ≤ most_ops = c.requires.allowed t in
    let found : op_in (at c.args.list.now t k) ≡ some c.in-Some.o = found_some _ _ c.in-Some.o c.fetch.ensures c.in-Some.is in
    λ p bs vs g lists e. rw (sym (lists.is t k c.requires.there few) ∙ found) (c.may_do.ensures bs e p vs _ g)

pub returns-in-None : goal.returns-in-None
unfolding next
returns-in-None c =
    let t = c.args.t.0 in
    let k = get_or c.args.places.now t 0 in
    let few : k ≤ most_ops = c.requires.allowed t in
    let past : op_in (at c.args.list.now t k) ≡ none = past-none _ _ c.fetch.ensures c.in-None.is in
    λ p bs vs g lists e. rw (sym (lists.is t k c.requires.there few) ∙ past)
