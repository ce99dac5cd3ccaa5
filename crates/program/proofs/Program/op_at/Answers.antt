-- `program::Program::op_at` meets its contract: what the look-up finds is the instruction there. Assumes nothing.
use Prim.Native.Nat.{ℕ, ◌<◌, ◌≤◌}
use mathlib.Core.Path.{◌≡◌, refl, sym, ◌∙◌}
use mathlib.Core.List.{List}
use denote.Bor.{Bor}
use lib.ListN.{length, get_or, get_elem?}
use Rattle.std.specs.Prelude.{Option, Some, None, IfSome, MatchOption, option_copied}
use Rattle.std.specs.List.{HoldsAt}
use Rattle.std.proofs.lemmas.Option.{slice_get_past, slice_get_read}
use Rattle.program.specs.Program.{fetched_of}
use Rattle.program.specs.declared.Op.{Op}
use Rattle.program.proofs.Threads.{gets}
use Rattle.program.proofs.Program.op_at.Goals as goal

looked :
    (os : List Op) (k : ℕ) (r : Option (Bor Op))
    → MatchOption r (length os ≤ k) (λ x. (k < length os) × HoldsAt (λ y. x.now ≡ y) os k)
    → IfSome r (λ x. x.now ≡ get_or os k x.now) → option_copied r ≡ fetched_of (get_elem? os k)
looked os k None past is = sym (slice_get_past os k past) ∙ gets os k
looked os k (Some x) there is = sym (slice_get_read os (length os) k x.now refl there.0 is) ∙ gets os k

pub returns : goal.returns
returns c = let found = c.get.ensures.lookup in rw (← c.thread.ensures.instructions) (c.copied.ensures ∙ looked c.thread.result.now c.args.k c.get.result found.3 found.1)
