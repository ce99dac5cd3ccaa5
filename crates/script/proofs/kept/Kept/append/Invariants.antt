-- `Kept::append` meets its contract: byte by byte. Assumes nothing.
use Rattle.std.proofs.Common.{◌≡◌, ◌++◌, take}
use Rattle.script.specs.Script.{seen}
use Rattle.script.proofs.kept.Kept.append.Given as goal

abbrev pub invariant-loop-c : goal.invariant-loop-c
invariant-loop-c l = l.self ≡ seen (l.fn.self ++ take l.c-index l.more)
