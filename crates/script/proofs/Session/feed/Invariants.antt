-- `Session::feed` meets its contract. The loop's invariant: from every place that the session held at the start, the bytes so far were taken, and
-- what they tell was written. Assumes nothing.
use Rattle.std.proofs.Common.{◌*◌, ◌≤◌, take}
use Rattle.runs.specs.Run.{most_reply}
use Rattle.script.specs.Stream.{Place}
use Rattle.script.specs.Stands.{Holds}
use Rattle.script.proofs.Feeding.{Feeds}
use Rattle.script.proofs.Session.feed.Given as goal

abbrev pub invariant-loop-c : goal.invariant-loop-c
invariant-loop-c l =
    (l.pen.at ≤ most_reply * l.c-index) × ((a : Place) → Holds l.fn.self a → Feeds a (take l.c-index l.piece) l.initial.pen l.self l.pen)
