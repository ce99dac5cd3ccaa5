-- What is asked of a want line that is written. Assumes nothing: these are definitions.
use Rattle.std.specs.Prelude.{◌<◌, ◌≤◌}
use Rattle.names.specs.Names.{locations}
use Rattle.program.specs.declared.Want.{Want}
use Rattle.program.specs.declared.Want.TheVariants.{All, One}

-- where one memory is wanted it has a value, and no more than there are locations
abbrev pub CountFits : Want → Type 0
CountFits All = Unit {0}
CountFits (One n vs) = (0 < n) × (n ≤ locations)
