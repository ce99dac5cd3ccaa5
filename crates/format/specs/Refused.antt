-- Why a line is refused, by number: "2: misshapen", "3: a well-formed number outside its limit", "4: a ninth instruction".
-- Assumes nothing: these are definitions.
use Rattle.std.specs.Prelude.{ℕ, zero, suc}
use Rattle.number.specs.declared.Fault.{Fault}
use Rattle.number.specs.declared.Fault.TheVariants as fault
use Rattle.format.specs.declared.Refused.{Refused}
use Rattle.format.specs.declared.Refused.TheVariants.{Shape, Limit, Full}

abbrev pub refused_number : Refused → ℕ
refused_number Shape = 2
refused_number Limit = 3
refused_number Full = 4

-- and back: the refusal of a number, which is one of these three
abbrev pub refused_as : ℕ → Refused
refused_as zero = Full
refused_as (suc zero) = Full
refused_as (suc (suc zero)) = Shape
refused_as (suc (suc (suc zero))) = Limit
refused_as (suc (suc (suc (suc k)))) = Full

-- why a line of numbers is refused
abbrev pub of_fault : Fault → Refused
of_fault fault.Shape = Shape
of_fault fault.Limit = Limit
