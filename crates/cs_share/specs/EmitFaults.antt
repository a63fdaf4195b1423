-- What an error of emission tells.
use Rattle.std.specs.Prelude.{◌≡◌, Option, Some}
use Rattle.cs_base.specs.declared.limit.LimitFault.{LimitFault}
use Rattle.cs_share.specs.declared.error.EmitError.{EmitError}
use Rattle.cs_share.specs.declared.error.EmitError.TheVariants.{Limit, NoMemory}

-- the error tells this fault, or that memory ran out
abbrev pub TellsEmitFault : Option LimitFault → EmitError → Type 0
TellsEmitFault fault (Limit f) = fault ≡ Some f
TellsEmitFault fault NoMemory = Unit {0}
