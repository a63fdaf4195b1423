-- What an error of banking tells.
use Rattle.std.specs.Prelude.{◌≡◌, Option, Some}
use Rattle.cs_base.specs.declared.limit.LimitFault.{LimitFault}
use Rattle.cs_bank.specs.declared.error.BankError.{BankError}
use Rattle.cs_bank.specs.declared.error.BankError.TheVariants.{Limit, NoMemory}

-- the error tells this fault, or that memory ran out
abbrev pub TellsBankFault : Option LimitFault → BankError → Type 0
TellsBankFault fault (Limit f) = fault ≡ Some f
TellsBankFault fault NoMemory = Unit {0}
