-- Values by the numbers of bits.
use Rattle.std.specs.Prelude.{ℕ, nat_eq, nat_lt, if◌then◌else◌, Option, None, get_or, length}
use Rattle.std.specs.HashMap.{get}
use Rattle.cs_lower.specs.declared.table.Table.{Table}

-- the value that a bit has: of a low bit in a list, of any other in a map
unfoldable pub held : {V : Type 0} → Table V → ℕ → Option V
held table b =
    if nat_lt b (length table.low.items) then get_or table.low.items b None else get nat_eq table.others b
