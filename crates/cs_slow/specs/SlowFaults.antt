-- When slowing refuses.
use Rattle.std.specs.Prelude.{◌≡◌, ℕ, ◌*◌, nat_lt, if◌then◌else◌, Option, Some, None}
use Rattle.std.specs.List.{sum_by}
use Rattle.cs_base.specs.declared.limit.LimitFault.{LimitFault}
use Rattle.cs_base.specs.declared.limit.Counted.TheVariants.{Weight}
use Rattle.cs_graph.specs.declared.edge.Edge.{Edge}
use Rattle.cs_graph.specs.declared.graph.Graph.{Graph}
use Rattle.cs_slow.specs.declared.error.SlowError.{SlowError}
use Rattle.cs_slow.specs.declared.error.SlowError.TheVariants.{Limit, NoMemory}

-- how many registers there are
abbrev pub register_count : Graph → ℕ
register_count g = sum_by (λ (d : Edge). d.weight) g.edges

-- c times as many are more than a machine may have
abbrev pub slow_fault : ℕ → Graph → Option LimitFault
slow_fault c g =
    if nat_lt 65536 (register_count g * c)
    then Some (record { what = Weight; found = register_count g * c; most = 65536 })
    else None

-- the error tells this fault, or that memory ran out
abbrev pub TellsSlowFault : Option LimitFault → SlowError → Type 0
TellsSlowFault fault (Limit f) = fault ≡ Some f
TellsSlowFault fault NoMemory = Unit {0}
