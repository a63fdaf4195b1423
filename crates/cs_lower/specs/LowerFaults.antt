-- When lowering refuses: the graph would be more than a machine may be.
use Rattle.std.specs.Prelude.{◌≡◌, length, Option, Some}
use Rattle.std.specs.Option.{option_or}
use Rattle.cs_base.specs.declared.limit.Counted.TheVariants.{Edges, Vertices, Weight}
use Rattle.cs_base.specs.declared.limit.LimitFault.{LimitFault}
use Rattle.cs_graph.specs.Draft.{Draft, edge_count, weight}
use Rattle.cs_net.specs.Accept.{above_limit}
use Rattle.cs_net.specs.Netlist.{Net}
use Rattle.cs_lower.specs.declared.error.LowerError.{LowerError}
use Rattle.cs_lower.specs.declared.error.LowerError.TheVariants.{Limit, NoMemory}
use Rattle.cs_lower.specs.Lowered.{draft_of}

-- the first of vertices, edges and registers that are too many, with their whole count
abbrev pub size_fault : Draft → Option LimitFault
size_fault d =
    option_or (above_limit Vertices (length d.vertices) 4096)
    (option_or (above_limit Edges (edge_count d.vertices) 32768) (above_limit Weight (weight d.vertices) 65536))

abbrev pub lower_fault : Net → Option LimitFault
lower_fault net = size_fault (draft_of net)

-- the error tells this fault, or that memory ran out
abbrev pub TellsLowerFault : Option LimitFault → LowerError → Type 0
TellsLowerFault fault (Limit f) = fault ≡ Some f
TellsLowerFault fault NoMemory = Unit {0}
