use Rattle.std.proofs.Common.{◌≡◌, ◌++◌, flat_map}
use Rattle.std.specs.List.{zip}
use Rattle.cs_net.specs.Drivers.{memory_read_starts}
use Rattle.cs_lower.proofs.starts.start_list.Given as goal

-- the starts of the cells that are left come after those that are pushed
abbrev pub invariant-loop-cell : goal.invariant-loop-cell
invariant-loop-cell l =
    l.values.items ++ flat_map memory_read_starts (zip l.cell-iterator.a.rest.now l.cell-iterator.b.rest.now)
    ≡ l.net.starts ++ flat_map memory_read_starts (zip l.net.cells l.net.shapes)
