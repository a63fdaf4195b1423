use Rattle.std.proofs.Common.{◌≡◌, ◌++◌, drop, map}
use Rattle.cs_net.specs.Build.{cell_of}
use Rattle.cs_modules.specs.Modules.{cells_in}
use Rattle.cs_net.proofs.build.cells.Given as goal

abbrev pub invariant-loop-decl : goal.invariant-loop-decl
invariant-loop-decl l = l.made ++ map cell_of (cells_in (drop l.decl-index l.cells)) ≡ map cell_of (cells_in l.cells)
