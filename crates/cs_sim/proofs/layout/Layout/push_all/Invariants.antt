use Rattle.std.proofs.Common.{◌≡◌, drop, fold}
use Rattle.std.specs.List.{zip}
use Rattle.cs_sim.specs.Layout.{layout_of, with_cell}
use Rattle.cs_sim.proofs.layout.Layout.push_all.Given as goal

-- the cells that are left make the layout of what is laid out
abbrev pub invariant-loop-place : goal.invariant-loop-place
invariant-loop-place l =
    fold (with_cell l.wiring.driven l.net.starts) l.self (drop l.place (zip l.net.cells l.net.shapes)) ≡ layout_of l.net
