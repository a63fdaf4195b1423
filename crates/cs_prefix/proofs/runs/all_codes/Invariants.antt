use Rattle.std.proofs.Common.{◌≡◌, ◌++◌, drop, map}
use Rattle.std.specs.List.{enumerate_from}
use Rattle.cs_prefix.specs.Runs.{all_codes, edge_code}
use Rattle.cs_prefix.proofs.runs.all_codes.Given as goal

abbrev pub invariant-loop-edge : goal.invariant-loop-edge
invariant-loop-edge l =
    l.codes.items ++ map (λ e. edge_code e.1 e.0) (enumerate_from l.edge (drop l.edge l.drivers))
    ≡ all_codes l.drivers
