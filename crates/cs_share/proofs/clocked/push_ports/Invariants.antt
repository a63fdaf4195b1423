use Rattle.std.proofs.Common.{◌≡◌, ◌++◌, drop, filter}
use Rattle.std.specs.Prelude.{codes, if◌then◌else◌, not}
use Rattle.cs_json.specs.Readable.{is_below}
use Rattle.cs_net.specs.declared.netlist.Port.{Port}
use Rattle.cs_share.proofs.clocked.push_ports.Given as goal

abbrev pub invariant-loop-port : goal.invariant-loop-port
invariant-loop-port l =
    l.made ++ filter (λ (p : Port). if l.before then is_below p.name (codes "cslow_clk") else not (is_below p.name (codes "cslow_clk")))
    (drop l.port-index l.ports)
    ≡ l.fn.made ++ filter (λ (p : Port). if l.before then is_below p.name (codes "cslow_clk") else not (is_below p.name (codes "cslow_clk")))
    l.ports
