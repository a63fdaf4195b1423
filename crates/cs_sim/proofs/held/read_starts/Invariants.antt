use Rattle.std.proofs.Common.{◌≡◌, map, take}
use Rattle.cs_sim.proofs.held.read_starts.Given as goal

abbrev pub invariant-loop-port : goal.invariant-loop-port
invariant-loop-port l = map (λ bits. bits.items) l.starts.items ≡ map (λ p. map (λ b. b.start) p.bits) (take l.port-index l.ports)
