use Rattle.std.proofs.Common.{◌≡◌, ◌++◌, drop, filter, flat_map}
use Rattle.cs_modules.specs.Signals.{is_input}
use Rattle.cs_net.proofs.elements.input_bits.Given as goal

abbrev pub invariant-loop-port : goal.invariant-loop-port
invariant-loop-port l =
    l.bits.items ++ flat_map (λ p. p.bits) (filter (λ p. is_input p.direction) (drop l.port-index l.ports))
    ≡ flat_map (λ p. p.bits) (filter (λ p. is_input p.direction) l.ports)
