use Rattle.std.proofs.Common.{◌≡◌, ℕ, drop, false, nat_eq}
use Rattle.std.specs.Prelude.{find, option_map, unwrap_or, ◌==◌}
use Rattle.std.specs.Option.{option_or}
use Rattle.std.specs.HashMap.{get}
use Rattle.cs_net.specs.Netlist.{bit_at}
use Rattle.cs_net.proofs.initial_values.value_map.Given as goal

-- a bit without a value has its first in what is left
abbrev pub invariant-loop-value : goal.invariant-loop-value
invariant-loop-value l = (b : ℕ) →
    unwrap_or (option_or (get nat_eq l.firsts b) (option_map (λ e. e.value) (find (λ e. e.bit == b) (drop l.value-index l.values)))) false
    ≡ bit_at l.values b
