use Rattle.std.proofs.Common.{◌≡◌, ℕ, drop, nat_eq}
use Rattle.std.specs.Prelude.{flat_map, slice_get}
use Rattle.std.specs.Option.{option_or}
use Rattle.std.specs.HashMap.{get}
use Rattle.cs_modules.specs.Modules.{init_values_in}
use Rattle.cs_modules.proofs.starts.first_values.Given as goal

-- a bit without a value has its first in the nets that are left
abbrev pub invariant-loop-net : goal.invariant-loop-net
invariant-loop-net l = (b : ℕ) →
    option_or (get nat_eq l.firsts b) (slice_get (flat_map (init_values_in b) (drop l.net-index l.nets)) 0)
    ≡ slice_get (flat_map (init_values_in b) l.nets) 0
