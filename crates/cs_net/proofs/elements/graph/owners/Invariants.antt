use Rattle.std.proofs.Common.{◌≡◌, ℕ, drop, nat_eq}
use Rattle.std.specs.HashMap.{get}
use Rattle.std.specs.List.{position_from}
use Rattle.std.specs.Option.{option_or}
use Rattle.cs_modules.specs.Signals.{holds_bit}
use Rattle.cs_net.specs.Elements.{owner}
use Rattle.cs_net.proofs.elements.graph.owners.Given as goal

-- a bit without an owner has the first among the elements that are left
abbrev pub invariant-loop-number : goal.invariant-loop-number
invariant-loop-number l = (b : ℕ) →
    option_or (get nat_eq l.owners b)
    (position_from (λ e. holds_bit b e.outputs) l.number (drop l.number l.elements))
    ≡ owner l.elements b
