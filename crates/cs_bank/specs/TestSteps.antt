-- The test of an address, one bit after the other.
use Rattle.std.specs.Prelude.{ℕ, ◌-◌, if◌then◌else◌, Bool, true, false, Option, List, [], ◌∷◌}
use Rattle.cs_cells.specs.declared.gate.Kind.TheVariants.{AndNot, Not, OrNot}
use Rattle.cs_graph.specs.declared.source.OpenVertex.{OpenVertex}
use Rattle.cs_graph.specs.declared.source.Source.{Source}
use Rattle.cs_bank.specs.ContextBits.{gate, wire}
use Rattle.cs_bank.specs.Guards.{below_size, comparison}

-- the gates of one address bit and digit, from vertex v on: none before the first digit 1
abbrev pub test_gates : Bool → ℕ → Option Source → Bool → List OpenVertex
test_gates false v a false = []
test_gates false v a true = gate Not (a ∷ []) ∷ []
test_gates true v a d = gate (if d then OrNot else AndNot) (wire (v - 1) ∷ a ∷ []) ∷ []

-- those of the bits that are left, where the test has begun or not
abbrev pub test_left : Bool → ℕ → List (Option Source) → List Bool → List OpenVertex
test_left false v address ds = below_size v address ds
test_left true v address ds = comparison (v - 1) address ds
