-- What a pin shows clock by clock, by its trail.
use Rattle.std.specs.Prelude.{ℕ, ℤ, pos, negsuc, ◌-ℤ◌, Bool, false, length, get_or}
use Rattle.cs_graph.specs.Run.{Outs}
use Rattle.cs_lower.specs.Followed.{Trail}
use Rattle.cs_lower.specs.declared.taps.End.{End}
use Rattle.cs_lower.specs.declared.taps.End.TheVariants.{Constant as at_bit, Vertex as at_vertex}

-- what an end is at clock n
abbrev pub at_end : (ℕ → Outs) → ℕ → End → Bool
at_end value n (at_vertex v o) = value n v o
at_end value n (at_bit b) = b

-- what a trail carries at a clock: what its end is, and its contents before clock 0
abbrev pub carried_by : Trail → (ℕ → Outs) → ℤ → Bool
carried_by t value (pos n) = at_end value n t.end
carried_by t value (negsuc j) = get_or t.contents j false

-- what a trail shows at clock n: what it carried as many clocks before as it passes registers
abbrev pub shown : (ℕ → Outs) → Trail → ℕ → Bool
shown value t n = carried_by t value (pos n -ℤ pos (length t.contents))
