use Rattle.std.proofs.Common.{◌≡◌, ℕ, drop, nat_eq}
use Rattle.std.specs.Prelude.{filter_map, slice_get}
use Rattle.std.specs.Option.{option_or}
use Rattle.std.specs.List.{enumerate_from}
use Rattle.std.specs.HashMap.{get}
use Rattle.cs_modules.proofs.FirstValues.{value_for}
use Rattle.cs_modules.proofs.starts.note_values.Given as goal

-- a bit without a value has its first in what is left
abbrev pub invariant-loop-i : goal.invariant-loop-i
invariant-loop-i l = (b : ℕ) →
    option_or (get nat_eq l.firsts b) (slice_get (filter_map (value_for b l.digits) (enumerate_from l.i (drop l.i l.bits))) 0)
    ≡ option_or (get nat_eq l.fn.firsts b) (slice_get (filter_map (value_for b l.digits) (enumerate_from 0 l.bits)) 0)
