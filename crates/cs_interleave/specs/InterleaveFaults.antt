-- When a netlist has no machine for several contexts, and what an error tells.
use Rattle.std.specs.Prelude.{◌≡◌, ℕ, List, Option, Some}
use Rattle.std.specs.Option.{option_or}
use Rattle.cs_bank.specs.BankFaults.{bank_fault}
use Rattle.cs_bank.specs.declared.error.BankError.{BankError}
use Rattle.cs_bank.specs.declared.error.BankError.TheVariants.{Limit as bank_limit, NoMemory as bank_memory}
use Rattle.cs_base.specs.declared.limit.LimitFault.{LimitFault}
use Rattle.cs_graph.specs.declared.graph.Graph.{Graph}
use Rattle.cs_graph.specs.Slow.{slow}
use Rattle.cs_interleave.specs.declared.error.InterleaveError.{InterleaveError}
use Rattle.cs_interleave.specs.declared.error.InterleaveError.TheVariants.{Limit, NoMemory}
use Rattle.cs_lower.specs.declared.error.LowerError.{LowerError}
use Rattle.cs_lower.specs.declared.error.LowerError.TheVariants.{Limit as lower_limit, NoMemory as lower_memory}
use Rattle.cs_lower.specs.LowerFaults.{lower_fault}
use Rattle.cs_lower.specs.Lowered.{lowered}
use Rattle.cs_net.specs.Contexts.{Image}
use Rattle.cs_net.specs.declared.images.Images.{Images}
use Rattle.cs_net.specs.Netlist.{Net}
use Rattle.cs_slow.specs.declared.error.SlowError.{SlowError}
use Rattle.cs_slow.specs.declared.error.SlowError.TheVariants.{Limit as slow_limit, NoMemory as slow_memory}
use Rattle.cs_slow.specs.SlowFaults.{slow_fault}

-- the first fault of a graph that is slowed and banked: of the slowed one, of the banked one
abbrev pub contexts_fault : ℕ → List (Option (List Image)) → Graph → Option LimitFault
contexts_fault c entries g = option_or (slow_fault c g) (bank_fault c entries (slow c g))

-- the first fault: of the netlist's own graph, of the slowed one, of the banked one
abbrev pub interleave_fault : Net → Images → ℕ → Option LimitFault
interleave_fault net images c = option_or (lower_fault net) (contexts_fault c images.of (lowered net))

-- the error tells this fault, or that memory ran out
abbrev pub TellsInterleaveFault : Option LimitFault → InterleaveError → Type 0
TellsInterleaveFault fault (Limit f) = fault ≡ Some f
TellsInterleaveFault fault NoMemory = Unit {0}

-- ---- the same error of a part

abbrev pub of_lower : LowerError → InterleaveError
of_lower (lower_limit f) = Limit f
of_lower lower_memory = NoMemory

abbrev pub of_slow : SlowError → InterleaveError
of_slow (slow_limit f) = Limit f
of_slow slow_memory = NoMemory

abbrev pub of_bank : BankError → InterleaveError
of_bank (bank_limit f) = Limit f
of_bank bank_memory = NoMemory
