-- A wire for each context bit.
use Rattle.std.proofs.Common.{◌*◌, ◌∙◌, sym, ap₂}
use Rattle.cs_bank.specs.ContextBits.{context_bits}
use Rattle.cs_bank.proofs.MeasureLemmas.{wires_count}
use Rattle.cs_bank.proofs.measures.of_context_pins.Goals as goal

pub returns-clause-is : goal.returns-clause-is
returns-clause-is c first =
    ap₂ (λ a b. a * b) c.of_wire.ensures.is c.context_bits.ensures.is
    ∙ sym (wires_count c.args.measure first (context_bits c.args.contexts))
