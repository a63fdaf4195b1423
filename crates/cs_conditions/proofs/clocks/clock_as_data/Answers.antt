use Rattle.std.proofs.Common.{◌≡◌, ◌∙◌, ℕ, List, Bool, true, false, ◌&&◌, ◌||◌, ap}
use Rattle.std.specs.List.{list_any}
use Rattle.cs_json.specs.declared.document.Module.{Module}
use Rattle.cs_modules.specs.declared.connection.PinBit.{PinBit}
use Rattle.cs_conditions.specs.declared.error.NetError.TheVariants.{ClockAsData}
use Rattle.cs_conditions.specs.Conditions.{error_if}
use Rattle.cs_modules.specs.Modules.{connections_of, is_data_input, output_bits, reads_as_data}
use Rattle.cs_modules.specs.Signals.{is_bit, is_output}
use Rattle.cs_modules.specs.PinBits.{bits_of_cells}
use Rattle.cs_modules.proofs.Connections.{is_read}
use Rattle.cs_conditions.proofs.clocks.clock_as_data.Goals as goal

-- the clock's bit is b, and t says whether something reads it
answered : (m : Module) (bits : List PinBit) (clock b : ℕ) (t : Bool) → bits ≡ bits_of_cells m.cells → b ≡ clock
    → t ≡ (list_any (λ pin. is_data_input pin.role && is_bit b pin.signal) bits || list_any (λ port. is_output port.direction && list_any (is_bit b) port.bits) m.ports)
    → error_if t (ClockAsData clock) ≡ error_if (list_any (reads_as_data clock) (connections_of m) || list_any (is_bit clock) (output_bits m)) (ClockAsData clock)
answered m bits clock b t are is found =
    ap (λ t. error_if t (ClockAsData clock))
    (found ∙ is_read m.cells bits m.ports b are ∙ ap (λ b. list_any (reads_as_data b) (connections_of m) || list_any (is_bit b) (output_bits m)) is)

pub returns-then-is_read : goal.returns-then-is_read
returns-then-is_read c = answered c.args.top.now c.args.bits.now c.args.clock.bit c.get.result true c.requires c.get.ensures c.if-is_read.ensures

pub returns-else-is_read : goal.returns-else-is_read
returns-else-is_read c = answered c.args.top.now c.args.bits.now c.args.clock.bit c.get.result false c.requires c.get.ensures c.if-is_read.ensures
