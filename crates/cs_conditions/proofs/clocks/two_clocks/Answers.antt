use Rattle.std.proofs.Common.{◌≡◌, ◌∙◌, ℕ, List, sym, ap, Option, Some, None, not}
use Rattle.std.specs.Prelude.{◌==◌, find, filter_map, option_map}
use Rattle.cs_json.specs.declared.document.CellDecl.{CellDecl}
use Rattle.cs_modules.specs.declared.clocks.ClockBit.{ClockBit}
use Rattle.cs_conditions.specs.declared.error.NetError.TheVariants.{TwoClocks}
use Rattle.cs_modules.specs.Pins.{connections}
use Rattle.cs_modules.specs.Modules.{cells_in, clock_pin}
use Rattle.cs_modules.specs.Signals.{number_in}
use Rattle.cs_modules.specs.PinBits.{clock_bits_of}
use Rattle.cs_modules.proofs.Connections.{clock_numbers}
use Rattle.cs_conditions.proofs.clocks.two_clocks.Goals as goal

other : (clock : ℕ) (cells : List CellDecl) (pins : List ClockBit) (found : Option ℕ) → pins ≡ clock_bits_of cells → found ≡ find (λ b. not (b == clock)) (filter_map (λ pin. number_in pin.signal) pins)
    → option_map (λ b. TwoClocks clock b) found ≡ option_map (λ b. TwoClocks clock b) (find (λ b. not (b == clock)) (filter_map (λ p. number_in p.signal) (filter_map clock_pin (connections (cells_in cells)))))
other clock cells pins found are is =
    ap (option_map (λ b. TwoClocks clock b)) (is ∙ ap (find (λ b. not (b == clock))) (ap (filter_map (λ pin. number_in pin.signal)) are ∙ sym (clock_numbers cells)))

pub returns-in-None : goal.returns-in-None
returns-in-None c = other c.args.clock.bit c.args.top.now.cells c.args.pins.now None c.requires c.in-None.ensures

pub returns-in-Some : goal.returns-in-Some
returns-in-Some c =
    ap (λ b. Some (TwoClocks c.args.clock.bit b)) c.new.ensures
    ∙ other c.args.clock.bit c.args.top.now.cells c.args.pins.now (Some c.in-Some.bit) c.requires c.in-Some.ensures
