use Rattle.std.proofs.Common.{◌∙◌, ℕ, Bool, ap, Some, None, not}
use Rattle.std.specs.Prelude.{find}
use mathlib.Core.Path.{fun_ext}
use Rattle.cs_conditions.specs.declared.error.NetError.TheVariants.{ClockNotInput}
use Rattle.cs_modules.specs.Modules.{input_bits}
use Rattle.cs_modules.specs.Signals.{is_bit_of, is_bit_where}
use Rattle.cs_conditions.proofs.FirstErrors.{first_pin_error}
use Rattle.cs_conditions.proofs.clocks.clock_not_input.Goals as goal

pub returns-in-None : goal.returns-in-None
returns-in-None c =
    let top = c.args.top.now in
    let pins = c.args.pins.now in
    first_pin_error (λ p. not (is_bit_of (input_bits top) p.signal)) (λ p. ClockNotInput p.signal) top.cells pins None c.requires.pins
    (c.in-None.ensures ∙ ap (λ (is_input : ℕ → Bool). find (λ pin. not (is_bit_where is_input pin.signal)) pins) (fun_ext c.requires.inputs))

pub returns-in-Some : goal.returns-in-Some
returns-in-Some c =
    let top = c.args.top.now in
    let pins = c.args.pins.now in
    first_pin_error (λ p. not (is_bit_of (input_bits top) p.signal)) (λ p. ClockNotInput p.signal) top.cells pins (Some c.in-Some.pin) c.requires.pins
    (c.in-Some.ensures ∙ ap (λ (is_input : ℕ → Bool). find (λ pin. not (is_bit_where is_input pin.signal)) pins) (fun_ext c.requires.inputs))
