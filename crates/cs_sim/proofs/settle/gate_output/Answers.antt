use Rattle.std.proofs.Common.{◌≡◌, ℕ, ◌+◌, ◌≤◌, get_or, length, map, ap, ◌∙◌, arith}
use Rattle.cs_cells.specs.Gates.{gate_value}
use Rattle.cs_modules.specs.Pins.{count_from}
use Rattle.cs_sim.specs.Slots.{value_at}
use Rattle.cs_sim.proofs.Capped.{few_pins, filled}
use Rattle.cs_sim.proofs.settle.gate_output.Goals as goal

pub returns : goal.returns
returns c =
    let f = λ (p : ℕ). value_at c.args.values.now (get_or c.args.pins.now p 0) in
    let n = c.pin_count-count.result in
    let few = few_pins c.args.kind in
    let within : n ≤ length c.loop-i.bits = omega (arith, few, c.pin_count-count.ensures) in
    let bits = filled f c.loop-i.bits 0 n within
    (λ k lt. c.loop-i.invariant.1 k (omega arith) ∙ (let e : k ≡ 0 + k = omega arith in ap f e)) in
    c.eval.ensures ∙ ap (gate_value c.args.kind) (bits ∙ ap (λ m. map f (count_from 0 m)) c.pin_count-count.ensures)
