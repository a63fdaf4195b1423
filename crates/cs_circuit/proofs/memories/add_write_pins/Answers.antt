use Rattle.std.proofs.Common.{ap, codes, false, length, ◌∙◌, ◌++◌, [], ◌∷◌}
use Rattle.std.specs.Prelude.{replicate}
use Rattle.std.proofs.lemmas.Result.{on_ok_weaker}
use Rattle.cs_circuit.specs.Cells.{pin}
use Rattle.cs_circuit.proofs.Loops.{behind_as}
use Rattle.cs_circuit.proofs.memories.add_write_pins.Goals as goal

pub returns : goal.returns
returns c =
    on_ok_weaker c.add_pin-3.result
    (λ last.
    behind_as _ _ _ _ _ _ (ap (λ bits. pin (codes "WR_ADDR") bits false) c.in_ok-addresses.ensures) c.in_ok-add_pin.ensures
    (behind_as _ _ _ _ _ _ (ap (λ clock. pin (codes "WR_CLK") (replicate (length c.args.writes.now) clock) false) c.clock_signal.ensures)
    c.in_ok-add_same.ensures
    (behind_as _ _ _ _ _ _ (ap (λ bits. pin (codes "WR_DATA") bits false) c.in_ok-data.ensures) c.in_ok-add_pin-2.ensures
    (last ∙ ap (λ bits. c.add_pin-2.new.pins ++ pin (codes "WR_EN") bits false ∷ []) c.in_ok-enables.ensures))))
    c.add_pin-3.ensures
