use Rattle.std.proofs.Common.{ap, codes, length, ◌∙◌}
use Rattle.cs_net.specs.Drivers.{from_signal, signal_of}
use Rattle.cs_lower.specs.Taps.{both}
use Rattle.cs_lower.proofs.PushedCells.{register_cell_is}
use Rattle.cs_lower.proofs.PushedParts.{on_ok}
use Rattle.cs_lower.proofs.cells.push_register_cell.Goals as goal

pub returns : goal.returns
returns c =
    let cell = c.args.cell.now in
    let old = c.args.parts.now in
    on_ok (λ pushed. pushed (from_signal (signal_of cell (codes "D")))
    ∙ ap (both old) (register_cell_is c.args.net.now (length old.pieces) cell c.args.kind c.signal.result c.enable_signal.result
    c.reset_signal.result c.signal-2.result c.signal.ensures c.enable_signal.ensures c.reset_signal.ensures
    c.signal-2.ensures))
    c.push_register.result c.push_register.ensures
