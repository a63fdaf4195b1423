use Rattle.std.proofs.Common.{ap, length, ◌∙◌}
use Rattle.cs_net.specs.Drivers.{from_word, read_word_bit}
use Rattle.cs_lower.specs.Taps.{both}
use Rattle.cs_lower.proofs.PushedCells.{held_is}
use Rattle.cs_lower.proofs.PushedParts.{on_ok}
use Rattle.cs_lower.proofs.memories.push_held_bit.Goals as goal

pub returns : goal.returns
returns c =
    let cell = c.args.memory.now.cell.now in
    let shape = c.args.memory.now.shape.now in
    let old = c.args.parts.now in
    on_ok (λ pushed. pushed (from_word (read_word_bit cell shape c.args.port c.args.place))
    ∙ ap (both old) (held_is c.args.net.now (length old.pieces) cell shape (c.args.port, c.args.read.now) c.args.vertex
    (c.args.place, c.args.q) c.read_pins-pins.result c.read_pins-pins.ensures))
    c.push_register.result c.push_register.ensures
