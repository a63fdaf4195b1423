use Rattle.std.specs.Prelude.{length}
use Rattle.cs_lower.specs.Registers.{element_of, register_chain}
use Rattle.cs_lower.proofs.PushedChains.{register_pushed}
use Rattle.cs_lower.proofs.PushedParts.{on_ok}
use Rattle.cs_lower.proofs.registers.push_register.Goals as goal

pub returns : goal.returns
returns c =
    let pins = c.args.pins.now in
    on_ok (λ driven source. register_pushed c.args.parts.now c.push_chain.new.parts c.drive.new.self
    (register_chain c.args.net.now (length c.args.parts.now.pieces) (pins.q, pins.start) (element_of source pins) c.args.d) pins.q
    c.in_ok-last.last (c.in_ok-last.ensures source) driven)
    c.drive.result c.drive.ensures
