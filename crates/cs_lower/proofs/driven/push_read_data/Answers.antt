use Rattle.cs_lower.proofs.DrivenLemmas.{data_pushed}
use Rattle.cs_lower.proofs.driven.push_read_data.Goals as goal

pub returns : goal.returns
returns c =
    data_pushed c.args.cell.now c.args.shape.now c.loop-port.port c.as_slice-items.result.now c.loop-port.signals.items
    c.args.signals.now.items c.as_slice-items.ensures c.loop-port-test.false c.loop-port.invariant
