use Rattle.cs_lower.proofs.StartLemmas.{reads_pushed}
use Rattle.cs_lower.proofs.starts.push_reads.Goals as goal

pub returns : goal.returns
returns c =
    reads_pushed c.args.cell.now c.args.shape.now c.loop-port.port c.as_slice-read-items.result.now
    c.loop-port.values.items c.args.values.now.items c.as_slice-read-items.ensures c.loop-port-test.false
    c.loop-port.invariant
