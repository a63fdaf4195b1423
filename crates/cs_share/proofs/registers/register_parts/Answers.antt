-- Each register has something to read.
use Rattle.std.proofs.Common.{length, refl}
use Rattle.std.proofs.lemmas.Option.{slice_get_read}
use Rattle.cs_share.proofs.registers.register_parts.Goals as goal

pub source_of-source-requires : goal.source_of-source-requires
source_of-source-requires c =
    let registers = c.args.registers.now in
    c.requires c.loop-n.n c.index-registers-n.result
    (slice_get_read registers (length registers) c.loop-n.n c.index-registers-n.result refl c.loop-n-test.true c.index-registers-n.is)
