use Rattle.std.proofs.Common.{take}
use Rattle.cs_lower.proofs.TableLemmas.{AreNotedFor}
use Rattle.cs_lower.specs.Tables.{held}
use Rattle.cs_lower.proofs.reaches.note_bits.Given as goal

-- the bits so far are noted
abbrev pub invariant-loop-bit : goal.invariant-loop-bit
invariant-loop-bit l = AreNotedFor l.net (held l.table) (take l.bit-index l.bits)
