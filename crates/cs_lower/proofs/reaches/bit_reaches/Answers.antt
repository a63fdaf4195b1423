use Rattle.std.proofs.Common.{subst, ◌∙◌}
use Rattle.cs_lower.specs.Walks.{AreNoted}
use Rattle.cs_lower.proofs.TableLemmas.{all_right, rings_right}
use Rattle.cs_lower.specs.Tables.{held}
use Rattle.cs_lower.proofs.reaches.bit_reaches.Goals as goal

pub note_bits-requires : goal.note_bits-requires
note_bits-requires c =
    rings_right c.args.net.now (held c.in_ok-table.table) c.args.buffers.now c.args.first_buffer c.requires.rings
    c.requires.place c.in_ok-table.ensures

pub returns : goal.returns
returns c =
    all_right c.args.net.now (held c.note_bits.new.table) c.in_ok-note_bits.ensures.reaches
    (subst (AreNoted (held c.note_bits.new.table)) (c.as_slice.ensures.value ∙ c.in_ok-numbers.ensures)
    c.in_ok-note_bits.ensures.noted)
