-- The next words are those that the premise speaks of.
use Rattle.std.proofs.Common.{◌∙◌, ap, sym}
use Rattle.std.specs.Prelude.{slice_get}
use Rattle.cs_lower.proofs.contents.push_memory.Goals as goal

pub memory_of-requires : goal.memory_of-requires
memory_of-requires c =
    c.requires c.in-Some.words.now (sym (ap (slice_get c.args.words.now) c.len.ensures) ∙ c.in-Some.ensures.some)
