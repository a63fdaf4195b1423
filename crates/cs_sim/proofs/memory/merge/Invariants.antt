use Rattle.std.proofs.Common.{◌≡◌, [], get_or, map}
use Rattle.std.specs.Prelude.{slice_set}
use Rattle.cs_cells.specs.Memories.{merged_word}
use Rattle.cs_sim.specs.Slots.{value_at}
use Rattle.cs_sim.proofs.Overwritten.{written}
use Rattle.cs_sim.proofs.memory.merge.Given as goal

-- the first bits of the word are merged
abbrev pub invariant-loop-i : goal.invariant-loop-i
invariant-loop-i l =
    let old = get_or l.initial.words l.place [] in
    let new = merged_word old (map (value_at l.values) l.bits) (map (value_at l.values) l.enable) in
    l.words ≡ slice_set l.initial.words l.place (written new l.i old)
