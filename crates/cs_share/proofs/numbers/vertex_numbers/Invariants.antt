-- The numbers of the vertices so far.
use Rattle.std.proofs.Common.{◌≡◌, ◌+◌, map, take}
use Rattle.std.specs.List.{enumerate_from}
use Rattle.cs_graph.specs.Run.{inputs_before}
use Rattle.cs_share.specs.Shared.{all_logic_bits}
use Rattle.cs_share.proofs.Numbered.{number_of}
use Rattle.cs_share.proofs.numbers.vertex_numbers.Given as goal

abbrev pub invariant-loop-v : goal.invariant-loop-v
invariant-loop-v l = record {
  vertices : l.vertices
      ≡ map (number_of l.machine l.inputs l.first) (enumerate_from 0 (take l.v l.machine.vertices));
  before : l.before ≡ inputs_before l.machine.vertices l.v;
  next : l.next ≡ l.first + all_logic_bits l.machine.memories (take l.v l.machine.vertices);
}
