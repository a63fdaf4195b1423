-- One shape after the other.
use Rattle.std.proofs.Common.{◌∙◌}
use Rattle.cs_lower.proofs.NextMemories.{all_made, no_shape, shape_made, this_is}
use Rattle.cs_lower.proofs.contents.memories_of.Goals.{in-Some+in_ok-push_memory, in_default}
use Rattle.cs_lower.proofs.contents.memories_of.Goals as goal

pub push_memory-requires : goal.push_memory-requires
push_memory-requires c =
    this_is c.args.words.now c.args.shapes.now c.loop-shape.shape-index c.loop-shape.memories c.loop-shape.invariant
    c.shape-item.result c.loop-shape-test.true c.shape-item.is c.in-Some.shape c.in-Some.is

pub loop-shape-preserved : goal.loop-shape-preserved
loop-shape-preserved c = elim c.match-shape.branch [
  | in-Some+in_ok-push_memory w ↦
      shape_made c.args.words.now c.args.shapes.now c.loop-shape.shape-index c.loop-shape.memories
      c.loop-shape.invariant c.shape-item.result c.loop-shape-test.true c.shape-item.is w.in-Some.shape w.in-Some.is
      c.match-shape.memories (w.memories-is ∙ w.in_ok-push_memory.ensures)
  | in_default w ↦
      no_shape c.args.words.now c.args.shapes.now c.loop-shape.shape-index c.loop-shape.memories
      c.loop-shape.invariant c.shape-item.result c.loop-shape-test.true c.shape-item.is w.in_default.is
      c.match-shape.memories w.memories-is
]

pub returns : goal.returns
returns c =
    all_made c.args.words.now c.args.shapes.now c.loop-shape.shape-index c.loop-shape.memories
    c.loop-shape.invariant c.loop-shape-test.false
