use Rattle.std.proofs.Common.{length, ◌∙◌, true, false}
use Rattle.cs_prefix.specs.Layers.{goes_on}
use Rattle.cs_prefix.proofs.LayerLemmas.{kept_below}
use Rattle.cs_prefix.proofs.layers.Layer.split.Goals as goal

pub add_child-requires : goal.add_child-requires
add_child-requires c =
    rw (c.in_ok-zeros.ensures, c.as_slice-edges.ensures)
    (kept_below (length c.args.contents.now) (length c.args.ends.now)
    (goes_on c.args.contents.now c.args.level false)
    c.args.group.now.edges c.requires.count c.requires.edges)

pub add_child-requires-2 : goal.add_child-requires-2
add_child-requires-2 c =
    rw (c.in_ok-ones.ensures, c.as_slice-edges.ensures)
    (kept_below (length c.args.contents.now) (length c.add_child.new.ends)
    (goes_on c.args.contents.now c.args.level true)
    c.args.group.now.edges (c.add_child.ensures.ends ∙ c.requires.count) c.requires.edges)
