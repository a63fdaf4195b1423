use Rattle.std.proofs.Common.{rules, ◌∙◌, ap₂, subst, sym}
use Rattle.cs_net.specs.Contexts.{with_images}
use Rattle.cs_net.specs.Invariant.{AreAlike, IsWellFormed}
use Rattle.cs_net.proofs.MemoryWidths.{images_alike}
use Rattle.cs_net.proofs.netlist.Netlist.with_images.Goals as goal

pub with_memories-requires : goal.with_memories-requires
with_memories-requires c =
    let net = c.args.self.now in
    let kept = subst IsWellFormed c.self.view_is c.self.invariant.0 in
    subst (AreAlike net.memories)
    (sym (c.in_ok-memories.ensures ∙ ap₂ (with_images c.args.k) (search rules) (search rules)))
    (images_alike net c.args.images.now c.args.k c.requires.0 kept c.requires.1 c.requires.2)
