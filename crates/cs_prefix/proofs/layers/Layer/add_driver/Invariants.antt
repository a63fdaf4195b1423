use Rattle.std.proofs.Common.{◌≡◌, ◌-◌, length}
use Rattle.cs_prefix.specs.Layers.{AreGroupsBelow, add_driver, add_levels, progress}
use Rattle.cs_prefix.proofs.layers.Layer.add_driver.Given as goal

-- the levels that are left come behind those that are made
abbrev pub invariant-loop-level : goal.invariant-loop-level
invariant-loop-level l =
    (add_levels l.contents l.driver l.level (l.levels - l.level) (progress l.self l.ends)
    ≡ add_driver l.contents l.driver l.fn.edges (progress l.fn.self l.fn.ends))
    × AreGroupsBelow (length l.contents) l.self.groups
    × (length l.ends ≡ length l.contents)
