use Rattle.std.proofs.Common.{◌≡◌, drop, length}
use Rattle.cs_prefix.specs.Layers.{AreGroupsBelow, next_layer, progress, split_all}
use Rattle.cs_prefix.proofs.layers.Layer.go_on.Given as goal

-- the groups that are left are split behind those that are
abbrev pub invariant-loop-group : goal.invariant-loop-group
invariant-loop-group l =
    (split_all l.contents l.driver l.level (drop l.group-index l.group-items) (progress l.self l.ends)
    ≡ next_layer l.contents l.driver l.level (progress l.fn.self l.fn.ends))
    × AreGroupsBelow (length l.contents) l.group-items
    × (length l.ends ≡ length l.contents)
