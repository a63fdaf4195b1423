use Rattle.std.proofs.Common.{◌≡◌, [], ◌∙◌, ap, arith, drop, length, sym}
use Rattle.std.proofs.Math.ListN.{drop_of_length-le}
use Rattle.cs_prefix.specs.Layers.{progress, split_all}
use Rattle.cs_prefix.proofs.LayerLemmas.{next_groups}
use Rattle.cs_prefix.proofs.layers.Layer.go_on.Goals as goal

pub returns-clause-groups : goal.returns-clause-groups
returns-clause-groups c =
    let items = c.as_slice-group-items.result.now in
    let l = c.loop-group in
    let none : drop l.group-index items ≡ [] = drop_of_length-le items (omega (arith, c.loop-group-test.false)) in
    next_groups (length c.args.contents.now) c.args.level c.args.contents.now c.args.driver.now
    (progress c.args.self.now c.args.ends.now) (progress l.self l.ends)
    (sym (ap (λ groups. split_all c.args.contents.now c.args.driver.now c.args.level groups (progress l.self l.ends)) none)
    ∙ l.invariant.0) c.requires.groups
