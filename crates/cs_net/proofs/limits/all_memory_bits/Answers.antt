use Rattle.std.proofs.Common.{◌≡◌, ◌∙◌, ◌+◌, arith, map, min, sym}
use Rattle.std.specs.Prelude.{sum}
use Rattle.std.proofs.lemmas.List.{at_drop_all}
use Rattle.cs_modules.specs.Memories.{shapes_in}
use Rattle.cs_net.specs.Accept.{memory_bits}
use Rattle.cs_net.proofs.limits.all_memory_bits.Goals as goal

pub returns : goal.returns
returns c =
    let total = c.loop-shape.total in
    let few = c.loop-shape.invariant.1 in
    let whole : total ≡ min (total + 0) 18446744073709551615 = omega (arith, few) in
    whole
    ∙ sym (at_drop_all (λ rest. min (total + sum (map memory_bits (shapes_in rest))) 18446744073709551615)
    c.args.shapes.now c.loop-shape.shape-index c.loop-shape-test.false)
    ∙ c.loop-shape.invariant.0
