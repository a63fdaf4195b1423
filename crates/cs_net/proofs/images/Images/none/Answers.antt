use Rattle.std.proofs.Common.{◌≡◌, ◌∙◌, ◌++◌, List, [], None, Option, ap, append-nil, drop, map, subst, sym}
use Rattle.std.proofs.Math.ListN.{drop_of_length-le}
use Rattle.cs_net.specs.declared.state.MemoryWords.{MemoryWords}
use Rattle.cs_net.specs.Contexts.{AreImagesFor, Image}
use Rattle.cs_net.specs.Netlist.{Net}
use Rattle.cs_net.proofs.MemoryWidths.{none_fit}
use Rattle.cs_net.proofs.images.Images.none.Goals as goal

pub returns-clause-fit : goal.returns-clause-fit
returns-clause-fit c contexts =
    let net = c.args.net.now in
    let memories = c.as_slice-memory-items.result.now in
    let same : memories ≡ net.memories = c.as_slice-memory-items.ensures ∙ ap (λ (n : Net). n.memories) c.net.view_is in
    let none_left : drop c.loop-memory._memory-index memories ≡ [] = drop_of_length-le memories c.loop-memory-test.false in
    let whole : c.loop-memory.of ++ [] ≡ map (λ m. None) memories =
    ap (λ (rest : List MemoryWords). c.loop-memory.of ++ map (λ m. None) rest) (sym none_left) ∙ c.loop-memory.invariant in
    let are : c.loop-memory.of ≡ map (λ m. None) net.memories =
    sym (append-nil c.loop-memory.of) ∙ whole ∙ ap (map (λ m. None)) same in
    subst (λ (of : List (Option (List Image))). AreImagesFor net contexts (record { of = of })) (sym are) (none_fit net contexts)
