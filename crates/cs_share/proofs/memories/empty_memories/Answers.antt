-- A memory more.
use Rattle.std.proofs.Common.{◌≡◌, ◌∙◌, ◌++◌, [], ◌∷◌, List, Some, sym, ap₂, subst}
use Rattle.std.specs.Prelude.{slice_get}
use Rattle.cs_circuit.specs.declared.circuit.MemoryPart.{MemoryPart}
use Rattle.cs_share.specs.Planned.{empty_memory}
use Rattle.cs_share.proofs.Numbered.{taken_more}
use Rattle.cs_share.proofs.memories.empty_memories.Goals as goal

pub loop-i-preserved : goal.loop-i-preserved
loop-i-preserved c =
    let g = c.args.machine.now in
    let m = c.memory.result.now in
    let found = subst (λ n. slice_get g.memories n ≡ Some m) c.new.ensures c.memory.ensures in
    c.in_ok-push.ensures.items
    ∙ ap₂ (λ (ys : List MemoryPart) (p : MemoryPart). ys ++ p ∷ []) c.loop-i.invariant c.in_ok-empty_memory.ensures
    ∙ sym (taken_more empty_memory g.memories c.loop-i.i m found)
