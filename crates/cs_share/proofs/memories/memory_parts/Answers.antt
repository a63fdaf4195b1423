-- The ports of one vertex more.
use Rattle.std.proofs.Common.{◌≡◌, ◌∙◌, ℕ, List, Some, length, take, sym, ap, subst, arith}
use Rattle.std.specs.Prelude.{slice_get}
use Rattle.std.specs.List.{enumerate_from}
use Rattle.std.proofs.lemmas.List.{length-map}
use Rattle.std.proofs.lemmas.List.FromFn.{length-enumerate_from}
use Rattle.cs_circuit.specs.declared.circuit.MemoryPart.{MemoryPart}
use Rattle.cs_graph.specs.declared.memory.Memory.{Memory}
use Rattle.cs_graph.specs.declared.vertex.Vertex.{Vertex}
use Rattle.cs_graph.specs.declared.vertex.VertexKind.{VertexKind}
use Rattle.cs_graph.specs.declared.vertex.VertexKind.TheVariants.{Host, Input, Output, Constant, Gate, Read, Write as WritePort}
use Rattle.cs_graph.specs.Invariant.{HasMemory}
use Rattle.cs_net.proofs.MemoryPlaces.{at_map}
use Rattle.cs_share.specs.Planned.{HasPort, add_port, planned_memory}
use Rattle.cs_share.proofs.PortLemmas.{memories_more, no_ports}
use Rattle.cs_share.proofs.memories.memory_parts.Goals as goal

port_there : (ms : List Memory) (kind : VertexKind) (count : ℕ) → count ≡ length ms → HasMemory ms kind → HasPort count kind
port_there ms Host count is there = tt
port_there ms Input count is there = tt
port_there ms Output count is there = tt
port_there ms (Constant b) count is there = tt
port_there ms (Gate kind) count is there = tt
port_there ms (Read memory port) count is there = omega (arith, is, there)
port_there ms (WritePort memory port) count is there = omega (arith, is, there)

pub loop-v-init : goal.loop-v-init
loop-v-init c =
    c.in_ok-parts.ensures ∙ sym (no_ports c.args.numbers.now c.args.signals.now 0 c.args.machine.now.memories)

pub push_port-requires : goal.push_port-requires
push_port-requires c =
    let g = c.args.machine.now in
    let x = c.vertex-vertex.result.now in
    let f = planned_memory (take c.loop-v.v g.vertices) c.args.numbers.now c.args.signals.now in
    let count = ap length c.loop-v.invariant ∙ length-map (enumerate_from 0 g.memories) f ∙ length-enumerate_from 0 g.memories in
    port_there g.memories x.kind (length c.loop-v.parts.items) count
    (c.keeps.ensures.memories.there c.new.result x.kind
    (at_map (λ (y : Vertex). y.kind) g.vertices c.new.result x c.vertex-vertex.ensures))

pub loop-v-preserved : goal.loop-v-preserved
loop-v-preserved c =
    let g = c.args.machine.now in
    let x = c.vertex-vertex.result.now in
    let v = c.loop-v.v in
    let found = subst (λ u. slice_get g.vertices u ≡ Some x) c.new.ensures c.vertex-vertex.ensures in
    c.in_ok-push_port.ensures
    ∙ ap (λ (parts : List MemoryPart). add_port c.args.numbers.now c.args.signals.now v x x.kind parts) c.loop-v.invariant
    ∙ sym (memories_more c.args.numbers.now c.args.signals.now v x g.vertices g.memories found)
