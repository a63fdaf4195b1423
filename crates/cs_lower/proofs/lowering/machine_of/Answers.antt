-- What is made of a netlist fits a machine.
use Rattle.std.proofs.Common.{◌≡◌, ◌∙◌, List, ap₂, map, subst, sym}
use Rattle.std.specs.List.{AllByRecursion, zip}
use Rattle.cs_graph.specs.declared.memory.Memory.{Memory}
use Rattle.cs_graph.specs.declared.source.OpenVertex.{OpenVertex}
use Rattle.cs_graph.specs.Draft.{AreFed, Draft, IsDraft, built}
use Rattle.cs_graph.specs.Invariant.{HasOrder, IsMemory}
use Rattle.cs_modules.specs.Memories.{shapes_in}
use Rattle.cs_net.specs.Netlist.{Net}
use Rattle.cs_lower.specs.declared.taps.Piece.{Piece}
use Rattle.cs_lower.specs.Lowered.{draft_of, memory_of, source_of, vertex_of}
use Rattle.cs_lower.specs.Sizes.{HasIds}
use Rattle.cs_lower.proofs.MachineParts.{fed, few_ids, fits, fitting_memories, ordered}
use Rattle.cs_lower.proofs.lowering.machine_of.Goals as goal

pub memories_of-requires : goal.memories_of-requires
memories_of-requires c =
    subst (λ ws. AllByRecursion (λ m. IsMemory (memory_of m)) (zip ws (shapes_in c.shapes.result.now)))
    (sym c.memories.ensures)
    (subst (λ ss. AllByRecursion (λ m. IsMemory (memory_of m)) (zip c.args.net.now.memories (shapes_in ss)))
    (sym c.shapes.ensures) (fitting_memories c.args.net.now c.keeps.ensures))

pub vertices-requires : goal.vertices-requires
vertices-requires c =
    subst (λ (n : Net). AllByRecursion (λ (p : Piece). AllByRecursion (λ t. HasIds (source_of n t)) p.pins) c.args.pieces)
    (sym c.requires.plan)
    (few_ids c.args.net.now c.keeps.ensures c.requires.within c.args.pieces c.requires.pieces)

-- what is assembled is the netlist's draft
same_draft : (net : Net) (vertices : List OpenVertex) (memories : List Memory) → vertices ≡ (draft_of net).vertices
    → memories ≡ (draft_of net).memories
    → ◌≡◌ {A = Draft} (record { vertices = vertices; memories = memories }) (draft_of net)
same_draft net vertices memories same is =
    ap₂ (λ (vs : List OpenVertex) (ms : List Memory). record { vertices = vs; memories = ms }) same is

made_vertices : (net plan : Net) (pieces all : List Piece) (vertices : List OpenVertex) → plan ≡ net → pieces ≡ all
    → vertices ≡ map (vertex_of plan) pieces → vertices ≡ map (vertex_of net) all
made_vertices net plan pieces all vertices same is made =
    made ∙ ap₂ (λ (n : Net) (ps : List Piece). map (vertex_of n) ps) same is

pub assemble-requires-clause-draft : goal.assemble-requires-clause-draft
assemble-requires-clause-draft c =
    subst IsDraft (sym (same_draft c.args.net.now c.in_ok-made.made.vertices c.in_ok-memories.memories
    (made_vertices c.args.net.now c.args.plan.now c.args.pieces _ c.in_ok-made.made.vertices c.requires.plan
    c.requires.pieces c.in_ok-made.ensures.vertices)
    (c.in_ok-memories.ensures ∙ ap₂ (λ ws ss. map memory_of (zip ws (shapes_in ss))) c.memories.ensures c.shapes.ensures)))
    (fits c.args.net.now c.keeps.ensures c.requires.within)

pub assemble-requires-clause-fed : goal.assemble-requires-clause-fed
assemble-requires-clause-fed c =
    subst AreFed (sym (made_vertices c.args.net.now c.args.plan.now c.args.pieces _ c.in_ok-made.made.vertices
    c.requires.plan c.requires.pieces c.in_ok-made.ensures.vertices))
    (fed c.args.net.now c.keeps.ensures c.requires.within)

pub assemble-requires-clause-order : goal.assemble-requires-clause-order
assemble-requires-clause-order c =
    subst (λ (d : Draft). HasOrder (built d)) (sym (same_draft c.args.net.now c.in_ok-made.made.vertices
    c.in_ok-memories.memories
    (made_vertices c.args.net.now c.args.plan.now c.args.pieces _ c.in_ok-made.made.vertices c.requires.plan
    c.requires.pieces c.in_ok-made.ensures.vertices)
    (c.in_ok-memories.ensures ∙ ap₂ (λ ws ss. map memory_of (zip ws (shapes_in ss))) c.memories.ensures c.shapes.ensures)))
    (ordered c.args.net.now c.keeps.ensures c.requires.within)
