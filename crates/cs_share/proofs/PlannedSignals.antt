-- Signals by tables of numbers and places are those of the specification.
use Rattle.std.proofs.Common.{◌≡◌, ◌∙◌, ℕ, ◌+◌, ◌<◌, ◌⊎◌, List, [], ◌∷◌, length, Bool, Option, Some, None, ap, arith, get_or, inl, inr, refl, sym}
use Rattle.std.specs.Prelude.{option_map, slice_get, unwrap_or}
use Rattle.std.specs.List.{enumerate_from}
use Rattle.std.proofs.lemmas.Option.{get_or_from_slice_get}
use Rattle.cs_base.specs.declared.signal.Signal.TheVariants.{Zero, Bit}
use Rattle.cs_graph.specs.declared.graph.Graph.{Graph}
use Rattle.cs_graph.specs.declared.vertex.Vertex.{Vertex}
use Rattle.cs_graph.specs.declared.vertex.VertexKind.{VertexKind}
use Rattle.cs_graph.specs.declared.vertex.VertexKind.TheVariants.{Host, Input, Output, Constant, Gate, Read, Write as WritePort}
use Rattle.cs_graph.specs.Run.{inputs_before}
use Rattle.cs_graph.proofs.Shifted.{slice_get-enumerate}
use Rattle.cs_net.proofs.MemoryPlaces.{at_map}
use Rattle.cs_prefix.specs.Prefixes.{IsOnEdge, RegisterKey, place_of_key}
use Rattle.cs_prefix.proofs.KeyOrder.{place_none}
use Rattle.cs_share.specs.declared.types.Names.{Names}
use Rattle.cs_share.specs.Planned.{kind_signal, number_by, number_signal, signal_after, vertex_number, vertex_numbers}
use Rattle.cs_share.specs.Ports.{data_numbers}
use Rattle.cs_share.specs.Registers.{AreRegisters, edge_contents, edge_drivers}
use Rattle.cs_share.specs.Shared.{driver_signal, first_register, key_signal, logic_bit, output_signal, signal_behind}
use Rattle.cs_share.proofs.CircuitKeys.{key_placed}

-- ---- numbers

-- the number of a vertex that is there
pub number_at : (g : Graph) (names : Names) (v : ℕ) (x : Vertex) → slice_get g.vertices v ≡ Some x
    → get_or (vertex_numbers g names) v 0 ≡ vertex_number g names (v, x)
number_at g names v x at =
    get_or_from_slice_get (vertex_numbers g names) v (vertex_number g names (here v)) 0
    (at_map (vertex_number g names) (enumerate_from 0 g.vertices) v (here v)
    (slice_get-enumerate g.vertices 0 v ∙ ap (option_map (numbered (0 + v))) at ∙ place))
  where
    numbered : ℕ → Vertex → ℕ × Vertex
    numbered n y = (n, y)

    here : ℕ → ℕ × Vertex
    here n = numbered n x

    place : Some (here (0 + v)) ≡ Some (here v)
    place = let same : 0 + v ≡ v = omega arith in ap (λ n. Some (here n)) same

-- ---- drivers

kind_is : (g : Graph) (names : Names) (kind : VertexKind) (v o : ℕ)
    → kind_signal kind (number_by (data_numbers names) (inputs_before g.vertices v) (logic_bit g names v) kind) o
    ≡ output_signal g names kind v o
kind_is g names Host v o = refl
kind_is g names Input v o = refl
kind_is g names Output v o = refl
kind_is g names (Constant b) v o = refl
kind_is g names (Gate kind) v o = refl
kind_is g names (Read memory port) v o = refl
kind_is g names (WritePort memory port) v o = refl

-- a driver's signal by the table
pub driver_is : (g : Graph) (names : Names) (v o : ℕ)
    → number_signal g.vertices (vertex_numbers g names) v o ≡ driver_signal g names v o
driver_is g names v o = by (slice_get g.vertices v) refl
  where
    by : (found : Option Vertex) → slice_get g.vertices v ≡ found
        → unwrap_or (option_map (λ (x : Vertex). kind_signal x.kind (get_or (vertex_numbers g names) v 0) o) found) Zero
        ≡ unwrap_or (option_map (λ (x : Vertex). output_signal g names x.kind v o) found) Zero
    by None at = refl
    by (Some x) at = ap (λ n. kind_signal x.kind n o) (number_at g names v x at) ∙ kind_is g names x.kind v o

-- ---- registers

behind_some : (g : Graph) (names : Names) (keys : List RegisterKey) (key : RegisterKey) (starts : List Bool)
    → 0 < length starts
    → signal_behind g names keys starts key ≡ Bit (first_register g names + unwrap_or (place_of_key keys key) 0)
behind_some g names keys key [] some = absurd (omega (arith, some))
behind_some g names keys key (b ∷ bs) some = refl

-- what stands behind a key's registers, by its place: the key is of no register, or of one of the machine
pub key_signal_is : (g : Graph) (names : Names) (keys : List RegisterKey) → AreRegisters g keys → (key : RegisterKey)
    → (key.starts ≡ []) ⊎ IsOnEdge (edge_drivers g) (edge_contents g) key
    → signal_after g.vertices (vertex_numbers g names) (first_register g names) key.vertex key.output
    (place_of_key keys key)
    ≡ key_signal g names keys key
key_signal_is g names keys are key (inl none) =
    ap (signal_after g.vertices (vertex_numbers g names) (first_register g names) key.vertex key.output)
    (place_none keys key none (λ n other at. (are.needed n other at).some))
    ∙ driver_is g names key.vertex key.output
    ∙ sym (ap (λ starts. signal_behind g names keys starts key) none)
key_signal_is g names keys are key (inr on) =
    let placed = key_placed g keys are key on in
    ap (signal_after g.vertices (vertex_numbers g names) (first_register g names) key.vertex key.output) placed.1
    ∙ sym (ap (λ place. Bit (first_register g names + unwrap_or place 0)) placed.1)
    ∙ sym (behind_some g names keys key key.starts on.some)
