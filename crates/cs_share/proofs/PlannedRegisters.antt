-- The registers of a plan, and what the ends of edges read by it, are those of the specification.
use Rattle.std.proofs.Common.{◌≡◌, ◌∙◌, ℕ, ◌⊎◌, List, [], ◌∷◌, length, map, Bool, Option, Some, ap, arith, inl, inr, refl}
use Rattle.std.specs.Prelude.{slice_get}
use Rattle.std.specs.List.{zip}
use Rattle.std.proofs.lemmas.List.{length-map}
use Rattle.cs_base.specs.declared.signal.Signal.{Signal}
use Rattle.cs_circuit.specs.declared.circuit.RegisterPart.{RegisterPart}
use Rattle.cs_graph.specs.declared.edge.Edge.{Edge}
use Rattle.cs_graph.specs.declared.graph.Graph.{Graph}
use Rattle.cs_graph.proofs.Lists.{map_same}
use Rattle.cs_prefix.specs.declared.plan.Plan.{Plan}
use Rattle.cs_prefix.specs.declared.plan.Planned.{Planned}
use Rattle.cs_prefix.specs.Prefixes.{IsOnEdge, IsPlanOf, RegisterKey, edge_key, end_of, key_before, planned}
use Rattle.cs_share.specs.declared.types.Names.{Names}
use Rattle.cs_share.specs.Planned.{end_signal, end_signals, planned_register, vertex_numbers}
use Rattle.cs_share.specs.Registers.{AreRegisters, driver_of_edge, edge_contents, edge_drivers}
use Rattle.cs_share.specs.Shared.{edge_signal, first_register, has_some, register_part}
use Rattle.cs_share.proofs.CircuitKeys.{key_before_is, last_on_edge}
use Rattle.cs_share.proofs.PlannedSignals.{key_signal_is}

-- ---- how many there are

-- a register for each key
pub register_count : (g : Graph) (keys : List RegisterKey) (plan : Plan)
    → IsPlanOf keys (edge_drivers g) (edge_contents g) plan → length plan.registers ≡ length keys
register_count g keys plan is = ap length is.registers ∙ length-map keys (planned keys)

some_map : {A B : Type 0} (f : A → B) (xs : List A) → has_some (map f xs) ≡ has_some xs
some_map f [] = refl
some_map f (x ∷ xs) = refl

-- the plan has registers where the machine has
pub has_registers : (g : Graph) (keys : List RegisterKey) (plan : Plan)
    → IsPlanOf keys (edge_drivers g) (edge_contents g) plan → has_some plan.registers ≡ has_some keys
has_registers g keys plan is = ap has_some is.registers ∙ some_map (planned keys) keys

paired : (keys : List RegisterKey) (edges : List Edge)
    → map (end_of keys) (zip (map driver_of_edge edges) (map (λ (e : Edge). e.contents) edges))
    ≡ map (λ (e : Edge). end_of keys (driver_of_edge e, e.contents)) edges
paired keys [] = refl
paired keys (e ∷ edges) = ap (λ ends. end_of keys (driver_of_edge e, e.contents) ∷ ends) (paired keys edges)

-- the last register of each edge
pub ends_of_edges : (g : Graph) (keys : List RegisterKey) (plan : Plan)
    → IsPlanOf keys (edge_drivers g) (edge_contents g) plan
    → plan.ends ≡ map (λ (e : Edge). end_of keys (driver_of_edge e, e.contents)) g.edges
ends_of_edges g keys plan is = is.ends ∙ paired keys g.edges

-- an end for each edge
pub end_count : (g : Graph) (keys : List RegisterKey) (plan : Plan)
    → IsPlanOf keys (edge_drivers g) (edge_contents g) plan → length plan.ends ≡ length g.edges
end_count g keys plan is =
    ap length (ends_of_edges g keys plan is)
    ∙ length-map g.edges (λ (e : Edge). end_of keys (driver_of_edge e, e.contents))

-- ---- registers

map_twice : {A B C : Type 0} (f : B → C) (h : A → B) (xs : List A) → map f (map h xs) ≡ map (λ x. f (h x)) xs
map_twice f h [] = refl
map_twice f h (x ∷ xs) = ap (λ ys. f (h x) ∷ ys) (map_twice f h xs)

-- each register of the plan is the part of its key
pub registers_are : (g : Graph) (names : Names) (keys : List RegisterKey) (plan : Plan) → AreRegisters g keys
    → IsPlanOf keys (edge_drivers g) (edge_contents g) plan
    → map (planned_register g.vertices (vertex_numbers g names) (first_register g names)) plan.registers
    ≡ map (register_part g names keys) keys
registers_are g names keys plan are is =
    ap (map register) is.registers ∙ map_twice register (planned keys) keys
    ∙ map_same (λ key. register (planned keys key)) (register_part g names keys) keys each
  where
    register : Planned → RegisterPart
    register = planned_register g.vertices (vertex_numbers g names) (first_register g names)

    with_source : RegisterPart → Signal → RegisterPart
    with_source part source = record part { source = source }

    each : (n : ℕ) (key : RegisterKey) → slice_get keys n ≡ Some key
        → register (planned keys key) ≡ register_part g names keys key
    each n key at =
        ap (with_source (register_part g names keys key))
        (key_signal_is g names keys are (key_before key) (key_before_is g key (are.needed n key at)))

-- ---- ends

zip_map : {A B C : Type 0} (f : A × B → C) (h : B → A) (xs : List B)
    → map f (zip (map h xs) xs) ≡ map (λ x. f (h x, x)) xs
zip_map f h [] = refl
zip_map f h (x ∷ xs) = ap (λ ys. f (h x, x) ∷ ys) (zip_map f h xs)

-- the key of an edge's contents is of no register, or of one of the machine
edge_key_is : (g : Graph) (e : ℕ) (d : Edge) → slice_get g.edges e ≡ Some d
    → (d.contents ≡ []) ⊎ IsOnEdge (edge_drivers g) (edge_contents g) (edge_key (driver_of_edge d) d.contents)
edge_key_is g e d at = by d.contents refl
  where
    by : (contents : List Bool) → d.contents ≡ contents
        → (d.contents ≡ []) ⊎ IsOnEdge (edge_drivers g) (edge_contents g) (edge_key (driver_of_edge d) d.contents)
    by [] is = inl is
    by (b ∷ bs) is = let count = ap length is in inr (last_on_edge g e d at (omega (arith, count)))

-- the ends of all edges read what the specification says
pub ends_are : (g : Graph) (names : Names) (keys : List RegisterKey) (plan : Plan) → AreRegisters g keys
    → IsPlanOf keys (edge_drivers g) (edge_contents g) plan
    → end_signals g.vertices (vertex_numbers g names) (first_register g names) plan.ends g.edges
    ≡ map (edge_signal g names keys) g.edges
ends_are g names keys plan are is =
    ap (λ ends. map end (zip ends g.edges)) (ends_of_edges g keys plan is)
    ∙ zip_map end last g.edges
    ∙ map_same (λ d. end (last d, d)) (edge_signal g names keys) g.edges each
  where
    end : Option ℕ × Edge → Signal
    end = end_signal g.vertices (vertex_numbers g names) (first_register g names)

    last : Edge → Option ℕ
    last d = end_of keys (driver_of_edge d, d.contents)

    each : (e : ℕ) (d : Edge) → slice_get g.edges e ≡ Some d → end (last d, d) ≡ edge_signal g names keys d
    each e d at =
        key_signal_is g names keys are (edge_key (driver_of_edge d) d.contents) (edge_key_is g e d at)
