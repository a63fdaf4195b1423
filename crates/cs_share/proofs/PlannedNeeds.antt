-- What a plan's ends and registers read has numbers of 32 bits.
use Rattle.std.proofs.Common.{◌≡◌, ◌∙◌, ℕ, zero, suc, ◌+◌, ◌^◌, ◌<◌, ◌≤◌, List, [], ◌∷◌, length, map, Bool, true, false, cond, Option, Some, ap, arith, get_or, refl, subst, sym}
use Rattle.std.specs.Prelude.{All, ℤ, option_map, slice_get, unwrap_or}
use Rattle.std.specs.List.{enumerate_from, position_from, zip}
use Rattle.std.proofs.lemmas.Option.{none-some, slice_get-get_or}
use Rattle.cs_base.specs.declared.signal.Signal.{Signal}
use Rattle.cs_base.specs.declared.signal.Signal.TheVariants.{Zero, Bit}
use Rattle.cs_graph.specs.declared.contents.Contents.{Contents}
use Rattle.cs_graph.specs.declared.edge.Edge.{Edge}
use Rattle.cs_graph.specs.declared.graph.Graph.{Graph}
use Rattle.cs_graph.specs.declared.memory.Memory.{Memory}
use Rattle.cs_graph.specs.declared.vertex.Vertex.{Vertex}
use Rattle.cs_graph.specs.declared.vertex.VertexKind.{VertexKind}
use Rattle.cs_graph.specs.declared.vertex.VertexKind.TheVariants.{Host, Input, Output, Constant, Gate, Read, Write as WritePort}
use Rattle.cs_graph.specs.Invariant.{HasOutput, IsMachine, kinds}
use Rattle.cs_graph.specs.Kinds.{output_count, read_width}
use Rattle.cs_graph.specs.Lags.{retimed, retimed_edge}
use Rattle.cs_graph.specs.Run.{inputs_before}
use Rattle.cs_net.proofs.Members.{Has, has_of_map}
use Rattle.cs_net.proofs.MemoryPlaces.{map_at}
use Rattle.cs_prefix.specs.declared.plan.DriverId.{DriverId}
use Rattle.cs_prefix.specs.declared.plan.Plan.{Plan}
use Rattle.cs_prefix.specs.declared.plan.Planned.{Planned}
use Rattle.cs_prefix.specs.Prefixes.{IsPlanOf, IsSmallDriver, RegisterKey, end_of, place_of_key, planned}
use Rattle.cs_share.specs.declared.types.Names.{Names}
use Rattle.cs_share.specs.Planned.{HasNumber, HasSignal, HaveEnds, HaveSources, number_by, vertex_numbers}
use Rattle.cs_share.specs.Ports.{data_numbers}
use Rattle.cs_share.specs.Registers.{AreRegisters, driver_of_edge, edge_contents, edge_drivers}
use Rattle.cs_share.specs.Shared.{constant, driver_signal, first_register, logic_bit, logic_bits, output_signal}
use Rattle.cs_share.proofs.CircuitBlocks.{part_within}
use Rattle.cs_share.proofs.CircuitKeys.{edge_of_key}
use Rattle.cs_share.proofs.CircuitSignals.{AreCircuitNames, DriverOrigin, all_small, driver_origin, of_constant, of_input, of_logic}
use Rattle.cs_share.proofs.PlannedRegisters.{ends_of_edges}
use Rattle.cs_share.proofs.PlannedSignals.{number_at}

-- ---- places

position_within : {A : Type 0} (test : A → Bool) (k : ℕ) (xs : List A) (p : ℕ)
    → position_from test k xs ≡ Some p → p < k + length xs
position_within test k [] p at = absurd (none-some p at)
position_within {A = A} test k (x ∷ xs) p at = by (test x) at (position_within test (k + 1) xs p)
  where
    by : (t : Bool) → cond t (Some k) (position_from test (k + 1) xs) ≡ Some p
        → (position_from test (k + 1) xs ≡ Some p → p < k + 1 + length xs) → p < k + length (x ∷ xs)
    by true is later = let same : k ≡ p = cc in omega (arith, same)
    by false is later = let low = later is in omega (arith, low)

-- a place of a key is that of a key
pub place_within : (keys : List RegisterKey) (key : RegisterKey) (p : ℕ) → place_of_key keys key ≡ Some p
    → p < length keys
place_within keys key p at = let low = position_within _ 0 keys p at in omega (arith, low)

zip_at : {A B : Type 0} (h : B → A) (xs : List B) (i : ℕ) (p : A × B) → slice_get (zip (map h xs) xs) i ≡ Some p
    → (slice_get xs i ≡ Some p.1) × (p.0 ≡ h p.1)
zip_at h [] i p at = absurd (none-some p at)
zip_at {A = A} {B = B} h (x ∷ xs) zero p at =
    let first : h x ≡ p.0 = ap (λ (o : Option (A × B)). unwrap_or (option_map (λ (q : A × B). q.0) o) (h x)) at in
    let second : x ≡ p.1 = ap (λ (o : Option (A × B)). unwrap_or (option_map (λ (q : A × B). q.1) o) x) at in
    (ap Some second, sym first ∙ ap h second)
zip_at h (x ∷ xs) (suc i) p at = zip_at h xs i p at

-- ---- drivers

output_few : (memories : List Memory) (kind : VertexKind) (o : ℕ) → o < output_count memories kind
    → read_width memories kind ≤ 4194304 → o < 16777216
output_few memories Host o among few = absurd (omega (arith, among))
output_few memories Input o among few = omega (arith, among)
output_few memories Output o among few = absurd (omega (arith, among))
output_few memories (Constant b) o among few = omega (arith, among)
output_few memories (Gate kind) o among few = omega (arith, among)
output_few memories (Read memory port) o among few = omega (arith, among, few)
output_few memories (WritePort memory port) o among few = absurd (omega (arith, among))

-- the drivers of a machine's edges can be planned
pub small_drivers : (g : Graph) → IsMachine g → All IsSmallDriver (edge_drivers g)
small_drivers g machine =
    λ e d low. each (get_or (edge_drivers g) e d) (e, slice_get-get_or (edge_drivers g) e d low)
  where
    each : (driver : DriverId) → Has (edge_drivers g) driver → IsSmallDriver driver
    each driver has =
        let edge = has_of_map driver_of_edge g.edges driver has in
        let d = edge.0 in
        let low = machine.well_formed.from edge.1.0 d edge.1.1 in
        let most = machine.limits.vertices in
        let out = machine.outputs edge.1.0 d edge.1.1 in
        let part = part_within (read_width g.memories) (kinds g.vertices) d.from out.kind out.found in
        let reads = machine.memories.reads in
        let small : IsSmallDriver (driver_of_edge d) = record {
          vertex = omega (arith, low, most);
          output = output_few g.memories out.kind d.output out.among (omega (arith, part, reads));
        } in
        subst IsSmallDriver (sym edge.2) small

-- ---- of a machine

module _ (g : Graph) (machine : IsMachine g) (keys : List RegisterKey) (are : AreRegisters g keys) (names : Names)
    (fit : AreCircuitNames g keys names) where
  -- the number of a bit that a vertex drives
  bit_small : (u b : ℕ) (s : Signal) → s ≡ Bit b → DriverOrigin g names u s → b < first_register g names
  bit_small u b s is (of_constant c const) = no c (sym const ∙ is)
    where
      no : (c : Bool) → constant c ≡ Bit b → b < first_register g names
      no true same = absurd (cc)
      no false same = absurd (cc)
  bit_small u b s is (of_input number there low high apart) =
      let same : number ≡ b = let e = sym there ∙ is in cc in omega (arith, high, same)
  bit_small u b s is (of_logic x o at low there) =
      let same : logic_bit g names u + o ≡ b = let e = sym there ∙ is in cc in
      let within = part_within (λ (x : Vertex). logic_bits g.memories x.kind) g.vertices u x at in
      omega (arith, low, same, within)

  number_small : (u o : ℕ) (kind : VertexKind) → o < output_count g.memories kind
      → DriverOrigin g names u (output_signal g names kind u o)
      → number_by (data_numbers names) (inputs_before g.vertices u) (logic_bit g names u) kind + o
      < 2 ^ 32
  number_small u o Host among origin = absurd (omega (arith, among))
  number_small u o Input among origin =
      let low = bit_small u (get_or (data_numbers names) (inputs_before g.vertices u) 0) _ refl origin in
      let small = all_small g machine keys are names fit in
      omega (arith, low, small, among)
  number_small u o Output among origin = absurd (omega (arith, among))
  number_small u o (Constant b) among origin = omega (arith, among)
  number_small u o (Gate kind) among origin =
      let low = bit_small u (logic_bit g names u + o) _ refl origin in
      let small = all_small g machine keys are names fit in
      omega (arith, low, small)
  number_small u o (Read memory port) among origin =
      let low = bit_small u (logic_bit g names u + o) _ refl origin in
      let small = all_small g machine keys are names fit in
      omega (arith, low, small)
  number_small u o (WritePort memory port) among origin = absurd (omega (arith, among))

  -- an output of a vertex has a number
  pub has_number : (u o : ℕ) → HasOutput g.memories (kinds g.vertices) u o
      → HasNumber g.vertices (vertex_numbers g names) u o
  has_number u o has =
      let at = map_at (λ (x : Vertex). x.kind) g.vertices u has.kind has.found in
      let among : o < output_count g.memories at.0.kind =
      subst (λ kind. o < output_count g.memories kind) (sym at.2) has.among in
      let signal : driver_signal g names u o ≡ output_signal g names at.0.kind u o =
      ap (λ found. unwrap_or (option_map (λ (x : Vertex). output_signal g names x.kind u o) found) Zero) at.1 in
      let small = number_small u o at.0.kind among
      (subst (DriverOrigin g names u) signal (driver_origin g machine keys are names fit u o has)) in
      record {
        vertex = at.0;
        there = at.1;
        small = subst (λ n. n + o < 2 ^ 32) (sym (number_at g names u at.0 at.1)) small;
      }

  -- and what stands behind the register of a key has one too
  has_signal : (u o : ℕ) → HasOutput g.memories (kinds g.vertices) u o → (key : RegisterKey) (place : Option ℕ)
      → place ≡ place_of_key keys key
      → HasSignal g.vertices (vertex_numbers g names) (first_register g names) u o place
  has_signal u o has key place is = record {
    number = has_number u o has;
    register = λ n at.
        let low = place_within keys key n (sym is ∙ at) in
        let small = all_small g machine keys are names fit in
        omega (arith, low, small);
  }

  module _ (plan : Plan) (is : IsPlanOf keys (edge_drivers g) (edge_contents g) plan) where
    -- the ends of all edges have signals
    pub have_ends : HaveEnds g.vertices (vertex_numbers g names) (first_register g names) plan.ends g.edges
    have_ends e end at =
        let there = zip_at (λ (d : Edge). end_of keys (driver_of_edge d, d.contents)) g.edges e end
        (subst (λ ends. slice_get (zip ends g.edges) e ≡ Some end) (ends_of_edges g keys plan is) at) in
        has_signal end.1.from end.1.output (machine.outputs e end.1 there.0) _ end.0 there.1

    -- all registers have something to read
    pub have_sources : HaveSources g.vertices (vertex_numbers g names) (first_register g names) plan.registers
    have_sources n r at =
        let from = map_at (planned keys) keys n r (subst (λ rs. slice_get rs n ≡ Some r) is.registers at) in
        let edge = edge_of_key g from.0 (are.needed n from.0 from.1) in
        let has = machine.outputs _ edge.0 edge.1 in
        let vertex = edge.2 ∙ ap (λ (p : Planned). p.driver.vertex) from.2 in
        let output = edge.3 ∙ ap (λ (p : Planned). p.driver.output) from.2 in
        has_signal r.driver.vertex r.driver.output
        (subst (λ u. HasOutput g.memories (kinds g.vertices) u r.driver.output) vertex
        (subst (HasOutput g.memories (kinds g.vertices) edge.0.from) output has)) _ r.behind
        (sym (ap (λ (p : Planned). p.behind) from.2))

-- ---- of a retimed machine

module _ (lags : List ℤ) (k : Contents) where
  -- an edge with its end, retimed
  abbrev with_end : ℕ → Option ℕ × Edge → Option ℕ × Edge
  with_end e end = (end.0, retimed_edge lags k (e, end.1))

  retimed_at : (n : ℕ) (ends : List (Option ℕ)) (edges : List Edge) (e : ℕ) (end : Option ℕ × Edge)
      → slice_get (zip ends edges) e ≡ Some end
      → slice_get (zip ends (map (retimed_edge lags k) (enumerate_from n edges))) e ≡ Some (with_end (n + e) end)
  retimed_at n [] edges e end at = absurd (none-some end at)
  retimed_at n (p ∷ ends) [] e end at = absurd (none-some end at)
  retimed_at n (p ∷ ends) (d ∷ edges) zero end at =
      let place : n ≡ n + 0 = omega arith in
      ap (λ e. Some (with_end e (p, d))) place ∙ ap (option_map (with_end (n + 0))) at
  retimed_at n (p ∷ ends) (d ∷ edges) (suc e) end at =
      let place : n + 1 + e ≡ n + suc e = omega arith in
      retimed_at (n + 1) ends edges e end at ∙ ap (λ e. Some (with_end e end)) place

  -- what the ends of its edges need is what those of the machine need
  pub retimed_have_ends : (m : Graph) (vertices : List Vertex) (numbers : List ℕ) (first : ℕ)
      (ends : List (Option ℕ)) → HaveEnds vertices numbers first ends (retimed lags k m).edges
      → HaveEnds vertices numbers first ends m.edges
  retimed_have_ends m vertices numbers first ends have e end at =
      have e (with_end (0 + e) end) (retimed_at 0 ends m.edges e end at)
