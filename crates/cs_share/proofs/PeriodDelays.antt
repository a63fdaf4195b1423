-- Gates and read ports of a written netlist have the delays that the table gives the machine's vertices and pins.
use Rattle.std.proofs.Common.{◌≡◌, ◌∙◌, ℕ, ◌<◌, ◌≤◌, List, [], ◌∷◌, get_or, map, true, Option, Some, None, refl, sym, ap, subst, arith}
use Rattle.std.specs.Prelude.{if◌then◌else◌, replicate, slice_get, unwrap_or}
use Rattle.std.proofs.lemmas.List.{get_or-replicate}
use Rattle.std.proofs.lemmas.Option.{get_or_from_slice_get, unwrap_or-slice_get}
use Rattle.cs_base.specs.declared.signal.Signal.{Signal}
use Rattle.cs_delay.specs.Assigned.{AreAssigned, greatest, is_gate, needed_delays, pin_delays, vertex_delay}
use Rattle.cs_delay.specs.declared.table.DelayTable.{DelayTable}
use Rattle.cs_delay.proofs.DelayLemmas.{pins_within}
use Rattle.cs_graph.specs.declared.delays.Delays.{Delays}
use Rattle.cs_graph.specs.declared.graph.Graph.{Graph}
use Rattle.cs_graph.specs.declared.memory.Memory.{Memory}
use Rattle.cs_graph.specs.declared.vertex.Vertex.{Vertex}
use Rattle.cs_graph.specs.declared.vertex.VertexKind.{VertexKind}
use Rattle.cs_graph.specs.declared.vertex.VertexKind.TheVariants.{Host, Input, Output, Constant, Gate, Read, Write as WritePort}
use Rattle.cs_graph.specs.Period as graph
use Rattle.cs_net.specs.Accept.{is_combinational}
use Rattle.cs_net.specs.Drivers.{fanin}
use Rattle.cs_net.proofs.MemoryPlaces.{at_map}
use Rattle.cs_share.specs.Period.{driver_delay, input_delay}
use Rattle.cs_share.specs.Shared.{logic_bits}
use Rattle.cs_share.proofs.PeriodDrivers.{driver_by}

-- ---- what drives a bit of a gate or a Read

pub reads_pins : (memories : List Memory) (kind : VertexKind) (pins : List Signal) (o : ℕ)
    → 0 < logic_bits memories kind → fanin (driver_by kind pins o) ≡ pins
reads_pins memories Host pins o some = absurd (omega (arith, some))
reads_pins memories Input pins o some = absurd (omega (arith, some))
reads_pins memories Output pins o some = absurd (omega (arith, some))
reads_pins memories (Constant b) pins o some = absurd (omega (arith, some))
reads_pins memories (Gate kind) pins o some = refl
reads_pins memories (Read memory port) pins o some = refl
reads_pins memories (WritePort memory port) pins o some = absurd (omega (arith, some))

pub is_logic : (memories : List Memory) (kind : VertexKind) (pins : List Signal) (o : ℕ)
    → 0 < logic_bits memories kind → is_combinational (driver_by kind pins o) ≡ true
is_logic memories Host pins o some = absurd (omega (arith, some))
is_logic memories Input pins o some = absurd (omega (arith, some))
is_logic memories Output pins o some = absurd (omega (arith, some))
is_logic memories (Constant b) pins o some = absurd (omega (arith, some))
is_logic memories (Gate kind) pins o some = refl
is_logic memories (Read memory port) pins o some = refl
is_logic memories (WritePort memory port) pins o some = absurd (omega (arith, some))

-- ---- delays of one vertex

module _ (table : DelayTable) where
  greatest_of_one : (n : ℕ) → greatest (n ∷ []) ≡ n
  greatest_of_one n = omega arith

  pub driver_delay_is : (kind : VertexKind) (pins : List Signal) (o : ℕ)
      → driver_delay table (driver_by kind pins o) ≡ vertex_delay table kind
  driver_delay_is Host pins o = refl
  driver_delay_is Input pins o = refl
  driver_delay_is Output pins o = refl
  driver_delay_is (Constant b) pins o = refl
  driver_delay_is (Gate kind) pins o = refl
  driver_delay_is (Read memory port) pins o = sym (greatest_of_one _)
  driver_delay_is (WritePort memory port) pins o = refl

  same_at : (count i delay : ℕ) → i < count → delay ≡ get_or (replicate count delay) i 0
  same_at count i delay low = sym (get_or-replicate count i delay 0 low)

  pub input_delay_is : (kind : VertexKind) (pins : List Signal) (o i count : ℕ) → i < count
      → input_delay table (driver_by kind pins o) i
      ≡ get_or (if is_gate kind then needed_delays table kind else replicate count (vertex_delay table kind)) i 0
  input_delay_is Host pins o i count low = same_at count i 0 low
  input_delay_is Input pins o i count low = same_at count i 0 low
  input_delay_is Output pins o i count low = same_at count i 0 low
  input_delay_is (Constant b) pins o i count low = same_at count i 0 low
  input_delay_is (Gate kind) pins o i count low = refl
  input_delay_is (Read memory port) pins o i count low =
      sym (greatest_of_one _) ∙ same_at count i (greatest (_ ∷ [])) low
  input_delay_is (WritePort memory port) pins o i count low = same_at count i 0 low

-- ---- delays of the machine

module _ (table : DelayTable) (g : Graph) (d : Delays) (assigned : AreAssigned table g d) where
  pub vertex_delay_at : (u : ℕ) (x : Vertex) → slice_get g.vertices u ≡ Some x
      → graph.vertex_delay d u ≡ vertex_delay table x.kind
  vertex_delay_at u x at =
      ap (λ ds. get_or ds u 0) assigned.vertices
      ∙ get_or_from_slice_get (map (λ (y : Vertex). vertex_delay table y.kind) g.vertices) u
      (vertex_delay table x.kind) 0
      (at_map (λ (y : Vertex). vertex_delay table y.kind) g.vertices u x at)

  pub pin_delay_at : (u i : ℕ) (x : Vertex) → slice_get g.vertices u ≡ Some x
      → graph.pin_delay d u i ≡ get_or (pin_delays table x) i 0
  pin_delay_at u i x at =
      ap (λ dss. get_or (get_or dss u []) i 0) assigned.pins
      ∙ ap (λ ds. get_or ds i 0)
      (get_or_from_slice_get (map (pin_delays table) g.vertices) u (pin_delays table x) []
      (at_map (pin_delays table) g.vertices u x at))

  at_most : (ds : List ℕ) (i most : ℕ) → ((p : ℕ) → slice_get ds i ≡ Some p → p ≤ most) → get_or ds i 0 ≤ most
  at_most ds i most each =
      subst (λ n. n ≤ most) (unwrap_or-slice_get ds i 0) (by (slice_get ds i) refl)
    where
      by : (o : Option ℕ) → slice_get ds i ≡ o → unwrap_or o 0 ≤ most
      by None is = omega arith
      by (Some p) is = each p is

  -- a pin has at most the delay of its vertex
  pub pin_delay_within : (u i : ℕ) (x : Vertex) → slice_get g.vertices u ≡ Some x
      → graph.pin_delay d u i ≤ graph.vertex_delay d u
  pin_delay_within u i x at =
      let few = at_most (pin_delays table x) i (vertex_delay table x.kind)
      (λ p pin. pins_within table g.vertices u i (vertex_delay table x.kind) p (pin_delays table x)
      (at_map (λ (y : Vertex). vertex_delay table y.kind) g.vertices u x at)
      (at_map (pin_delays table) g.vertices u x at) pin) in
      let vertex = vertex_delay_at u x at in
      let pin = pin_delay_at u i x at in
      omega (arith, few, vertex, pin)
