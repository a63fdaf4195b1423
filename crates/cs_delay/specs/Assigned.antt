-- Which delays a table gives the vertices and pins of a machine.
use Rattle.std.specs.Prelude.{◌≡◌, ℕ, max, List, [], ◌∷◌, length, map, replicate, Bool, true, false, bytes_eq, if◌then◌else◌, Option, Some, None, is_none, option_map, option_and_then, unwrap_or, find, codes}
use Rattle.std.specs.List.{fold, list_any, range_with_len}
use Rattle.std.specs.Option.{option_or}
use Rattle.cs_cells.specs.Gates.{row_of, pin_count, pin_name}
use Rattle.cs_json.specs.Readable.{is_below}
use Rattle.cs_graph.specs.declared.graph.Graph.{Graph}
use Rattle.cs_graph.specs.declared.delays.Delays.{Delays}
use Rattle.cs_graph.specs.declared.vertex.Vertex.{Vertex}
use Rattle.cs_graph.specs.declared.vertex.VertexKind.{VertexKind}
use Rattle.cs_graph.specs.declared.vertex.VertexKind.TheVariants.{Host, Input, Output, Constant, Gate, Read, Write as WritePort}
use Rattle.cs_delay.specs.declared.entry.DelayEntry.{DelayEntry}
use Rattle.cs_delay.specs.declared.entry.PinDelays.{PinDelays}
use Rattle.cs_delay.specs.declared.entry.PinDelays.TheVariants.{One, Pins}
use Rattle.cs_delay.specs.declared.table.DelayTable.{DelayTable}

-- ---- the delay of one pin of one type

-- what a type's delays say of the pin
abbrev pub own_delay : List ℕ → PinDelays → Option ℕ
own_delay pin (One delay) = Some delay
own_delay pin (Pins pins) = option_map (λ p. p.delay) (find (λ p. bytes_eq p.pin pin) pins)

-- what the table says of the pin of the type, before the fallback
abbrev pub listed_delay : List DelayEntry → List ℕ → List ℕ → Option ℕ
listed_delay entries kind pin =
    option_and_then (λ e. own_delay pin e.delay) (find (λ e. bytes_eq e.kind kind) entries)

-- the type's own delay of the pin, or else the fallback
abbrev pub delay_of : DelayTable → List ℕ → List ℕ → Option ℕ
delay_of table kind pin = option_or (listed_delay table.entries kind pin) table.fallback

-- ---- what a vertex needs

-- the type of a vertex that has a delay: a gate's, or that of memories for a Read
abbrev pub type_of : VertexKind → List ℕ
type_of Host = []
type_of Input = []
type_of Output = []
type_of (Constant b) = []
type_of (Gate gate) = (row_of gate).name
type_of (Read memory port) = codes "$mem_v2"
type_of (WritePort memory port) = []

-- the pins whose delays it needs: each pin of a gate, and one for all address pins of a Read
abbrev pub needed_pins : VertexKind → List (List ℕ)
needed_pins Host = []
needed_pins Input = []
needed_pins Output = []
needed_pins (Constant b) = []
needed_pins (Gate gate) = map (pin_name gate) (range_with_len 0 (pin_count gate))
needed_pins (Read memory port) = codes "RD_ADDR" ∷ []
needed_pins (WritePort memory port) = []

-- a gate
abbrev pub is_gate : VertexKind → Bool
is_gate Host = false
is_gate Input = false
is_gate Output = false
is_gate (Constant b) = false
is_gate (Gate gate) = true
is_gate (Read memory port) = false
is_gate (WritePort memory port) = false

-- ---- the delays of a vertex

-- the delays of the needed pins, 0 where there is none
abbrev pub needed_delays : DelayTable → VertexKind → List ℕ
needed_delays table kind =
    map (λ pin. unwrap_or (delay_of table (type_of kind) pin) 0) (needed_pins kind)

-- the greatest of them, and 0 where nothing is needed
abbrev pub greatest : List ℕ → ℕ
greatest delays = fold max 0 delays

-- the delay of a vertex: the greatest of its pins'
abbrev pub vertex_delay : DelayTable → VertexKind → ℕ
vertex_delay table kind = greatest (needed_delays table kind)

-- the delays of its pins: a gate's own, and the vertex's for all others
abbrev pub pin_delays : DelayTable → Vertex → List ℕ
pin_delays table x =
    if is_gate x.kind then needed_delays table x.kind
    else replicate (length x.pins) (vertex_delay table x.kind)

-- ---- missing delays

-- a pin that it needs has no delay
abbrev pub lacks_delay : DelayTable → VertexKind → Bool
lacks_delay table kind =
    list_any (λ pin. is_none (delay_of table (type_of kind) pin)) (needed_pins kind)

-- the type of a vertex that lacks a delay
abbrev pub lacking : DelayTable → VertexKind → Option (List ℕ)
lacking table kind = if lacks_delay table kind then Some (type_of kind) else None

-- the earlier of two names in byte order
abbrev pub earlier : Option (List ℕ) → Option (List ℕ) → Option (List ℕ)
earlier None b = b
earlier (Some a) None = Some a
earlier (Some a) (Some b) = if is_below b a then Some b else Some a

-- the earliest type of some vertices that lacks a delay
abbrev pub missing_of : DelayTable → List Vertex → Option (List ℕ)
missing_of table [] = None
missing_of table (x ∷ xs) = earlier (lacking table x.kind) (missing_of table xs)

-- the earliest type of a machine's vertices that lacks a delay
unfoldable pub missing : DelayTable → Graph → Option (List ℕ)
missing table g = missing_of table g.vertices

-- ---- all delays

-- each vertex and each pin has the table's delay
pub record AreAssigned (table : DelayTable) (g : Graph) (delays : Delays) : Type 0 where
  pub vertices : delays.per_vertex ≡ map (λ x. vertex_delay table x.kind) g.vertices
  pub pins : delays.per_pin ≡ map (pin_delays table) g.vertices
