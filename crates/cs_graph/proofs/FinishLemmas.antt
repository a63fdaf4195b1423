-- From what a builder keeps to what a machine keeps.
use Rattle.std.proofs.Common.{◌≡◌, ℕ, zero, suc, ◌+◌, ◌*◌, ◌^◌, ◌<◌, ◌≤◌, List, length, min, refl, ap, ◌∙◌, arith}
use Rattle.std.specs.Prelude.{pos, Option, Some, None, slice_get}
use Rattle.std.proofs.lemmas.Option.{slice_get_within}
use Rattle.cs_cells.specs.declared.gate.Kind.{Kind}
use Rattle.cs_cells.specs.declared.gate.Kind.TheVariants.{Buf, Not, And, Nand, Or, Nor, Xor, Xnor, AndNot, OrNot, Mux, Nmux, Aoi3, Oai3, Aoi4, Oai4, Mux4, Mux8, Mux16}
use Rattle.cs_cells.specs.Gates.{pin_count as gate_pins}
use Rattle.cs_graph.specs.declared.source.OpenVertex.{OpenVertex}
use Rattle.cs_graph.specs.declared.vertex.VertexKind.{VertexKind}
use Rattle.cs_graph.specs.declared.vertex.VertexKind.TheVariants.{Host, Input, Output, Constant, Gate, Read, Write}
use Rattle.cs_graph.specs.declared.memory.Memory.{Memory}
use Rattle.cs_graph.specs.declared.graph.Graph.{Graph}
use Rattle.cs_graph.specs.Kinds.{pin_count, address_bits, word_bits}
use Rattle.cs_graph.specs.Invariant.{HasOrder, IsMachine, IsMemory}
use Rattle.cs_graph.specs.Order.{IsWired, IsLoop, IsOrder, no_lags}
use Rattle.cs_graph.specs.Draft.{Draft, IsDraft, built}
use Rattle.cs_graph.proofs.LagLemmas.{weight_alone}
use Rattle.cs_graph.proofs.RetimedLoops.{lags_no_loop}
use Rattle.cs_graph.proofs.BuiltLemmas.{built_machine, built_wired}

-- ---- orders

pub order_of : (g : Graph) (order : List ℕ) → IsWired g → IsOrder g no_lags order → HasOrder g
order_of g order wired is = record {
  place = λ v. min (is.place v) (length order);
  span = length order + 1;
  within = λ v. omega arith;
  below = λ e d found none.
      let less = is.below e d found (weight_alone d ∙ ap pos none) in
      let from = slice_get_within order (is.place d.from) d.from (is.at d.from (wired.from e d found)) in
      omega (arith, less, from);
}

-- ---- pins are few

gate_few : (gate : Kind) → gate_pins gate ≤ 20
gate_few Buf = omega arith
gate_few Not = omega arith
gate_few And = omega arith
gate_few Nand = omega arith
gate_few Or = omega arith
gate_few Nor = omega arith
gate_few Xor = omega arith
gate_few Xnor = omega arith
gate_few AndNot = omega arith
gate_few OrNot = omega arith
gate_few Mux = omega arith
gate_few Nmux = omega arith
gate_few Aoi3 = omega arith
gate_few Oai3 = omega arith
gate_few Aoi4 = omega arith
gate_few Oai4 = omega arith
gate_few Mux4 = omega arith
gate_few Mux8 = omega arith
gate_few Mux16 = omega arith

width_few : (words width : ℕ) → 0 < words → words * width ≤ 4194304 → width ≤ 4194304
width_few zero width some few = absurd (omega arith)
width_few (suc words) width some few = omega arith

bits_few : (ms : List Memory) (i : ℕ) → ((j : ℕ) (m : Memory) → slice_get ms j ≡ Some m → IsMemory m)
    → (address_bits (slice_get ms i) ≤ 24) × (word_bits (slice_get ms i) ≤ 4194304)
bits_few ms i each = by (slice_get ms i) refl
  where
    by : (o : Option Memory) → slice_get ms i ≡ o → (address_bits o ≤ 24) × (word_bits o ≤ 4194304)
    by None is = (omega arith, omega arith)
    by (Some m) is =
        let sizes = each i m is in
        (sizes.address_bits, width_few m.words m.width sizes.some_words sizes.size)

pins_few : (ms : List Memory) (kind : VertexKind) → ((j : ℕ) (m : Memory) → slice_get ms j ≡ Some m
    → IsMemory m)
    → pin_count ms kind ≤ 8388632
pins_few ms Host each = omega arith
pins_few ms Input each = omega arith
pins_few ms Output each = omega arith
pins_few ms (Constant b) each = omega arith
pins_few ms (Gate gate) each = let few = gate_few gate in omega (arith, few)
pins_few ms (Read memory port) each = let few = bits_few ms memory each in omega (arith, few.0)
pins_few ms (Write memory port) each = let few = bits_few ms memory each in omega (arith, few.0, few.1)

pub draft_pins_few : (d : Draft) → IsDraft d → (v : ℕ) (x : OpenVertex) → slice_get d.vertices v ≡ Some x
    → length x.pins < 2 ^ 32
draft_pins_few d is v x found =
    let count = is.pins v x found in
    let few = pins_few d.memories x.kind is.memories.each in
    omega (arith, count, few)

pub finished : (d : Draft) (order : List ℕ) → IsDraft d → IsOrder (built d) no_lags order
    → IsMachine (built d)
finished d order is ordered = built_machine d is (order_of (built d) order (built_wired d is) ordered)

pub no_loop : (d : Draft) (order vs : List ℕ) → IsDraft d → IsOrder (built d) no_lags order
    → IsLoop (built d) no_lags vs → ⊥
no_loop d order vs is ordered = lags_no_loop (built d) (order_of (built d) order (built_wired d is) ordered)
    no_lags vs
