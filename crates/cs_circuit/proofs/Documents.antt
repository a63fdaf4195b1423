-- The document of a circuit is readable and has a netlist, but for loops; and there is one such document.
use Rattle.std.proofs.Common.{◌≡◌, ℕ, zero, suc, ◌+◌, ◌≤◌, List, [], ◌∷◌, map, Bool, true, false, cond, Some, None, refl, sym, ap, ap₂, subst, ◌∙◌, arith}
use Rattle.std.specs.Prelude.{IsTrue, filter, flat_map}
use Rattle.std.specs.List.{AllByRecursion}
use Rattle.cs_base.specs.declared.signal.Signal.{Signal}
use Rattle.cs_base.specs.declared.signal.Signal.TheVariants.{Bit}
use Rattle.cs_json.specs.declared.document.Document.{Document}
use Rattle.cs_json.specs.declared.document.Module.{Module}
use Rattle.cs_json.specs.declared.document.CellDecl.{CellDecl}
use Rattle.cs_json.specs.declared.document.NetDecl.{NetDecl}
use Rattle.cs_json.specs.declared.document.PortDecl.{PortDecl}
use Rattle.cs_json.specs.declared.document.Direction.{Direction}
use Rattle.cs_json.specs.declared.document.Direction.TheVariants.{Input, Output, Inout}
use Rattle.cs_json.specs.Readable.{AreReadable, IsCell, IsModule, IsNet, IsPort, IsReadable, is_input as is_input_port, is_readable_signal}
use Rattle.cs_conditions.specs.Conditions.{early_refusal, is_inout, reserved}
use Rattle.cs_modules.specs.Modules.{clock_of, input_bits_in, output_bits_in, top_of}
use Rattle.cs_modules.specs.Pins.{count_from}
use Rattle.cs_modules.specs.Signals.{is_input, is_output}
use Rattle.cs_circuit.specs.declared.circuit.Circuit.{Circuit}
use Rattle.cs_circuit.specs.Cells.{register_net}
use Rattle.cs_circuit.specs.Documents.{IsCircuitDocument, circuit_cells, circuit_module, circuit_nets}
use Rattle.cs_circuit.specs.WellFormed.{IsCircuit, IsData, input_count}
use Rattle.cs_circuit.proofs.Conditions.{cells_are_fine, clock-made, none_early, none_reserved}
use Rattle.cs_circuit.proofs.Connections.{IsFineCell}
use Rattle.cs_circuit.proofs.FineCells.{register_readable, small_bit, within}
use Rattle.cs_circuit.proofs.Lists.{all_listed, all_step, split_all}
use Rattle.cs_circuit.proofs.Orders.{all_permuted, one_order}

-- ---- readable

readable_port : (direction : Direction) (bits : List Signal) → is_inout direction ≡ false
    → (is_input direction ≡ true → AreReadable true bits)
    → (is_output direction ≡ true → AreReadable false bits)
    → AreReadable (is_input_port direction) bits
readable_port Input bits one_way input output = input refl
readable_port Output bits one_way input output = output refl
readable_port Inout bits one_way input output = absurd (cc)

first_and_rest : (P : Signal → Type 0) (test : PortDecl → Bool) (p : PortDecl) (ports : List PortDecl)
    → AllByRecursion P (flat_map (λ (q : PortDecl). q.bits) (filter test (p ∷ ports)))
    → (test p ≡ true → AllByRecursion P p.bits) × AllByRecursion P
    (flat_map (λ (q : PortDecl). q.bits) (filter test ports))
first_and_rest P test p ports all =
    elim (test p) as (λ t. test p ≡ t → AllByRecursion P
    (flat_map (λ (q : PortDecl). q.bits) (cond t (p ∷ filter test ports) (filter test ports)))
    → (t ≡ true → AllByRecursion P p.bits) × AllByRecursion P
    (flat_map (λ (q : PortDecl). q.bits) (filter test ports))) [
      | true ↦ λ is here. let parts = split_all P p.bits
          (flat_map (λ (q : PortDecl). q.bits) (filter test ports)) here in (λ same. parts.0, parts.1)
      | false ↦ λ is here. (λ same. absurd (cc), here)
    ] refl all

readable_ports : (ports : List PortDecl) → AllByRecursion (λ (p : PortDecl). is_inout p.direction ≡ false) ports
    → AreReadable true (input_bits_in ports) → AreReadable false (output_bits_in ports)
    → AllByRecursion IsPort ports
readable_ports [] one_way inputs outputs = tt
readable_ports (p ∷ ports) one_way inputs outputs =
    let i = first_and_rest (λ s. IsTrue (is_readable_signal true s))
    (λ (q : PortDecl). is_input q.direction) p ports inputs in
    let o = first_and_rest (λ s. IsTrue (is_readable_signal false s))
    (λ (q : PortDecl). is_output q.direction) p ports outputs in
    (readable_port p.direction p.bits one_way.0 i.0 o.0, readable_ports ports one_way.1 i.1 o.1)

module _ (k : Circuit) (is : IsCircuit k) where
  counted_readable : (from count : ℕ) → 2 ≤ from → from + count ≤ 2 + input_count k
      → AllByRecursion (λ s. IsTrue (is_readable_signal true s)) (map Bit (count_from from count))
  counted_readable from zero low high = tt
  counted_readable from (suc count) low high =
      let apart = is.apart in
      let small = apart.small in
      let above = apart.above in
      (small_bit from low (omega arith), counted_readable (from + 1) count (omega arith) (omega arith))

  inputs_readable : AreReadable true (input_bits_in k.ports)
  inputs_readable = subst (AreReadable true) (sym is.inputs)
      (counted_readable 2 (input_count k) (omega arith) (omega arith))

  outputs_readable : AreReadable false (output_bits_in k.ports)
  outputs_readable =
      all_step (IsData k.clock) (λ s. IsTrue (is_readable_signal false s)) (λ s d. d.readable)
      (output_bits_in k.ports) is.outputs

  nets_readable : AllByRecursion IsNet (circuit_nets k)
  nets_readable =
      all_listed IsNet (register_net k) 0 k.registers
      (λ n r stands.
      let below = within k.registers n r stands in
      record {
        attributes = record { order = (tt, tt); data_kept = (refl, tt) };
        bits = (register_readable k is (0 + n) (omega arith), tt);
      })

  module _ (doc : Document) (made : IsCircuitDocument k doc) where
    abbrev module_of : Module
    module_of = circuit_module k made.cells made.nets

    readable_module : IsModule module_of
    readable_module = record {
      attributes = record { order = (tt, tt); data_kept = (refl, tt) };
      cells =
          all_step (IsFineCell k) IsCell (λ c fine. fine.readable) made.cells
          (cells_are_fine k is made.cells made.nets made.of_cells made.of_nets);
      nets = all_permuted IsNet (circuit_nets k) made.nets made.of_nets.same nets_readable;
      ports = readable_ports k.ports is.one_way inputs_readable outputs_readable;
      cells_order = made.of_cells.order;
      nets_order = made.of_nets.order;
      ports_order = is.ports_order;
    }

    -- what stands of the document of a circuit: it is readable, and of its top module no condition holds, but that loops
    -- are left open
    pub record IsFineDocument : Type 0 where
      pub readable : IsReadable doc
      pub is_top : top_of doc None ≡ Some module_of
      pub early : early_refusal module_of ≡ None
      pub not_reserved : reserved module_of ≡ None
      pub clock : clock_of module_of ≡ k.clock

    pub fine_document : IsFineDocument
    fine_document = record {
      readable = subst IsReadable (sym made.is) (record { modules = (readable_module, tt); order = (tt, tt) });
      is_top = ap (λ d. top_of d None) made.is;
      early = none_early k is made.cells made.nets made.of_cells made.of_nets;
      not_reserved = none_reserved k is made.cells made.nets made.of_cells made.of_nets;
      clock = clock-made k is made.cells made.nets made.of_cells made.of_nets;
    }

-- ---- one document

pub one_document : (k : Circuit) (doc other : Document) → IsCircuitDocument k doc
    → IsCircuitDocument k other → doc ≡ other
one_document k doc other first second =
    first.is
    ∙ ap₂ (λ cells nets. let d : Document = record { modules = circuit_module k cells nets ∷ [] } in d)
    (one_order (λ (c : CellDecl). c.name)
    (circuit_cells k) first.cells second.cells first.of_cells second.of_cells)
    (one_order (λ (n : NetDecl). n.name) (circuit_nets k) first.nets second.nets first.of_nets second.of_nets)
    ∙ sym second.is
