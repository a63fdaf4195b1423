-- The netlist of the module of a circuit is the circuit's.
use Rattle.std.proofs.Common.{◌≡◌, ℕ, ◌<◌, List, Some, None, IsTrue, slice_get, inl, inr, refl, sym, ap, subst, ◌∙◌}
use Rattle.cs_base.specs.declared.signal.Signal.TheVariants.{Bit}
use Rattle.cs_json.specs.declared.document.CellDecl.{CellDecl}
use Rattle.cs_json.specs.declared.document.Document.{Document}
use Rattle.cs_json.specs.declared.document.NetDecl.{NetDecl}
use Rattle.cs_modules.specs.Modules.{clock_of, top_of}
use Rattle.cs_modules.specs.Signals.{holds_bit}
use Rattle.cs_conditions.specs.Conditions.{early_refusal, reserved}
use Rattle.cs_net.specs.Accept.{HasNoLoop, IsNetOfTop}
use Rattle.cs_net.specs.Build.{net_of}
use Rattle.cs_net.specs.Drivers.{Driver, data_inputs, driver_of, fanin, gate, input, register, word_bit}
use Rattle.cs_net.specs.Invariant.{HasBitOrder}
use Rattle.cs_net.specs.Netlist.{Net}
use Rattle.cs_net.proofs.Orders.{no_loop_of_order}
use Rattle.cs_circuit.specs.declared.circuit.Circuit.{Circuit}
use Rattle.cs_circuit.specs.declared.circuit.RegisterPart.{RegisterPart}
use Rattle.cs_circuit.specs.Cells.{register_bit}
use Rattle.cs_circuit.specs.Documents.{circuit_cells, circuit_module, circuit_nets}
use Rattle.cs_circuit.specs.Order.{IsInNameOrder}
use Rattle.cs_circuit.specs.ReadBack.{IsNetOfCircuit, IsPlainRegister}
use Rattle.cs_circuit.specs.WellFormed.{IsCircuit}
use Rattle.cs_circuit.proofs.NetBits.{driver_is, driver_kind}
use Rattle.cs_circuit.proofs.NetCells.{plain_element}
use Rattle.cs_circuit.proofs.NetDrivers.{IsDriver, by_input, by_gate, by_read, by_register, circuit_inputs, read_word}
use Rattle.cs_circuit.proofs.NetModules.{inputs_of_made, source_at}
use Rattle.cs_circuit.proofs.NetStarts.{start_is}
use Rattle.cs_circuit.proofs.NetState.{words_are, writes_are}

module _ (k : Circuit) (is : IsCircuit k) (cells : List CellDecl) (nets : List NetDecl)
    (ordered : IsInNameOrder (λ (c : CellDecl). c.name) (circuit_cells k) cells)
    (clock : clock_of (circuit_module k cells nets) ≡ k.clock) where
  abbrev net : Net
  net = net_of (circuit_module k cells nets)

  driver : (b : ℕ) (d : Driver) → IsDriver k b d → driver_of net b ≡ d
  driver b d drives = driver_is k is cells nets ordered clock b d drives

  -- ---- what drives each bit

  input_is : (i b : ℕ) → slice_get (data_inputs net) i ≡ Some (Bit b) → driver_of net b ≡ input i
  input_is i b stands =
      let there : slice_get (circuit_inputs k) i ≡ Some (Bit b) =
      ap (λ signals. slice_get signals i) (sym (inputs_of_made k is cells nets ordered clock)) ∙ stands in
      driver b (input i) (by_input i there refl)

  register_is : (n : ℕ) (r : RegisterPart) → slice_get k.registers n ≡ Some r
      → IsPlainRegister net (register_bit k n) r.source
  register_is n r stands =
      let source = source_at k n r stands in
      record {
        element = plain_element k.clock r.source;
        drives = driver (register_bit k n) (register (plain_element k.clock r.source))
            (by_register n r.source source refl refl);
        reset = refl;
        enable = refl;
        source_is = refl;
      }

  -- ---- an order

  -- what a driver of the circuit depends on stands before it
  after_fanin : (b a : ℕ) (d : Driver) → IsDriver k b d → IsTrue (holds_bit a (fanin d))
      → is.places.place a < is.places.place b
  after_fanin b a d (by_input i stands same) depends =
      let none = subst (λ e. IsTrue (holds_bit a (fanin e))) same depends in cc
  after_fanin b a d (by_gate p g stands bit same) depends =
      let reads = subst (λ e. IsTrue (holds_bit a (fanin e))) same depends in
      subst (λ n. is.places.place a < is.places.place n) bit (is.places.gates p a g stands reads)
  after_fanin b a d (by_read i j o bit same) depends =
      let reads = subst (λ e. IsTrue (holds_bit a (fanin e))) same depends in
      is.places.reads i j o b a bit reads
  after_fanin b a d (by_register n source stands bit same) depends =
      let none = subst (λ e. IsTrue (holds_bit a (fanin e))) same depends in cc

  pub order_of_made : HasBitOrder net
  order_of_made = record {
    place = is.places.place;
    order = λ b a depends. elim (driver_kind k is cells nets ordered clock b) [
      | inl none ↦ let never = subst (λ d. IsTrue (holds_bit a (fanin d))) none depends in cc
      | inr drives ↦ after_fanin b a (driver_of net b) drives depends
    ];
  }

  pub no_loop_of_made : HasNoLoop net
  no_loop_of_made = no_loop_of_order net order_of_made

-- ---- the netlist

-- the netlist of the module of a circuit is the circuit's, where the clock that is found there is
pub net_of_circuit : (k : Circuit) → IsCircuit k → (cells : List CellDecl) (nets : List NetDecl)
    → IsInNameOrder (λ (c : CellDecl). c.name) (circuit_cells k) cells
    → IsInNameOrder (λ (n : NetDecl). n.name) (circuit_nets k) nets
    → clock_of (circuit_module k cells nets) ≡ k.clock
    → IsNetOfCircuit k (net_of (circuit_module k cells nets))
unfolding net_of
net_of_circuit k is cells nets ordered ordered_nets clock = record {
  name = refl;
  ports = refl;
  clock = clock;
  inputs = input_is k is cells nets ordered clock;
  gates = λ p g stands.
      driver k is cells nets ordered clock g.output (gate g.kind g.pins) (by_gate p g stands refl refl);
  reads = λ i j o b bit.
      driver k is cells nets ordered clock b (word_bit (read_word i bit.read o)) (by_read i j o bit refl);
  registers = register_is k is cells nets ordered clock;
  starts = λ n r stands. start_is k is cells nets ordered ordered_nets n r stands;
  words = λ i m stands. words_are k is cells nets ordered i m stands;
  writes = λ i m v stands. writes_are k is cells nets ordered i m stands v;
  order = order_of_made k is cells nets ordered clock;
}

-- and it is the netlist of a document with that module as its top, where no other condition refuses it
pub net_of_top : (k : Circuit) → IsCircuit k → (cells : List CellDecl) (nets : List NetDecl) (doc : Document)
    → IsInNameOrder (λ (c : CellDecl). c.name) (circuit_cells k) cells
    → clock_of (circuit_module k cells nets) ≡ k.clock
    → top_of doc None ≡ Some (circuit_module k cells nets)
    → early_refusal (circuit_module k cells nets) ≡ None
    → reserved (circuit_module k cells nets) ≡ None
    → IsNetOfTop doc None (net_of (circuit_module k cells nets))
net_of_top k is cells nets doc ordered clock is_top early free = record {
  «module» = circuit_module k cells nets;
  is_top = is_top;
  early = early;
  no_loop = no_loop_of_made k is cells nets ordered clock;
  not_reserved = free;
  is = refl;
}
