-- The start of the netlist of a circuit's module: each register has its own.
use Rattle.std.proofs.Common.{◌≡◌, ℕ, zero, suc, ◌+◌, List, [], ◌∷◌, ◌++◌, Bool, true, false, Option, Some, None, if◌then◌else◌, filter_map, flat_map, option_map, unwrap_or, zip, ◌==◌, slice_get, inl, inr, refl, sym, ap, subst, ◌∙◌, codes, arith, eqb-true, eq-eqb}
use Rattle.std.specs.List.{enumerate_from}
use Rattle.std.proofs.lemmas.List.Sorted.{IsPermutation-sym}
use Rattle.cs_base.specs.declared.signal.Signal.{Signal}
use Rattle.cs_base.specs.declared.signal.Signal.TheVariants.{Bit}
use Rattle.cs_json.specs.declared.document.CellDecl.{CellDecl}
use Rattle.cs_json.specs.declared.document.Module.{Module}
use Rattle.cs_json.specs.declared.document.NetDecl.{NetDecl}
use Rattle.cs_cells.specs.declared.class.Class.{Class}
use Rattle.cs_cells.specs.declared.class.Class.TheVariants.{Gate, Register, Memory, Scope, Asynchronous, NotFine, Unknown}
use Rattle.cs_modules.specs.Memories.{shape_by}
use Rattle.cs_modules.specs.Modules.{cells_of, init_values, init_values_in, initial_value}
use Rattle.cs_modules.specs.Pins.{class_at, pin_bits}
use Rattle.cs_modules.specs.Signals.{number_in}
use Rattle.cs_net.specs.declared.state.BitValue.{BitValue}
use Rattle.cs_net.specs.Build.{cell_of, net_of, starts_by}
use Rattle.cs_net.specs.Drivers.{memory_read_starts}
use Rattle.cs_net.specs.Netlist.{Net}
use Rattle.cs_net.proofs.Members.{Has, has_either, has_in_chain, has_in_map, has_left, has_of_chain, has_of_choice, has_of_map, numbered}
use Rattle.cs_circuit.specs.declared.circuit.Circuit.{Circuit}
use Rattle.cs_circuit.specs.declared.circuit.RegisterPart.{RegisterPart}
use Rattle.cs_circuit.specs.Cells.{digit, gate_cell, register_bit, register_cell, register_net, text_entry}
use Rattle.cs_circuit.specs.Documents.{circuit_cells, circuit_module, circuit_nets}
use Rattle.cs_circuit.specs.Order.{IsInNameOrder}
use Rattle.cs_circuit.specs.ReadBack.{start_of}
use Rattle.cs_circuit.specs.WellFormed.{IsCircuit}
use Rattle.cs_circuit.proofs.NetBits.{part_of}
use Rattle.cs_circuit.proofs.NetCells.{class_of_gate_cell, class_of_register_cell}
use Rattle.cs_circuit.proofs.NetLists.{first_of_same, found_image, has_numbered, has_permuted}
use Rattle.cs_circuit.proofs.NetMemoryState.{no_read_starts}
use Rattle.cs_circuit.proofs.NetModules.{IsCellOf, of_gate, of_memory, of_register, cells_of_made, has_cell, has_register_cell, kind_of_made, memory_fits, parts_of_made, source_at}

-- ---- what nets say

-- a net of one bit
abbrev net_by : List ℕ → ℕ → Bool → NetDecl
net_by name q start = record {
  name = name;
  bits = Bit q ∷ [];
  attributes = text_entry (codes "init") (digit start ∷ []) ∷ [];
}

-- such a net gives its bit its digit, and no other bit a value
values_of_net : (b q : ℕ) (name : List ℕ) (start : Bool)
    → init_values_in b (net_by name q start) ≡ (if q == b then start ∷ [] else [])
values_of_net b q name true = by (q == b)
  where
    by : (t : Bool) → filter_map (λ (e : ℕ × Signal). if t then Some true else None) ((0, Bit q) ∷ [])
        ≡ (if t then true ∷ [] else [])
    by true = refl
    by false = refl
values_of_net b q name false = by (q == b)
  where
    by : (t : Bool) → filter_map (λ (e : ℕ × Signal). if t then Some false else None) ((0, Bit q) ∷ [])
        ≡ (if t then false ∷ [] else [])
    by true = refl
    by false = refl

-- ---- what starts are listed

-- a start has the initial value of its bit
value_of_start : (m : Module) (cell : CellDecl) (c : Class) (e : BitValue) → Has (starts_by c m cell) e
    → e.value ≡ initial_value m e.bit
value_of_start m cell (Gate kind) e (i, stands) = cc
value_of_start m cell Memory e (i, stands) = cc
value_of_start m cell Scope e (i, stands) = cc
value_of_start m cell Asynchronous e (i, stands) = cc
value_of_start m cell NotFine e (i, stands) = cc
value_of_start m cell Unknown e (i, stands) = cc
value_of_start m cell (Register kind) e has =
    let from = has_of_choice (λ s. option_map given (number_in s)) (pin_bits cell.pins (codes "Q")) e has in
    by_number (number_in from.0) from.2
  where
    given : ℕ → BitValue
    given b = record { bit = b; value = initial_value m b }

    by_number : (o : Option ℕ) → option_map given o ≡ Some e → e.value ≡ initial_value m e.bit
    by_number None is = cc
    by_number (Some b) is =
        let same : given b ≡ e = cc in
        sym (ap (λ (v : BitValue). v.value) same) ∙ ap (λ (v : BitValue). initial_value m v.bit) same

-- gates and registers have no read ports
no_starts_by : (cell : CellDecl) (c : Class) (kind : Class) → c ≡ kind → shape_by kind cell ≡ None
    → memory_read_starts (cell_of cell, shape_by c cell) ≡ []
no_starts_by cell c kind same none =
    ap (λ c. memory_read_starts (cell_of cell, shape_by c cell)) same
    ∙ ap (λ s. memory_read_starts (cell_of cell, s)) none

nothing : {A : Type 0} (xs : List A) (x : A) → xs ≡ [] → Has xs x → ⊥
nothing xs x empty has =
    let none = subst (λ ys. Has ys x) empty has in
    let never : None ≡ Some x = none.1 in
    cc

module _ (k : Circuit) (is : IsCircuit k) (cells : List CellDecl) (nets : List NetDecl)
    (ordered : IsInNameOrder (λ (c : CellDecl). c.name) (circuit_cells k) cells)
    (ordered_nets : IsInNameOrder (λ (n : NetDecl). n.name) (circuit_nets k) nets) where
  abbrev made : Module
  made = circuit_module k cells nets

  abbrev net : Net
  net = net_of made

  -- ---- initial values

  abbrev net_of_place : ℕ × RegisterPart → NetDecl
  net_of_place e = register_net k e.0 e.1

  module _ (n : ℕ) (r : RegisterPart) (stands : slice_get k.registers n ≡ Some r) where
    abbrev bit : ℕ
    bit = register_bit k n

    own_net : Has nets (register_net k n r)
    own_net =
        let place : 0 + n ≡ n = omega arith in
        has_permuted (circuit_nets k) nets (register_net k n r) ordered_nets.same
        (has_in_map net_of_place (enumerate_from 0 k.registers) (n, r)
        (has_numbered 0 k.registers n n r stands place))

    own_values : init_values_in bit (register_net k n r) ≡ r.start ∷ []
    own_values =
        values_of_net bit bit (register_net k n r).name r.start
        ∙ ap (λ t. if t then r.start ∷ [] else []) (eq-eqb bit bit refl)

    -- whatever net gives the bit a value gives it this one
    only_value : (v : Bool) → Has (init_values made bit) v → v ≡ r.start
    only_value v has =
        let from = has_of_chain (init_values_in bit) nets v has in
        let there = has_permuted nets (circuit_nets k) from.0
        (IsPermutation-sym (circuit_nets k) nets ordered_nets.same) from.1 in
        let named = has_of_map net_of_place (enumerate_from 0 k.registers) from.0 there in
        let at = numbered 0 k.registers named.0 named.1 in
        by_register named.0 at.0 (omega (arith, at.1)) at.2
        (subst (λ d. Has (init_values_in bit d) v) named.2 from.2)
      where
        by_register : (e : ℕ × RegisterPart) (m : ℕ) → e.0 ≡ m → slice_get k.registers m ≡ Some e.1
            → Has (init_values_in bit (net_of_place e)) v
            → v ≡ r.start
        by_register e m place at has =
            let values = values_of_net bit (register_bit k e.0) (net_of_place e).name e.1.start in
            by_test (register_bit k e.0 == bit) refl (subst (λ vs. Has vs v) values has)
          where
            by_test : (t : Bool) → (register_bit k e.0 == bit) ≡ t
                → Has (if t then e.1.start ∷ [] else []) v
                → v ≡ r.start
            by_test true passes (zero, here) =
                let number : register_bit k e.0 ≡ bit = eqb-true (register_bit k e.0) bit passes in
                let same : m ≡ n = omega (arith, number, place) in
                let both : Some e.1 ≡ Some r = sym at ∙ ap (slice_get k.registers) same ∙ stands in
                let part : e.1 ≡ r = cc in
                let value : e.1.start ≡ v = cc in
                sym value ∙ ap (λ (p : RegisterPart). p.start) part
            by_test true passes (suc i, here) = cc
            by_test false passes (i, here) = cc

    initial_value_is : initial_value made bit ≡ r.start
    initial_value_is =
        let own = subst (λ vs. Has vs r.start) (sym own_values) (zero, refl) in
        first_of_same (init_values made bit) r.start false
        (has_in_chain (init_values_in bit) nets (register_net k n r) r.start own_net own)
        (λ v has. only_value v has)

    -- ---- the list of starts

    abbrev starts_of : CellDecl → List BitValue
    starts_of cell = starts_by (class_at cell) made cell

    abbrev all_starts : List BitValue
    all_starts = flat_map starts_of (cells_of made)

    abbrev read_starts : List BitValue
    read_starts = flat_map memory_read_starts (zip net.cells net.shapes)

    abbrev own_start : BitValue
    own_start = record { bit = bit; value = initial_value made bit }

    no_read_start : (e : BitValue) → Has read_starts e → ⊥
    no_read_start e has =
        let from = has_of_chain memory_read_starts (zip net.cells net.shapes) e has in
        let there = subst (λ cs. Has cs from.0) (parts_of_made k is cells nets ordered) from.1 in
        let cell = has_of_map part_of cells from.0 there in
        by_kind cell.0 (kind_of_made k is cells nets ordered cell.0 cell.1)
        (subst (λ c. Has (memory_read_starts c) e) cell.2 from.2)
      where
        by_kind : (cell : CellDecl) → IsCellOf k cell → Has (memory_read_starts (part_of cell)) e → ⊥
        by_kind cell (of_gate p g stands same) has =
            let here = subst (λ c. Has (memory_read_starts (part_of c)) e) same has in
            nothing (memory_read_starts (part_of (gate_cell g))) e
            (no_starts_by (gate_cell g) (class_at (gate_cell g)) (Gate g.kind) (class_of_gate_cell g) refl)
            here
        by_kind cell (of_memory i m stands same) has =
            let here = subst (λ c. Has (memory_read_starts (part_of c)) e) same has in
            no_read_starts k.clock i m (memory_fits k is cells nets ordered i m stands) e here
        by_kind cell (of_register q name source stands same) has =
            let made_cell = register_cell k.clock name source (register_bit k q) in
            let here = subst (λ c. Has (memory_read_starts (part_of c)) e) same has in
            nothing (memory_read_starts (part_of made_cell)) e
            (no_starts_by made_cell (class_at made_cell) _
            (class_of_register_cell k.clock name source (register_bit k q)) refl) here

    has_own_start : Has all_starts own_start
    has_own_start =
        let cell = has_register_cell k n r.source (source_at k n r stands) in
        let made_cell = register_cell k.clock cell.name r.source bit in
        let there = has_cell k is cells nets ordered made_cell cell.has in
        let starts : starts_of made_cell ≡ own_start ∷ [] =
        ap (λ c. starts_by c made made_cell) (class_of_register_cell k.clock cell.name r.source bit) in
        has_in_chain starts_of (cells_of made) made_cell own_start
        (subst (λ cs. Has cs made_cell) (sym (cells_of_made k is cells nets ordered)) there)
        (subst (λ es. Has es own_start) (sym starts) (zero, refl))

    value_of_any : (e : BitValue) → Has (all_starts ++ read_starts) e → e.value ≡ initial_value made e.bit
    value_of_any e has = elim (has_either all_starts read_starts e has) [
      | inl here ↦ from (has_of_chain starts_of (cells_of made) e here)
      | inr here ↦ absurd (no_read_start e here)
    ]
      where
        from : (cell : CellDecl) × Has (cells_of made) cell × Has (starts_of cell) e
            → e.value ≡ initial_value made e.bit
        from (cell, there, has) = value_of_start made cell (class_at cell) e has

    pub start_is : (start_of net).bit bit ≡ r.start
    unfolding net_of
    start_is =
        ap (λ o. unwrap_or o false)
        (found_image (λ (e : BitValue). e.value) (λ (e : BitValue). e.bit == bit) (all_starts ++ read_starts)
        own_start (has_left all_starts read_starts own_start has_own_start) (eq-eqb bit bit refl)
        (λ e has passes. value_of_any e has ∙ ap (initial_value made) (eqb-true e.bit bit passes)))
        ∙ initial_value_is
