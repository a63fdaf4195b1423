-- A layout has the parts, registers and ports of the netlist's pieces, in order.
use Rattle.std.proofs.Common.{◌≡◌, ℕ, suc, ◌+◌, List, [], ◌∷◌, ◌++◌, append-nil, length, length-append, Bool, true, false, cond, Option, Some, None, refl, sym, ap, subst, ◌∙◌, arith}
use Rattle.std.specs.Prelude.{fold, flat_map}
use Rattle.std.specs.List.{enumerate_from, zip}
use Rattle.std.proofs.lemmas.List.{length-map}
use Rattle.cs_cells.specs.declared.class.Class.{Class}
use Rattle.cs_cells.specs.declared.class.Class.TheVariants as class
use Rattle.cs_cells.specs.declared.gate.Kind.{Kind}
use Rattle.cs_cells.specs.declared.register.FfKind.{FfKind}
use Rattle.cs_cells.specs.declared.memory.MemShape.{MemShape}
use Rattle.cs_cells.specs.declared.memory.ReadShape.{ReadShape}
use Rattle.cs_net.specs.declared.netlist.Cell.{Cell}
use Rattle.cs_net.specs.Drivers.{data_inputs, read_data, read_driver}
use Rattle.cs_net.specs.Netlist.{Net}
use Rattle.cs_sim.specs.declared.layout.Layout.{Layout}
use Rattle.cs_sim.specs.declared.layout.Work.TheVariants.{Inputs}
use Rattle.cs_sim.specs.Layout.{driven_signals, layout_of, no_parts, with_cell, with_class, with_clocked_read, with_gate, with_memory, with_part, with_read, with_register, with_unclocked_read, with_writes}
use Rattle.cs_sim.proofs.Pieces.{Adds, Cells, Piece, adds_more, class_pieces, class_writes, drives, gate_piece, inputs_piece, memory_pieces, memory_writes, parts_from, pieces, pieces_from, ports_of, read_piece, read_pieces, register_piece, registers_of, work_of, writes_from}

-- one piece more
adds_one : (net : Net) (l l' : Layout) (p : Piece)
    → l'.parts ≡ l.parts ++ record { first = l.slots; work = work_of net (length l.registers) (length l.read_ports) p } ∷ []
    → l'.registers ≡ l.registers ++ registers_of net p → l'.read_ports ≡ l.read_ports ++ ports_of net p
    → l'.slots ≡ l.slots + length (drives net p) → l'.writes ≡ l.writes → Adds net l l' (p ∷ []) []
adds_one net l l' p parts registers ports slots writes = record {
  parts = parts;
  registers = registers ∙ ap (λ xs. l.registers ++ xs) (sym (append-nil (registers_of net p)));
  ports = ports ∙ ap (λ xs. l.read_ports ++ xs) (sym (append-nil (ports_of net p)));
  slots = slots ∙ ap (λ xs. l.slots + length xs) (sym (append-nil (drives net p)));
  writes = writes ∙ sym (append-nil l.writes);
}

-- nothing more
adds_none : (net : Net) (l : Layout) → Adds net l l [] []
adds_none net l = record {
  parts = sym (append-nil l.parts);
  registers = sym (append-nil l.registers);
  ports = sym (append-nil l.read_ports);
  slots = omega arith;
  writes = sym (append-nil l.writes);
}

adds_gate : (net : Net) (l : Layout) (cell : Cell) (kind : Kind)
    → Adds net l (with_gate (driven_signals net) l cell kind) (gate_piece cell kind ∷ []) []
adds_gate net l cell kind =
    adds_one net l (with_gate (driven_signals net) l cell kind) (gate_piece cell kind) refl (sym (append-nil l.registers)) (sym (append-nil l.read_ports)) refl refl

adds_register : (net : Net) (l : Layout) (cell : Cell) (kind : FfKind)
    → Adds net l (with_register (driven_signals net) net.starts l cell kind) (register_piece cell kind ∷ []) []
adds_register net l cell kind =
    adds_one net l (with_register (driven_signals net) net.starts l cell kind) (register_piece cell kind) refl refl (sym (append-nil l.read_ports)) refl refl

-- ---- memories

module _ (net : Net) (m : ℕ) (cell : Cell) (shape : MemShape) where
  width_of : (port : ℕ) (read : ReadShape) → length (read_data cell shape port) ≡ length (drives net (read_piece m cell shape port read))
  width_of port read = sym (length-map (read_data cell shape port) (λ e. (e.1, read_driver cell shape read port e.0)))

  abbrev with_it : Bool → Layout → ℕ → ReadShape → Layout
  with_it clocked l port read =
      cond clocked (with_clocked_read (driven_signals net) m cell shape l (port, read)) (with_unclocked_read (driven_signals net) m cell shape l port)

  adds_read : (l : Layout) (port : ℕ) (read : ReadShape)
      → Adds net l (with_read (driven_signals net) m cell shape l (port, read)) (read_piece m cell shape port read ∷ []) []
  adds_read l port read = by_clock read.clocked refl
    where
      by_clock : (clocked : Bool) → read.clocked ≡ clocked
          → Adds net l (with_it read.clocked l port read) (read_piece m cell shape port read ∷ []) []
      by_clock true is =
          let w = width_of port read in
          subst (λ b. Adds net l (with_it b l port read) (read_piece m cell shape port read ∷ []) []) (sym is)
          (adds_one net l (with_clocked_read (driven_signals net) m cell shape l (port, read)) (read_piece m cell shape port read)
          (rw is refl) (sym (append-nil l.registers)) (rw is refl) (ap (λ n. l.slots + n) w) refl)
      by_clock false is =
          let w = width_of port read in
          subst (λ b. Adds net l (with_it b l port read) (read_piece m cell shape port read ∷ []) []) (sym is)
          (adds_one net l (with_unclocked_read (driven_signals net) m cell shape l port) (read_piece m cell shape port read)
          (rw is refl) (sym (append-nil l.registers)) (rw is (sym (append-nil l.read_ports))) (ap (λ n. l.slots + n) w) refl)

  adds_reads : (l : Layout) (reads : List (ℕ × ReadShape))
      → Adds net l (fold (with_read (driven_signals net) m cell shape) l reads) (read_pieces m cell shape reads) []
  adds_reads l [] = adds_none net l
  adds_reads l (e ∷ reads) =
      adds_more net l (with_read (driven_signals net) m cell shape l e)
      (fold (with_read (driven_signals net) m cell shape) (with_read (driven_signals net) m cell shape l e) reads)
      (read_piece m cell shape e.0 e.1 ∷ []) (read_pieces m cell shape reads) [] []
      (adds_read l e.0 e.1) (adds_reads (with_read (driven_signals net) m cell shape l e) reads)

  adds_writes : (l : Layout) → Adds net l (with_writes (driven_signals net) cell shape l) [] (memory_writes net cell (Some shape))
  adds_writes l = record {
    parts = sym (append-nil l.parts);
    registers = sym (append-nil l.registers);
    ports = sym (append-nil l.read_ports);
    slots = omega arith;
    writes = refl;
  }

adds_memory : (net : Net) (l : Layout) (cell : Cell) (shape : Option MemShape)
    → Adds net l (with_memory (driven_signals net) l cell shape) (memory_pieces (length l.writes) cell shape) (memory_writes net cell shape)
adds_memory net l cell None = adds_none net l
adds_memory net l cell (Some shape) =
    let m = length l.writes in
    let l' = fold (with_read (driven_signals net) m cell shape) l (enumerate_from 0 shape.reads) in
    let P : List Piece → Type 0 = λ ps. Adds net l (with_memory (driven_signals net) l cell (Some shape)) ps (memory_writes net cell (Some shape)) in
    subst P (append-nil (memory_pieces m cell (Some shape)))
    (adds_more net l l' (with_writes (driven_signals net) cell shape l') (memory_pieces m cell (Some shape)) [] [] (memory_writes net cell (Some shape))
    (adds_reads net m cell shape l (enumerate_from 0 shape.reads)) (adds_writes net m cell shape l'))

-- ---- cells

adds_class : (net : Net) (l : Layout) (k : Class) (cell : Cell) (shape : Option MemShape)
    → Adds net l (with_class (driven_signals net) net.starts l k cell shape) (class_pieces k (length l.writes) cell shape) (class_writes net k cell shape)
adds_class net l (class.Gate kind) cell shape = adds_gate net l cell kind
adds_class net l (class.Register kind) cell shape = adds_register net l cell kind
adds_class net l class.Memory cell shape = adds_memory net l cell shape
adds_class net l class.Scope cell shape = adds_none net l
adds_class net l class.Asynchronous cell shape = adds_none net l
adds_class net l class.NotFine cell shape = adds_none net l
adds_class net l class.Unknown cell shape = adds_none net l

adds_cells : (net : Net) (l : Layout) (m : ℕ) (cells : Cells) → length l.writes ≡ m
    → Adds net l (fold (with_cell (driven_signals net) net.starts) l cells) (pieces_from net m cells) (writes_from net cells)
adds_cells net l m [] count = adds_none net l
adds_cells net l m (c ∷ cells) count =
    let l' = with_cell (driven_signals net) net.starts l c in
    let first = adds_class net l c.0.class c.0 c.1 in
    let P : ℕ → Type 0 = λ n. Adds net l l' (class_pieces c.0.class n c.0 c.1) (class_writes net c.0.class c.0 c.1) in
    let count' : length l'.writes ≡ m + length (class_writes net c.0.class c.0 c.1)
    = ap length first.writes ∙ length-append l.writes (class_writes net c.0.class c.0 c.1) ∙ ap (λ n. n + length (class_writes net c.0.class c.0 c.1)) count in
    adds_more net l l' (fold (with_cell (driven_signals net) net.starts) l' cells)
    (class_pieces c.0.class m c.0 c.1) (pieces_from net (m + length (class_writes net c.0.class c.0 c.1)) cells)
    (class_writes net c.0.class c.0 c.1) (writes_from net cells)
    (subst P count first) (adds_cells net l' (m + length (class_writes net c.0.class c.0 c.1)) cells count')

-- ---- the whole

pub length-enumerated : {A : Type 0} (i : ℕ) (xs : List A) → length (enumerate_from i xs) ≡ length xs
length-enumerated i [] = refl
length-enumerated i (x ∷ xs) = ap suc (length-enumerated (i + 1) xs)

pub record IsLaidOut (net : Net) (l : Layout) : Type 0 where
  pub parts : l.parts ≡ parts_from net 2 0 0 (pieces net)
  pub registers : l.registers ≡ flat_map (registers_of net) (pieces net)
  pub ports : l.read_ports ≡ flat_map (ports_of net) (pieces net)
  pub slots : l.slots ≡ 2 + length (flat_map (drives net) (pieces net))
  pub writes : l.writes ≡ writes_from net (zip net.cells net.shapes)

pub laid_out : (net : Net) → IsLaidOut net (layout_of net)
unfolding layout_of pieces
laid_out net =
    let l : Layout = with_part no_parts Inputs (length (data_inputs net)) in
    let inputs : length (data_inputs net) ≡ length (drives net inputs_piece)
    = sym (length-map (enumerate_from 0 (data_inputs net)) _ ∙ length-enumerated 0 (data_inputs net)) in
    let first = adds_one net no_parts l inputs_piece refl refl refl (ap (λ n. 2 + n) inputs) refl in
    let all = adds_more net no_parts l (fold (with_cell (driven_signals net) net.starts) l (zip net.cells net.shapes))
    (inputs_piece ∷ []) (pieces_from net 0 (zip net.cells net.shapes)) [] (writes_from net (zip net.cells net.shapes))
    first (adds_cells net l 0 (zip net.cells net.shapes) refl) in
    record { parts = all.parts; registers = all.registers; ports = all.ports; slots = all.slots; writes = all.writes }
