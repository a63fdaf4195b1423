-- A netlist piece by piece: what drives some of its bits together, and how it is laid out.
use Rattle.std.proofs.Common.{◌≡◌, ℕ, ◌+◌, List, [], ◌∷◌, ◌++◌, append_assoc, length, length-append, map, Option, Some, None, refl, sym, ap, ◌∙◌, arith, codes}
use Rattle.std.specs.Prelude.{flat_map, if◌then◌else◌}
use Rattle.std.specs.List.{enumerate_from, zip}
use Rattle.cs_base.specs.declared.signal.Signal.{Signal}
use Rattle.cs_cells.specs.declared.class.Class.{Class}
use Rattle.cs_cells.specs.declared.class.Class.TheVariants as class
use Rattle.cs_cells.specs.declared.gate.Kind.{Kind}
use Rattle.cs_cells.specs.declared.register.FfKind.{FfKind}
use Rattle.cs_cells.specs.declared.memory.MemShape.{MemShape}
use Rattle.cs_cells.specs.declared.memory.ReadShape.{ReadShape}
use Rattle.cs_cells.specs.Gates.{pin_count, pin_name}
use Rattle.cs_net.specs.declared.netlist.Cell.{Cell}
use Rattle.cs_net.specs.Drivers.{DrivenSignal, input, data_inputs, gate_drives, register_drives, read_drives, read_data, port_part, signal_of}
use Rattle.cs_net.specs.Netlist.{Net}
use Rattle.cs_modules.specs.Pins.{count_from}
use Rattle.cs_sim.specs.declared.layout.Layout.{Layout}
use Rattle.cs_sim.specs.declared.layout.Part.{Part}
use Rattle.cs_sim.specs.declared.layout.ReadPortSlots.{ReadPortSlots}
use Rattle.cs_sim.specs.declared.layout.RegisterSlots.{RegisterSlots}
use Rattle.cs_sim.specs.declared.layout.Work.{Work}
use Rattle.cs_sim.specs.declared.layout.Work.TheVariants.{Inputs, Register, ClockedRead, Gate, Read}
use Rattle.cs_sim.specs.declared.layout.WriteSlots.{WriteSlots}
use Rattle.cs_sim.specs.Layout.{address_slots, driven_signals, read_port_slots, register_slots, write_slots}
use Rattle.cs_sim.specs.Slots.{slot_of}

pub data Piece : Type 0 where
  -- the data inputs
  inputs_piece : Piece
  gate_piece : Cell → Kind → Piece
  register_piece : Cell → FfKind → Piece
  -- a read port, by its number, of the memory at a place
  read_piece : ℕ → Cell → MemShape → ℕ → ReadShape → Piece

-- what a piece drives
abbrev pub drives : Net → Piece → List DrivenSignal
drives net inputs_piece = map (λ e. (e.1, input e.0)) (enumerate_from 0 (data_inputs net))
drives net (gate_piece cell kind) = gate_drives cell kind
drives net (register_piece cell kind) = register_drives cell kind
drives net (read_piece m cell shape port read) = read_drives cell shape (port, read)

-- what it depends on within a clock
abbrev pub inputs_of : Piece → List Signal
inputs_of inputs_piece = []
inputs_of (gate_piece cell kind) = map (λ i. signal_of cell (pin_name kind i)) (count_from 0 (pin_count kind))
inputs_of (register_piece cell kind) = []
inputs_of (read_piece m cell shape port read) =
    if read.clocked then [] else port_part cell (codes "RD_ADDR") shape.abits port

-- how its values come about, behind so many registers and clocked ports
abbrev pub work_of : Net → ℕ → ℕ → Piece → Work
work_of net registers ports inputs_piece = Inputs
work_of net registers ports (gate_piece cell kind) =
    Gate kind (map (λ i. slot_of (driven_signals net) (signal_of cell (pin_name kind i))) (count_from 0 (pin_count kind)))
work_of net registers ports (register_piece cell kind) = Register registers
work_of net registers ports (read_piece m cell shape port read) =
    if read.clocked then ClockedRead ports
    else Read m (address_slots (driven_signals net) cell shape port) (length (read_data cell shape port))

-- the register that it is
abbrev pub registers_of : Net → Piece → List RegisterSlots
registers_of net inputs_piece = []
registers_of net (gate_piece cell kind) = []
registers_of net (register_piece cell kind) = register_slots (driven_signals net) net.starts cell kind ∷ []
registers_of net (read_piece m cell shape port read) = []

-- the clocked port that it is
abbrev pub ports_of : Net → Piece → List ReadPortSlots
ports_of net inputs_piece = []
ports_of net (gate_piece cell kind) = []
ports_of net (register_piece cell kind) = []
ports_of net (read_piece m cell shape port read) =
    if read.clocked then read_port_slots (driven_signals net) m cell shape (port, read) ∷ [] else []

-- the parts of pieces, from a slot on, behind so many registers and clocked ports
abbrev pub parts_from : Net → ℕ → ℕ → ℕ → List Piece → List Part
parts_from net first registers ports [] = []
parts_from net first registers ports (p ∷ ps) =
    record { first = first; work = work_of net registers ports p }
    ∷ parts_from net (first + length (drives net p)) (registers + length (registers_of net p)) (ports + length (ports_of net p)) ps

parts_joined : (net : Net) (first registers ports : ℕ) (ps qs : List Piece)
    → parts_from net first registers ports (ps ++ qs)
    ≡ parts_from net first registers ports ps
    ++ parts_from net (first + length (flat_map (drives net) ps)) (registers + length (flat_map (registers_of net) ps)) (ports + length (flat_map (ports_of net) ps)) qs
parts_joined net first registers ports [] qs =
    let f : first ≡ first + 0 = omega arith in
    let r : registers ≡ registers + 0 = omega arith in
    let q : ports ≡ ports + 0 = omega arith in
    ap (λ n. parts_from net n registers ports qs) f
    ∙ ap (λ n. parts_from net (first + 0) n ports qs) r
    ∙ ap (λ n. parts_from net (first + 0) (registers + 0) n qs) q
parts_joined net first registers ports (p ∷ ps) qs =
    let rest = parts_joined net (first + length (drives net p)) (registers + length (registers_of net p)) (ports + length (ports_of net p)) ps qs in
    let f : (first + length (drives net p)) + length (flat_map (drives net) ps) ≡ first + length (drives net p ++ flat_map (drives net) ps)
    = omega (arith, length-append (drives net p) (flat_map (drives net) ps)) in
    let r : (registers + length (registers_of net p)) + length (flat_map (registers_of net) ps) ≡ registers + length (registers_of net p ++ flat_map (registers_of net) ps)
    = omega (arith, length-append (registers_of net p) (flat_map (registers_of net) ps)) in
    let q : (ports + length (ports_of net p)) + length (flat_map (ports_of net) ps) ≡ ports + length (ports_of net p ++ flat_map (ports_of net) ps)
    = omega (arith, length-append (ports_of net p) (flat_map (ports_of net) ps)) in
    let here : Part = record { first = first; work = work_of net registers ports p } in
    let front = parts_from net (first + length (drives net p)) (registers + length (registers_of net p)) (ports + length (ports_of net p)) ps in
    ap (λ xs. here ∷ xs) rest
    ∙ ap (λ n. here ∷ (front ++ parts_from net n ((registers + length (registers_of net p)) + length (flat_map (registers_of net) ps)) ((ports + length (ports_of net p)) + length (flat_map (ports_of net) ps)) qs)) f
    ∙ ap (λ n. here ∷ (front ++ parts_from net (first + length (drives net p ++ flat_map (drives net) ps)) n ((ports + length (ports_of net p)) + length (flat_map (ports_of net) ps)) qs)) r
    ∙ ap (λ n. here ∷ (front ++ parts_from net (first + length (drives net p ++ flat_map (drives net) ps)) (registers + length (registers_of net p ++ flat_map (registers_of net) ps)) n qs)) q

-- ---- a layout that grows by pieces

pub record Adds (net : Net) (l l' : Layout) (ps : List Piece) (ws : List (List WriteSlots)) : Type 0 where
  pub parts : l'.parts ≡ l.parts ++ parts_from net l.slots (length l.registers) (length l.read_ports) ps
  pub registers : l'.registers ≡ l.registers ++ flat_map (registers_of net) ps
  pub ports : l'.read_ports ≡ l.read_ports ++ flat_map (ports_of net) ps
  pub slots : l'.slots ≡ l.slots + length (flat_map (drives net) ps)
  pub writes : l'.writes ≡ l.writes ++ ws

chained : {A B : Type 0} (f : A → List B) (xs ys : List A) → flat_map f (xs ++ ys) ≡ flat_map f xs ++ flat_map f ys
chained f [] ys = refl
chained f (x ∷ xs) ys = ap (λ rest. f x ++ rest) (chained f xs ys) ∙ sym (append_assoc (f x) (flat_map f xs) (flat_map f ys))

joined : {A : Type 0} (a b c x y xy : List A) → b ≡ a ++ x → c ≡ b ++ y → xy ≡ x ++ y → c ≡ a ++ xy
joined a b c x y xy first second both =
    second ∙ ap (λ l. l ++ y) first ∙ append_assoc a x y ∙ ap (λ l. a ++ l) (sym both)

pub adds_more : (net : Net) (l l' l'' : Layout) (ps qs : List Piece) (ws us : List (List WriteSlots))
    → Adds net l l' ps ws → Adds net l' l'' qs us → Adds net l l'' (ps ++ qs) (ws ++ us)
adds_more net l l' l'' ps qs ws us a b =
    let regs : length l'.registers ≡ length l.registers + length (flat_map (registers_of net) ps)
    = ap length a.registers ∙ length-append l.registers (flat_map (registers_of net) ps) in
    let ports : length l'.read_ports ≡ length l.read_ports + length (flat_map (ports_of net) ps)
    = ap length a.ports ∙ length-append l.read_ports (flat_map (ports_of net) ps) in
    let moved : parts_from net l'.slots (length l'.registers) (length l'.read_ports) qs
    ≡ parts_from net (l.slots + length (flat_map (drives net) ps)) (length l.registers + length (flat_map (registers_of net) ps)) (length l.read_ports + length (flat_map (ports_of net) ps)) qs
    = ap (λ n. parts_from net n (length l'.registers) (length l'.read_ports) qs) a.slots
    ∙ ap (λ n. parts_from net (l.slots + length (flat_map (drives net) ps)) n (length l'.read_ports) qs) regs
    ∙ ap (λ n. parts_from net (l.slots + length (flat_map (drives net) ps)) (length l.registers + length (flat_map (registers_of net) ps)) n qs) ports in
    let count = length-append (flat_map (drives net) ps) (flat_map (drives net) qs) in
    let both = ap length (chained (drives net) ps qs) in
    record {
      parts =
          joined l.parts l'.parts l''.parts (parts_from net l.slots (length l.registers) (length l.read_ports) ps) _
          (parts_from net l.slots (length l.registers) (length l.read_ports) (ps ++ qs))
          a.parts (b.parts ∙ ap (λ xs. l'.parts ++ xs) moved) (parts_joined net l.slots (length l.registers) (length l.read_ports) ps qs);
      registers = joined l.registers l'.registers l''.registers _ _ _ a.registers b.registers (chained (registers_of net) ps qs);
      ports = joined l.read_ports l'.read_ports l''.read_ports _ _ _ a.ports b.ports (chained (ports_of net) ps qs);
      slots = omega (arith, a.slots, b.slots, count, both);
      writes = joined l.writes l'.writes l''.writes ws us (ws ++ us) a.writes b.writes refl;
    }

-- ---- the pieces of a cell

abbrev pub read_pieces : ℕ → Cell → MemShape → List (ℕ × ReadShape) → List Piece
read_pieces m cell shape reads = map (λ e. read_piece m cell shape e.0 e.1) reads

abbrev pub memory_pieces : ℕ → Cell → Option MemShape → List Piece
memory_pieces m cell None = []
memory_pieces m cell (Some shape) = read_pieces m cell shape (enumerate_from 0 shape.reads)

abbrev pub class_pieces : Class → ℕ → Cell → Option MemShape → List Piece
class_pieces (class.Gate kind) m cell shape = gate_piece cell kind ∷ []
class_pieces (class.Register kind) m cell shape = register_piece cell kind ∷ []
class_pieces class.Memory m cell shape = memory_pieces m cell shape
class_pieces class.Scope m cell shape = []
class_pieces class.Asynchronous m cell shape = []
class_pieces class.NotFine m cell shape = []
class_pieces class.Unknown m cell shape = []

-- the write ports of a memory
abbrev pub memory_writes : Net → Cell → Option MemShape → List (List WriteSlots)
memory_writes net cell None = []
memory_writes net cell (Some shape) = map (write_slots (driven_signals net) cell shape) (count_from 0 shape.writes) ∷ []

abbrev pub class_writes : Net → Class → Cell → Option MemShape → List (List WriteSlots)
class_writes net (class.Gate kind) cell shape = []
class_writes net (class.Register kind) cell shape = []
class_writes net class.Memory cell shape = memory_writes net cell shape
class_writes net class.Scope cell shape = []
class_writes net class.Asynchronous cell shape = []
class_writes net class.NotFine cell shape = []
class_writes net class.Unknown cell shape = []

abbrev pub Cells : Type 0
Cells = List (Cell × Option MemShape)

-- the pieces of cells, behind so many memories
abbrev pub pieces_from : Net → ℕ → Cells → List Piece
pieces_from net m [] = []
pieces_from net m (c ∷ cs) =
    class_pieces c.0.class m c.0 c.1 ++ pieces_from net (m + length (class_writes net c.0.class c.0 c.1)) cs

abbrev pub writes_from : Net → Cells → List (List WriteSlots)
writes_from net [] = []
writes_from net (c ∷ cs) = class_writes net c.0.class c.0 c.1 ++ writes_from net cs

-- all pieces of a netlist
unfoldable pub pieces : Net → List Piece
pieces net = inputs_piece ∷ pieces_from net 0 (zip net.cells net.shapes)
