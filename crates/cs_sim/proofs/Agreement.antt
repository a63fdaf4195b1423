-- What is held is what the state says that it shows.
use Rattle.std.proofs.Common.{◌≡◌, ◌∙◌, ℕ, zero, suc, List, [], ◌∷◌, length, get_or, map, Bool, true, false, Some, sym, ap}
use Rattle.std.specs.Prelude.{slice_get}
use Rattle.std.proofs.lemmas.List.{length-map}
use Rattle.cs_cells.specs.declared.memory.MemShape.{MemShape}
use Rattle.cs_cells.specs.declared.memory.ReadShape.{ReadShape}
use Rattle.cs_cells.specs.declared.register.FfKind.{FfKind}
use Rattle.cs_net.specs.declared.netlist.Cell.{Cell}
use Rattle.cs_net.specs.Drivers.{read_data}
use Rattle.cs_net.specs.Invariant.{IsWellFormed}
use Rattle.cs_net.specs.Netlist.{Net, NetState, state_of}
use Rattle.cs_sim.specs.declared.layout.ReadPortSlots.{ReadPortSlots}
use Rattle.cs_sim.specs.Clock.{HeldValues}
use Rattle.cs_sim.specs.Layout.{driven_signals, layout_of, read_bit_of, read_port_slots}
use Rattle.cs_sim.specs.Start.{Fits, snapshot_of}
use Rattle.cs_sim.proofs.FitLemmas.{same_first}
use Rattle.cs_sim.proofs.HeldWords.{memory_place, words_held}
use Rattle.cs_sim.proofs.PlaceLemmas.{IsDriven, offset}
use Rattle.cs_sim.proofs.Pieces.{drives, pieces, ports_of, read_piece, register_piece, registers_of}
use Rattle.cs_sim.proofs.ShownBits.{port_at, read_shown, register_shown}

-- what is held is what the state says
pub record Agrees (net : Net) (held : HeldValues) (now : NetState) : Type 0 where
  pub registers : (b : ℕ) (d : IsDriven (drives net) (pieces net) b) (cell : Cell) (kind : FfKind) → d.row ≡ register_piece cell kind
      → get_or held.registers (offset (registers_of net) (pieces net) d.v) false ≡ now.bit b
  pub reads : (b : ℕ) (d : IsDriven (drives net) (pieces net) b) (m : ℕ) (cell : Cell) (shape : MemShape) (port : ℕ) (read : ReadShape)
      → d.row ≡ read_piece m cell shape port read → read.clocked ≡ true
      → get_or (get_or held.reads (offset (ports_of net) (pieces net) d.v) []) d.p false ≡ now.bit b
  pub counts : (v m : ℕ) (cell : Cell) (shape : MemShape) (port : ℕ) (read : ReadShape)
      → slice_get (pieces net) v ≡ Some (read_piece m cell shape port read) → read.clocked ≡ true
      → length (get_or held.reads (offset (ports_of net) (pieces net) v) []) ≡ length (read_data cell shape port)
  pub words : (v m : ℕ) (cell : Cell) (shape : MemShape) (port : ℕ) (read : ReadShape)
      → slice_get (pieces net) v ≡ Some (read_piece m cell shape port read)
      → get_or held.memories m [] ≡ now.words cell.name

-- as many bits are held for a port as it has
pub count_at : (ports : List ReadPortSlots) (reads : List (List Bool)) (q : ℕ) (port : ReadPortSlots)
    → map (λ bits. length bits) reads ≡ map (λ p. length p.bits) ports → slice_get ports q ≡ Some port → length (get_or reads q []) ≡ length port.bits
count_at [] reads q port fit at = absurd (cc)
count_at (p ∷ ports) [] q port fit at = absurd (cc)
count_at (p ∷ ports) (bits ∷ reads) zero port fit at =
    let counts = same_first (length bits) (length p.bits) (map (λ bits. length bits) reads) (map (λ p. length p.bits) ports) fit in
    let same : p ≡ port = cc in
    counts.0 ∙ ap (λ (x : ReadPortSlots). length x.bits) same
count_at (p ∷ ports) (bits ∷ reads) (suc q) port fit at =
    let counts = same_first (length bits) (length p.bits) (map (λ bits. length bits) reads) (map (λ p. length p.bits) ports) fit in
    count_at ports reads q port counts.1 at

pub read_length : (net : Net) (held : HeldValues) → Fits (layout_of net) held → (v m : ℕ) (cell : Cell) (shape : MemShape) (port : ℕ) (read : ReadShape)
    → slice_get (pieces net) v ≡ Some (read_piece m cell shape port read) → read.clocked ≡ true
    → length (get_or held.reads (offset (ports_of net) (pieces net) v) []) ≡ length (read_data cell shape port)
read_length net held fits v m cell shape port read at clocked =
    count_at (layout_of net).read_ports held.reads (offset (ports_of net) (pieces net) v) (read_port_slots (driven_signals net) m cell shape (port, read))
    fits.reads (port_at net v m cell shape port read at clocked)
    ∙ length-map (read_data cell shape port) (read_bit_of read)

pub agrees : (net : Net) → IsWellFormed net → (held : HeldValues) → Fits (layout_of net) held
    → Agrees net held (state_of (snapshot_of net (layout_of net) held))
agrees net w held fits = record {
  registers = λ b d cell kind is. sym (register_shown net w held fits b d cell kind is);
  reads = λ b d m cell shape port read is clocked. sym (read_shown net w held fits b d m cell shape port read is clocked);
  counts = read_length net held fits;
  words = λ v m cell shape port read at. words_held net w held fits m cell shape (memory_place net w v m cell shape port read at);
}
