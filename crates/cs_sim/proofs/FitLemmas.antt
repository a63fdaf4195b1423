-- What is held fits its layout, at the start and clock after clock.
use Rattle.std.proofs.Common.{◌≡◌, ◌∙◌, ℕ, ◌+◌, List, [], ◌∷◌, length, length-append, map, Bool, Option, Some, None, refl, sym, ap, ap₂, arith}
use Rattle.std.specs.Prelude.{is_some}
use Rattle.std.specs.List.{AllByRecursion, enumerate_from, zip}
use Rattle.std.proofs.lemmas.List.{length-map}
use Rattle.cs_cells.specs.declared.class.Class.{Class}
use Rattle.cs_cells.specs.declared.class.Class.TheVariants as class
use Rattle.cs_cells.specs.declared.memory.MemShape.{MemShape}
use Rattle.cs_cells.specs.Memories.{Words}
use Rattle.cs_net.specs.declared.netlist.Cell.{Cell}
use Rattle.cs_modules.specs.Memories.{shapes_in}
use Rattle.cs_modules.specs.Modules.{is_memory}
use Rattle.cs_net.specs.Invariant.{IsWellFormed}
use Rattle.cs_net.specs.Netlist.{Net}
use Rattle.cs_net.proofs.MemoryFacts.{memory_count, shape_count, shapes_fit}
use Rattle.cs_net.proofs.Occurrences.{one_if}
use Rattle.cs_sim.specs.declared.layout.Layout.{Layout}
use Rattle.cs_sim.specs.declared.layout.ReadPortSlots.{ReadPortSlots}
use Rattle.cs_sim.specs.Clock.{HeldValues, next_held, next_read, next_read_bit, next_register, next_words, word_in}
use Rattle.cs_sim.specs.Layout.{layout_of}
use Rattle.cs_sim.specs.Start.{Fits, held_at_start}
use Rattle.cs_sim.proofs.LayoutLemmas.{laid_out, length-enumerated}
use Rattle.cs_sim.proofs.Pieces.{class_writes, writes_from}
use Rattle.cs_sim.proofs.ZipLemmas.{length_zipped}

-- ---- as many memories as lists of write ports

pub class_count : (net : Net) (k : Class) (cell : Cell) (shape : Option MemShape) → is_some shape ≡ is_memory k
    → length (class_writes net k cell shape) ≡ one_if (is_some shape)
class_count net (class.Gate kind) cell shape fits = ap one_if (sym fits)
class_count net (class.Register kind) cell shape fits = ap one_if (sym fits)
class_count net class.Memory cell None fits = refl
class_count net class.Memory cell (Some shape) fits = refl
class_count net class.Scope cell shape fits = ap one_if (sym fits)
class_count net class.Asynchronous cell shape fits = ap one_if (sym fits)
class_count net class.NotFine cell shape fits = ap one_if (sym fits)
class_count net class.Unknown cell shape fits = ap one_if (sym fits)

-- a cell has a shape exactly where it is a memory
abbrev pub HaveShapes : List (Cell × Option MemShape) → Type 0
HaveShapes cells = AllByRecursion (λ c. is_some c.1 ≡ is_memory c.0.class) cells

pub write_count_of : (net : Net) (cells : List Cell) (shapes : List (Option MemShape)) → length shapes ≡ length cells
    → HaveShapes (zip cells shapes) → length (writes_from net (zip cells shapes)) ≡ length (shapes_in shapes)
write_count_of net [] [] same fit = refl
write_count_of net [] (s ∷ shapes) same fit = absurd (omega (arith, same))
write_count_of net (c ∷ cells) [] same fit = absurd (omega (arith, same))
write_count_of net (c ∷ cells) (s ∷ shapes) same fit =
    length-append (class_writes net c.class c s) (writes_from net (zip cells shapes))
    ∙ ap₂ (λ a b. a + b) (class_count net c.class c s fit.0) (write_count_of net cells shapes (omega (arith, same)) fit.1)
    ∙ one_more s
  where
    one_more : (s : Option MemShape) → one_if (is_some s) + length (shapes_in shapes) ≡ length (shapes_in (s ∷ shapes))
    one_more None = omega arith
    one_more (Some shape) = omega arith

pub write_count : (net : Net) → IsWellFormed net → length (layout_of net).writes ≡ length net.memories
write_count net w =
    ap length (laid_out net).writes ∙ write_count_of net net.cells net.shapes (shape_count net w) (shapes_fit net w) ∙ sym (memory_count net w)

-- ---- at the start

start_counts : (ports : List ReadPortSlots) → map (λ bits. length bits) (map (λ p. map (λ b. b.start) p.bits) ports) ≡ map (λ p. length p.bits) ports
start_counts [] = refl
start_counts (p ∷ ports) = ap₂ (λ n rest. n ∷ rest) (length-map p.bits (λ b. b.start)) (start_counts ports)

pub fits_at_start : (net : Net) → IsWellFormed net → Fits (layout_of net) (held_at_start net (layout_of net))
fits_at_start net w = record {
  registers = length-map (layout_of net).registers (λ r. r.start);
  reads = start_counts (layout_of net).read_ports;
  memories = length-map net.memories (λ m. m.words) ∙ sym (write_count net w);
}

-- ---- clock after clock

pub same_first : (m n : ℕ) (ms ns : List ℕ) → m ∷ ms ≡ n ∷ ns → (m ≡ n) × (ms ≡ ns)
same_first m n ms ns h = (cc, cc)

read_count : (memories : List Words) (values : List Bool) (port : ReadPortSlots) (bits : List Bool) → length bits ≡ length port.bits
    → length (next_read memories values (port, bits)) ≡ length port.bits
read_count memories values port bits fit =
    length-map (enumerate_from 0 (zip port.bits bits)) (next_read_bit values port (word_in memories port.memory values port.address))
    ∙ length-enumerated 0 (zip port.bits bits) ∙ length_zipped port.bits bits (sym fit)

read_counts : (memories : List Words) (values : List Bool) (ports : List ReadPortSlots) (reads : List (List Bool))
    → map (λ bits. length bits) reads ≡ map (λ p. length p.bits) ports
    → map (λ bits. length bits) (map (next_read memories values) (zip ports reads)) ≡ map (λ p. length p.bits) ports
read_counts memories values [] reads fit = refl
read_counts memories values (p ∷ ports) [] fit = absurd (cc)
read_counts memories values (p ∷ ports) (bits ∷ reads) fit =
    let same = same_first (length bits) (length p.bits) (map (λ bits. length bits) reads) (map (λ p. length p.bits) ports) fit in
    ap₂ (λ n rest. n ∷ rest) (read_count memories values p bits same.0) (read_counts memories values ports reads same.1)

pub fits_next : (layout : Layout) (values : List Bool) (held : HeldValues) → Fits layout held → Fits layout (next_held layout values held)
unfolding next_held
fits_next layout values held fits = record {
  registers = length-map (zip layout.registers held.registers) (next_register values) ∙ length_zipped layout.registers held.registers (sym fits.registers);
  reads = read_counts held.memories values layout.read_ports held.reads fits.reads;
  memories =
      length-map (zip held.memories layout.writes) (next_words values) ∙ length_zipped held.memories layout.writes fits.memories ∙ fits.memories;
}
