-- What the cell of a memory is in a netlist: its shape, its ports, what it drives, its words and its writes.
use Rattle.std.proofs.Common.{◌≡◌, ℕ, ◌+◌, ◌<◌, List, [], ◌∷◌, map, length, Bool, false, Option, Some, if◌then◌else◌, flat_map, slice_get, refl, sym, ap, ap₂, subst, ◌∙◌, codes, arith}
use Rattle.std.specs.List.{AllByRecursion, enumerate_from}
use Rattle.cs_base.specs.declared.signal.Signal.{Signal}
use Rattle.cs_base.specs.declared.signal.Signal.TheVariants.{Bit}
use Rattle.cs_json.specs.declared.document.CellDecl.{CellDecl}
use Rattle.cs_cells.specs.declared.class.Class.TheVariants.{Memory}
use Rattle.cs_cells.specs.declared.memory.MemShape.{MemShape}
use Rattle.cs_cells.specs.declared.memory.ReadShape.{ReadShape}
use Rattle.cs_cells.specs.Classes.{class_of}
use Rattle.cs_modules.specs.declared.clocks.Clock.{Clock}
use Rattle.cs_modules.specs.Memories.{memory_shape, read_shape, shape_by, shape_of}
use Rattle.cs_modules.specs.Pins.{class_at, count_from, number_at}
use Rattle.cs_net.specs.Build.{cell_of}
use Rattle.cs_net.specs.Drivers.{DrivenSignal, Driver, cell_drives, class_drives, port_part, read_driver, read_drives, read_element, register, word_bit}
use Rattle.cs_net.proofs.Members.{Has, has_of_chain, has_of_map, numbered, within_has}
use Rattle.cs_circuit.specs.declared.circuit.MemoryPart.{MemoryPart}
use Rattle.cs_circuit.specs.declared.circuit.ReadPart.{ReadPart}
use Rattle.cs_circuit.specs.MemoryCells.{memory_cell, memory_name, read_data}
use Rattle.cs_circuit.specs.WellFormed.{IsMemoryPart, IsReadPart}
use Rattle.cs_circuit.proofs.NetDigits.{number_read, zero_read}
use Rattle.cs_circuit.proofs.NetLists.{at_mapped, counted, counted_at, joined_part, length_counted, length_mapped, mapped_at}

-- ---- lists

pub all_step : {A : Type 0} (P Q : A → Type 0) → ((x : A) → P x → Q x) → (xs : List A) → AllByRecursion P xs
    → AllByRecursion Q xs
all_step P Q step [] all = tt
all_step P Q step (x ∷ xs) all = (step x all.0, all_step P Q step xs all.1)

pub all_alike : {A : Type 0} (P : A → Type 0) → ((x : A) → P x) → (xs : List A) → AllByRecursion P xs
all_alike P each [] = tt
all_alike P each (x ∷ xs) = (each x, all_alike P each xs)

pub same_images : {A B : Type 0} (f g : A → B) → ((x : A) → f x ≡ g x) → (xs : List A) → map f xs ≡ map g xs
same_images f g same [] = refl
same_images f g same (x ∷ xs) = ap₂ (λ y ys. y ∷ ys) (same x) (same_images f g same xs)

-- ---- what a memory's cell drives

-- bit o of what a read port of memory i drives
abbrev pub read_driven : ℕ → ReadPart → ℕ → DrivenSignal
read_driven i read o =
    (Bit (read.first + o), word_bit (record { memory = memory_name i; address = read.address; place = o }))

-- a bit of what some read port of memory i drives
pub record IsReadDriven (i : ℕ) (m : MemoryPart) (d : DrivenSignal) : Type 0 where
  pub port : ℕ
  pub place : ℕ
  pub read : ReadPart
  pub stands : slice_get m.reads port ≡ Some read
  pub among : place < m.width
  pub is : d ≡ read_driven i read place

class_of_memory : class_of (codes "$mem_v2") ≡ Memory
unfolding class_of
class_of_memory = refl

module _ (clock : Option Clock) (i : ℕ) (m : MemoryPart) (fits : IsMemoryPart clock m) where
  abbrev pub decl : CellDecl
  decl = memory_cell clock i m

  abbrev shape : MemShape
  shape = memory_shape decl

  -- ---- its class and shape

  pub class_of_memory_cell : class_at decl ≡ Memory
  class_of_memory_cell = class_of_memory

  pub shape_of_memory_cell : shape_of decl ≡ Some shape
  shape_of_memory_cell = ap (λ c. shape_by c decl) class_of_memory

  pub words_read : shape.size ≡ m.words
  words_read = number_read m.words fits.few_words

  pub abits_read : shape.abits ≡ m.abits
  abits_read = number_read m.abits fits.few_address_bits

  pub width_read : shape.width ≡ m.width
  width_read = number_read m.width fits.few_bits

  pub reads_read : number_at decl (codes "RD_PORTS") ≡ length m.reads
  reads_read = number_read (length m.reads) fits.few_reads

  pub writes_read : shape.writes ≡ length m.writes
  writes_read = number_read (length m.writes) fits.few_writes

  -- a read port of the shape is one of the memory's, and is not clocked
  pub read_is : (j : ℕ) (read : ReadShape) → slice_get shape.reads j ≡ Some read
      → (j < length m.reads) × (read.clocked ≡ false)
  read_is j read stands =
      let port = at_mapped (read_shape decl shape.width) (count_from 0 (number_at decl (codes "RD_PORTS")))
      j read stands in
      let place = counted 0 (number_at decl (codes "RD_PORTS")) j port.0 port.1 in
      let count = reads_read in (
        omega (arith, place.0, count),
        ap (λ (r : ReadShape). r.clocked) port.2 ∙ zero_read (length m.reads) port.0,
      )

  pub read_there : (j : ℕ) → j < length m.reads
      → slice_get shape.reads j ≡ Some (read_shape decl shape.width j)
  read_there j below =
      let count = reads_read in
      let stands = counted_at 0 (number_at decl (codes "RD_PORTS")) j (omega (arith, count, below)) in
      let place : 0 + j ≡ j = omega arith in
      mapped_at (read_shape decl shape.width) (count_from 0 (number_at decl (codes "RD_PORTS"))) j j
      (stands ∙ ap (λ n. Some n) place)

  -- ---- its ports

  pub data_part : (j : ℕ) (read : ReadPart) → slice_get m.reads j ≡ Some read
      → port_part (cell_of decl) (codes "RD_DATA") shape.width j ≡ read_data m.width read
  data_part j read stands =
      ap (λ width. port_part (cell_of decl) (codes "RD_DATA") width j) width_read
      ∙ joined_part (read_data m.width) m.width m.reads
      (all_alike (λ (r : ReadPart). length (read_data m.width r) ≡ m.width) (λ r. wide r) m.reads)
      j read stands
    where
      wide : (r : ReadPart) → length (read_data m.width r) ≡ m.width
      wide r = length_mapped (λ o. Bit (r.first + o)) (count_from 0 m.width) ∙ length_counted 0 m.width

  pub address_part : (j : ℕ) (read : ReadPart) → slice_get m.reads j ≡ Some read
      → port_part (cell_of decl) (codes "RD_ADDR") shape.abits j ≡ read.address
  address_part j read stands =
      ap (λ width. port_part (cell_of decl) (codes "RD_ADDR") width j) abits_read
      ∙ joined_part (λ (r : ReadPart). r.address) m.abits m.reads
      (all_step (IsReadPart clock m.abits) (λ (r : ReadPart). length r.address ≡ m.abits) (λ r is. is.address)
      m.reads fits.reads) j read stands

  -- ---- what it drives

  data_bit : (read : ReadPart) (o : ℕ) (s : Signal) → slice_get (read_data m.width read) o ≡ Some s
      → (o < m.width) × (s ≡ Bit (read.first + o))
  data_bit read o s stands =
      let bit = at_mapped (λ n. Bit (read.first + n)) (count_from 0 m.width) o s stands in
      let place = counted 0 m.width o bit.0 bit.1 in
      let same : bit.0 ≡ o = omega (arith, place.1) in
      (place.0, bit.2 ∙ ap (λ n. Bit (read.first + n)) same)

  pub driver_read : (j o : ℕ) (read : ReadPart) (r : ReadShape) → slice_get m.reads j ≡ Some read
      → r.clocked ≡ false
      → read_driver (cell_of decl) shape r j o
      ≡ word_bit (record { memory = memory_name i; address = read.address; place = o })
  driver_read j o read r stands unclocked =
      ap (λ t. choice t) unclocked
      ∙ ap (λ address. word_bit (record { memory = memory_name i; address = address; place = o }))
      (address_part j read stands)
    where
      choice : Bool → Driver
      choice t =
          if t then register (read_element (cell_of decl) shape r j o)
          else word_bit (record {
            memory = memory_name i;
            address = port_part (cell_of decl) (codes "RD_ADDR") shape.abits j;
            place = o;
          })

  pub memory_cell_drives : cell_drives (cell_of decl, shape_of decl)
      ≡ flat_map (read_drives (cell_of decl) shape) (enumerate_from 0 shape.reads)
  memory_cell_drives =
      ap (λ c. class_drives c (cell_of decl) (shape_by c decl)) class_of_memory

  -- each thing that it drives is a bit of a read port
  pub memory_bit : (d : DrivenSignal) → Has (cell_drives (cell_of decl, shape_of decl)) d → IsReadDriven i m d
  memory_bit d has =
      let there = subst (λ ds. Has ds d) memory_cell_drives has in
      let port = has_of_chain (read_drives (cell_of decl) shape) (enumerate_from 0 shape.reads) d there in
      let at = numbered 0 shape.reads port.0 port.1 in
      by_port port.0 at.0 (omega (arith, at.1)) at.2 port.2
    where
      by_bit : (j : ℕ) (r : ReadShape) (read : ReadPart) → slice_get m.reads j ≡ Some read → r.clocked ≡ false
          → (e : ℕ × Signal) → (o : ℕ) → e.0 ≡ o
          → slice_get (port_part (cell_of decl) (codes "RD_DATA") shape.width j) o ≡ Some e.1
          → d ≡ (e.1, read_driver (cell_of decl) shape r j e.0)
          → IsReadDriven i m d
      by_bit j r read stands unclocked e o place bit is =
          let found = data_bit read o e.1
          (ap (λ bits. slice_get bits o) (sym (data_part j read stands)) ∙ bit) in
          record {
            port = j;
            place = o;
            read = read;
            stands = stands;
            among = found.0;
            is = is
                ∙ ap₂ (λ s n. (s, read_driver (cell_of decl) shape r j n)) found.1 place
                ∙ ap (λ driver. (Bit (read.first + o), driver)) (driver_read j o read r stands unclocked);
          }

      by_port : (p : ℕ × ReadShape) (j : ℕ) → p.0 ≡ j → slice_get shape.reads j ≡ Some p.1
          → Has (read_drives (cell_of decl) shape p) d
          → IsReadDriven i m d
      by_port p j place stands has =
          let shape_is = read_is j p.1 stands in
          let read = within_has m.reads j shape_is.0 in
          let here = subst (λ n. Has (read_drives (cell_of decl) shape (n, p.1)) d) place has in
          let bits = port_part (cell_of decl) (codes "RD_DATA") shape.width j in
          let bit = has_of_map
          (λ (e : ℕ × Signal). let s : DrivenSignal = (e.1, read_driver (cell_of decl) shape p.1 j e.0) in s)
          (enumerate_from 0 bits) d here in
          let at = numbered 0 bits bit.0 bit.1 in
          by_bit j p.1 read.0 read.1 shape_is.1 bit.0 at.0 (omega (arith, at.1)) at.2 bit.2
