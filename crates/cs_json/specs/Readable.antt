-- Which documents are read again from their printed text: those that are a document of some bytes.
use Rattle.std.specs.Prelude.{ℕ, List, [], ◌∷◌, Bool, true, false, not, IsTrue}
use Rattle.std.specs.List.{AllByRecursion}
use Rattle.std.specs.Ordering.{nat_cmp, is_lt}
use Rattle.std.specs.Cmp.Lexicographic.{slice_cmp}
use Rattle.cs_base.specs.declared.signal.Signal.{Signal}
use Rattle.cs_base.specs.declared.signal.Signal.TheVariants.{Zero, One, Unknown, HighZ, Bit}
use Rattle.cs_json.specs.declared.document.Document.{Document}
use Rattle.cs_json.specs.declared.document.Module.{Module}
use Rattle.cs_json.specs.declared.document.PortDecl.{PortDecl}
use Rattle.cs_json.specs.declared.document.CellDecl.{CellDecl}
use Rattle.cs_json.specs.declared.document.NetDecl.{NetDecl}
use Rattle.cs_json.specs.declared.document.Entry.{Entry}
use Rattle.cs_json.specs.declared.document.Datum.{Datum}
use Rattle.cs_json.specs.declared.document.Datum.TheVariants.{Digits, Number}
use Rattle.cs_json.specs.declared.document.Direction.{Direction}
use Rattle.cs_json.specs.declared.document.Direction.TheVariants.{Input, Output, Inout}
use Rattle.cs_json.specs.Shape.{is_bit_number, is_kept_number}

-- a text is before another in byte order
abbrev pub is_below : List ℕ → List ℕ → Bool
is_below a b = is_lt (slice_cmp nat_cmp a b)

-- names are in byte order, none twice
abbrev pub AreInOrder : {A : Type 0} → (A → List ℕ) → List A → Type 0
AreInOrder name [] = Unit {0}
AreInOrder name (x ∷ xs) =
    AllByRecursion (λ y. IsTrue (is_below (name x) (name y))) xs × AreInOrder name xs

-- a bit has a number from 2 to 2^32 - 2; where only bits may stand, a constant may not
abbrev pub is_readable_signal : Bool → Signal → Bool
is_readable_signal only_bits Zero = not only_bits
is_readable_signal only_bits One = not only_bits
is_readable_signal only_bits Unknown = not only_bits
is_readable_signal only_bits HighZ = not only_bits
is_readable_signal only_bits (Bit b) = is_bit_number b

-- each signal of a bit list is readable
abbrev pub AreReadable : Bool → List Signal → Type 0
AreReadable only_bits bits = AllByRecursion (λ s. IsTrue (is_readable_signal only_bits s)) bits

-- a number is from -2^31 to 2^64 - 1
abbrev pub is_readable_datum : Datum → Bool
is_readable_datum (Digits s) = true
is_readable_datum (Number z) = is_kept_number z

-- attributes or parameters in order, their numbers in range
pub record AreEntries (entries : List Entry) : Type 0 where
  pub order : AreInOrder (λ e. e.name) entries
  pub data_kept : AllByRecursion (λ e. IsTrue (is_readable_datum e.datum)) entries

-- it is the direction of an input port
abbrev pub is_input : Direction → Bool
is_input Input = true
is_input Output = false
is_input Inout = false

-- an input port holds bits alone
abbrev pub IsPort : PortDecl → Type 0
IsPort p = AreReadable (is_input p.direction) p.bits

-- a netname that is read again
pub record IsNet (n : NetDecl) : Type 0 where
  pub attributes : AreEntries n.attributes
  pub bits : AreReadable false n.bits

-- a cell that is read again
pub record IsCell (c : CellDecl) : Type 0 where
  pub attributes : AreEntries c.attributes
  pub parameters : AreEntries c.parameters
  pub pins : AllByRecursion (λ p. AreReadable false p.bits) c.pins
  pub order : AreInOrder (λ p. p.name) c.pins

-- a module that is read again
pub record IsModule (m : Module) : Type 0 where
  pub attributes : AreEntries m.attributes
  pub cells : AllByRecursion IsCell m.cells
  pub nets : AllByRecursion IsNet m.nets
  pub ports : AllByRecursion IsPort m.ports
  pub cells_order : AreInOrder (λ c. c.name) m.cells
  pub nets_order : AreInOrder (λ n. n.name) m.nets
  pub ports_order : AreInOrder (λ p. p.name) m.ports

-- a readable document: lists in order without repeats, bits and numbers in range
pub record IsReadable (doc : Document) : Type 0 where
  pub modules : AllByRecursion IsModule doc.modules
  pub order : AreInOrder (λ m. m.name) doc.modules
