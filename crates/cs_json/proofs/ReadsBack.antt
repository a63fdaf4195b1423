-- A readable document is read again from the value that it is printed as.
use Rattle.std.proofs.Common.{◌≡◌, ℕ, ◌+◌, List, [], ◌∷◌, Bool, true, false, map, Option, Some, Ok, refl, ap, ◌∙◌, pos, negsuc}
use Rattle.std.specs.Prelude.{IsTrue}
use Rattle.std.specs.List.{AllByRecursion}
use Rattle.serde_json.specs.Data.{Data, Members, member}
use Rattle.cs_base.specs.declared.signal.Signal.{Signal}
use Rattle.cs_base.specs.declared.signal.Signal.TheVariants.{Zero, One, Unknown, HighZ, Bit}
use Rattle.cs_json.specs.declared.document.Document.{Document}
use Rattle.cs_json.specs.declared.document.Module.{Module}
use Rattle.cs_json.specs.declared.document.PortDecl.{PortDecl}
use Rattle.cs_json.specs.declared.document.CellDecl.{CellDecl}
use Rattle.cs_json.specs.declared.document.PinDecl.{PinDecl}
use Rattle.cs_json.specs.declared.document.NetDecl.{NetDecl}
use Rattle.cs_json.specs.declared.document.Entry.{Entry}
use Rattle.cs_json.specs.declared.document.Datum.{Datum}
use Rattle.cs_json.specs.declared.document.Datum.TheVariants.{Digits, Number}
use Rattle.cs_json.specs.declared.document.Direction.{Direction}
use Rattle.cs_json.specs.declared.document.Direction.TheVariants.{Input, Output, Inout}
use Rattle.cs_json.specs.Walk.{Read, entries, elements, each_member, each_item}
use Rattle.cs_json.specs.Shape as shape
use Rattle.cs_json.specs.Shape.{Wire}
use Rattle.serde_json.specs.Find.{get_member}
use Rattle.std.specs.Ordering.{nat_cmp, is_lt, match_ordering, ordering_reverse}
use Rattle.std.proofs.lemmas.Cmp.{nat_list_cmp_total, tied_itself}
use Rattle.std.specs.Cmp.Lexicographic.{slice_cmp}
use Rattle.std.proofs.Common.{Ordering, Less, Equal, Greater}
use Rattle.serde_json.specs.View.{items_of}
use Rattle.cs_json.specs.Printed.{Member, members_from, signal_data, signals_data, datum_data, entry_member, port_member, net_member, wire_of, wire_member, side_member, cell_member, module_member, data_of}
use Rattle.cs_json.specs.Readable.{is_readable_signal, AreReadable, AreEntries, is_readable_datum, is_input, IsPort, IsNet, IsCell, IsModule, IsReadable, AreInOrder, is_below}

pub entries-members_from : (es : List Member) → entries (members_from es) ≡ es
entries-members_from [] = refl
entries-members_from (e ∷ es) = ap (λ rest. e ∷ rest) (entries-members_from es)

pub elements-items_of : (ds : List Data) → elements (items_of ds) ≡ ds
elements-items_of [] = refl
elements-items_of (d ∷ ds) = ap (λ rest. d ∷ rest) (elements-items_of ds)

-- where each thing is read again, so is the list
pub items_back : {A : Type 0} (f : Data → Read A) (g : A → Data) (P : A → Type 0)
    → ((a : A) → P a → f (g a) ≡ Ok a) → (xs : List A) (i : ℕ) → AllByRecursion P xs
    → each_item f i (map g xs) ≡ Ok xs
items_back f g P back [] i h = refl
items_back f g P back (x ∷ xs) i h = rw (back x h.0, items_back f g P back xs (i + 1) h.1) refl

pub members_back : {A : Type 0} (f : List ℕ → Data → Read A) (g : A → Member) (P : A → Type 0)
    → ((a : A) → P a → f (g a).0 (g a).1 ≡ Ok a) → (xs : List A) → AllByRecursion P xs
    → each_member f (entries (members_from (map g xs))) ≡ Ok xs
members_back f g P back [] h = refl
members_back f g P back (x ∷ xs) h = rw (back x h.0, members_back f g P back xs h.1) refl

-- ---- bits

signal_back : (only_bits : Bool) (s : Signal) → IsTrue (is_readable_signal only_bits s)
    → shape.signal only_bits (signal_data s) ≡ Ok s
signal_back true Zero h = absurd (cc)
signal_back true One h = absurd (cc)
signal_back true Unknown h = absurd (cc)
signal_back true HighZ h = absurd (cc)
signal_back true (Bit b) h = rw h refl
signal_back false Zero h = refl
signal_back false One h = refl
signal_back false Unknown h = refl
signal_back false HighZ h = refl
signal_back false (Bit b) h = rw h refl

signals_back : (only_bits : Bool) (bits : List Signal) → AreReadable only_bits bits
    → shape.signals only_bits (signals_data bits) ≡ Ok bits
signals_back only_bits bits h =
    rw elements-items_of
    (items_back (shape.signal only_bits) signal_data (λ s. IsTrue (is_readable_signal only_bits s))
    (signal_back only_bits) bits 0 h)

-- ---- attributes and parameters

datum_back : (d : Datum) → IsTrue (is_readable_datum d) → shape.datum_of (datum_data d) ≡ Some d
datum_back (Digits s) h = refl
datum_back (Number (pos n)) h = rw h refl
datum_back (Number (negsuc n)) h = rw h refl

entries_back_of : (es : List Entry) → AllByRecursion (λ e. IsTrue (is_readable_datum e.datum)) es
    → shape.entries_of (members_from (map entry_member es)) ≡ es
entries_back_of [] h = refl
entries_back_of (e ∷ es) h = rw (datum_back e.datum h.0, entries_back_of es h.1) refl

entries_back : (es : List Entry) → AreEntries es
    → shape.entries_of (members_from (map entry_member es)) ≡ es
entries_back es h = entries_back_of es h.data_kept

-- ---- ports and nets

port_by : (name : List ℕ) (direction : Direction) (bits : List Signal)
    → AreReadable (is_input direction) bits
    → let p : PortDecl =
    record { name = name; direction = direction; bits = bits } in shape.port (port_member p).0
    (port_member p).1 ≡ Ok p
port_by name Input bits h = rw (signals_back true bits h) refl
port_by name Output bits h = rw (signals_back false bits h) refl
port_by name Inout bits h = rw (signals_back false bits h) refl

port_back : (p : PortDecl) → IsPort p → shape.port (port_member p).0 (port_member p).1 ≡ Ok p
port_back p h = port_by p.name p.direction p.bits h

net_back : (n : NetDecl) → IsNet n → shape.net (net_member n).0 (net_member n).1 ≡ Ok n
net_back n h = rw (entries_back n.attributes h.attributes, signals_back false n.bits h.bits) refl

-- ---- the sides of pins

-- in ms a pin has the side that is written for it
HasSide : Members → PinDecl → Type 0
HasSide ms p = get_member p.name ms ≡ Some (side_member p).1

past : (o : Ordering) (a : Option Data) (b : Option Data) → o ≡ Greater → match_ordering o a b a ≡ a
past Less a b h = refl
past Equal a b h = absurd (cc)
past Greater a b h = refl

less : (o : Ordering) → IsTrue (is_lt o) → o ≡ Less
less Less h = refl
less Equal h = absurd (cc)
less Greater h = absurd (cc)

-- what stands after p is found past it
after : (p : PinDecl) (ms : Members) (ps : List PinDecl)
    → AllByRecursion (λ q. IsTrue (is_below p.name q.name)) ps → AllByRecursion (HasSide ms) ps
    → AllByRecursion (HasSide (member (side_member p).0 (side_member p).1 ms)) ps
unfolding HasSide
after p ms [] below sides = tt
after p ms (q ∷ qs) below sides =
    let above : slice_cmp nat_cmp q.name p.name ≡ Greater =
    nat_list_cmp_total.antisymm q.name p.name
    ∙ ap ordering_reverse (less (slice_cmp nat_cmp p.name q.name) below.0) in (
      past (slice_cmp nat_cmp q.name p.name) (get_member q.name ms)
          (Some (side_member p).1) above ∙ sides.0,
      after p ms qs below.1 sides.1,
    )

sides_found : (pins : List PinDecl) → AreInOrder (λ p. p.name) pins
    → AllByRecursion (HasSide (members_from (map side_member pins))) pins
unfolding HasSide
sides_found [] h = tt
sides_found (p ∷ ps) h = (
  rw (tied_itself nat_list_cmp_total p.name) refl,
  after p (members_from (map side_member ps)) ps h.0 (sides_found ps h.1),
)

side_back : (ms : Members) (name : List ℕ) (bits : List Signal) (output : Bool) → let p : PinDecl =
    record { name = name; bits = bits; output = output } in HasSide ms p → shape.pin_of ms
    (wire_of p) ≡ p
unfolding HasSide
side_back ms name bits true h = rw h refl
side_back ms name bits false h = rw h refl

pins_back : (ms : Members) (pins : List PinDecl) → AllByRecursion (HasSide ms) pins
    → map (shape.pin_of ms) (map wire_of pins) ≡ pins
pins_back ms [] h = refl
pins_back ms (p ∷ ps) h = rw (side_back ms p.name p.bits p.output h.0, pins_back ms ps h.1) refl

-- ---- cells, modules, the document

IsReadWire : Wire → Type 0
IsReadWire w = AreReadable false w.1

read_wires : (pins : List PinDecl) → AllByRecursion (λ p. AreReadable false p.bits) pins
    → AllByRecursion IsReadWire (map wire_of pins)
unfolding IsReadWire
read_wires [] h = tt
read_wires (p ∷ ps) h = (h.0, read_wires ps h.1)

wire_back : (w : Wire) → IsReadWire w → shape.wire (wire_member w).0 (wire_member w).1 ≡ Ok w
unfolding IsReadWire
wire_back w h = rw (signals_back false w.1 h) refl

cell_back : (c : CellDecl) → IsCell c → shape.cell (cell_member c).0 (cell_member c).1 ≡ Ok c
cell_back c h =
    rw (
      members_back shape.wire wire_member IsReadWire wire_back (map wire_of c.pins)
          (read_wires c.pins h.pins),
      entries_back c.attributes h.attributes,
      entries_back c.parameters h.parameters,
      pins_back (members_from (map side_member c.pins)) c.pins (sides_found c.pins h.order),
    ) refl

module_back : (m : Module) → IsModule m
    → shape.«module» (module_member m).0 (module_member m).1 ≡ Ok m
module_back m h =
    rw (
      members_back shape.cell cell_member IsCell cell_back m.cells h.cells,
      members_back shape.net net_member IsNet net_back m.nets h.nets,
      members_back shape.port port_member IsPort port_back m.ports h.ports,
      entries_back m.attributes h.attributes,
    ) refl

pub doc_of-data_of : (doc : Document) → IsReadable doc → shape.doc_of (data_of doc) ≡ Ok doc
unfolding shape.doc_of data_of
doc_of-data_of doc h =
    rw (members_back shape.«module» module_member IsModule module_back doc.modules h.modules) refl
