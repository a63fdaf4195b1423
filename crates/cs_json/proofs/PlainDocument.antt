-- A readable document prints as whole numbers and members in order, so its text is read again.
use Rattle.std.proofs.Common.{◌≡◌, ℕ, ◌^◌, ◌<◌, ◌≤◌, List, [], ◌∷◌, Bool, false, map, pos, negsuc, refl, ap, ◌∙◌, arith}
use Rattle.std.specs.Prelude.{IsTrue, ⊤, IsUtf8, nat_lt}
use Rattle.std.specs.List.{AllByRecursion}
use Rattle.std.proofs.lemmas.Bool.Decides.{nat_tests}
use Rattle.serde_json.specs.Data.{Data, depth}
use Rattle.serde_json.specs.Read.{max_depth}
use Rattle.serde_json.specs.View.{items_of}
use Rattle.cs_base.specs.declared.signal.Signal.{Signal}
use Rattle.cs_base.specs.declared.signal.Signal.TheVariants.{Zero, One, Unknown, HighZ, Bit}
use Rattle.cs_json.specs.declared.document.Document.{Document}
use Rattle.cs_json.specs.declared.document.Module.{Module}
use Rattle.cs_json.specs.declared.document.PortDecl.{PortDecl}
use Rattle.cs_json.specs.declared.document.CellDecl.{CellDecl}
use Rattle.cs_json.specs.declared.document.PinDecl.{PinDecl}
use Rattle.cs_json.specs.declared.document.NetDecl.{NetDecl}
use Rattle.cs_json.specs.declared.document.Entry.{Entry}
use Rattle.cs_json.specs.declared.document.Datum.{Datum}
use Rattle.cs_json.specs.declared.document.Datum.TheVariants.{Digits, Number}
use Rattle.cs_json.specs.Printed.{Member, members_from, signal_data, signals_data, datum_data, entry_member, port_member, net_member, wire_of, wire_member, side_member, cell_member, module_member, data_of, printed}
use Rattle.cs_json.specs.Readable.{is_below, AreInOrder, is_readable_signal, AreReadable, is_readable_datum, AreEntries, is_input, IsPort, IsNet, IsCell, IsModule, IsReadable}
use Rattle.cs_json.specs.Shape.{Wire, is_bit_number, document, reading, reading_of, Says}
use Rattle.cs_json.proofs.Depth.{depth-data_of}
use Rattle.cs_json.proofs.Ordered.{IsBefore}
use Rattle.cs_json.proofs.Parsing.{json_of-some}
use Rattle.cs_json.proofs.PlainData.{IsPlain, ArePlain, HasPlain, read-compact_text}
use Rattle.cs_json.proofs.ReadsBack.{doc_of-data_of}

before_members : {A : Type 0} (f : A → Member) (k : List ℕ) (xs : List A)
    → AllByRecursion (λ y. IsTrue (is_below k (f y).0)) xs → IsBefore k (members_from (map f xs))
before_members f k [] h = tt
before_members f k (x ∷ xs) h = (h.0, before_members f k xs h.1)

members_plain : {A : Type 0} (f : A → Member) (P : A → Type 0) → ((a : A) → P a → IsPlain (f a).1)
    → (xs : List A) → AllByRecursion P xs → AreInOrder (λ y. (f y).0) xs
    → HasPlain (members_from (map f xs))
members_plain f P each [] all order = tt
members_plain f P each (x ∷ xs) all order =
    (before_members f (f x).0 xs order.0, each x all.0, members_plain f P each xs all.1 order.1)

pub items_plain : {A : Type 0} (f : A → Data) (P : A → Type 0) → ((a : A) → P a → IsPlain (f a))
    → (xs : List A) → AllByRecursion P xs → ArePlain (items_of (map f xs))
items_plain f P each [] all = tt
items_plain f P each (x ∷ xs) all = (each x all.0, items_plain f P each xs all.1)

-- ---- bits, attributes and parameters

small_bit : (n : ℕ) → IsTrue (is_bit_number n) → n < 2 ^ 64
small_bit n h = grind (arith, nat_tests)

signal_plain : (only_bits : Bool) (s : Signal) → IsTrue (is_readable_signal only_bits s)
    → IsPlain (signal_data s)
signal_plain only_bits Zero h = tt
signal_plain only_bits One h = tt
signal_plain only_bits Unknown h = tt
signal_plain only_bits HighZ h = tt
signal_plain only_bits (Bit b) h = small_bit b h

signals_plain : (only_bits : Bool) (bits : List Signal) → AreReadable only_bits bits
    → IsPlain (signals_data bits)
signals_plain only_bits bits h =
    items_plain signal_data (λ s. IsTrue (is_readable_signal only_bits s)) (signal_plain only_bits)
    bits h

pub below_by_test : (n m : ℕ) → IsTrue (nat_lt n m) → n < m
below_by_test n m h = grind (arith, nat_tests)

datum_plain : (d : Datum) → IsTrue (is_readable_datum d) → IsPlain (datum_data d)
datum_plain (Digits s) h = tt
datum_plain (Number (pos n)) h = below_by_test n (2 ^ 64) h
datum_plain (Number (negsuc n)) h =
    let small : n < 2 ^ 31 = below_by_test n (2 ^ 31) h in omega arith

entries_plain : (es : List Entry) → AreEntries es → HasPlain (members_from (map entry_member es))
entries_plain es h =
    members_plain entry_member (λ e. IsTrue (is_readable_datum e.datum))
    (λ e h. datum_plain e.datum h) es h.data_kept h.order

-- ---- ports, netnames and cells

port_plain : (p : PortDecl) → IsPort p → IsPlain (port_member p).1
port_plain p h = ((refl, tt), signals_plain (is_input p.direction) p.bits h, (tt, tt, tt))

one_whole : 1 < 2 ^ 64
one_whole = omega arith

net_plain : (n : NetDecl) → IsNet n → IsPlain (net_member n).1
net_plain n h = (
  (refl, (refl, tt)),
  entries_plain n.attributes h.attributes,
  ((refl, tt), signals_plain false n.bits h.bits, (tt, one_whole, tt)),
)

wires_all : (pins : List PinDecl) → AllByRecursion (λ (p : PinDecl). AreReadable false p.bits) pins
    → AllByRecursion (λ (w : Wire). AreReadable false w.1) (map wire_of pins)
wires_all [] h = tt
wires_all (p ∷ ps) h = (h.0, wires_all ps h.1)

wires_below : (k : List ℕ) (pins : List PinDecl)
    → AllByRecursion (λ (p : PinDecl). IsTrue (is_below k p.name)) pins
    → AllByRecursion (λ (w : Wire). IsTrue (is_below k w.0)) (map wire_of pins)
wires_below k [] h = tt
wires_below k (p ∷ ps) h = (h.0, wires_below k ps h.1)

wires_order : (pins : List PinDecl) → AreInOrder (λ (p : PinDecl). p.name) pins
    → AreInOrder (λ (w : Wire). w.0) (map wire_of pins)
wires_order [] h = tt
wires_order (p ∷ ps) h = (wires_below p.name ps h.0, wires_order ps h.1)

wires_plain : (pins : List PinDecl)
    → AllByRecursion (λ (p : PinDecl). AreReadable false p.bits) pins
    → AreInOrder (λ (p : PinDecl). p.name) pins
    → HasPlain (members_from (map wire_member (map wire_of pins)))
wires_plain pins all order =
    members_plain wire_member (λ w. AreReadable false w.1) (λ w h. signals_plain false w.1 h)
    (map wire_of pins) (wires_all pins all) (wires_order pins order)

any_all : {A : Type 0} (xs : List A) → AllByRecursion (λ _. ⊤) xs
any_all [] = tt
any_all (x ∷ xs) = (tt, any_all xs)

sides_plain : (pins : List PinDecl) → AreInOrder (λ (p : PinDecl). p.name) pins
    → HasPlain (members_from (map side_member pins))
sides_plain pins order = members_plain side_member (λ _. ⊤) (λ p h. tt) pins (any_all pins) order

cell_plain : (c : CellDecl) → IsCell c → IsPlain (cell_member c).1
cell_plain c h = (
  (refl, (refl, (refl, (refl, (refl, tt))))),
  entries_plain c.attributes h.attributes,
  (
    (refl, (refl, (refl, (refl, tt)))),
    wires_plain c.pins h.pins h.order,
    (
      (refl, (refl, (refl, tt))),
      one_whole,
      (
        (refl, (refl, tt)),
        entries_plain c.parameters h.parameters,
        ((refl, tt), sides_plain c.pins h.order, (tt, tt, tt)),
      ),
    ),
  ),
)

-- ---- modules and the document

module_plain : (m : Module) → IsModule m → IsPlain (module_member m).1
module_plain m h = (
  (refl, (refl, (refl, tt))),
  entries_plain m.attributes h.attributes,
  (
    (refl, (refl, tt)),
    members_plain cell_member IsCell cell_plain m.cells h.cells h.cells_order,
    (
      (refl, tt),
      members_plain net_member IsNet net_plain m.nets h.nets h.nets_order,
      (tt, members_plain port_member IsPort port_plain m.ports h.ports h.ports_order, tt),
    ),
  ),
)

pub document_plain : (doc : Document) → IsReadable doc → IsPlain (data_of doc)
unfolding data_of
document_plain doc h = (
  (refl, tt),
  tt,
  (tt, members_plain module_member IsModule module_plain doc.modules h.modules h.order, tt),
)

-- a readable document is read again from its text
pub document-printed : (doc : Document) → IsReadable doc → IsUtf8 (printed doc)
    → document (printed doc) ≡ Says doc
document-printed doc h utf8 =
    let shallow : depth (data_of doc) ≤ max_depth = let seven = depth-data_of doc in omega arith in
    ap reading
    (json_of-some (printed doc) (data_of doc) utf8
    (read-compact_text (data_of doc) (document_plain doc h) shallow))
    ∙ ap reading_of (doc_of-data_of doc h)
