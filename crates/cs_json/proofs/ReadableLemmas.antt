-- A document that is read is readable.
use Rattle.std.proofs.Common.{◌≡◌, ℕ, pos, ℤ, List, [], ◌∷◌, Bool, true, false, cond, map, codes, Option, Some, None, Ok, Err, option_map, bytes_eq, refl, subst}
use Rattle.std.specs.Prelude.{IsTrue, filter_map}
use Rattle.std.specs.List.{AllByRecursion, cons_option}
use Rattle.std.specs.Str.{is_utf8}
use Rattle.serde_json.specs.Data.{unsigned, negative, float, Data, null, boolean, number, string, array, object, Members}
use Rattle.serde_json.specs.Find.{get_member, as_str}
use Rattle.serde_json.specs.Read.{read}
use Rattle.cs_base.specs.declared.signal.Signal.{Signal}
use Rattle.cs_base.specs.declared.signal.Signal.TheVariants.{Zero, One, Unknown, HighZ, Bit}
use Rattle.cs_json.specs.declared.document.Document.{Document}
use Rattle.cs_json.specs.declared.document.Module.{Module}
use Rattle.cs_json.specs.declared.document.PortDecl.{PortDecl}
use Rattle.cs_json.specs.declared.document.CellDecl.{CellDecl}
use Rattle.cs_json.specs.declared.document.PinDecl.{PinDecl}
use Rattle.cs_json.specs.declared.document.NetDecl.{NetDecl}
use Rattle.cs_json.specs.declared.document.Entry.{Entry}
use Rattle.cs_json.specs.declared.document.Datum.{Datum}
use Rattle.cs_json.specs.declared.document.Datum.TheVariants.{Number}
use Rattle.cs_json.specs.declared.document.Direction.{Direction}
use Rattle.cs_json.specs.declared.document.Direction.TheVariants.{Input, Output, Inout}
use Rattle.cs_json.specs.Readable.{is_below, AreInOrder, is_readable_signal, AreReadable, is_readable_datum, AreEntries, is_input, IsPort, IsNet, IsCell, IsModule, IsReadable}
use Rattle.cs_json.specs.Shape as shape
use Rattle.cs_json.specs.Shape.{Wire, entry_of, entries_of, datum_of, kept_number, is_kept_number, signal_of, bit_number, is_bit_number, pin_of, document, Says, direction_of}
use Rattle.cs_json.specs.Walk.{Read, found, members, required, optional, each_member, each_item, each_of, entries, list, text}
use Rattle.cs_json.proofs.Ordered.{IsOrdered, HasOrder, Holds, holds_at, entries_in_order, read_ordered}
use Rattle.cs_json.proofs.Back.{bound, there, ok_same, required_from, object_from, optional_from, items_from, members_from, each_of_from}

-- ---- attributes and parameters

choose : {A : Type 0} (P : A → Type 0) (b : Bool) (x y : Option A) → (b ≡ true → Holds P x)
    → Holds P y → Holds P (cond b x y)
choose P true x y at_true at_false = at_true refl
choose P false x y at_true at_false = at_false

IsReadableDatum : Datum → Type 0
IsReadableDatum z = IsTrue (is_readable_datum z)

kept_readable : (z : ℤ) → Holds IsReadableDatum (kept_number z)
unfolding IsReadableDatum
kept_readable z = choose IsReadableDatum (is_kept_number z) (Some (Number z)) None (λ is. is) tt

datum_readable : (d : Data) → Holds IsReadableDatum (datum_of d)
unfolding IsReadableDatum
datum_readable null = tt
datum_readable (boolean b) = tt
datum_readable (number (unsigned n)) = kept_readable (pos n)
datum_readable (number (negative z)) = kept_readable z
datum_readable (number (float x)) = tt
datum_readable (string s) = refl
datum_readable (array ds) = tt
datum_readable (object ms) = tt

IsReadableEntry : Entry → Type 0
IsReadableEntry e = IsTrue (is_readable_datum e.datum)

one_kept : (P : Entry → Type 0) (k : List ℕ) (o : Option Datum) (rest : List Entry)
    → ((z : Datum) → o ≡ Some z → P (record { name = k; datum = z })) → AllByRecursion P rest
    → AllByRecursion P
    (cons_option (option_map (λ datum. record { name = k; datum = datum }) o) rest)
one_kept P k None rest here all = all
one_kept P k (Some z) rest here all = (here z refl, all)

data_kept_from : (es : List (List ℕ × Data))
    → AllByRecursion IsReadableEntry (filter_map entry_of es)
unfolding IsReadableEntry IsReadableDatum
data_kept_from [] = tt
data_kept_from (e ∷ es) =
    one_kept IsReadableEntry e.0 (datum_of e.1) (filter_map entry_of es)
    (λ z is. holds_at IsReadableDatum (datum_of e.1) z is (datum_readable e.1)) (data_kept_from es)

names_kept : (k : List ℕ) (es : List (List ℕ × Data))
    → AllByRecursion (λ e. IsTrue (is_below k e.0)) es
    → AllByRecursion (λ (y : Entry). IsTrue (is_below k y.name)) (filter_map entry_of es)
names_kept k [] h = tt
names_kept k (e ∷ es) h =
    one_kept (λ (y : Entry). IsTrue (is_below k y.name)) e.0 (datum_of e.1) (filter_map entry_of es)
    (λ z is. h.0) (names_kept k es h.1)

one_ordered : (k : List ℕ) (o : Option Datum) (rest : List Entry)
    → AllByRecursion (λ (y : Entry). IsTrue (is_below k y.name)) rest
    → AreInOrder (λ (y : Entry). y.name) rest
    → AreInOrder (λ (y : Entry). y.name)
    (cons_option (option_map (λ datum. record { name = k; datum = datum }) o) rest)
one_ordered k None rest below order = order
one_ordered k (Some z) rest below order = (below, order)

order_kept : (es : List (List ℕ × Data)) → AreInOrder (λ e. e.0) es
    → AreInOrder (λ (y : Entry). y.name) (filter_map entry_of es)
order_kept [] h = tt
order_kept (e ∷ es) h =
    one_ordered e.0 (datum_of e.1) (filter_map entry_of es) (names_kept e.0 es h.0)
    (order_kept es h.1)

entries_readable : (ms : Members) → HasOrder ms → AreEntries (entries_of ms)
unfolding IsReadableEntry
entries_readable ms order =
    record {
      order = order_kept (entries ms) (entries_in_order ms order);
      data_kept = data_kept_from (entries ms);
    }

-- ---- bit lists

IsReadableSignal : Bool → Signal → Type 0
IsReadableSignal only_bits s = IsTrue (is_readable_signal only_bits s)

bit_readable : (only_bits : Bool) (n : ℕ) → Holds (IsReadableSignal only_bits) (bit_number n)
unfolding IsReadableSignal
bit_readable only_bits n =
    choose (IsReadableSignal only_bits) (is_bit_number n) (Some (Bit n)) None (λ is. is) tt

constant_readable : (s : List ℕ) → Holds (IsReadableSignal false) (shape.constant s)
unfolding IsReadableSignal
constant_readable s =
    choose (IsReadableSignal false) (bytes_eq s (codes "0")) (Some Zero) _ (λ _. refl)
    (choose (IsReadableSignal false) (bytes_eq s (codes "1")) (Some One) _ (λ _. refl)
    (choose (IsReadableSignal false) (bytes_eq s (codes "x")) (Some Unknown) _ (λ _. refl)
    (choose (IsReadableSignal false) (bytes_eq s (codes "z")) (Some HighZ) None (λ _. refl) tt)))

signal_readable : (only_bits : Bool) (d : Data)
    → Holds (IsReadableSignal only_bits) (signal_of only_bits d)
signal_readable true null = tt
signal_readable false null = tt
signal_readable true (boolean b) = tt
signal_readable false (boolean b) = tt
signal_readable true (number (unsigned n)) = bit_readable true n
signal_readable false (number (unsigned n)) = bit_readable false n
signal_readable true (number (negative z)) = tt
signal_readable false (number (negative z)) = tt
signal_readable true (number (float x)) = tt
signal_readable false (number (float x)) = tt
signal_readable true (string s) = tt
signal_readable false (string s) = constant_readable s
signal_readable true (array ds) = tt
signal_readable false (array ds) = tt
signal_readable true (object ms) = tt
signal_readable false (object ms) = tt

signals_readable : (only_bits : Bool) (d : Data) (bits : List Signal)
    → shape.signals only_bits d ≡ Ok bits → AreReadable only_bits bits
unfolding IsReadableSignal
signals_readable only_bits d bits h =
    let items = bound (list d) (each_item (shape.signal only_bits) 0) bits h in
    items_from (shape.signal only_bits) (IsReadableSignal only_bits)
    (λ e s read. holds_at (IsReadableSignal only_bits) (signal_of only_bits e) s
    (there (signal_of only_bits e) s read)
    (signal_readable only_bits e))
    0 items.0 bits items.2

-- ---- ports and netnames

input_word : (s : List ℕ) (direction : Direction) → direction_of s ≡ Some direction
    → bytes_eq s (codes "input") ≡ is_input direction
input_word s direction h =
    at (bytes_eq s (codes "input")) (bytes_eq s (codes "output")) (bytes_eq s (codes "inout"))
    direction h
  where
    at : (i o b : Bool) (direction : Direction)
        → cond i (Some Input) (cond o (Some Output) (cond b (Some Inout) None)) ≡ Some direction
        → i ≡ is_input direction
    at true o b Input h = refl
    at true o b Output h = absurd (cc)
    at true o b Inout h = absurd (cc)
    at false true b Input h = absurd (cc)
    at false true b Output h = refl
    at false true b Inout h = refl
    at false false true Input h = absurd (cc)
    at false false true Output h = refl
    at false false true Inout h = refl
    at false false false direction h = absurd (cc)

text_from : (d : Data) (s : List ℕ) → text d ≡ Ok s → as_str d ≡ Some s
text_from d s h = there (as_str d) s h

says_input : (ms : Members) (d : Data) (direction : Direction)
    → get_member (codes "direction") ms ≡ Some d → shape.direction d ≡ Ok direction
    → shape.says (codes "input") (codes "direction") ms ≡ is_input direction
says_input ms d direction is h =
    let word = bound (text d) (λ s. found (direction_of s)) direction h in
    rw (is, there (as_str d) word.0 word.1)
    (input_word word.0 direction (there (direction_of word.0) direction word.2))

port_readable : (name : List ℕ) (d : Data) (p : PortDecl) → IsOrdered d → shape.port name d ≡ Ok p
    → (p.name ≡ name) × IsPort p
port_readable name d p ordered h =
    let ms = bound (members d) _ p h in
    let order = object_from d ms.0 ordered ms.1 in
    let only_bits = shape.says (codes "input") (codes "direction") ms.0 in
    let bits = bound (required (shape.signals only_bits) (codes "bits") ms.0) _ p ms.2 in
    let direction = bound (required shape.direction (codes "direction") ms.0) _ p bits.2 in
    let list = required_from (shape.signals only_bits) (codes "bits") ms.0 bits.0 order bits.1 in
    let word =
    required_from shape.direction (codes "direction") ms.0 direction.0 order direction.1 in
    let made : PortDecl = record { name = name; direction = direction.0; bits = bits.0 } in
    let same : made ≡ p = ok_same made p (Ok made) (refl {a = Ok made}) direction.2 in
    let P : PortDecl → Type 0 = λ x. (x.name ≡ name) × IsPort x in
    let Q : Bool → Type 0 = λ b. AreReadable b bits.0 in
    subst P same (
      refl,
      subst Q (says_input ms.0 word.0 direction.0 word.2 word.3)
          (signals_readable only_bits list.0 bits.0 list.3),
    )

net_readable : (name : List ℕ) (d : Data) (n : NetDecl) → IsOrdered d → shape.net name d ≡ Ok n
    → (n.name ≡ name) × IsNet n
net_readable name d n ordered h =
    let ms = bound (members d) _ n h in
    let order = object_from d ms.0 ordered ms.1 in
    let attributes = bound (optional (codes "attributes") ms.0) _ n ms.2 in
    let bits = bound (required (shape.signals false) (codes "bits") ms.0) _ n attributes.2 in
    let list = required_from (shape.signals false) (codes "bits") ms.0 bits.0 order bits.1 in
    let made : NetDecl =
    record { name = name; bits = bits.0; attributes = entries_of attributes.0 } in
    let same : made ≡ n = ok_same made n (Ok made) (refl {a = Ok made}) bits.2 in
    let P : NetDecl → Type 0 = λ x. (x.name ≡ name) × IsNet x in
    let made_readable : IsNet made =
    record {
      attributes = entries_readable attributes.0
          (optional_from (codes "attributes") ms.0 attributes.0 order attributes.1);
      bits = signals_readable false list.0 bits.0 list.3;
    } in
    subst P same (refl, made_readable)

-- ---- cells

wire_readable : (name : List ℕ) (d : Data) (w : Wire) → IsOrdered d → shape.wire name d ≡ Ok w
    → (w.0 ≡ name) × AreReadable false w.1
wire_readable name d w ordered h =
    let bits = bound (shape.signals false d) (λ bits. Ok (name, bits)) w h in
    let made : Wire = (name, bits.0) in
    let same : made ≡ w = ok_same made w (Ok made) (refl {a = Ok made}) bits.2 in
    let P : Wire → Type 0 = λ x. (x.0 ≡ name) × AreReadable false x.1 in
    subst P same (refl, signals_readable false d bits.0 bits.1)

wires_readable : (d : Data) (ws : List Wire) → IsOrdered d → shape.wires d ≡ Ok ws
    → AllByRecursion (λ w. AreReadable false w.1) ws × AreInOrder (λ w. w.0) ws
wires_readable d ws ordered h =
    let ms = bound (members d) (λ ms. each_member shape.wire (entries ms)) ws h in
    members_from shape.wire (λ w. w.0) (λ w. AreReadable false w.1) wire_readable ms.0 ws
    (object_from d ms.0 ordered ms.1) ms.2

pins_readable : (directions : Members) (ws : List Wire)
    → AllByRecursion (λ w. AreReadable false w.1) ws
    → AllByRecursion (λ (p : PinDecl). AreReadable false p.bits) (map (pin_of directions) ws)
pins_readable directions [] h = tt
pins_readable directions (w ∷ ws) h = (h.0, pins_readable directions ws h.1)

pins_below : (k : List ℕ) (directions : Members) (ws : List Wire)
    → AllByRecursion (λ w. IsTrue (is_below k w.0)) ws
    → AllByRecursion (λ (p : PinDecl). IsTrue (is_below k p.name)) (map (pin_of directions) ws)
pins_below k directions [] h = tt
pins_below k directions (w ∷ ws) h = (h.0, pins_below k directions ws h.1)

pins_ordered : (directions : Members) (ws : List Wire) → AreInOrder (λ w. w.0) ws
    → AreInOrder (λ (p : PinDecl). p.name) (map (pin_of directions) ws)
pins_ordered directions [] h = tt
pins_ordered directions (w ∷ ws) h =
    (pins_below w.0 directions ws h.0, pins_ordered directions ws h.1)

cell_readable : (name : List ℕ) (d : Data) (c : CellDecl) → IsOrdered d → shape.cell name d ≡ Ok c
    → (c.name ≡ name) × IsCell c
cell_readable name d c ordered h =
    let ms = bound (members d) _ c h in
    let order = object_from d ms.0 ordered ms.1 in
    let attributes = bound (optional (codes "attributes") ms.0) _ c ms.2 in
    let wires = bound (required shape.wires (codes "connections") ms.0) _ c attributes.2 in
    let parameters = bound (optional (codes "parameters") ms.0) _ c wires.2 in
    let directions = bound (optional (codes "port_directions") ms.0) _ c parameters.2 in
    let kind = bound (required text (codes "type") ms.0) _ c directions.2 in
    let connected = required_from shape.wires (codes "connections") ms.0 wires.0 order wires.1 in
    let pins = wires_readable connected.0 wires.0 connected.1 connected.3 in
    let made : CellDecl =
    record {
      name = name;
      kind = kind.0;
      parameters = entries_of parameters.0;
      attributes = entries_of attributes.0;
      pins = map (pin_of directions.0) wires.0;
    } in
    let same : made ≡ c = ok_same made c (Ok made) (refl {a = Ok made}) kind.2 in
    let P : CellDecl → Type 0 = λ x. (x.name ≡ name) × IsCell x in
    let made_readable : IsCell made =
    record {
      attributes =
          entries_readable attributes.0
          (optional_from (codes "attributes") ms.0 attributes.0 order attributes.1);
      parameters =
          entries_readable parameters.0
          (optional_from (codes "parameters") ms.0 parameters.0 order parameters.1);
      pins = pins_readable directions.0 wires.0 pins.0;
      order = pins_ordered directions.0 wires.0 pins.1;
    } in
    subst P same (refl, made_readable)

-- ---- modules and the document

module_readable : (name : List ℕ) (d : Data) (m : Module) → IsOrdered d
    → shape.«module» name d ≡ Ok m → (m.name ≡ name) × IsModule m
module_readable name d m ordered h =
    let ms = bound (members d) _ m h in
    let order = object_from d ms.0 ordered ms.1 in
    let attributes = bound (optional (codes "attributes") ms.0) _ m ms.2 in
    let cells = bound (each_of shape.cell (codes "cells") ms.0) _ m attributes.2 in
    let nets = bound (each_of shape.net (codes "netnames") ms.0) _ m cells.2 in
    let ports = bound (each_of shape.port (codes "ports") ms.0) _ m nets.2 in
    let cells_are =
    each_of_from shape.cell (λ c. c.name) IsCell cell_readable (codes "cells")
    ms.0 cells.0 order cells.1 in
    let nets_are =
    each_of_from shape.net (λ n. n.name) IsNet net_readable (codes "netnames")
    ms.0 nets.0 order nets.1 in
    let ports_are =
    each_of_from shape.port (λ p. p.name) IsPort port_readable (codes "ports")
    ms.0 ports.0 order ports.1 in
    let made : Module =
    record {
      name = name;
      attributes = entries_of attributes.0;
      ports = ports.0;
      cells = cells.0;
      nets = nets.0;
    } in
    let same : made ≡ m = ok_same made m (Ok made) (refl {a = Ok made}) ports.2 in
    let P : Module → Type 0 = λ x. (x.name ≡ name) × IsModule x in
    let made_readable : IsModule made =
    record {
      attributes =
          entries_readable attributes.0
          (optional_from (codes "attributes") ms.0 attributes.0 order attributes.1);
      cells = cells_are.0;
      nets = nets_are.0;
      ports = ports_are.0;
      cells_order = cells_are.1;
      nets_order = nets_are.1;
      ports_order = ports_are.1;
    } in
    subst P same (refl, made_readable)

root_readable : (d : Data) (doc : Document) → IsOrdered d → shape.root d ≡ Ok doc → IsReadable doc
root_readable d doc ordered h =
    let ms = bound (members d) _ doc h in
    let order = object_from d ms.0 ordered ms.1 in
    let modules = bound (required shape.modules (codes "modules") ms.0) _ doc ms.2 in
    let value = required_from shape.modules (codes "modules") ms.0 modules.0 order modules.1 in
    let under_names =
    bound (members value.0) (λ ms. each_member shape.«module» (entries ms)) modules.0 value.3 in
    let are =
    members_from shape.«module» (λ m. m.name) IsModule module_readable under_names.0 modules.0
    (object_from value.0 under_names.0 value.1 under_names.1) under_names.2 in
    let made : Document = record { modules = modules.0 } in
    let same : made ≡ doc = ok_same made doc (Ok made) (refl {a = Ok made}) modules.2 in
    let made_readable : IsReadable made = record { modules = are.0; order = are.1 } in
    subst IsReadable same made_readable

says_root : (read : Read Document) (doc : Document)
    → shape.reading_of (shape.place_of read) ≡ Says doc → read ≡ Ok doc
says_root (Ok x) doc h = cc
says_root (Err at) doc h = absurd (cc)

says_json : (o : Option Data) (doc : Document) → shape.reading o ≡ Says doc → Holds IsOrdered o
    → IsReadable doc
unfolding shape.doc_of
says_json None doc h ordered = absurd (cc)
says_json (Some d) doc h ordered = root_readable d doc ordered (says_root (shape.root d) doc h)

json_ordered : (bytes : List ℕ) → Holds IsOrdered (shape.json_of bytes)
json_ordered bytes = at (is_utf8 bytes) (read bytes) (λ d is. read_ordered bytes d is)
  where
    at : (b : Bool) (o : Option Data) → ((d : Data) → o ≡ Some d → IsOrdered d)
        → Holds IsOrdered (cond b o None)
    at true None ordered = tt
    at true (Some d) ordered = ordered d refl
    at false o ordered = tt

-- what bytes say is readable
pub document_readable : (bytes : List ℕ) (doc : Document) → document bytes ≡ Says doc
    → IsReadable doc
document_readable bytes doc h = says_json (shape.json_of bytes) doc h (json_ordered bytes)
