-- A document whose texts are UTF-8 prints as UTF-8.
use Rattle.std.proofs.Common.{ℕ, List, [], ◌∷◌, Bool, true, false, map, codes, pos, negsuc, refl}
use Rattle.std.specs.Prelude.{⊤, IsUtf8, if◌then◌else◌}
use Rattle.std.specs.List.{AllByRecursion}
use Rattle.std.proofs.lemmas.Fmt.{IsAscii-decimal, IsAscii-signed}
use Rattle.std.proofs.lemmas.Str.{IsUtf8-append, IsUtf8-nil, IsUtf8-from_ascii}
use Rattle.json.specs.Print.{quoted}
use Rattle.json.proofs.Printed.Utf8.{IsUtf8-are_ascii, IsUtf8-quoted, IsUtf8-boolean}
use Rattle.serde_json.specs.Data.{Num, unsigned, negative, float, Data, null, boolean, number, string, array, object, Items, no_items, item, Members, no_members, member}
use Rattle.serde_json.specs.View.{items_of}
use Rattle.serde_json.specs.Written.{number_text, comma_if, compact_text, items_text, members_text}
use Rattle.cs_base.specs.declared.signal.Signal.{Signal}
use Rattle.cs_base.specs.declared.signal.Signal.TheVariants.{Zero, One, Unknown, HighZ, Bit}
use Rattle.cs_json.specs.declared.document.Document.{Document}
use Rattle.cs_json.specs.declared.document.Module.{Module}
use Rattle.cs_json.specs.declared.document.PortDecl.{PortDecl}
use Rattle.cs_json.specs.declared.document.CellDecl.{CellDecl}
use Rattle.cs_json.specs.declared.document.PinDecl.{PinDecl}
use Rattle.cs_json.specs.declared.document.NetDecl.{NetDecl}
use Rattle.cs_json.specs.declared.document.Entry.{Entry}
use Rattle.cs_json.specs.declared.document.Datum.{Datum}
use Rattle.cs_json.specs.declared.document.Datum.TheVariants.{Digits, Number}
use Rattle.cs_json.specs.declared.document.Direction.{Direction}
use Rattle.cs_json.specs.declared.document.Direction.TheVariants.{Input, Output, Inout}
use Rattle.cs_json.specs.Printed.{Member, members_from, signal_data, datum_data, direction_text, entry_member, port_member, net_member, wire_of, wire_member, side_member, cell_member, module_member, data_of, printed}
use Rattle.cs_json.specs.Readable.{IsReadable}
use Rattle.cs_json.specs.Utf8.{IsUtf8Datum, IsUtf8Entry, IsUtf8Net, IsUtf8Cell, IsUtf8Module, IsUtf8Document}
use Rattle.cs_json.proofs.PlainData.{IsWhole, IsPlain, ArePlain, HasPlain}
use Rattle.cs_json.proofs.PlainDocument.{document_plain}

-- the texts and keys of a value are UTF-8
abbrev mutual
  HasUtf8 : Data → Type 0
  HasUtf8 null = ⊤
  HasUtf8 (boolean b) = ⊤
  HasUtf8 (number n) = ⊤
  HasUtf8 (string s) = IsUtf8 s
  HasUtf8 (array ds) = ItemsHaveUtf8 ds
  HasUtf8 (object ms) = MembersHaveUtf8 ms

  ItemsHaveUtf8 : Items → Type 0
  ItemsHaveUtf8 no_items = ⊤
  ItemsHaveUtf8 (item d ds) = HasUtf8 d × ItemsHaveUtf8 ds

  MembersHaveUtf8 : Members → Type 0
  MembersHaveUtf8 no_members = ⊤
  MembersHaveUtf8 (member k d ms) = IsUtf8 k × HasUtf8 d × MembersHaveUtf8 ms

number_utf8 : (n : Num) → IsWhole n → IsUtf8 (number_text n)
number_utf8 (unsigned n) h = IsUtf8-from_ascii _ (IsAscii-decimal n h)
number_utf8 (negative (pos n)) h = absurd h
number_utf8 (negative (negsuc n)) h = IsUtf8-from_ascii _ (IsAscii-signed (negsuc n) h)
number_utf8 (float x) h = absurd h

comma_utf8 : (later : Bool) → IsUtf8 (comma_if later)
comma_utf8 true = IsUtf8-are_ascii (44 ∷ []) refl
comma_utf8 false = IsUtf8-nil

-- an ASCII byte before a text
byte_then : (b : ℕ) (text : List ℕ) → IsUtf8 (b ∷ []) → IsUtf8 text → IsUtf8 (b ∷ text)
byte_then b text first rest = IsUtf8-append (b ∷ []) text first rest

mutual
  text_utf8 : (d : Data) → IsPlain d → HasUtf8 d → IsUtf8 (compact_text d)
  text_utf8 null plain h = IsUtf8-are_ascii _ refl
  text_utf8 (boolean b) plain h = IsUtf8-boolean b
  text_utf8 (number n) plain h = number_utf8 n plain
  text_utf8 (string s) plain h = IsUtf8-quoted s h
  text_utf8 (array ds) plain h =
      byte_then 91 (items_text false ds) (IsUtf8-are_ascii _ refl) (items_utf8 false ds plain h)
  text_utf8 (object ms) plain h =
      byte_then 123 (members_text false ms) (IsUtf8-are_ascii _ refl)
      (members_utf8 false ms plain h)

  items_utf8 : (later : Bool) (ds : Items) → ArePlain ds → ItemsHaveUtf8 ds
      → IsUtf8 (items_text later ds)
  items_utf8 later no_items plain h = IsUtf8-are_ascii (93 ∷ []) refl
  items_utf8 later (item d ds) plain h =
      IsUtf8-append (comma_if later) _ (comma_utf8 later)
      (IsUtf8-append (compact_text d) (items_text true ds)
      (text_utf8 d plain.0 h.0) (items_utf8 true ds plain.1 h.1))

  members_utf8 : (later : Bool) (ms : Members) → HasPlain ms → MembersHaveUtf8 ms
      → IsUtf8 (members_text later ms)
  members_utf8 later no_members plain h = IsUtf8-are_ascii (125 ∷ []) refl
  members_utf8 later (member k d ms) plain h =
      IsUtf8-append (comma_if later) _ (comma_utf8 later)
      (IsUtf8-append (quoted k) _ (IsUtf8-quoted k h.0)
      (byte_then 58 _ (IsUtf8-are_ascii _ refl)
      (IsUtf8-append (compact_text d) (members_text true ms)
      (text_utf8 d plain.1 h.1) (members_utf8 true ms plain.2 h.2))))

-- ---- the parts of a document

each_member_utf8 : {A : Type 0} (f : A → Member) (P : A → Type 0)
    → ((a : A) → P a → IsUtf8 (f a).0 × HasUtf8 (f a).1) → (xs : List A) → AllByRecursion P xs
    → MembersHaveUtf8 (members_from (map f xs))
each_member_utf8 f P each [] all = tt
each_member_utf8 f P each (x ∷ xs) all =
    let first = each x all.0 in (first.0, first.1, each_member_utf8 f P each xs all.1)

signal_utf8 : (s : Signal) → HasUtf8 (signal_data s)
signal_utf8 Zero = IsUtf8-are_ascii _ refl
signal_utf8 One = IsUtf8-are_ascii _ refl
signal_utf8 Unknown = IsUtf8-are_ascii _ refl
signal_utf8 HighZ = IsUtf8-are_ascii _ refl
signal_utf8 (Bit b) = tt

signals_utf8 : (bits : List Signal) → ItemsHaveUtf8 (items_of (map signal_data bits))
signals_utf8 [] = tt
signals_utf8 (s ∷ bits) = (signal_utf8 s, signals_utf8 bits)

entry_utf8 : (e : Entry) → IsUtf8Entry e → IsUtf8 (entry_member e).0 × HasUtf8 (entry_member e).1
entry_utf8 e h = (h.0, datum_utf8 e.datum h.1)
  where
    datum_utf8 : (d : Datum) → IsUtf8Datum d → HasUtf8 (datum_data d)
    datum_utf8 (Digits s) h = h
    datum_utf8 (Number z) h = tt

entries_utf8 : (es : List Entry) → AllByRecursion IsUtf8Entry es
    → MembersHaveUtf8 (members_from (map entry_member es))
entries_utf8 = each_member_utf8 entry_member IsUtf8Entry entry_utf8

word_utf8 : (direction : Direction) → IsUtf8 (direction_text direction)
word_utf8 Input = IsUtf8-are_ascii (codes "input") refl
word_utf8 Output = IsUtf8-are_ascii (codes "output") refl
word_utf8 Inout = IsUtf8-are_ascii (codes "inout") refl

port_utf8 : (p : PortDecl) → IsUtf8 p.name → IsUtf8 (port_member p).0 × HasUtf8 (port_member p).1
port_utf8 p h = (
  h,
  (
    IsUtf8-are_ascii (codes "bits") refl,
    signals_utf8 p.bits,
    (IsUtf8-are_ascii (codes "direction") refl, word_utf8 p.direction, tt),
  ),
)

net_utf8 : (n : NetDecl) → IsUtf8Net n → IsUtf8 (net_member n).0 × HasUtf8 (net_member n).1
net_utf8 n h = (
  h.0,
  (
    IsUtf8-are_ascii (codes "attributes") refl,
    entries_utf8 n.attributes h.1,
    (
      IsUtf8-are_ascii (codes "bits") refl,
      signals_utf8 n.bits,
      (IsUtf8-are_ascii (codes "hide_name") refl, tt, tt),
    ),
  ),
)

wires_utf8 : (pins : List PinDecl) → AllByRecursion (λ (p : PinDecl). IsUtf8 p.name) pins
    → MembersHaveUtf8 (members_from (map wire_member (map wire_of pins)))
wires_utf8 [] h = tt
wires_utf8 (p ∷ ps) h = (h.0, signals_utf8 p.bits, wires_utf8 ps h.1)

side_utf8 : (output : Bool) → IsUtf8 (if output then codes "output" else codes "input")
side_utf8 true = IsUtf8-are_ascii (codes "output") refl
side_utf8 false = IsUtf8-are_ascii (codes "input") refl

sides_utf8 : (pins : List PinDecl) → AllByRecursion (λ (p : PinDecl). IsUtf8 p.name) pins
    → MembersHaveUtf8 (members_from (map side_member pins))
sides_utf8 [] h = tt
sides_utf8 (p ∷ ps) h = (h.0, side_utf8 p.output, sides_utf8 ps h.1)

cell_utf8 : (c : CellDecl) → IsUtf8Cell c → IsUtf8 (cell_member c).0 × HasUtf8 (cell_member c).1
cell_utf8 c h = (
  h.name,
  (
    IsUtf8-are_ascii (codes "attributes") refl,
    entries_utf8 c.attributes h.attributes,
    (
      IsUtf8-are_ascii (codes "connections") refl,
      wires_utf8 c.pins h.pins,
      (
        IsUtf8-are_ascii (codes "hide_name") refl,
        tt,
        (
          IsUtf8-are_ascii (codes "parameters") refl,
          entries_utf8 c.parameters h.parameters,
          (
            IsUtf8-are_ascii (codes "port_directions") refl,
            sides_utf8 c.pins h.pins,
            (IsUtf8-are_ascii (codes "type") refl, h.kind, tt),
          ),
        ),
      ),
    ),
  ),
)

module_utf8 : (m : Module) → IsUtf8Module m
    → IsUtf8 (module_member m).0 × HasUtf8 (module_member m).1
module_utf8 m h = (
  h.name,
  (
    IsUtf8-are_ascii (codes "attributes") refl,
    entries_utf8 m.attributes h.attributes,
    (
      IsUtf8-are_ascii (codes "cells") refl,
      each_member_utf8 cell_member IsUtf8Cell cell_utf8 m.cells h.cells,
      (
        IsUtf8-are_ascii (codes "netnames") refl,
        each_member_utf8 net_member IsUtf8Net net_utf8 m.nets h.nets,
        (
          IsUtf8-are_ascii (codes "ports") refl,
          each_member_utf8 port_member (λ p. IsUtf8 p.name) port_utf8 m.ports h.ports,
          tt,
        ),
      ),
    ),
  ),
)

value_utf8 : (doc : Document) → IsUtf8Document doc → HasUtf8 (data_of doc)
unfolding data_of
value_utf8 doc h = (
  IsUtf8-are_ascii (codes "creator") refl,
  IsUtf8-are_ascii (codes "cslow") refl,
  (
    IsUtf8-are_ascii (codes "modules") refl,
    each_member_utf8 module_member IsUtf8Module module_utf8 doc.modules h,
    tt,
  ),
)

pub IsUtf8-printed : (doc : Document) → IsReadable doc → IsUtf8Document doc → IsUtf8 (printed doc)
IsUtf8-printed doc readable h =
    IsUtf8-append (compact_text (data_of doc)) (10 ∷ [])
    (text_utf8 (data_of doc) (document_plain doc readable) (value_utf8 doc h))
    (IsUtf8-are_ascii (10 ∷ []) refl)
