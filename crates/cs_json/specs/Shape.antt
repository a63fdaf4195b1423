-- The document that a JSON value is, or the first place that is refused (Yosys JSON). The walk
-- goes by byte order of keys.
use Rattle.std.specs.Prelude.{ℕ, ◌-◌, ◌^◌, ℤ, pos, negsuc, List, Bool, true, false, ◌&&◌, bytes_eq, nat_lt, nat_le, if◌then◌else◌, Option, Some, None, Result, Ok, Err, option_map, option_and_then, unwrap_or, filter_map, map, codes}
use Rattle.serde_json.specs.Data.{Num, Data, null, boolean, number, string, array, object, Members}
use Rattle.serde_json.specs.Find.{get_member, as_str, as_integer, as_u64}
use Rattle.cs_base.specs.declared.signal.Signal.{Signal}
use Rattle.cs_base.specs.declared.signal.Signal.TheVariants.{Zero, One, Unknown, HighZ, Bit}
use Rattle.cs_json.specs.declared.document.Document.{Document}
use Rattle.cs_json.specs.declared.document.Module.{Module}
use Rattle.cs_json.specs.declared.document.PortDecl.{PortDecl}
use Rattle.cs_json.specs.declared.document.CellDecl.{CellDecl}
use Rattle.cs_json.specs.declared.document.PinDecl.{PinDecl}
use Rattle.cs_json.specs.declared.document.NetDecl.{NetDecl}
use Rattle.cs_json.specs.declared.document.Entry.{Entry}
use Rattle.cs_json.specs.declared.document.Datum.{Datum}
use Rattle.cs_json.specs.declared.document.Datum.TheVariants.{Digits, Number}
use Rattle.cs_json.specs.declared.document.Direction.{Direction}
use Rattle.cs_json.specs.declared.document.Direction.TheVariants.{Input, Output, Inout}
use Rattle.std.specs.Str.{is_utf8}
use Rattle.cs_json.specs.declared.document.Place.{Place}
use Rattle.cs_json.specs.Walk.{Read, ◌>>=◌, found, entries, each_member, each_item, each_of, members, list, text, required, optional}
use Rattle.serde_json.specs.Read.{read as read_text}

-- ---- attributes and parameters

-- a whole number of an attribute or a parameter is in range
abbrev pub is_kept_number : ℤ → Bool
is_kept_number (pos n) = nat_lt n (2 ^ 64)
is_kept_number (negsuc n) = nat_lt n (2 ^ 31)

-- the number, where it is in range
abbrev pub kept_number : ℤ → Option Datum
kept_number z = if is_kept_number z then Some (Number z) else None

-- a text, or a whole number in range; any other value is passed over
abbrev pub datum_of : Data → Option Datum
datum_of null = None
datum_of (boolean b) = None
datum_of (number n) = option_and_then kept_number (as_integer n)
datum_of (string s) = Some (Digits s)
datum_of (array ds) = None
datum_of (object ms) = None

-- the attribute or parameter that a member is
abbrev pub entry_of : List ℕ × Data → Option Entry
entry_of e = option_map (λ datum. record { name = e.0; datum = datum }) (datum_of e.1)

-- the attributes or parameters among some members
abbrev pub entries_of : Members → List Entry
entries_of ms = filter_map entry_of (entries ms)

-- ---- bits

-- 0 and 1 are no bits, and neither is 2^32 - 1
abbrev pub is_bit_number : ℕ → Bool
is_bit_number n = nat_le 2 n && nat_lt n (2 ^ 32 - 1)

-- the bit of a number
abbrev pub bit_number : ℕ → Option Signal
bit_number n = if is_bit_number n then Some (Bit n) else None

-- the constant of a text
abbrev pub constant : List ℕ → Option Signal
constant s =
    if bytes_eq s (codes "0") then Some Zero
    else (if bytes_eq s (codes "1") then Some One
    else (if bytes_eq s (codes "x") then Some Unknown
    else (if bytes_eq s (codes "z") then Some HighZ else None)))

-- the bit of a JSON number
abbrev pub bit_of_number : Num → Option Signal
bit_of_number n = option_and_then bit_number (as_u64 n)

-- the signal of an item; with only_bits it is one of an input port, which holds no constant
abbrev pub signal_of : Bool → Data → Option Signal
signal_of only_bits null = None
signal_of only_bits (boolean b) = None
signal_of only_bits (number n) = bit_of_number n
signal_of true (string s) = None
signal_of false (string s) = constant s
signal_of only_bits (array ds) = None
signal_of only_bits (object ms) = None

-- an item that is no signal is refused
abbrev pub signal : Bool → Data → Read Signal
signal only_bits d = found (signal_of only_bits d)

-- a bit list whose item at the end of a path is refused
abbrev pub no_signal : List ℕ → Read (List Signal)
no_signal path = Err path

-- a bit list
abbrev pub signals : Bool → Data → Read (List Signal)
signals only_bits d = list d >>= each_item (signal only_bits) 0

-- ---- ports

-- the direction of a text
abbrev pub direction_of : List ℕ → Option Direction
direction_of s =
    if bytes_eq s (codes "input") then Some Input
    else (if bytes_eq s (codes "output") then Some Output
    else (if bytes_eq s (codes "inout") then Some Inout else None))

-- another text is refused
abbrev pub direction : Data → Read Direction
direction d = text d >>= λ s. found (direction_of s)

-- whether the member at a key is this word
abbrev pub says : List ℕ → List ℕ → Members → Bool
says word key ms =
    unwrap_or (option_map (λ s. bytes_eq s word) (option_and_then as_str (get_member key ms))) false

-- a port of this name
abbrev pub port : List ℕ → Data → Read PortDecl
port name d =
    members d >>= λ ms.
    let only_bits = says (codes "input") (codes "direction") ms in
    required (signals only_bits) (codes "bits") ms >>= λ bits.
    required direction (codes "direction") ms >>= λ found.
    Ok (record { name = name; direction = found; bits = bits })

-- ---- cells

-- the bits of a pin, under its name
abbrev pub Wire : Type 0
Wire = List ℕ × List Signal

-- the bits of one pin
abbrev pub wire : List ℕ → Data → Read Wire
wire name d = signals false d >>= λ bits. Ok (name, bits)

-- the bits of all pins
abbrev pub wires : Data → Read (List Wire)
wires d = members d >>= λ ms. each_member wire (entries ms)

-- a pin is an output where its direction says so
abbrev pub pin_of : Members → Wire → PinDecl
pin_of directions w =
    record { name = w.0; bits = w.1; output = says (codes "output") w.0 directions }

-- a cell of this name
abbrev pub cell : List ℕ → Data → Read CellDecl
cell name d =
    members d >>= λ ms.
    optional (codes "attributes") ms >>= λ attributes.
    required wires (codes "connections") ms >>= λ found.
    optional (codes "parameters") ms >>= λ parameters.
    optional (codes "port_directions") ms >>= λ directions.
    required text (codes "type") ms >>= λ kind.
    Ok (record {
      name = name;
      kind = kind;
      parameters = entries_of parameters;
      attributes = entries_of attributes;
      pins = map (pin_of directions) found;
    })

-- ---- nets, modules, the root

-- a netname of this name
abbrev pub net : List ℕ → Data → Read NetDecl
net name d =
    members d >>= λ ms.
    optional (codes "attributes") ms >>= λ attributes.
    required (signals false) (codes "bits") ms >>= λ bits.
    Ok (record { name = name; bits = bits; attributes = entries_of attributes })

-- a module of this name
abbrev pub «module» : List ℕ → Data → Read Module
«module» name d =
    members d >>= λ ms.
    optional (codes "attributes") ms >>= λ attributes.
    each_of cell (codes "cells") ms >>= λ cells.
    each_of net (codes "netnames") ms >>= λ nets.
    each_of port (codes "ports") ms >>= λ ports.
    Ok (record {
      name = name;
      attributes = entries_of attributes;
      ports = ports;
      cells = cells;
      nets = nets;
    })

-- all modules
abbrev pub modules : Data → Read (List Module)
modules d = members d >>= λ ms. each_member «module» (entries ms)

-- the whole document
abbrev pub root : Data → Read Document
root d =
    members d >>= λ ms.
    required modules (codes "modules") ms >>= λ found.
    Ok (record { modules = found })

-- the same with the refused place as a `Place`
abbrev pub place_of : Read Document → Result Document Place
place_of (Ok doc) = Ok doc
place_of (Err at) = Err (record { path = at })

-- the document of a JSON value, or the first place that is refused
unfoldable pub doc_of : Data → Result Document Place
doc_of d = place_of (root d)

-- what bytes say: no JSON, a refused place, or a document
pub data Reading : Type 0 where
  NoJson : Reading
  RefusedAt : Place → Reading
  Says : Document → Reading

-- JSON says a document or has a refused place
abbrev pub reading_of : Result Document Place → Reading
reading_of (Ok doc) = Says doc
reading_of (Err place) = RefusedAt place

-- a text that is no JSON says nothing
abbrev pub reading : Option Data → Reading
reading None = NoJson
reading (Some d) = reading_of (doc_of d)

-- the JSON value of bytes, which have to be UTF-8
abbrev pub json_of : List ℕ → Option Data
json_of bytes = if is_utf8 bytes then read_text bytes else None

-- what bytes say
abbrev pub document : List ℕ → Reading
document bytes = reading (json_of bytes)
