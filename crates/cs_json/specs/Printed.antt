-- The JSON value that a document is printed as, and its text.
use Rattle.std.specs.Prelude.{ℕ, List, [], ◌∷◌, ◌++◌, if◌then◌else◌, map, codes}
use Rattle.serde_json.specs.Data.{Data, number, unsigned, string, array, object, Members, no_members, member}
use Rattle.serde_json.specs.Find.{of_integer}
use Rattle.serde_json.specs.View.{items_of}
use Rattle.serde_json.specs.Written.{compact_text}
use Rattle.cs_base.specs.declared.signal.Signal.{Signal}
use Rattle.cs_base.specs.declared.signal.Signal.TheVariants.{Zero, One, Unknown, HighZ, Bit}
use Rattle.cs_json.specs.declared.document.Document.{Document}
use Rattle.cs_json.specs.declared.document.Module.{Module}
use Rattle.cs_json.specs.declared.document.PortDecl.{PortDecl}
use Rattle.cs_json.specs.declared.document.CellDecl.{CellDecl}
use Rattle.cs_json.specs.declared.document.PinDecl.{PinDecl}
use Rattle.cs_json.specs.declared.document.NetDecl.{NetDecl}
use Rattle.cs_json.specs.declared.document.Entry.{Entry}
use Rattle.cs_json.specs.declared.document.Datum.{Datum}
use Rattle.cs_json.specs.declared.document.Datum.TheVariants.{Digits, Number}
use Rattle.cs_json.specs.declared.document.Direction.{Direction}
use Rattle.cs_json.specs.declared.document.Direction.TheVariants.{Input, Output, Inout}
use Rattle.cs_json.specs.Shape.{Wire}

-- a key and its value
abbrev pub Member : Type 0
Member = List ℕ × Data

-- the members of an object, from a list
abbrev pub members_from : List Member → Members
members_from [] = no_members
members_from (e ∷ es) = member e.0 e.1 (members_from es)

-- an object with a member for each thing of a list
abbrev pub object_from : {A : Type 0} → (A → Member) → List A → Data
object_from f xs = object (members_from (map f xs))

-- ---- the parts

-- a bit is its number, a constant its text
abbrev pub signal_data : Signal → Data
signal_data Zero = string (codes "0")
signal_data One = string (codes "1")
signal_data Unknown = string (codes "x")
signal_data HighZ = string (codes "z")
signal_data (Bit b) = number (unsigned b)

-- a bit list
abbrev pub signals_data : List Signal → Data
signals_data bits = array (items_of (map signal_data bits))

-- a text, or a whole number
abbrev pub datum_data : Datum → Data
datum_data (Digits s) = string s
datum_data (Number z) = number (of_integer z)

-- an attribute or a parameter
abbrev pub entry_member : Entry → Member
entry_member e = (e.name, datum_data e.datum)

-- the word for a direction
abbrev pub direction_text : Direction → List ℕ
direction_text Input = codes "input"
direction_text Output = codes "output"
direction_text Inout = codes "inout"

-- a port
abbrev pub port_member : PortDecl → Member
port_member p = (
  p.name,
  object
      (member (codes "bits") (signals_data p.bits)
      (member (codes "direction") (string (direction_text p.direction)) no_members)),
)

-- a netname
abbrev pub net_member : NetDecl → Member
net_member n = (
  n.name,
  object
      (member (codes "attributes") (object_from entry_member n.attributes)
      (member (codes "bits") (signals_data n.bits)
      (member (codes "hide_name") (number (unsigned 1)) no_members))),
)

-- the bits of a pin under its name
abbrev pub wire_of : PinDecl → Wire
wire_of p = (p.name, p.bits)

-- what a pin is connected to
abbrev pub wire_member : Wire → Member
wire_member w = (w.0, signals_data w.1)

-- the direction of a pin
abbrev pub side_member : PinDecl → Member
side_member p = (p.name, string (if p.output then codes "output" else codes "input"))

-- a cell
abbrev pub cell_member : CellDecl → Member
cell_member c = (
  c.name,
  object
      (member (codes "attributes") (object_from entry_member c.attributes)
      (member (codes "connections") (object_from wire_member (map wire_of c.pins))
      (member (codes "hide_name") (number (unsigned 1))
      (member (codes "parameters") (object_from entry_member c.parameters)
      (member (codes "port_directions") (object_from side_member c.pins)
      (member (codes "type") (string c.kind) no_members)))))),
)

-- a module
abbrev pub module_member : Module → Member
module_member m = (
  m.name,
  object
      (member (codes "attributes") (object_from entry_member m.attributes)
      (member (codes "cells") (object_from cell_member m.cells)
      (member (codes "netnames") (object_from net_member m.nets)
      (member (codes "ports") (object_from port_member m.ports) no_members)))),
)

-- the value of a document
unfoldable pub data_of : Document → Data
data_of doc =
    object
    (member (codes "creator") (string (codes "cslow"))
    (member (codes "modules") (object_from module_member doc.modules) no_members))

-- the printed document: its value as compact JSON, and a newline
abbrev pub printed : Document → List ℕ
printed doc = compact_text (data_of doc) ++ 10 ∷ []
