-- What is printed of a document has no float.
use Rattle.std.proofs.Common.{◌≡◌, List, [], ◌∷◌, Bool, false, ◌||◌, map, refl, pos, negsuc}
use Rattle.serde_json.specs.Data.{Data}
use Rattle.serde_json.specs.View.{items_of}
use Rattle.serde_json.specs.Written.{has_float, items_have_float, members_have_float}
use Rattle.cs_base.specs.declared.signal.Signal.{Signal}
use Rattle.cs_base.specs.declared.signal.Signal.TheVariants.{Zero, One, Unknown, HighZ, Bit}
use Rattle.cs_json.specs.declared.document.PortDecl.{PortDecl}
use Rattle.cs_json.specs.declared.document.CellDecl.{CellDecl}
use Rattle.cs_json.specs.declared.document.NetDecl.{NetDecl}
use Rattle.cs_json.specs.declared.document.Entry.{Entry}
use Rattle.cs_json.specs.declared.document.Datum.{Datum}
use Rattle.cs_json.specs.declared.document.Datum.TheVariants.{Digits, Number}
use Rattle.cs_json.specs.Printed.{Member, members_from, signal_data, signals_data, datum_data, entry_member, port_member, net_member, wire_of, wire_member, side_member, cell_member}

pub neither : (a b : Bool) → a ≡ false → b ≡ false → (a || b) ≡ false
neither a b x y = rw (x, y) refl

members_none : {A : Type 0} (f : A → Member) → ((a : A) → has_float (f a).1 ≡ false) → (xs : List A)
    → members_have_float (members_from (map f xs)) ≡ false
members_none f each [] = refl
members_none f each (x ∷ xs) =
    neither (has_float (f x).1) (members_have_float (members_from (map f xs))) (each x)
    (members_none f each xs)

pub items_none : {A : Type 0} (f : A → Data) → ((a : A) → has_float (f a) ≡ false) → (xs : List A)
    → items_have_float (items_of (map f xs)) ≡ false
items_none f each [] = refl
items_none f each (x ∷ xs) =
    neither (has_float (f x)) (items_have_float (items_of (map f xs))) (each x)
    (items_none f each xs)

signal_none : (s : Signal) → has_float (signal_data s) ≡ false
signal_none Zero = refl
signal_none One = refl
signal_none Unknown = refl
signal_none HighZ = refl
signal_none (Bit b) = refl

signals_none : (bits : List Signal) → has_float (signals_data bits) ≡ false
signals_none bits = items_none signal_data signal_none bits

datum_none : (d : Datum) → has_float (datum_data d) ≡ false
datum_none (Digits s) = refl
datum_none (Number (pos n)) = refl
datum_none (Number (negsuc n)) = refl

pub entries_none : (es : List Entry) → members_have_float (members_from (map entry_member es)) ≡ false
entries_none es = members_none entry_member (λ e. datum_none e.datum) es

pub port_none : (p : PortDecl) → has_float (port_member p).1 ≡ false
port_none p = neither (has_float (signals_data p.bits)) false (signals_none p.bits) refl

pub net_none : (n : NetDecl) → has_float (net_member n).1 ≡ false
net_none n = rw (entries_none n.attributes, signals_none n.bits) refl

pub cell_none : (c : CellDecl) → has_float (cell_member c).1 ≡ false
cell_none c =
    rw (
      entries_none c.attributes,
      members_none wire_member (λ w. signals_none w.1) (map wire_of c.pins),
      entries_none c.parameters,
      members_none side_member (λ p. refl) c.pins,
    ) refl
