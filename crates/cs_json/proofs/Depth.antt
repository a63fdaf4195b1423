-- A printed document nests seven deep, so its text is read again.
use Rattle.std.proofs.Common.{ℕ, ◌≤◌, List, [], ◌∷◌, map, arith}
use Rattle.serde_json.specs.Data.{Data, depth, items_depth, members_depth}
use Rattle.cs_base.specs.declared.signal.Signal.{Signal}
use Rattle.cs_base.specs.declared.signal.Signal.TheVariants.{Zero, One, Unknown, HighZ, Bit}
use Rattle.cs_json.specs.declared.document.Document.{Document}
use Rattle.cs_json.specs.declared.document.Module.{Module}
use Rattle.cs_json.specs.declared.document.PortDecl.{PortDecl}
use Rattle.cs_json.specs.declared.document.CellDecl.{CellDecl}
use Rattle.cs_json.specs.declared.document.NetDecl.{NetDecl}
use Rattle.cs_json.specs.declared.document.Entry.{Entry}
use Rattle.cs_json.specs.declared.document.Datum.{Datum}
use Rattle.cs_json.specs.declared.document.Datum.TheVariants.{Digits, Number}
use Rattle.serde_json.specs.View.{items_of}
use Rattle.cs_json.specs.Printed.{Member, members_from, signal_data, signals_data, datum_data, entry_member, port_member, net_member, wire_of, wire_member, side_member, cell_member, module_member, data_of}

members_within : {A : Type 0} (f : A → Member) (n : ℕ) → ((a : A) → depth (f a).1 ≤ n)
    → (xs : List A) → members_depth (members_from (map f xs)) ≤ n
members_within f n each [] = omega arith
members_within f n each (x ∷ xs) =
    let first = each x in let rest = members_within f n each xs in omega (arith, first, rest)

pub items_within : {A : Type 0} (f : A → Data) (n : ℕ) → ((a : A) → depth (f a) ≤ n) → (xs : List A)
    → items_depth (items_of (map f xs)) ≤ n
items_within f n each [] = omega arith
items_within f n each (x ∷ xs) =
    let first = each x in let rest = items_within f n each xs in omega (arith, first, rest)

signal_flat : (s : Signal) → depth (signal_data s) ≤ 0
signal_flat Zero = omega arith
signal_flat One = omega arith
signal_flat Unknown = omega arith
signal_flat HighZ = omega arith
signal_flat (Bit b) = omega arith

signals_depth : (bits : List Signal) → depth (signals_data bits) ≤ 1
signals_depth bits = let inner = items_within signal_data 0 signal_flat bits in omega (arith, inner)

datum_flat : (d : Datum) → depth (datum_data d) ≤ 0
datum_flat (Digits s) = omega arith
datum_flat (Number z) = omega arith

entries_depth : (es : List Entry) → members_depth (members_from (map entry_member es)) ≤ 0
entries_depth es = members_within entry_member 0 (λ e. datum_flat e.datum) es

port_depth : (p : PortDecl) → depth (port_member p).1 ≤ 2
port_depth p = let inner = signals_depth p.bits in omega (arith, inner)

net_depth : (n : NetDecl) → depth (net_member n).1 ≤ 2
net_depth n =
    let inner = signals_depth n.bits in
    let kept = entries_depth n.attributes in omega (arith, inner, kept)

cell_depth : (c : CellDecl) → depth (cell_member c).1 ≤ 3
cell_depth c =
    let wires = members_within wire_member 1 (λ w. signals_depth w.1) (map wire_of c.pins) in
    let sides = members_within side_member 0 (λ p. omega arith) c.pins in
    let attributes = entries_depth c.attributes in
    let parameters = entries_depth c.parameters in
    omega (arith, wires, sides, attributes, parameters)

module_depth : (m : Module) → depth (module_member m).1 ≤ 5
module_depth m =
    let attributes = entries_depth m.attributes in
    let cells = members_within cell_member 3 cell_depth m.cells in
    let nets = members_within net_member 2 net_depth m.nets in
    let ports = members_within port_member 2 port_depth m.ports in
    omega (arith, attributes, cells, nets, ports)

pub depth-data_of : (doc : Document) → depth (data_of doc) ≤ 7
unfolding data_of
depth-data_of doc =
    let inner = members_within module_member 5 module_depth doc.modules in omega (arith, inner)
