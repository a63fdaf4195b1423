-- Documents whose texts are UTF-8, as every text in memory is.
use Rattle.std.specs.Prelude.{⊤, IsUtf8}
use Rattle.std.specs.List.{AllByRecursion}
use Rattle.cs_json.specs.declared.document.Document.{Document}
use Rattle.cs_json.specs.declared.document.Module.{Module}
use Rattle.cs_json.specs.declared.document.CellDecl.{CellDecl}
use Rattle.cs_json.specs.declared.document.NetDecl.{NetDecl}
use Rattle.cs_json.specs.declared.document.Entry.{Entry}
use Rattle.cs_json.specs.declared.document.Datum.{Datum}
use Rattle.cs_json.specs.declared.document.Datum.TheVariants.{Digits, Number}

-- digits are UTF-8
abbrev pub IsUtf8Datum : Datum → Type 0
IsUtf8Datum (Digits s) = IsUtf8 s
IsUtf8Datum (Number z) = ⊤

-- an attribute or a parameter
abbrev pub IsUtf8Entry : Entry → Type 0
IsUtf8Entry e = IsUtf8 e.name × IsUtf8Datum e.datum

-- a netname
abbrev pub IsUtf8Net : NetDecl → Type 0
IsUtf8Net n = IsUtf8 n.name × AllByRecursion IsUtf8Entry n.attributes

-- a cell
pub record IsUtf8Cell (c : CellDecl) : Type 0 where
  pub name : IsUtf8 c.name
  pub kind : IsUtf8 c.kind
  pub attributes : AllByRecursion IsUtf8Entry c.attributes
  pub parameters : AllByRecursion IsUtf8Entry c.parameters
  pub pins : AllByRecursion (λ p. IsUtf8 p.name) c.pins

-- a module
pub record IsUtf8Module (m : Module) : Type 0 where
  pub name : IsUtf8 m.name
  pub attributes : AllByRecursion IsUtf8Entry m.attributes
  pub ports : AllByRecursion (λ p. IsUtf8 p.name) m.ports
  pub cells : AllByRecursion IsUtf8Cell m.cells
  pub nets : AllByRecursion IsUtf8Net m.nets

-- a document
abbrev pub IsUtf8Document : Document → Type 0
IsUtf8Document doc = AllByRecursion IsUtf8Module doc.modules
