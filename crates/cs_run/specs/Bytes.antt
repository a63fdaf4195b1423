-- Documents and netlists of bytes.
use Rattle.std.specs.Prelude.{◌≡◌, ◌⊎◌, ℕ, List, None, Option, Some}
use Rattle.cs_json.specs.declared.document.Document.{Document}
use Rattle.cs_json.specs.declared.error.DocError.{DocError}
use Rattle.cs_json.specs.declared.error.DocError.TheVariants as json
use Rattle.cs_json.specs.Shape.{document, NoJson, Reading, RefusedAt, Says}
use Rattle.cs_conditions.specs.declared.error.NetError.{NetError}
use Rattle.cs_net.specs.Netlist.{Net}
use Rattle.cs_net.specs.Accept.{IsAccepted, IsNetOfTop, Refuses}
use Rattle.cs_report.specs.declared.fault.Fault.{Fault}
use Rattle.cs_report.specs.declared.fault.Fault.TheVariants.{DocumentNotJson, DocumentShape, NoMemory, Refused}

-- ---- netlists

-- the netlist of bytes is that of the document that they say
pub record IsNetOf (bytes : List ℕ) (net : Net) : Type 0 where
  pub doc : Document
  pub says : document bytes ≡ Says doc
  pub is : IsNetOfTop doc None net

-- the same, where no count is above its limit
pub record IsNetlistOf (bytes : List ℕ) (net : Net) : Type 0 where
  pub doc : Document
  pub says : document bytes ≡ Says doc
  pub accepted : IsAccepted doc None net

-- ---- refusals

-- why bytes say no document, if they say none
abbrev pub document_fault : Reading → Option Fault
document_fault NoJson = Some DocumentNotJson
document_fault (RefusedAt place) = Some (DocumentShape place)
document_fault (Says doc) = None

-- the fault of a document that can't be read
abbrev pub doc_fault : DocError → Fault
doc_fault json.NotJson = DocumentNotJson
doc_fault (json.BadShape place) = DocumentShape place
doc_fault json.NoMemory = NoMemory

-- bytes say no document, because of this fault
abbrev pub SaysNoDocument : List ℕ → Fault → Type 0
SaysNoDocument bytes fault = document_fault (document bytes) ≡ Some fault

-- a document has no netlist, or too large a one, because of this fault
pub record HasNoNetlist (doc : Document) (fault : Fault) : Type 0 where
  pub error : NetError
  pub refuses : Refuses doc None error
  pub is : fault ≡ Refused error

-- bytes say a document that has no netlist, because of this fault
pub record SaysNoNet (bytes : List ℕ) (fault : Fault) : Type 0 where
  pub doc : Document
  pub says : document bytes ≡ Says doc
  pub none : HasNoNetlist doc fault

-- bytes say no netlist, because of this fault
abbrev pub SaysNoNetlist : List ℕ → Fault → Type 0
SaysNoNetlist bytes fault = SaysNoDocument bytes fault ⊎ SaysNoNet bytes fault
