-- What a reader of the code answers, against what there is to read.
use Rattle.std.specs.Prelude.{◌≡◌, [], Option, Some, None, Result, Ok, Err, String}
use Rattle.std.specs.Borrow.{Bor}
use Rattle.std.specs.declared.alloc.Global.{Global}
use Rattle.std.specs.BTreeMap.{BTreeMap}
use Rattle.serde_json.specs.Data.{Members, no_members}
use Rattle.serde_json.specs.View.{members_view}
use Rattle.serde_json.specs.declared.value.Value.{Value}
use Rattle.cs_json.specs.declared.error.ReadError.{ReadError}
use Rattle.cs_json.specs.declared.error.ReadError.TheVariants.{NoMemory, Refused}
use Rattle.cs_json.specs.declared.document.Document.{Document}
use Rattle.cs_json.specs.declared.error.DocError.{DocError}
use Rattle.cs_json.specs.declared.error.DocError.TheVariants.{NotJson as no_json, BadShape, NoMemory as out_of_memory}
use Rattle.cs_json.specs.Shape.{Reading, NoJson, RefusedAt, Says}
use Rattle.cs_json.specs.Walk.{Read, Path}

-- memory ran out, or this is the first refused place
abbrev pub Fails : {A : Type 0} → ReadError → Read A → Type 0
Fails NoMemory read = Unit {0}
Fails (Refused path) read = read ≡ Err path

-- what is read or the first refused place, unless memory ran out
abbrev pub Gives : {A : Type 0} → Result A ReadError → Read A → Type 0
Gives (Ok a) read = read ≡ Ok a
Gives (Err e) read = Fails e read

-- the value itself is refused
abbrev pub RefusesHere : ReadError → Type 0
RefusesHere e = e ≡ Refused []

-- memory ran out, or the value at the end of this path is refused
abbrev pub RefusesAt : Path → ReadError → Type 0
RefusesAt path NoMemory = Unit {0}
RefusesAt path (Refused at) = at ≡ path

-- the members of an object that may be missing
abbrev pub members_at : Option (Bor (BTreeMap (String Global) Value)) → Members
members_at None = no_members
members_at (Some map) = members_view map.now.entries

-- the answer for what bytes say, unless memory ran out
abbrev pub Answers : Result Document DocError → Reading → Type 0
Answers (Ok doc) said = said ≡ Says doc
Answers (Err no_json) said = said ≡ NoJson
Answers (Err (BadShape at)) said = said ≡ RefusedAt at
Answers (Err out_of_memory) said = Unit {0}
