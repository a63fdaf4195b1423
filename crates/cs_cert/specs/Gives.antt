-- What a reader of papers answers, against what bytes say.
use Rattle.std.specs.Prelude.{◌≡◌, Result, Ok, Err}
use Rattle.cs_cert.specs.declared.error.CertError.{CertError}
use Rattle.cs_cert.specs.declared.error.CertError.TheVariants.{NotJson as no_json, BadShape, NoMemory as out_of_memory}
use Rattle.cs_cert.specs.declared.paper.Paper.{Paper}
use Rattle.cs_cert.specs.PaperShape.{Reading, NoJson, RefusedAt, Says}

-- the answer for what bytes say, unless memory ran out
abbrev pub Answers : Result Paper CertError → Reading → Type 0
Answers (Ok p) said = said ≡ Says p
Answers (Err no_json) said = said ≡ NoJson
Answers (Err (BadShape at)) said = said ≡ RefusedAt at
Answers (Err out_of_memory) said = Unit {0}
