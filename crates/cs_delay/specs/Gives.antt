-- What a reader of the code answers, against what there is to read.
use Rattle.std.specs.Prelude.{◌≡◌, Result, Ok, Err}
use Rattle.cs_delay.specs.declared.error.DelayError.{DelayError}
use Rattle.cs_delay.specs.declared.error.DelayError.TheVariants.{NotJson as no_json, BadShape, TooLarge, NoDelay, NoMemory as out_of_memory}
use Rattle.cs_delay.specs.declared.table.DelayTable.{DelayTable}
use Rattle.cs_delay.specs.Shape.{Reading, NoJson, RefusedAt, Exceeds, Says, parts}

-- the answer for what bytes say, unless memory ran out
abbrev pub Answers : Result DelayTable DelayError → Reading → Type 0
Answers (Ok table) said = said ≡ Says (parts table)
Answers (Err no_json) said = said ≡ NoJson
Answers (Err (BadShape at)) said = said ≡ RefusedAt at
Answers (Err (TooLarge kind)) said = said ≡ Exceeds kind
Answers (Err (NoDelay kind)) said = ⊥
Answers (Err out_of_memory) said = Unit {0}
