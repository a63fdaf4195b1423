-- What a reader of the code answers, against what there is to read.
use Rattle.std.specs.Prelude.{◌≡◌, Result, Ok, Err}
use Rattle.cs_net.specs.declared.images.Images.{Images}
use Rattle.cs_images.specs.declared.error.ImageError.{ImageError}
use Rattle.cs_images.specs.declared.error.ImageError.TheVariants.{NotJson as no_json, BadShape, NoMemoryCell, Count, NoMemory as out_of_memory}
use Rattle.cs_images.specs.Said.{Reading, NoJson, RefusedAt, NamesNoMemory, HasOtherCount, Says}

-- the answer for what bytes say, unless memory ran out
abbrev pub Answers : Result Images ImageError → Reading → Type 0
Answers (Ok images) said = said ≡ Says images
Answers (Err no_json) said = said ≡ NoJson
Answers (Err (BadShape at)) said = said ≡ RefusedAt at
Answers (Err (NoMemoryCell name)) said = said ≡ NamesNoMemory name
Answers (Err (Count name found)) said = said ≡ HasOtherCount name found
Answers (Err out_of_memory) said = Unit {0}

-- an error that tells of a fault, unless memory ran out
abbrev pub Tells : ImageError → Reading → Type 0
Tells e said = Answers (Err e) said
