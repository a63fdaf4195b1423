-- The images that memories start with: those of a file, or none where no file is named.
use Rattle.std.specs.Prelude.{ℕ, ◌≡◌, List, Option, None, Some}
use Rattle.cs_images.specs.declared.error.ImageError.{ImageError}
use Rattle.cs_images.specs.declared.error.ImageError.TheVariants as image
use Rattle.cs_images.specs.Said.{HasOtherCount, NamesNoMemory, NoJson, Reading, RefusedAt, Says, images_in}
use Rattle.cs_io.specs.Stores.{Files}
use Rattle.cs_net.specs.Contexts.{no_images}
use Rattle.cs_net.specs.Netlist.{Net}
use Rattle.cs_report.specs.declared.fault.Fault.{Fault}
use Rattle.cs_report.specs.declared.fault.Fault.TheVariants.{ImagesCount, ImagesName, ImagesNotJson, ImagesShape, NoMemory}
use Rattle.cs_run.specs.Worlds.{Holds, file_in}

-- ---- bytes

-- why bytes say no images, if they say none
abbrev pub images_refusal : Reading → Option Fault
images_refusal NoJson = Some ImagesNotJson
images_refusal (RefusedAt place) = Some (ImagesShape place)
images_refusal (NamesNoMemory name) = Some (ImagesName name)
images_refusal (HasOtherCount name found) = Some (ImagesCount name found)
images_refusal (Says images) = None

-- the fault of images that can't be read
abbrev pub images_fault : ImageError → Fault
images_fault image.NotJson = ImagesNotJson
images_fault (image.BadShape place) = ImagesShape place
images_fault (image.NoMemoryCell name) = ImagesName name
images_fault (image.Count name found) = ImagesCount name found
images_fault image.NoMemory = NoMemory

-- IMAGES says no images of a netlist for so many contexts, because of this fault
abbrev pub SaysNoImages : ℕ → Net → List ℕ → Fault → Type 0
SaysNoImages contexts net images fault = images_refusal (images_in net contexts images) ≡ Some fault

-- ---- where IMAGES may be left out

-- the images of a netlist for so many contexts, where IMAGES has these bytes, if it is named
abbrev pub images_by : Net → ℕ → Option (List ℕ) → Reading
images_by net contexts None = Says (no_images net)
images_by net contexts (Some bytes) = images_in net contexts bytes

-- they are none, because of this fault
abbrev pub HasNoImages : ℕ → Net → Option (List ℕ) → Fault → Type 0
HasNoImages contexts net images fault = images_refusal (images_by net contexts images) ≡ Some fault

-- the file of this name has these bytes, where there is a name
abbrev pub HoldsBytes : Option Files → Option (List ℕ) → Option (List ℕ) → Type 0
HoldsBytes files None found = found ≡ None
HoldsBytes files (Some name) found = (bytes : List ℕ) × (found ≡ Some bytes) × Holds files name bytes

-- the same where the store tells it
abbrev pub TellsBytes : Option Files → Option (List ℕ) → Option (List ℕ) → Type 0
TellsBytes files None found = found ≡ None
TellsBytes files (Some name) found = (bytes : List ℕ) × (found ≡ Some bytes) × (file_in files name ≡ Some (Some bytes))
