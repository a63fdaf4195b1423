-- What the bytes of an images file say for a netlist and a number of contexts.
use Rattle.std.specs.Prelude.{ℕ, List, length, if◌then◌else◌, Option, Some, None, Ok, Err}
use Rattle.serde_json.specs.Data.{Data}
use Rattle.cs_json.specs.declared.document.Place.{Place}
use Rattle.cs_json.specs.Shape.{json_of}
use Rattle.cs_json.specs.Walk.{Read}
use Rattle.cs_net.specs.Netlist.{Net}
use Rattle.cs_net.specs.declared.images.Images.{Images}
use Rattle.cs_images.specs.declared.named.NamedImages.{NamedImages}
use Rattle.cs_images.specs.Images.{all_images}
use Rattle.cs_images.specs.Names.{first_faulty, is_among, memory_names}
use Rattle.cs_images.specs.Shape.{written}

-- no JSON, a refused place, a name of no memory cell, a name with another number of images than contexts, or images
pub data Reading : Type 0 where
  NoJson : Reading
  RefusedAt : Place → Reading
  NamesNoMemory : List ℕ → Reading
  HasOtherCount : List ℕ → ℕ → Reading
  Says : Images → Reading

-- what is wrong with a faulty name: above all, that it is the name of no memory cell
abbrev pub fault_of : List (List ℕ) → NamedImages → Reading
fault_of memories n =
    if is_among memories n.name then HasOtherCount n.name (length n.texts) else NamesNoMemory n.name

-- the images, where no name is faulty, or what is wrong with the first that is
abbrev pub checked : Net → List NamedImages → Option NamedImages → Reading
checked net named None = Says (all_images named net.memories)
checked net named (Some n) = fault_of (memory_names net.cells) n

-- named images, or a refused place
abbrev pub reading_of : Net → ℕ → Read (List NamedImages) → Reading
reading_of net c (Ok named) = checked net named (first_faulty (memory_names net.cells) c named)
reading_of net c (Err path) = RefusedAt (record { path = path })

-- a text that is no JSON says nothing
abbrev pub reading : Net → ℕ → Option Data → Reading
reading net c None = NoJson
reading net c (Some d) = reading_of net c (written d)

-- what bytes say
abbrev pub images_in : Net → ℕ → List ℕ → Reading
images_in net c bytes = reading net c (json_of bytes)
