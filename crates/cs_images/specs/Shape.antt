-- The named images that a JSON value is, or the first place that is refused. The walk goes by byte order of keys.
use Rattle.std.specs.Prelude.{ℕ, List, ◌==◌, if◌then◌else◌, Option, Some, None, Ok, option_and_then, codes}
use Rattle.serde_json.specs.Data.{Data}
use Rattle.cs_json.specs.declared.document.Datum.{Datum}
use Rattle.cs_json.specs.declared.document.Datum.TheVariants.{Digits}
use Rattle.cs_json.specs.Walk.{Read, ◌>>=◌, found, entries, each_item, each_member, list, members, required, text, whole_number}
use Rattle.cs_images.specs.declared.named.NamedImages.{NamedImages}

-- the text of an image is a list of digits, as that of a parameter is
abbrev pub image : Data → Read Datum
image d = text d >>= λ s. Ok (Digits s)

-- the texts of a memory, one for each context
abbrev pub texts : Data → Read (List Datum)
texts d = list d >>= each_item image 0

-- the images under a name
abbrev pub named : List ℕ → Data → Read NamedImages
named name d = texts d >>= λ ts. Ok (record { name = name; texts = ts })

-- the images under all names
abbrev pub all_named : Data → Read (List NamedImages)
all_named d = members d >>= λ ms. each_member named (entries ms)

-- the only version is 1
abbrev pub known_version : ℕ → Option ℕ
known_version n = if n == 1 then Some n else None

-- any other value is refused
abbrev pub version : Data → Read ℕ
version d = found (option_and_then known_version (whole_number d))

-- the whole file
unfoldable pub written : Data → Read (List NamedImages)
written d =
    members d >>= λ ms.
    required all_named (codes "images") ms >>= λ images.
    required version (codes "version") ms >>= λ number.
    Ok images
