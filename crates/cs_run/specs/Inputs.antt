-- The files that a command reads, by their roles, and what they hold.
use Rattle.std.specs.Prelude.{ℕ, ◌<◌, ◌≤◌, ◌≡◌, ◌==◌, ◌⊎◌, ⊤, List, [], ◌∷◌, length, Option, Some, None, IsSome, if◌then◌else◌, unwrap_or}
use Rattle.std.specs.FinMap as map
use Rattle.cs_io.specs.Stores.{Files, FileHas}
use Rattle.cs_run.specs.declared.inputs.Role.{Role}
use Rattle.cs_run.specs.declared.inputs.Role.TheVariants.{In, Net, Stim, Images, Stream, File, Paper}
use Rattle.cs_run.specs.declared.inputs.FileName.{FileName}
use Rattle.cs_run.specs.declared.inputs.Input.{Input}

-- ---- roles

abbrev pub number_of : Role → ℕ
number_of In = 0
number_of Net = 1
number_of Stim = 2
number_of Images = 3
number_of Stream = 4
number_of File = 5
number_of Paper = 6

-- the file of a role
abbrev pub file : Role → List ℕ → FileName
file role name = record { role = role; name = name }

-- the files of several names that have one role
abbrev pub files_of : Role → List (List ℕ) → List FileName
files_of role [] = []
files_of role (name ∷ names) = file role name ∷ files_of role names

-- the bytes of the file of a role, the first such, where one was read
abbrev pub found_bytes : Role → List Input → Option (List ℕ)
found_bytes role [] = None
found_bytes role (input ∷ inputs) = if number_of input.role == number_of role then Some input.bytes else found_bytes role inputs

-- the bytes of the file of a role that the command always reads
abbrev pub bytes_of : Role → List Input → List ℕ
bytes_of role inputs = unwrap_or (found_bytes role inputs) []

-- the bytes of all files, in order
abbrev pub all_bytes : List Input → List (List ℕ)
all_bytes [] = []
all_bytes (input ∷ inputs) = input.bytes ∷ all_bytes inputs

-- ---- lengths

-- the length that no file of a command may exceed
abbrev pub most_bytes : ℕ
most_bytes = 67108864

-- none of these has more bytes
abbrev pub AreFew : List (List ℕ) → Type 0
AreFew [] = ⊤
AreFew (bytes ∷ others) = (length bytes ≤ most_bytes) × AreFew others

-- ---- what files hold

-- each of these files has the bytes of its input, and not too many
abbrev pub FilesHave : Option Files → List FileName → List Input → Type 0
FilesHave files [] [] = ⊤
FilesHave files [] (input ∷ inputs) = ⊥
FilesHave files (read ∷ reads) [] = ⊥
FilesHave files (read ∷ reads) (input ∷ inputs) =
    (input.role ≡ read.role) × FileHas files read.name (λ found. found ≡ input.bytes) × (length input.bytes ≤ most_bytes)
    × FilesHave files reads inputs

-- one of these files has this name, and those before it have bytes, and not too many
abbrev pub ReadUpTo : Option Files → List FileName → List ℕ → Type 0
ReadUpTo files [] name = ⊥
ReadUpTo files (first ∷ reads) name =
    (first.name ≡ name) ⊎ (FileHas files first.name (λ bytes. length bytes ≤ most_bytes) × ReadUpTo files reads name)

-- the first of these files that has too many bytes is that of this name
abbrev pub FirstTooLong : Option Files → List FileName → List ℕ → Type 0
FirstTooLong files [] name = ⊥
FirstTooLong files (first ∷ reads) name =
    ((first.name ≡ name) × FileHas files first.name (λ bytes. most_bytes < length bytes))
    ⊎ (FileHas files first.name (λ bytes. length bytes ≤ most_bytes) × FirstTooLong files reads name)

-- each of these files is there
abbrev pub AreThere : List FileName → Files → Type 0
AreThere [] files = ⊤
AreThere (read ∷ reads) files = IsSome (map.get files read.name) × AreThere reads files
