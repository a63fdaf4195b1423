-- The line of each fault.
use Rattle.std.specs.Prelude.{ℕ, List, [], ◌∷◌, ◌++◌, codes, decimal}
use Rattle.cs_report.specs.declared.fault.Fault.{Fault}
use Rattle.cs_report.specs.declared.fault.Fault.TheVariants.{NoMemory, NoCommand, WordsOf, NumberOf, SameName, CannotRead, CannotWrite, DocumentNotJson, DocumentShape, Refused, Limit, FileTooLong, StimulusWidth, StimulusCharacter, StimulusUneven, CertificateNotJson, CertificateShape, ImagesNotJson, ImagesShape, ImagesName, ImagesCount}
use Rattle.cs_report.specs.Limits.{limit_words}
use Rattle.cs_report.specs.Refused.{refused_words}
use Rattle.cs_report.specs.Words.{quoted}

-- a file with more than 67,108,864 bytes
abbrev pub too_long : List ℕ → List ℕ
too_long name = codes "limit: " ++ name ++ codes " is longer than 67108864 bytes"

-- a line of a stimulus, by its number from 1
abbrev pub line_width : ℕ → List ℕ
line_width line = codes "stimulus: line " ++ decimal line ++ codes " has another length"

-- a byte of a line, by its column from 1
abbrev pub line_column : ℕ → ℕ → List ℕ
line_column line column = codes "stimulus: line " ++ (decimal line ++ (codes " column " ++ decimal column))

-- a stream, by its place from 0
abbrev pub uneven : ℕ → List ℕ
uneven stream = codes "stimulus: stream " ++ decimal stream ++ codes " has another count of lines"

-- a memory with so many images
abbrev pub images_count : List ℕ → ℕ → List ℕ
images_count name found = codes "images: " ++ (quoted name ++ (codes " has " ++ (decimal found ++ codes " images")))

abbrev pub fault_words : Fault → List ℕ
fault_words NoMemory = codes "out of memory"
fault_words NoCommand = codes "usage: no such command"
fault_words (WordsOf command) = codes "usage: words of " ++ command
fault_words (NumberOf name) = codes "usage: number of " ++ name
fault_words SameName = codes "usage: OUT and CERT are one name"
fault_words (CannotRead name) = codes "cannot read " ++ name
fault_words (CannotWrite name) = codes "cannot write " ++ name
fault_words DocumentNotJson = codes "document: not json"
fault_words (DocumentShape place) = codes "document: bad shape at " ++ place.path
fault_words (Refused error) = refused_words error
fault_words (Limit fault) = limit_words fault
fault_words (FileTooLong name) = too_long name
fault_words (StimulusWidth line) = line_width line
fault_words (StimulusCharacter line column) = line_column line column
fault_words (StimulusUneven stream) = uneven stream
fault_words CertificateNotJson = codes "certificate: not json"
fault_words (CertificateShape place) = codes "certificate: bad shape at " ++ place.path
fault_words ImagesNotJson = codes "images: not json"
fault_words (ImagesShape place) = codes "images: bad shape at " ++ place.path
fault_words (ImagesName name) = codes "images: no memory " ++ quoted name
fault_words (ImagesCount name found) = images_count name found

-- the words and a newline
abbrev pub fault_line : Fault → List ℕ
fault_line fault = fault_words fault ++ 10 ∷ []
