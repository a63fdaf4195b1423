-- The statuses: their numbers, what they are of, and the status of each fault.
use Rattle.std.specs.Prelude.{ℕ, Bool, true, false, List, [], ◌∷◌, map}
use Rattle.cs_conditions.specs.declared.error.NetError.{NetError}
use Rattle.cs_conditions.specs.declared.error.NetError.TheVariants as net
use Rattle.cs_report.specs.declared.fault.Fault.{Fault}
use Rattle.cs_report.specs.declared.fault.Fault.TheVariants as fault
use Rattle.cs_run.specs.declared.status.Status.{Status}
use Rattle.cs_run.specs.declared.status.Status.TheVariants.{Done, NoMemory, Usage, ReadFault, WriteFault, DocumentFault, NetlistFault, Limit, StimulusFault, CertificateFault, ImagesFault}

-- ---- numbers

abbrev pub code_of : Status → ℕ
code_of Done = 0
code_of NoMemory = 1
code_of Usage = 2
code_of ReadFault = 3
code_of WriteFault = 4
code_of DocumentFault = 5
code_of NetlistFault = 6
code_of Limit = 8
code_of StimulusFault = 11
code_of CertificateFault = 12
code_of ImagesFault = 13

-- all statuses, and the numbers that a run answers
abbrev pub all_statuses : List Status
all_statuses =
    Done ∷ NoMemory ∷ Usage ∷ ReadFault ∷ WriteFault ∷ DocumentFault ∷ NetlistFault ∷ Limit ∷ StimulusFault ∷ CertificateFault
    ∷ ImagesFault ∷ []

abbrev pub all_codes : List ℕ
all_codes = map code_of all_statuses

-- ---- faults

-- a netlist is refused for a count above its limit, or for another fault
abbrev pub net_status : NetError → Status
net_status (net.Limit fault) = Limit
net_status net.NoMemory = NoMemory
net_status _ = NetlistFault

-- the status of a run that tells a fault
abbrev pub status_of : Fault → Status
status_of fault.NoMemory = NoMemory
status_of fault.NoCommand = Usage
status_of (fault.WordsOf command) = Usage
status_of (fault.NumberOf name) = Usage
status_of fault.SameName = Usage
status_of (fault.CannotRead name) = ReadFault
status_of (fault.CannotWrite name) = WriteFault
status_of fault.DocumentNotJson = DocumentFault
status_of (fault.DocumentShape place) = DocumentFault
status_of (fault.Refused error) = net_status error
status_of (fault.Limit counted) = Limit
status_of (fault.FileTooLong name) = Limit
status_of (fault.StimulusWidth line) = StimulusFault
status_of (fault.StimulusCharacter line column) = StimulusFault
status_of (fault.StimulusUneven stream) = StimulusFault
status_of fault.CertificateNotJson = CertificateFault
status_of (fault.CertificateShape place) = CertificateFault
status_of fault.ImagesNotJson = ImagesFault
status_of (fault.ImagesShape place) = ImagesFault
status_of (fault.ImagesName name) = ImagesFault
status_of (fault.ImagesCount name found) = ImagesFault

-- ---- what statuses are of

-- whether a run of this status only puts the line of a reason that its files gave
abbrev pub is_of_files : Status → Bool
is_of_files Done = false
is_of_files NoMemory = false
is_of_files Usage = false
is_of_files ReadFault = false
is_of_files WriteFault = false
is_of_files _ = true

-- the status of a reply whose text can't be put
abbrev pub status_unput : Status → Status
status_unput Done = WriteFault
status_unput status = status
