-- What a command over files, and a run of words, leave in a store and a sink.
use Rattle.std.specs.Prelude.{ℕ, ◌<◌, ◌≤◌, ◌≡◌, ◌⊎◌, length, Result, Ok, Err, Vec, List, [], ◌∷◌, ◌++◌, MatchResult}
use Rattle.std.specs.Bool.{OnFalse}
use Rattle.std.specs.declared.alloc.Global.{Global}
use Rattle.cs_io.specs.Stores.{FileHas, IsMissing, StoreState}
use Rattle.cs_report.specs.declared.fault.Fault.{Fault}
use Rattle.cs_report.specs.declared.fault.Fault.TheVariants.{NoMemory as NoMemoryFault, NoCommand as NoCommandFault, WordsOf, NumberOf, SameName as SameNameFault, CannotRead, FileTooLong}
use Rattle.cs_report.specs.FaultLines.{fault_line}
use Rattle.cs_words.specs.declared.command.Command.{Command}
use Rattle.cs_words.specs.declared.read.WordError.{WordError}
use Rattle.cs_words.specs.declared.read.WordError.TheVariants.{NoCommand, BadWords, BadNumber, SameName, NoMemory as NoMemoryForWords}
use Rattle.cs_words.specs.Commands.{command_of}
use Rattle.cs_run.specs.declared.inputs.FileName.{FileName}
use Rattle.cs_run.specs.declared.inputs.Input.{Input}
use Rattle.cs_run.specs.declared.reply.Refusal.{Refusal}
use Rattle.cs_run.specs.declared.reply.Reply.{Reply}
use Rattle.cs_run.specs.declared.status.Status.{Status}
use Rattle.cs_run.specs.declared.status.Status.TheVariants.{NoMemory}
use Rattle.cs_run.specs.declared.stop.Stop.{Stop}
use Rattle.cs_run.specs.declared.stop.Stop.TheVariants.{OutOfMemory, Refused}
use Rattle.cs_run.specs.Commands.{HasInputs, HasReason, Makes, MakesRight, reads_of}
use Rattle.cs_run.specs.Inputs.{FilesHave, FirstTooLong, ReadUpTo, most_bytes}
use Rattle.cs_run.specs.Reasons.{RefusedFor}
use Rattle.cs_run.specs.Replies.{refusal_for}
use Rattle.cs_run.specs.Worlds.{CarriesOut, PutsSome, World}

-- ---- reading

-- the reading of a file failed: its name was noted, and nothing else happened to the store; where no call may fail
-- for another cause, there is no such file
pub record NotesFailure (old new : StoreState) (name : List ℕ) : Type 0 where
  pub store : new ≡ record old { failed = old.failed ++ name ∷ [] }
  pub missing : OnFalse old.is_fallible (IsMissing old.files name)

-- the reading of one of these files failed, and those before it were read
pub record FailsReading (reads : List FileName) (old new : StoreState) : Type 0 where
  pub name : List ℕ
  pub reached : ReadUpTo old.files reads name
  pub notes : NotesFailure old new name

-- nothing happened to the store, but for the reading of one of these files that may have failed
abbrev pub OnlyReads : List FileName → StoreState → StoreState → Type 0
OnlyReads reads old new = (new ≡ old) ⊎ FailsReading reads old new

-- a file is read, or its reading is the end of the command
abbrev pub ReadsInput : StoreState → StoreState → List ℕ → Result (Vec ℕ Global) Stop → Type 0
ReadsInput old new name (Ok bytes) =
    (new ≡ old) × FileHas old.files name (λ found. found ≡ bytes.items) × (length bytes.items ≤ most_bytes)
ReadsInput old new name (Err (Refused refusal)) =
    (NotesFailure old new name × (refusal ≡ refusal_for (CannotRead name)))
    ⊎ ((new ≡ old) × FileHas old.files name (λ bytes. most_bytes < length bytes) × (refusal ≡ refusal_for (FileTooLong name)))
ReadsInput old new name (Err OutOfMemory) = (new ≡ old) ⊎ NotesFailure old new name

-- the reading of one of these files failed, and the refusal names it
pub record StopsReading (reads : List FileName) (old new : StoreState) (refusal : Refusal) : Type 0 where
  pub fails : FailsReading reads old new
  pub is : refusal ≡ refusal_for (CannotRead fails.name)

-- the first of these files that is too long is named
pub record StopsAtLength (reads : List FileName) (old : StoreState) (refusal : Refusal) : Type 0 where
  pub name : List ℕ
  pub long : FirstTooLong old.files reads name
  pub is : refusal ≡ refusal_for (FileTooLong name)

-- the files are read in order, or the reading of one is the end of the command
abbrev pub ReadsInputs : StoreState → StoreState → List FileName → Result (List Input) Stop → Type 0
ReadsInputs old new reads (Ok inputs) = (new ≡ old) × FilesHave old.files reads inputs
ReadsInputs old new reads (Err (Refused refusal)) =
    StopsReading reads old new refusal ⊎ ((new ≡ old) × StopsAtLength reads old refusal)
ReadsInputs old new reads (Err OutOfMemory) = OnlyReads reads old new

-- ---- a command over files

-- the inputs that the command's files have are answered with this reply, which is right
abbrev pub HasAnswer : Command → StoreState → Reply → Type 0
HasAnswer command old reply = HasInputs command old.files (λ inputs. Makes command inputs reply × MakesRight command inputs)

-- a refusal is of a file that couldn't be read, or for a reason that the files have
abbrev pub IsRefused : Command → StoreState → StoreState → Refusal → Type 0
IsRefused command old new refusal =
    StopsReading (reads_of command) old new refusal ⊎ ((new ≡ old) × RefusedFor (HasReason command old.files) refusal)

-- how reading and answering the files of a command ends
abbrev pub HasOutcome : Command → StoreState → StoreState → Result Reply Stop → Type 0
HasOutcome command old new (Ok reply) = (new ≡ old) × HasAnswer command old reply
HasOutcome command old new (Err (Refused refusal)) = IsRefused command old new refusal
HasOutcome command old new (Err OutOfMemory) = OnlyReads (reads_of command) old new

-- ---- the table of statuses

-- no memory: no file changed, and the line says so
pub record RanOutOfMemory (reads : List FileName) (old new : World) : Type 0 where
  pub store : OnlyReads reads old.store new.store
  pub sink : PutsSome old.sink new.sink (fault_line NoMemoryFault)

-- the line of a refusal was put, whatever its status
pub record PutsRefusal (Refuses : StoreState → StoreState → Refusal → Type 0) (old new : World) (status : Status) : Type 0 where
  pub refusal : Refusal
  pub refused : Refuses old.store new.store refusal
  pub to : status ≡ refusal.status
  pub sink : PutsSome old.sink new.sink refusal.line

-- the command's own answer was carried out, whatever its status
pub record CarriesAnswer (command : Command) (old new : World) (status : Status) : Type 0 where
  pub reply : Reply
  pub answer : HasAnswer command old.store reply
  pub carried : CarriesOut reply old new status

-- what a command over files leaves
abbrev pub Ran : Command → World → World → Status → Type 0
Ran command old new status =
    ((status ≡ NoMemory) × RanOutOfMemory (reads_of command) old new)
    ⊎ PutsRefusal (IsRefused command) old new status ⊎ CarriesAnswer command old new status

-- the fault of words that say no command
abbrev pub words_fault : WordError → Fault
words_fault NoCommand = NoCommandFault
words_fault (BadWords command) = WordsOf command
words_fault (BadNumber name) = NumberOf name
words_fault SameName = SameNameFault
words_fault NoMemoryForWords = NoMemoryFault

-- words that say no command are refused, and the store stays
abbrev pub IsMisused : WordError → StoreState → StoreState → Refusal → Type 0
IsMisused error old new refusal = (new ≡ old) × (refusal ≡ refusal_for (words_fault error))

-- what words that say no command leave
abbrev pub RanWords : WordError → World → World → Status → Type 0
RanWords error old new status =
    ((status ≡ NoMemory) × RanOutOfMemory [] old new) ⊎ PutsRefusal (IsMisused error) old new status

-- ---- a run

-- a run: its words, and the store and the sink before and after it
pub record Run : Type 0 where
  pub words : List (List ℕ)
  pub old : World
  pub new : World

abbrev pub run_of : List (List ℕ) → World → World → Run
run_of words old new = record { words = words; old = old; new = new }

-- what a run leaves
abbrev pub RunEnds : Run → Status → Type 0
RunEnds run status =
    MatchResult (command_of run.words) (λ command. Ran command run.old run.new status) (λ error. RanWords error run.old run.new status)
