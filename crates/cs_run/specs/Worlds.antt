-- A store and a sink, and what writes and puts leave there.
use Rattle.std.specs.Prelude.{ℕ, ◌≡◌, ◌≢◌, ◌⊎◌, List, [], ◌∷◌, Option}
use Rattle.std.specs.Option.{option_map}
use Rattle.std.specs.FinMap as map
use Rattle.cs_io.specs.Stores.{Files, StoreState, FileHas, with_file, FailsToWrite}
use Rattle.cs_io.specs.Sinks.{SinkState, appended, FailsToPut}
use Rattle.cs_report.specs.declared.fault.Fault.TheVariants.{NoMemory as NoMemoryFault}
use Rattle.cs_report.specs.FaultLines.{fault_line}
use Rattle.cs_run.specs.declared.reply.NewFile.{NewFile}
use Rattle.cs_run.specs.declared.reply.Reply.{Reply}
use Rattle.cs_run.specs.declared.status.Status.{Status}
use Rattle.cs_run.specs.declared.status.Status.TheVariants.{NoMemory, WriteFault}
use Rattle.cs_run.specs.declared.stop.Stop.{Stop}
use Rattle.cs_run.specs.declared.stop.Stop.TheVariants.{OutOfMemory, Refused}
use Rattle.cs_run.specs.Statuses.{status_unput}

-- a store and a sink at one moment
pub record World : Type 0 where
  pub store : StoreState
  pub sink : SinkState

abbrev pub world : StoreState → SinkState → World
world store sink = record { store = store; sink = sink }

-- ---- files

-- what the store tells of a file: whether it is there, and its bytes
abbrev pub file_in : Option Files → List ℕ → Option (Option (List ℕ))
file_in files name = option_map (λ told. map.get told name) files

-- the file of a name has these bytes
abbrev pub Holds : Option Files → List ℕ → List ℕ → Type 0
Holds files name bytes = FileHas files name (λ found. found ≡ bytes)

-- a store after a write, and after writes in order
abbrev pub after_write : StoreState → NewFile → StoreState
after_write store file = record store { files = with_file store.files file.name file.bytes }

abbrev pub after_writes : StoreState → List NewFile → StoreState
after_writes store [] = store
after_writes store (file ∷ files) = after_writes (after_write store file) files

-- the write of one of the files failed, after those before it
abbrev pub StopsWriting : List NewFile → StoreState → StoreState → NewFile → Type 0
StopsWriting [] old new failed = ⊥
StopsWriting (file ∷ files) old new failed =
    (FailsToWrite old new file.name file.bytes × (failed ≡ file)) ⊎ StopsWriting files (after_write old file) new failed

-- ---- puts

-- a sink after a put, and after puts in order
abbrev pub after_put : SinkState → List ℕ → SinkState
after_put sink text = record sink { written = appended sink.written text }

abbrev pub after_puts : SinkState → List (List ℕ) → SinkState
after_puts sink [] = sink
after_puts sink (text ∷ texts) = after_puts (after_put sink text) texts

-- the bytes were put
abbrev pub Puts : SinkState → SinkState → List ℕ → Type 0
Puts old new bytes = new ≡ after_put old bytes

-- there were bytes to put, and the sink failed after a prefix of them
abbrev pub StopsPutting : SinkState → SinkState → List ℕ → Type 0
StopsPutting old new bytes = (bytes ≢ []) × FailsToPut old new bytes

-- the bytes were put, or the sink failed after a prefix of them
abbrev pub PutsSome : SinkState → SinkState → List ℕ → Type 0
PutsSome old new bytes = Puts old new bytes ⊎ StopsPutting old new bytes

-- the put of one of the texts failed, after those before it, and none behind it was put
abbrev pub StopsAtPut : List (List ℕ) → SinkState → SinkState → Type 0
StopsAtPut [] old new = ⊥
StopsAtPut (text ∷ texts) old new = StopsPutting old new text ⊎ StopsAtPut texts (after_put old text) new

-- ---- replies and stops

-- all texts were put, or the sink failed at one of them
abbrev pub PutsTexts : Reply → SinkState → SinkState → Status → Type 0
PutsTexts reply old new status =
    ((status ≡ reply.status) × (new ≡ after_puts old reply.texts))
    ⊎ ((status ≡ status_unput reply.status) × StopsAtPut reply.texts old new)

-- a write failed, and its fault's line was put
abbrev pub StopsAtWrite : List NewFile → World → World → Type 0
StopsAtWrite writes old new =
    (failed : NewFile) × StopsWriting writes old.store new.store failed × PutsSome old.sink new.sink failed.fault_line

-- what carrying out a reply of any status leaves, and the status
abbrev pub CarriesOut : Reply → World → World → Status → Type 0
CarriesOut reply old new status =
    ((new.store ≡ after_writes old.store reply.writes) × PutsTexts reply old.sink new.sink status)
    ⊎ ((status ≡ WriteFault) × StopsAtWrite reply.writes old new)

-- the status and the line of what stops a command
abbrev pub stop_status : Stop → Status
stop_status OutOfMemory = NoMemory
stop_status (Refused refusal) = refusal.status

abbrev pub stop_line : Stop → List ℕ
stop_line OutOfMemory = fault_line NoMemoryFault
stop_line (Refused refusal) = refusal.line

-- the line was put, and the status stays whatever became of it
abbrev pub PutsStop : Stop → SinkState → SinkState → Status → Type 0
PutsStop stop old new status = (status ≡ stop_status stop) × PutsSome old new (stop_line stop)

-- ---- what stands afterwards

-- one file is written and nothing else happens
pub record WritesOne (old new : World) (name bytes : List ℕ) : Type 0 where
  pub store : new.store ≡ record old.store { files = with_file old.store.files name bytes }
  pub sink : new.sink ≡ old.sink

-- these bytes are put and nothing else happens
pub record PutsOnly (old new : World) (bytes : List ℕ) : Type 0 where
  pub store : new.store ≡ old.store
  pub sink : Puts old.sink new.sink bytes

-- the put of these bytes failed, behind a prefix of them, and nothing else happened
pub record FailsPutting (old new : World) (bytes : List ℕ) : Type 0 where
  pub store : new.store ≡ old.store
  pub sink : StopsPutting old.sink new.sink bytes
