-- The promises of a run: its contract.
use Rattle.std.specs.Prelude.{ℕ, ◌≡◌, ◌⊎◌, List, [], Option, Ok, Err, Result, Some, IsSome, IsTrue, Contains}
use Rattle.cs_cert.specs.declared.paper.Paper.{Paper}
use Rattle.cs_cert.specs.PaperShape.{Says, paper_of}
use Rattle.cs_cert.specs.Papers.{printed}
use Rattle.cs_io.specs.Faults.{Rose}
use Rattle.cs_io.specs.Stores.{Files}
use Rattle.cs_report.specs.declared.fault.Fault.TheVariants.{CannotRead}
use Rattle.cs_report.specs.FaultLines.{fault_line}
use Rattle.cs_report.specs.OwnTexts.{help_text, version_text}
use Rattle.cs_words.specs.declared.command.Command.{Command}
use Rattle.cs_words.specs.declared.command.Command.TheVariants.{Help, Mix, Part, Sim, SimContext, Slow, Upgrade, Version}
use Rattle.cs_words.specs.declared.command.MixWords.{MixWords}
use Rattle.cs_words.specs.declared.command.PartWords.{PartWords}
use Rattle.cs_words.specs.declared.command.SimContextWords.{SimContextWords}
use Rattle.cs_words.specs.declared.command.SimWords.{SimWords}
use Rattle.cs_words.specs.declared.command.SlowWords.{SlowWords}
use Rattle.cs_words.specs.declared.command.UpgradeWords.{UpgradeWords}
use Rattle.cs_words.specs.declared.read.WordError.{WordError}
use Rattle.cs_words.specs.Commands.{command_of}
use Rattle.cs_run.specs.declared.inputs.FileName.{FileName}
use Rattle.cs_run.specs.declared.reply.Reply.{Reply}
use Rattle.cs_run.specs.declared.status.Status.{Status}
use Rattle.cs_run.specs.Commands.{HasInputs, HasReason, Makes, reads_of, writes_of}
use Rattle.cs_run.specs.Mix.{CouldNotWriteMixed, HasMixed, PartsGiveBack, StreamsHave}
use Rattle.cs_run.specs.Part.{CouldNotPutPart, HasParted}
use Rattle.cs_run.specs.Reasons.{Reason}
use Rattle.cs_run.specs.Runs.{FailsReading, HasAnswer, RanOutOfMemory, Run, words_fault}
use Rattle.cs_run.specs.Sim.{CouldNotRespond, HasResponded}
use Rattle.cs_run.specs.SimContext.{CouldNotRespondContext, HasRespondedContext}
use Rattle.cs_run.specs.Slow.{BytesIsolate, CouldNotWriteOut, HasWritten, IsBuilt}
use Rattle.cs_run.specs.Starts.{TellsBytes}
use Rattle.cs_run.specs.Statuses.{all_codes, code_of, is_of_files, status_of}
use Rattle.cs_run.specs.Upgrade.{CouldNotWriteNew, HasUpgraded}
use Rattle.cs_run.specs.Worlds.{FailsPutting, PutsOnly, PutsSome, StopsAtPut, StopsAtWrite, after_writes, file_in}

-- ---- names

-- the names that words mean by their command
abbrev pub names_by : {T : Type 0} → (Command → List T) → Result Command WordError → List T
names_by names (Ok command) = names command
names_by names (Err error) = []

-- the files that the words name to be read, and the names of those to be written
abbrev pub read_names : List (List ℕ) → List FileName
read_names words = names_by reads_of (command_of words)

abbrev pub write_names : List (List ℕ) → List (List ℕ)
write_names words = names_by writes_of (command_of words)

-- every file of another name is as before
abbrev pub OthersStay : List (List ℕ) → Option Files → Option Files → Type 0
OthersStay names old new = (name : List ℕ) → (Contains names name → ⊥) → file_in new name ≡ file_in old name

-- ---- calls

-- no read of the run failed
abbrev pub HasRead : Run → Type 0
HasRead run = run.new.store.failed ≡ run.old.store.failed

-- no read, write or put failed
pub record HasNoFault (run : Run) : Type 0 where
  pub reads : HasRead run
  pub writes : Rose run.old.store.faults run.new.store.faults → ⊥
  pub puts : Rose run.old.sink.faults run.new.sink.faults → ⊥

-- ---- what a status leaves

-- the words are refused
pub record RefusedWords (run : Run) : Type 0 where
  pub error : WordError
  pub says : command_of run.words ≡ Err error
  pub store : run.new.store ≡ run.old.store
  pub sink : PutsSome run.old.sink run.new.sink (fault_line (words_fault error))

-- a file of the command couldn't be read: those before it were, nothing else happened to the store, and the line names it
pub record CouldNotRead (run : Run) : Type 0 where
  pub fails : FailsReading (read_names run.words) run.old.store run.new.store
  pub sink : PutsSome run.old.sink run.new.sink (fault_line (CannotRead fails.name))

-- a command has made a reply, but for a write that failed, or for a put behind the writes
pub record CouldNotWrite (run : Run) : Type 0 where
  pub command : Command
  pub reply : Reply
  pub says : command_of run.words ≡ Ok command
  pub answer : HasAnswer command run.old.store reply
  pub stops : StopsAtWrite reply.writes run.old run.new
      ⊎ ((run.new.store ≡ after_writes run.old.store reply.writes) × StopsAtPut reply.texts run.old.sink run.new.sink)

-- a command is refused with this status, for a reason that its files have, whose line is put; the store stays
pub record RefusedFiles (run : Run) (status : Status) : Type 0 where
  pub command : Command
  pub reason : Reason
  pub says : command_of run.words ≡ Ok command
  pub has : HasReason command run.old.store.files reason.fault
  pub to : status_of reason.fault ≡ status
  pub store : run.new.store ≡ run.old.store
  pub sink : PutsSome run.old.sink run.new.sink (fault_line reason.fault)

-- ---- one command

-- the words are those of `slow`, and the store tells that its IN has these bytes, and its IMAGES these, where it is named
pub record HasInput (run : Run) (slow : SlowWords) (bytes : List ℕ) (images : Option (List ℕ)) : Type 0 where
  pub says : command_of run.words ≡ Ok (Slow slow)
  pub input : file_in run.old.store.files slow.input ≡ Some (Some bytes)
  pub images_file : TellsBytes run.old.store.files slow.images images

-- the words are those of `mix`, and the store tells that its streams have these bytes
pub record HasStreams (run : Run) (mix : MixWords) (streams : List (List ℕ)) : Type 0 where
  pub says : command_of run.words ≡ Ok (Mix mix)
  pub told : IsSome run.old.store.files
  pub have : StreamsHave run.old.store.files mix.streams streams

-- the words are those of `upgrade`, and the store tells that its OLD has these bytes
pub record HasOld (run : Run) (upgrade : UpgradeWords) (bytes : List ℕ) : Type 0 where
  pub says : command_of run.words ≡ Ok (Upgrade upgrade)
  pub file : file_in run.old.store.files upgrade.old ≡ Some (Some bytes)

-- ---- the contract

-- what a run that answers this number promises
pub record Promises (run : Run) (result : ℕ) : Type 0 where
  pub statuses : Contains all_codes result
  -- what each status but 0 leaves in the store and the sink, and when it comes
  pub no_memory : result ≡ 1 → RanOutOfMemory (read_names run.words) run.old run.new
  pub usage_only : result ≡ 2 → RefusedWords run
  pub read_fault : result ≡ 3 → CouldNotRead run
  pub write_fault : result ≡ 4 → CouldNotWrite run
  pub refused_only : (status : Status) → IsTrue (is_of_files status) → result ≡ code_of status → RefusedFiles run status
  -- words that say no command are refused, but for want of memory
  pub usage : (error : WordError) → command_of run.words ≡ Err error → (result ≡ 2) ⊎ (result ≡ 1)
  -- a command whose files the store tells, and give a reason to refuse it, is refused with that reason's status where
  -- no read failed, but for want of memory
  pub refused : (command : Command) (reason : Reason) → command_of run.words ≡ Ok command
      → IsSome run.old.store.files → HasReason command run.old.store.files reason.fault → HasRead run
      → (result ≡ code_of (status_of reason.fault)) ⊎ (result ≡ 1)
  -- a command whose files give no such reason, and in which no call fails, is done, but for want of memory
  pub unrefused : (command : Command) → command_of run.words ≡ Ok command
      → ((reason : Reason) → HasReason command run.old.store.files reason.fault → ⊥)
      → HasNoFault run → (result ≡ 0) ⊎ (result ≡ 1)
  -- where the store tells files that a command answers with a reply, and no call fails, it is done, but for want of memory
  pub complete : (command : Command) (reply : Reply) → command_of run.words ≡ Ok command
      → IsSome run.old.store.files → HasInputs command run.old.store.files (λ inputs. Makes command inputs reply)
      → HasNoFault run → (result ≡ 0) ⊎ (result ≡ 1)
  -- all other files stay
  pub others : OthersStay (write_names run.words) run.old.store.files run.new.store.files
  -- `slow` at status 0: OUT holds the written document, whose netlist isolates that of IN's bytes at entry, in contexts
  -- whose memories start with the images of IMAGES' bytes at entry
  pub slow_done : (slow : SlowWords) → command_of run.words ≡ Ok (Slow slow) → result ≡ 0 → HasWritten slow run.old run.new
  pub slow_unwritten : (slow : SlowWords) → command_of run.words ≡ Ok (Slow slow) → result ≡ 4 → CouldNotWriteOut slow run.old run.new
  pub slow_output : result ≡ 0 → (slow : SlowWords) (bytes netlist : List ℕ) (images : Option (List ℕ))
      → HasInput run slow bytes images → IsBuilt slow.contexts bytes images netlist
      → file_in run.new.store.files slow.output ≡ Some (Some netlist)
  pub slow_isolates : result ≡ 0 → (slow : SlowWords) (bytes netlist : List ℕ) (images : Option (List ℕ))
      → HasInput run slow bytes images → file_in run.new.store.files slow.output ≡ Some (Some netlist)
      → BytesIsolate slow.contexts bytes images netlist
  -- `sim` at status 0: the printed rows that the netlist of NET answers to the rows of STIM are put
  pub sim_responded : (sim : SimWords) → command_of run.words ≡ Ok (Sim sim) → result ≡ 0 → HasResponded sim run.old run.new
  pub sim_unput : (sim : SimWords) → command_of run.words ≡ Ok (Sim sim) → result ≡ 4 → CouldNotRespond sim run.old run.new
  -- `sim-context` at status 0: the same of the netlist with the starts of context K, by the images of IMAGES
  pub context_responded : (sim : SimContextWords) → command_of run.words ≡ Ok (SimContext sim) → result ≡ 0 → HasRespondedContext sim run.old run.new
  pub context_unput : (sim : SimContextWords) → command_of run.words ≡ Ok (SimContext sim) → result ≡ 4 → CouldNotRespondContext sim run.old run.new
  -- `mix` at status 0: OUT holds the printed rows of the streams in turn, of which `part` gives each stream's back
  pub mix_done : (mix : MixWords) → command_of run.words ≡ Ok (Mix mix) → result ≡ 0 → HasMixed mix run.old run.new
  pub mix_unwritten : (mix : MixWords) → command_of run.words ≡ Ok (Mix mix) → result ≡ 4 → CouldNotWriteMixed mix run.old run.new
  pub mix_parts_back : result ≡ 0 → (mix : MixWords) (streams : List (List ℕ)) (text : List ℕ) → HasStreams run mix streams
      → file_in run.new.store.files mix.output ≡ Some (Some text) → PartsGiveBack streams text
  -- `part` at status 0: the printed rows of one context are put
  pub part_done : (part : PartWords) → command_of run.words ≡ Ok (Part part) → result ≡ 0 → HasParted part run.old run.new
  pub part_unput : (part : PartWords) → command_of run.words ≡ Ok (Part part) → result ≡ 4 → CouldNotPutPart part run.old run.new
  -- `upgrade` at status 0: NEW holds the printed text, of version 2, of the paper that OLD held at entry, and says that paper
  pub upgrade_done : (upgrade : UpgradeWords) → command_of run.words ≡ Ok (Upgrade upgrade) → result ≡ 0 → HasUpgraded upgrade run.old run.new
  pub upgrade_unwritten : (upgrade : UpgradeWords) → command_of run.words ≡ Ok (Upgrade upgrade) → result ≡ 4 → CouldNotWriteNew upgrade run.old run.new
  pub upgrade_prints : result ≡ 0 → (upgrade : UpgradeWords) (bytes : List ℕ) (paper : Paper) → HasOld run upgrade bytes
      → paper_of bytes ≡ Says paper → file_in run.new.store.files upgrade.new ≡ Some (Some (printed paper))
  pub upgrade_reads_back : result ≡ 0 → (upgrade : UpgradeWords) (bytes text : List ℕ) → HasOld run upgrade bytes
      → file_in run.new.store.files upgrade.new ≡ Some (Some text) → paper_of text ≡ paper_of bytes
  -- `help` and `version` at status 0: their texts are put; whatever the status, no file was read or written
  pub help_put : command_of run.words ≡ Ok Help → result ≡ 0 → PutsOnly run.old run.new help_text
  pub help_unput : command_of run.words ≡ Ok Help → result ≡ 4 → FailsPutting run.old run.new help_text
  pub help_reads_nothing : command_of run.words ≡ Ok Help → run.new.store ≡ run.old.store
  pub version_put : command_of run.words ≡ Ok Version → result ≡ 0 → PutsOnly run.old run.new version_text
  pub version_unput : command_of run.words ≡ Ok Version → result ≡ 4 → FailsPutting run.old run.new version_text
  pub version_reads_nothing : command_of run.words ≡ Ok Version → run.new.store ≡ run.old.store
