-- Why a command is refused.
use Rattle.std.specs.Prelude.{◌≡◌, ◌≢◌, ⊤, Option, Some, IsTrue, Result, Ok, Err}
use Rattle.cs_interleave.specs.declared.error.InterleaveError.{InterleaveError}
use Rattle.cs_interleave.specs.declared.error.InterleaveError.TheVariants as interleave
use Rattle.cs_report.specs.declared.fault.Fault.{Fault}
use Rattle.cs_report.specs.declared.fault.Fault.TheVariants.{StimulusWidth, StimulusCharacter, StimulusUneven, Limit, NoMemory as NoMemoryFault}
use Rattle.cs_stream.specs.declared.error.StimError.{StimError}
use Rattle.cs_stream.specs.declared.error.StimError.TheVariants as stim
use Rattle.cs_run.specs.declared.reply.Refusal.{Refusal}
use Rattle.cs_run.specs.declared.reply.Reply.{Reply}
use Rattle.cs_run.specs.declared.stop.Stop.{Stop}
use Rattle.cs_run.specs.declared.stop.Stop.TheVariants.{OutOfMemory, Refused}
use Rattle.cs_run.specs.declared.status.Status.TheVariants.{NoMemory}
use Rattle.cs_run.specs.Replies.{refusal_for}
use Rattle.cs_run.specs.Statuses.{is_of_files, status_of}

-- a fault that files can have: never want of memory, nor a fault of words, of a read or of a write
pub record Reason : Type 0 where
  pub fault : Fault
  pub of_files : IsTrue (is_of_files (status_of fault))

-- ---- faults of calls

-- a machine for several contexts would be too large
abbrev pub machine_fault : InterleaveError → Fault
machine_fault (interleave.Limit limit) = Limit limit
machine_fault interleave.NoMemory = NoMemoryFault

abbrev pub rows_fault : StimError → Fault
rows_fault (stim.Width line) = StimulusWidth line
rows_fault (stim.Character line column) = StimulusCharacter line column
rows_fault (stim.Uneven stream) = StimulusUneven stream
rows_fault stim.NoMemory = NoMemoryFault

-- the rows have an error, and the fault is its own
pub record HasNoRows (found : Option StimError) (fault : Fault) : Type 0 where
  pub error : StimError
  pub has : found ≡ Some error
  pub is : fault ≡ rows_fault error

-- ---- stops

-- a command goes no further because of this fault: it is refused, but for want of memory
abbrev pub StopsAt : Fault → Stop → Type 0
StopsAt fault OutOfMemory = ⊤
StopsAt fault (Refused refusal) = (status_of fault ≢ NoMemory) × (refusal ≡ refusal_for fault)

-- a refusal is for a reason of which P holds
pub record RefusedFor (P : Fault → Type 0) (refusal : Refusal) : Type 0 where
  pub reason : Reason
  pub holds : P reason.fault
  pub is : refusal ≡ refusal_for reason.fault

-- a command goes no further for want of memory, or for a reason of which P holds
abbrev pub StopsFor : (Fault → Type 0) → Stop → Type 0
StopsFor P OutOfMemory = ⊤
StopsFor P (Refused refusal) = RefusedFor P refusal

-- what a command answers: a reply that is right, or a refusal for a reason
abbrev pub Answers : (Reply → Type 0) → (Fault → Type 0) → Result Reply Stop → Type 0
Answers IsRight P (Ok reply) = IsRight reply
Answers IsRight P (Err stop) = StopsFor P stop
