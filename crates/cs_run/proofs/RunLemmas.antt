-- How a command over files ends, status by status.
use Rattle.std.proofs.Common.{◌≡◌, ◌∙◌, ◌⊎◌, ◌<◌, ℕ, suc, List, ◌∷◌, length, drop, get_or, ap, false, inl, inr, refl, subst, sym, true}
use Rattle.std.proofs.Math.Seq.{drop-cons}
use Rattle.std.specs.Prelude.{Err, IsErrAnd, Ok, Result}
use Rattle.cs_io.specs.Stores.{StoreState}
use Rattle.cs_report.specs.declared.fault.Fault.TheVariants.{CannotRead, FileTooLong}
use Rattle.cs_report.specs.FaultLines.{fault_line}
use Rattle.cs_words.specs.declared.command.Command.{Command}
use Rattle.cs_run.specs.declared.inputs.FileName.{FileName}
use Rattle.cs_run.specs.declared.inputs.Input.{Input}
use Rattle.cs_run.specs.declared.reply.Refusal.{Refusal}
use Rattle.cs_run.specs.declared.reply.Reply.{Reply}
use Rattle.cs_run.specs.declared.status.Status.{Status}
use Rattle.cs_run.specs.declared.status.Status.TheVariants.{Done, NoMemory, ReadFault, WriteFault}
use Rattle.cs_run.specs.declared.stop.Stop.{Stop}
use Rattle.cs_run.specs.declared.stop.Stop.TheVariants.{OutOfMemory, Refused}
use Rattle.cs_run.specs.Commands.{HasReason, Makes, MakesRight, Refuses, reads_of}
use Rattle.cs_run.specs.Inputs.{FilesHave, FirstTooLong, ReadUpTo}
use Rattle.cs_run.specs.Reasons.{Answers, Reason}
use Rattle.cs_run.specs.Runs.{CarriesAnswer, FailsReading, HasOutcome, IsRefused, Ran, RanOutOfMemory, ReadsInput, ReadsInputs}
use Rattle.cs_run.specs.Statuses.{is_of_files, status_of, status_unput}
use Rattle.cs_run.specs.Worlds.{CarriesOut, PutsSome, PutsStop, World, world, after_puts, after_writes}
use Rattle.cs_run.proofs.CommandLemmas.{makes_done}
use Rattle.cs_run.proofs.Ends.{Finished, Unfinished}
use Rattle.cs_run.proofs.WorldLemmas.{Stops}

-- ---- from reading to the outcome

-- the answer to the inputs is the command's
pub answered : (command : Command) (old new : StoreState) (inputs : List Input) (result : Result Reply Stop) → new ≡ old →
    FilesHave old.files (reads_of command) inputs →
    Answers (λ reply. Makes command inputs reply × MakesRight command inputs) (Refuses command inputs) result →
    HasOutcome command old new result
answered command old new inputs (Ok reply) same have right = (same, record { inputs = inputs; have = have; holds = right })
answered command old new inputs (Err OutOfMemory) same have stops = inl same
answered command old new inputs (Err (Refused refusal)) same have stops =
    let has : HasReason command old.files stops.reason.fault = inr (record { inputs = inputs; have = have; holds = stops.holds }) in
    inr (same, record { reason = stops.reason; holds = has; is = stops.is })

-- the end of the reading is the end of the command
ended : (command : Command) (old new : StoreState) (stop : Stop) → ReadsInputs old new (reads_of command) (Err stop) → HasOutcome command old new (Err stop)
ended command old new OutOfMemory ends = ends
ended command old new (Refused refusal) (inl fails) = inl fails
ended command old new (Refused refusal) (inr (same, long)) =
    let has : HasReason command old.files (FileTooLong long.name) = inl (record { name = long.name; long = long.long; is = refl }) in
    inr (same, record { reason = record { fault = FileTooLong long.name; of_files = refl }; holds = has; is = long.is })

-- so it is where a call hands it on
pub ended_as : (command : Command) (old new : StoreState) (stop : Stop) (result : Result Reply Stop) → IsErrAnd result (λ e. e ≡ stop) →
    ReadsInputs old new (reads_of command) (Err stop) → HasOutcome command old new result
ended_as command old new stop (Ok reply) is ends = absurd is
ended_as command old new stop (Err other) is ends = subst (λ e. HasOutcome command old new (Err e)) (sym is) (ended command old new stop ends)

-- the line of what stops a command is put
pub stopped : (command : Command) (old new : World) (stop : Stop) (status : Status) → HasOutcome command old.store new.store (Err stop) →
    PutsStop stop old.sink new.sink status → Ran command old new status
stopped command old new OutOfMemory status outcome (to, puts) = inl (to, record { store = outcome; sink = puts })
stopped command old new (Refused refusal) status outcome (to, puts) =
    inr (inl (record { refusal = refusal; refused = outcome; to = to; sink = puts }))

-- its own answer is carried out
pub replied : (command : Command) (old new : World) (mid : StoreState) (reply : Reply) (status : Status) → HasOutcome command old.store mid (Ok reply) →
    CarriesOut reply (world mid old.sink) new status → Ran command old new status
replied command old new mid reply status (same, answer) carried =
    inr (inr (record { reply = reply; answer = answer; carried = subst (λ m. CarriesOut reply (world m old.sink) new status) same carried }))

-- ---- status by status

-- a file couldn't be read, and the line names it
pub record Unread (command : Command) (old new : World) : Type 0 where
  pub fails : FailsReading (reads_of command) old.store new.store
  pub sink : PutsSome old.sink new.sink (fault_line (CannotRead fails.name))

-- the command is refused for a reason
pub record RefusedBy (command : Command) (old new : World) (status : Status) : Type 0 where
  pub reason : Reason
  pub has : HasReason command old.store.files reason.fault
  pub to : status ≡ status_of reason.fault
  pub store : new.store ≡ old.store
  pub sink : PutsSome old.sink new.sink (fault_line reason.fault)

-- how a command ends: done, or with the statuses 1, 3, 4, or refused for a reason that its files give
abbrev pub Ends : Command → World → World → Status → Type 0
Ends command old new status =
    ((status ≡ Done) × Finished command old new)
    ⊎ (((status ≡ NoMemory) × RanOutOfMemory (reads_of command) old new)
    ⊎ (((status ≡ ReadFault) × Unread command old new)
    ⊎ (((status ≡ WriteFault) × Unfinished command old new)
    ⊎ RefusedBy command old new status)))

carried : (old new : World) (reply : Reply) (status : Status) → reply.status ≡ Done → CarriesOut reply old new status →
    ((status ≡ Done) × (new.store ≡ after_writes old.store reply.writes) × (new.sink ≡ after_puts old.sink reply.texts))
    ⊎ ((status ≡ WriteFault) × Stops reply old new)
carried old new reply status done (inl (store, inl (to, sink))) = inl (to ∙ done, store, sink)
carried old new reply status done (inl (store, inr (to, stops))) = inr (to ∙ ap status_unput done, inr (store, stops))
carried old new reply status done (inr (to, stops)) = inr (to, inl stops)

of_answer : (command : Command) (old new : World) (status : Status) (a : CarriesAnswer command old new status) →
    ((status ≡ Done) × (new.store ≡ after_writes old.store a.reply.writes) × (new.sink ≡ after_puts old.sink a.reply.texts))
    ⊎ ((status ≡ WriteFault) × Stops a.reply old new) → Ends command old new status
of_answer command old new status a (inl (done, store, sink)) =
    inl (done, record { reply = a.reply; answer = a.answer; store = store; sink = sink })
of_answer command old new status a (inr (to, stops)) =
    inr (inr (inr (inl (to, record { reply = a.reply; answer = a.answer; stops = stops }))))

of_refusal : (command : Command) (old new : World) (status : Status) (refusal : Refusal) → IsRefused command old.store new.store refusal →
    status ≡ refusal.status → PutsSome old.sink new.sink refusal.line → Ends command old new status
of_refusal command old new status refusal (inl stops) to sink =
    inr (inr (inl (
      to ∙ ap (λ (r : Refusal). r.status) stops.is,
      record { fails = stops.fails; sink = subst (λ (r : Refusal). PutsSome old.sink new.sink r.line) stops.is sink },
    )))
of_refusal command old new status refusal (inr (same, for)) to sink =
    inr (inr (inr (inr (record {
      reason = for.reason;
      has = for.holds;
      to = to ∙ ap (λ (r : Refusal). r.status) for.is;
      store = same;
      sink = subst (λ (r : Refusal). PutsSome old.sink new.sink r.line) for.is sink;
    }))))

pub ends : (command : Command) (old new : World) (status : Status) → Ran command old new status → Ends command old new status
ends command old new status (inl memory) = inr (inl memory)
ends command old new status (inr (inl r)) = of_refusal command old new status r.refusal r.refused r.to r.sink
ends command old new status (inr (inr a)) =
    of_answer command old new status a (carried old new a.reply status (makes_done command a.answer.inputs a.reply a.answer.holds.0) a.carried)

-- a reason's status is another than these
pub other_status : {A : Type 0} (reason : Reason) (status : Status) → status_of reason.fault ≡ status → is_of_files status ≡ false → A
other_status reason status is none =
    let both : true ≡ false = sym reason.of_files ∙ ap is_of_files is ∙ none in absurd (cc)

-- ---- the reading of one file is the end of the reading

opened : (reads : List FileName) (i : ℕ) (read : FileName) → i < length reads → read ≡ get_or reads i read → drop i reads ≡ read ∷ drop (suc i) reads
opened reads i read lt is = drop-cons reads i read lt ∙ ap (λ r. r ∷ drop (suc i) reads) (sym is)

input_ended : (reads rest : List FileName) (read : FileName) (old new : StoreState) (stop : Stop) →
    ((name : List ℕ) → FirstTooLong old.files (read ∷ rest) name → FirstTooLong old.files reads name) →
    ((name : List ℕ) → ReadUpTo old.files (read ∷ rest) name → ReadUpTo old.files reads name) →
    ReadsInput old new read.name (Err stop) → ReadsInputs old new reads (Err stop)
input_ended reads rest read old new OutOfMemory long reached (inl same) = inl same
input_ended reads rest read old new OutOfMemory long reached (inr notes) =
    inr (record { name = read.name; reached = reached read.name (inl refl); notes = notes })
input_ended reads rest read old new (Refused refusal) long reached (inl (notes, is)) =
    inl (record { fails = record { name = read.name; reached = reached read.name (inl refl); notes = notes }; is = is })
input_ended reads rest read old new (Refused refusal) long reached (inr (same, too_long, is)) =
    inr (same, record { name = read.name; long = long read.name (inl (refl, too_long)); is = is })

-- so it is where a call hands it on, at a place in the list
pub input_ends : (reads : List FileName) (i : ℕ) (read : FileName) (old mid new : StoreState) (stop : Stop) (result : Result (List Input) Stop) →
    i < length reads → read ≡ get_or reads i read → mid ≡ old → IsErrAnd result (λ e. e ≡ stop) →
    ((name : List ℕ) → FirstTooLong old.files (drop i reads) name → FirstTooLong old.files reads name) →
    ((name : List ℕ) → ReadUpTo old.files (drop i reads) name → ReadUpTo old.files reads name) →
    ReadsInput mid new read.name (Err stop) → ReadsInputs old new reads result
input_ends reads i read old mid new stop (Ok inputs) lt is same came long reached ends = absurd came
input_ends reads i read old mid new stop (Err other) lt is same came long reached ends =
    let first : drop i reads ≡ read ∷ drop (suc i) reads = opened reads i read lt is in
    subst (λ e. ReadsInputs old new reads (Err e)) (sym came)
    (input_ended reads (drop (suc i) reads) read old new stop
    (λ name h. long name (subst (λ r. FirstTooLong old.files r name) (sym first) h))
    (λ name h. reached name (subst (λ r. ReadUpTo old.files r name) (sym first) h))
    (subst (λ m. ReadsInput m new read.name (Err stop)) same ends))
