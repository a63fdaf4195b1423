-- What each promise of a run takes from the table of statuses.
use Rattle.std.proofs.Common.{◌≡◌, ◌==◌, ◌⊎◌, ◌∙◌, ℕ, true, false, List, [], ◌∷◌, ◌++◌, length, Option, Some, ap, arith, inl, inr, length-append, refl, subst, sym}
use Rattle.std.specs.Prelude.{Err, IsSome, IsTrue, MatchResult, Ok, find}
use Rattle.cs_io.specs.Faults.{Rose}
use Rattle.cs_io.specs.Sinks.{SinkState}
use Rattle.cs_io.specs.Stores.{StoreState}
use Rattle.cs_report.specs.declared.fault.Fault.TheVariants.{NoMemory as NoMemoryFault}
use Rattle.cs_report.specs.FaultLines.{fault_line}
use Rattle.cs_words.specs.declared.command.Command.{Command}
use Rattle.cs_words.specs.declared.read.WordError.{WordError}
use Rattle.cs_words.specs.declared.read.WordError.TheVariants.{NoCommand, BadWords, BadNumber, SameName, NoMemory as NoMemoryForWords}
use Rattle.cs_words.specs.Commands.{Reads, command_of}
use Rattle.cs_run.specs.declared.inputs.FileName.{FileName}
use Rattle.cs_run.specs.declared.reply.NewFile.{NewFile}
use Rattle.cs_run.specs.declared.reply.Refusal.{Refusal}
use Rattle.cs_run.specs.declared.reply.Reply.{Reply}
use Rattle.cs_run.specs.declared.status.Status.{Status}
use Rattle.cs_run.specs.declared.status.Status.TheVariants.{Done, NoMemory, Usage, ReadFault, WriteFault}
use Rattle.cs_run.specs.declared.stop.Stop.{Stop}
use Rattle.cs_run.specs.declared.stop.Stop.TheVariants.{OutOfMemory, Refused}
use Rattle.cs_run.specs.Commands.{HasInputs, HasReason, Makes, reads_of, writes_of}
use Rattle.cs_run.specs.Inputs.{ReadUpTo}
use Rattle.cs_run.specs.Promises.{CouldNotRead, CouldNotWrite, HasNoFault, HasRead, OthersStay, RefusedFiles, RefusedWords, read_names, write_names}
use Rattle.cs_run.specs.Reasons.{Reason, StopsAt}
use Rattle.cs_run.specs.Runs.{HasAnswer, OnlyReads, Ran, RanOutOfMemory, RanWords, Run, RunEnds, words_fault}
use Rattle.cs_run.specs.Statuses.{all_statuses, code_of, is_of_files, status_of}
use Rattle.cs_run.specs.Worlds.{PutsSome, PutsStop, StopsAtPut, StopsWriting, World, after_put, after_write, after_writes, file_in}
use Rattle.cs_run.proofs.CommandLemmas.{makes_names, never_both, one_status}
use Rattle.cs_run.proofs.Ends.{Finished, Unfinished}
use Rattle.cs_run.proofs.OwnLemmas.{PutsText, own_put, own_unput}
use Rattle.cs_run.proofs.RunLemmas.{Ends, RefusedBy, Unread, ends, other_status}
use Rattle.cs_run.proofs.WorldLemmas.{Stops, others_after, others_after_stop}

-- ---- numbers

-- a status is known by its number
status_at : ℕ → Option Status
status_at n = find (λ s. code_of s == n) all_statuses

found : (s : Status) → status_at (code_of s) ≡ Some s
unfolding status_at
found Done = refl
found s = refl

pub same_status : (s t : Status) → code_of s ≡ code_of t → s ≡ t
same_status s t same = let both : Some s ≡ Some t = sym (found s) ∙ ap status_at same ∙ found t in cc

-- ---- words

-- what is known of a run is known by what its words say
by_words : (G : Type 0) (run : Run) (status : Status) →
    ((command : Command) → command_of run.words ≡ Ok command → Ends command run.old run.new status → G) →
    ((error : WordError) → command_of run.words ≡ Err error → RanWords error run.old run.new status → G) → RunEnds run status → G
by_words G run status of_command of_error ran =
    elim (command_of run.words) as (λ found. command_of run.words ≡ found
    → MatchResult found (λ command. Ran command run.old run.new status) (λ error. RanWords error run.old run.new status) → G) [
      | Ok command ↦ λ says r. of_command command says (ends command run.old run.new status r)
      | Err error ↦ λ says r. of_error error says r
    ] refl ran

-- how the command that words say ends
pub of_command : (run : Run) (status : Status) (command : Command) → command_of run.words ≡ Ok command → RunEnds run status →
    Ends command run.old run.new status
of_command run status command says ran =
    ends command run.old run.new status
    (subst (λ found. MatchResult found (λ c. Ran c run.old run.new status) (λ error. RanWords error run.old run.new status)) says ran)

reads : (run : Run) (command : Command) → command_of run.words ≡ Ok command → read_names run.words ≡ reads_of command
reads run command says = rw says refl

no_reads : (run : Run) (error : WordError) → command_of run.words ≡ Err error → read_names run.words ≡ []
no_reads run error says = rw says refl

writes : (run : Run) (command : Command) → command_of run.words ≡ Ok command → write_names run.words ≡ writes_of command
writes run command says = rw says refl

-- ---- what each status leaves

pub done_row : (command : Command) (old new : World) (status : Status) → Ends command old new status → status ≡ Done → Finished command old new
done_row command old new status (inl (is, row)) to = row
done_row command old new status (inr (inl (is, row))) to = absurd (let both = sym is ∙ to in cc)
done_row command old new status (inr (inr (inl (is, row)))) to = absurd (let both = sym is ∙ to in cc)
done_row command old new status (inr (inr (inr (inl (is, row))))) to = absurd (let both = sym is ∙ to in cc)
done_row command old new status (inr (inr (inr (inr row)))) to = other_status row.reason Done (sym row.to ∙ to) refl

pub write_row : (command : Command) (old new : World) (status : Status) → Ends command old new status → status ≡ WriteFault → Unfinished command old new
write_row command old new status (inl (is, row)) to = absurd (let both = sym is ∙ to in cc)
write_row command old new status (inr (inl (is, row))) to = absurd (let both = sym is ∙ to in cc)
write_row command old new status (inr (inr (inl (is, row)))) to = absurd (let both = sym is ∙ to in cc)
write_row command old new status (inr (inr (inr (inl (is, row))))) to = row
write_row command old new status (inr (inr (inr (inr row)))) to = other_status row.reason WriteFault (sym row.to ∙ to) refl

pub read_row : (command : Command) (old new : World) (status : Status) → Ends command old new status → status ≡ ReadFault → Unread command old new
read_row command old new status (inl (is, row)) to = absurd (let both = sym is ∙ to in cc)
read_row command old new status (inr (inl (is, row))) to = absurd (let both = sym is ∙ to in cc)
read_row command old new status (inr (inr (inl (is, row)))) to = row
read_row command old new status (inr (inr (inr (inl (is, row))))) to = absurd (let both = sym is ∙ to in cc)
read_row command old new status (inr (inr (inr (inr row)))) to = other_status row.reason ReadFault (sym row.to ∙ to) refl

memory_row : (command : Command) (old new : World) (status : Status) → Ends command old new status → status ≡ NoMemory →
    RanOutOfMemory (reads_of command) old new
memory_row command old new status (inl (is, row)) to = absurd (let both = sym is ∙ to in cc)
memory_row command old new status (inr (inl (is, row))) to = row
memory_row command old new status (inr (inr (inl (is, row)))) to = absurd (let both = sym is ∙ to in cc)
memory_row command old new status (inr (inr (inr (inl (is, row))))) to = absurd (let both = sym is ∙ to in cc)
memory_row command old new status (inr (inr (inr (inr row)))) to = other_status row.reason NoMemory (sym row.to ∙ to) refl

no_usage : {A : Type 0} (command : Command) (old new : World) (status : Status) → Ends command old new status → status ≡ Usage → A
no_usage command old new status (inl (is, row)) to = absurd (let both = sym is ∙ to in cc)
no_usage command old new status (inr (inl (is, row))) to = absurd (let both = sym is ∙ to in cc)
no_usage command old new status (inr (inr (inl (is, row)))) to = absurd (let both = sym is ∙ to in cc)
no_usage command old new status (inr (inr (inr (inl (is, row))))) to = absurd (let both = sym is ∙ to in cc)
no_usage command old new status (inr (inr (inr (inr row)))) to = other_status row.reason Usage (sym row.to ∙ to) refl

-- a status that is of files is of no other row
no_other : {A : Type 0} (status other : Status) → IsTrue (is_of_files status) → status ≡ other → is_of_files other ≡ false → A
no_other status other of is none = let both : true ≡ false = sym of ∙ ap is_of_files is ∙ none in absurd (cc)

reason_row : (command : Command) (old new : World) (status : Status) → Ends command old new status → IsTrue (is_of_files status) →
    RefusedBy command old new status
reason_row command old new status (inl (is, row)) of = no_other status Done of is refl
reason_row command old new status (inr (inl (is, row))) of = no_other status NoMemory of is refl
reason_row command old new status (inr (inr (inl (is, row)))) of = no_other status ReadFault of is refl
reason_row command old new status (inr (inr (inr (inl (is, row))))) of = no_other status WriteFault of is refl
reason_row command old new status (inr (inr (inr (inr row)))) of = row

-- ---- words that say no command

-- they end with status 1 or 2
told : (error : WordError) (old new : World) (status : Status) → status ≡ status_of (words_fault error) → new.store ≡ old.store →
    PutsSome old.sink new.sink (fault_line (words_fault error)) →
    ((status ≡ NoMemory) × RanOutOfMemory [] old new)
    ⊎ ((status ≡ Usage) × (new.store ≡ old.store) × PutsSome old.sink new.sink (fault_line (words_fault error)))
told NoCommand old new status to store sink = inr (to, store, sink)
told (BadWords command) old new status to store sink = inr (to, store, sink)
told (BadNumber name) old new status to store sink = inr (to, store, sink)
told SameName old new status to store sink = inr (to, store, sink)
told NoMemoryForWords old new status to store sink = inl (to, record { store = inl store; sink = sink })

error_row : (error : WordError) (old new : World) (status : Status) → RanWords error old new status →
    ((status ≡ NoMemory) × RanOutOfMemory [] old new)
    ⊎ ((status ≡ Usage) × (new.store ≡ old.store) × PutsSome old.sink new.sink (fault_line (words_fault error)))
error_row error old new status (inl memory) = inl memory
error_row error old new status (inr r) =
    told error old new status (r.to ∙ ap (λ (x : Refusal). x.status) r.refused.1) r.refused.0
    (subst (λ (x : Refusal). PutsSome old.sink new.sink x.line) r.refused.1 r.sink)

-- ---- what each status leaves, by the words

pub usage : (run : Run) (status : Status) (error : WordError) → command_of run.words ≡ Err error → RunEnds run status →
    (status ≡ Usage) ⊎ (status ≡ NoMemory)
usage run status error says ran =
    let row = error_row error run.old run.new status
    (subst (λ found. MatchResult found (λ c. Ran c run.old run.new status) (λ e. RanWords e run.old run.new status)) says ran) in
    elim row [ inl memory ↦ inr memory.0 | inr misused ↦ inl misused.0 ]

pub no_memory : (run : Run) (status : Status) → RunEnds run status → status ≡ NoMemory → RanOutOfMemory (read_names run.words) run.old run.new
no_memory run status ran to =
    by_words (RanOutOfMemory (read_names run.words) run.old run.new) run status
    (λ command says e. subst (λ r. RanOutOfMemory r run.old run.new) (sym (reads run command says)) (memory_row command run.old run.new status e to))
    (λ error says r. elim (error_row error run.old run.new status r) [
      | inl memory ↦ subst (λ n. RanOutOfMemory n run.old run.new) (sym (no_reads run error says)) memory.1
      | inr misused ↦ absurd (let both = sym misused.0 ∙ to in cc)
    ]) ran

pub usage_only : (run : Run) (status : Status) → RunEnds run status → status ≡ Usage → RefusedWords run
usage_only run status ran to =
    by_words (RefusedWords run) run status
    (λ command says e. no_usage command run.old run.new status e to)
    (λ error says r. elim (error_row error run.old run.new status r) [
      | inl memory ↦ absurd (let both = sym memory.0 ∙ to in cc)
      | inr misused ↦ record { error = error; says = says; store = misused.1; sink = misused.2 }
    ]) ran

no_error : {A : Type 0} (error : WordError) (old new : World) (status : Status) → RanWords error old new status → (status ≡ Usage → ⊥) →
    (status ≡ NoMemory → ⊥) → A
no_error error old new status r no_usage no_memory =
    elim (error_row error old new status r) [ inl memory ↦ absurd (no_memory memory.0) | inr misused ↦ absurd (no_usage misused.0) ]

pub read_fault : (run : Run) (status : Status) → RunEnds run status → status ≡ ReadFault → CouldNotRead run
read_fault run status ran to =
    by_words (CouldNotRead run) run status
    (λ command says e.
    let row = read_row command run.old run.new status e to in
    record {
      fails = record {
        name = row.fails.name;
        reached = subst (λ r. ReadUpTo run.old.store.files r row.fails.name) (sym (reads run command says)) row.fails.reached;
        notes = row.fails.notes;
      };
      sink = row.sink;
    })
    (λ error says r. no_error error run.old run.new status r (λ is. absurd (let both = sym is ∙ to in cc)) (λ is. absurd (let both = sym is ∙ to in cc)))
    ran

pub write_fault : (run : Run) (status : Status) → RunEnds run status → status ≡ WriteFault → CouldNotWrite run
write_fault run status ran to =
    by_words (CouldNotWrite run) run status
    (λ command says e.
    let row = write_row command run.old run.new status e to in
    record { command = command; reply = row.reply; says = says; answer = row.answer; stops = row.stops })
    (λ error says r. no_error error run.old run.new status r (λ is. absurd (let both = sym is ∙ to in cc)) (λ is. absurd (let both = sym is ∙ to in cc)))
    ran

pub refused_only : (run : Run) (status asked : Status) → RunEnds run status → IsTrue (is_of_files asked) → status ≡ asked → RefusedFiles run asked
refused_only run status asked ran of to =
    by_words (RefusedFiles run asked) run status
    (λ command says e.
    let row = reason_row command run.old run.new status e (ap is_of_files to ∙ of) in
    record { command = command; reason = row.reason; says = says; has = row.has; to = sym row.to ∙ to; store = row.store; sink = row.sink })
    (λ error says r. no_error error run.old run.new status r (λ is. no_other asked Usage of (sym to ∙ is) refl) (λ is. no_other asked NoMemory of (sym to ∙ is) refl))
    ran

-- ---- commands of no files

no_reading : (old new : StoreState) → OnlyReads [] old new → new ≡ old
no_reading old new (inl same) = same
no_reading old new (inr fails) = absurd fails.reached

-- a command that reads no file, and only puts a text, leaves the store as it was
pub untouched : (command : Command) (text : List ℕ) (old new : World) (status : Status) → reads_of command ≡ [] → PutsText command text →
    Ends command old new status → new.store ≡ old.store
untouched command text old new status none puts (inl (is, f)) = (own_put command text old new puts f).store
untouched command text old new status none puts (inr (inl (is, memory))) =
    no_reading old.store new.store (subst (λ reads. OnlyReads reads old.store new.store) none memory.store)
untouched command text old new status none puts (inr (inr (inl (is, row)))) =
    absurd (subst (λ reads. ReadUpTo old.store.files reads row.fails.name) none row.fails.reached)
untouched command text old new status none puts (inr (inr (inr (inl (is, f))))) = (own_unput command text old new puts f).store
untouched command text old new status none puts (inr (inr (inr (inr row)))) = row.store

-- ---- exactly where

grown : (names : List (List ℕ)) (name : List ℕ) → names ++ name ∷ [] ≡ names → ⊥
grown names name same = let longer = ap length same in omega (arith, longer, length-append names (name ∷ []))

-- a read that failed is noted
noted : (command : Command) (old new : World) → Unread command old new → new.store.failed ≡ old.store.failed → ⊥
noted command old new row stays =
    grown old.store.failed row.fails.name (sym (ap (λ (s : StoreState). s.failed) row.fails.notes.store) ∙ stays)

-- a write or a put that fails raises its count
write_raises : (writes : List NewFile) (old new : StoreState) (failed : NewFile) → StopsWriting writes old new failed → Rose old.faults new.faults
write_raises [] old new failed stops = absurd stops
write_raises (file ∷ files) old new failed (inl (fails, is)) = fails.faults
write_raises (file ∷ files) old new failed (inr later) = write_raises files (after_write old file) new failed later

put_raises : (texts : List (List ℕ)) (old new : SinkState) → StopsAtPut texts old new → Rose old.faults new.faults
put_raises [] old new stops = absurd stops
put_raises (text ∷ texts) old new (inl stops) = stops.1.faults
put_raises (text ∷ texts) old new (inr later) = put_raises texts (after_put old text) new later

no_stop : (run : Run) (reply : Reply) → HasNoFault run → Stops reply run.old run.new → ⊥
no_stop run reply no_fault (inl stops) = no_fault.writes (write_raises reply.writes run.old.store run.new.store stops.0 stops.1)
no_stop run reply no_fault (inr (store, stops)) = no_fault.puts (put_raises reply.texts run.old.sink run.new.sink stops)

-- what answers is made
made : (command : Command) (old : World) (reply : Reply) → HasAnswer command old.store reply →
    HasInputs command old.store.files (λ inputs. Makes command inputs reply)
made command old reply answer = record { inputs = answer.inputs; have = answer.have; holds = answer.holds.0 }

-- what is known of a run whose command has a reason
record HasOne (run : Run) (command : Command) (reason : Reason) : Type 0 where
  told : IsSome run.old.store.files
  has : HasReason command run.old.store.files reason.fault
  read : HasRead run

refused_at : (run : Run) (status : Status) (command : Command) (reason : Reason) → HasOne run command reason →
    Ends command run.old run.new status → (status ≡ status_of reason.fault) ⊎ (status ≡ NoMemory)
refused_at run status command reason k (inl (is, f)) =
    absurd (never_both command run.old.store.files f.reply reason.fault k.told (made command run.old f.reply f.answer) k.has)
refused_at run status command reason k (inr (inl (is, memory))) = inr is
refused_at run status command reason k (inr (inr (inl (is, row)))) = absurd (noted command run.old run.new row k.read)
refused_at run status command reason k (inr (inr (inr (inl (is, f))))) =
    absurd (never_both command run.old.store.files f.reply reason.fault k.told (made command run.old f.reply f.answer) k.has)
refused_at run status command reason k (inr (inr (inr (inr row)))) =
    inl (row.to ∙ one_status command run.old.store.files row.reason reason k.told row.has k.has)

pub refused : (run : Run) (status : Status) (command : Command) (reason : Reason) → RunEnds run status → command_of run.words ≡ Ok command →
    IsSome run.old.store.files → HasReason command run.old.store.files reason.fault → HasRead run →
    (status ≡ status_of reason.fault) ⊎ (status ≡ NoMemory)
refused run status command reason ran says told has read =
    refused_at run status command reason (record { told = told; has = has; read = read }) (of_command run status command says ran)

unrefused_at : (run : Run) (status : Status) (command : Command) → ((reason : Reason) → HasReason command run.old.store.files reason.fault → ⊥) →
    HasNoFault run → Ends command run.old run.new status → (status ≡ Done) ⊎ (status ≡ NoMemory)
unrefused_at run status command none no_fault (inl (is, f)) = inl is
unrefused_at run status command none no_fault (inr (inl (is, memory))) = inr is
unrefused_at run status command none no_fault (inr (inr (inl (is, row)))) = absurd (noted command run.old run.new row no_fault.reads)
unrefused_at run status command none no_fault (inr (inr (inr (inl (is, f))))) = absurd (no_stop run f.reply no_fault f.stops)
unrefused_at run status command none no_fault (inr (inr (inr (inr row)))) = absurd (none row.reason row.has)

pub unrefused : (run : Run) (status : Status) (command : Command) → RunEnds run status → command_of run.words ≡ Ok command →
    ((reason : Reason) → HasReason command run.old.store.files reason.fault → ⊥) → HasNoFault run → (status ≡ Done) ⊎ (status ≡ NoMemory)
unrefused run status command ran says none no_fault = unrefused_at run status command none no_fault (of_command run status command says ran)

pub complete : (run : Run) (status : Status) (command : Command) (reply : Reply) → RunEnds run status → command_of run.words ≡ Ok command →
    IsSome run.old.store.files → HasInputs command run.old.store.files (λ inputs. Makes command inputs reply) → HasNoFault run →
    (status ≡ Done) ⊎ (status ≡ NoMemory)
complete run status command reply ran says told all no_fault =
    unrefused run status command ran says
    (λ reason has. never_both command run.old.store.files reply reason.fault told all has) no_fault

-- ---- other files

stays : (names : List (List ℕ)) (old new : StoreState) → new ≡ old → OthersStay names old.files new.files
stays names old new same = λ other outside. ap (λ (s : StoreState). file_in s.files other) same

stays_reading : (names : List (List ℕ)) (reads : List FileName) (old new : StoreState) → OnlyReads reads old new → OthersStay names old.files new.files
stays_reading names reads old new (inl same) = stays names old new same
stays_reading names reads old new (inr fails) = λ other outside. ap (λ (s : StoreState). file_in s.files other) fails.notes.store

after : (command : Command) (old new : World) (reply : Reply) → HasAnswer command old.store reply → new.store ≡ after_writes old.store reply.writes →
    OthersStay (writes_of command) old.store.files new.store.files
after command old new reply answer store = λ other outside.
    ap (λ (s : StoreState). file_in s.files other) store
    ∙ others_after (writes_of command) old.store reply.writes (makes_names command answer.inputs reply answer.holds.0) other outside

stopped_others : (command : Command) (old new : World) (reply : Reply) → HasAnswer command old.store reply → Stops reply old new →
    OthersStay (writes_of command) old.store.files new.store.files
stopped_others command old new reply answer (inl stops) =
    others_after_stop (writes_of command) reply.writes old.store new.store stops.0 (makes_names command answer.inputs reply answer.holds.0) stops.1
stopped_others command old new reply answer (inr (store, stops)) = after command old new reply answer store

others_of : (command : Command) (old new : World) (status : Status) → Ends command old new status →
    OthersStay (writes_of command) old.store.files new.store.files
others_of command old new status (inl (is, f)) = after command old new f.reply f.answer f.store
others_of command old new status (inr (inl (is, memory))) = stays_reading (writes_of command) (reads_of command) old.store new.store memory.store
others_of command old new status (inr (inr (inl (is, row)))) = stays_reading (writes_of command) (reads_of command) old.store new.store (inr row.fails)
others_of command old new status (inr (inr (inr (inl (is, f))))) = stopped_others command old new f.reply f.answer f.stops
others_of command old new status (inr (inr (inr (inr row)))) = stays (writes_of command) old.store new.store row.store

pub others : (run : Run) (status : Status) → RunEnds run status → OthersStay (write_names run.words) run.old.store.files run.new.store.files
others run status ran =
    by_words (OthersStay (write_names run.words) run.old.store.files run.new.store.files) run status
    (λ command says e. subst (λ names. OthersStay names run.old.store.files run.new.store.files) (sym (writes run command says))
    (others_of command run.old run.new status e))
    (λ error says r. elim (error_row error run.old run.new status r) [
      | inl memory ↦ stays_reading (write_names run.words) [] run.old.store run.new.store memory.1.store
      | inr misused ↦ stays (write_names run.words) run.old.store run.new.store misused.1
    ]) ran

-- ---- a run's table

-- the command that the words say ran
pub said : (run : Run) (status : Status) (command : Command) → Reads (command_of run.words) (Ok command) → Ran command run.old run.new status →
    RunEnds run status
said run status command says ran =
    subst (λ found. MatchResult found (λ c. Ran c run.old run.new status) (λ e. RanWords e run.old run.new status)) (sym says) ran

-- memory ran out before anything was read
dry_run : (run : Run) → run.new.store ≡ run.old.store → PutsSome run.old.sink run.new.sink (fault_line NoMemoryFault) → RunEnds run NoMemory
dry_run run store sink =
    elim (command_of run.words) as (λ found. MatchResult found (λ c. Ran c run.old run.new NoMemory) (λ e. RanWords e run.old run.new NoMemory)) [
      | Ok command ↦ inl (refl, record { store = inl store; sink = sink })
      | Err error ↦ inl (refl, record { store = inl store; sink = sink })
    ]

refused_words : (run : Run) (status : Status) (error : WordError) (stop : Stop) → command_of run.words ≡ Err error → run.new.store ≡ run.old.store →
    StopsAt (words_fault error) stop → PutsStop stop run.old.sink run.new.sink status → RunEnds run status
refused_words run status error OutOfMemory says store at (to, sink) = subst (λ s. RunEnds run s) (sym to) (dry_run run store sink)
refused_words run status error (Refused refusal) says store at (to, sink) =
    subst (λ found. MatchResult found (λ c. Ran c run.old run.new status) (λ e. RanWords e run.old run.new status)) (sym says)
    (inr (record { refusal = refusal; refused = (store, at.1); to = to; sink = sink }))

-- the words say no command, or there was no memory to read them
pub misused : (run : Run) (status : Status) (error : WordError) (stop : Stop) → Reads (command_of run.words) (Err error) → run.new.store ≡ run.old.store →
    StopsAt (words_fault error) stop → PutsStop stop run.old.sink run.new.sink status → RunEnds run status
misused run status NoCommand stop says store at puts = refused_words run status NoCommand stop says store at puts
misused run status (BadWords command) stop says store at puts = refused_words run status (BadWords command) stop says store at puts
misused run status (BadNumber name) stop says store at puts = refused_words run status (BadNumber name) stop says store at puts
misused run status SameName stop says store at puts = refused_words run status SameName stop says store at puts
misused run status NoMemoryForWords OutOfMemory says store at (to, sink) = subst (λ s. RunEnds run s) (sym to) (dry_run run store sink)
misused run status NoMemoryForWords (Refused refusal) says store at puts = absurd (at.0 refl)
