-- A command over files in memory.
use Rattle.std.proofs.Common.{◌≡◌, ◌⊎◌, false, ℕ, List, [], ◌∷◌, Option, None, Some, inl, inr, subst}
use Rattle.std.proofs.lemmas.Bool.{OnFalse_at}
use Rattle.std.specs.Prelude.{IsFalse, IsSome}
use Rattle.std.specs.FinMap.{get}
use Rattle.cs_io.specs.Faults.{Rose}
use Rattle.cs_io.specs.MemStores.{MemState, store_state}
use Rattle.cs_io.specs.Memory.{is_planned}
use Rattle.cs_io.specs.Sinks.{SinkState}
use Rattle.cs_io.specs.Stores.{Files, StoreState}
use Rattle.cs_words.specs.declared.command.Command.{Command}
use Rattle.cs_run.specs.declared.inputs.FileName.{FileName}
use Rattle.cs_run.specs.declared.reply.NewFile.{NewFile}
use Rattle.cs_run.specs.declared.reply.Reply.{Reply}
use Rattle.cs_run.specs.declared.status.Status.{Status}
use Rattle.cs_run.specs.declared.status.Status.TheVariants.{ReadFault, WriteFault}
use Rattle.cs_run.specs.Commands.{reads_of}
use Rattle.cs_run.specs.Inputs.{AreThere, ReadUpTo}
use Rattle.cs_run.specs.Runs.{Ran}
use Rattle.cs_run.specs.Worlds.{StopsAtPut, StopsWriting, World, after_put, after_write, world}
use Rattle.cs_run.proofs.PromiseLemmas.{read_row, write_row}
use Rattle.cs_run.proofs.RunLemmas.{ends}
use Rattle.cs_run.proofs.WorldLemmas.{Stops}

there : (reads : List FileName) (files : Files) (name : List ℕ) → AreThere reads files → ReadUpTo (Some files) reads name → IsSome (get files name)
there [] files name all reached = absurd reached
there (read ∷ reads) files name all (inl same) = subst (λ n. IsSome (get files n)) same all.0
there (read ∷ reads) files name all (inr (has, reached)) = there reads files name all.1 reached

is_there : (found : Option (List ℕ)) → IsSome found → found ≡ None → ⊥
is_there None some none = absurd (cc)
is_there (Some bytes) some none = absurd (cc)

-- files that are there are read
pub no_read_fault : (command : Command) (store : MemState) (sink : SinkState) (new : World) (status : Status) → IsFalse (is_planned store.plan) →
    AreThere (reads_of command) store.files → Ran command (world (store_state store) sink) new status → status ≡ ReadFault → ⊥
no_read_fault command store sink new status unplanned all ran to =
    let old = world (store_state store) sink in
    let fails = (read_row command old new status (ends command old new status ran) to).fails in
    is_there (get store.files fails.name) (there (reads_of command) store.files fails.name all fails.reached)
    (OnFalse_at unplanned fails.notes.missing)

write_dry : (writes : List NewFile) (old new : StoreState) (failed : NewFile) → old.is_fallible ≡ false → StopsWriting writes old new failed →
    Rose old.dry new.dry
write_dry [] old new failed sure stops = absurd stops
write_dry (file ∷ files) old new failed sure (inl (fails, is)) = OnFalse_at sure fails.dry
write_dry (file ∷ files) old new failed sure (inr later) = write_dry files (after_write old file) new failed sure later

put_dry : (texts : List (List ℕ)) (old new : SinkState) → old.is_fallible ≡ false → StopsAtPut texts old new → Rose old.dry new.dry
put_dry [] old new sure stops = absurd stops
put_dry (text ∷ texts) old new sure (inl stops) = OnFalse_at sure stops.1.dry
put_dry (text ∷ texts) old new sure (inr later) = put_dry texts (after_put old text) new sure later

stops_dry : (reply : Reply) (old new : World) → old.store.is_fallible ≡ false → old.sink.is_fallible ≡ false → Stops reply old new →
    Rose old.store.dry new.store.dry ⊎ Rose old.sink.dry new.sink.dry
stops_dry reply old new sure also (inl stops) = inl (write_dry reply.writes old.store new.store stops.0 sure stops.1)
stops_dry reply old new sure also (inr (store, stops)) = inr (put_dry reply.texts old.sink new.sink also stops)

-- a write or a put that failed found no memory
pub dry_write_fault : (command : Command) (old new : World) (status : Status) → old.store.is_fallible ≡ false → old.sink.is_fallible ≡ false →
    Ran command old new status → status ≡ WriteFault → Rose old.store.dry new.store.dry ⊎ Rose old.sink.dry new.sink.dry
dry_write_fault command old new status sure also ran to =
    let row = write_row command old new status (ends command old new status ran) to in
    stops_dry row.reply old new sure also row.stops
