-- `part`: one answer, and what stands afterwards.
use Rattle.std.proofs.Common.{◌≡◌, ◌∙◌, ℕ, List, [], refl, subst, sym}
use Rattle.cs_report.specs.declared.fault.Fault.{Fault}
use Rattle.cs_words.specs.declared.command.Command.TheVariants.{Part}
use Rattle.cs_words.specs.declared.command.PartWords.{PartWords}
use Rattle.cs_run.specs.declared.inputs.Role.TheVariants.{File}
use Rattle.cs_run.specs.declared.reply.Reply.{Reply}
use Rattle.cs_run.specs.Inputs.{bytes_of}
use Rattle.cs_run.specs.Part.{CouldNotPutPart, HasParted, MakesPart, Parts, RefusesPart, own_fault, part_reads}
use Rattle.cs_run.specs.Reasons.{Reason}
use Rattle.cs_run.specs.Runs.{HasAnswer}
use Rattle.cs_run.specs.Statuses.{status_of}
use Rattle.cs_run.specs.Worlds.{World}
use Rattle.cs_run.proofs.Ends.{Finished, Unfinished}
use Rattle.cs_run.proofs.InputLemmas.{at_role}
use Rattle.cs_run.proofs.ReasonLemmas.{has_rows, rows_status}
use Rattle.cs_run.proofs.WorldLemmas.{AreNamed, put_only, unput_only}

-- ---- one answer

pub part_apart : (words : PartWords) (bytes : List ℕ) (reply : Reply) (fault : Fault) → MakesPart words bytes reply → RefusesPart bytes fault → ⊥
part_apart words bytes reply fault makes refuses = has_rows (own_fault bytes) fault makes.parts.faultless refuses

pub part_status : (bytes : List ℕ) (a b : Reason) → RefusesPart bytes a.fault → RefusesPart bytes b.fault → status_of a.fault ≡ status_of b.fault
part_status bytes a b h k = rows_status (own_fault bytes) a h ∙ sym (rows_status (own_fault bytes) b k)

pub part_names : (words : PartWords) (bytes : List ℕ) (reply : Reply) → MakesPart words bytes reply → AreNamed [] reply.writes
part_names words bytes reply makes = subst (λ (r : Reply). AreNamed [] r.writes) (sym makes.is) tt

-- ---- what stands afterwards

parts : (part : PartWords) (old : World) (reply : Reply) (answer : HasAnswer (Part part) old.store reply) →
    Parts old.store.files part answer.holds.0.text
parts part old reply answer = record {
  bytes = bytes_of File answer.inputs;
  file = at_role old.store.files (part_reads part) answer.inputs File part.file answer.have refl;
  parts = answer.holds.0.parts;
}

pub part_done : (part : PartWords) (old new : World) → Finished (Part part) old new → HasParted part old new
part_done part old new f =
    let makes = f.answer.holds.0 in
    let left = put_only old new f.reply makes.text makes.is f.store f.sink in
    record { text = makes.text; of_file = parts part old f.reply f.answer; puts = record { store = left.0; sink = left.1 } }

pub part_unput : (part : PartWords) (old new : World) → Unfinished (Part part) old new → CouldNotPutPart part old new
part_unput part old new f =
    let makes = f.answer.holds.0 in
    let left = unput_only old new f.reply makes.text makes.is f.stops in
    record { text = makes.text; of_file = parts part old f.reply f.answer; fails = record { store = left.0; sink = left.1 } }
