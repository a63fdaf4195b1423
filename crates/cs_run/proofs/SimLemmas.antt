-- `sim`: one answer, and what stands afterwards.
use Rattle.std.proofs.Common.{◌≡◌, ◌∙◌, ℕ, List, [], inl, inr, length, refl, subst, sym}
use Rattle.cs_net.specs.Drivers.{data_inputs}
use Rattle.cs_net.specs.Netlist.{Net as NetOf}
use Rattle.cs_report.specs.declared.fault.Fault.{Fault}
use Rattle.cs_stream.specs.Reading.{fault_of as stimulus_fault}
use Rattle.cs_words.specs.declared.command.Command.TheVariants.{Sim}
use Rattle.cs_words.specs.declared.command.SimWords.{SimWords}
use Rattle.cs_run.specs.declared.inputs.Role.TheVariants.{Net, Stim}
use Rattle.cs_run.specs.declared.reply.Reply.{Reply}
use Rattle.cs_run.specs.Inputs.{bytes_of}
use Rattle.cs_run.specs.Reasons.{Reason}
use Rattle.cs_run.specs.Runs.{HasAnswer}
use Rattle.cs_run.specs.Sim.{CouldNotRespond, HasNoStimulus, HasResponded, MakesSim, PutsAnswer, RefusesSim, Responds, sim_reads}
use Rattle.cs_run.specs.Statuses.{status_of}
use Rattle.cs_run.specs.Worlds.{World}
use Rattle.cs_run.proofs.Ends.{Finished, Unfinished}
use Rattle.cs_run.proofs.InputLemmas.{at_role}
use Rattle.cs_run.proofs.ReasonLemmas.{has_rows, netlist_status, one_net, rows_status, sound}
use Rattle.cs_run.proofs.WorldLemmas.{AreNamed, put_only, unput_only}

-- ---- one answer

-- a netlist that answers rows is not refused with them
pub answer_apart : (net : NetOf) (stim : List ℕ) (reply : Reply) (fault : Fault) → PutsAnswer net stim reply → HasNoStimulus net stim fault → ⊥
answer_apart net stim reply fault puts no_rows = has_rows (stimulus_fault (length (data_inputs net)) stim) fault puts.answered.faultless no_rows

pub sim_apart : (bytes stim : List ℕ) (reply : Reply) (fault : Fault) → MakesSim bytes stim reply → RefusesSim bytes stim fault → ⊥
sim_apart bytes stim reply fault makes (inl says) = sound bytes makes.net fault makes.of_net says
sim_apart bytes stim reply fault makes (inr other) =
    let same = one_net bytes other.net makes.net other.of_net makes.of_net in
    answer_apart makes.net stim reply fault makes.puts (subst (λ n. HasNoStimulus n stim fault) same other.no_rows)

pub sim_status : (bytes stim : List ℕ) (a b : Reason) → RefusesSim bytes stim a.fault → RefusesSim bytes stim b.fault → status_of a.fault ≡ status_of b.fault
sim_status bytes stim a b (inl h) (inl k) = netlist_status bytes a b h k
sim_status bytes stim a b (inl h) (inr k) = absurd (sound bytes k.net a.fault k.of_net h)
sim_status bytes stim a b (inr h) (inl k) = absurd (sound bytes h.net b.fault h.of_net k)
sim_status bytes stim a b (inr h) (inr k) = rows_status _ a h.no_rows ∙ sym (rows_status _ b k.no_rows)

pub sim_names : (bytes stim : List ℕ) (reply : Reply) → MakesSim bytes stim reply → AreNamed [] reply.writes
sim_names bytes stim reply makes = subst (λ (r : Reply). AreNamed [] r.writes) (sym makes.puts.is) tt

-- ---- what stands afterwards

responds : (sim : SimWords) (old : World) (reply : Reply) (answer : HasAnswer (Sim sim) old.store reply) →
    Responds old.store.files sim answer.holds.0.puts.text
responds sim old reply answer = record {
  bytes = bytes_of Net answer.inputs;
  stim = bytes_of Stim answer.inputs;
  net_file = at_role old.store.files (sim_reads sim) answer.inputs Net sim.net answer.have refl;
  stim_file = at_role old.store.files (sim_reads sim) answer.inputs Stim sim.stim answer.have refl;
  is = record { net = answer.holds.0.net; of_net = answer.holds.0.of_net; answered = answer.holds.0.puts.answered };
}

pub sim_responded : (sim : SimWords) (old new : World) → Finished (Sim sim) old new → HasResponded sim old new
sim_responded sim old new f =
    let makes = f.answer.holds.0.puts in
    let left = put_only old new f.reply makes.text makes.is f.store f.sink in
    record { text = makes.text; responds = responds sim old f.reply f.answer; puts = record { store = left.0; sink = left.1 } }

pub sim_unput : (sim : SimWords) (old new : World) → Unfinished (Sim sim) old new → CouldNotRespond sim old new
sim_unput sim old new f =
    let makes = f.answer.holds.0.puts in
    let left = unput_only old new f.reply makes.text makes.is f.stops in
    record { text = makes.text; responds = responds sim old f.reply f.answer; fails = record { store = left.0; sink = left.1 } }
