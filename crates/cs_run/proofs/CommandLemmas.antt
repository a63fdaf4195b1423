-- All commands have one answer to their files.
use Rattle.std.proofs.Common.{◌≡◌, ◌∙◌, List, Option, ap, inl, inr, subst, sym}
use Rattle.std.specs.Prelude.{IsSome}
use Rattle.cs_io.specs.Stores.{Files}
use Rattle.cs_report.specs.declared.fault.Fault.{Fault}
use Rattle.cs_words.specs.declared.command.Command.{Command}
use Rattle.cs_words.specs.declared.command.Command.TheVariants.{Slow, Sim, SimContext, Mix, Part, Upgrade, Help, Version}
use Rattle.cs_run.specs.declared.inputs.Input.{Input}
use Rattle.cs_run.specs.declared.inputs.Role.TheVariants.{File, Images, In, Net, Paper, Stim}
use Rattle.cs_run.specs.declared.reply.Reply.{Reply}
use Rattle.cs_run.specs.declared.status.Status.TheVariants.{Done}
use Rattle.cs_run.specs.Commands.{HasInputs, HasReason, Makes, Refuses, reads_of, writes_of}
use Rattle.cs_run.specs.Inputs.{all_bytes, bytes_of, found_bytes}
use Rattle.cs_run.specs.Reasons.{Reason}
use Rattle.cs_run.specs.Statuses.{status_of}
use Rattle.cs_run.proofs.InputLemmas.{none_long, one_inputs}
use Rattle.cs_report.specs.OwnTexts.{help_text, version_text}
use Rattle.cs_run.proofs.MixLemmas.{mix_apart, mix_names, mix_status}
use Rattle.cs_run.proofs.OwnLemmas.{own_names}
use Rattle.cs_run.proofs.PartLemmas.{part_apart, part_names, part_status}
use Rattle.cs_run.proofs.SimContextLemmas.{sim_context_apart, sim_context_names, sim_context_status}
use Rattle.cs_run.proofs.SimLemmas.{sim_apart, sim_names, sim_status}
use Rattle.cs_run.proofs.SlowLemmas.{slow_apart, slow_names, slow_status}
use Rattle.cs_run.proofs.UpgradeLemmas.{upgrade_apart, upgrade_names, upgrade_status}
use Rattle.cs_run.proofs.WorldLemmas.{AreNamed}

-- ---- each command

pub makes_done : (command : Command) (inputs : List Input) (reply : Reply) → Makes command inputs reply → reply.status ≡ Done
makes_done (Slow words) inputs reply makes = ap (λ (r : Reply). r.status) makes.is
makes_done (Sim words) inputs reply makes = ap (λ (r : Reply). r.status) makes.puts.is
makes_done (SimContext words) inputs reply makes = ap (λ (r : Reply). r.status) makes.puts.puts.is
makes_done (Mix words) inputs reply makes = ap (λ (r : Reply). r.status) makes.is
makes_done (Part words) inputs reply makes = ap (λ (r : Reply). r.status) makes.is
makes_done (Upgrade words) inputs reply makes = ap (λ (r : Reply). r.status) makes.is
makes_done Help inputs reply makes = ap (λ (r : Reply). r.status) makes
makes_done Version inputs reply makes = ap (λ (r : Reply). r.status) makes

-- a reply writes only files that the command names to be written
pub makes_names : (command : Command) (inputs : List Input) (reply : Reply) → Makes command inputs reply → AreNamed (writes_of command) reply.writes
makes_names (Slow words) inputs reply makes = slow_names words (bytes_of In inputs) (found_bytes Images inputs) reply makes
makes_names (Sim words) inputs reply makes = sim_names (bytes_of Net inputs) (bytes_of Stim inputs) reply makes
makes_names (SimContext words) inputs reply makes =
    sim_context_names words (bytes_of Net inputs) (bytes_of Stim inputs) (bytes_of Images inputs) reply makes
makes_names (Mix words) inputs reply makes = mix_names words (all_bytes inputs) reply makes
makes_names (Part words) inputs reply makes = part_names words (bytes_of File inputs) reply makes
makes_names (Upgrade words) inputs reply makes = upgrade_names words (bytes_of Paper inputs) reply makes
makes_names Help inputs reply makes = own_names help_text reply makes
makes_names Version inputs reply makes = own_names version_text reply makes

apart : (command : Command) (inputs : List Input) (reply : Reply) (fault : Fault) → Makes command inputs reply → Refuses command inputs fault → ⊥
apart (Slow words) inputs reply fault makes refuses = slow_apart words (bytes_of In inputs) (found_bytes Images inputs) reply fault makes refuses
apart (Sim words) inputs reply fault makes refuses = sim_apart (bytes_of Net inputs) (bytes_of Stim inputs) reply fault makes refuses
apart (SimContext words) inputs reply fault makes refuses =
    sim_context_apart words (bytes_of Net inputs) (bytes_of Stim inputs) (bytes_of Images inputs) reply fault makes refuses
apart (Mix words) inputs reply fault makes refuses = mix_apart words (all_bytes inputs) reply fault makes refuses
apart (Part words) inputs reply fault makes refuses = part_apart words (bytes_of File inputs) reply fault makes refuses
apart (Upgrade words) inputs reply fault makes refuses = upgrade_apart words (bytes_of Paper inputs) reply fault makes refuses
apart Help inputs reply fault makes refuses = refuses
apart Version inputs reply fault makes refuses = refuses

inputs_status : (command : Command) (inputs : List Input) (a b : Reason) → Refuses command inputs a.fault → Refuses command inputs b.fault →
    status_of a.fault ≡ status_of b.fault
inputs_status (Slow words) inputs a b h k = slow_status words.contexts (bytes_of In inputs) (found_bytes Images inputs) a b h k
inputs_status (Sim words) inputs a b h k = sim_status (bytes_of Net inputs) (bytes_of Stim inputs) a b h k
inputs_status (SimContext words) inputs a b h k =
    sim_context_status words (bytes_of Net inputs) (bytes_of Stim inputs) (bytes_of Images inputs) a b h k
inputs_status (Mix words) inputs a b h k = mix_status (all_bytes inputs) a b h k
inputs_status (Part words) inputs a b h k = part_status (bytes_of File inputs) a b h k
inputs_status (Upgrade words) inputs a b h k = upgrade_status (bytes_of Paper inputs) a b h k
inputs_status Help inputs a b h k = absurd h
inputs_status Version inputs a b h k = absurd h

-- ---- all commands

-- files that a command answers with a reply give no reason to refuse it
pub never_both : (command : Command) (files : Option Files) (reply : Reply) (fault : Fault) → IsSome files →
    HasInputs command files (λ inputs. Makes command inputs reply) → HasReason command files fault → ⊥
never_both command files reply fault told made (inl long) = none_long files (reads_of command) made.inputs long.name told made.have long.long
never_both command files reply fault told made (inr refused) =
    let same : made.inputs ≡ refused.inputs = one_inputs files (reads_of command) made.inputs refused.inputs told made.have refused.have in
    apart command refused.inputs reply fault (subst (λ i. Makes command i reply) same made.holds) refused.holds

-- two reasons have one status
pub one_status : (command : Command) (files : Option Files) (a b : Reason) → IsSome files → HasReason command files a.fault →
    HasReason command files b.fault → status_of a.fault ≡ status_of b.fault
one_status command files a b told (inl h) (inl k) = ap status_of h.is ∙ sym (ap status_of k.is)
one_status command files a b told (inl h) (inr k) = absurd (none_long files (reads_of command) k.inputs h.name told k.have h.long)
one_status command files a b told (inr h) (inl k) = absurd (none_long files (reads_of command) h.inputs k.name told h.have k.long)
one_status command files a b told (inr h) (inr k) =
    let same : k.inputs ≡ h.inputs = one_inputs files (reads_of command) k.inputs h.inputs told k.have h.have in
    inputs_status command h.inputs a b h.holds (subst (λ i. Refuses command i b.fault) same k.holds)
