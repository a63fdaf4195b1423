-- All commands: what each reads, makes of it, and is refused for. From files to reply there are four words: the inputs
-- that the files of a command have (`HasInputs`); what a command makes of inputs (`Makes`), or is refused for
-- (`Refuses`); and the reason that its files give to refuse it (`HasReason`).
use Rattle.std.specs.Prelude.{ℕ, ◌≡◌, ◌⊎◌, ⊤, List, [], ◌∷◌, Option}
use Rattle.cs_io.specs.Stores.{Files}
use Rattle.cs_report.specs.declared.fault.Fault.{Fault}
use Rattle.cs_report.specs.declared.fault.Fault.TheVariants.{FileTooLong}
use Rattle.cs_report.specs.OwnTexts.{help_text, version_text}
use Rattle.cs_words.specs.declared.command.Command.{Command}
use Rattle.cs_words.specs.declared.command.Command.TheVariants.{Slow, Sim, SimContext, Mix, Part, Upgrade, Help, Version}
use Rattle.cs_run.specs.declared.inputs.FileName.{FileName}
use Rattle.cs_run.specs.declared.inputs.Input.{Input}
use Rattle.cs_run.specs.declared.inputs.Role.TheVariants.{File, Images, In, Net, Paper, Stim}
use Rattle.cs_run.specs.declared.reply.Reply.{Reply}
use Rattle.cs_run.specs.Inputs.{FilesHave, FirstTooLong, all_bytes, bytes_of, found_bytes}
use Rattle.cs_run.specs.Replies.{putting}
use Rattle.cs_run.specs.Slow.{BuildsIsolate, MakesSlow, RefusesSlow, slow_reads}
use Rattle.cs_run.specs.Sim.{MakesSim, RefusesSim, sim_reads}
use Rattle.cs_run.specs.SimContext.{MakesSimContext, RefusesSimContext, sim_context_reads}
use Rattle.cs_run.specs.Mix.{MakesMix, MixesGiveBack, RefusesMix, mix_reads}
use Rattle.cs_run.specs.Part.{MakesPart, RefusesPart, part_reads}
use Rattle.cs_run.specs.Upgrade.{MakesUpgrade, RefusesUpgrade, UpgradesAlike, upgrade_reads}

-- ---- each command

-- the files that a command reads, in order
abbrev pub reads_of : Command → List FileName
reads_of (Slow words) = slow_reads words
reads_of (Sim words) = sim_reads words
reads_of (SimContext words) = sim_context_reads words
reads_of (Mix words) = mix_reads words
reads_of (Part words) = part_reads words
reads_of (Upgrade words) = upgrade_reads words
reads_of Help = []
reads_of Version = []

-- the names of the files that a command may write
abbrev pub writes_of : Command → List (List ℕ)
writes_of (Slow words) = words.output ∷ []
writes_of (Sim words) = []
writes_of (SimContext words) = []
writes_of (Mix words) = words.output ∷ []
writes_of (Part words) = []
writes_of (Upgrade words) = words.new ∷ []
writes_of Help = []
writes_of Version = []

-- a command answers its inputs with this reply
abbrev pub Makes : Command → List Input → Reply → Type 0
Makes (Slow words) inputs reply = MakesSlow words (bytes_of In inputs) (found_bytes Images inputs) reply
Makes (Sim words) inputs reply = MakesSim (bytes_of Net inputs) (bytes_of Stim inputs) reply
Makes (SimContext words) inputs reply =
    MakesSimContext words (bytes_of Net inputs) (bytes_of Stim inputs) (bytes_of Images inputs) reply
Makes (Mix words) inputs reply = MakesMix words (all_bytes inputs) reply
Makes (Part words) inputs reply = MakesPart words (bytes_of File inputs) reply
Makes (Upgrade words) inputs reply = MakesUpgrade words (bytes_of Paper inputs) reply
Makes Help inputs reply = reply ≡ putting help_text
Makes Version inputs reply = reply ≡ putting version_text

-- whatever the command makes of these inputs is right
abbrev pub MakesRight : Command → List Input → Type 0
MakesRight (Slow words) inputs = BuildsIsolate words.contexts (bytes_of In inputs) (found_bytes Images inputs)
MakesRight (Sim words) inputs = ⊤
MakesRight (SimContext words) inputs = ⊤
MakesRight (Mix words) inputs = MixesGiveBack (all_bytes inputs)
MakesRight (Part words) inputs = ⊤
MakesRight (Upgrade words) inputs = UpgradesAlike (bytes_of Paper inputs)
MakesRight Help inputs = ⊤
MakesRight Version inputs = ⊤

-- a command is refused because its inputs have this fault
abbrev pub Refuses : Command → List Input → Fault → Type 0
Refuses (Slow words) inputs fault =
    RefusesSlow words.contexts (bytes_of In inputs) (found_bytes Images inputs) fault
Refuses (Sim words) inputs fault = RefusesSim (bytes_of Net inputs) (bytes_of Stim inputs) fault
Refuses (SimContext words) inputs fault =
    RefusesSimContext words (bytes_of Net inputs) (bytes_of Stim inputs) (bytes_of Images inputs) fault
Refuses (Mix words) inputs fault = RefusesMix (all_bytes inputs) fault
Refuses (Part words) inputs fault = RefusesPart (bytes_of File inputs) fault
Refuses (Upgrade words) inputs fault = RefusesUpgrade (bytes_of Paper inputs) fault
Refuses Help inputs fault = ⊥
Refuses Version inputs fault = ⊥

-- ---- all commands

-- the files that a command reads have inputs of which P holds, none of them too long
pub record HasInputs (command : Command) (files : Option Files) (P : List Input → Type 0) : Type 0 where
  pub inputs : List Input
  pub have : FilesHave files (reads_of command) inputs
  pub holds : P inputs

-- the first file of the command that is too long is told
pub record IsTooLong (command : Command) (files : Option Files) (fault : Fault) : Type 0 where
  pub name : List ℕ
  pub long : FirstTooLong files (reads_of command) name
  pub is : fault ≡ FileTooLong name

-- the files of a command have a fault for which it is refused: one is too long, or the inputs are refused
abbrev pub HasReason : Command → Option Files → Fault → Type 0
HasReason command files fault =
    IsTooLong command files fault ⊎ HasInputs command files (λ inputs. Refuses command inputs fault)
