-- From the answers of each command's function to those of all commands.
use Rattle.std.proofs.Common.{◌≡◌, ◌≤◌, ◌∙◌, ℕ, List, [], ◌∷◌, ap, arith, length, refl, subst, sym}
use Rattle.std.specs.Prelude.{Err, Ok, Option, Result, ⊤}
use Rattle.cs_report.specs.declared.fault.Fault.{Fault}
use Rattle.cs_report.specs.OwnTexts.{help_text, version_text}
use Rattle.cs_words.specs.declared.command.Command.{Command}
use Rattle.cs_words.specs.declared.command.Command.TheVariants.{Slow, Sim, SimContext, Mix, Part, Upgrade, Help, Version}
use Rattle.cs_words.specs.declared.command.MixWords.{MixWords}
use Rattle.cs_words.specs.declared.command.PartWords.{PartWords}
use Rattle.cs_words.specs.declared.command.SimContextWords.{SimContextWords}
use Rattle.cs_words.specs.declared.command.SimWords.{SimWords}
use Rattle.cs_words.specs.declared.command.SlowWords.{SlowWords}
use Rattle.cs_words.specs.declared.command.UpgradeWords.{UpgradeWords}
use Rattle.cs_words.specs.Commands.{IsWithin}
use Rattle.cs_run.specs.declared.inputs.Input.{Input}
use Rattle.cs_run.specs.declared.inputs.Role.{Role}
use Rattle.cs_run.specs.declared.inputs.Role.TheVariants.{File, Images, In, Net, Paper, Stim, Stream}
use Rattle.cs_run.specs.declared.reply.Reply.{Reply}
use Rattle.cs_run.specs.declared.stop.Stop.{Stop}
use Rattle.cs_run.specs.Commands.{Makes, MakesRight, Refuses, reads_of}
use Rattle.cs_run.specs.Inputs.{all_bytes, bytes_of, files_of, found_bytes}
use Rattle.cs_run.specs.Mix.{AnswersMix}
use Rattle.cs_run.specs.Part.{AnswersPart}
use Rattle.cs_run.specs.Reasons.{Answers}
use Rattle.cs_run.specs.Replies.{putting}
use Rattle.cs_run.specs.Sim.{AnswersSim}
use Rattle.cs_run.specs.SimContext.{AnswersSimContext}
use Rattle.cs_run.specs.Slow.{AnswersSlow}
use Rattle.cs_run.specs.Upgrade.{AnswersUpgrade}

-- a command's function answers its inputs as all commands do
abbrev pub AnswersInputs : Command → List Input → Result Reply Stop → Type 0
AnswersInputs command inputs =
    Answers (λ reply. Makes command inputs reply × MakesRight command inputs) (Refuses command inputs)

of_variant : (command other : Command) (inputs : List Input) (result : Result Reply Stop) → command ≡ other → AnswersInputs other inputs result →
    AnswersInputs command inputs result
of_variant command other inputs result is answers = subst (λ c. AnswersInputs c inputs result) (sym is) answers

plain : (IsRight : Reply → Type 0) (P : Fault → Type 0) (result : Result Reply Stop) → Answers IsRight P result → Answers (λ reply. IsRight reply × ⊤) P result
plain IsRight P (Ok reply) right = (right, tt)
plain IsRight P (Err stop) stops = stops

pub slow_answers : (command : Command) (words : SlowWords) (inputs : List Input) (bytes : List ℕ) (images : Option (List ℕ))
    (result : Result Reply Stop) → command ≡ Slow words → bytes ≡ bytes_of In inputs → images ≡ found_bytes Images inputs →
    AnswersSlow words bytes images result → AnswersInputs command inputs result
slow_answers command words inputs bytes images result is read also answers =
    of_variant command (Slow words) inputs result is
    (subst (λ b. AnswersSlow words b (found_bytes Images inputs) result) read
    (subst (λ i. AnswersSlow words bytes i result) also answers))

pub sim_answers : (command : Command) (words : SimWords) (inputs : List Input) (bytes stim : List ℕ) (result : Result Reply Stop) → command ≡ Sim words →
    bytes ≡ bytes_of Net inputs → stim ≡ bytes_of Stim inputs → AnswersSim bytes stim result → AnswersInputs command inputs result
sim_answers command words inputs bytes stim result is read also answers =
    of_variant command (Sim words) inputs result is
    (plain _ _ result (subst (λ b. AnswersSim b (bytes_of Stim inputs) result) read (subst (λ s. AnswersSim bytes s result) also answers)))

pub sim_context_answers : (command : Command) (words : SimContextWords) (inputs : List Input) (bytes stim images : List ℕ)
    (result : Result Reply Stop) → command ≡ SimContext words → bytes ≡ bytes_of Net inputs → stim ≡ bytes_of Stim inputs →
    images ≡ bytes_of Images inputs → AnswersSimContext words bytes stim images result → AnswersInputs command inputs result
sim_context_answers command words inputs bytes stim images result is read also more answers =
    of_variant command (SimContext words) inputs result is
    (plain _ _ result
    (subst (λ b. AnswersSimContext words b (bytes_of Stim inputs) (bytes_of Images inputs) result) read
    (subst (λ s. AnswersSimContext words bytes s (bytes_of Images inputs) result) also
    (subst (λ i. AnswersSimContext words bytes stim i result) more answers))))

pub mix_answers : (command : Command) (words : MixWords) (inputs : List Input) (result : Result Reply Stop) → command ≡ Mix words →
    AnswersMix words (all_bytes inputs) result → AnswersInputs command inputs result
mix_answers command words inputs result is answers = of_variant command (Mix words) inputs result is answers

pub part_answers : (command : Command) (words : PartWords) (inputs : List Input) (bytes : List ℕ) (result : Result Reply Stop) → command ≡ Part words →
    bytes ≡ bytes_of File inputs → AnswersPart words bytes result → AnswersInputs command inputs result
part_answers command words inputs bytes result is read answers =
    of_variant command (Part words) inputs result is (plain _ _ result (subst (λ b. AnswersPart words b result) read answers))

pub upgrade_answers : (command : Command) (words : UpgradeWords) (inputs : List Input) (bytes : List ℕ) (result : Result Reply Stop) →
    command ≡ Upgrade words → bytes ≡ bytes_of Paper inputs → AnswersUpgrade words bytes result → AnswersInputs command inputs result
upgrade_answers command words inputs bytes result is read answers =
    of_variant command (Upgrade words) inputs result is (subst (λ b. AnswersUpgrade words b result) read answers)

-- `help` and `version` put their texts
pub help_answers : (command : Command) (inputs : List Input) (text : List ℕ) (result : Result Reply Stop) → command ≡ Help → text ≡ help_text →
    Answers (λ reply. reply ≡ putting text) (λ _. ⊥) result → AnswersInputs command inputs result
help_answers command inputs text result is put answers =
    of_variant command Help inputs result is (plain _ _ result (subst (λ t. Answers (λ reply. reply ≡ putting t) (λ _. ⊥) result) put answers))

pub version_answers : (command : Command) (inputs : List Input) (text : List ℕ) (result : Result Reply Stop) → command ≡ Version →
    text ≡ version_text → Answers (λ reply. reply ≡ putting text) (λ _. ⊥) result → AnswersInputs command inputs result
version_answers command inputs text result is put answers =
    of_variant command Version inputs result is (plain _ _ result (subst (λ t. Answers (λ reply. reply ≡ putting t) (λ _. ⊥) result) put answers))

-- ---- the number of streams

length-files_of : (role : Role) (names : List (List ℕ)) → length (files_of role names) ≡ length names
length-files_of role [] = refl
length-files_of role (name ∷ names) = let rest = length-files_of role names in omega (arith, rest)

pub mix_counts : (command : Command) (words : MixWords) (inputs : List Input) → command ≡ Mix words → IsWithin command →
    length inputs ≡ length (reads_of command) → (1 ≤ length inputs) × (length inputs ≤ 16)
mix_counts command words inputs is within all =
    let range : IsWithin (Mix words) = subst IsWithin is within in
    let count : length inputs ≡ length words.streams = all ∙ ap (λ c. length (reads_of c)) is ∙ length-files_of Stream words.streams in
    (omega (arith, count, range.0), omega (arith, count, range.1))
