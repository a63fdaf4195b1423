-- `mix`: one answer, and what stands afterwards.
use Rattle.std.proofs.Common.{◌≡◌, ◌∙◌, ℕ, List, [], ◌∷◌, Option, None, Some, ap, arith, refl, subst, sym}
use Rattle.std.specs.Prelude.{IsSome}
use Rattle.std.specs.FinMap.{get}
use Rattle.cs_io.specs.Stores.{Files, StoreState}
use Rattle.cs_report.specs.declared.fault.Fault.{Fault}
use Rattle.cs_report.specs.declared.fault.Fault.TheVariants.{CannotWrite}
use Rattle.cs_report.specs.FaultLines.{fault_line}
use Rattle.cs_words.specs.declared.command.Command.TheVariants.{Mix}
use Rattle.cs_words.specs.declared.command.MixWords.{MixWords}
use Rattle.cs_run.specs.declared.inputs.Input.{Input}
use Rattle.cs_run.specs.declared.inputs.Role.TheVariants.{Stream}
use Rattle.cs_run.specs.declared.reply.Reply.{Reply}
use Rattle.cs_run.specs.Inputs.{FilesHave, all_bytes, files_of}
use Rattle.cs_run.specs.Mix.{CouldNotWriteMixed, HasMixed, MakesMix, Mixes, PartsGiveBack, RefusesMix, StreamsHave, mix_fault}
use Rattle.cs_run.specs.Promises.{HasStreams}
use Rattle.cs_run.specs.Reasons.{Reason}
use Rattle.cs_run.specs.Runs.{HasAnswer, Run}
use Rattle.cs_run.specs.Statuses.{status_of}
use Rattle.cs_run.specs.Worlds.{World, file_in}
use Rattle.cs_run.proofs.Ends.{Finished, Unfinished}
use Rattle.cs_run.proofs.InputLemmas.{one_found}
use Rattle.cs_run.proofs.ReasonLemmas.{has_rows, rows_status}
use Rattle.cs_run.proofs.WorldLemmas.{AreNamed, told_here, unwritten_one, wrote_one}

-- ---- one answer

pub mix_apart : (words : MixWords) (streams : List (List ℕ)) (reply : Reply) (fault : Fault) → MakesMix words streams reply → RefusesMix streams fault → ⊥
mix_apart words streams reply fault makes refuses = has_rows (mix_fault streams) fault makes.mixed.faultless refuses

pub mix_status : (streams : List (List ℕ)) (a b : Reason) → RefusesMix streams a.fault → RefusesMix streams b.fault → status_of a.fault ≡ status_of b.fault
mix_status streams a b h k = rows_status (mix_fault streams) a h ∙ sym (rows_status (mix_fault streams) b k)

pub mix_names : (words : MixWords) (streams : List (List ℕ)) (reply : Reply) → MakesMix words streams reply → AreNamed (words.output ∷ []) reply.writes
mix_names words streams reply makes =
    subst (λ (r : Reply). AreNamed (words.output ∷ []) r.writes) (sym makes.is) ((0, omega arith, refl), tt)

-- ---- streams

-- the files of the streams have the bytes of all inputs
streams_have : (files : Option Files) (names : List (List ℕ)) (inputs : List Input) → FilesHave files (files_of Stream names) inputs →
    StreamsHave files names (all_bytes inputs)
streams_have files [] [] have = tt
streams_have files [] (input ∷ inputs) have = absurd have
streams_have files (name ∷ names) [] have = absurd have
streams_have files (name ∷ names) (input ∷ inputs) have = (have.1, have.2, streams_have files names inputs have.3)

one_told : (told : Files) (names streams others : List (List ℕ)) → StreamsHave (Some told) names streams → StreamsHave (Some told) names others →
    streams ≡ others
one_told told [] [] [] h k = refl
one_told told [] [] (other ∷ others) h k = absurd k
one_told told [] (bytes ∷ streams) others h k = absurd h
one_told told (name ∷ names) [] others h k = absurd h
one_told told (name ∷ names) (bytes ∷ streams) [] h k = absurd k
one_told told (name ∷ names) (bytes ∷ streams) (other ∷ others) h k =
    let same : bytes ≡ other = one_found (get told name) bytes other h.0 k.0 in
    let rest : streams ≡ others = one_told told names streams others h.2 k.2 in cc

one_streams : (files : Option Files) (names streams others : List (List ℕ)) → IsSome files → StreamsHave files names streams →
    StreamsHave files names others → streams ≡ others
one_streams None names streams others told h k = absurd (cc)
one_streams (Some files) names streams others told h k = one_told files names streams others h k

-- ---- what stands afterwards

mixes : (mix : MixWords) (old : World) (reply : Reply) (answer : HasAnswer (Mix mix) old.store reply) →
    Mixes old.store.files mix answer.holds.0.text
mixes mix old reply answer = record {
  streams = all_bytes answer.inputs;
  have = streams_have old.store.files mix.streams answer.inputs answer.have;
  mixed = answer.holds.0.mixed;
  back = answer.holds.1 answer.holds.0.text answer.holds.0.mixed;
}

pub mix_done : (mix : MixWords) (old new : World) → Finished (Mix mix) old new → HasMixed mix old new
mix_done mix old new f =
    let makes = f.answer.holds.0 in
    let left = wrote_one old new f.reply mix.output makes.text (fault_line (CannotWrite mix.output)) makes.is f.store f.sink in
    record { text = makes.text; mixes = mixes mix old f.reply f.answer; writes = record { store = left.0; sink = left.1 } }

pub mix_unwritten : (mix : MixWords) (old new : World) → Unfinished (Mix mix) old new → CouldNotWriteMixed mix old new
mix_unwritten mix old new f =
    let makes = f.answer.holds.0 in
    let left = unwritten_one old new f.reply mix.output makes.text (fault_line (CannotWrite mix.output)) makes.is f.stops in
    record { text = makes.text; mixes = mixes mix old f.reply f.answer; store = left.0; sink = left.1 }

-- ---- what OUT holds

pub mix_parts_back : (run : Run) (mix : MixWords) (streams : List (List ℕ)) (text : List ℕ) → HasStreams run mix streams → HasMixed mix run.old run.new →
    file_in run.new.store.files mix.output ≡ Some (Some text) → PartsGiveBack streams text
mix_parts_back run mix streams text has did holds =
    let files = run.old.store.files in
    let same : did.mixes.streams ≡ streams = one_streams files mix.streams did.mixes.streams streams has.told did.mixes.have has.have in
    let written : file_in run.new.store.files mix.output ≡ Some (Some did.text) =
    ap (λ (s : StoreState). file_in s.files mix.output) did.writes.store ∙ told_here files mix.output did.text has.told in
    let there : Some (Some did.text) ≡ Some (Some text) = sym written ∙ holds in
    let one : did.text ≡ text = cc in
    subst (λ t. PartsGiveBack streams t) one (subst (λ s. PartsGiveBack s did.text) same did.mixes.back)
