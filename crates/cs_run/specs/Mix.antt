-- `mix`: what it makes of its streams, and what stands afterwards.
use Rattle.std.specs.Prelude.{ℕ, ◌≡◌, ◌<◌, ◌≤◌, ⊤, Bool, List, [], ◌∷◌, length, map, slice_index_or, Option, None, Result}
use Rattle.std.specs.Option.{option_map, option_or}
use Rattle.cs_io.specs.Stores.{Files, FileHas, FailsToWrite}
use Rattle.cs_report.specs.declared.fault.Fault.{Fault}
use Rattle.cs_report.specs.declared.fault.Fault.TheVariants.{CannotWrite}
use Rattle.cs_report.specs.FaultLines.{fault_line}
use Rattle.cs_stream.specs.declared.error.StimError.{StimError}
use Rattle.cs_stream.specs.declared.error.StimError.TheVariants.{Uneven}
use Rattle.cs_stream.specs.declared.stimulus.Stimulus.{Stimulus}
use Rattle.cs_stream.specs.Rows.{rows_of}
use Rattle.cs_base.specs.Parts.{part}
use Rattle.cs_stream.specs.Mixing.{first_uneven, mixed_rows}
use Rattle.cs_stream.specs.Printing.{response_text}
use Rattle.cs_stream.specs.Reading.{fault_of as stimulus_fault, stimulus_rows}
use Rattle.cs_words.specs.declared.command.MixWords.{MixWords}
use Rattle.cs_run.specs.declared.reply.Reply.{Reply}
use Rattle.cs_run.specs.Part.{own_width, IsPart}
use Rattle.cs_run.specs.declared.stop.Stop.{Stop}
use Rattle.cs_run.specs.declared.inputs.FileName.{FileName}
use Rattle.cs_run.specs.declared.inputs.Role.TheVariants.{Stream}
use Rattle.cs_run.specs.Inputs.{files_of, most_bytes}
use Rattle.cs_run.specs.Reasons.{Answers, HasNoRows}
use Rattle.cs_run.specs.Replies.{writing}
use Rattle.cs_run.specs.Worlds.{PutsSome, World, WritesOne}

-- ---- bytes

-- the width of the first stream
abbrev pub first_width : List (List ℕ) → ℕ
first_width [] = 0
first_width (bytes ∷ streams) = own_width bytes

-- the fault of the first faulty stream
abbrev pub stream_fault : ℕ → List (List ℕ) → Option StimError
stream_fault width [] = None
stream_fault width (bytes ∷ streams) = option_or (stimulus_fault width bytes) (stream_fault width streams)

-- the rows of each stream
abbrev pub stream_rows : List (List ℕ) → List (List (List Bool))
stream_rows streams = map stimulus_rows streams

-- the first stream that has another number of rows than its turns
abbrev pub uneven_streams : List (List ℕ) → Option StimError
uneven_streams streams = option_map (λ k. Uneven k) (first_uneven (map (λ rows. length rows) (stream_rows streams)))

-- why streams can't be mixed: a faulty one, or else an uneven one
abbrev pub mix_fault : List (List ℕ) → Option StimError
mix_fault streams = option_or (stream_fault (first_width streams) streams) (uneven_streams streams)

-- the text of the rows of the streams in turn
pub record IsMixed (streams : List (List ℕ)) (text : List ℕ) : Type 0 where
  pub faultless : mix_fault streams ≡ None
  pub is : text ≡ response_text (mixed_rows (stream_rows streams))

-- of a text that is mixed, `part` makes for each context the text of its stream's rows
abbrev pub PartsGiveBack : List (List ℕ) → List ℕ → Type 0
PartsGiveBack streams text =
    (k : ℕ) → k < length streams → IsPart k (length streams) text (response_text (stimulus_rows (slice_index_or streams k [])))

abbrev pub MixesGiveBack : List (List ℕ) → Type 0
MixesGiveBack streams = (text : List ℕ) → IsMixed streams text → PartsGiveBack streams text

-- OUT is written, or the line names it
pub record MakesMix (words : MixWords) (streams : List (List ℕ)) (reply : Reply) : Type 0 where
  pub text : List ℕ
  pub mixed : IsMixed streams text
  pub is : reply ≡ writing words.output text (fault_line (CannotWrite words.output))

-- the streams are refused because of this fault
abbrev pub RefusesMix : List (List ℕ) → Fault → Type 0
RefusesMix streams fault = HasNoRows (mix_fault streams) fault

abbrev pub AnswersMix : MixWords → List (List ℕ) → Result Reply Stop → Type 0
AnswersMix words streams = Answers (λ reply. MakesMix words streams reply × MixesGiveBack streams) (RefusesMix streams)

-- these are the rows of the streams in turn, and their parts are the streams' rows
pub record IsMixOf (streams : List (List ℕ)) (rows : Stimulus) : Type 0 where
  pub faultless : mix_fault streams ≡ None
  pub are : rows_of rows ≡ mixed_rows (stream_rows streams)
  pub parts : (k : ℕ) → k < length streams
      → part k (length streams) (rows_of rows) ≡ stimulus_rows (slice_index_or streams k [])

-- ---- files

abbrev pub mix_reads : MixWords → List FileName
mix_reads words = files_of Stream words.streams

-- ---- what stands afterwards

-- each of these streams has these bytes, and not too many
abbrev pub StreamsHave : Option Files → List (List ℕ) → List (List ℕ) → Type 0
StreamsHave files [] [] = ⊤
StreamsHave files [] (bytes ∷ streams) = ⊥
StreamsHave files (name ∷ names) [] = ⊥
StreamsHave files (name ∷ names) (bytes ∷ streams) =
    FileHas files name (λ found. found ≡ bytes) × (length bytes ≤ most_bytes) × StreamsHave files names streams

-- `mix` read its streams, and goes on to write this text
pub record Mixes (files : Option Files) (mix : MixWords) (text : List ℕ) : Type 0 where
  pub streams : List (List ℕ)
  pub have : StreamsHave files mix.streams streams
  pub mixed : IsMixed streams text
  pub back : PartsGiveBack streams text

-- status 0: OUT holds the mixed rows, every other file is as before, and nothing was put
pub record HasMixed (mix : MixWords) (old new : World) : Type 0 where
  pub text : List ℕ
  pub mixes : Mixes old.store.files mix text
  pub writes : WritesOne old new mix.output text

-- status 4: the write of OUT failed, so its count rose and OUT is as before or holds a prefix; the line names it
pub record CouldNotWriteMixed (mix : MixWords) (old new : World) : Type 0 where
  pub text : List ℕ
  pub mixes : Mixes old.store.files mix text
  pub store : FailsToWrite old.store new.store mix.output text
  pub sink : PutsSome old.sink new.sink (fault_line (CannotWrite mix.output))
