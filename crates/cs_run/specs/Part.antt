-- `part`: what it makes of its file, and what stands afterwards.
use Rattle.std.specs.Prelude.{ℕ, ◌≡◌, List, [], ◌∷◌, Option, None, Result}
use Rattle.std.specs.List.{position_or_len}
use Rattle.cs_base.specs.Parts.{part}
use Rattle.cs_io.specs.Stores.{Files}
use Rattle.cs_report.specs.declared.fault.Fault.{Fault}
use Rattle.cs_stream.specs.declared.error.StimError.{StimError}
use Rattle.cs_stream.specs.Lines.{is_newline}
use Rattle.cs_stream.specs.Printing.{response_text}
use Rattle.cs_stream.specs.Reading.{fault_of as stimulus_fault, stimulus_rows}
use Rattle.cs_words.specs.declared.command.PartWords.{PartWords}
use Rattle.cs_run.specs.declared.reply.Reply.{Reply}
use Rattle.cs_run.specs.declared.stop.Stop.{Stop}
use Rattle.cs_run.specs.declared.inputs.FileName.{FileName}
use Rattle.cs_run.specs.declared.inputs.Role.TheVariants.{File}
use Rattle.cs_run.specs.Inputs.{file}
use Rattle.cs_run.specs.Reasons.{Answers, HasNoRows}
use Rattle.cs_run.specs.Replies.{putting}
use Rattle.cs_run.specs.Worlds.{FailsPutting, Holds, PutsOnly, World}

-- ---- bytes

-- the number of bytes of the first line
abbrev pub own_width : List ℕ → ℕ
own_width bytes = position_or_len is_newline bytes

-- the first fault of rows that are as wide as their first line
abbrev pub own_fault : List ℕ → Option StimError
own_fault bytes = stimulus_fault (own_width bytes) bytes

-- the text of the rows whose place is k modulo c, of those that the bytes say
pub record IsPart (k c : ℕ) (bytes text : List ℕ) : Type 0 where
  pub faultless : own_fault bytes ≡ None
  pub is : text ≡ response_text (part k c (stimulus_rows bytes))

-- the part is put
pub record MakesPart (words : PartWords) (bytes : List ℕ) (reply : Reply) : Type 0 where
  pub text : List ℕ
  pub parts : IsPart words.k words.contexts bytes text
  pub is : reply ≡ putting text

-- the file is refused because of this fault
abbrev pub RefusesPart : List ℕ → Fault → Type 0
RefusesPart bytes fault = HasNoRows (own_fault bytes) fault

abbrev pub AnswersPart : PartWords → List ℕ → Result Reply Stop → Type 0
AnswersPart words bytes = Answers (MakesPart words bytes) (RefusesPart bytes)

-- ---- files

abbrev pub part_reads : PartWords → List FileName
part_reads words = file File words.file ∷ []

-- ---- what stands afterwards

-- `part` read its file, and goes on to put this text
pub record Parts (files : Option Files) (part : PartWords) (text : List ℕ) : Type 0 where
  pub bytes : List ℕ
  pub file : Holds files part.file bytes
  pub parts : IsPart part.k part.contexts bytes text

-- status 0: the part is put
pub record HasParted (part : PartWords) (old new : World) : Type 0 where
  pub text : List ℕ
  pub of_file : Parts old.store.files part text
  pub puts : PutsOnly old new text

-- status 4: the put of the part failed
pub record CouldNotPutPart (part : PartWords) (old new : World) : Type 0 where
  pub text : List ℕ
  pub of_file : Parts old.store.files part text
  pub fails : FailsPutting old new text
