-- `sim`: what it makes of NET and STIM, and what stands afterwards.
use Rattle.std.specs.Prelude.{ℕ, ◌≡◌, ◌⊎◌, List, [], ◌∷◌, length, None, Option, Result}
use Rattle.cs_io.specs.Stores.{Files}
use Rattle.cs_net.specs.Drivers.{data_inputs, own_start}
use Rattle.cs_net.specs.Netlist.{Net, state_of}
use Rattle.cs_net.specs.Trace.{Answers as AnswersRows, Row}
use Rattle.cs_report.specs.declared.fault.Fault.{Fault}
use Rattle.cs_stream.specs.Printing.{response_text}
use Rattle.cs_stream.specs.Reading.{fault_of as stimulus_fault, stimulus_rows}
use Rattle.cs_words.specs.declared.command.SimWords.{SimWords}
use Rattle.cs_run.specs.declared.inputs.FileName.{FileName}
use Rattle.cs_run.specs.declared.inputs.Role.TheVariants.{Net as NetRole, Stim}
use Rattle.cs_run.specs.declared.reply.Reply.{Reply}
use Rattle.cs_run.specs.declared.stop.Stop.{Stop}
use Rattle.cs_run.specs.Bytes.{IsNetlistOf, SaysNoNetlist}
use Rattle.cs_run.specs.Inputs.{file}
use Rattle.cs_run.specs.Reasons.{Answers, HasNoRows}
use Rattle.cs_run.specs.Replies.{putting}
use Rattle.cs_run.specs.Worlds.{FailsPutting, Holds, PutsOnly, World}

-- ---- a netlist

-- the text of the one answer of a netlist, from its own start, to the rows that STIM says
pub record IsAnswered (net : Net) (stim text : List ℕ) : Type 0 where
  pub faultless : stimulus_fault (length (data_inputs net)) stim ≡ None
  pub rows : List Row
  pub answers : AnswersRows net (state_of (own_start net)) (stimulus_rows stim) rows
  pub only : (other : List Row) → AnswersRows net (state_of (own_start net)) (stimulus_rows stim) other → other ≡ rows
  pub is : text ≡ response_text rows

-- that text is put
pub record PutsAnswer (net : Net) (stim : List ℕ) (reply : Reply) : Type 0 where
  pub text : List ℕ
  pub answered : IsAnswered net stim text
  pub is : reply ≡ putting text

-- STIM says no rows of a netlist
abbrev pub HasNoStimulus : Net → List ℕ → Fault → Type 0
HasNoStimulus net stim fault = HasNoRows (stimulus_fault (length (data_inputs net)) stim) fault

-- ---- bytes

-- the same of the netlist of NET
pub record IsResponse (bytes stim text : List ℕ) : Type 0 where
  pub net : Net
  pub of_net : IsNetlistOf bytes net
  pub answered : IsAnswered net stim text

-- the response is put
pub record MakesSim (bytes stim : List ℕ) (reply : Reply) : Type 0 where
  pub net : Net
  pub of_net : IsNetlistOf bytes net
  pub puts : PutsAnswer net stim reply

-- STIM says no rows of the netlist of NET
pub record SaysNoStimulus (bytes stim : List ℕ) (fault : Fault) : Type 0 where
  pub net : Net
  pub of_net : IsNetlistOf bytes net
  pub no_rows : HasNoStimulus net stim fault

-- the files are refused because of this fault
abbrev pub RefusesSim : List ℕ → List ℕ → Fault → Type 0
RefusesSim bytes stim fault = SaysNoNetlist bytes fault ⊎ SaysNoStimulus bytes stim fault

abbrev pub AnswersSim : List ℕ → List ℕ → Result Reply Stop → Type 0
AnswersSim bytes stim = Answers (MakesSim bytes stim) (RefusesSim bytes stim)

-- ---- files

abbrev pub sim_reads : SimWords → List FileName
sim_reads words = file NetRole words.net ∷ file Stim words.stim ∷ []

-- ---- what stands afterwards

-- `sim` read NET and STIM, and goes on to put this text
pub record Responds (files : Option Files) (sim : SimWords) (text : List ℕ) : Type 0 where
  pub bytes : List ℕ
  pub stim : List ℕ
  pub net_file : Holds files sim.net bytes
  pub stim_file : Holds files sim.stim stim
  pub is : IsResponse bytes stim text

-- status 0: the response is put
pub record HasResponded (sim : SimWords) (old new : World) : Type 0 where
  pub text : List ℕ
  pub responds : Responds old.store.files sim text
  pub puts : PutsOnly old new text

-- status 4: the put of the response failed
pub record CouldNotRespond (sim : SimWords) (old new : World) : Type 0 where
  pub text : List ℕ
  pub responds : Responds old.store.files sim text
  pub fails : FailsPutting old new text
