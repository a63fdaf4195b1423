-- `sim-context`: what it makes of NET, STIM and IMAGES, and what stands afterwards.
use Rattle.std.specs.Prelude.{ℕ, ◌≡◌, ◌⊎◌, List, [], ◌∷◌, Option, Result}
use Rattle.cs_images.specs.Said.{Says, images_in}
use Rattle.cs_io.specs.Stores.{Files}
use Rattle.cs_net.specs.declared.images.Images.{Images}
use Rattle.cs_net.specs.Contexts.{of_context}
use Rattle.cs_net.specs.Netlist.{Net}
use Rattle.cs_report.specs.declared.fault.Fault.{Fault}
use Rattle.cs_words.specs.declared.command.SimContextWords.{SimContextWords}
use Rattle.cs_run.specs.declared.inputs.FileName.{FileName}
use Rattle.cs_run.specs.declared.inputs.Role.TheVariants.{Images as ImagesRole, Net as NetRole, Stim}
use Rattle.cs_run.specs.declared.reply.Reply.{Reply}
use Rattle.cs_run.specs.declared.stop.Stop.{Stop}
use Rattle.cs_run.specs.Bytes.{IsNetlistOf, SaysNoNetlist}
use Rattle.cs_run.specs.Inputs.{file}
use Rattle.cs_run.specs.Reasons.{Answers}
use Rattle.cs_run.specs.Starts.{SaysNoImages}
use Rattle.cs_run.specs.Sim.{HasNoStimulus, IsAnswered, PutsAnswer}
use Rattle.cs_run.specs.Worlds.{FailsPutting, Holds, PutsOnly, World}

-- ---- a netlist

-- the netlist with the starts of context K, by the images that IMAGES says
pub record IsOfContext (words : SimContextWords) (net : Net) (images : List ℕ) (made : Net) : Type 0 where
  pub starts : Images
  pub says : images_in net words.contexts images ≡ Says starts
  pub is : made ≡ of_context net starts words.k

-- the answer of the netlist of context K is put
pub record PutsContext (words : SimContextWords) (net : Net) (stim images : List ℕ) (reply : Reply) : Type 0 where
  pub own : Net
  pub of_context : IsOfContext words net images own
  pub puts : PutsAnswer own stim reply

-- STIM says no rows of the netlist of context K
pub record HasNoContextRows (words : SimContextWords) (net : Net) (stim images : List ℕ) (fault : Fault) : Type 0 where
  pub own : Net
  pub of_context : IsOfContext words net images own
  pub no_rows : HasNoStimulus own stim fault

-- a netlist is refused with its images and rows because of this fault
abbrev pub RefusesContext : SimContextWords → Net → List ℕ → List ℕ → Fault → Type 0
RefusesContext words net stim images fault =
    SaysNoImages words.contexts net images fault ⊎ HasNoContextRows words net stim images fault

-- ---- bytes

-- the text of the one answer of the netlist of NET, from the start of context K, to the rows of STIM
pub record IsContextResponse (words : SimContextWords) (bytes stim images text : List ℕ) : Type 0 where
  pub net : Net
  pub of_net : IsNetlistOf bytes net
  pub own : Net
  pub of_context : IsOfContext words net images own
  pub answered : IsAnswered own stim text

-- it is put
pub record MakesSimContext (words : SimContextWords) (bytes stim images : List ℕ) (reply : Reply) : Type 0 where
  pub net : Net
  pub of_net : IsNetlistOf bytes net
  pub puts : PutsContext words net stim images reply

-- the netlist of NET is refused with its images and rows
pub record RefusesNet (words : SimContextWords) (bytes stim images : List ℕ) (fault : Fault) : Type 0 where
  pub net : Net
  pub of_net : IsNetlistOf bytes net
  pub refuses : RefusesContext words net stim images fault

-- the files are refused because of this fault
abbrev pub RefusesSimContext : SimContextWords → List ℕ → List ℕ → List ℕ → Fault → Type 0
RefusesSimContext words bytes stim images fault = SaysNoNetlist bytes fault ⊎ RefusesNet words bytes stim images fault

abbrev pub AnswersSimContext : SimContextWords → List ℕ → List ℕ → List ℕ → Result Reply Stop → Type 0
AnswersSimContext words bytes stim images =
    Answers (MakesSimContext words bytes stim images) (RefusesSimContext words bytes stim images)

-- ---- files

abbrev pub sim_context_reads : SimContextWords → List FileName
sim_context_reads words = file NetRole words.net ∷ file Stim words.stim ∷ file ImagesRole words.images ∷ []

-- ---- what stands afterwards

-- `sim-context` read NET, STIM and IMAGES, and goes on to put this text
pub record RespondsContext (files : Option Files) (sim : SimContextWords) (text : List ℕ) : Type 0 where
  pub bytes : List ℕ
  pub stim : List ℕ
  pub images : List ℕ
  pub net_file : Holds files sim.net bytes
  pub stim_file : Holds files sim.stim stim
  pub images_file : Holds files sim.images images
  pub is : IsContextResponse sim bytes stim images text

-- status 0: the response is put
pub record HasRespondedContext (sim : SimContextWords) (old new : World) : Type 0 where
  pub text : List ℕ
  pub responds : RespondsContext old.store.files sim text
  pub puts : PutsOnly old new text

-- status 4: the put of the response failed
pub record CouldNotRespondContext (sim : SimContextWords) (old new : World) : Type 0 where
  pub text : List ℕ
  pub responds : RespondsContext old.store.files sim text
  pub fails : FailsPutting old new text
